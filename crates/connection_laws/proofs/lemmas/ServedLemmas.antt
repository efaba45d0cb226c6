-- The run of a connection's server: each reply but the last is a challenge.
use Rattle.std.proofs.Common.{◌≡◌, ◌≢◌, ◌∙◌, ◌+◌, ◌≤◌, ℕ, Option, Some, None, List, [], ◌∷◌, length, ap, sym, subst, refl, inl, inr, Result, Ok}
use Rattle.fe2o3_sasl_wire.specs.SaslFrames as frames
use Rattle.fe2o3_sasl_wire.specs.SaslFrames.{SaslFrame, canonical}
use Rattle.fe2o3_sasl_wire.specs.declared.amqp_types.SaslCode.{SaslCode}
use Rattle.fe2o3_sasl_wire.specs.declared.amqp_types.SaslCode.TheVariants as outcomes
use Rattle.fe2o3_sasl_wire.specs.declared.sasl_frames.error.Error.{Error}
use Rattle.fe2o3_sasl_wire.specs.declared.sasl_frames.error.Error.TheVariants as faults
use Rattle.fe2o3_sasl_core.specs.AnyMechanismLaws.{Machine}
use Rattle.fe2o3_sasl_core.specs.Bodies.{SpellsBody, server_says}
use Rattle.fe2o3_sasl_core.specs.Events.{Given, ServerSays, Challenged, Concluded, Failed}
use Rattle.fe2o3_sasl_core.specs.Runs.{Runs, AcceptorSteps, AcceptorAnswers, AcceptorGives, SendsCanonical}
use Rattle.fe2o3_sasl_core.proofs.lemmas.frames.SpellingLemmas.{one_spelling}
use Rattle.fe2o3_sasl_negotiation.specs.declared.progress.FrameKind.{FrameKind}
use Rattle.fe2o3_sasl_negotiation.specs.declared.progress.FrameKind.TheVariants as turns
use Rattle.fe2o3_sasl_negotiation.specs.Connections.{LastReply, SpellsTurn, Replied}
use Rattle.fe2o3_sasl_negotiation.specs.FrameSizes.{CanBeSent}
use Rattle.fe2o3_sasl_negotiation.specs.Negotiations.{SideOutput}
use Rattle.fe2o3_sasl_negotiation.specs.ServerNegotiation.{ServerOutputs, server_follows}
use Rattle.fe2o3_sasl_negotiation.proofs.lemmas.ChallengeLemmas.{waits_after_challenge}

-- ---- a frame in turn

-- an init
abbrev pub IsInitBody : List ℕ → Type 0
IsInitBody body = (name : List ℕ) × (response : Option (List ℕ)) × (hostname : Option (List ℕ))
    × SpellsBody body (Ok (frames.Init name response hostname))

-- a frame that is expected as an init spells one
pub init_of : (body : List ℕ) → SpellsTurn turns.Init body → IsInitBody body
init_of body (frames.Init name response hostname, spells, in_turn) = (name, response, hostname, spells)
init_of body (frames.Response text, spells, in_turn) = absurd in_turn
init_of body (frames.Mechanisms names, spells, in_turn) = absurd in_turn
init_of body (frames.Challenge text, spells, in_turn) = absurd in_turn
init_of body (frames.Outcome code more, spells, in_turn) = absurd in_turn

-- ---- a step

-- memory did not run out
abbrev pub HasMemory : ServerSays → Type 0
HasMemory says = says ≢ Failed faults.OutOfMemory

-- what a machine replied, and how it was sent
pub record Stepped {S : Type 0} (machine : Machine S) (state next : S) (nonce : List ℕ) (frame : SaslFrame)
    (says : ServerSays) : Type 0 where
  pub reply : SaslFrame
  pub moved : S
  pub by : machine state nonce frame reply moved
  pub sends : SendsCanonical (Failed faults.TooLarge) (server_says reply) (canonical reply) state moved says next

module _ {S : Type 0} (machine : Machine S) where
  gives : (state next : S) (event : Given) (says : ServerSays) (frame : SaslFrame) → SpellsBody event.body (Ok frame)
      → AcceptorSteps machine state event says next → AcceptorGives machine state event (Ok frame) says next
  gives state next event says frame spells (spelled, read, given) =
      subst (λ (s : Result SaslFrame Error). AcceptorGives machine state event s says next)
      (one_spelling event.body spelled (Ok frame) read spells) given

  answered : (state next : S) (nonce : List ℕ) (frame : SaslFrame) (says : ServerSays) → HasMemory says
      → AcceptorAnswers machine state nonce frame says next → Stepped machine state next nonce frame says
  answered state next nonce frame says memory (inl wants) = absurd (memory wants.0)
  answered state next nonce frame says memory (inr (reply, moved, by, sends)) =
      record { reply = reply; moved = moved; by = by; sends = sends }

  pub init_step : (state next : S) (event : Given) (says : ServerSays) (name : List ℕ)
      (response hostname : Option (List ℕ)) → SpellsBody event.body (Ok (frames.Init name response hostname))
      → HasMemory says → AcceptorSteps machine state event says next
      → Stepped machine state next event.nonce (frames.Init name response hostname) says
  init_step state next event says name response hostname spells memory step =
      answered state next event.nonce (frames.Init name response hostname) says memory
      (gives state next event says (frames.Init name response hostname) spells step)

  pub response_step : (state next : S) (event : Given) (says : ServerSays) (text : List ℕ)
      → SpellsBody event.body (Ok (frames.Response text)) → HasMemory says → AcceptorSteps machine state event says next
      → Stepped machine state next event.nonce (frames.Response text) says
  response_step state next event says text spells memory step =
      answered state next event.nonce (frames.Response text) says memory
      (gives state next event says (frames.Response text) spells step)

-- a reply that was sent as a challenge is no outcome, and the state has moved
pub sent_challenge : {S : Type 0} (reply : SaslFrame) (written : Option (List ℕ)) (state moved next : S) (body : List ℕ)
    → SendsCanonical (Failed faults.TooLarge) (server_says reply) written state moved (Challenged body) next
    → next ≡ moved
sent_challenge reply None state moved next body said = let no = said.0 in absurd (cc)
sent_challenge reply (Some out) state moved next body said = said.1

pub sent_no_outcome : {S : Type 0} (reply : SaslFrame) (code : SaslCode) (more written : Option (List ℕ))
    (state moved next : S) (body : List ℕ) → reply ≡ frames.Outcome code more
    → ¬ SendsCanonical (Failed faults.TooLarge) (server_says reply) written state moved (Challenged body) next
sent_no_outcome reply code more None state moved next body is said = let no = said.0 in absurd (cc)
sent_no_outcome reply code more (Some out) state moved next body is said =
    let no : Challenged body ≡ Concluded code out = said.0 ∙ ap (λ (r : SaslFrame). server_says r out) is in absurd (cc)

-- an outcome that fits was sent, and the state has moved
pub sent_outcome : {S : Type 0} (reply : SaslFrame) (code : SaslCode) (more : Option (List ℕ)) (state moved next : S)
    (says : ServerSays) → reply ≡ frames.Outcome code more → CanBeSent (frames.Outcome code more)
    → SendsCanonical (Failed faults.TooLarge) (server_says reply) (canonical reply) state moved says next
    → ((body : List ℕ) × (says ≡ Concluded code body) × (length body + 4 ≤ 512)) × (next ≡ moved)
sent_outcome {S} reply code more state moved next says is (body, some, fits) said =
    let own = subst (λ (r : SaslFrame). SendsCanonical (Failed faults.TooLarge) (server_says r) (canonical r) state moved
    says next) is said in
    let at = subst (λ (w : Option (List ℕ)). SendsCanonical (Failed faults.TooLarge) (server_says (frames.Outcome code more)) w
    state moved says next) some own in
    ((body, at.0, fits), at.1)

-- ---- a run

-- a run whose replies are sent, each but the last a challenge
abbrev pub Served : {S : Type 0} → Machine S → S → List Given → List ServerSays → S → Type 0
Served machine state [] replies last = (replies ≡ []) × (last ≡ state)
Served machine state (event ∷ []) replies last = (says : ServerSays) × HasMemory says × (replies ≡ says ∷ [])
    × AcceptorSteps machine state event says last
Served {S} machine state (event ∷ second ∷ events) replies last = (body : List ℕ) × (next : S)
    × (others : List ServerSays) × (replies ≡ Challenged body ∷ others)
    × AcceptorSteps machine state event (Challenged body) next × Served machine next (second ∷ events) others last

has_memory : (says : ServerSays) (turn : FrameKind) (answer : SideOutput) → ServerOutputs says turn answer → HasMemory says
has_memory says turn answer said wants = subst (λ (s : ServerSays). ServerOutputs s turn answer) wants said

pub served : {S : Type 0} (machine : Machine S) (turn : FrameKind) (events : List Given) (replies : List ServerSays)
    (answer : SideOutput) (state last : S) → Runs (AcceptorSteps machine) state events replies last
    → Replied ServerOutputs server_follows turn replies answer → Served machine state events replies last
served machine turn [] replies answer state last run replied = run
served {S} machine turn (event ∷ []) replies answer state last (says, next, none, step, is, (empty, end)) replied =
    let all : replies ≡ says ∷ [] = is ∙ ap (λ (l : List ServerSays). says ∷ l) empty in (
      says,
      has_memory says turn answer
          (subst (λ (l : List ServerSays). Replied ServerOutputs server_follows turn l answer) all replied),
      all,
      subst (λ (s : S). AcceptorSteps machine state event says s) (sym end) step,
    )
served {S} machine turn (event ∷ second ∷ events) replies answer state last
    (says, mid, more, step, is, (then, next, others, step_then, is_then, run)) replied =
    let all : replies ≡ says ∷ then ∷ others = is ∙ ap (λ (l : List ServerSays). says ∷ l) is_then in
    let (first, rest, said, waits, replied_then, _) =
    subst (λ (l : List ServerSays). Replied ServerOutputs server_follows turn l answer) all replied in
    let (body, same, sends) = waits_after_challenge says turn first said waits in (
      body,
      mid,
      then ∷ others,
      all ∙ ap (λ (s : ServerSays). s ∷ then ∷ others) same,
      subst (λ (s : ServerSays). AcceptorSteps machine state event s mid) same step,
      served machine (server_follows turn) (second ∷ events) (then ∷ others) rest mid last
          (then, next, others, step_then, refl, run) replied_then,
    )

-- a run of some frames has some replies
pub served_some : {S : Type 0} (machine : Machine S) (state last : S) (event : Given) (events : List Given)
    (replies : List ServerSays) → Served machine state (event ∷ events) replies last
    → (says : ServerSays) × (others : List ServerSays) × (replies ≡ says ∷ others)
served_some machine state last event [] replies (says, memory, all, step) = (says, [], all)
served_some machine state last event (second ∷ events) replies (body, next, others, all, step, run) =
    (Challenged body, others, all)

-- of two replies and more, the last is that of the later ones
pub last_later : (Is : ServerSays → Type 0) (first : ServerSays) (replies others : List ServerSays)
    → replies ≡ first ∷ others → (says : ServerSays) × (more : List ServerSays) × (others ≡ says ∷ more)
    → LastReply Is replies → LastReply Is others
last_later Is first replies others all (says, more, some) last =
    subst (λ (l : List ServerSays). LastReply Is l) (sym some)
    (subst (λ (l : List ServerSays). LastReply Is l) (all ∙ ap (λ (l : List ServerSays). first ∷ l) some) last)

pub later_last : (Is : ServerSays → Type 0) (first : ServerSays) (replies others : List ServerSays)
    → replies ≡ first ∷ others → (says : ServerSays) × (more : List ServerSays) × (others ≡ says ∷ more)
    → LastReply Is others → LastReply Is replies
later_last Is first replies others all (says, more, some) last =
    subst (λ (l : List ServerSays). LastReply Is l) (sym (all ∙ ap (λ (l : List ServerSays). first ∷ l) some))
    (subst (λ (l : List ServerSays). LastReply Is l) some last)

-- an Ok was sent for an outcome Ok only
pub sent_no_ok : {S : Type 0} (reply other : SaslFrame) (written : Option (List ℕ)) (state moved next : S) (body : List ℕ)
    → reply ≡ other → ((out : List ℕ) → Concluded outcomes.Ok body ≢ server_says other out)
    → ¬ SendsCanonical (Failed faults.TooLarge) (server_says reply) written state moved (Concluded outcomes.Ok body) next
sent_no_ok reply other None state moved next body is none said = let no = said.0 in absurd (cc)
sent_no_ok reply other (Some out) state moved next body is none said =
    none out (said.0 ∙ ap (λ (r : SaslFrame). server_says r out) is)
