-- What a server sends where it waits, and how many frames one of SCRAM, PLAIN or ANONYMOUS answers.
use Rattle.std.proofs.Common.{◌≡◌, ℕ, ◌+◌, ◌<◌, ◌≤◌, List, [], ◌∷◌, length, ap, ◌∙◌, subst, inl, inr, arith, Ok}
use Rattle.fe2o3_sasl_wire.specs.SaslFrames as frames
use Rattle.fe2o3_sasl_core.specs.Bodies.{SpellsBody}
use Rattle.fe2o3_sasl_core.specs.Events.{Given, ServerSays, Challenged}
use Rattle.fe2o3_sasl_core.specs.Runs.{Runs, AcceptorSteps}
use Rattle.fe2o3_sasl_core.specs.SaslAcceptor.{Acceptor, acceptor_machine}
use Rattle.fe2o3_sasl_negotiation.specs.declared.progress.Expected.TheVariants.{Frame}
use Rattle.fe2o3_sasl_negotiation.specs.declared.progress.FrameKind.{FrameKind}
use Rattle.fe2o3_sasl_negotiation.specs.declared.progress.FrameKind.TheVariants as turns
use Rattle.fe2o3_sasl_negotiation.specs.declared.progress.Progress.TheVariants.{InProgress}
use Rattle.fe2o3_sasl_negotiation.specs.Connections.{Piece, SpellsTurn, AreFrames, Replied}
use Rattle.fe2o3_sasl_negotiation.specs.Framing.{framed}
use Rattle.fe2o3_sasl_negotiation.specs.Negotiations.{SideOutput, Sends}
use Rattle.fe2o3_sasl_negotiation.specs.ServerNegotiation.{ServerOutputs, server_follows}
use Rattle.fe2o3_sasl_negotiation.proofs.lemmas.ChallengeLemmas.{waits_after_challenge, one_challenge}
use Rattle.fe2o3_sasl_negotiation.proofs.lemmas.KindLemmas.{due_of, closes_waits_not}
use Rattle.fe2o3_sasl_negotiation.proofs.lemmas.PieceLemmas.{IsChain}

-- ---- a server that waits

-- a frame that is expected as a response spells one
pub response_of : (body : List ℕ) → SpellsTurn turns.Response body
    → (text : List ℕ) × SpellsBody body (Ok (frames.Response text))
response_of body (frames.Response text, spells, in_turn) = (text, spells)
response_of body (frames.Init mechanism response hostname, spells, in_turn) = absurd in_turn
response_of body (frames.Mechanisms names, spells, in_turn) = absurd in_turn
response_of body (frames.Challenge text, spells, in_turn) = absurd in_turn
response_of body (frames.Outcome code more, spells, in_turn) = absurd in_turn

-- a challenge that is sent in a frame, after which a response is expected
abbrev pub IsChallengeSent : ServerSays → SideOutput → Type 0
IsChallengeSent says answer = (body : List ℕ) × (says ≡ Challenged body) × (length body + 4 ≤ 512)
    × (answer ≡ record { sent = framed body; progress = InProgress; expected = Frame turns.Response })

-- only such a challenge leaves a server waiting
pub server_waits : (says : ServerSays) (turn : FrameKind) (answer : SideOutput) → ServerOutputs says turn answer
    → answer.progress ≡ InProgress → IsChallengeSent says answer
server_waits says turn answer said waits =
    let (body, same, sends) = waits_after_challenge says turn answer said waits in go body same sends
  where
    go : (body : List ℕ) → says ≡ Challenged body → Sends body InProgress (Frame turns.Response) answer
        → IsChallengeSent says answer
    go body same (inl (fits, is)) = (body, same, fits, is)
    go body same (inr (long, closed)) = absurd (closes_waits_not _ _ answer closed waits)

-- and then it waits for a response
pub server_chain : IsChain ServerOutputs server_follows
server_chain turn says answer said waits =
    let (body, same, small, is) = server_waits says turn answer said waits in due_of answer _ is

-- ---- a server of SCRAM, PLAIN or ANONYMOUS

-- it has at most two frames, an init and a response: after its only challenge it concludes
pub at_most_two : (pieces : List Piece) (limit : ℕ) (events : List Given) (replies : List ServerSays)
    (answer : SideOutput) (state last : Acceptor) → AreFrames pieces limit 8 server_follows turns.Init events
    → Runs (AcceptorSteps acceptor_machine) state events replies last
    → Replied ServerOutputs server_follows turns.Init replies answer → length events ≤ 2
at_most_two pieces limit [] replies answer state last are run replied = omega arith
at_most_two pieces limit (init ∷ []) replies answer state last are run replied = omega arith
at_most_two pieces limit (init ∷ response ∷ []) replies answer state last are run replied = omega arith
at_most_two pieces limit (init ∷ response ∷ third ∷ events) replies answer state last are (
  one,
  mid,
  after,
  step,
  is,
  (two, next, rest, step_then, is_then, (more, end, others, step_more, is_more, run)),
) replied =
    let all : replies ≡ one ∷ two ∷ more ∷ others =
    is ∙ ap (λ (l : List ServerSays). one ∷ l) (is_then ∙ ap (λ (l : List ServerSays). two ∷ l) is_more) in
    let (first, left, said, waits, (second, over, then, goes_on, _, _), _) =
    subst (λ (l : List ServerSays). Replied ServerOutputs server_follows turns.Init l answer) all replied in
    let (body, same, fits, sends) = server_waits two turns.Response second then goes_on in
    let never : 0 < 0 = one_challenge.more mid next response body are.3.1
    (subst (λ (s : ServerSays). AcceptorSteps acceptor_machine mid response s next) same step_then) in
    absurd (omega (arith, never))
