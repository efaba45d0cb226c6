-- What no connection of a server does.
use Rattle.std.proofs.Common.{◌≡◌, ◌≢◌, ℕ, ◌+◌, ◌<◌, ◌≤◌, Bool, true, false, Option, Some, None, List, [], ◌∷◌, ◌++◌, length, refl, sym, ap, ◌∙◌, subst, inl, inr, append_assoc, arith, Result, Ok}
use Rattle.std.specs.Prelude.{zip, flat_map, if◌then◌else◌}
use Rattle.std.specs.List.{AllByRecursion}
use Rattle.std.proofs.lemmas.Grind.{flat_map-append}
use Rattle.std.proofs.lemmas.List.{append-nil, length-append}
use Rattle.std.proofs.lemmas.Option.{same_Some}
use Rattle.fe2o3_sasl_wire.specs.declared.amqp_types.SaslCode.TheVariants as outcomes
use Rattle.fe2o3_sasl_wire.specs.declared.sasl_frames.error.Error.{Error}
use Rattle.fe2o3_sasl_wire.specs.declared.sasl_frames.error.Error.TheVariants as faults
use Rattle.fe2o3_sasl_wire.specs.SaslFrames as frames
use Rattle.fe2o3_sasl_wire.specs.SaslFrames.{SaslFrame}
use Rattle.fe2o3_sasl_core.specs.declared.any_mechanism.Selected.{Selected}
use Rattle.fe2o3_sasl_core.specs.Bodies.{SpellsBody}
use Rattle.fe2o3_sasl_core.specs.Events.{Given, ServerSays, Challenged, Concluded, Failed}
use Rattle.fe2o3_sasl_core.specs.AnyMechanism.{BothStates, has_name, part_for, any_mechanism_machine}
use Rattle.fe2o3_sasl_core.specs.AnyMechanismLaws.{Machine, MarkedSteps, mark_of}
use Rattle.fe2o3_sasl_core.specs.Runs.{Runs, AcceptorSteps}
use Rattle.fe2o3_sasl_core.specs.declared.any_mechanism.Selected.TheVariants.{First, Second}
use Rattle.fe2o3_sasl_core.proofs.lemmas.frames.SpellingLemmas.{one_spelling}
use Rattle.fe2o3_sasl_core.proofs.lemmas.machines.NameLemmas.{has_name-both}
use Rattle.fe2o3_sasl_negotiation.specs.declared.progress.Expected.{Expected}
use Rattle.fe2o3_sasl_negotiation.specs.declared.progress.Expected.TheVariants.{Frame}
use Rattle.fe2o3_sasl_negotiation.specs.declared.progress.Progress.{Progress}
use Rattle.fe2o3_sasl_negotiation.specs.declared.progress.Progress.TheVariants.{InProgress}
use Rattle.fe2o3_sasl_negotiation.specs.declared.progress.FrameKind.{FrameKind}
use Rattle.fe2o3_sasl_negotiation.specs.declared.progress.FrameKind.TheVariants as turns
use Rattle.fe2o3_sasl_negotiation.specs.Connections.{Piece, frames_of, AreFrames, Replied, ServerConnection, ServerNegotiated}
use Rattle.fe2o3_sasl_negotiation.specs.Framing.{sasl_header, framed}
use Rattle.fe2o3_sasl_negotiation.specs.Negotiations.{Side, SideOutput, Sends}
use Rattle.fe2o3_sasl_negotiation.specs.ServerNegotiation.{ServerOutputs, server_follows}
use Rattle.fe2o3_sasl_negotiation.proofs.lemmas.UnitLemmas.{length-framed}
use Rattle.connection_laws.specs.Hostile.{IgnoresInit, IgnoresResponse, AnswersOther, AnswersHeader, HasShortFrame, MarksNothing, HasTwoNonces, ReusesNonce, HidesOffer, SendsBeyondOffer, SendsOther, said}
use Rattle.connection_laws.proofs.lemmas.CutConnectionLemmas.{part_is_short, other_is_not}
use Rattle.connection_laws.proofs.lemmas.CutLemmas.{fits_small, no_frame_after}
use Rattle.connection_laws.proofs.lemmas.FramesLemmas.{one_frame, without_header}

-- ---- which frames are answered

module _ {S : Type 0} (machine : Machine S) where
  -- a server that has answered nothing waits for an init
  waits_for_init : (state last : S) (events : List Given) (replies : List ServerSays) (answer : SideOutput)
      → events ≡ [] → Runs (AcceptorSteps machine) state events replies last
      → Replied ServerOutputs server_follows turns.Init replies answer
      → answer ≡ record { sent = []; progress = InProgress; expected = Frame turns.Init }
  waits_for_init state last events replies answer none run replied =
      subst (λ (l : List ServerSays). Replied ServerOutputs server_follows turns.Init l answer)
      (subst (λ (l : List Given). Runs (AcceptorSteps machine) state l replies last) none run).0 replied

  pub no_init_is_ignored : ¬ IgnoresInit machine
  no_init_is_ignored (body, more, served, fits, spells, none) =
      let n = served.negotiated in
      let waits = waits_for_init served.state served.last.state n.events n.replies n.answer none n.run n.replied in
      let tail : n.tail ≡ framed body ++ more =
      ap (λ (l : List Given). frames_of l ++ n.tail) (sym none)
      ∙ sym (without_header (framed body ++ more) (frames_of n.events ++ n.tail) n.carried) in
      no_frame_after served.limit served.small turns.Init n.answer n.tail body more served.last.progress
      (ap (λ (a : SideOutput). a.progress) waits) (ap (λ (a : SideOutput). a.expected) waits) n.ends tail fits spells

  -- a challenge that is sent leaves a response expected
  challenged : (challenge : List ℕ) (replies : List ServerSays) (answer : SideOutput)
      → replies ≡ Challenged challenge ∷ [] → length challenge + 4 ≤ 512
      → Replied ServerOutputs server_follows turns.Init replies answer
      → answer ≡ record { sent = framed challenge; progress = InProgress; expected = Frame turns.Response }
  challenged challenge replies answer are fits replied =
      go (subst (λ (l : List ServerSays). Replied ServerOutputs server_follows turns.Init l answer) are replied)
    where
      go : Sends challenge InProgress (Frame turns.Response) answer
          → answer ≡ record { sent = framed challenge; progress = InProgress; expected = Frame turns.Response }
      go (inl sends) = sends.1
      go (inr closes) = let long : 512 < length challenge + 4 = closes.0 in absurd (omega (arith, fits, long))

  pub no_response_is_ignored : ¬ IgnoresResponse machine
  no_response_is_ignored
      (init, body, more, challenge, event, served, fits, also, spells, are, replies_are, small) =
      let n = served.negotiated in
      let frames = subst (λ (l : List Given). AreFrames served.pieces served.limit 8 server_follows turns.Init l) are
      n.frames in
      let waits = challenged challenge n.replies n.answer replies_are small n.replied in
      let carried : framed init ++ (framed body ++ more) ≡ framed event.body ++ n.tail =
      without_header (framed init ++ (framed body ++ more)) (frames_of n.events ++ n.tail) n.carried
      ∙ (ap (λ (l : List Given). frames_of l ++ n.tail) are
      ∙ ap (λ (l : List ℕ). l ++ n.tail) (append-nil (framed event.body))) in
      let tail = (one_frame init (framed body ++ more) event.body n.tail
      (fits_small served.limit served.small (length init + 4) fits)
      (fits_small served.limit served.small (length event.body + 4) frames.0) carried).1 in
      no_frame_after served.limit served.small turns.Response n.answer n.tail body more served.last.progress
      (ap (λ (a : SideOutput). a.progress) waits) (ap (λ (a : SideOutput). a.expected) waits) n.ends (sym tail) also spells

  pub none_answers_other : ¬ AnswersOther machine
  none_answers_other (body, more, event, events, served, fits, are, other) =
      let n = served.negotiated in
      let frames = subst (λ (l : List Given). AreFrames served.pieces served.limit 8 server_follows turns.Init l) are
      n.frames in
      let carried : framed body ++ more ≡ framed event.body ++ (frames_of events ++ n.tail) =
      without_header (framed body ++ more) (frames_of n.events ++ n.tail) n.carried
      ∙ (ap (λ (l : List Given). frames_of l ++ n.tail) are
      ∙ append_assoc (framed event.body) (frames_of events) n.tail) in
      other (sym (one_frame body more event.body (frames_of events ++ n.tail)
      (fits_small served.limit served.small (length body + 4) fits)
      (fits_small served.limit served.small (length event.body + 4) frames.0) carried).0)

  no_frames : (events : List Given) (tail : List ℕ) → sasl_header ++ [] ≡ sasl_header ++ (frames_of events ++ tail)
      → events ≡ []
  no_frames [] tail carried = refl
  no_frames (event ∷ events) tail carried =
      let nothing : [] ≡ (framed event.body ++ frames_of events) ++ tail =
      without_header [] ((framed event.body ++ frames_of events) ++ tail) carried in
      absurd (omega (
        arith,
        ap length nothing,
        length-append (framed event.body ++ frames_of events) tail,
        length-append (framed event.body) (frames_of events),
        length-framed event.body,
      ))

  pub none_answers_header : ¬ AnswersHeader machine
  none_answers_header (served, some) =
      some (no_frames served.negotiated.events served.negotiated.tail served.negotiated.carried)

pub no_frame_is_short : ¬ HasShortFrame
no_frame_is_short (pieces, limit, at, follows, turn, event, events, frames, short) =
    let least : 8 ≤ length event.body + 4 = frames.0.0 in omega (arith, least, short)

-- ---- where frames go

-- a mechanism that is offered has a part
has_part : (first second : Bool) → (if first then true else second) ≡ true
    → (if first then Some First else if second then Some Second else None) ≢ None
has_part true second has none = cc
has_part false true has none = cc
has_part false false has none = cc

module _ {S T : Type 0} (names : S → List (List ℕ)) (others : T → List (List ℕ)) (machine : Machine S)
    (other : Machine T) where
  abbrev BothSteps : BothStates S T → Given → Option Selected × ServerSays → BothStates S T → Type 0
  BothSteps = MarkedSteps (any_mechanism_machine names others machine other) None (part_for names others)

  first_mark : (parts last : BothStates S T) (event : Given) (events : List Given) (replies : List ServerSays)
      (marks : List (Option Selected)) (frame : SaslFrame) → Runs BothSteps parts (event ∷ events) (zip marks replies) last
      → SpellsBody event.body (Ok frame) → AllByRecursion (λ mark. mark ≡ None) marks
      → None ≡ mark_of None (part_for names others) parts (Ok frame)
  first_mark parts last event events replies [] frame (says, next, more, step, is, run) spells none = absurd (cc)
  first_mark parts last event events [] (mark ∷ marks) frame (says, next, more, step, is, run) spells none =
      absurd (cc)
  first_mark parts last event events (reply ∷ replies) (mark ∷ marks) frame
      (says, next, more, (spelled, read, gives, marked), is, run) spells none =
      let same : (mark, reply) ≡ says = cc in
      sym none.0 ∙ (ap (λ (m : Option Selected × ServerSays). m.0) same ∙ (marked
      ∙ ap (λ (r : Result SaslFrame Error). mark_of None (part_for names others) parts r)
      (one_spelling event.body spelled (Ok frame) read spells)))

  pub none_marks_nothing : ¬ MarksNothing names others machine other
  none_marks_nothing (parts, last, event, events, replies, marks, mechanism, response, hostname, splits, spells, has, none) =
      has_part (has_name (names parts.first) mechanism) (has_name (others parts.second) mechanism)
      (sym (has_name-both (names parts.first) (others parts.second) mechanism) ∙ has)
      (sym (first_mark parts last event events replies marks (frames.Init mechanism response hostname)
      splits.marked.steps spells none))

-- ---- which nonces are used

pub no_byte_has_two_nonces : ¬ HasTwoNonces
no_byte_has_two_nonces (pieces, n, nonce, other, is, too, apart) = apart (same_Some nonce other (sym is ∙ too))

pub none_reuses_a_nonce : {S : Type 0} (machine : Machine S) → ¬ ReusesNonce machine
none_reuses_a_nonce machine (bytes, served, first, second, nonce, other, are, is, too, apart, one) =
    let frames = subst (λ (l : List Given). AreFrames served.pieces served.limit 8 server_follows turns.Init l) are
    served.negotiated.frames in
    apart (same_Some nonce first.nonce (sym is ∙ frames.2)
    ∙ (one ∙ same_Some second.nonce other (sym frames.3.2 ∙ too)))

-- ---- what is sent

module _ {S : Type 0} (names : S → List (List ℕ)) (machine : Machine S) where
  pub none_hides_its_offer : ¬ HidesOffer names machine
  none_hides_its_offer (limit, state, pieces, bytes, sent, last, offer, connection, is, fits, hides) = go connection
    where
      go : ¬ ServerConnection names machine limit state pieces (sasl_header ++ bytes) sent last
      go (inl part) = part_is_short limit state (sasl_header ++ bytes) sent bytes last part refl
      go (inr (inl closed)) = other_is_not state (sasl_header ++ bytes) bytes last closed.0 refl
      go (inr (inr (inl (all, none, sends, closed, kept)))) = let long : 512 < length offer + 4 = none offer is in
          omega (arith, long, fits)
      go (inr (inr (inr (again, out, too, also, sends, negotiated)))) =
          hides out (sends ∙ ap (λ (l : List ℕ). sasl_header ++ (framed l ++ out))
          (same_Some again offer (sym too ∙ is)))

  -- over the header only, nothing is sent after the list of mechanisms
  nothing_out : (limit : ℕ) (state : S) (pieces : List Piece) (out : List ℕ) (last : Side S)
      → ServerNegotiated machine limit state pieces sasl_header out last → out ≡ []
  nothing_out limit state pieces out last n =
      let none = no_frames machine n.events n.tail (append-nil sasl_header ∙ n.carried) in
      n.sends ∙ ap (λ (a : SideOutput). a.sent)
      (waits_for_init machine state last.state n.events n.replies n.answer none n.run n.replied)

  pub none_sends_beyond_its_offer : ¬ SendsBeyondOffer names machine
  none_sends_beyond_its_offer (limit, state, pieces, sent, last, offer, more, connection, is, beyond, some) =
      go connection
    where
      no_header : (out : List ℕ) → sent ≡ sasl_header → more ≡ []
      no_header out short =
          let same : framed offer ++ more ≡ [] =
          without_header (framed offer ++ more) [] (sym beyond ∙ (short ∙ sym (append-nil sasl_header))) in
          absurd (omega (arith, ap length same, length-append (framed offer) more, length-framed offer))

      go : ¬ ServerConnection names machine limit state pieces sasl_header sent last
      go (inl part) = part_is_short limit state sasl_header sent [] last part (sym (append-nil sasl_header))
      go (inr (inl closed)) = some (no_header [] closed.1)
      go (inr (inr (inl closed))) = some (no_header [] closed.2)
      go (inr (inr (inr (again, out, too, also, sends, negotiated)))) =
          let offers : again ≡ offer = same_Some again offer (sym too ∙ is) in
          let nothing : out ≡ [] = nothing_out limit state pieces out last negotiated in
          let same : framed offer ++ more ≡ framed offer ++ [] =
          without_header (framed offer ++ more) (framed offer ++ [])
          (sym beyond ∙ (sends ∙ (λ i. sasl_header ++ (framed (offers i) ++ nothing i)))) in
          let ends : length more ≡ 0 = omega (
            arith,
            ap length same,
            length-append (framed offer) more,
            length-append (framed offer) [],
          ) in
          some (none_of more ends)
        where
          none_of : (l : List ℕ) → length l ≡ 0 → l ≡ []
          none_of [] zero = refl
          none_of (x ∷ l) zero = absurd (omega (arith, zero))

-- a body that fits is sent
sends_body : (body : List ℕ) (progress : Progress) (expected : Expected) (answer : SideOutput) → length body + 4 ≤ 512
    → Sends body progress expected answer → answer.sent ≡ framed body ++ []
sends_body body progress expected answer fits (inl sends) =
    ap (λ (a : SideOutput). a.sent) sends.1 ∙ sym (append-nil (framed body))
sends_body body progress expected answer fits (inr closes) = let long : 512 < length body + 4 = closes.0 in
    absurd (omega (arith, fits, long))

-- the replies fit in frames
abbrev AllFit : List ServerSays → Type 0
AllFit replies = AllByRecursion (λ (body : List ℕ). length body + 4 ≤ 512) (said replies)

-- a reply is sent as it is said
sends_said : (says : ServerSays) (turn : FrameKind) (answer : SideOutput) → AllFit (says ∷ [])
    → ServerOutputs says turn answer → answer.sent ≡ flat_map framed (said (says ∷ []))
sends_said (Challenged body) turn answer fit says = sends_body body _ _ answer fit.0 says
sends_said (Concluded outcomes.Ok body) turn answer fit says = sends_body body _ _ answer fit.0 says
sends_said (Concluded outcomes.Auth body) turn answer fit says = sends_body body _ _ answer fit.0 says
sends_said (Concluded outcomes.Sys body) turn answer fit says = sends_body body _ _ answer fit.0 says
sends_said (Concluded outcomes.SysPerm body) turn answer fit says = sends_body body _ _ answer fit.0 says
sends_said (Concluded outcomes.SysTemp body) turn answer fit says = sends_body body _ _ answer fit.0 says
sends_said (Failed faults.OutOfMemory) turn answer fit says = absurd says
sends_said (Failed faults.DecodeError) turn answer fit says = ap (λ (a : SideOutput). a.sent) says
sends_said (Failed faults.NotImplemented) turn answer fit says = ap (λ (a : SideOutput). a.sent) says
sends_said (Failed faults.TooLarge) turn answer fit says = ap (λ (a : SideOutput). a.sent) says

-- the bodies of two replies, one after the other
said_more : (says : ServerSays) (replies : List ServerSays) → said (says ∷ replies) ≡ said (says ∷ []) ++ said replies
said_more (Challenged body) replies = refl
said_more (Concluded code body) replies = refl
said_more (Failed fault) replies = refl

all_fit : (says : ServerSays) (replies : List ServerSays) → AllFit (says ∷ replies)
    → AllFit (says ∷ []) × AllFit replies
all_fit (Challenged body) replies fit = ((fit.0, tt), fit.1)
all_fit (Concluded code body) replies fit = ((fit.0, tt), fit.1)
all_fit (Failed fault) replies fit = (tt, fit)

all_sent : (turn : FrameKind) (replies : List ServerSays) (answer : SideOutput) → AllFit replies
    → Replied ServerOutputs server_follows turn replies answer → answer.sent ≡ flat_map framed (said replies)
all_sent turn [] answer fit replied = ap (λ (a : SideOutput). a.sent) replied
all_sent turn (says ∷ []) answer fit replied = sends_said says turn answer fit replied
all_sent turn (says ∷ next ∷ replies) answer fit (first, rest, one, waits, more, sum) =
    let (fits, others) = all_fit says (next ∷ replies) fit in
    let start = sends_said says turn first fits one in
    let end = all_sent (server_follows turn) (next ∷ replies) rest others more in
    ap (λ (a : SideOutput). a.sent) sum ∙ ((λ i. start i ++ end i)
    ∙ (sym (flat_map-append framed (said (says ∷ [])) (said (next ∷ replies)))
    ∙ ap (flat_map framed) (sym (said_more says (next ∷ replies)))))

pub none_sends_other : {S : Type 0} (machine : Machine S) → ¬ SendsOther machine
none_sends_other machine (bytes, served, fit, other) =
    let n = served.negotiated in other (n.sends ∙ all_sent turns.Init n.replies n.answer fit n.replied)
