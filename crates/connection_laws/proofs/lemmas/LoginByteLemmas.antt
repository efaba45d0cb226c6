-- The bytes on which a server of all mechanisms logs a client in: `servers_log_in_on_bytes`.
use Rattle.std.proofs.Common.{◌≡◌, ◌⊎◌, ◌∙◌, ◌++◌, ◌+◌, ◌<◌, ◌^◌, ℕ, List, [], ◌∷◌, length, append_assoc, ap, sym, subst, refl, inl, inr, arith}
use Rattle.std.proofs.lemmas.List.{append-nil, length-append}
use Rattle.std.proofs.lemmas.Option.{same_Some}
use Rattle.fe2o3_sasl_core.specs.AnyMechanismLaws.{Machine}
use Rattle.fe2o3_sasl_core.specs.Events.{Given, ServerSays}
use Rattle.fe2o3_sasl_core.specs.Runs.{AcceptorSteps, Runs}
use Rattle.fe2o3_sasl_core.specs.Servers.{ServerSettings, sasl_machine}
use Rattle.fe2o3_sasl_negotiation.specs.declared.progress.CloseReason.{CloseReason}
use Rattle.fe2o3_sasl_negotiation.specs.declared.progress.CloseReason.TheVariants.{FrameSize}
use Rattle.fe2o3_sasl_negotiation.specs.declared.progress.Expected.{Expected}
use Rattle.fe2o3_sasl_negotiation.specs.declared.progress.Expected.TheVariants.{Frame}
use Rattle.fe2o3_sasl_negotiation.specs.declared.progress.FrameKind.{FrameKind}
use Rattle.fe2o3_sasl_negotiation.specs.declared.progress.FrameKind.TheVariants as turns
use Rattle.fe2o3_sasl_negotiation.specs.declared.progress.Progress.{Progress}
use Rattle.fe2o3_sasl_negotiation.specs.declared.progress.Progress.TheVariants.{Authenticated, Failed, InProgress}
use Rattle.fe2o3_sasl_negotiation.specs.Connections.{AreFrames, LeftOver, Piece, PieceNonceAt, Replied, SpellsTurn, frames_of}
use Rattle.fe2o3_sasl_negotiation.specs.Framing.{Fits, framed, sasl_header}
use Rattle.fe2o3_sasl_negotiation.specs.Negotiations.{SideOutput}
use Rattle.fe2o3_sasl_negotiation.specs.ServerNegotiation.{ServerOutputs, server_follows}
use Rattle.fe2o3_sasl_negotiation.proofs.lemmas.KindLemmas.{due_of, progress_of}
use Rattle.fe2o3_sasl_negotiation.proofs.lemmas.UnitLemmas.{length-framed}
use Rattle.connection_laws.specs.ConnectionLogins.{CompletesLogin, ServersLogInOnBytes, new_server}
use Rattle.connection_laws.specs.Servers.{ServerBy}
use Rattle.connection_laws.proofs.lemmas.ConnectionLoginLemmas.{of_login, servers_authenticate_exactly, with_login}
use Rattle.connection_laws.proofs.lemmas.CutLemmas.{fits_small, no_frame_after}
use Rattle.connection_laws.proofs.lemmas.FramesLemmas.{one_frame, without_header}
use Rattle.connection_laws.proofs.lemmas.ServerLemmas.{server_waits}

-- ---- a server that has logged in

waits_not : {A : Type 0} (end : Progress) → end ≡ InProgress → end ≡ Authenticated → A
waits_not end waits logged = let no : InProgress ≡ Authenticated = sym waits ∙ logged in absurd (cc)

fails_not : {A : Type 0} (end : Progress) (why : CloseReason) → end ≡ Failed why → end ≡ Authenticated → A
fails_not end why fails logged = let no : Failed why ≡ Authenticated = sym fails ∙ logged in absurd (cc)

-- it was not waiting for a frame
left_over_is_out : {A : Type 0} (turn : FrameKind) (limit : ℕ) (tail : List ℕ) (end : Progress)
    → LeftOver turn limit tail end → end ≡ Authenticated → A
left_over_is_out turn limit tail end (inl waits) logged = waits_not end waits.1 logged
left_over_is_out turn limit tail end (inr (inl size)) logged = fails_not end FrameSize size.2 logged
left_over_is_out turn limit tail end (inr (inr (body, spelled, why, is, fits, spells, none, fails))) logged =
    fails_not end why fails logged

-- and has taken its frames only
takes_frames : (settings : ServerSettings) (server : ServerBy sasl_machine (new_server settings))
    → server.last.progress ≡ Authenticated → server.taken ≡ sasl_header ++ frames_of server.connection.events
takes_frames settings server logged =
    elim server.connection.ends [
      | inl (next, waits, expected, left) ↦
          left_over_is_out next server.limit server.connection.tail server.last.progress left logged
      | inr (ended, same, empty) ↦
          server.connection.carried
          ∙ ap (λ (l : List ℕ). sasl_header ++ l)
          (ap (λ (tail : List ℕ). frames_of server.connection.events ++ tail) empty
          ∙ append-nil (frames_of server.connection.events))
    ]

-- ---- the turn after some frames

abbrev end_turn : {A : Type 0} → FrameKind → List A → FrameKind
end_turn turn [] = turn
end_turn turn (first ∷ others) = turns.Response

replied_turn : (turn : FrameKind) (replies : List ServerSays) (answer : SideOutput)
    → Replied ServerOutputs server_follows turn replies answer → answer.progress ≡ InProgress
    → answer.expected ≡ Frame (end_turn turn replies)
replied_turn turn [] answer is waits = due_of answer _ is
replied_turn turn (says ∷ []) answer said waits =
    let (body, same, fits, is) = server_waits says turn answer said waits in due_of answer _ is
replied_turn turn (says ∷ next ∷ replies) answer (first, rest, said, goes, more, is) waits =
    due_of answer _ is ∙ replied_turn turns.Response (next ∷ replies) rest more (sym (progress_of answer _ is) ∙ waits)

same_turn : {S : Type 0} (machine : Machine S) (turn : FrameKind) (state last : S) (events : List Given)
    (replies : List ServerSays) → Runs (AcceptorSteps machine) state events replies last
    → end_turn turn replies ≡ end_turn turn events
same_turn machine turn state last [] replies run = ap (λ (l : List ServerSays). end_turn turn l) run.0
same_turn machine turn state last (event ∷ events) replies (says, next, others, step, is, run) =
    ap (λ (l : List ServerSays). end_turn turn l) is

one_kind : (turn other : FrameKind) → ◌≡◌ {A = Expected} (Frame turn) (Frame other) → turn ≡ other
one_kind turn other same = cc

-- ---- one list of frames

-- what is left over where a frame of this turn may follow
abbrev Rest : ℕ → FrameKind → List ℕ → Progress → Type 0
Rest limit turn tail end = (tail ≡ []) ⊎ LeftOver turn limit tail end

later : (limit : ℕ) (tail : List ℕ) (end : Progress) (events : List Given) → Rest limit turns.Response tail end
    → Rest limit (end_turn turns.Response events) tail end
later limit tail end [] left = left
later limit tail end (event ∷ events) left = left

module _ (pieces : List Piece) (limit : ℕ) (small : limit < 2 ^ 32) (tail : List ℕ) (end : Progress) where
  none_more : (turn : FrameKind) (body more : List ℕ) → Rest limit turn tail end
      → tail ≡ framed body ++ more → Fits limit (length body + 4)
      → ¬ SpellsTurn turn body
  none_more turn body more (inl empty) is fits spells =
      let no : length (framed body ++ more) ≡ 0 = ap length (sym is ∙ empty) in
      omega (arith, no, length-append (framed body) more, length-framed body)
  none_more turn body more (inr left) is fits spells =
      no_frame_after limit small turn (record { sent = []; progress = InProgress; expected = Frame turn }) tail body more
      end refl refl (inl (turn, refl, refl, left)) is fits spells

  same_events : (at : ℕ) (turn : FrameKind) (events others : List Given)
      → AreFrames pieces limit at server_follows turn events → AreFrames pieces limit at server_follows turn others
      → frames_of events ++ tail ≡ frames_of others → Rest limit (end_turn turn events) tail end → events ≡ others
  same_events at turn [] [] are too same left = refl
  same_events at turn [] (other ∷ others) are too same left =
      absurd (none_more turn other.body (frames_of others) left same too.0 too.1)
  same_events at turn (event ∷ events) [] are too same left =
      let no : length ((framed event.body ++ frames_of events) ++ tail) ≡ 0 = ap length same in
      absurd (omega (
        arith,
        no,
        length-append (framed event.body ++ frames_of events) tail,
        length-append (framed event.body) (frames_of events),
        length-framed event.body,
      ))
  same_events at turn (event ∷ events) (other ∷ others) are too same left =
      let both = one_frame event.body (frames_of events ++ tail) other.body (frames_of others)
      (fits_small limit small (length event.body + 4) are.0) (fits_small limit small (length other.body + 4) too.0)
      (sym (append_assoc (framed event.body) (frames_of events) tail) ∙ same) in
      let here : PieceNonceAt pieces (at + (length event.body + 3)) other.nonce =
      subst (λ (b : List ℕ). PieceNonceAt pieces (at + (length b + 3)) other.nonce) (sym both.0) too.2 in
      let nonce : event.nonce ≡ other.nonce = same_Some event.nonce other.nonce (sym are.2 ∙ here) in
      let rest = same_events (at + (length event.body + 4)) (server_follows turn) events others are.3
      (subst (λ (b : List ℕ). AreFrames pieces limit (at + (length b + 4)) server_follows (server_follows turn) others)
      (sym both.0) too.3) both.1 (later limit tail end events left) in
      λ i. (record { body = both.0 i; nonce = nonce i }) ∷ rest i

-- what the connection leaves over
rest_of : (settings : ServerSettings) (server : ServerBy sasl_machine (new_server settings))
    → Rest server.limit (end_turn turns.Init server.connection.events) server.connection.tail server.last.progress
rest_of settings server =
    let n = server.connection in
    elim n.ends [
      | inl (next, waits, expected, left) ↦
          let due = replied_turn turns.Init n.replies n.answer n.replied waits in
          let turn : next ≡ end_turn turns.Init n.events =
          one_kind next (end_turn turns.Init n.replies) (sym expected ∙ due)
          ∙ same_turn sasl_machine turns.Init (new_server settings) server.last.state n.events n.replies n.run in
          inr (subst (λ (t : FrameKind). LeftOver t server.limit n.tail server.last.progress) turn left)
      | inr (ended, same, empty) ↦ inl empty
    ]

pub servers_log_in_on_bytes : ServersLogInOnBytes
servers_log_in_on_bytes settings server login small = (
  λ some. let logs = of_login settings server login some in (
    server.connection.events,
    takes_frames settings server ((servers_authenticate_exactly settings server).1 (login, logs)),
    server.connection.frames,
    logs,
  ),
  λ it. let (events, taken, are, logs) = it in
      let n = server.connection in
      let same = same_events server.pieces server.limit small n.tail server.last.progress 8 turns.Init n.events events
      n.frames are (without_header (frames_of n.events ++ n.tail) (frames_of events) (sym n.carried ∙ taken))
      (rest_of settings server) in
      (with_login settings server login (subst (λ (l : List Given). CompletesLogin settings l login) (sym same) logs)).1,
)
