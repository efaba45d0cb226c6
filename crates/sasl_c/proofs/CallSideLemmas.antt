-- A side of a connection, and one that a struct of it shows, which the next call takes up: they answer alike.
use Rattle.std.proofs.Common.{refl, sym, ap, subst, inl, inr, ◌∙◌, ◌≡◌, ◌≢◌, ◌++◌, ℕ, List}
use Rattle.std.specs.Prelude.{Bool, true, false, Option, Some, None, Result, Ok, Err, drop, take}
use Rattle.fe2o3_sasl_wire.specs.SaslFrames as frames
use Rattle.fe2o3_sasl_wire.specs.SaslFrames.{SaslFrame, canonical}
use Rattle.fe2o3_sasl_wire.specs.declared.amqp_types.SaslCode.TheVariants as outcomes
use Rattle.fe2o3_sasl_wire.specs.declared.sasl_frames.error.Error.{Error}
use Rattle.fe2o3_sasl_wire.specs.declared.sasl_frames.error.Error.TheVariants as faults
use Rattle.fe2o3_scram.specs.ActingRights.{Rights}
use Rattle.fe2o3_scram.specs.Mixed.{MultiRecords}
use Rattle.fe2o3_scram.specs.declared.hmac.ScramVersion.{ScramVersion}
use Rattle.fe2o3_sasl_core.specs.Bodies.{SpellsBody, server_says}
use Rattle.fe2o3_sasl_core.specs.Events.{Given, ServerSays, Challenged, Concluded, Failed}
use Rattle.fe2o3_sasl_core.specs.MockChoices.{MockChoice}
use Rattle.fe2o3_sasl_core.specs.Runs.{AcceptorAnswers, AcceptorGives, SendsCanonical}
use Rattle.fe2o3_sasl_core.specs.Servers.{ServerAt, ServerSettings, sasl_machine, sasl_names}
use Rattle.fe2o3_sasl_core.proofs.lemmas.frames.SpellingLemmas.{one_spelled_frame}
use Rattle.fe2o3_sasl_negotiation.specs.Framing.{unit_read, unit_size, IsWhole}
use Rattle.fe2o3_sasl_negotiation.specs.Negotiations.{IsInTurn, Reading, ReceivesAt, Sends, Side, SideOutput}
use Rattle.fe2o3_sasl_negotiation.specs.ServerNegotiation.{ServerOpens, ServerOutputs, ServerSideAnswers}
use Rattle.fe2o3_sasl_negotiation.specs.declared.progress.Expected.{Expected}
use Rattle.fe2o3_sasl_negotiation.specs.declared.progress.Expected.TheVariants.{Header, Frame}
use Rattle.fe2o3_sasl_negotiation.specs.declared.progress.FrameKind.{FrameKind}
use Rattle.fe2o3_sasl_negotiation.specs.declared.progress.Progress.{Progress}
use Rattle.fe2o3_sasl_negotiation.specs.declared.progress.Progress.TheVariants.{InProgress, Failed as HasFailed}
use Rattle.sasl_c.specs.Rejections.{Logged, server_machine, server_names}
use Rattle.sasl_c.specs.ServerCalls.{offer_of}
use Rattle.sasl_c.proofs.CallStageLemmas.{Follows, FrameAlike, IsOut, Quiet, machine_answered, over}

-- ---- what is sent

never_concluded : (stands : Progress) (says : ServerSays) (body : List ℕ) (expected : Expected) (answer : SideOutput)
    → stands ≢ InProgress → Sends body stands expected answer → answer.progress ≡ InProgress → ⊥
never_concluded stands says body expected answer not (inl (fits, same)) goes =
    not (sym (ap (λ (a : SideOutput). a.progress) same) ∙ goes)
never_concluded stands says body expected answer not (inr (long, same)) goes =
    let ends : HasFailed _ ≡ InProgress = sym (ap (λ (a : SideOutput). a.progress) same) ∙ goes in absurd (cc)

-- a side that goes on has sent a challenge
goes_on : (says : ServerSays) (turn : FrameKind) (answer : SideOutput) → ServerOutputs says turn answer
    → answer.progress ≡ InProgress → (body : List ℕ) × (says ≡ Challenged body)
goes_on (Challenged body) turn answer sends goes = (body, refl)
goes_on (Concluded outcomes.Ok body) turn answer sends goes =
    absurd (never_concluded _ (Concluded outcomes.Ok body) body (Frame turn) answer (λ same. absurd (cc)) sends goes)
goes_on (Concluded outcomes.Auth body) turn answer sends goes =
    absurd (never_concluded _ (Concluded outcomes.Auth body) body (Frame turn) answer (λ same. absurd (cc)) sends goes)
goes_on (Concluded outcomes.Sys body) turn answer sends goes =
    absurd (never_concluded _ (Concluded outcomes.Sys body) body (Frame turn) answer (λ same. absurd (cc)) sends goes)
goes_on (Concluded outcomes.SysPerm body) turn answer sends goes =
    absurd (never_concluded _ (Concluded outcomes.SysPerm body) body (Frame turn) answer (λ same. absurd (cc)) sends goes)
goes_on (Concluded outcomes.SysTemp body) turn answer sends goes =
    absurd (never_concluded _ (Concluded outcomes.SysTemp body) body (Frame turn) answer (λ same. absurd (cc)) sends goes)
goes_on (Failed faults.OutOfMemory) turn answer never goes = absurd never
goes_on (Failed faults.DecodeError) turn answer same goes =
    let ends : HasFailed _ ≡ InProgress = sym (ap (λ (a : SideOutput). a.progress) same) ∙ goes in absurd (cc)
goes_on (Failed faults.NotImplemented) turn answer same goes =
    let ends : HasFailed _ ≡ InProgress = sym (ap (λ (a : SideOutput). a.progress) same) ∙ goes in absurd (cc)
goes_on (Failed faults.TooLarge) turn answer same goes =
    let ends : HasFailed _ ≡ InProgress = sym (ap (λ (a : SideOutput). a.progress) same) ∙ goes in absurd (cc)

-- a side with another server
abbrev pub at : Side Logged → ServerAt → Side ServerAt
at side server = record {
  progress = side.progress;
  expected = side.expected;
  limit = side.limit;
  held = side.held;
  state = server;
}

module _ (settings : ServerSettings) (records : MultiRecords) (rights : Rights) (mock : Option MockChoice)
    (plain : ScramVersion) where
  abbrev passed : ServerSettings
  passed = over records rights mock plain settings

  abbrev Follow : ServerAt → Logged → Type 0
  Follow server other = Follows settings records rights mock plain server other.server

  abbrev Out : ServerAt → Type 0
  Out server = IsOut settings records rights mock plain server.stage

  abbrev Alike : ServerAt → Logged → SaslFrame → Type 0
  Alike server other frame = FrameAlike settings records rights mock plain server.stage other.server.stage frame

  -- a server after an answer, which is not logged in after a challenge
  abbrev Said : ServerAt → Logged → ServerSays → Type 0
  Said after next says = Follow after next × ((body : List ℕ) → says ≡ Challenged body → Out after)

  stays : (server : ServerAt) (other next : Logged) (says : ServerSays) → Follow server other → Out server
      → next ≡ other → Said server next says
  stays server other next says follows out same =
      (subst (λ (l : Logged). Follow server l) (sym same) follows, λ body said. out)

  sent_answered : (reply : SaslFrame) (written : Option (List ℕ)) (server step : ServerAt) (other moved next : Logged)
      (says : ServerSays) → Follow server other → Out server → Follow step moved
      → Quiet settings records rights mock plain reply step.stage
      → SendsCanonical (Failed faults.TooLarge) (server_says reply) written other moved says next
      → (after : ServerAt) × SendsCanonical (Failed faults.TooLarge) (server_says reply) written server step says after
      × Said after next says
  sent_answered reply None server step other moved next says follows out goes quiet sends =
      (server, (sends.0, refl), stays server other next says follows out sends.1)
  sent_answered reply (Some body) server step other moved next says follows out goes quiet sends = (
    step,
    (sends.0, refl),
    (
      subst (λ (l : Logged). Follow step l) (sym sends.1) goes,
      λ text said. out_by quiet text said,
    ),
  )
    where
      out_by : Quiet settings records rights mock plain reply step.stage → (text : List ℕ) → says ≡ Challenged text
          → Out step
      out_by (inr still) text said = still
      out_by (inl (code, more, is)) text said =
          let ends : says ≡ Concluded code body = sends.0 ∙ ap (λ (r : SaslFrame). server_says r body) is in
          let never : Challenged text ≡ Concluded code body = sym said ∙ ends in
          absurd (cc)

  answers_answered : (server : ServerAt) (other next : Logged) (nonce : List ℕ) (frame : SaslFrame) (says : ServerSays)
      → Follow server other → other.server.settings ≡ passed → Out server → Alike server other frame
      → AcceptorAnswers server_machine other nonce frame says next
      → (after : ServerAt) × AcceptorAnswers sasl_machine server nonce frame says after × Said after next says
  answers_answered server other next nonce frame says follows others out alike (inl (failed, kept)) =
      (server, inl (failed, refl), stays server other next says follows out kept)
  answers_answered server other next nonce frame says follows others out alike (inr (reply, moved, held, sends)) =
      let step = machine_answered settings records rights mock plain server other.server moved.server nonce frame reply
      follows others alike held.0 in
      let sent = sent_answered reply (canonical reply) server step.0 other moved next says follows out step.2 step.3 sends in
      (sent.0, inr (reply, step.0, step.1, sent.1), sent.2)

  gives_answered : (server : ServerAt) (other next : Logged) (event : Given) (spelled : Result SaslFrame Error)
      (says : ServerSays) → Follow server other → other.server.settings ≡ passed → Out server
      → ((frame : SaslFrame) → spelled ≡ Ok frame → Alike server other frame)
      → AcceptorGives server_machine other event spelled says next
      → (after : ServerAt) × AcceptorGives sasl_machine server event spelled says after × Said after next says
  gives_answered server other next event (Err fault) says follows others out alike is =
      (server, (is.0, refl), stays server other next says follows out is.1)
  gives_answered server other next event (Ok (frames.Mechanisms names)) says follows others out alike is =
      (server, (is.0, refl), stays server other next says follows out is.1)
  gives_answered server other next event (Ok (frames.Challenge text)) says follows others out alike is =
      (server, (is.0, refl), stays server other next says follows out is.1)
  gives_answered server other next event (Ok (frames.Outcome code more)) says follows others out alike is =
      (server, (is.0, refl), stays server other next says follows out is.1)
  gives_answered server other next event (Ok (frames.Init mechanism response hostname)) says follows others out alike is =
      answers_answered server other next event.nonce (frames.Init mechanism response hostname) says follows others out
      (alike (frames.Init mechanism response hostname) refl) is
  gives_answered server other next event (Ok (frames.Response text)) says follows others out alike is =
      answers_answered server other next event.nonce (frames.Response text) says follows others out
      (alike (frames.Response text) refl) is

  -- ---- a unit

  -- a server after a unit, which is not logged in while the side goes on
  abbrev pub Then : ServerAt → Logged → Progress → Type 0
  Then after next stands = Follow after next × (stands ≡ InProgress → Out after)

  remains : (server : ServerAt) (other next : Logged) (stands : Progress) → Follow server other → Out server
      → next ≡ other → Then server next stands
  remains server other next stands follows out same =
      (subst (λ (l : Logged). Follow server l) (sym same) follows, λ goes. out)

  one_offer : (server : ServerAt) (other : Logged) → Follow server other → other.server.settings ≡ passed
      → server_names other ≡ offer_of server
  one_offer server other follows others = ap sasl_names others ∙ sym (ap sasl_names follows.own)

  unit_answered : (expected : Expected) (server : ServerAt) (other next : Logged) (nonce unit : List ℕ)
      (answer : SideOutput) → Follow server other → other.server.settings ≡ passed → Out server
      → ((turn : FrameKind) (frame : SaslFrame) → expected ≡ Frame turn → SpellsBody (drop 4 unit) (Ok frame)
      → IsInTurn turn frame → Alike server other frame)
      → ServerSideAnswers server_names server_machine expected other nonce unit answer next
      → (after : ServerAt) × ServerSideAnswers offer_of sasl_machine expected server nonce unit answer after
      × Then after next answer.progress
  unit_answered Header server other next nonce unit answer follows others out alike (opens, kept) = (
    server,
    (subst (λ (names : List (List ℕ)). ServerOpens names unit answer) (one_offer server other follows others) opens, refl),
    remains server other next answer.progress follows out kept,
  )
  unit_answered (Frame turn) server other next nonce unit answer follows others out alike (Err fault, spells, unread) = (
    server,
    (Err fault, spells, (unread.0, refl)),
    remains server other next answer.progress follows out unread.1,
  )
  unit_answered (Frame turn) server other next nonce unit answer follows others out alike
      (Ok frame, spells, inl (not, same, kept)) = (
        server,
        (Ok frame, spells, inl (not, same, refl)),
        remains server other next answer.progress follows out kept,
      )
  unit_answered (Frame turn) server other next nonce unit answer follows others out alike
      (Ok frame, spells, inr (in_turn, (says, (spelled, is, gives), outputs))) =
      let step = gives_answered server other next (record { body = drop 4 unit; nonce = nonce }) spelled says follows others
      out (λ sent same.
      let read = subst (λ (r : Result SaslFrame Error). SpellsBody (drop 4 unit) r) same is in
      let one = one_spelled_frame (drop 4 unit) frame sent spells read in
      alike turn sent refl read (subst (λ (f : SaslFrame). IsInTurn turn f) one in_turn)) gives in (
        step.0,
        (Ok frame, spells, inr (in_turn, (says, (spelled, is, step.1), outputs))),
        (
          step.2.0,
          λ goes. let challenged = goes_on says turn answer outputs goes in step.2.1 challenged.0 challenged.1,
        ),
      )

  read_answered : (accepts : Bool) (expected : Expected) (server : ServerAt) (other next : Logged) (nonce unit : List ℕ)
      (answer : SideOutput) → Follow server other → other.server.settings ≡ passed → Out server
      → ((turn : FrameKind) (frame : SaslFrame) → expected ≡ Frame turn
      → SpellsBody (drop 4 (unit_read accepts expected unit)) (Ok frame) → IsInTurn turn frame → Alike server other frame)
      → Reading accepts (ServerSideAnswers server_names server_machine) expected other nonce unit answer next
      → (after : ServerAt)
      × Reading accepts (ServerSideAnswers offer_of sasl_machine) expected server nonce unit answer after
      × Then after next answer.progress
  read_answered false expected server other next nonce unit answer follows others out alike is =
      unit_answered expected server other next nonce unit answer follows others out alike is
  read_answered true expected server other next nonce unit answer follows others out alike is =
      unit_answered expected server other next nonce (unit_read true expected unit) answer follows others out alike is

  -- ---- a call

  -- the frame that these bytes complete is answered alike
  abbrev pub CallAlike : Bool → Side Logged → ServerAt → List ℕ → Type 0
  CallAlike accepts side server bytes = let come = side.held ++ bytes in
      (turn : FrameKind) (frame : SaslFrame) → side.expected ≡ Frame turn → IsWhole side.expected side.limit come
      → SpellsBody (drop 4 (unit_read accepts side.expected (take (unit_size side.expected come) come))) (Ok frame)
      → IsInTurn turn frame → Alike server side.state frame

  pub call_answered : (accepts : Bool) (side next : Side Logged) (server : ServerAt) (bytes nonce : List ℕ) (taken : ℕ)
      (sent : List ℕ) → Follow server side.state → side.state.server.settings ≡ passed → Out server
      → CallAlike accepts side server bytes
      → ReceivesAt InProgress (Reading accepts (ServerSideAnswers server_names server_machine)) side bytes nonce taken sent
      next
      → (after : ServerAt)
      × ReceivesAt InProgress (Reading accepts (ServerSideAnswers offer_of sasl_machine)) (at side server) bytes nonce taken
      sent (at next after)
      × Then after next.state next.progress
  call_answered accepts side next server bytes nonce taken sent follows others out alike (inl (part, (all, none, same))) = (
    server,
    inl (part, (all, none, ap (λ (s : Side Logged). at s server) same)),
    remains server side.state next.state next.progress follows out (ap (λ (s : Side Logged). s.state) same),
  )
  call_answered accepts side next server bytes nonce taken sent follows others out alike
      (inr (inl (refused, (all, none, same)))) = (
        server,
        inr (inl (refused, (all, none, ap (λ (s : Side Logged). at s server) same))),
        remains server side.state next.state next.progress follows out (ap (λ (s : Side Logged). s.state) same),
      )
  call_answered accepts side next server bytes nonce taken sent follows others out alike
      (inr (inr (answer, state, whole, answers, (all, is, same)))) =
      let step = read_answered accepts side.expected server side.state state nonce _ answer follows others out
      (λ turn frame due spells in_turn. alike turn frame due whole spells in_turn) answers in (
        step.0,
        inr (inr (answer, step.0, whole, step.1, (all, is, ap (λ (s : Side Logged). at s step.0) same))),
        (
          subst (λ (l : Logged). Follow step.0 l) (sym (ap (λ (s : Side Logged). s.state) same)) step.2.0,
          λ goes. step.2.1 (sym (ap (λ (s : Side Logged). s.progress) same) ∙ goes),
        ),
      )
