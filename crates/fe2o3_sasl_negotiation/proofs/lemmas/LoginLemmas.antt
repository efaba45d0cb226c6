-- A side has logged in exactly where its last reply is an Ok.
use Rattle.std.proofs.Common.{◌≡◌, ◌≢◌, ◌↔◌, ◌⊎◌, ℕ, Bool, ◌+◌, ◌<◌, ◌≤◌, List, [], ◌∷◌, length, sym, ap, ◌∙◌, refl, inl, inr, arith}
use Rattle.fe2o3_sasl_wire.specs.declared.amqp_types.SaslCode.TheVariants as outcomes
use Rattle.fe2o3_sasl_wire.specs.declared.sasl_frames.error.Error.{Error}
use Rattle.fe2o3_sasl_wire.specs.declared.sasl_frames.error.Error.TheVariants as faults
use Rattle.fe2o3_sasl_wire.specs.SaslFrames.{SaslFrame}
use Rattle.fe2o3_scram.specs.ScramServer.{Initial}
use Rattle.fe2o3_sasl_core.specs.Events.{Given, ServerSays, Challenged, Concluded, Failed, ClientSays, Started, Answered, Reported, Refused as ClientRefused}
use Rattle.fe2o3_sasl_core.specs.Profiles.{accepts_signature_by_challenge, scram_profile}
use Rattle.fe2o3_sasl_core.specs.Runs.{AcceptorSteps, ProfileSteps}
use Rattle.fe2o3_sasl_core.specs.SaslAcceptor.{ScramAcceptor, acceptor_machine, acceptor_user}
use Rattle.fe2o3_sasl_core.proofs.lemmas.two_sides.HeadlineLemmas.{answers_ok_exactly, reports_ok_exactly, taken_verifiers_agree}
use Rattle.fe2o3_sasl_core.proofs.lemmas.machines.ClientMachineLemmas.{profile_runs_are_histories}
use Rattle.fe2o3_sasl_core.proofs.lemmas.machines.ServerMachineLemmas.{acceptor_runs_are_histories, acceptor_runs_name_users}
use Rattle.fe2o3_sasl_negotiation.specs.declared.progress.CloseReason.{CloseReason}
use Rattle.fe2o3_sasl_negotiation.specs.declared.progress.CloseReason.TheVariants.{FrameSize, UnexpectedFrame, ReplyTooLarge, Refused}
use Rattle.fe2o3_sasl_negotiation.specs.declared.progress.Expected.{Expected}
use Rattle.fe2o3_sasl_negotiation.specs.declared.progress.Expected.TheVariants.{Frame}
use Rattle.fe2o3_sasl_negotiation.specs.declared.progress.Progress.{Progress}
use Rattle.fe2o3_sasl_negotiation.specs.declared.progress.Progress.TheVariants.{InProgress, Authenticated}
use Rattle.fe2o3_sasl_negotiation.specs.declared.progress.FrameKind.{FrameKind}
use Rattle.fe2o3_sasl_negotiation.specs.declared.progress.FrameKind.TheVariants as turns
use Rattle.fe2o3_sasl_negotiation.specs.ClientNegotiation as of_client
use Rattle.fe2o3_sasl_negotiation.specs.Connections.{Piece, LeftOver, Replied, Negotiated, LastReply, IsOkSent, IsOkReported, ServerConnectionsLogIn, ClientConnectionsLogIn}
use Rattle.fe2o3_sasl_negotiation.specs.Negotiations.{Side, SideOutput, Sends, closes}
use Rattle.fe2o3_sasl_negotiation.specs.ScramConnections.{ScramServersServe, ScramClientsReport}
use Rattle.fe2o3_sasl_negotiation.specs.ServerNegotiation as of_server
use Rattle.fe2o3_sasl_negotiation.proofs.lemmas.ConnectionLemmas.{closed_is_not_logged_in}
use Rattle.fe2o3_sasl_negotiation.proofs.lemmas.KindLemmas.{progress_of}
use Rattle.fe2o3_sasl_core.specs.declared.sasl_profile.error.ProfileError.{ProfileError}
use Rattle.fe2o3_sasl_core.specs.declared.sasl_profile.error.ProfileError.TheVariants.{NotImplemented, Scram, StaleKeys, Frame as FrameFault, OutOfMemory}

-- an answer has logged in, and that exactly on an Ok
abbrev Kind : Type 0 → SideOutput → Type 0
Kind Is answer = ((answer.progress ≡ Authenticated) × Is) ⊎ ((answer.progress ≢ Authenticated) × ¬ Is)

not_in : (answer : SideOutput) (progress : Progress) (Is : Type 0) → progress ≢ Authenticated → answer.progress ≡ progress → ¬ Is
    → Kind Is answer
not_in answer progress Is out at other = inr ((λ logged. out (sym at ∙ logged)), other)

in_progress_is_not_authenticated : InProgress ≢ Authenticated
in_progress_is_not_authenticated same = cc

-- what is sent and is no Ok
sends_kind : (body : List ℕ) (progress : Progress) (expected : Expected) (answer : SideOutput) (Is : Type 0)
    → progress ≢ Authenticated
    → ¬ Is → Sends body progress expected answer → Kind Is answer
sends_kind body progress expected answer Is out other (inl (fits, same)) =
    not_in answer progress Is out (progress_of answer _ same) other
sends_kind body progress expected answer Is out other (inr (long, same)) =
    not_in answer _ Is (closed_is_not_logged_in ReplyTooLarge) (progress_of answer _ same) other

closes_kind : (why : CloseReason) (expected : Expected) (answer : SideOutput) (Is : Type 0) → ¬ Is → answer ≡ closes why expected
    → Kind Is answer
closes_kind why expected answer Is other same =
    not_in answer _ Is (closed_is_not_logged_in why) (progress_of answer _ same) other

-- ---- replies of a server

challenge_is_no_ok : (body : List ℕ) → ¬ IsOkSent (Challenged body)
challenge_is_no_ok body (other, same, fits) = cc

fault_is_no_ok : (fault : Error) → ¬ IsOkSent (Failed fault)
fault_is_no_ok fault (other, same, fits) = cc

server_kind : (says : ServerSays) (turn : FrameKind) (answer : SideOutput) → of_server.ServerOutputs says turn answer
    → Kind (IsOkSent says) answer
server_kind (Challenged body) turn answer sends =
    sends_kind body InProgress (Frame turns.Response) answer _ in_progress_is_not_authenticated (challenge_is_no_ok body) sends
server_kind (Concluded outcomes.Ok body) turn answer (inl (fits, same)) =
    inl (progress_of answer _ same, (body, refl, fits))
server_kind (Concluded outcomes.Ok body) turn answer (inr (long, same)) =
    not_in answer _ _ (closed_is_not_logged_in ReplyTooLarge) (progress_of answer _ same)
    (λ ok. too_long body ok.0 ok.1 ok.2 long)
  where
    too_long : (body other : List ℕ) → Concluded outcomes.Ok body ≡ Concluded outcomes.Ok other
        → length other + 4 ≤ 512 → ¬ (512 < length body + 4)
    too_long body other same fits long =
        let one : body ≡ other = cc in omega (arith, long, fits, ap length one)
server_kind (Concluded outcomes.Auth body) turn answer sends =
    sends_kind body _ (Frame turn) answer _ (closed_is_not_logged_in (Refused outcomes.Auth))
    (λ ok. let apart = ok.1 in absurd (cc)) sends
server_kind (Concluded outcomes.Sys body) turn answer sends =
    sends_kind body _ (Frame turn) answer _ (closed_is_not_logged_in (Refused outcomes.Sys))
    (λ ok. let apart = ok.1 in absurd (cc)) sends
server_kind (Concluded outcomes.SysPerm body) turn answer sends =
    sends_kind body _ (Frame turn) answer _ (closed_is_not_logged_in (Refused outcomes.SysPerm))
    (λ ok. let apart = ok.1 in absurd (cc)) sends
server_kind (Concluded outcomes.SysTemp body) turn answer sends =
    sends_kind body _ (Frame turn) answer _ (closed_is_not_logged_in (Refused outcomes.SysTemp))
    (λ ok. let apart = ok.1 in absurd (cc)) sends
server_kind (Failed faults.OutOfMemory) turn answer never = absurd never
server_kind (Failed faults.DecodeError) turn answer is = closes_kind _ _ answer _ (fault_is_no_ok faults.DecodeError) is
server_kind (Failed faults.NotImplemented) turn answer is =
    closes_kind _ _ answer _ (fault_is_no_ok faults.NotImplemented) is
server_kind (Failed faults.TooLarge) turn answer is = closes_kind _ _ answer _ (fault_is_no_ok faults.TooLarge) is

-- ---- replies of a client

started_is_no_ok : (body : List ℕ) → ¬ IsOkReported (Started body)
started_is_no_ok body (more, same) = cc

answered_is_no_ok : (body : List ℕ) → ¬ IsOkReported (Answered body)
answered_is_no_ok body (more, same) = cc

refused_is_no_ok : (fault : ProfileError) → ¬ IsOkReported (ClientRefused fault)
refused_is_no_ok fault (more, same) = cc

started_kind : (signs : Bool) (body : List ℕ) (turn : FrameKind) (answer : SideOutput)
    → of_client.ClientOutputs signs (Started body) turn answer → Kind (IsOkReported (Started body)) answer
started_kind signs body turns.Mechanisms answer sends =
    sends_kind body InProgress (Frame turns.Challenge) answer _ in_progress_is_not_authenticated (started_is_no_ok body) sends
started_kind signs body turns.Init answer is = closes_kind UnexpectedFrame _ answer _ (started_is_no_ok body) is
started_kind signs body turns.Challenge answer is = closes_kind UnexpectedFrame _ answer _ (started_is_no_ok body) is
started_kind signs body turns.Response answer is = closes_kind UnexpectedFrame _ answer _ (started_is_no_ok body) is
started_kind signs body turns.Outcome answer is = closes_kind UnexpectedFrame _ answer _ (started_is_no_ok body) is
started_kind signs body turns.SignatureChallenge answer is =
    closes_kind UnexpectedFrame _ answer _ (started_is_no_ok body) is

answered_kind : (signs : Bool) (body : List ℕ) (turn : FrameKind) (answer : SideOutput)
    → of_client.ClientOutputs signs (Answered body) turn answer → Kind (IsOkReported (Answered body)) answer
answered_kind signs body turns.Challenge answer sends =
    sends_kind body InProgress (Frame (of_client.client_follows signs turns.Challenge)) answer _
    in_progress_is_not_authenticated (answered_is_no_ok body) sends
answered_kind signs body turns.SignatureChallenge answer sends =
    sends_kind body InProgress (Frame (of_client.client_follows signs turns.SignatureChallenge)) answer _
    in_progress_is_not_authenticated (answered_is_no_ok body) sends
answered_kind signs body turns.Mechanisms answer is = closes_kind UnexpectedFrame _ answer _ (answered_is_no_ok body) is
answered_kind signs body turns.Init answer is = closes_kind UnexpectedFrame _ answer _ (answered_is_no_ok body) is
answered_kind signs body turns.Response answer is = closes_kind UnexpectedFrame _ answer _ (answered_is_no_ok body) is
answered_kind signs body turns.Outcome answer is = closes_kind UnexpectedFrame _ answer _ (answered_is_no_ok body) is

client_kind : (signs : Bool) (says : ClientSays) (turn : FrameKind) (answer : SideOutput)
    → of_client.ClientOutputs signs says turn answer → Kind (IsOkReported says) answer
client_kind signs (Started body) turn answer said = started_kind signs body turn answer said
client_kind signs (Answered body) turn answer said = answered_kind signs body turn answer said
client_kind signs (Reported outcomes.Ok more) turn answer same = inl (progress_of answer _ same, (more, refl))
client_kind signs (Reported outcomes.Auth more) turn answer same =
    closes_kind (Refused outcomes.Auth) _ answer _ (λ ok. let apart = ok.1 in absurd (cc)) same
client_kind signs (Reported outcomes.Sys more) turn answer same =
    closes_kind (Refused outcomes.Sys) _ answer _ (λ ok. let apart = ok.1 in absurd (cc)) same
client_kind signs (Reported outcomes.SysPerm more) turn answer same =
    closes_kind (Refused outcomes.SysPerm) _ answer _ (λ ok. let apart = ok.1 in absurd (cc)) same
client_kind signs (Reported outcomes.SysTemp more) turn answer same =
    closes_kind (Refused outcomes.SysTemp) _ answer _ (λ ok. let apart = ok.1 in absurd (cc)) same
client_kind signs (ClientRefused OutOfMemory) turn answer never = absurd never
client_kind signs (ClientRefused NotImplemented) turn answer closed =
    closes_kind _ _ answer _ (refused_is_no_ok NotImplemented) closed
client_kind signs (ClientRefused (Scram fault)) turn answer closed =
    closes_kind _ _ answer _ (refused_is_no_ok (Scram fault)) closed
client_kind signs (ClientRefused StaleKeys) turn answer closed =
    closes_kind _ _ answer _ (refused_is_no_ok StaleKeys) closed
client_kind signs (ClientRefused (FrameFault fault)) turn answer closed =
    closes_kind _ _ answer _ (refused_is_no_ok (FrameFault fault)) closed

-- ---- negotiations

module _ {S A : Type 0} (Steps : S → Given → A → S → Type 0) (Says : A → FrameKind → SideOutput → Type 0) (Is : A → Type 0)
    (kind : (says : A) (turn : FrameKind) (answer : SideOutput) → Says says turn answer → Kind (Is says) answer) where
  by_last : (follows : FrameKind → FrameKind) (turn : FrameKind) (replies : List A) (answer : SideOutput)
      → Replied Says follows turn replies answer → (answer.progress ≡ Authenticated) ↔ LastReply Is replies
  by_last follows turn [] answer replied = (
    (λ logged. in_progress_is_not_authenticated (sym (ap (λ (a : SideOutput). a.progress) replied) ∙ logged)),
    (λ none. absurd none),
  )
  by_last follows turn (says ∷ []) answer said = go (kind says turn answer said)
    where
      go : Kind (Is says) answer → (answer.progress ≡ Authenticated) ↔ Is says
      go (inl both) = ((λ _. both.1), (λ _. both.0))
      go (inr neither) = ((λ logged. absurd (neither.0 logged)), (λ ok. absurd (neither.1 ok)))
  by_last follows turn (says ∷ next ∷ replies) answer (first, rest, said, went, replied, is) =
      let others = by_last follows (follows turn) (next ∷ replies) rest replied in
      let at : answer.progress ≡ rest.progress = ap (λ (a : SideOutput). a.progress) is in
      ((λ logged. others.0 (sym at ∙ logged)), (λ ok. at ∙ others.1 ok))

  logs_in : (follows : FrameKind → FrameKind) (turn : FrameKind) (limit : ℕ) (state : S) (pieces : List Piece)
      (taken sent : List ℕ) (last : Side S)
      (n : Negotiated Steps Says follows turn limit state pieces taken sent last)
      → (last.progress ≡ Authenticated) ↔ LastReply Is n.replies
  logs_in follows turn limit state pieces taken sent last n = go n.ends
    where
      both : (n.answer.progress ≡ Authenticated) ↔ LastReply Is n.replies
      both = by_last follows turn n.replies n.answer n.replied

      out : (due : FrameKind) → LeftOver due limit n.tail last.progress → last.progress ≢ Authenticated
      out due (inl part) logged = in_progress_is_not_authenticated (sym part.1 ∙ logged)
      out due (inr (inl size)) logged = closed_is_not_logged_in FrameSize (sym size.2 ∙ logged)
      out due (inr (inr frame)) logged = closed_is_not_logged_in frame.2 (sym frame.7 ∙ logged)

      go : ((due : FrameKind) × (n.answer.progress ≡ InProgress) × (n.answer.expected ≡ Frame due)
          × LeftOver due limit n.tail last.progress)
          ⊎ ((n.answer.progress ≢ InProgress) × (last.progress ≡ n.answer.progress) × (n.tail ≡ []))
          → (last.progress ≡ Authenticated) ↔ LastReply Is n.replies
      go (inl waiting) = (
        (λ logged. absurd (out waiting.0 waiting.3 logged)),
        (λ ok. absurd (in_progress_is_not_authenticated (sym waiting.1 ∙ both.1 ok))),
      )
      go (inr ended) = ((λ logged. both.0 (sym ended.1 ∙ logged)), (λ ok. ended.1 ∙ both.1 ok))

pub servers_log_in : {S : Type 0} (machine : S → List ℕ → SaslFrame → SaslFrame → S → Type 0) → ServerConnectionsLogIn machine
servers_log_in machine limit state pieces taken sent last n =
    logs_in (AcceptorSteps machine) of_server.ServerOutputs IsOkSent server_kind of_server.server_follows turns.Init limit state
    pieces taken sent last n

pub clients_log_in : ClientConnectionsLogIn ProfileSteps
clients_log_in hostname limit profile pieces taken sent last n =
    let signs = accepts_signature_by_challenge profile in
    logs_in (ProfileSteps hostname) (of_client.ClientOutputs signs) IsOkReported (client_kind signs)
    (of_client.client_follows signs) turns.Mechanisms limit profile pieces taken sent last n

pub scram_servers_serve : ScramServersServe acceptor_machine (λ provider. ScramAcceptor provider Initial) acceptor_user
scram_servers_serve provider limit pieces taken sent last n =
    let history = acceptor_runs_are_histories provider n.events n.replies last.state n.run in
    record {
      history = history;
      exactly = answers_ok_exactly provider n.events n.replies history;
      user = λ user. acceptor_runs_name_users provider n.events n.replies last.state user n.run;
    }

pub scram_clients_report : ScramClientsReport ProfileSteps scram_profile
scram_clients_report login limit pieces taken sent last n =
    let history = profile_runs_are_histories login n.events n.replies last.state n.run in
    record {
      history = history;
      exactly = reports_ok_exactly login n.events n.replies history;
      agreement = taken_verifiers_agree login n.events n.replies history;
    }
