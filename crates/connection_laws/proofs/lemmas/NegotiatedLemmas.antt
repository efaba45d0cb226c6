-- What two negotiations that received each other's frames have said.
use Rattle.std.proofs.Common.{◌≡◌, ◌≢◌, ◌⊎◌, ℕ, Bool, ◌+◌, ◌≤◌, Option, Some, List, [], ◌∷◌, ◌++◌, length, refl, sym, ap, ◌∙◌, subst, inl, inr, arith, Ok}
use Rattle.std.specs.Prelude.{slice_get}
use Rattle.fe2o3_sasl_wire.specs.declared.amqp_types.SaslCode.TheVariants as outcomes
use Rattle.fe2o3_sasl_wire.specs.declared.sasl_frames.error.Error.TheVariants as faults
use Rattle.fe2o3_sasl_wire.specs.SaslFrames as frames
use Rattle.fe2o3_scram.specs.Credentials.{Provider}
use Rattle.fe2o3_sasl_core.specs.Events.{Given, ServerSays, Challenged, Concluded, Failed, ClientSays, Started, Answered, Reported, Refused as ClientRefused}
use Rattle.fe2o3_sasl_core.specs.ServerHistory.{ServerHistory}
use Rattle.fe2o3_sasl_core.proofs.lemmas.frames.SpellingLemmas.{carried_not}
use Rattle.fe2o3_sasl_negotiation.specs.declared.progress.CloseReason.TheVariants.{FrameSize}
use Rattle.fe2o3_sasl_negotiation.specs.declared.progress.Expected.TheVariants.{Frame}
use Rattle.fe2o3_sasl_negotiation.specs.declared.progress.Progress.{Progress}
use Rattle.fe2o3_sasl_negotiation.specs.declared.progress.Progress.TheVariants.{InProgress, Authenticated}
use Rattle.fe2o3_sasl_negotiation.specs.declared.progress.FrameKind.{FrameKind}
use Rattle.fe2o3_sasl_negotiation.specs.declared.progress.FrameKind.TheVariants as turns
use Rattle.fe2o3_sasl_negotiation.specs.ClientNegotiation as of_client
use Rattle.fe2o3_sasl_negotiation.specs.ServerNegotiation as of_server
use Rattle.fe2o3_sasl_negotiation.specs.Connections.{Piece, SpellsTurn, AreFrames, LeftOver, Replied, Negotiated, LastReply, IsOkSent, IsOkReported}
use Rattle.fe2o3_sasl_negotiation.specs.Framing.{framed}
use Rattle.fe2o3_sasl_negotiation.specs.Negotiations.{Side, SideOutput}
use Rattle.fe2o3_sasl_negotiation.proofs.lemmas.ConnectionLemmas.{authenticated_is_not_in_progress, closed_is_not_logged_in}
use Rattle.fe2o3_sasl_negotiation.proofs.lemmas.KindLemmas.{progress_of, closes_waits_not}
use Rattle.connection_laws.proofs.lemmas.ExactSideLemmas.{sends_small}
use Rattle.connection_laws.proofs.lemmas.ServerLemmas.{server_waits}
use Rattle.connection_laws.proofs.lemmas.SmallReplyLemmas.{ServerRow, server_row}
use Rattle.fe2o3_sasl_core.specs.declared.sasl_profile.error.ProfileError.TheVariants.{NotImplemented, Scram, StaleKeys, Frame as FrameFault, OutOfMemory}

-- ---- a side that has logged in has taken whole frames only

in_progress_is_not_authenticated : InProgress ≢ Authenticated
in_progress_is_not_authenticated same = cc

left_is_not_logged_in : (turn : FrameKind) (limit : ℕ) (tail : List ℕ) (progress : Progress)
    → LeftOver turn limit tail progress → progress ≢ Authenticated
left_is_not_logged_in turn limit tail progress (inl part) logged = in_progress_is_not_authenticated (sym part.1 ∙ logged)
left_is_not_logged_in turn limit tail progress (inr (inl size)) logged =
    closed_is_not_logged_in FrameSize (sym size.2 ∙ logged)
left_is_not_logged_in turn limit tail progress (inr (inr frame)) logged =
    closed_is_not_logged_in frame.2 (sym frame.7 ∙ logged)

pub no_tail : {S A : Type 0} (Steps : S → Given → A → S → Type 0) (Says : A → FrameKind → SideOutput → Type 0)
    (follows : FrameKind → FrameKind) (turn : FrameKind) (limit : ℕ) (state : S) (pieces : List Piece)
    (taken sent : List ℕ) (last : Side S) (n : Negotiated Steps Says follows turn limit state pieces taken sent last)
    → last.progress ≡ Authenticated → n.tail ≡ []
no_tail Steps Says follows turn limit state pieces taken sent last n logged = go n.ends
  where
    go : ((turn : FrameKind) × (n.answer.progress ≡ InProgress) × (n.answer.expected ≡ Frame turn)
        × LeftOver turn limit n.tail last.progress)
        ⊎ ((n.answer.progress ≢ InProgress) × (last.progress ≡ n.answer.progress) × (n.tail ≡ [])) → n.tail ≡ []
    go (inl waiting) = absurd (left_is_not_logged_in waiting.0 limit n.tail last.progress waiting.3 logged)
    go (inr ended) = ended.2

-- ---- what was said

-- a body that a client sends in a frame of at most 512 bytes
abbrev Body : {A : Type 0} → (List ℕ → A) → A → SideOutput → Type 0
Body wraps says answer =
    (body : List ℕ) × (says ≡ wraps body) × (length body + 4 ≤ 512) × (answer.sent ≡ framed body)

client_first_waits : (signs : Bool) (says : ClientSays) (answer : SideOutput)
    → of_client.ClientOutputs signs says turns.Mechanisms answer → answer.progress ≡ InProgress
    → Body (λ (b : List ℕ). Started b) says answer
client_first_waits signs (Started body) answer (inl sent) waits = (
  body,
  refl,
  sent.0,
  ap
      (λ (a : SideOutput). a.sent) sent.1,
)
client_first_waits signs (Started body) answer (inr long) waits = absurd (closes_waits_not _ _ answer long.1 waits)
client_first_waits signs (Answered body) answer is waits = absurd (closes_waits_not _ _ answer is waits)
client_first_waits signs (Reported outcomes.Ok more) answer is waits =
    absurd (authenticated_is_not_in_progress (sym (progress_of answer _ is) ∙ waits))
client_first_waits signs (Reported outcomes.Auth more) answer is waits = absurd (closes_waits_not _ _ answer is waits)
client_first_waits signs (Reported outcomes.Sys more) answer is waits = absurd (closes_waits_not _ _ answer is waits)
client_first_waits signs (Reported outcomes.SysPerm more) answer is waits =
    absurd (closes_waits_not _ _ answer is waits)
client_first_waits signs (Reported outcomes.SysTemp more) answer is waits =
    absurd (closes_waits_not _ _ answer is waits)
client_first_waits signs (ClientRefused OutOfMemory) answer never waits = absurd never
client_first_waits signs (ClientRefused NotImplemented) answer closed waits =
    absurd (closes_waits_not _ _ answer closed waits)
client_first_waits signs (ClientRefused (Scram fault)) answer closed waits =
    absurd (closes_waits_not _ _ answer closed waits)
client_first_waits signs (ClientRefused StaleKeys) answer closed waits =
    absurd (closes_waits_not _ _ answer closed waits)
client_first_waits signs (ClientRefused (FrameFault fault)) answer closed waits =
    absurd (closes_waits_not _ _ answer closed waits)

client_next_waits : (signs : Bool) (says : ClientSays) (answer : SideOutput)
    → of_client.ClientOutputs signs says turns.Challenge answer → answer.progress ≡ InProgress
    → Body (λ (b : List ℕ). Answered b) says answer
client_next_waits signs (Answered body) answer (inl sent) waits = (
  body,
  refl,
  sent.0,
  ap
      (λ (a : SideOutput). a.sent) sent.1,
)
client_next_waits signs (Answered body) answer (inr long) waits = absurd (closes_waits_not _ _ answer long.1 waits)
client_next_waits signs (Started body) answer is waits = absurd (closes_waits_not _ _ answer is waits)
client_next_waits signs (Reported outcomes.Ok more) answer is waits =
    absurd (authenticated_is_not_in_progress (sym (progress_of answer _ is) ∙ waits))
client_next_waits signs (Reported outcomes.Auth more) answer is waits = absurd (closes_waits_not _ _ answer is waits)
client_next_waits signs (Reported outcomes.Sys more) answer is waits = absurd (closes_waits_not _ _ answer is waits)
client_next_waits signs (Reported outcomes.SysPerm more) answer is waits = absurd (closes_waits_not _ _ answer is waits)
client_next_waits signs (Reported outcomes.SysTemp more) answer is waits = absurd (closes_waits_not _ _ answer is waits)
client_next_waits signs (ClientRefused OutOfMemory) answer never waits = absurd never
client_next_waits signs (ClientRefused NotImplemented) answer closed waits =
    absurd (closes_waits_not _ _ answer closed waits)
client_next_waits signs (ClientRefused (Scram fault)) answer closed waits =
    absurd (closes_waits_not _ _ answer closed waits)
client_next_waits signs (ClientRefused StaleKeys) answer closed waits =
    absurd (closes_waits_not _ _ answer closed waits)
client_next_waits signs (ClientRefused (FrameFault fault)) answer closed waits =
    absurd (closes_waits_not _ _ answer closed waits)

-- ---- a server that has logged its client in

pub record ServerShape (events : List Given) (replies : List ServerSays) (answer : SideOutput) : Type 0 where
  pub init : Given
  pub response : Given
  pub challenge : List ℕ
  pub outcome : List ℕ
  pub events_are : events ≡ init ∷ response ∷ []
  pub replies_are : replies ≡ Challenged challenge ∷ Concluded outcomes.Ok outcome ∷ []
  pub challenge_small : length challenge + 4 ≤ 512
  pub outcome_small : length outcome + 4 ≤ 512
  pub sent : answer.sent ≡ framed challenge ++ framed outcome

-- an init is not answered by Ok
no_ok_to_init : (provider : Provider) (events : List Given) (replies : List ServerSays) (event : Given)
    (says : ServerSays) (history : ServerHistory provider events replies) (at : slice_get events 0 ≡ Some event)
    (said : slice_get replies 0 ≡ Some says) → SpellsTurn turns.Init event.body → ¬ IsOkSent says
no_ok_to_init provider events replies event says history at said (frames.Init mechanism response hostname, spells, in_turn)
    (outcome, ok, small) =
    go (server_row provider events replies 0 event says history at said (frames.Init mechanism response hostname) spells)
  where
    memory : says ≢ Failed faults.OutOfMemory
    memory failed = cc

    go : ServerRow provider events replies 0 event says history at said (Ok (frames.Init mechanism response hostname)) → ⊥
    go (inl wants) = memory wants.1
    go (inr (inl row)) = carried_not (Failed faults.TooLarge) (λ (b : List ℕ). Challenged b) _
        (Concluded outcomes.Ok outcome) (λ same. cc) (λ b same. cc) (sym row.2 ∙ ok)
    go (inr (inr row)) = carried_not (Failed faults.TooLarge) (λ (b : List ℕ). Concluded outcomes.Auth b) _
        (Concluded outcomes.Ok outcome) (λ same. cc) (λ b same. cc) (sym row.1 ∙ ok)
no_ok_to_init provider events replies event says history at said (frames.Mechanisms names, spells, in_turn) ok =
    absurd in_turn
no_ok_to_init provider events replies event says history at said (frames.Challenge text, spells, in_turn) ok =
    absurd in_turn
no_ok_to_init provider events replies event says history at said (frames.Response text, spells, in_turn) ok =
    absurd in_turn
no_ok_to_init provider events replies event says history at said (frames.Outcome code more, spells, in_turn) ok =
    absurd in_turn

pub server_shape : (provider : Provider) (pieces : List Piece) (limit : ℕ) (events : List Given)
    (replies : List ServerSays) (answer : SideOutput) → ServerHistory provider events replies → length events ≤ 2
    → AreFrames pieces limit 8 of_server.server_follows turns.Init events
    → Replied of_server.ServerOutputs of_server.server_follows turns.Init replies answer → LastReply IsOkSent replies
    → ServerShape events replies answer
server_shape provider pieces limit events [] answer history few are replied last = absurd last
server_shape provider pieces limit [] (g ∷ gs) answer history few are replied last =
    absurd (omega (arith, history.count))
server_shape provider pieces limit (f ∷ fs) (g ∷ []) answer history few are replied last =
    absurd (no_ok_to_init provider (f ∷ fs) (g ∷ []) f g history refl refl are.1 last)
server_shape provider pieces limit (f ∷ []) (g ∷ h ∷ gs) answer history few are replied last =
    absurd (omega (arith, history.count))
server_shape provider pieces limit (f ∷ e ∷ d ∷ fs) (g ∷ h ∷ gs) answer history few are replied last =
    absurd (omega (arith, few))
server_shape provider pieces limit (f ∷ e ∷ []) (g ∷ h ∷ i ∷ gs) answer history few are replied last =
    absurd (omega (arith, history.count))
server_shape provider pieces limit (f ∷ e ∷ []) (g ∷ h ∷ []) answer history few are
    (first, rest, said, went, next, is) (outcome, ok, small) =
    let challenge = server_waits g turns.Init first said went in
    let ends = sends_small outcome Authenticated (Frame turns.Response) rest small
    (subst (λ (s : ServerSays). of_server.ServerOutputs s turns.Response rest) ok next) in
    record {
      init = f;
      response = e;
      challenge = challenge.0;
      outcome = outcome;
      events_are = refl;
      replies_are = ap (λ (s : ServerSays). s ∷ h ∷ []) challenge.1
          ∙ ap (λ (s : ServerSays). Challenged challenge.0 ∷ s ∷ []) ok;
      challenge_small = challenge.2;
      outcome_small = small;
      sent = ap (λ (a : SideOutput). a.sent) is ∙ (ap (λ (a : SideOutput). a.sent ++ rest.sent) challenge.3
          ∙ ap (λ (a : SideOutput). framed challenge.0 ++ a.sent) ends);
    }

-- ---- and its client

pub record ClientShape (replies : List ClientSays) (answer : SideOutput) : Type 0 where
  pub init : List ℕ
  pub response : List ℕ
  pub more : Option (List ℕ)
  pub replies_are : replies ≡ Started init ∷ Answered response ∷ Reported outcomes.Ok more ∷ []
  pub init_small : length init + 4 ≤ 512
  pub response_small : length response + 4 ≤ 512
  pub sent : answer.sent ≡ framed init ++ (framed response ++ [])

pub client_shape : (signs : Bool) (replies : List ClientSays) (answer : SideOutput) → length replies ≡ 3
    → Replied (of_client.ClientOutputs signs) (of_client.client_follows signs) turns.Mechanisms replies answer
    → LastReply IsOkReported replies → ClientShape replies answer
client_shape signs [] answer count replied last = absurd last
client_shape signs (r ∷ []) answer count replied last = absurd (omega (arith, count))
client_shape signs (r ∷ s ∷ []) answer count replied last = absurd (omega (arith, count))
client_shape signs (r ∷ s ∷ t ∷ u ∷ rs) answer count replied last = absurd (omega (arith, count))
client_shape signs (r ∷ s ∷ t ∷ []) answer count
    (first, rest, said, went, (second, end, next, on, ended, at), is) (more, ok) =
    let init = client_first_waits signs r first said went in
    let response = client_next_waits signs s second next on in
    let turn : FrameKind = of_client.client_follows signs turns.Challenge in
    let ends : end ≡ record { sent = []; progress = Authenticated; expected = Frame turn } =
    subst (λ (x : ClientSays). of_client.ClientOutputs signs x turn end) ok ended in
    record {
      init = init.0;
      response = response.0;
      more = more;
      replies_are = ap (λ (x : ClientSays). x ∷ s ∷ t ∷ []) init.1
          ∙ (ap (λ (x : ClientSays). Started init.0 ∷ x ∷ t ∷ []) response.1
          ∙ ap (λ (x : ClientSays). Started init.0 ∷ Answered response.0 ∷ x ∷ []) ok);
      init_small = init.2;
      response_small = response.2;
      sent = ap (λ (a : SideOutput). a.sent) is ∙ (ap (λ (l : List ℕ). l ++ rest.sent) init.3
          ∙ (ap (λ (a : SideOutput). framed init.0 ++ a.sent) at
          ∙ (ap (λ (l : List ℕ). framed init.0 ++ (l ++ end.sent)) response.3
          ∙ ap (λ (a : SideOutput). framed init.0 ++ (framed response.0 ++ a.sent)) ends)));
    }
