-- A client of SCRAM completes its login only by an outcome Ok, which ends the connection's login (RFC 5802, section 5):
-- `received_open`.
use Rattle.std.proofs.Common.{refl, sym, ap, subst, inl, inr, ◌∙◌, ◌≡◌, ◌≢◌, ℕ, List}
use Rattle.std.specs.Prelude.{Bool, true, false, Option, Some, None, Result, Ok, Err, drop}
use Rattle.fe2o3_sasl_wire.specs.declared.amqp_types.SaslCode.TheVariants as outcomes
use Rattle.fe2o3_sasl_wire.specs.declared.sasl_frames.error.Error.{Error}
use Rattle.fe2o3_sasl_wire.specs.SaslFrames as frames
use Rattle.fe2o3_sasl_wire.specs.SaslFrames.{SaslFrame, canonical}
use Rattle.fe2o3_scram.specs.ScramClient.{AnswersIn, ChecksSignatureIn, ClientSide, ClientState, ClientInitial, ClientFirstSent, ClientFinalSent, SignatureVerified, Complete, ConcludesIn, VerifiesIn, expects_signature, is_complete}
use Rattle.fe2o3_scram.specs.declared.scram_messages.error.ScramErrorKind.{ScramErrorKind}
use Rattle.fe2o3_sasl_core.specs.Bodies.{carried as sent_or_not}
use Rattle.fe2o3_sasl_core.specs.Events.{ClientSays, Given, Reported}
use Rattle.fe2o3_sasl_core.specs.Profiles.{AnonymousProfile, ExternalProfile, MessageProfile, PlainProfile, PolicyProfile, Profile, ScramProfile, after_init, accepts_signature_by_challenge}
use Rattle.fe2o3_sasl_core.specs.ProfileMachine.{ChallengeReplies, client_frame, profile_machine}
use Rattle.fe2o3_sasl_core.specs.Runs.{ProfileGives, Replies}
use Rattle.fe2o3_sasl_core.specs.declared.sasl_profile.error.ProfileError.{ProfileError}
use Rattle.fe2o3_sasl_negotiation.specs.ClientNegotiation.{ClientOutputs, ClientSideAnswers}
use Rattle.fe2o3_sasl_negotiation.specs.Negotiations.{Reading, ReceivesAt, Side, SideOutput}
use Rattle.fe2o3_sasl_negotiation.specs.declared.progress.Expected.{Expected}
use Rattle.fe2o3_sasl_negotiation.specs.declared.progress.Expected.TheVariants.{Header, Frame}
use Rattle.fe2o3_sasl_negotiation.specs.declared.progress.FrameKind.{FrameKind}
use Rattle.fe2o3_sasl_negotiation.specs.declared.progress.Progress.{Progress}
use Rattle.fe2o3_sasl_negotiation.specs.declared.progress.Progress.TheVariants.{InProgress, Authenticated}
use Rattle.sasl_c.proofs.ClientReachLemmas.{anonymous_stays, external_stays, message_stays, plain_stays}
use Rattle.sasl_c.proofs.ClientReplyLemmas.{answers_read}

-- whether a profile is of a client of SCRAM that has completed its login
abbrev pub is_done : Profile → Bool
is_done (ScramProfile side) = is_complete side.state
is_done profile = false

abbrev IsOpen : Profile → Type 0
IsOpen profile = is_done profile ≡ false

-- a step that does not report an outcome Ok leaves the login open
abbrev OpenUnless : Result SaslFrame ProfileError → Profile → Type 0
OpenUnless (Ok (frames.Outcome outcomes.Ok more)) moved = Unit {0}
OpenUnless reply moved = IsOpen moved

still : (reply : Result SaslFrame ProfileError) (moved : Profile) → IsOpen moved → OpenUnless reply moved
still (Ok (frames.Outcome outcomes.Ok more)) moved goes = tt
still (Ok (frames.Outcome code more)) moved goes = goes
still (Ok (frames.Mechanisms names)) moved goes = goes
still (Ok (frames.Init mechanism response host)) moved goes = goes
still (Ok (frames.Challenge text)) moved goes = goes
still (Ok (frames.Response text)) moved goes = goes
still (Err fault) moved goes = goes

same_open : (profile moved : Profile) → moved ≡ profile → IsOpen profile → IsOpen moved
same_open profile moved same goes = ap is_done same ∙ goes

side_open : (client after : ClientSide) → after ≡ client → is_complete client.state ≡ false → is_complete after.state ≡ false
side_open client after same goes = ap (λ (s : ClientSide). is_complete s.state) same ∙ goes

answered_open : (state : ClientState) (client after : ClientSide) (text : List ℕ) (answer : Result (List ℕ) ScramErrorKind)
    → AnswersIn state client text answer after → is_complete client.state ≡ false → is_complete after.state ≡ false
answered_open (ClientFirstSent nonce bare) client after text (Ok message) is goes =
    ap (λ (s : ClientSide). is_complete s.state) is.3
answered_open ClientInitial client after text (Ok message) is goes = absurd is
answered_open (ClientFinalSent signature keys) client after text (Ok message) is goes = absurd is
answered_open (SignatureVerified keys) client after text (Ok message) is goes = absurd is
answered_open (Complete keys) client after text (Ok message) is goes = absurd is
answered_open ClientInitial client after text (Err fault) is goes = side_open client after is.1 goes
answered_open (ClientFirstSent nonce bare) client after text (Err fault) is goes = side_open client after is.1 goes
answered_open (ClientFinalSent signature keys) client after text (Err fault) is goes = side_open client after is.1 goes
answered_open (SignatureVerified keys) client after text (Err fault) is goes = side_open client after is.1 goes
answered_open (Complete keys) client after text (Err fault) is goes = side_open client after is.1 goes

checked_open : (state : ClientState) (client after : ClientSide) (text : List ℕ) (answer : Result (Unit {0}) ScramErrorKind)
    → ChecksSignatureIn state client text answer after → is_complete client.state ≡ false → is_complete after.state ≡ false
checked_open (ClientFinalSent signature keys) client after text (Ok verified) is goes =
    ap (λ (s : ClientSide). is_complete s.state) is.1
checked_open ClientInitial client after text (Ok verified) is goes = absurd is
checked_open (ClientFirstSent nonce bare) client after text (Ok verified) is goes = absurd is
checked_open (SignatureVerified keys) client after text (Ok verified) is goes = absurd is
checked_open (Complete keys) client after text (Ok verified) is goes = absurd is
checked_open ClientInitial client after text (Err fault) is goes = side_open client after is.1 goes
checked_open (ClientFirstSent nonce bare) client after text (Err fault) is goes = side_open client after is.1 goes
checked_open (ClientFinalSent signature keys) client after text (Err fault) is goes = side_open client after is.1 goes
checked_open (SignatureVerified keys) client after text (Err fault) is goes = side_open client after is.1 goes
checked_open (Complete keys) client after text (Err fault) is goes = side_open client after is.1 goes

verified_open : (state : ClientState) (client after : ClientSide) (text : List ℕ) (fault : ScramErrorKind)
    → VerifiesIn state client text (Err fault) after → is_complete client.state ≡ false → is_complete after.state ≡ false
verified_open ClientInitial client after text fault is goes = side_open client after is.1 goes
verified_open (ClientFirstSent nonce bare) client after text fault is goes = side_open client after is.1 goes
verified_open (ClientFinalSent signature keys) client after text fault is goes = side_open client after is.1 goes
verified_open (SignatureVerified keys) client after text fault is goes = side_open client after is.1 goes
verified_open (Complete keys) client after text fault is goes = side_open client after is.1 goes

concluded_open : (state : ClientState) (client after : ClientSide) (fault : ScramErrorKind)
    → ConcludesIn state client (Err fault) after → is_complete client.state ≡ false → is_complete after.state ≡ false
concluded_open ClientInitial client after fault is goes = side_open client after is.1 goes
concluded_open (ClientFirstSent nonce bare) client after fault is goes = side_open client after is.1 goes
concluded_open (ClientFinalSent signature keys) client after fault is goes = side_open client after is.1 goes
concluded_open (SignatureVerified keys) client after fault is goes = absurd is
concluded_open (Complete keys) client after fault is goes = side_open client after is.1 goes

challenged_open : (signs : Bool) (client : ClientSide) (text : List ℕ) (reply : Result SaslFrame ProfileError)
    (moved : Profile) → ChallengeReplies signs client text reply moved → is_complete client.state ≡ false → IsOpen moved
challenged_open false client text reply moved (answer, after, is, replies, same) goes =
    ap is_done same ∙ answered_open client.state client after text answer is goes
challenged_open true client text reply moved (answer, after, is, replies, same) goes =
    ap is_done same ∙ checked_open client.state client after text answer is goes

verified_ends : (client after : ClientSide) (text : List ℕ) (reply : Result SaslFrame ProfileError) (moved : Profile)
    (answer : Result (Unit {0}) ScramErrorKind) → VerifiesIn client.state client text answer after
    → reply ≡ client_frame (λ verified. frames.Outcome outcomes.Ok (Some text)) answer → moved ≡ ScramProfile after
    → is_complete client.state ≡ false → OpenUnless reply moved
verified_ends client after text reply moved (Ok verified) is replies same goes =
    subst (λ (r : Result SaslFrame ProfileError). OpenUnless r moved) (sym replies) tt
verified_ends client after text reply moved (Err fault) is replies same goes =
    still reply moved (ap is_done same ∙ verified_open client.state client after text fault is goes)

concluded_ends : (client after : ClientSide) (reply : Result SaslFrame ProfileError) (moved : Profile)
    (answer : Result (Unit {0}) ScramErrorKind) → ConcludesIn client.state client answer after
    → reply ≡ client_frame (λ verified. frames.Outcome outcomes.Ok None) answer → moved ≡ ScramProfile after
    → is_complete client.state ≡ false → OpenUnless reply moved
concluded_ends client after reply moved (Ok verified) is replies same goes =
    subst (λ (r : Result SaslFrame ProfileError). OpenUnless r moved) (sym replies) tt
concluded_ends client after reply moved (Err fault) is replies same goes =
    still reply moved (ap is_done same ∙ concluded_open client.state client after fault is goes)

scram_open : (client : ClientSide) (hostname : Option (List ℕ)) (nonce : List ℕ) (frame : SaslFrame)
    (reply : Result SaslFrame ProfileError) (moved : Profile)
    → profile_machine (ScramProfile client) hostname nonce frame reply moved → is_complete client.state ≡ false
    → OpenUnless reply moved
scram_open client hostname nonce (frames.Mechanisms names) reply moved (inl is) goes = still reply moved (ap is_done is.2)
scram_open client hostname nonce (frames.Mechanisms names) reply moved (inr is) goes =
    still reply moved (same_open (ScramProfile client) moved is.2 goes)
scram_open client hostname nonce (frames.Challenge text) reply moved (inl is) goes =
    still reply moved (same_open (ScramProfile client) moved is.2 goes)
scram_open client hostname nonce (frames.Challenge text) reply moved (inr is) goes =
    still reply moved (challenged_open (expects_signature client) client text reply moved is.1 goes)
scram_open client hostname nonce (frames.Outcome outcomes.Ok None) reply moved (answer, after, is, replies, same) goes =
    concluded_ends client after reply moved answer is replies same goes
scram_open client hostname nonce (frames.Outcome outcomes.Ok (Some text)) reply moved (answer, after, is, replies, same) goes =
    verified_ends client after text reply moved answer is replies same goes
scram_open client hostname nonce (frames.Outcome code more) reply moved is goes =
    still reply moved (same_open (ScramProfile client) moved is.1 goes)
scram_open client hostname nonce (frames.Init mechanism response host) reply moved is goes =
    still reply moved (same_open (ScramProfile client) moved is.1 goes)
scram_open client hostname nonce (frames.Response text) reply moved is goes =
    still reply moved (same_open (ScramProfile client) moved is.1 goes)

-- nor is a profile that has sent its init
started_open : (profile : Profile) (nonce : List ℕ) → is_done (after_init profile nonce) ≡ false
started_open (ScramProfile client) nonce = refl
started_open (PlainProfile identity user password) nonce = refl
started_open AnonymousProfile nonce = refl
started_open ExternalProfile nonce = refl
started_open (MessageProfile mechanism message is_due) nonce = refl
started_open (PolicyProfile selection) nonce = refl

machine_open : (profile : Profile) (hostname : Option (List ℕ)) (nonce : List ℕ) (frame : SaslFrame)
    (reply : Result SaslFrame ProfileError) (moved : Profile) → profile_machine profile hostname nonce frame reply moved
    → IsOpen profile → OpenUnless reply moved
machine_open (ScramProfile client) hostname nonce frame reply moved is goes =
    scram_open client hostname nonce frame reply moved is goes
machine_open (PlainProfile identity user password) hostname nonce frame reply moved is goes =
    still reply moved (ap is_done (plain_stays identity user password hostname nonce frame reply moved is))
machine_open AnonymousProfile hostname nonce frame reply moved is goes =
    still reply moved (ap is_done (anonymous_stays hostname nonce frame reply moved is))
machine_open ExternalProfile hostname nonce frame reply moved is goes =
    still reply moved (ap is_done (external_stays hostname nonce frame reply moved is))
machine_open (PolicyProfile selection) hostname nonce (frames.Mechanisms names) reply moved (inl (chosen, selected, sends, to))
    goes = still reply moved (ap is_done to ∙ started_open chosen nonce)
machine_open (PolicyProfile selection) hostname nonce (frames.Mechanisms names) reply moved (inr none) goes =
    still reply moved (ap is_done none.2)
machine_open (PolicyProfile selection) hostname nonce frame reply moved is goes = still reply moved (ap is_done is.1)
machine_open (MessageProfile mechanism message is_due) hostname nonce frame reply moved is goes =
    still reply moved (ap is_done (message_stays mechanism message is_due hostname nonce frame reply moved is).1)

-- ---- what a side answers

-- the answer does not report an outcome Ok
abbrev IsNoOk : ClientSays → Type 0
IsNoOk says = (more : Option (List ℕ)) → says ≢ Reported outcomes.Ok more

sent_open : (profile moved last : Profile) (body : Option (List ℕ)) → IsOpen profile → IsOpen moved
    → last ≡ sent_or_not profile (λ _. moved) body → IsOpen last
sent_open profile moved last None goes later same = same_open profile last same goes
sent_open profile moved last (Some body) goes later same = same_open moved last same later

replied_open : (profile moved last : Profile) (reply : Result SaslFrame ProfileError) (says : ClientSays) → IsOpen profile
    → OpenUnless reply moved → IsNoOk says → Replies profile moved reply says last → IsOpen last
replied_open profile moved last (Err fault) says goes later none is = same_open moved last is.1 later
replied_open profile moved last (Ok (frames.Outcome outcomes.Ok more)) says goes later none is = absurd (none more is.0)
replied_open profile moved last (Ok (frames.Outcome code more)) says goes later none is = same_open moved last is.1 later
replied_open profile moved last (Ok (frames.Init mechanism response host)) says goes later none is =
    sent_open profile moved last (canonical (frames.Init mechanism response host)) goes later is.1
replied_open profile moved last (Ok (frames.Response text)) says goes later none is =
    sent_open profile moved last (canonical (frames.Response text)) goes later is.1
replied_open profile moved last (Ok (frames.Mechanisms names)) says goes later none is =
    sent_open profile moved last (canonical (frames.Mechanisms names)) goes later is.1
replied_open profile moved last (Ok (frames.Challenge text)) says goes later none is =
    sent_open profile moved last (canonical (frames.Challenge text)) goes later is.1

gives_open : (hostname : Option (List ℕ)) (profile last : Profile) (event : Given) (spelled : Result SaslFrame Error)
    (says : ClientSays) → IsOpen profile → IsNoOk says → ProfileGives hostname profile event spelled says last → IsOpen last
gives_open hostname profile last event (Err fault) says goes none is = same_open profile last is.1 goes
gives_open hostname profile last event (Ok frame) says goes none (inl is) = same_open profile last is.2 goes
gives_open hostname profile last event (Ok frame) says goes none (inr (reply, moved, is, replies)) =
    replied_open profile moved last reply says goes (machine_open profile hostname event.nonce frame reply moved is goes) none
    replies

-- an outcome Ok that is reported ends the login
no_ok : (signs : Bool) (says : ClientSays) (turn : FrameKind) (answer : SideOutput) → ClientOutputs signs says turn answer
    → answer.progress ≡ InProgress → IsNoOk says
no_ok signs says turn answer outputs goes = λ more same.
    absurd (ends more (subst (λ (s : ClientSays). ClientOutputs signs s turn answer) same outputs))
  where
    other : (stands : Progress) → stands ≡ Authenticated → stands ≡ InProgress → ⊥
    other stands ended waits = absurd (cc)

    ends : (more : Option (List ℕ)) → ClientOutputs signs (Reported outcomes.Ok more) turn answer → ⊥
    ends more is = other answer.progress (ap (λ (a : SideOutput). a.progress) is) goes

answers_open : (hostname : Option (List ℕ)) (expected : Expected) (profile last : Profile) (nonce unit : List ℕ)
    (answer : SideOutput) → IsOpen profile → ClientSideAnswers hostname expected profile nonce unit answer last
    → answer.progress ≡ InProgress → IsOpen last
answers_open hostname Header profile last nonce unit answer goes is waits = same_open profile last is.1 goes
answers_open hostname (Frame turn) profile last nonce unit answer goes (Err fault, spells, unread) waits =
    same_open profile last unread.1 goes
answers_open hostname (Frame turn) profile last nonce unit answer goes (Ok frame, spells, inl out) waits =
    same_open profile last out.2 goes
answers_open hostname (Frame turn) profile last nonce unit answer goes
    (Ok frame, spells, inr (in_turn, (says, steps, outputs))) waits =
    gives_open hostname profile last (record { body = drop 4 unit; nonce = nonce }) steps.0 says goes
    (no_ok (accepts_signature_by_challenge profile) says turn answer outputs waits) steps.2

-- a call that leaves the side waiting leaves the login open
pub received_open : (accepts : Bool) (hostname : Option (List ℕ)) (side next : Side Profile) (bytes nonce : List ℕ) (taken : ℕ)
    (sent : List ℕ) → is_done side.state ≡ false
    → ReceivesAt InProgress (Reading accepts (ClientSideAnswers hostname)) side bytes nonce taken sent next
    → next.progress ≡ InProgress → is_done next.state ≡ false
received_open accepts hostname side next bytes nonce taken sent goes (inl (part, waits)) going =
    same_open side.state next.state (ap (λ (s : Side Profile). s.state) waits.2) goes
received_open accepts hostname side next bytes nonce taken sent goes (inr (inl (refused, ends))) going =
    same_open side.state next.state (ap (λ (s : Side Profile). s.state) ends.2) goes
received_open accepts hostname side next bytes nonce taken sent goes (inr (inr (answer, state, whole, answers, ends))) going =
    let reads = answers_read (ClientSideAnswers hostname) accepts side.expected side.state state nonce _ answer answers in
    same_open state next.state (ap (λ (s : Side Profile). s.state) ends.2)
    (answers_open hostname side.expected side.state state nonce reads.0 answer goes reads.1
    (sym (ap (λ (s : Side Profile). s.progress) ends.2) ∙ going))
