-- Laws of every history, and of every two. Each is the contract of a function of `laws` of `fe2o3_sasl`.
use Rattle.std.specs.Prelude.{◌≡◌, ◌≢◌, ◌↔◌, ◌⊎◌, ℕ, suc, ◌<◌, ◌≤◌, Bool, T, true, false, Option, Some, None, List, length, take, slice_get, Ok}
use Rattle.std.specs.List.{Contains, filter}
use Rattle.fe2o3_sasl_wire.specs.declared.amqp_types.SaslCode.TheVariants as outcomes
use Rattle.fe2o3_sasl_wire.specs.declared.sasl_frames.error.Error.TheVariants as faults
use Rattle.fe2o3_sasl_wire.specs.SaslFrames.{IsBytes, SaslFrame}
use Rattle.fe2o3_sasl_wire.specs.SaslFrames as frames
use Rattle.fe2o3_sasl_core.specs.ClientHistory.{Answering, AnswersAt, ClientAllocates, ClientHistory, is_start, is_answer, ends_answer}
use Rattle.fe2o3_scram.specs.BoundChannels.{ServerBinds}
use Rattle.fe2o3_scram.specs.ChannelBinding.{is_strict, HoldsHeaderBytes, AcceptsFlag}
use Rattle.fe2o3_scram.specs.declared.channel_binding.ChannelBinding.{ChannelBinding}
use Rattle.fe2o3_scram.specs.declared.scram_messages.client_channel.ClientChannel.TheVariants.{Absent, Bound}
use Rattle.fe2o3_scram.specs.declared.scram_messages.channel_binding_flag.ChannelBindingFlag.TheVariants.{ClientSupports}
use Rattle.fe2o3_scram.specs.ClientKeys.{ClientKeys}
use Rattle.fe2o3_scram.specs.ClientSecret.{Password, Keys}
use Rattle.fe2o3_scram.specs.Laws.{AreKeysOf}
use Rattle.fe2o3_scram.specs.Passwords.{PasswordText, IsNormal, password_bytes}
use Rattle.fe2o3_scram.specs.Credentials.{Provider, Record}
use Rattle.fe2o3_sasl_core.specs.Events.{Given, AreGiven, Login, is_strict_login, IsLogin, IsRecord, IsSecret, ServerSays, Concluded, Failed, ClientSays, Refused, login_header}
use Rattle.fe2o3_sasl_core.specs.Runs.{Runs, AcceptorSteps, ProfileReplies, ProfileSteps}
use Rattle.fe2o3_sasl_core.specs.SaslAcceptor.{acceptor_machine, acceptor_user, Acceptor, ScramAcceptor}
use Rattle.fe2o3_sasl_core.specs.Profiles.{scram_profile, Profile}
use Rattle.fe2o3_sasl_core.specs.ProfileMachine.{StepAllocates}
use Rattle.fe2o3_sasl_core.specs.Positions.{test_at, IsLastOpen}
use Rattle.fe2o3_sasl_core.specs.Bodies.{SpellsBody, says_frame}
use Rattle.fe2o3_sasl_core.specs.ServerHistory.{Challenging, Accepted, AcceptsAt, LoggedIn, Open, ServerHistory, is_challenge, is_ok, full_nonce}
use Rattle.fe2o3_scram.specs.ScramServer as server_states
use Rattle.fe2o3_sasl_core.specs.TwoSides.{Sides, Histories, ReportedAnswer, Takes, Shows, Agree, HasParts, IsPlainInit, NoneMisplacedIn, client_message, server_message}
use Rattle.fe2o3_sasl_core.specs.Headline.{VerifierAgrees}
use Rattle.fe2o3_sasl_core.specs.UnalteredRuns.{ClientLogsIn, ServerLogsIn}
use Rattle.fe2o3_sasl_core.specs.Verdicts.{Parameters, Verdict, Agreed, JudgesVerifier, JudgesProof, Finding, Audits, AuditsEvents}
use Rattle.fe2o3_sasl_core.specs.Complete.{ClientComplete, ServerComplete}
use Rattle.fe2o3_sasl_core.specs.declared.sasl_profile.error.ProfileError.TheVariants.{StaleKeys, OutOfMemory}

-- this holds of every server history
abbrev pub EveryServer : (Provider → List Given → List ServerSays → Type 0) → Type 0
EveryServer Has = (provider : Provider) (events : List Given) (replies : List ServerSays)
    → ServerHistory provider events replies → Has provider events replies

-- this holds of every client history
abbrev pub EveryClient : (Login → List Given → List ClientSays → Type 0) → Type 0
EveryClient Has = (login : Login) (events : List Given) (replies : List ClientSays)
    → ClientHistory login events replies → Has login events replies

-- a server history without running out of memory is a function of the events
abbrev pub OneServerHistory : Type 0
OneServerHistory = (provider : Provider) (events : List Given) (replies others : List ServerSays)
    → ServerHistory provider events replies → ServerHistory provider events others
    → ServerComplete replies → ServerComplete others → replies ≡ others

-- a client history without running out of memory is a function of the events
abbrev pub OneClientHistory : Type 0
OneClientHistory = (login : Login) (events : List Given) (replies others : List ClientSays)
    → ClientHistory login events replies → ClientHistory login events others
    → ClientComplete replies → ClientComplete others → replies ≡ others

-- each run of the SCRAM acceptor's machine from its first state is a server history
abbrev pub AcceptorRunsAreHistories : Type 0
AcceptorRunsAreHistories = (provider : Provider) (events : List Given) (replies : List ServerSays) (last : Acceptor)
    → Runs (AcceptorSteps acceptor_machine) (ScramAcceptor provider server_states.Initial) events replies last
    → ServerHistory provider events replies

-- after a run from its first state, the acceptor names the user who has logged in by that history
abbrev pub AcceptorRunsNameUsers : Type 0
AcceptorRunsNameUsers = (provider : Provider) (events : List Given) (replies : List ServerSays) (last : Acceptor)
    (user : List ℕ)
    → Runs (AcceptorSteps acceptor_machine) (ScramAcceptor provider server_states.Initial) events replies last
    → (acceptor_user last ≡ Some user) ↔ LoggedIn provider events replies (length replies) user

-- each run of a SCRAM profile's machine from its first state is a client history
abbrev pub ProfileRunsAreHistories : Type 0
ProfileRunsAreHistories = (login : Login) (events : List Given) (replies : List ClientSays) (last : Profile)
    → Runs (ProfileSteps login.hostname) (scram_profile login) events replies last → ClientHistory login events replies

-- no reply is the error for stale keys (RFC 5802, section 3)
abbrev pub KeysFit : List ClientSays → Type 0
KeysFit replies = (k : ℕ) → slice_get replies k ≢ Some (Refused StaleKeys)

-- a run of a SCRAM profile with the keys of a password, in which they are never stale, is a run of the profile with the
-- password (RFC 5802, section 3)
abbrev pub KeyedRunsAreRuns : Type 0
KeyedRunsAreRuns = (login : Login) (keys : ClientKeys) (password : PasswordText) (events : List Given)
    (replies : List ClientSays) (last : Profile) → keys.version ≡ login.version → IsNormal password
    → AreKeysOf keys (password_bytes password)
    → Runs (ProfileSteps login.hostname) (scram_profile (record login { secret = Keys keys })) events replies last
    → KeysFit replies
    → (after : Profile)
    × Runs (ProfileSteps login.hostname) (scram_profile (record login { secret = Password password })) events replies
    after

-- a run of a SCRAM profile with the keys of a password, in which they are never stale, is a client history of the login
-- with the password (RFC 5802, section 3)
abbrev pub KeyedRunsAreHistories : Type 0
KeyedRunsAreHistories = (login : Login) (keys : ClientKeys) (password : PasswordText) (events : List Given)
    (replies : List ClientSays) (last : Profile) → keys.version ≡ login.version → IsNormal password
    → AreKeysOf keys (password_bytes password)
    → Runs (ProfileSteps login.hostname) (scram_profile (record login { secret = Keys keys })) events replies last
    → KeysFit replies → ClientHistory (record login { secret = Password password }) events replies

-- up to each position the outcomes Ok are no more than the challenges
abbrev pub OksWithinChallenges : Type 0
OksWithinChallenges = (provider : Provider) (events : List Given) (replies : List ServerSays) (k : ℕ)
    → ServerHistory provider events replies
    → length (filter is_ok (take k replies)) ≤ length (filter is_challenge (take k replies))

-- after an Ok at n every response is rejected, the accepted one included, until there is a challenge again
abbrev pub RepeatedResponsesAreRefused : Type 0
RepeatedResponsesAreRefused = (provider : Provider) (events : List Given) (replies : List ServerSays) (n k : ℕ)
    (body : List ℕ) (event : Given) (text : List ℕ) (says : ServerSays)
    → ServerHistory provider events replies → n < k → slice_get replies n ≡ Some (Concluded outcomes.Ok body)
    → ((i : ℕ) → n < i → i < k → test_at is_challenge (slice_get replies i) ≡ false)
    → slice_get events k ≡ Some event → SpellsBody event.body (Ok (frames.Response text))
    → slice_get replies k ≡ Some says
    → (says ≡ says_frame (frames.Outcome outcomes.Auth None)) ⊎ (says ≡ Failed faults.OutOfMemory)

-- a response text that is accepted under two challenges was made for one full nonce
abbrev pub OneResponseOneNonce : Type 0
OneResponseOneNonce = (provider : Provider) (events : List Given) (replies : List ServerSays) (n k : ℕ)
    (event again : Given) (text : List ℕ) (accepted other : Accepted)
    → slice_get events n ≡ Some event → slice_get events k ≡ Some again
    → SpellsBody event.body (Ok (frames.Response text)) → SpellsBody again.body (Ok (frames.Response text))
    → AcceptsAt provider events replies n accepted → AcceptsAt provider events replies k other
    → full_nonce accepted.challenge ≡ full_nonce other.challenge

-- a reply that is neither a challenge nor an Ok leaves what was open unchanged
abbrev pub RefusalsLeaveOpen : Type 0
RefusalsLeaveOpen = (provider : Provider) (events : List Given) (replies : List ServerSays) (k : ℕ)
    (challenge : Challenging) → test_at is_challenge (slice_get replies k) ≡ false
    → test_at is_ok (slice_get replies k) ≡ false
    → (Open provider events replies k challenge → Open provider events replies (suc k) challenge)
    × (Open provider events replies (suc k) challenge → Open provider events replies k challenge)

-- two positions that close never have the same one open
abbrev pub CloseApart : {A : Type 0} → (A → Bool) → (A → Bool) → Type 0
CloseApart {A} opens closes = (replies : List A) (j m n : ℕ) → IsLastOpen opens closes replies m j
    → IsLastOpen opens closes replies n j
    → test_at closes (slice_get replies m) ≡ true → test_at closes (slice_get replies n) ≡ true → m ≡ n

-- two Oks of a server never have one open challenge, two reported Oks never one answer, two answers never one start
abbrev pub PositionsAreUsedOnce : Type 0
PositionsAreUsedOnce = CloseApart is_challenge is_ok × CloseApart is_answer ends_answer × CloseApart is_start is_answer

-- the client took the server's verifier, or showed the proof that the server accepted
abbrev pub AreMatched : Sides → Answering → Accepted → Type 0
AreMatched sides answer accepted =
    ((m n : ℕ) × Takes sides m n accepted × ReportedAnswer sides.login sides.client_events sides.client_replies m answer)
    ⊎ ((k n : ℕ) × Shows sides k n answer accepted)

-- two matched histories, over a secret and a record that the code holds, with equal AuthMessages
pub record MatchEqually (sides : Sides) (answer : Answering) (accepted : Accepted) : Type 0 where
  pub histories : Histories sides
  pub secret : IsSecret sides.login.secret
  pub held : IsRecord accepted.challenge.stored
  pub matched : AreMatched sides answer accepted
  pub same : client_message sides.login answer ≡ server_message accepted

-- equal AuthMessages: both sides mean one login
abbrev pub EqualMessagesAgree : Type 0
EqualMessagesAgree = (sides : Sides) (answer : Answering) (accepted : Accepted) → MatchEqually sides answer accepted
    → Agree sides.login sides.provider answer accepted

-- the init of equal AuthMessages did not have three parts, nor four
abbrev pub NoShortExtensions : Type 0
NoShortExtensions = (sides : Sides) (answer : Answering) (accepted : Accepted) → MatchEqually sides answer accepted
    → ¬ HasParts accepted.challenge.client.bare 3 × ¬ HasParts accepted.challenge.client.bare 4

-- one strict side is enough: where the client is strict, or the server is, one of them received no misplaced attribute
-- in the texts of an answer and of an accepted response, so that `Agree` speaks of the whole login
abbrev pub OneStrictSideIsEnough : Type 0
OneStrictSideIsEnough = (sides : Sides) (k n : ℕ) (answer : Answering) (accepted : Accepted)
    → AnswersAt sides.login sides.client_events sides.client_replies k answer
    → AcceptsAt sides.provider sides.server_events sides.server_replies n accepted
    → T (is_strict_login sides.login) ⊎ T (is_strict sides.provider.rules) → NoneMisplacedIn answer accepted

-- an attacker cannot make a client that has a channel skip channel binding: of an answer and an accepted response with
-- equal AuthMessages, where the server takes no `y,,`, both bind one channel, of one kind and with the same data
abbrev pub EqualMessagesBindOneChannel : Type 0
EqualMessagesBindOneChannel = (sides : Sides) (k n : ℕ) (answer : Answering) (accepted : Accepted)
    → IsRecord accepted.challenge.stored → HoldsHeaderBytes (login_header sides.login)
    → AnswersAt sides.login sides.client_events sides.client_replies k answer
    → AcceptsAt sides.provider sides.server_events sides.server_replies n accepted
    → sides.login.channel ≢ Absent → ¬ AcceptsFlag sides.provider.rules ClientSupports
    → client_message sides.login answer ≡ server_message accepted
    → (binding : ChannelBinding) × (sides.login.channel ≡ Bound binding) × ServerBinds sides.provider binding

-- each verifier that the client took and the server issued has its verdict
abbrev pub TakenVerifiersAreJudged : Type 0
TakenVerifiersAreJudged = (sides : Sides) (m n : ℕ) (accepted : Accepted) → Histories sides
    → IsRecord accepted.challenge.stored → Takes sides m n accepted
    → (agrees : VerifierAgrees sides m accepted) × (verdict : Verdict)
    × JudgesVerifier sides agrees.answer accepted verdict

-- each proof that the client showed and the server accepted has its verdict
abbrev pub ShownProofsAreJudged : Type 0
ShownProofsAreJudged = (sides : Sides) (k n : ℕ) (answer : Answering) (accepted : Accepted) → Histories sides
    → IsSecret sides.login.secret → IsRecord accepted.challenge.stored
    → Shows sides k n answer accepted → (verdict : Verdict) × JudgesProof sides answer accepted verdict

-- a matched verifier or proof has only one verdict
abbrev pub OneVerdictEach : Type 0
OneVerdictEach = (sides : Sides) (answer : Answering) (accepted : Accepted) (verdict other : Verdict)
    → (JudgesVerifier sides answer accepted verdict → JudgesVerifier sides answer accepted other → verdict ≡ other)
    × (JudgesProof sides answer accepted verdict → JudgesProof sides answer accepted other → verdict ≡ other)

-- an audit has one answer, for any replies
abbrev pub OneAuditEach : Type 0
OneAuditEach = (login : Login) (client_events : List Given) (provider : Provider) (server_events : List Given)
    (findings others : List Finding) → AuditsEvents login client_events provider server_events findings
    → AuditsEvents login client_events provider server_events others → findings ≡ others

-- the user of an agreed finding has logged in after its Ok
abbrev pub AgreedUsersAreNamed : Type 0
AgreedUsersAreNamed = (sides : Sides) (findings : List Finding) (finding : Finding) (user nonce : List ℕ)
    (parameters : Option Parameters) → Audits sides findings → Contains findings finding
    → finding.verdict ≡ Agreed user nonce parameters
    → LoggedIn sides.provider sides.server_events sides.server_replies (suc finding.server) user

-- two positions whose events carry one nonce
abbrev pub RepeatsNonce : List Given → ℕ → ℕ → Type 0
RepeatsNonce events i j = (i ≢ j) × ((event again : Given) × (slice_get events i ≡ Some event)
    × (slice_get events j ≡ Some again) × (event.nonce ≡ again.nonce))

-- a test that no reply passes
abbrev pub closes_nothing : ClientSays → Bool
closes_nothing says = false

-- s is the last start before k
abbrev pub Start : List ClientSays → ℕ → ℕ → Type 0
Start replies k s = IsLastOpen is_start closes_nothing replies k s

-- the answers at these two positions come from two starts with one nonce
abbrev pub FromTwoStarts : Sides → ℕ → ℕ → Type 0
FromTwoStarts sides k l = (s t : ℕ) × Start sides.client_replies k s × Start sides.client_replies l t
    × RepeatsNonce sides.client_events s t

-- the Oks at these two positions come from two challenges with one nonce
abbrev pub FromTwoChallenges : Sides → ℕ → ℕ → Type 0
FromTwoChallenges sides n o = (i j : ℕ) × IsLastOpen is_challenge is_ok sides.server_replies n i
    × IsLastOpen is_challenge is_ok sides.server_replies o j × RepeatsNonce sides.server_events i j

-- k is the position of the client-final message whose signature an outcome with this data at m shows: the last response,
-- or without data the one before the response to the signature
abbrev pub AnswerPosition : List ClientSays → ℕ → Option (List ℕ) → ℕ → Type 0
AnswerPosition replies m (Some text) k = IsLastOpen is_answer ends_answer replies m k
AnswerPosition replies m None k = (j : ℕ) × IsLastOpen is_answer ends_answer replies m j
    × IsLastOpen is_answer ends_answer replies j k

-- the client took at m, for its answer at k, what the server accepted at n, and the AuthMessages are equal
abbrev pub TakesAgreed : Sides → ℕ → ℕ → ℕ → Accepted → Type 0
TakesAgreed sides m k n accepted = (answer : Answering) × (takes : Takes sides m n accepted)
    × AnswerPosition sides.client_replies m takes.more k
    × AnswersAt sides.login sides.client_events sides.client_replies k answer
    × (client_message sides.login answer ≡ server_message accepted)

-- the client showed at k what the server accepted at n, and the AuthMessages are equal
abbrev pub ShowsAgreed : Sides → ℕ → ℕ → Accepted → Type 0
ShowsAgreed sides k n accepted = (answer : Answering) × Shows sides k n answer accepted
    × (client_message sides.login answer ≡ server_message accepted)

-- one Ok of the server that the client took at two positions, or showed at two, with equal AuthMessages, is of
-- two starts with one nonce
abbrev pub RepeatedClientPositions : Type 0
RepeatedClientPositions = (sides : Sides) (n k l : ℕ) (accepted other : Accepted) → AreGiven sides.client_events
    → IsRecord accepted.challenge.stored → IsRecord other.challenge.stored
    → ((m p : ℕ) → m ≢ p → TakesAgreed sides m k n accepted → TakesAgreed sides p l n other → FromTwoStarts sides k l)
    × (k ≢ l → ShowsAgreed sides k n accepted → ShowsAgreed sides l n other → FromTwoStarts sides k l)

-- one position of the client with two Oks of the server, both to a plain init and with equal AuthMessages, is
-- of two challenges with one nonce
abbrev pub RepeatedServerPositions : Type 0
RepeatedServerPositions = (sides : Sides) (k n o : ℕ) (accepted other : Accepted) → AreGiven sides.server_events
    → IsRecord accepted.challenge.stored → IsRecord other.challenge.stored
    → n ≢ o → IsPlainInit accepted → IsPlainInit other
    → ((m l : ℕ) → TakesAgreed sides m k n accepted → TakesAgreed sides m l o other → FromTwoChallenges sides n o)
    × (ShowsAgreed sides k n accepted → ShowsAgreed sides k o other → FromTwoChallenges sides n o)

-- each record of the provider is one that the code holds
abbrev pub HoldsRecords : Provider → Type 0
HoldsRecords provider = (name : List ℕ) (stored : Record) → provider.records name ≡ Some stored
    → IsRecord stored

-- in this finding both sides agree
abbrev pub IsAgreed : Finding → Type 0
IsAgreed finding = (user nonce : List ℕ) × (parameters : Option Parameters)
    × (finding.verdict ≡ Agreed user nonce parameters)

-- the parameters of this finding are given
abbrev pub HasParameters : Finding → Type 0
HasParameters finding = (user nonce : List ℕ) × (parameters : Parameters)
    × (finding.verdict ≡ Agreed user nonce (Some parameters))

-- an audit lists both findings, and they are of one kind
pub record ListsBoth (sides : Sides) (findings : List Finding) (finding other : Finding) : Type 0 where
  pub audits : Audits sides findings
  pub one : Contains findings finding
  pub two : Contains findings other
  pub alike : finding.kind ≡ other.kind

-- two agreed findings of one kind, of one Ok of the server and of two positions of the client, are of two starts
-- with one nonce
abbrev pub RepeatedClientFindings : Type 0
RepeatedClientFindings = (sides : Sides) (findings : List Finding) (finding other : Finding)
    → AreGiven sides.client_events → HoldsRecords sides.provider → ListsBoth sides findings finding other
    → IsAgreed finding → IsAgreed other → finding.server ≡ other.server → finding.client ≢ other.client
    → FromTwoStarts sides finding.client other.client

-- two agreed findings of one kind with parameters, of one position of the client and of two Oks of the server, are of
-- two challenges with one nonce
abbrev pub RepeatedServerFindings : Type 0
RepeatedServerFindings = (sides : Sides) (findings : List Finding) (finding other : Finding)
    → AreGiven sides.server_events → HoldsRecords sides.provider → ListsBoth sides findings finding other
    → HasParameters finding → HasParameters other → finding.client ≡ other.client → finding.server ≢ other.server
    → FromTwoChallenges sides finding.server other.server

-- the bodies of the events are bytes
abbrev pub BodiesAreBytes : List Given → Type 0
BodiesAreBytes events = (k : ℕ) (event : Given) → slice_get events k ≡ Some event → IsBytes event.body

-- events whose bodies are bytes have a server history without running out of memory
abbrev pub SomeServerHistory : Type 0
SomeServerHistory = (provider : Provider) (events : List Given) → BodiesAreBytes events
    → (replies : List ServerSays) × ServerHistory provider events replies × ServerComplete replies

-- events whose bodies are bytes have a client history without running out of memory
abbrev pub SomeClientHistory : Type 0
SomeClientHistory = (login : Login) (events : List Given) → BodiesAreBytes events
    → (replies : List ClientSays) × ClientHistory login events replies × ClientComplete replies

-- unaltered runs log in: what that gives every history of a client whose login the code holds
abbrev pub ClientsLogIn : Type 0
ClientsLogIn = EveryClient (λ login events replies. IsLogin login → ClientLogsIn login events replies)

-- unaltered runs log in: what that gives every history of a server
abbrev pub ServersLogIn : Type 0
ServersLogIn = EveryServer ServerLogsIn

-- a frame at which a server may run out of memory for its reply: an init or a response
abbrev pub WantsAtServer : SaslFrame → Type 0
WantsAtServer frame =
    ((mechanism : List ℕ) × (response : Option (List ℕ)) × (hostname : Option (List ℕ))
    × (frame ≡ frames.Init mechanism response hostname))
    ⊎ ((text : List ℕ) × (frame ≡ frames.Response text))

-- a server's history runs out of memory only at an init or a response
abbrev pub ServersWantMemory : Type 0
ServersWantMemory = (provider : Provider) (events : List Given) (replies : List ServerSays) (k : ℕ)
    → ServerHistory provider events replies → slice_get replies k ≡ Some (Failed faults.OutOfMemory)
    → (event : Given) × (frame : SaslFrame) × (slice_get events k ≡ Some event) × SpellsBody event.body (Ok frame)
    × WantsAtServer frame

-- a client's history runs out of memory only where it allocates
abbrev pub ClientsWantMemory : Type 0
ClientsWantMemory = (login : Login) (events : List Given) (replies : List ClientSays) (k : ℕ)
    → ClientHistory login events replies → slice_get replies k ≡ Some (Refused OutOfMemory)
    → (event : Given) × (frame : SaslFrame) × (slice_get events k ≡ Some event) × SpellsBody event.body (Ok frame)
    × ClientAllocates login (Ok frame)

-- the replies of any profile run out of memory only where it allocates
abbrev pub ProfilesWantMemory : Type 0
ProfilesWantMemory = (hostname : Option (List ℕ)) (profile next : Profile) (nonce : List ℕ) (frame : SaslFrame)
    → ProfileReplies hostname profile nonce frame (Refused OutOfMemory) next → StepAllocates profile frame
