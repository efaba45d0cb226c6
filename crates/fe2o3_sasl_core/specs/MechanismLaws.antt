-- Laws of every acceptor and every profile, of SCRAM and of the other mechanisms. Each is the contract of a clause of
-- `laws::mechanisms`, `laws::replies` or `laws::users`.
use Rattle.std.specs.Prelude.{◌≡◌, ◌≢◌, ◌⊎◌, ℕ, Bool, true, false, Option, Some, None, List, [], ◌∷◌, ◌++◌, is_some, map, slice_get, Result, Ok}
use Rattle.std.specs.List.{AllByRecursion, Contains}
use Rattle.fe2o3_sasl_wire.specs.declared.amqp_types.SaslCode.{SaslCode}
use Rattle.fe2o3_sasl_wire.specs.declared.amqp_types.SaslCode.TheVariants as outcomes
use Rattle.fe2o3_sasl_wire.specs.SaslFrames as frames
use Rattle.fe2o3_sasl_wire.specs.SaslFrames.{SaslFrame}
use Rattle.fe2o3_scram.specs.ChannelBinding.{is_bound}
use Rattle.fe2o3_scram.specs.ScramClient.{identity_named}
use Rattle.fe2o3_scram.specs.declared.hmac.ScramVersion.TheVariants.{Sha1, Sha256, Sha512}
use Rattle.fe2o3_sasl_core.specs.ActingProfiles.{CanActFor}
use Rattle.fe2o3_sasl_core.specs.Events.{Given, Login, ServerSays, Concluded}
use Rattle.fe2o3_sasl_core.specs.Runs.{Runs, AcceptorSteps}
use Rattle.fe2o3_sasl_core.specs.SaslAcceptor.{Acceptor, ScramAcceptor, PlainAcceptor, AnonymousAcceptor, acceptor_machine, acceptor_names, acceptor_user, offered, ends_with, NoZero}
use Rattle.fe2o3_sasl_core.specs.PlainServer.{PlainLogsIn, PlainParts, PlainRules, asked_identity}
use Rattle.fe2o3_sasl_core.specs.Profiles.{Profile, ScramProfile, PlainProfile, AnonymousProfile, ExternalProfile, MessageProfile, AnonymousMessage, initial_response, profile_name, scram_profile}
use Rattle.fe2o3_sasl_core.specs.ProfileMachine.{profile_machine}
use Rattle.fe2o3_sasl_core.specs.declared.sasl_profile.error.ProfileError.{ProfileError}

-- an acceptor has at most one reply to each frame, and one acceptor after it
abbrev pub OneAcceptorReply : Type 0
OneAcceptorReply = (acceptor : Acceptor) (nonce : List ℕ) (frame reply other : SaslFrame) (next last : Acceptor)
    → acceptor_machine acceptor nonce frame reply next → acceptor_machine acceptor nonce frame other last
    → (reply ≡ other) × (next ≡ last)

-- a profile has at most one reply to each frame, and one profile after it
abbrev pub OneProfileReply : Type 0
OneProfileReply = (profile : Profile) (hostname : Option (List ℕ)) (nonce : List ℕ) (frame : SaslFrame)
    (reply other : Result SaslFrame ProfileError) (next last : Profile)
    → profile_machine profile hostname nonce frame reply next → profile_machine profile hostname nonce frame other last
    → (reply ≡ other) × (next ≡ last)

-- a server is sent inits and responses (AMQP 1.0, part 5, section 5.3.2)
abbrev pub IsSentToServers : SaslFrame → Type 0
IsSentToServers (frames.Init mechanism response hostname) = Unit {0}
IsSentToServers (frames.Response text) = Unit {0}
IsSentToServers frame = ⊥

-- an acceptor has a reply to each init and response, in each state and with each nonce
abbrev pub SomeAcceptorReply : Type 0
SomeAcceptorReply = (acceptor : Acceptor) (nonce : List ℕ) (frame : SaslFrame) → IsSentToServers frame
    → (reply : SaslFrame) × (next : Acceptor) × acceptor_machine acceptor nonce frame reply next

-- a profile has a reply to every frame, also to those that only a server receives
abbrev pub SomeProfileReply : Type 0
SomeProfileReply = (profile : Profile) (hostname : Option (List ℕ)) (nonce : List ℕ) (frame : SaslFrame)
    → (reply : Result SaslFrame ProfileError) × (next : Profile)
    × profile_machine profile hostname nonce frame reply next

-- some reply is an outcome Ok
abbrev pub SaysOk : List ServerSays → Type 0
SaysOk replies = (k : ℕ) × (body : List ℕ) × (slice_get replies k ≡ Some (Concluded outcomes.Ok body))

-- after a run of PLAIN's acceptor from its first state, over any list of bodies, its user has logged in if some reply
-- is an outcome Ok, and otherwise nobody has (RFC 4616, section 2)
abbrev pub PlainRunsNameUsers : Type 0
PlainRunsNameUsers = (user password : List ℕ) (events : List Given) (replies : List ServerSays) (last : Acceptor)
    → Runs (AcceptorSteps acceptor_machine) (PlainAcceptor user password false) events replies last
    → (SaysOk replies × (acceptor_user last ≡ Some user)) ⊎ (¬ SaysOk replies × (acceptor_user last ≡ None))

-- the profile answers the names that the acceptor offers with an init, and the acceptor this init with an outcome of
-- this code; the profile is unchanged, and this is the acceptor after it
abbrev pub EndsWith : Acceptor → Profile → SaslCode → Acceptor → Type 0
EndsWith acceptor profile code next = (hostname : Option (List ℕ)) (client_nonce server_nonce : List ℕ)
    → (init : SaslFrame)
    × profile_machine profile hostname client_nonce (frames.Mechanisms (offered (acceptor_names acceptor)))
    (Ok init) profile
    × acceptor_machine acceptor server_nonce init (ends_with code) next

-- PLAIN lets in the same user with the same password, in words without zero bytes (RFC 4616, section 2)
abbrev pub PlainLetsIn : Type 0
PlainLetsIn = (user password : List ℕ) (accepted : Bool) → NoZero user → NoZero password
    → EndsWith (PlainAcceptor user password accepted) (PlainProfile [] user password) outcomes.Ok
    (PlainAcceptor user password true)

-- PLAIN rejects every other user and password, in words without zero bytes (RFC 4616, section 2)
abbrev pub PlainRefuses : Type 0
PlainRefuses = (user password other secret : List ℕ) (accepted : Bool) → NoZero other → NoZero secret
    → ¬ ((user ≡ other) × (password ≡ secret))
    → EndsWith (PlainAcceptor user password accepted) (PlainProfile [] other secret) outcomes.Auth
    (PlainAcceptor user password accepted)

-- a message that a profile of PLAIN sends, and that logs its user in, names the profile's user and identity, in words that a
-- message can have (RFC 4616, section 2)
abbrev pub PlainIdentitiesAgree : Type 0
PlainIdentitiesAgree = (rules : PlainRules) (parts : PlainParts) (identity user password nonce text : List ℕ)
    → CanActFor (PlainProfile [] user password) identity
    → initial_response (PlainProfile identity user password) nonce ≡ Some text → PlainLogsIn rules text parts
    → (parts.user ≡ user) × (asked_identity parts ≡ identity_named (Some identity))

-- ANONYMOUS lets in every client that asks for it (RFC 4505, section 2)
abbrev pub AnonymousLetsIn : Type 0
AnonymousLetsIn = EndsWith AnonymousAcceptor AnonymousProfile outcomes.Ok AnonymousAcceptor

-- both are of one mechanism: SCRAM of one version, with or without channel binding; EXTERNAL has no acceptor
abbrev pub AreOfOneMechanism : Acceptor → Profile → Type 0
AreOfOneMechanism (ScramAcceptor provider state) (ScramProfile client) =
    (client.version ≡ provider.version) × (is_bound client.channel ≡ is_some provider.rules.channels)
AreOfOneMechanism (PlainAcceptor user password accepted) (PlainProfile identity other secret) = Unit {0}
AreOfOneMechanism AnonymousAcceptor AnonymousProfile = Unit {0}
AreOfOneMechanism AnonymousAcceptor (MessageProfile AnonymousMessage message is_due) = Unit {0}
AreOfOneMechanism acceptor profile = ⊥

-- an acceptor offers what a profile asks for exactly if both are of one mechanism
abbrev pub OffersAgree : Type 0
OffersAgree = (acceptor : Acceptor) (profile : Profile)
    → (Contains (offered (acceptor_names acceptor)) (profile_name profile) → AreOfOneMechanism acceptor profile)
    × (AreOfOneMechanism acceptor profile → Contains (offered (acceptor_names acceptor)) (profile_name profile))

-- an offer is never empty, and a list that is not empty is offered unchanged
abbrev pub SomethingIsOffered : Type 0
SomethingIsOffered = (names : List (List ℕ)) → (offered names ≢ []) × (names ≢ [] → offered names ≡ names)

-- each name differs from all later ones
abbrev pub Differ : List (List ℕ) → Type 0
Differ [] = Unit {0}
Differ (name ∷ names) = AllByRecursion (λ other. name ≢ other) names × Differ names

-- the profiles of the six mechanisms for one login, and for this password
abbrev pub six_profiles : Login → List ℕ → List Profile
six_profiles login password =
    map (λ version. scram_profile (record login { version = version })) (Sha1 ∷ Sha256 ∷ Sha512 ∷ [])
    ++ PlainProfile [] login.user password ∷ AnonymousProfile ∷ ExternalProfile ∷ []

-- the names of the six profiles differ
abbrev pub NamesDiffer : Type 0
NamesDiffer = (login : Login) (password : List ℕ) → Differ (map profile_name (six_profiles login password))
