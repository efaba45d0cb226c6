-- What any number of calls of a client by a policy, which selects its mechanism from the server's offer, do over a stream,
-- divided in any way (AMQP 1.0, part 5, sections 5.3.2 and 5.3.3.2; RFC 5802, sections 3 and 5). Each law is the contract of a
-- clause in `policy_clients`.
use Rattle.std.specs.Prelude.{◌≡◌, ◌≢◌, ◌⊎◌, ◌+◌, ◌*◌, ◌<◌, ◌≤◌, ◌^◌, ◌++◌, ℕ, false, Option, Some, None, List, [], ◌∷◌, length, Ok}
use Rattle.std.specs.List.{AllByRecursion}
use Rattle.std.specs.Str.{IsUtf8}
use Rattle.fe2o3_sasl_wire.specs.SaslFrames as frames
use Rattle.fe2o3_sasl_wire.specs.SaslFrames.{IsBytes, canonical}
use Rattle.fe2o3_sasl_wire.specs.declared.sasl_frames.error.Error.TheVariants.{TooLarge}
use Rattle.fe2o3_scram.specs.ChannelBinding.{HoldsHeaderBytes, authzid_text}
use Rattle.fe2o3_scram.specs.Credentials.{Provider}
use Rattle.fe2o3_scram.specs.ScramClient.{ClientSide, identity_named}
use Rattle.fe2o3_scram.specs.ScramServer.{Initial}
use Rattle.fe2o3_scram.specs.declared.scram_messages.client_channel.ClientChannel.TheVariants.{Absent}
use Rattle.fe2o3_sasl_core.specs.Bodies.{SpellsBody}
use Rattle.fe2o3_sasl_core.specs.ClientPolicy.{secret_for, unbound_channel, bound_channel}
use Rattle.fe2o3_sasl_core.specs.Events.{IsLogin, IsSecret, Login}
use Rattle.fe2o3_sasl_core.specs.ProfileMachine.{IsSelected, NoneIsSelected}
use Rattle.fe2o3_sasl_core.specs.Profiles.{PolicyProfile, Profile, ScramProfile, Selection, initial_response, profile_name, scram_profile}
use Rattle.fe2o3_sasl_core.specs.SaslAcceptor.{Acceptor, ScramAcceptor, acceptor_machine, acceptor_names}
use Rattle.fe2o3_sasl_core.specs.TwoSides.{sides_of}
use Rattle.fe2o3_sasl_core.specs.UnalteredRuns.{HoldsLogin}
use Rattle.fe2o3_sasl_core.specs.declared.sasl_profile.error.ProfileError.TheVariants.{Frame as FrameFault, NotImplemented}
use Rattle.fe2o3_sasl_negotiation.specs.declared.progress.CloseReason.TheVariants.{Mechanism as ProfileRefused}
use Rattle.fe2o3_sasl_negotiation.specs.declared.progress.Expected.TheVariants.{Frame}
use Rattle.fe2o3_sasl_negotiation.specs.declared.progress.FrameKind.TheVariants as turns
use Rattle.fe2o3_sasl_negotiation.specs.declared.progress.Progress.{Progress}
use Rattle.fe2o3_sasl_negotiation.specs.declared.progress.Progress.TheVariants.{InProgress, Authenticated, Failed}
use Rattle.fe2o3_sasl_negotiation.specs.ClientNegotiation.{ClientCosts, ClientReceives, ClientSideAnswers}
use Rattle.fe2o3_sasl_negotiation.specs.Connections.{IsHeaderPart, IsOtherHeader, LeftOver, fresh}
use Rattle.fe2o3_sasl_negotiation.specs.CostLaws.{MeteredCalls}
use Rattle.fe2o3_sasl_negotiation.specs.Framing.{Fits, framed, sasl_header}
use Rattle.fe2o3_sasl_negotiation.specs.Laws.{Call, Calls, NoncesOf}
use Rattle.fe2o3_sasl_negotiation.specs.Negotiations.{Side}
use Rattle.fe2o3_sasl_negotiation.specs.PolicyLaws.{side_in_state}
use Rattle.fe2o3_sasl_negotiation.specs.Retries.{RetriedCalls}
use Rattle.fe2o3_sasl_negotiation.specs.ScramConnections.{ScramReports}
use Rattle.fe2o3_sasl_negotiation.specs.ServerNegotiation.{ServerReceives}
use Rattle.connection_laws.specs.Cuts.{taken_pieces}
use Rattle.connection_laws.specs.JoinedSides.{AreEnough}
use Rattle.connection_laws.specs.Pairs.{ClientOf}
use Rattle.connection_laws.specs.Unaltered.{BothLogIn, FitsFrames, HasNonce, Joined}

-- ---- a client that has selected a profile

-- a client in this state is by no policy, or has selected its profile
abbrev pub IsChosen : Profile → Type 0
IsChosen (PolicyProfile selection) = ⊥
IsChosen profile = Unit {0}

-- what was taken of a stream, all but this rest, begins with the header of SASL and one frame, which offers these mechanisms
-- (part 5, section 5.3.3.1)
pub record ReadsOffer (limit : ℕ) (stream rest : List ℕ) (names : List (List ℕ)) : Type 0 where
  pub body : List ℕ
  pub more : List ℕ
  pub fits : Fits limit (length body + 4)
  pub spells : SpellsBody body (Ok (frames.Mechanisms names))
  pub carried : stream ≡ sasl_header ++ (framed body ++ (more ++ rest))

-- the calls do what they do to a fresh client of a profile, which is selected from the offer that was read: with the same
-- nonces they take and send the same bytes, and leave the same side
pub record ActsAsSelected (selection : Selection) (hostname : Option (List ℕ)) (limit : ℕ) (calls : List Call)
    (stream sent rest : List ℕ) (last : Side Profile) : Type 0 where
  pub names : List (List ℕ)
  pub profile : Profile
  pub offer : ReadsOffer limit stream rest names
  pub selected : IsSelected selection names profile
  pub made : Calls (ClientReceives hostname) (fresh limit profile) calls stream sent last rest

-- calls of a new client that has selected a profile, however they divide the stream
abbrev pub SelectedClientsActAsProfile : Type 0
SelectedClientsActAsProfile = (selection : Selection) (hostname : Option (List ℕ)) (limit : ℕ) (calls : List Call)
    (stream sent rest : List ℕ) (last : Side Profile) → IsBytes stream
    → Calls (ClientReceives hostname) (fresh limit (PolicyProfile selection)) calls stream sent last rest
    → IsChosen last.state → ActsAsSelected selection hostname limit calls stream sent rest last

-- the init of this profile, with the nonce of one of these calls, has no body, for its size has more than 32 bits
abbrev pub HasNoInit : Option (List ℕ) → List Call → Profile → Type 0
HasNoInit hostname calls profile = (nonce : List ℕ) × NoncesOf calls (nonce ∷ [])
    × (canonical (frames.Init (profile_name profile) (initial_response profile nonce) hostname) ≡ None)

-- two clients end alike, the first of this profile, and the second by the policy: in one side. Or the init has no body, and both
-- have closed without it, each in the state in which it began
abbrev pub EndAlike : Selection → Option (List ℕ) → List Call → Profile → List ℕ → Side Profile → Side Profile → Type 0
EndAlike selection hostname calls profile sent side last = (IsChosen last.state × (last ≡ side))
    ⊎ (HasNoInit hostname calls profile × (sent ≡ []) × (side.progress ≡ Failed (ProfileRefused (FrameFault TooLarge)))
    × (side.state ≡ profile) × (last ≡ side_in_state side (PolicyProfile selection)))

-- and the reverse: calls of a fresh client of a profile, which is selected from the offer that they read, are calls of a new
-- client of the selection, with the same nonces, and it has selected that profile. The size of a frame has 32 bits (part 2,
-- section 2.3.1)
abbrev pub SelectedProfilesActAsClient : Type 0
SelectedProfilesActAsClient = (selection : Selection) (hostname : Option (List ℕ)) (limit : ℕ) (calls : List Call)
    (stream sent rest : List ℕ) (side : Side Profile) (names : List (List ℕ)) (profile : Profile) → limit < 2 ^ 32
    → ReadsOffer limit stream rest names → IsSelected selection names profile
    → Calls (ClientReceives hostname) (fresh limit profile) calls stream sent side rest
    → (last : Side Profile) × EndAlike selection hostname calls profile sent side last
    × Calls (ClientReceives hostname) (fresh limit (PolicyProfile selection)) calls stream sent last rest

-- a new client that has read an offer from which a profile is selected has selected it, and acts as a client of it
abbrev pub OfferedClientsSelect : Type 0
OfferedClientsSelect = (selection : Selection) (hostname : Option (List ℕ)) (limit : ℕ) (calls : List Call)
    (stream sent rest : List ℕ) (last : Side Profile) (names : List (List ℕ)) (profile : Profile) → limit < 2 ^ 32
    → ReadsOffer limit stream rest names → IsSelected selection names profile
    → Calls (ClientReceives hostname) (fresh limit (PolicyProfile selection)) calls stream sent last rest
    → (side : Side Profile) × EndAlike selection hostname calls profile sent side last
    × Calls (ClientReceives hostname) (fresh limit profile) calls stream sent side rest

-- an offer has one such profile at most, and none where the client selects none
abbrev pub OneIsSelected : Type 0
OneIsSelected = (selection : Selection) (names : List (List ℕ)) (profile : Profile) → IsSelected selection names profile
    → ((other : Profile) → IsSelected selection names other → other ≡ profile) × ¬ NoneIsSelected selection names

-- ---- a client that has selected none

-- after the header of SASL no offer has been read: the client waits for the rest of the first frame, of which it holds what
-- has arrived; or it has closed, at a size that is not allowed or at a whole frame that is no list of mechanisms
pub record HasNoOffer (selection : Selection) (limit : ℕ) (taken : List ℕ) (last : Side Profile) : Type 0 where
  pub tail : List ℕ
  pub carried : taken ≡ sasl_header ++ tail
  pub left : LeftOver turns.Mechanisms limit tail last.progress
  pub state : last.state ≡ PolicyProfile selection
  pub waits : last.progress ≡ InProgress → last ≡ record {
    progress = InProgress;
    expected = Frame turns.Mechanisms;
    limit = limit;
    held = tail;
    state = PolicyProfile selection;
  }

-- a client that selects none of these mechanisms has closed, or one that selects a profile whose init has no body
abbrev pub SelectsNoneOf : Selection → Option (List ℕ) → List Call → List (List ℕ) → Progress → Type 0
SelectsNoneOf selection hostname calls names progress =
    (NoneIsSelected selection names × (progress ≡ Failed (ProfileRefused NotImplemented)))
    ⊎ ((profile : Profile) × IsSelected selection names profile × HasNoInit hostname calls profile
    × (progress ≡ Failed (ProfileRefused (FrameFault TooLarge))))

-- the client has closed at such an offer, and has taken nothing after it
pub record SelectsNone (selection : Selection) (hostname : Option (List ℕ)) (limit : ℕ) (calls : List Call)
    (taken : List ℕ) (last : Side Profile) : Type 0 where
  pub names : List (List ℕ)
  pub body : List ℕ
  pub fits : Fits limit (length body + 4)
  pub spells : SpellsBody body (Ok (frames.Mechanisms names))
  pub carried : taken ≡ sasl_header ++ framed body
  pub closed : SelectsNoneOf selection hostname calls names last.progress
  pub state : last.state ≡ PolicyProfile selection

-- what a client that has selected no profile has taken: a part of a header, another header, no whole offer, or an offer from
-- which it selects none, or none that it can send
abbrev pub IsUnselected : Selection → Option (List ℕ) → ℕ → List Call → List ℕ → Side Profile → Type 0
IsUnselected selection hostname limit calls taken last = IsHeaderPart limit (PolicyProfile selection) taken [] last
    ⊎ IsOtherHeader (PolicyProfile selection) taken last ⊎ HasNoOffer selection limit taken last
    ⊎ SelectsNone selection hostname limit calls taken last

-- calls of a new client that has selected no profile send nothing after its header, and have not logged in
abbrev pub UnselectedClientsSendNothing : Type 0
UnselectedClientsSendNothing = (selection : Selection) (hostname : Option (List ℕ)) (limit : ℕ) (calls : List Call)
    (stream sent rest : List ℕ) (last : Side Profile) → IsBytes stream
    → Calls (ClientReceives hostname) (fresh limit (PolicyProfile selection)) calls stream sent last rest
    → ¬ IsChosen last.state
    → (taken : List ℕ) × (stream ≡ taken ++ rest) × (sent ≡ []) × (last.progress ≢ Authenticated)
    × IsUnselected selection hostname limit calls taken last

-- ---- a client that has selected SCRAM

-- this is the login by which a client of this selection logs in by SCRAM (RFC 5802, sections 5 and 6): of its user, with what
-- its secret is for the version; it says of its channel what it says with -PLUS or without
pub record IsLoginOf (selection : Selection) (host : Option (List ℕ)) (login : Login) : Type 0 where
  pub user : login.user ≡ selection.user
  pub secret : secret_for login.version selection.secret ≡ Some login.secret
  pub limits : login.limits ≡ selection.policy.limits
  pub channel : (login.channel ≡ unbound_channel selection.policy.channel)
      ⊎ (login.channel ≡ bound_channel selection.policy.channel)
  pub acts_for : login.acts_for ≡ identity_named selection.acts_for
  pub strict : login.strict ≡ selection.policy.strict
  pub signature_by_challenge : login.signature_by_challenge ≡ false
  pub hostname : login.hostname ≡ host

-- the calls make a connection of a SCRAM client of a login, whose profile is selected from the offer that was read: its pieces
-- are the bytes that each call took, with its nonce. So the laws of `pairs` and of `server_pairs` hold of it, and the headline
-- theorem does (`ScramReports`)
pub record IsScramClient (selection : Selection) (hostname : Option (List ℕ)) (limit : ℕ) (calls : List Call)
    (stream sent rest : List ℕ) (last : Side Profile) : Type 0 where
  pub names : List (List ℕ)
  pub offer : ReadsOffer limit stream rest names
  pub login : Login
  pub login_of : IsLoginOf selection hostname login
  pub selected : IsSelected selection names (scram_profile login)
  pub made : Calls (ClientReceives login.hostname) (fresh limit (scram_profile login)) calls stream sent last rest
  pub client : ClientOf login
  pub limit_is : client.limit ≡ limit
  pub pieces : client.pieces ≡ taken_pieces (ClientSideAnswers login.hostname) (fresh limit (scram_profile login)) calls
      stream sent last rest made
  pub taken : stream ≡ client.taken ++ rest
  pub sends : client.sent ≡ sent
  pub ends : client.last ≡ last
  pub reports : ScramReports login client.connection.events client.connection.replies

-- calls of a new client that has selected a profile of SCRAM
abbrev pub ScramClientsReportSelected : Type 0
ScramClientsReportSelected = (selection : Selection) (hostname : Option (List ℕ)) (limit : ℕ) (calls : List Call)
    (stream sent rest : List ℕ) (last : Side Profile) (now : ClientSide) → IsBytes stream
    → Calls (ClientReceives hostname) (fresh limit (PolicyProfile selection)) calls stream sent last rest
    → last.state ≡ ScramProfile now → IsScramClient selection hostname limit calls stream sent rest last

-- what the code holds of a selection and of a hostname, as `IsLogin` says of a login: texts in UTF-8, a limit of 32 bits, and a
-- header that is bytes, also where the channel is bound
pub record HoldsSelection (selection : Selection) (host : Option (List ℕ)) : Type 0 where
  pub user : IsUtf8 selection.user
  pub secret : IsSecret selection.secret
  pub limit : selection.policy.limits.max_iterations < 2 ^ 32
  pub channel : HoldsHeaderBytes (record {
    channel = bound_channel selection.policy.channel;
    acts_for = identity_named selection.acts_for;
  })
  pub identity : IsUtf8 (authzid_text (identity_named selection.acts_for))
  pub hostname : (text : List ℕ) → host ≡ Some text → IsUtf8 text

-- each login of a selection meets the premises of the laws of `pairs` and of `server_pairs`: the code holds of it what they ask,
-- and a client with a channel has one, bound or not
abbrev pub LoginsMeetPremises : Type 0
LoginsMeetPremises = (selection : Selection) (hostname : Option (List ℕ)) (login : Login)
    → IsLoginOf selection hostname login
    → (HoldsSelection selection hostname → IsLogin login × IsSecret login.secret)
    × (selection.policy.channel ≢ None → login.channel ≢ Absent)

-- ---- where nothing is altered

-- a client and a SCRAM server that are joined, as `Joined` says of a client of one profile: each receives what the other sends,
-- the server after the client's header, in whatever calls, and in the end each has taken all of it
pub record JoinedByPolicy (selection : Selection) (hostname : Option (List ℕ)) (provider : Provider) (client : Side Profile)
    (server : Side Acceptor) : Type 0 where
  pub client_limit : ℕ
  pub server_limit : ℕ
  pub client_calls : List Call
  pub server_calls : List Call
  pub client_sent : List ℕ
  pub server_sent : List ℕ
  pub client_takes : Calls (ClientReceives hostname) (fresh client_limit (PolicyProfile selection)) client_calls server_sent
      client_sent client []
  pub server_takes : Calls (ServerReceives acceptor_names acceptor_machine)
      (fresh server_limit (ScramAcceptor provider Initial)) server_calls (sasl_header ++ client_sent) server_sent
      server []

-- both sides take frames of 512 bytes, as AMQP requires, and no size of a frame has more than 32 bits; their nonces have 32 bytes
pub record TakesPolicyFrames {selection : Selection} {hostname : Option (List ℕ)} {provider : Provider}
    {client : Side Profile} {server : Side Acceptor} (joined : JoinedByPolicy selection hostname provider client server)
    : Type 0
  where
    pub client_limit : 512 ≤ joined.client_limit
    pub server_limit : 512 ≤ joined.server_limit
    pub client_size : joined.client_limit < 2 ^ 32
    pub client_nonces : AllByRecursion HasNonce joined.client_calls
    pub server_nonces : AllByRecursion HasNonce joined.server_calls

-- a client and a SCRAM server that are joined both log in, if the client selects the profile of a login from the server's one
-- mechanism, and that login meets the premises of `UnalteredSidesLogIn`. The client has selected that profile, and with the
-- same calls and the same bytes the two are joined as `Joined` says
abbrev pub UnalteredPolicyClientsLogIn : Type 0
UnalteredPolicyClientsLogIn = (selection : Selection) (login : Login) (provider : Provider) (password salt : List ℕ)
    (count : ℕ) (client : Side Profile) (server : Side Acceptor)
    (joined : JoinedByPolicy selection login.hostname provider client server)
    → IsSelected selection (acceptor_names (ScramAcceptor provider Initial)) (scram_profile login) → IsLogin login
    → HoldsLogin (sides_of login [] [] provider [] []) password salt count → FitsFrames login salt
    → TakesPolicyFrames joined
    → IsChosen client.state × ((both : Joined login provider client server)
    × (both.client_calls ≡ joined.client_calls) × (both.server_calls ≡ joined.server_calls)
    × (both.client_sent ≡ joined.client_sent) × (both.server_sent ≡ joined.server_sent) × BothLogIn both salt count)

-- a client and a server that are joined exist, with all such limits, and with all calls that are enough for the bytes of the
-- login (`AreEnough`)
abbrev pub JoinedPolicySidesExist : Type 0
JoinedPolicySidesExist = (selection : Selection) (login : Login) (provider : Provider) (password salt : List ℕ)
    (count client_limit server_limit : ℕ) (client_calls server_calls : List Call)
    → IsSelected selection (acceptor_names (ScramAcceptor provider Initial)) (scram_profile login) → IsLogin login
    → HoldsLogin (sides_of login [] [] provider [] []) password salt count → FitsFrames login salt
    → 512 ≤ client_limit → 512 ≤ server_limit → client_limit < 2 ^ 32 → AllByRecursion HasNonce client_calls
    → AllByRecursion HasNonce server_calls → AreEnough 1544 4 client_calls → AreEnough 1032 3 server_calls
    → (client : Side Profile) × (server : Side Acceptor)
    × ((joined : JoinedByPolicy selection login.hostname provider client server) × TakesPolicyFrames joined
    × (joined.client_limit ≡ client_limit) × (joined.server_limit ≡ server_limit)
    × (joined.client_calls ≡ client_calls) × (joined.server_calls ≡ server_calls)
    × (client.progress ≡ Authenticated) × (server.progress ≡ Authenticated))

-- ---- what a connection costs

-- a connection of a new client makes no more HMAC values than the limit of its policy on iterations and four (RFC 5802,
-- section 3)
abbrev pub PolicyClientsCost : Type 0
PolicyClientsCost = (selection : Selection) (hostname : Option (List ℕ)) (limit : ℕ) (calls : List Call) (stream : List ℕ)
    (before after : ℕ)
    → MeteredCalls (ClientSideAnswers hostname) ClientCosts (fresh limit (PolicyProfile selection)) calls stream before after
    → (before ≤ after) × (after ≤ before + (selection.policy.limits.max_iterations + 4))

-- and that many more for each call that ran out of memory
abbrev pub PolicyClientsRetry : Type 0
PolicyClientsRetry = (selection : Selection) (hostname : Option (List ℕ)) (limit : ℕ) (calls : List Call) (stream : List ℕ)
    (failed before after : ℕ)
    → RetriedCalls (ClientSideAnswers hostname) ClientCosts (fresh limit (PolicyProfile selection)) calls stream failed before
    after
    → (before ≤ after) × (after ≤ before + (failed * (selection.policy.limits.max_iterations + 4)
    + (selection.policy.limits.max_iterations + 4)))
