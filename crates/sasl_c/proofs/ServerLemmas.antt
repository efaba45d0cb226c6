-- What a server answers to a client-first message, by the struct of its user's record.
use Rattle.std.proofs.Common.{arith, refl, sym, ap, inl, inr, ◌∙◌, ◌≡◌, ◌≢◌, ◌≤◌, ℕ, List, length, take}
use Rattle.std.specs.Prelude.{Option, Result, Some, None, Ok, Err, codes}
use Rattle.std.proofs.lemmas.List.{length-append, length-take}
use Rattle.fe2o3_scram.specs.declared.scram_messages.error.ServerScramErrorKind.{ServerScramErrorKind}
use Rattle.fe2o3_scram.specs.declared.scram_messages.error.ServerScramErrorKind.TheVariants.{IllegalAuthenticatorState, OutOfMemory as NoMemory}
use Rattle.std.proofs.lemmas.Slice.Eq.{bytes_eq-Decides}
use Rattle.std.specs.Cmp.Lexicographic.{pointwise}
use Rattle.std.specs.Prelude.{Bool, cond, nat_eq, true}
use Rattle.fe2o3_scram.proofs.lemmas.messages.OneValueLemmas.{one_client_first_value}
use Rattle.fe2o3_scram.specs.ActingRights.{may_act}
use Rattle.fe2o3_scram.specs.ChannelBinding.{is_strict, ClientHeader, expected_header}
use Rattle.fe2o3_scram.specs.ClientFinal.{ReachesBase64, Server, server_of}
use Rattle.fe2o3_scram.specs.ClientFirst.{ClientFirst, ReadsClientFirst}
use Rattle.fe2o3_scram.specs.declared.scram_messages.server_rules.ServerRules.{ServerRules}
use Rattle.fe2o3_scram.specs.Keys.{auth_message, server_signature}
use Rattle.fe2o3_scram.specs.ServerFinal.{AnswersClientFinal, FinalCosts}
use Rattle.fe2o3_scram.proofs.lemmas.hashes.DigestLemmas.{length-hmac_of}
use Rattle.sasl_c.proofs.TextLemmas.{short, short_text}
use Rattle.fe2o3_scram.specs.Credentials.{Record, Store, VersionedRecord, serving}
use Rattle.fe2o3_scram.specs.MockSettings.{MockSettings, mocking}
use Rattle.fe2o3_scram.specs.ScramServer.{ChallengesFrom, ServerState, ServerFirstSent, open_challenge, server_against}
use Rattle.fe2o3_scram.specs.ServerFirst.{AnswersClientFirst, ServerChallenge}
use Rattle.fe2o3_scram.specs.Texts.{base64_text}
use Rattle.sasl_c.specs.declared.records.ScramRecord.{ScramRecord as Kept}
use Rattle.sasl_c.specs.declared.status.Status.{Status}
use Rattle.sasl_c.specs.declared.status.Status.TheVariants as statuses
use Rattle.sasl_c.specs.Records.{ShowsRecord, SpellsStruct}
use Rattle.sasl_c.specs.declared.server.ScramServer.{ScramServer as Struct}
use Rattle.sasl_c.specs.Server.{MakesChallenge, Challenges, ConcludesLogin, Concludes, FinalAsks, IdentityHasRoom, IsLoggedIn, MemoryCosts, ChallengeHasRoom, IsOpen, IsOpenFor, NotChallenged, OpensExchange, WritesChallenge, authenticated_struct, identity_in, one_user, open_struct}
use Rattle.sasl_c.specs.Acting.{rights_for}
use Rattle.sasl_c.proofs.IdentityLemmas.{is_logged_in}
use Rattle.sasl_c.proofs.StatusLemmas.{carried, server_is_memory}
use Rattle.sasl_c.specs.declared.status.WriteError.{WriteError}
use Rattle.sasl_c.specs.declared.status.WriteError.TheVariants.{RoomTooSmall, Other}
use Rattle.sasl_c.specs.Status.{AsksText, Fills, Room, server_status}

-- a message that is rejected
pub unread : (rules : ServerRules) (kept : Kept) (nonce text : List ℕ) (why : ServerScramErrorKind) (status : Status)
    → (why ≢ NoMemory → ReadsClientFirst rules text (Err why)) → status ≡ server_status why
    → status ≢ statuses.OutOfMemory → NotChallenged rules kept nonce text status
unfolding NotChallenged
unread rules kept nonce text why status held gives other =
    inl (why, gives, held (λ same. other (gives ∙ ap server_status same)))

pub not_shown : (rules : ServerRules) (kept : Kept) (nonce text : List ℕ) (first : ClientFirst) (status : Status)
    → ReadsClientFirst rules text (Ok first) → SpellsStruct kept (Err status)
    → NotChallenged rules kept nonce text status
unfolding NotChallenged
not_shown rules kept nonce text first status reads wrong = inr (inl (first, reads, wrong))

pub no_room : (rules : ServerRules) (kept : Kept) (nonce text : List ℕ) (challenge : ServerChallenge)
    → MakesChallenge rules kept nonce text challenge
    → ¬ ChallengeHasRoom challenge → NotChallenged rules kept nonce text statuses.TooLong
unfolding NotChallenged
no_room rules kept nonce text challenge held wide = inr (inr (refl, (challenge, held, wide)))

-- the challenge that is open is the one that was made
pub one_challenge : (state : ServerState) (challenge shown : ServerChallenge) (stored : Record)
    → state ≡ ServerFirstSent challenge stored → Some shown ≡ open_challenge state → shown ≡ challenge
one_challenge state challenge shown stored stands opened =
    let same : Some shown ≡ Some challenge = opened ∙ ap open_challenge stands in cc

-- what is written of it
pub opens_text : (rules : ServerRules) (kept : Kept) (nonce text : List ℕ) (challenge shown : ServerChallenge)
    (number : ℕ) (before after : Struct) (room filled : Room) (answer : Result (Unit {0}) WriteError)
    → MakesChallenge rules kept nonce text challenge → shown ≡ challenge
    → WritesChallenge number shown before after room filled answer
    → Fills (Challenges rules kept nonce text) room filled answer
opens_text rules kept nonce text challenge shown number before after room filled (Ok done) held same is =
    (shown.first, (challenge, held, ap (λ (c : ServerChallenge). c.first) same), is.2, is.3, is.4)
opens_text rules kept nonce text challenge shown number before after room filled (Err RoomTooSmall) held same is =
    (is.1, (shown.first, (challenge, held, ap (λ (c : ServerChallenge). c.first) same), is.2))
opens_text rules kept nonce text challenge shown number before after room filled (Err (Other status)) held same is = (
  is.1,
  is.2,
  λ _. carried (λ s. NotChallenged rules kept nonce text s) statuses.TooLong status (sym is.3)
      (no_room rules kept nonce text challenge held
      (carried (λ c. ¬ ChallengeHasRoom c) shown challenge same is.4)),
)

pub opens_exchange : (rules : ServerRules) (kept : Kept) (nonce text : List ℕ) (challenge shown : ServerChallenge)
    (before after : Struct) (room filled : Room) (answer : Result (Unit {0}) WriteError)
    → MakesChallenge rules kept nonce text challenge → shown ≡ challenge
    → WritesChallenge kept.version shown before after room filled answer
    → OpensExchange rules kept nonce text before after answer
opens_exchange rules kept nonce text challenge shown before after room filled (Ok done) held same is =
    (challenge, held, carried (λ c. IsOpen after c) shown challenge same is.0, is.1 ∙ ap (open_struct kept.version) same)
opens_exchange rules kept nonce text challenge shown before after room filled (Err RoomTooSmall) held same is = is.0
opens_exchange rules kept nonce text challenge shown before after room filled (Err (Other status)) held same is =
    is.0

pub opens_asks : (Asks : Type 0) (number : ℕ) (challenge : ServerChallenge) (before after : Struct) (room filled : Room)
    (answer : Result (Unit {0}) WriteError) → WritesChallenge number challenge before after room filled answer
    → AsksText Asks answer
opens_asks Asks number challenge before after room filled (Ok done) is = tt
opens_asks Asks number challenge before after room filled (Err RoomTooSmall) is = λ same. absurd (cc)
opens_asks Asks number challenge before after room filled (Err (Other status)) is =
    λ same. let other : Other statuses.TooLong ≡ Other statuses.OutOfMemory = ap Other (sym is.3) ∙ same in absurd (cc)

-- a server without mock authentication that takes whom another takes answers what that one answers
pub challenges_so : (state next : ServerState) (store : Store) (mock : Option MockSettings) (own rules : ServerRules)
    (nonce text : List ℕ) (answer : Result (Option (List ℕ)) ServerScramErrorKind) → mock ≡ None → own ≡ rules
    → ChallengesFrom state (mocking mock (serving own store)) nonce text answer next
    → ChallengesFrom state (serving rules store) nonce text answer next
challenges_so state next store mock own rules nonce text answer none same held =
    carried (λ (option : ServerRules). ChallengesFrom state (serving option store) nonce text answer next) own rules same
    (carried (λ (settings : Option MockSettings). ChallengesFrom state (mocking settings (serving own store)) nonce text
    answer next) mock None none held)

-- the machine's answers
pub challenged : (rules : ServerRules) (kept : Kept) (nonce text user message : List ℕ) (shown : VersionedRecord)
    (store : Store) (state next : ServerState) → ShowsRecord kept shown → store ≡ one_user user shown
    → ChallengesFrom state (serving rules store) nonce text (Ok (Some message)) next
    → (challenge : ServerChallenge) × (stored : Record) × (next ≡ ServerFirstSent challenge stored)
    × MakesChallenge rules kept nonce text challenge
unfolding MakesChallenge
challenged rules kept nonce text user message shown store state next is same
    (challenge, answers, sent, (stored, found, then)) =
    let given = carried (λ s. AnswersClientFirst (serving rules s) (base64_text nonce) text (Ok (Some challenge))) store
    (one_user user shown) same answers in
    (challenge, stored, then, (shown, user, is, given))

-- the record is stored under the name that the message has, so its user is never unknown
pub never_unknown : (rules : ServerRules) (kept : Kept) (nonce text user : List ℕ) (shown : VersionedRecord) (store : Store)
    (state next : ServerState) (first : ClientFirst) (status : Status) → ReadsClientFirst rules text (Ok first)
    → user ≡ first.user → store ≡ one_user user shown
    → ChallengesFrom state (serving rules store) nonce text (Ok None) next
    → NotChallenged rules kept nonce text status
never_unknown rules kept nonce text user shown store state next first status reads named same held =
    let given = carried (λ s. AnswersClientFirst (serving rules s) (base64_text nonce) text (Ok None)) store
    (one_user user shown) same held.0 in
    let one : first ≡ given.0 = one_client_first_value rules text first given.0 reads given.1 in
    let here : pointwise nat_eq user given.0.user ≡ true =
    (bytes_eq-Decides user given.0.user).1 (named ∙ ap (λ (client : ClientFirst). client.user) one) in
    let none : Some shown.stored ≡ None = carried (λ test. cond test (Some shown.stored) None ≡ None)
    (pointwise nat_eq user given.0.user) true here given.2 in
    absurd (cc)

pub failed : (rules : ServerRules) (kept : Kept) (nonce text : List ℕ) (store : Store) (state next : ServerState)
    (why : ServerScramErrorKind) (status : Status)
    → (why ≢ NoMemory → ChallengesFrom state (serving rules store) nonce text (Err why) next)
    → status ≡ server_status why
    → status ≢ statuses.OutOfMemory → NotChallenged rules kept nonce text status
failed rules kept nonce text store state next why status held gives other =
    unread rules kept nonce text why status (λ told. (held told).0) gives other

-- ---- the end of an exchange

-- a server-final message has at most 90 bytes
short_final : (server : Server) (text message : List ℕ) → AnswersClientFinal server text (Ok message)
    → length message ≤ 90
short_final server text message held =
    let signature = server_signature server.version server.stored.server_key
    (auth_message server.bare server.first held.0.without) in
    let long = short server.version (length signature) (length-hmac_of server.version server.stored.server_key _) in
    omega (
      arith,
      ap length held.2,
      length-append (codes "v=") (base64_text signature),
      short_text signature long,
    )

pub concluded : (rules : ServerRules) (identities : List ℕ) (kept : Kept) (before : Struct) (text message : List ℕ)
    (challenge : ServerChallenge) (shown : VersionedRecord) → IsOpenFor rules before challenge → ShowsRecord kept shown
    → AnswersClientFinal
    (server_against shown.version rules (rights_for challenge.user identities) challenge shown.stored) text (Ok message)
    → ConcludesLogin rules identities kept before text message challenge.user challenge.header.acts_for
    × (length message ≤ 90)
unfolding ConcludesLogin
concluded rules identities kept before text message challenge shown is shows held = (
  (challenge, shown, is, shows, refl, refl, (held, refl)),
  short_final _ text message held,
)

pub refuses : (rules : ServerRules) (identities : List ℕ) (kept : Kept) (before : Struct) (text : List ℕ)
    (challenge : ServerChallenge) (shown : VersionedRecord) (why : ServerScramErrorKind) (status : Status)
    → IsOpenFor rules before challenge → ShowsRecord kept shown
    → (why ≢ NoMemory → AnswersClientFinal
    (server_against shown.version rules (rights_for challenge.user identities) challenge shown.stored) text (Err why))
    → status ≡ server_status why → status ≢ statuses.OutOfMemory
    → Concludes rules identities kept text before before (Err status)
unfolding Concludes
refuses rules identities kept before text challenge shown why status is shows held gives other =
    let told = held (λ memory. other (gives ∙ ap server_status memory)) in
    inr (inr (why, gives, (challenge, shown, is, shows, (told, refl))))

pub not_open : (rules : ServerRules) (identities : List ℕ) (kept : Kept) (before : Struct) (text : List ℕ)
    → ((challenge : ServerChallenge) → ¬ IsOpenFor rules before challenge)
    → Concludes rules identities kept text before before (Err (statuses.Server IllegalAuthenticatorState))
unfolding Concludes
not_open rules identities kept before text none = inl (refl, none)

pub keeps_none : (rules : ServerRules) (identities : List ℕ) (kept : Kept) (before : Struct) (text : List ℕ)
    (challenge : ServerChallenge) (status : Status) → IsOpenFor rules before challenge → SpellsStruct kept (Err status)
    → Concludes rules identities kept text before before (Err status)
unfolding Concludes
keeps_none rules identities kept before text challenge status is wrong = inr (inl (challenge, is, wrong))

-- memory is requested where the message reaches a base64 text
pub final_asks : (rules : ServerRules) (kept : Kept) (before : Struct) (text : List ℕ) (challenge : ServerChallenge)
    (shown : VersionedRecord) (why : ServerScramErrorKind) (status : Status) → IsOpenFor rules before challenge
    → ShowsRecord kept shown
    → (why ≡ NoMemory → ReachesBase64 (expected_header rules.channels challenge.header) challenge.nonce text)
    → status ≡ server_status why → status ≡ statuses.OutOfMemory → FinalAsks rules kept text before
final_asks rules kept before text challenge shown why status is shows comes gives memory =
    ((challenge, is, comes (server_is_memory why status gives memory)), (shown, shows))

-- and costs no HMAC value for a message that is rejected
pub memory_costs : (A : Type 0) (rules : ServerRules) (identities : List ℕ) (kept : Kept) (before : Struct) (text : List ℕ)
    (challenge : ServerChallenge) (header : ClientHeader) (strict acts : Bool) (shown : VersionedRecord)
    (why : ServerScramErrorKind) (status : Status) (counted after : ℕ) → IsOpenFor rules before challenge
    → ShowsRecord kept shown → header ≡ expected_header rules.channels challenge.header → strict ≡ is_strict rules
    → acts ≡ may_act (rights_for challenge.user identities) challenge.user challenge.header.acts_for
    → FinalCosts {A = A}
    (server_of shown.version header strict challenge.bare challenge.first challenge.nonce shown.stored acts) text
    (Err why) counted after → status ≡ server_status why → status ≡ statuses.OutOfMemory
    → MemoryCosts rules identities kept text before counted after
memory_costs A rules identities kept before text challenge header strict acts shown why status counted after is shows
    same too right costs gives memory =
    let server : ClientHeader → Bool → Bool → Server =
    λ known s a. server_of shown.version known s challenge.bare challenge.first challenge.nonce shown.stored a in
    let asked = expected_header rules.channels challenge.header in
    let expected = carried (λ known. FinalCosts {A = A} (server known strict acts) text (Err why) counted after) header
    asked same costs in
    let tested = carried (λ s. FinalCosts {A = A} (server asked s acts) text (Err why) counted after) strict
    (is_strict rules) too expected in
    let known = may_act (rights_for challenge.user identities) challenge.user challenge.header.acts_for in
    let allowed = carried (λ a. FinalCosts {A = A} (server asked (is_strict rules) a) text (Err why) counted after) acts
    known right tested in (
      challenge,
      shown,
      is,
      shows,
      carried (λ fault. FinalCosts {A = A} (server asked (is_strict rules) known) text (Err fault) counted after) why
          NoMemory (server_is_memory why status gives memory) allowed,
    )

pub concludes : (rules : ServerRules) (identities : List ℕ) (kept : Kept) (before after : Struct)
    (text message user : List ℕ) (acts_for : Option (List ℕ))
    → ConcludesLogin rules identities kept before text message user acts_for
    → after ≡ authenticated_struct (take before.user_len before.user) (identity_in before.acts_for_len before.acts_for)
    → Concludes rules identities kept text before after (Ok message)
unfolding Concludes ConcludesLogin
concludes rules identities kept before after text message user acts_for held written =
    let named : user ≡ take before.user_len before.user =
    held.4 ∙ ap (λ (challenge : ServerChallenge). challenge.user) held.2.0.2 in
    let few : length user ≤ 256 =
    omega (arith, ap length named, length-take before.user_len before.user, held.2.0.1.0) in
    let acts : acts_for ≡ identity_in before.acts_for_len before.acts_for = held.5 ∙ held.2.0.4.1 in
    let room : IdentityHasRoom acts_for =
    carried IdentityHasRoom held.0.header.acts_for acts_for (sym held.5) held.2.0.4.2 in
    let same : after ≡ authenticated_struct user acts_for = written
    ∙ (ap (λ (name : List ℕ). authenticated_struct name (identity_in before.acts_for_len before.acts_for)) (sym named)
    ∙ ap (authenticated_struct user) (sym acts)) in (
      user,
      acts_for,
      held,
      carried (λ s. IsLoggedIn s user acts_for) (authenticated_struct user acts_for) after (sym same)
          (is_logged_in user acts_for few room),
      same,
    )
