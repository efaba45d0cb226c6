-- The structs of a client's side, and why there is none (AMQP 1.0, part 5, section 5.3.2).
use Rattle.std.proofs.Common.{arith, refl, sym, ap, inl, inr, ◌∙◌, ◌≡◌, ◌≢◌, ◌<◌, ℕ, List, [], ◌∷◌, length, IsTrue, true}
use Rattle.std.specs.Prelude.{Bool, ◌||◌, is_some, Option, Some, None, false, IfSome, MatchOption, Ok, Err, nat_eq, if◌then◌else◌}
use Rattle.std.specs.Str.{IsUtf8}
use Rattle.fe2o3_scram.specs.Readings.{IsFirst, NoneHolds}
use Rattle.fe2o3_scram.specs.ScramClient.{ClientSide, identity_named}
use Rattle.fe2o3_sasl_core.specs.PlainWords.{ArePlainWords}
use Rattle.fe2o3_sasl_core.specs.Profiles.{Profile, ScramProfile, AnonymousMessage, ExternalMessage}
use Rattle.fe2o3_sasl_negotiation.specs.declared.snapshot.Snapshot.{Snapshot}
use Rattle.fe2o3_sasl_negotiation.specs.declared.progress.Expected.{Expected}
use Rattle.fe2o3_sasl_negotiation.specs.declared.progress.Expected.TheVariants.{Header, Frame}
use Rattle.fe2o3_sasl_negotiation.specs.declared.progress.Progress.{Progress}
use Rattle.fe2o3_sasl_negotiation.specs.declared.progress.Progress.TheVariants.{InProgress}
use Rattle.fe2o3_sasl_negotiation.specs.declared.progress.FrameKind.TheVariants as turns
use Rattle.fe2o3_sasl_negotiation.specs.Framing.{IsPart}
use Rattle.fe2o3_sasl_negotiation.specs.Negotiations.{Side}
use Rattle.fe2o3_sasl_negotiation.specs.Snapshot.{client_fits, client_due, IsClientKept, NamesNone, side_of}
use Rattle.sasl_c.specs.declared.login.Login.{Login as Words}
use Rattle.sasl_c.specs.declared.client.ScramClient.{ScramClient as ScramStruct}
use Rattle.sasl_c.specs.declared.connection.Connection.{Connection as Kept}
use Rattle.sasl_c.specs.declared.sasl_client.SaslClient.{SaslClient as Struct}
use Rattle.sasl_c.specs.declared.sasl_client.SaslLogin.{SaslLogin as Login}
use Rattle.sasl_c.specs.declared.status.Status.{Status}
use Rattle.sasl_c.specs.declared.status.Status.TheVariants as statuses
use Rattle.sasl_c.specs.Client.{CanBeNamed, IsNoLogin, IsReached, IsState, WritesClient, is_set}
use Rattle.sasl_c.specs.Plain.{word_tests}
use Rattle.sasl_c.specs.Connection.{Keeps, KeepsNoPartOf, accepts_extended, expected_number, side_tests, connection_struct}
use Rattle.sasl_c.specs.SaslClient.{ClientTakes, ProfileIsReached, HasNoHostname, NamesNoIdentity, CanSendWords, HasNoClientWords, IsClient, IsPlainOf, message_tests, IsHostname, IsNoClient, IsNoProfile, IsProfile, client_word_tests, is_strict_plain, ReadsClient, ReceivesAsClient, WritesProfile, WritesSide}
use Rattle.sasl_c.proofs.StatusLemmas.{carried}

-- ---- structs

-- the struct that a profile was saved as
pub shows_scram : (login : Login) (profile : Profile) (machine : ClientSide) (answer : Option ScramStruct)
    → profile ≡ ScramProfile machine → ProfileIsReached login profile
    → ((user : List ℕ) → IsReached user machine.state
    → MatchOption answer ⊥ (λ client. IsState user client machine.state))
    → MatchOption answer ⊥ (λ scram. IsProfile login scram profile)
shows_scram login profile machine None is comes held =
    let stands = carried (ProfileIsReached login) profile (ScramProfile machine) is comes in held machine.user stands.1.1
shows_scram login profile machine (Some scram) is comes held =
    let stands = carried (ProfileIsReached login) profile (ScramProfile machine) is comes in
    carried (IsProfile login scram) (ScramProfile machine) profile (sym is)
    (stands.0, (stands.1.0, held machine.user stands.1.1))

-- the struct that is written for a profile
pub writes_scram : (profile : Profile) (machine : ClientSide) (answer : Option ScramStruct)
    → profile ≡ ScramProfile machine → IfSome answer (λ client. WritesClient client machine.state)
    → IfSome answer (λ scram. WritesProfile scram profile)
writes_scram profile machine None is held = held
writes_scram profile machine (Some scram) is held =
    carried (WritesProfile scram) (ScramProfile machine) profile (sym is) held

-- and those that are written for a side
pub writes_side : (connection : Kept) (scram : ScramStruct) (accepts : Bool) (side : Side Profile) (kept : Snapshot)
    → side_of kept side.state ≡ side → kept.extended_headers ≡ accepts
    → connection ≡ connection_struct kept.extended_headers kept.progress kept.expected kept.held.now
    → WritesProfile scram side.state → WritesSide accepts (record { connection = connection; scram = scram }) side
writes_side connection scram accepts side kept same flag is written = (
  carried (λ (s : Side Profile). connection ≡ connection_struct accepts s.progress s.expected s.held)
      (side_of kept side.state) side same
      (carried (λ (b : Bool). connection ≡ connection_struct b kept.progress kept.expected kept.held.now)
      kept.extended_headers accepts flag is),
  written,
)

-- the structs of a side, of its values
pub shows_side : (login : Login) (connection : Kept) (scram : ScramStruct) (side : Side Profile) (kept : Snapshot)
    → side_of kept side.state ≡ side → side.limit ≡ 512 → Keeps connection kept.progress kept.expected kept.held.now
    → IsProfile login scram side.state
    → IsClient login (record { connection = connection; scram = scram }) side
shows_side login connection scram side kept same limit keeps is = (
  (
    carried (λ (s : Side Profile). Keeps connection s.progress s.expected s.held) (side_of kept side.state) side same keeps,
    limit,
  ),
  is,
)

-- the side that was taken up is that of the struct
pub is_taken_up : (login : Login) (client : Struct) (kept : Snapshot) (profile : Profile) (side : Side Profile)
    → Keeps client.connection kept.progress kept.expected kept.held.now → kept.limit ≡ 512
    → IsProfile login client.scram profile → side ≡ side_of kept profile → IsClient login client side
is_taken_up login client kept profile side keeps limit is same =
    carried (IsClient login client) (side_of kept profile) side (sym same) ((keeps, limit), is)

due_named : ℕ → Expected
due_named number = if nat_eq number 0 then Header else if nat_eq number 1 then Frame turns.Mechanisms
    else if nat_eq number 2 then Frame turns.Init else if nat_eq number 3 then Frame turns.Challenge
    else if nat_eq number 4 then Frame turns.Response else if nat_eq number 5 then Frame turns.Outcome
    else Frame turns.SignatureChallenge

named_back : (expected : Expected) → due_named (expected_number expected) ≡ expected
unfolding due_named
named_back Header = refl
named_back (Frame turns.Mechanisms) = refl
named_back (Frame turns.Init) = refl
named_back (Frame turns.Challenge) = refl
named_back (Frame turns.Response) = refl
named_back (Frame turns.Outcome) = refl
named_back (Frame turns.SignatureChallenge) = refl

pub one_due : (expected other : Expected) → expected_number expected ≡ expected_number other → expected ≡ other
one_due expected other same = sym (named_back expected) ∙ (ap due_named same ∙ named_back other)

keeps_no_part : (client : Struct) (kept : Snapshot)
    → Keeps client.connection kept.progress kept.expected kept.held.now → kept.progress ≡ InProgress → kept.limit ≡ 512
    → NamesNone kept → ¬ IsClientKept kept → KeepsNoPartOf client_due client.connection
keeps_no_part client kept keeps wanting limit mock wrong = λ expected held other unit part.
    let one = one_due expected kept.expected (other.expected ∙ sym keeps.expected) in
    let stands = carried (λ s. Keeps client.connection s kept.expected kept.held.now) kept.progress InProgress wanting keeps in
    let same : held ≡ kept.held.now = other.held ∙ sym stands.held in
    let less : IsPart kept.expected 512 held = carried (λ d. IsPart d 512 held) expected kept.expected one part in
    let come : IsPart kept.expected 512 kept.held.now = carried (λ h. IsPart kept.expected 512 h) held kept.held.now same less
    in
    wrong (
      (omega (arith, limit), carried (λ n. IsPart kept.expected n kept.held.now) 512 kept.limit (sym limit) come),
      carried (λ (s : Progress). IsTrue (client_fits s kept.expected)) InProgress kept.progress (sym wanting)
          (carried (λ (d : Expected). IsTrue (client_due d)) expected kept.expected one unit),
      (λ ended. absurd (ended wanting)),
      mock,
    )

-- none of the tests of the struct holds
none_holds : (client : Struct) (kept : Snapshot) → Keeps client.connection kept.progress kept.expected kept.held.now
    → kept.progress ≡ InProgress → NoneHolds (side_tests client.connection)
none_holds client kept keeps wanting =
    let stands = carried (λ s. Keeps client.connection s kept.expected kept.held.now) kept.progress InProgress wanting keeps in
    ((λ ended. ended stands.progress), ((λ nothing. nothing kept.expected kept.held.now stands), tt))

-- no test of the struct is reported as out of memory
pub tests_without_memory : (connection : Kept) (status : Status) → IsFirst (side_tests connection) status
    → status ≡ statuses.OutOfMemory → ⊥
tests_without_memory connection status (inl (ended, is)) same = absurd (cc)
tests_without_memory connection status (inr (goes, inl (none, is))) same = absurd (cc)
tests_without_memory connection status (inr (goes, inr (kept, none))) same = absurd none

-- a struct that was read, of a login whose hostname can be sent
pub reads_client : (login : Login) (client : Struct) (kept : Snapshot)
    → Keeps client.connection kept.progress kept.expected kept.held.now → kept.progress ≡ InProgress → ¬ HasNoHostname login
    → ReadsClient login client
reads_client login client kept keeps wanting named = (none_holds client kept keeps wanting, named)

-- why there is no side
pub no_connection : (login : Login) (client : Struct) (status : Status)
    → IsFirst (side_tests client.connection) status → IsNoClient login client status
no_connection login client status first = inl first

pub no_hostname : (login : Login) (client : Struct) (kept : Snapshot) (status : Status)
    → Keeps client.connection kept.progress kept.expected kept.held.now → kept.progress ≡ InProgress
    → status ≡ statuses.NotUtf8 → HasNoHostname login → IsNoClient login client status
no_hostname login client kept status keeps wanting is wrong =
    inr (none_holds client kept keeps wanting, inl (is, wrong))

pub no_profile : (login : Login) (client : Struct) (kept : Snapshot) (status : Status)
    → Keeps client.connection kept.progress kept.expected kept.held.now → kept.progress ≡ InProgress → ¬ HasNoHostname login
    → IsNoProfile login status → IsNoClient login client status
no_profile login client kept status keeps wanting named wrong =
    inr (none_holds client kept keeps wanting, inr (named, inl wrong))

pub is_not_kept : (login : Login) (client : Struct) (kept : Snapshot) (profile : Profile)
    → Keeps client.connection kept.progress kept.expected kept.held.now → kept.progress ≡ InProgress → kept.limit ≡ 512
    → NamesNone kept → ¬ HasNoHostname login → IsProfile login client.scram profile → ¬ IsClientKept kept
    → IsNoClient login client statuses.InvalidSnapshot
is_not_kept login client kept profile keeps wanting limit mock named is wrong = inr (
  none_holds client kept keeps wanting,
  inr (named, inr (refl, keeps_no_part client kept keeps wanting limit mock wrong, (profile, is))),
)

-- the words of a client for PLAIN
pub no_user_text : (identity user password : List ℕ) → ¬ IsUtf8 user
    → IsFirst (client_word_tests false identity user password) statuses.NotUtf8
no_user_text identity user password wrong = inl (inl wrong, refl)

pub no_password_text : (identity user password : List ℕ) → ¬ IsUtf8 password
    → IsFirst (client_word_tests false identity user password) statuses.NotUtf8
no_password_text identity user password wrong = inl (inr wrong, refl)

pub ruleset client_words = (no_user_text, no_password_text)

-- PLAIN of a login that names no identity, and of one that names one
strict_itself : (words : Words) → words.acts_for.now ≡ [] → is_strict_plain words ≡ is_set words.strict
strict_itself words none =
    ap (λ (name : List ℕ). is_some (identity_named (Some name)) || is_set words.strict) none

strict_acting : (words : Words) → words.acts_for.now ≢ [] → is_strict_plain words ≡ true
strict_acting words some = go words.acts_for.now some where
  go : (name : List ℕ) → name ≢ [] → (is_some (identity_named (Some name)) || is_set words.strict) ≡ true
  go [] other = absurd (other refl)
  go (byte ∷ name) other = refl

pub plain_of_itself : (words : Words) → words.acts_for.now ≡ []
    → CanSendWords (is_set words.strict) words.username.now words.password.now
    → IsPlainOf words words.acts_for.now words.username.now words.password.now
plain_of_itself words none can = (
  refl,
  refl,
  refl,
  carried CanBeNamed [] words.acts_for.now (sym none) (tt, omega arith),
  carried (λ (b : Bool). CanSendWords b words.username.now words.password.now) (is_set words.strict) (is_strict_plain words)
      (sym (strict_itself words none)) can,
)

pub plain_acting : (words : Words) → words.acts_for.now ≢ [] → CanBeNamed words.acts_for.now
    → ArePlainWords words.username.now words.password.now
    → IsPlainOf words words.acts_for.now words.username.now words.password.now
plain_acting words some named can = (
  refl,
  refl,
  refl,
  named,
  carried (λ (b : Bool). CanSendWords b words.username.now words.password.now) true (is_strict_plain words)
      (sym (strict_acting words some)) can,
)

pub no_words_of_itself : (words : Words) (status : Status) → words.acts_for.now ≡ []
    → IsFirst (client_word_tests (is_set words.strict) words.acts_for.now words.username.now words.password.now) status
    → HasNoClientWords words status
no_words_of_itself words status none first = carried
    (λ (b : Bool). IsFirst (client_word_tests b words.acts_for.now words.username.now words.password.now) status)
    (is_set words.strict) (is_strict_plain words) (sym (strict_itself words none)) first

pub no_words_acting : (words : Words) (status : Status) → words.acts_for.now ≢ []
    → IsFirst (word_tests words.acts_for.now words.username.now words.password.now) status → HasNoClientWords words status
no_words_acting words status some first = carried
    (λ (b : Bool). IsFirst (client_word_tests b words.acts_for.now words.username.now words.password.now) status)
    true (is_strict_plain words) (sym (strict_acting words some)) first

pub is_none : (name : List ℕ) → length name ≡ 0 → name ≡ []
is_none [] none = refl
is_none (byte ∷ name) none = absurd (omega (arith, none))

pub is_some_name : (name : List ℕ) → length name ≢ 0 → name ≢ []
is_some_name name some none = some (ap length none)

pub ruleset plains =
    (plain_of_itself, plain_acting, no_words_of_itself, no_words_acting, is_none, is_some_name)

-- why a login has no profile
pub no_scram : (login : Login) (status : Status) → login.mechanism ≡ 0 → IsNoLogin login.login status
    → IsNoProfile login status
unfolding IsNoProfile
no_scram login status is wrong = inl (is, wrong)

pub no_plain : (login : Login) (status : Status) → login.mechanism ≡ 1 → HasNoClientWords login.login status
    → IsNoProfile login status
unfolding IsNoProfile
no_plain login status is wrong = inr (inl (is, wrong))

pub no_anonymous : (login : Login) (status : Status) → login.mechanism ≡ 2 → status ≡ statuses.NotImplemented
    → ¬ NamesNoIdentity login.login → IsNoProfile login status
unfolding IsNoProfile
no_anonymous login status is same some = inr (inr (inl (inl is, inl (some, same))))

pub no_external : (login : Login) (status : Status) → login.mechanism ≡ 3 → status ≡ statuses.NotImplemented
    → ¬ NamesNoIdentity login.login → IsNoProfile login status
unfolding IsNoProfile
no_external login status is same some = inr (inr (inl (inr is, inl (some, same))))

pub no_trace : (login : Login) (status : Status) → login.mechanism ≡ 4
    → IsFirst (message_tests login.login) status → IsNoProfile login status
unfolding IsNoProfile
no_trace login status is wrong = inr (inr (inr (inl (AnonymousMessage, is, wrong))))

pub no_identity : (login : Login) (status : Status) → login.mechanism ≡ 5
    → IsFirst (message_tests login.login) status → IsNoProfile login status
unfolding IsNoProfile
no_identity login status is wrong = inr (inr (inr (inl (ExternalMessage, is, wrong))))

pub no_mechanism : (login : Login) → 5 < login.mechanism → IsNoProfile login statuses.NoSuchMechanism
unfolding IsNoProfile
no_mechanism login wide = inr (inr (inr (inr (wide, refl))))

pub ruleset no_profiles = (no_scram, no_plain, no_anonymous, no_external, no_trace, no_identity, no_mechanism)

-- what a call makes of bytes
pub received : (login : Login) (bytes nonce : List ℕ) (before after : Struct) (accepts : Bool)
    (hostname : Option (List ℕ)) (side next : Side Profile) (taken : ℕ) (sent : List ℕ)
    → accepts ≡ accepts_extended before.connection → IsHostname login hostname → IsClient login before side
    → side.progress ≡ InProgress → ClientTakes accepts hostname side bytes nonce taken sent next
    → IsClient login after next → WritesSide accepts after next
    → ReceivesAsClient login bytes nonce before after taken (Ok sent)
unfolding ReceivesAsClient
received login bytes nonce before after accepts hostname side next taken sent same named is wanting held last written = (
  hostname,
  side,
  next,
  named,
  is,
  wanting,
  carried (λ (b : Bool). ClientTakes b hostname side bytes nonce taken sent next) accepts
      (accepts_extended before.connection) same held,
  last,
  carried (λ (b : Bool). WritesSide b after next) accepts (accepts_extended before.connection) same written,
)

pub not_received : (login : Login) (bytes nonce : List ℕ) (before after : Struct) (taken : ℕ) (status : Status)
    → IsNoClient login before status → ReceivesAsClient login bytes nonce before after taken (Err status)
unfolding ReceivesAsClient
not_received login bytes nonce before after taken status wrong = wrong

pub ruleset taken_up = (is_taken_up, no_connection, no_hostname, no_profile, is_not_kept, tests_without_memory, reads_client)
