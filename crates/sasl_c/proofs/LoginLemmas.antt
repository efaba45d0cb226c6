-- Why a login is none.
use Rattle.std.proofs.Common.{arith, inl, inr, refl, ℕ, List, [], ◌∷◌, ◌≡◌, ◌≢◌, ◌≤◌, ◌<◌, ◌⊎◌, length}
use Rattle.std.specs.Prelude.{None, Some}
use Rattle.std.specs.Str.{IsUtf8}
use Rattle.fe2o3_scram.specs.declared.hmac.ScramVersion.{ScramVersion}
use Rattle.sasl_c.specs.declared.login.Login.{Login}
use Rattle.sasl_c.specs.declared.status.Status.{Status}
use Rattle.sasl_c.specs.declared.status.Status.TheVariants as statuses
use Rattle.fe2o3_scram.specs.ClientSecret.{Password, Keys, Both}
use Rattle.fe2o3_scram.specs.Passwords.{PasswordText}
use Rattle.fe2o3_scram.specs.ScramClient.{identity_named}
use Rattle.fe2o3_scram.specs.Texts.{Without}
use Rattle.fe2o3_scram.proofs.lemmas.texts.CutLemmas.{cut_or, not_without}
use Rattle.fe2o3_scram.specs.Readings.{IsFirst, NoneHolds}
use Rattle.sasl_c.specs.declared.keys.ScramKeys.{ScramKeys as KeysStruct}
use Rattle.sasl_c.specs.Client.{CanBeNamed, HasSecret, HoldsNone, IsNoLogin, IsNoSecret, header_tests, identity_tests, keys_tests, name_tests, secret_used}
use Rattle.sasl_c.specs.Channels.{channel_tests}
use Rattle.sasl_c.specs.Keys.{ShowsSomeKeys, shown_keys}
use Rattle.sasl_c.specs.Passwords.{IsPassword, password_tests}
use Rattle.sasl_c.specs.Records.{IsVersion}

-- ---- its identity

-- whether a text has no zero byte
without_or : (name : List ℕ) → Without 0 name ⊎ ¬ Without 0 name
without_or name = elim (cut_or 0 name) [
  | inl (before, rest, cut) ↦ inr (not_without 0 name before rest cut)
  | inr plain ↦ inl plain
]

pub can_be_named : (name : List ℕ) → ¬ ¬ Without 0 name → ¬ (256 < length name) → CanBeNamed name
can_be_named name plain few = elim (without_or name) [
  | inl without ↦ (without, omega (arith, few))
  | inr with_zero ↦ absurd (plain with_zero)
]

pub all_pass : (name : List ℕ) → IsUtf8 name → Without 0 name → length name ≤ 256 → NoneHolds (identity_tests name)
all_pass name utf8 plain few =
    ((λ wrong. wrong utf8), ((λ wrong. wrong plain), ((λ long. absurd (omega (arith, long, few))), tt)))

pub with_zero : (name : List ℕ) → IsUtf8 name → ¬ Without 0 name
    → IsFirst (identity_tests name) statuses.ProhibitedCharacter
with_zero name utf8 wrong = inr ((λ other. other utf8), inl (wrong, refl))

pub too_long : (name : List ℕ) → IsUtf8 name → Without 0 name → 256 < length name
    → IsFirst (identity_tests name) statuses.TooLong
too_long name utf8 plain long = inr ((λ other. other utf8), inr ((λ wrong. wrong plain), inl (long, refl)))

pub ruleset identities = (all_pass, with_zero, too_long)

-- ---- what it says in its header

abbrev pub channel_tests_of : Login → List (Status × Type 0)
channel_tests_of login = channel_tests login.channel_use login.channel_kind login.channel_data_len

pub has_header : (login : Login) → NoneHolds (identity_tests login.acts_for.now) → NoneHolds (channel_tests_of login)
    → NoneHolds (header_tests login)
has_header login named none = (named.0, (named.1.0, (named.1.1.0, none)))

pub no_identity : (login : Login) (status : Status) → IsFirst (identity_tests login.acts_for.now) status
    → IsFirst (header_tests login) status
no_identity login status (inl wrong) = inl wrong
no_identity login status (inr (utf8, inl wrong)) = inr (utf8, inl wrong)
no_identity login status (inr (utf8, inr (plain, inl wrong))) = inr (utf8, inr (plain, inl wrong))
no_identity login status (inr (utf8, inr (plain, inr (few, none)))) = absurd none

pub no_channel : (login : Login) (status : Status) → NoneHolds (identity_tests login.acts_for.now)
    → IsFirst (channel_tests_of login) status → IsFirst (header_tests login) status
no_channel login status named first = inr (named.0, inr (named.1.0, inr (named.1.1.0, first)))

-- an identity that is named, or none
pub names_none : (name : List ℕ) → length name ≡ 0 → identity_named (Some name) ≡ None
names_none [] none = refl
names_none (byte ∷ name) none = absurd (omega (arith, none))

pub ruleset headers = (has_header, no_identity, no_channel)

-- ---- its version, its user, its identity and its channel

pub has_names : (login : Login) (known : ScramVersion) → IsVersion login.version known → IsUtf8 login.username.now
    → NoneHolds (header_tests login) → NoneHolds (name_tests login)
has_names login known is utf8 none = ((λ wrong. wrong known is), ((λ other. other utf8), none))

pub no_header : (login : Login) (known : ScramVersion) (status : Status) → IsVersion login.version known
    → IsUtf8 login.username.now → IsFirst (header_tests login) status → IsFirst (name_tests login) status
no_header login known status is utf8 first = inr ((λ wrong. wrong known is), inr ((λ other. other utf8), first))

pub ruleset names = (has_names, no_header)

-- why its secret is none
pub no_password : (login : Login) (status : Status) → secret_used login ≡ 0
    → IsFirst (password_tests login.form login.password.now) status → IsNoSecret login status
unfolding IsNoSecret
no_password login status is first = inl (is, first)

pub no_keys : (login : Login) (status : Status) → secret_used login ≡ 1 → IsFirst (keys_tests login) status
    → IsNoSecret login status
unfolding IsNoSecret
no_keys login status is first = inr (inl (is, first))

pub neither_password : (login : Login) (status : Status) → secret_used login ≡ 2
    → IsFirst (password_tests login.form login.password.now) status → IsNoSecret login status
unfolding IsNoSecret
neither_password login status is first = inr (inr (inl (is, inl first)))

pub neither_keys : (login : Login) (status : Status) → secret_used login ≡ 2
    → NoneHolds (password_tests login.form login.password.now) → IsFirst (keys_tests login) status
    → IsNoSecret login status
unfolding IsNoSecret
neither_keys login status is none first = inr (inr (inl (is, inr (none, first))))

pub other_secret : (login : Login) → 2 < secret_used login → IsNoSecret login statuses.NoSuchSecret
unfolding IsNoSecret
other_secret login wide = inr (inr (inr (wide, refl)))

pub ruleset no_secrets = (no_password, no_keys, neither_password, neither_keys, other_secret)

-- ---- what its keys are

pub shows_keys : (kept : KeysStruct) (version : ScramVersion) → IsVersion kept.version version → kept.salt_len ≤ 128
    → ShowsSomeKeys kept
shows_keys kept version is few = (shown_keys version kept, (is, few, refl))

pub is_short : (kept : KeysStruct) → ShowsSomeKeys kept → kept.salt_len ≤ 128
is_short kept (keys, (is, few, same)) = few

pub of_no_version : (kept : KeysStruct) → ((version : ScramVersion) → ¬ IsVersion kept.version version)
    → ¬ ShowsSomeKeys kept
of_no_version kept none (keys, (is, few, same)) = none keys.version is

pub none_shown : (kept : KeysStruct) → ¬ ShowsSomeKeys kept → HoldsNone kept
none_shown kept none = λ keys shows. none (keys, shows)

pub ruleset key_tests = (shows_keys, is_short, of_no_version)

pub are_none : (login : Login) → ¬ ShowsSomeKeys login.keys.now → IsFirst (keys_tests login) statuses.NoKeys
are_none login none = inl ((λ keys shows. none (keys, shows)), refl)

pub are_other : (login : Login) → ShowsSomeKeys login.keys.now → login.keys.now.version ≢ login.version
    → IsFirst (keys_tests login) statuses.OtherVersion
are_other login shows other = inr ((λ none. none shows.0 shows.1), inl (other, refl))

pub are_there : (login : Login) → ShowsSomeKeys login.keys.now → login.keys.now.version ≡ login.version
    → NoneHolds (keys_tests login)
are_there login shows same = ((λ none. none shows.0 shows.1), ((λ other. other same), tt))

pub ruleset keys_there = (are_none, are_other, are_there)

-- ---- a login that has a secret

-- where no test holds, none is the first
no_first : (tests : List (Status × Type 0)) (status : Status) → NoneHolds tests → IsFirst tests status → ⊥
no_first [] status none first = first
no_first (test ∷ tests) status none (inl (holds, same)) = none.0 holds
no_first (test ∷ tests) status none (inr (passed, first)) = no_first tests status none.1 first

only_password : (login : Login) (status : Status) → secret_used login ≡ 0
    → NoneHolds (password_tests login.form login.password.now) → ¬ IsNoSecret login status
unfolding IsNoSecret
only_password login status is none (inl (zero, first)) = no_first (password_tests login.form login.password.now) status none first
only_password login status is none (inr (inl (one, first))) = absurd (omega (arith, is, one))
only_password login status is none (inr (inr (inl (two, first)))) = absurd (omega (arith, is, two))
only_password login status is none (inr (inr (inr (wide, same)))) = absurd (omega (arith, is, wide))

only_keys : (login : Login) (status : Status) → secret_used login ≡ 1 → NoneHolds (keys_tests login)
    → ¬ IsNoSecret login status
unfolding IsNoSecret
only_keys login status is none (inl (zero, first)) = absurd (omega (arith, is, zero))
only_keys login status is none (inr (inl (one, first))) = no_first (keys_tests login) status none first
only_keys login status is none (inr (inr (inl (two, first)))) = absurd (omega (arith, is, two))
only_keys login status is none (inr (inr (inr (wide, same)))) = absurd (omega (arith, is, wide))

only_both : (login : Login) (status : Status) → secret_used login ≡ 2
    → NoneHolds (password_tests login.form login.password.now) → NoneHolds (keys_tests login) → ¬ IsNoSecret login status
unfolding IsNoSecret
only_both login status is passed none (inl (zero, first)) = absurd (omega (arith, is, zero))
only_both login status is passed none (inr (inl (one, first))) = absurd (omega (arith, is, one))
only_both login status is passed none (inr (inr (inl (two, inl first)))) =
    no_first (password_tests login.form login.password.now) status passed first
only_both login status is passed none (inr (inr (inl (two, inr (other, first))))) = no_first (keys_tests login) status none first
only_both login status is passed none (inr (inr (inr (wide, same)))) = absurd (omega (arith, is, wide))

pub has_password : (login : Login) (password : PasswordText) → secret_used login ≡ 0
    → IsPassword login.form login.password.now password → NoneHolds (password_tests login.form login.password.now)
    → HasSecret login
unfolding HasSecret
has_password login password is given none = ((Password password, (is, given)), λ status. only_password login status is none)

pub has_keys : (login : Login) → secret_used login ≡ 1 → NoneHolds (keys_tests login) → ShowsSomeKeys login.keys.now
    → HasSecret login
unfolding HasSecret
has_keys login is none shows = ((Keys shows.0, (is, shows.1)), λ status. only_keys login status is none)

pub has_both : (login : Login) (password : PasswordText) → secret_used login ≡ 2
    → IsPassword login.form login.password.now password → NoneHolds (password_tests login.form login.password.now)
    → NoneHolds (keys_tests login) → ShowsSomeKeys login.keys.now → HasSecret login
unfolding HasSecret
has_both login password is given passed none shows =
    ((Both password shows.0, (is, given, shows.1)), λ status. only_both login status is passed none)

pub ruleset secret_tests = (no_secrets, has_password, has_keys, has_both)

-- ---- a login

pub no_name : (login : Login) (status : Status) → IsFirst (name_tests login) status → IsNoLogin login status
no_name login status first = inl first

pub has_no_secret : (login : Login) (status : Status) → NoneHolds (name_tests login) → IsNoSecret login status
    → IsNoLogin login status
has_no_secret login status none wrong = inr (none, wrong)

header_not_memory : (login : Login) (status : Status) → IsFirst (header_tests login) status
    → status ≢ statuses.OutOfMemory
header_not_memory login status (inl (wrong, same)) = λ other. absurd (cc)
header_not_memory login status (inr (utf8, inl (wrong, same))) = λ other. absurd (cc)
header_not_memory login status (inr (utf8, inr (plain, inl (long, same)))) = λ other. absurd (cc)
header_not_memory login status (inr (utf8, inr (plain, inr (few, inl (none, same))))) = λ other. absurd (cc)
header_not_memory login status (inr (utf8, inr (plain, inr (few, inr (known, inl (long, same)))))) = λ other. absurd (cc)
header_not_memory login status (inr (utf8, inr (plain, inr (few, inr (known, inr (sized, none)))))) = absurd none

pub name_not_memory : (login : Login) (status : Status) → IsFirst (name_tests login) status
    → status ≢ statuses.OutOfMemory
name_not_memory login status (inl (none, same)) = λ other. absurd (cc)
name_not_memory login status (inr (some, inl (wrong, same))) = λ other. absurd (cc)
name_not_memory login status (inr (some, inr (right, first))) = header_not_memory login status first

pub ruleset login_tests = (no_name, has_no_secret, name_not_memory)
