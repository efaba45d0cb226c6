-- Look-ups of a server that knows a name by its mock records.
use Rattle.std.proofs.Common.{◌≡◌, ◌↔◌, ◌⊎◌, ◌∙◌, ◌++◌, ℕ, Bool, true, false, Option, Some, None, List, [], ◌∷◌, map, ap, sym, subst, refl, inl, inr}
use Rattle.std.specs.Prelude.{filter, if◌then◌else◌, nat_eq, option_map}
use Rattle.std.specs.Cmp.Lexicographic.{pointwise, same_text}
use Rattle.std.proofs.lemmas.List.{map-append}
use Rattle.std.proofs.lemmas.List.Elements.{filter-append}
use Rattle.std.proofs.lemmas.Option.{same_Some}
use Rattle.fe2o3_scram.specs.Credentials.{MeetsRecord, Record, Records, VersionedRecord, record_at}
use Rattle.fe2o3_scram.specs.Mixed.{MultiRecords, is_version, provider_for, unversioned}
use Rattle.fe2o3_scram.specs.MockSettings.{MockSettings, mock_cost, mock_record, stored_or}
use Rattle.fe2o3_scram.specs.declared.hmac.ScramVersion.{ScramVersion}
use Rattle.fe2o3_scram.specs.declared.hmac.ScramVersion.TheVariants.{Sha1, Sha256, Sha512}
use Rattle.fe2o3_sasl_core.specs.MockChoices.{MockChoice, mock_for}
use Rattle.fe2o3_sasl_core.specs.PlainServer.{PlainParts}
use Rattle.fe2o3_sasl_core.specs.Servers.{MessageLetsIn, ServerSettings, provider_by, rules_by}
use Rattle.connection_laws.specs.UnknownNames.{MeetsMock, mock_entry, mock_known}

-- ---- look-ups

-- a record of the first list counts before one of the second
found-append : (records others : Records) (user : List ℕ)
    → record_at (records ++ others) user ≡ stored_or (record_at others user) (record_at records user)
found-append [] others user = none (record_at others user)
  where
    none : (found : Option Record) → found ≡ stored_or found None
    none None = refl
    none (Some stored) = refl
found-append (entry ∷ records) others user = go (pointwise nat_eq entry.0 user) (found-append records others user)
  where
    some : (found : Option Record) (stored : Record) → Some stored ≡ stored_or found (Some stored)
    some None stored = refl
    some (Some other) stored = refl

    go : (same : Bool)
        → record_at (records ++ others) user ≡ stored_or (record_at others user) (record_at records user)
        → (if same then Some entry.1 else record_at (records ++ others) user)
        ≡ stored_or (record_at others user) (if same then Some entry.1 else record_at records user)
    go true later = some (record_at others user) entry.1
    go false later = later

-- the mock record of a name, for the name only
abbrev pub mock_of : MockSettings → List ℕ → List ℕ → Option Record
mock_of mock name user = if pointwise nat_eq name user then Some (mock_record mock name) else None

-- the mock entries for one hash
entries : (version : ScramVersion) (mock : MockChoice) (name user : List ℕ)
    → record_at (provider_for version (mock_entry mock name Sha1 ∷ mock_entry mock name Sha256
    ∷ mock_entry mock name Sha512 ∷ [])).records user ≡ mock_of (mock_for version mock) name user
entries Sha1 mock name user = refl
entries Sha256 mock name user = refl
entries Sha512 mock name user = refl

-- the record of a user, of the server that knows the name by its mock records
pub known_record : (version : ScramVersion) (mock : MockChoice) (name : List ℕ) (records : MultiRecords) (user : List ℕ)
    → record_at (provider_for version (mock_known mock name records)).records user
    ≡ stored_or (mock_of (mock_for version mock) name user) (record_at (provider_for version records).records user)
known_record version mock name records user =
    let own : MultiRecords = mock_entry mock name Sha1 ∷ mock_entry mock name Sha256 ∷ mock_entry mock name Sha512 ∷ [] in
    let is = λ (entry : List ℕ × VersionedRecord). is_version entry.1.version version in
    let split = ap (map unversioned) (filter-append is records own)
    ∙ map-append unversioned (filter is records) (filter is own) in
    ap (λ (all : Records). record_at all user) split
    ∙ (found-append (provider_for version records).records (provider_for version own).records user
    ∙ ap (λ (found : Option Record). stored_or found (record_at (provider_for version records).records user))
    (entries version mock name user))

-- ---- mock authentication

-- both have one record of each name
alike : (mock : MockSettings) (name user : List ℕ) (found : Option Record)
    → stored_or (Some (mock_record mock user)) found
    ≡ stored_or (Some (mock_record mock user)) (stored_or (mock_of mock name user) found)
alike mock name user (Some stored) = kept (mock_of mock name user)
  where
    kept : (other : Option Record) → Some stored
        ≡ stored_or (Some (mock_record mock user)) (stored_or other (Some stored))
    kept None = refl
    kept (Some record_of) = refl
alike mock name user None = go (pointwise nat_eq name user) refl
  where
    go : (same : Bool) → pointwise nat_eq name user ≡ same
        → Some (mock_record mock user) ≡ stored_or (Some (mock_record mock user))
        (stored_or (if same then Some (mock_record mock name) else None) None)
    go true is = ap (λ (text : List ℕ). Some (mock_record mock text)) (sym (same_text name user (sym is)))
    go false is = refl

pub one_provider : (settings : ServerSettings) (mock : MockChoice) (name : List ℕ) → settings.mock ≡ Some mock
    → (version : ScramVersion) (plus : Bool) → provider_by settings version plus
    ≡ provider_by (record settings { records = mock_known mock name settings.records }) version plus
one_provider settings mock name is version plus = λ i. record {
  version = version;
  records = λ user. one user i;
  look_up_cost = mock_cost (option_map (mock_for version) settings.mock);
  rules = rules_by plus settings.rules;
  rights = [];
}
  where
    one : (user : List ℕ)
        → stored_or (option_map (λ m. mock_record m user) (option_map (mock_for version) settings.mock))
        (record_at (provider_for version settings.records).records user)
        ≡ stored_or (option_map (λ m. mock_record m user) (option_map (mock_for version) settings.mock))
        (record_at (provider_for version (mock_known mock name settings.records)).records user)
    one user = subst (λ (choice : Option MockChoice).
        stored_or (option_map (λ m. mock_record m user) (option_map (mock_for version) choice))
        (record_at (provider_for version settings.records).records user)
        ≡ stored_or (option_map (λ m. mock_record m user) (option_map (mock_for version) choice))
        (record_at (provider_for version (mock_known mock name settings.records)).records user)) (sym is)
        (alike (mock_for version mock) name user (record_at (provider_for version settings.records).records user)
        ∙ ap (λ (found : Option Record). stored_or (Some (mock_record (mock_for version mock) user)) found)
        (sym (known_record version mock name settings.records user)))

-- ---- PLAIN

-- a record that is found is stored, or is the mock record
found_or_mock : (mock : MockSettings) (name user : List ℕ) (found : Option Record) (stored : Record)
    → stored_or (mock_of mock name user) found ≡ Some stored
    → (found ≡ Some stored) ⊎ ((user ≡ name) × (stored ≡ mock_record mock name))
found_or_mock mock name user found stored is = go (pointwise nat_eq name user) refl found is
  where
    go : (same : Bool) → pointwise nat_eq name user ≡ same → (found : Option Record)
        → stored_or (if same then Some (mock_record mock name) else None) found ≡ Some stored
        → (found ≡ Some stored) ⊎ ((user ≡ name) × (stored ≡ mock_record mock name))
    go true same None is =
        inr (sym (same_text name user (sym same)), sym (same_Some (mock_record mock name) stored is))
    go true same (Some other) is = inl is
    go false same None is = inl is
    go false same (Some other) is = inl is

-- a stored record is found
stored_first : (mock : MockSettings) (name user : List ℕ) (found : Option Record) (stored : Record)
    → found ≡ Some stored → stored_or (mock_of mock name user) found ≡ Some stored
stored_first mock name user found stored is =
    subst (λ (f : Option Record). stored_or (mock_of mock name user) f ≡ Some stored) (sym is)
    (go (mock_of mock name user))
  where
    go : (other : Option Record) → stored_or other (Some stored) ≡ Some stored
    go None = refl
    go (Some record_of) = refl

-- a message that does not meet the mock record logs its user in at both or at neither
pub one_message_lets_in : (settings : ServerSettings) (mock : MockChoice) (name text : List ℕ)
    → ¬ MeetsMock settings mock name text → (parts : PlainParts)
    → MessageLetsIn settings text parts
    ↔ MessageLetsIn (record settings { records = mock_known mock name settings.records }) text parts
one_message_lets_in settings mock name text none parts = (to, from)
  where
    known : record_at (provider_for settings.plain_version (mock_known mock name settings.records)).records parts.user
        ≡ stored_or (mock_of (mock_for settings.plain_version mock) name parts.user)
        (record_at (provider_for settings.plain_version settings.records).records parts.user)
    known = known_record settings.plain_version mock name settings.records parts.user

    to : MessageLetsIn settings text parts
        → MessageLetsIn (record settings { records = mock_known mock name settings.records }) text parts
    to (spells, taken, ((password, tested, (stored, found, meets)), right)) = (
      spells,
      taken,
      (
        (
          password,
          tested,
          (
            stored,
            known ∙ stored_first (mock_for settings.plain_version mock) name parts.user _ stored found,
            meets,
          ),
        ),
        right,
      ),
    )

    from : MessageLetsIn (record settings { records = mock_known mock name settings.records }) text parts
        → MessageLetsIn settings text parts
    from (spells, taken, ((password, tested, (stored, found, meets)), right)) =
        elim (found_or_mock (mock_for settings.plain_version mock) name parts.user _ stored (sym known ∙ found)) [
          | inl own ↦ (spells, taken, ((password, tested, (stored, own, meets)), right))
          | inr (user, mocked) ↦
              absurd (none (
                parts,
                spells,
                user,
                (
                  password,
                  tested,
                  subst (λ (s : Record). MeetsRecord settings.plain_version password s) mocked meets,
                ),
              ))
        ]
