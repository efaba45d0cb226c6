-- The reading of a record's text.
use Rattle.std.proofs.Common.{◌≡◌, ◌≢◌, ℕ, List, ◌∷◌, ◌++◌, length, codes, Result, Ok, Err, refl, sym, ◌∙◌, ap, subst, inl, inr}
use Rattle.std.specs.Prelude.{IfErr, IfOk}
use Rattle.fe2o3_scram.specs.declared.hmac.ScramVersion.{ScramVersion}
use Rattle.fe2o3_scram.specs.declared.credentials.record_text.RecordTextError.{RecordTextError}
use Rattle.fe2o3_scram.specs.declared.credentials.record_text.RecordTextError.TheVariants.{PartsMismatch, OutOfMemory}
use Rattle.fe2o3_scram.specs.Credentials.{VersionedRecord}
use Rattle.fe2o3_scram.specs.Hmac.{mechanism_name, digest_len}
use Rattle.fe2o3_scram.specs.Readings.{Gives, IsFirst, NoneHolds}
use Rattle.fe2o3_scram.specs.RecordText.{ArePlain, Fields, HasFields, IsKey, NamesRecord, ReachesValues, ReadsRecord, head_tests, value_tests}
use Rattle.fe2o3_scram.specs.Texts.{Cut, IsBase64}
use Rattle.fe2o3_scram.proofs.lemmas.hashes.NameLemmas.{one_version}
use Rattle.fe2o3_scram.proofs.lemmas.texts.Base64Lemmas.{one_spelled}
use Rattle.fe2o3_scram.proofs.lemmas.texts.CutLemmas.{one_cut}
use Rattle.fe2o3_scram.proofs.lemmas.messages.TestListLemmas.{IsFirst-back, IsFirst-front, NoneHolds-append, not_first}

-- ---- the fields

-- what follows the first, the second and the third separator
abbrev behind_mechanism : Fields → List ℕ
behind_mechanism fields = fields.count ++ (codes ":" ++ (fields.salt ++ (codes "$" ++ (fields.stored_key
    ++ (codes ":" ++ fields.server_key)))))

abbrev behind_count : Fields → List ℕ
behind_count fields = fields.salt ++ (codes "$" ++ (fields.stored_key ++ (codes ":" ++ fields.server_key)))

abbrev behind_salt : Fields → List ℕ
behind_salt fields = fields.stored_key ++ (codes ":" ++ fields.server_key)

-- a text that is cut four times has these fields, if any

mechanism_is : (text mechanism rest : List ℕ) (fields : Fields) → Cut 36 text mechanism rest → HasFields text fields
    → (mechanism ≡ fields.mechanism) × (rest ≡ behind_mechanism fields)
mechanism_is text mechanism rest fields cut has =
    one_cut 36 text mechanism rest fields.mechanism (behind_mechanism fields) cut (has.0.0.0, has.1)

count_is : (text mechanism rest count more : List ℕ) (fields : Fields) → Cut 36 text mechanism rest
    → Cut 58 rest count more → HasFields text fields → (count ≡ fields.count) × (more ≡ behind_count fields)
count_is text mechanism rest count more fields first second has =
    let same = (mechanism_is text mechanism rest fields first has).1 in
    one_cut 58 rest count more fields.count (behind_count fields) second (has.0.1.0.1, same)

salt_is : (text mechanism rest count more salt keys : List ℕ) (fields : Fields) → Cut 36 text mechanism rest
    → Cut 58 rest count more → Cut 36 more salt keys → HasFields text fields
    → (salt ≡ fields.salt) × (keys ≡ behind_salt fields)
salt_is text mechanism rest count more salt keys fields first second third has =
    let same = (count_is text mechanism rest count more fields first second has).1 in
    one_cut 36 more salt keys fields.salt (behind_salt fields) third (has.0.1.1.0.0, same)

keys_are : (text mechanism rest count more salt keys stored server : List ℕ) (fields : Fields)
    → Cut 36 text mechanism rest → Cut 58 rest count more → Cut 36 more salt keys → Cut 58 keys stored server
    → HasFields text fields → (stored ≡ fields.stored_key) × (server ≡ fields.server_key)
keys_are text mechanism rest count more salt keys stored server fields first second third fourth has =
    let same = (salt_is text mechanism rest count more salt keys fields first second third has).1 in
    one_cut 58 keys stored server fields.stored_key fields.server_key fourth (has.0.1.1.1.0.1, same)

abbrev pub made : List ℕ → List ℕ → List ℕ → List ℕ → List ℕ → Fields
made mechanism count salt stored server =
    record { mechanism = mechanism; count = count; salt = salt; stored_key = stored; server_key = server }

fields_are : (text mechanism rest count more salt keys stored server : List ℕ) (fields : Fields)
    → Cut 36 text mechanism rest → Cut 58 rest count more → Cut 36 more salt keys → Cut 58 keys stored server
    → HasFields text fields → made mechanism count salt stored server ≡ fields
fields_are text mechanism rest count more salt keys stored server fields first second third fourth has =
    let a = (mechanism_is text mechanism rest fields first has).0 in
    let b = (count_is text mechanism rest count more fields first second has).0 in
    let c = (salt_is text mechanism rest count more salt keys fields first second third has).0 in
    let d = keys_are text mechanism rest count more salt keys stored server fields first second third fourth has in
    λ i. made (a i) (b i) (c i) (d.0 i) (d.1 i)

-- a text that is not cut so often has no fields

pub no_mechanism : (text : List ℕ) → ((before rest : List ℕ) → ¬ Cut 36 text before rest) → (fields : Fields)
    → ¬ HasFields text fields
no_mechanism text none fields has = none fields.mechanism (behind_mechanism fields) (has.0.0.0, has.1)

pub no_count : (text mechanism rest : List ℕ) → Cut 36 text mechanism rest
    → ((before more : List ℕ) → ¬ Cut 58 rest before more) → (fields : Fields) → ¬ HasFields text fields
no_count text mechanism rest first none fields has =
    let same = (mechanism_is text mechanism rest fields first has).1 in
    none fields.count (behind_count fields) (has.0.1.0.1, same)

pub no_salt : (text mechanism rest count more : List ℕ) → Cut 36 text mechanism rest → Cut 58 rest count more
    → ((before keys : List ℕ) → ¬ Cut 36 more before keys) → (fields : Fields) → ¬ HasFields text fields
no_salt text mechanism rest count more first second none fields has =
    let same = (count_is text mechanism rest count more fields first second has).1 in
    none fields.salt (behind_salt fields) (has.0.1.1.0.0, same)

pub no_keys : (text mechanism rest count more salt keys : List ℕ) → Cut 36 text mechanism rest
    → Cut 58 rest count more → Cut 36 more salt keys → ((before server : List ℕ) → ¬ Cut 58 keys before server)
    → (fields : Fields) → ¬ HasFields text fields
no_keys text mechanism rest count more salt keys first second third none fields has =
    let same = (salt_is text mechanism rest count more salt keys fields first second third has).1 in
    none fields.stored_key fields.server_key (has.0.1.1.1.0.1, same)

pub not_plain : (text mechanism rest count more salt keys stored server : List ℕ) → Cut 36 text mechanism rest
    → Cut 58 rest count more → Cut 36 more salt keys → Cut 58 keys stored server
    → ¬ ArePlain (made mechanism count salt stored server) → (fields : Fields) → ¬ HasFields text fields
not_plain text mechanism rest count more salt keys stored server first second third fourth other fields has =
    let same = fields_are text mechanism rest count more salt keys stored server fields first second third fourth has in
    other (subst ArePlain (sym same) has.0)

-- and one that is has them where they are plain
pub has_fields : (text mechanism rest count more salt keys stored server : List ℕ) → Cut 36 text mechanism rest
    → Cut 58 rest count more → Cut 36 more salt keys → Cut 58 keys stored server
    → ArePlain (made mechanism count salt stored server) → HasFields text (made mechanism count salt stored server)
has_fields text mechanism rest count more salt keys stored server first second third fourth plain = (
  plain,
  first.1
      ∙ ap (λ (z : List ℕ). mechanism ++ 36 ∷ z) (second.1
      ∙ ap (λ (z : List ℕ). count ++ 58 ∷ z) (third.1 ∙ ap (λ (z : List ℕ). salt ++ 36 ∷ z) fourth.1)),
)

-- a text has its fields in one way
pub one_fields : (text : List ℕ) (fields other : Fields) → HasFields text fields → HasFields text other
    → fields ≡ other
one_fields text fields other has too =
    fields_are text fields.mechanism (behind_mechanism fields) fields.count (behind_count fields) fields.salt
    (behind_salt fields) fields.stored_key fields.server_key other (has.0.0.0, has.1) (has.0.1.0.1, refl)
    (has.0.1.1.0.0, refl) (has.0.1.1.1.0.1, refl) too

-- ---- the values

-- a key of another length than a digest is none of the version
pub unsized : (version : ScramVersion) (name text key : List ℕ) → mechanism_name version ≡ name → IsBase64 text key
    → length key ≢ digest_len version → (other : ScramVersion) (value : List ℕ) → mechanism_name other ≡ name
    → ¬ IsKey other text value
unsized version name text key is spells long other value too has =
    let same_key = one_spelled text value key has.0 spells in
    let same = one_version other version (too ∙ sym is) in
    long (ap length (sym same_key) ∙ has.1 ∙ ap digest_len same)

pub sized : (version : ScramVersion) (name text key : List ℕ) → mechanism_name version ≡ name → IsBase64 text key
    → length key ≡ digest_len version
    → ¬ ((other : ScramVersion) (value : List ℕ) → mechanism_name other ≡ name → ¬ IsKey other text value)
sized version name text key is spells fits none = none version key is (spells, fits)

pub ruleset keys = (unsized, sized)

-- ---- the reading

pub not_the_head : (fields : Fields) → ¬ IsFirst (head_tests fields) OutOfMemory
not_the_head fields = not_first (head_tests fields) OutOfMemory (λ wrong. absurd (cc), (λ wrong. absurd (cc), tt))

pub parts_refused : (text : List ℕ) → ((fields : Fields) → ¬ HasFields text fields)
    → ReadsRecord text (Err PartsMismatch)
unfolding ReadsRecord
parts_refused text none = inl (none, refl)

pub head_refused : (text : List ℕ) (fields : Fields) (fault : RecordTextError) → HasFields text fields
    → IsFirst (head_tests fields) fault → ReadsRecord text (Err fault)
unfolding ReadsRecord
head_refused text fields fault has first =
    inr (fields, has, IsFirst-front (head_tests fields) (value_tests fields) fault first)

pub values_refused : (text : List ℕ) (fields : Fields) (fault : RecordTextError) → HasFields text fields
    → NoneHolds (head_tests fields) → IsFirst (value_tests fields) fault → ReadsRecord text (Err fault)
unfolding ReadsRecord
values_refused text fields fault has none first =
    inr (fields, has, IsFirst-back (head_tests fields) (value_tests fields) fault none first)

pub record_read : (text : List ℕ) (fields : Fields) (read : VersionedRecord) → HasFields text fields
    → NoneHolds (head_tests fields) → NoneHolds (value_tests fields) → NamesRecord fields read
    → ReadsRecord text (Ok read)
unfolding ReadsRecord
record_read text fields read has none too names =
    inr (fields, has, (NoneHolds-append (head_tests fields) (value_tests fields) none too, names))

pub salt_reached : (text : List ℕ) (fields : Fields) → HasFields text fields → NoneHolds (head_tests fields)
    → ReachesValues text
salt_reached text fields has none = (fields, has, none)

-- what comes of the values
pub values_given : (text : List ℕ) (fields : Fields) (result : Result VersionedRecord RecordTextError)
    → HasFields text fields → NoneHolds (head_tests fields) → IfOk result (λ _. NoneHolds (value_tests fields))
    → IfOk result (λ read. NamesRecord fields read)
    → IfErr result (λ error. error ≢ OutOfMemory → IsFirst (value_tests fields) error)
    → Gives OutOfMemory (ReachesValues text) (λ (read : VersionedRecord). read) result (ReadsRecord text)
values_given text fields (Ok read) has none too names err = record_read text fields read has none too names
values_given text fields (Err fault) has none too names err =
    (λ _. salt_reached text fields has none, λ other. values_refused text fields fault has none (err other))
