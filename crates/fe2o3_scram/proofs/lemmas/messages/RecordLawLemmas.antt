-- A record's text is read as that record, and as no other.
use Rattle.std.proofs.Common.{◌≡◌, ◌≢◌, ◌<◌, ◌≤◌, ◌^◌, ℕ, true, not, eqb, List, ◌++◌, length, Result, Ok, Err, refl, sym, ◌∙◌, ap, subst, inl, inr, arith}
use Rattle.std.proofs.lemmas.Fmt.{decimal_is_IsNumeral}
use Rattle.std.specs.Fmt.{decimal}
use Rattle.std.specs.List.{list_all}
use Rattle.base64.specs.GeneralPurpose.{IsBytes}
use Rattle.fe2o3_scram.specs.declared.hmac.ScramVersion.{ScramVersion}
use Rattle.fe2o3_scram.specs.declared.hmac.ScramVersion.TheVariants.{Sha1, Sha256, Sha512}
use Rattle.fe2o3_scram.specs.declared.credentials.record_text.RecordTextError.{RecordTextError}
use Rattle.fe2o3_scram.specs.declared.credentials.record_text.RecordTextError.TheVariants.{PartsMismatch}
use Rattle.fe2o3_scram.specs.Credentials.{VersionedRecord, record_of}
use Rattle.fe2o3_scram.specs.Hmac.{mechanism_name, digest_len}
use Rattle.fe2o3_scram.specs.Readings.{NoneHolds}
use Rattle.fe2o3_scram.specs.RecordText.{ArePlain, Fields, HasFields, IsKey, IsReadable, NamesRecord, Plain, ReadsFields, ReadsRecord, record_fields, head_tests, laid_out, record_text, value_tests}
use Rattle.fe2o3_scram.specs.Texts.{IsBase64, IsPlainCount, Without, alphabet, base64_text}
use Rattle.fe2o3_scram.proofs.lemmas.hashes.DigestLemmas.{length-digest, IsBytes-digest, length-hmac_of, IsBytes-hmac_of}
use Rattle.fe2o3_scram.proofs.lemmas.hashes.NameLemmas.{one_version}
use Rattle.fe2o3_scram.proofs.lemmas.messages.RecordTextLemmas.{made, has_fields, no_count, no_keys, no_mechanism, no_salt, not_plain, one_fields, unsized}
use Rattle.fe2o3_scram.proofs.lemmas.messages.SomeReadingLemmas.{AllDecided, some_reading}
use Rattle.fe2o3_scram.proofs.lemmas.messages.TestListLemmas.{one_reading}
use Rattle.fe2o3_scram.proofs.lemmas.texts.Base64Lemmas.{one_spelled}
use Rattle.fe2o3_scram.proofs.lemmas.texts.CountLemmas.{no_plain_count, one_count, one_plain_count, plain_is_count}
use Rattle.fe2o3_scram.proofs.lemmas.texts.CutLemmas.{cut_or, not_without, uncut}
use Rattle.fe2o3_scram.proofs.lemmas.texts.EachByteLemmas.{each-base64_text, without-digits, without-test}
use Rattle.fe2o3_scram.proofs.lemmas.texts.DecisionLemmas.{Decided, Found, held, found_one, none_or, both_or, base64_or, count_or, same_number_or, same_or}

-- ---- no field of a record holds a separator

plain-base64_text : (bytes : List ℕ) → Plain (base64_text bytes)
plain-base64_text bytes = (
  each-base64_text (λ byte. byte ≢ 36) bytes (λ is. absurd (omega (arith, is))) (λ is. absurd (omega (arith, is)))
      (without-test 36 alphabet refl),
  each-base64_text (λ byte. byte ≢ 58) bytes (λ is. absurd (omega (arith, is))) (λ is. absurd (omega (arith, is)))
      (without-test 58 alphabet refl),
)

plain-decimal : (n : ℕ) → n < 2 ^ 32 → Plain (decimal n)
plain-decimal n small =
    let numeral = decimal_is_IsNumeral n (omega (arith, small)) in (
      without-digits 36 (decimal n) (inl (omega arith)) numeral.0.1,
      without-digits 58 (decimal n) (inr (omega arith)) numeral.0.1,
    )

plain-literal : (text : List ℕ) → list_all (λ other. not (eqb other 36)) text ≡ true
    → list_all (λ other. not (eqb other 58)) text ≡ true → Plain text
plain-literal text passes too = (without-test 36 text passes, without-test 58 text too)

plain-mechanism_name : (version : ScramVersion) → Plain (mechanism_name version)
plain-mechanism_name Sha1 = plain-literal (mechanism_name Sha1) refl refl
plain-mechanism_name Sha256 = plain-literal (mechanism_name Sha256) refl refl
plain-mechanism_name Sha512 = plain-literal (mechanism_name Sha512) refl refl

-- a record's text has its fields
has_its_fields : (kept : VersionedRecord) → IsReadable kept → HasFields (record_text kept) (record_fields kept)
has_its_fields kept is = (
  (
    plain-mechanism_name kept.version,
    (
      plain-decimal kept.stored.count is.small,
      (
        plain-base64_text kept.stored.salt,
        (plain-base64_text kept.stored.stored_key, (plain-base64_text kept.stored.server_key, tt)),
      ),
    ),
  ),
  refl,
)

-- ---- a record's text is read again

none_from_names : (fields : Fields) (kept : VersionedRecord) → NamesRecord fields kept
    → NoneHolds (head_tests fields ++ value_tests fields)
none_from_names fields kept names = (
  λ none. none kept.version names.version,
  (
    λ none. none kept.stored.count names.count,
    (
      λ none. none kept.stored.salt names.salt,
      (
        λ none. none kept.stored.stored_key names.stored_key.0,
        (
          λ none. none kept.stored.server_key names.server_key.0,
          (
            λ none. none kept.version kept.stored.stored_key names.version names.stored_key,
            (λ none. none kept.version kept.stored.server_key names.version names.server_key, tt),
          ),
        ),
      ),
    ),
  ),
)

names_itself : (kept : VersionedRecord) → IsReadable kept → NamesRecord (record_fields kept) kept
names_itself kept is = record {
  version = refl;
  count = (refl, is.some, is.small);
  salt = (is.salt, refl);
  stored_key = ((is.stored_key.0, refl), is.stored_key.1);
  server_key = ((is.server_key.0, refl), is.server_key.1);
}

pub read_again : (kept : VersionedRecord) → IsReadable kept → ReadsRecord (record_text kept) (Ok kept)
unfolding ReadsRecord
read_again kept is =
    let names = names_itself kept is in
    inr (record_fields kept, has_its_fields kept is, (none_from_names (record_fields kept) kept names, names))

-- ---- a record has one text

fields_named : (fields : Fields) (kept : VersionedRecord) → NamesRecord fields kept → fields ≡ record_fields kept
fields_named fields kept names =
    let version = sym names.version in
    let count = names.count.0 in
    let salt = names.salt.1 in
    let stored = names.stored_key.0.1 in
    let server = names.server_key.0.1 in
    λ i. made (version i) (count i) (salt i) (stored i) (server i)

pub one_spelling : (text : List ℕ) (kept : VersionedRecord) → ReadsRecord text (Ok kept)
    → (text ≡ record_text kept) × IsReadable kept
unfolding ReadsRecord
one_spelling text kept (inl refused) = let wrong = refused.1 in absurd (cc)
one_spelling text kept (inr (fields, has, reads)) =
    let names = reads.1 in (
      has.1 ∙ ap laid_out (fields_named fields kept names),
      record {
        some = names.count.1;
        small = names.count.2;
        salt = names.salt.0;
        stored_key = (names.stored_key.0.0, names.stored_key.1);
        server_key = (names.server_key.0.0, names.server_key.1);
      },
    )

-- ---- a text has one answer

abbrev kept_of : ScramVersion → List ℕ → ℕ → List ℕ → List ℕ → VersionedRecord
kept_of version salt count stored server = record {
  version = version;
  stored = record { salt = salt; count = count; stored_key = stored; server_key = server };
}

one_names : (fields : Fields) (kept other : VersionedRecord) → NamesRecord fields kept → NamesRecord fields other
    → kept ≡ other
one_names fields kept other names too =
    let version = one_version kept.version other.version (names.version ∙ sym too.version) in
    let count = one_plain_count fields.count kept.stored.count other.stored.count names.count too.count in
    let salt = one_spelled fields.salt kept.stored.salt other.stored.salt names.salt too.salt in
    let stored = one_spelled fields.stored_key kept.stored.stored_key other.stored.stored_key names.stored_key.0
    too.stored_key.0 in
    let server = one_spelled fields.server_key kept.stored.server_key other.stored.server_key names.server_key.0
    too.server_key.0 in
    λ i. kept_of (version i) (salt i) (count i) (stored i) (server i)

pub one_record : (text : List ℕ) (answer other : Result VersionedRecord RecordTextError) → ReadsRecord text answer
    → ReadsRecord text other → answer ≡ other
unfolding ReadsRecord
one_record text answer other (inl refused) (inl too) = refused.1 ∙ sym too.1
one_record text answer other (inl refused) (inr (fields, has, reads)) = absurd (refused.0 fields has)
one_record text answer other (inr (fields, has, reads)) (inl refused) = absurd (refused.0 fields has)
one_record text answer other (inr (fields, has, reads)) (inr (others, has_too, too)) =
    let same = one_fields text others fields has_too has in
    one_reading (head_tests fields ++ value_tests fields) (NamesRecord fields) (one_names fields) answer other reads
    (subst (λ (these : Fields). ReadsFields these other) same too)

-- ---- a text has an answer

without_or : (byte : ℕ) (text : List ℕ) → Decided (Without byte text)
without_or byte text = elim (cut_or byte text) [
  | inl (before, rest, cut) ↦ inr (not_without byte text before rest cut)
  | inr plain ↦ inl plain
]

plain_or : (text : List ℕ) → Decided (Plain text)
plain_or text = both_or (without_or 36 text) (without_or 58 text)

are_plain_or : (fields : Fields) → Decided (ArePlain fields)
are_plain_or fields = both_or (plain_or fields.mechanism) (both_or (plain_or fields.count)
    (both_or (plain_or fields.salt) (both_or (plain_or fields.stored_key) (both_or (plain_or fields.server_key)
    (inl tt)))))

fields_or : (text : List ℕ) → Found (HasFields text)
fields_or text = elim (cut_or 36 text) [
  | inr plain ↦ inr (no_mechanism text (uncut 36 text plain))
  | inl (mechanism, rest, a) ↦ elim (cut_or 58 rest) [
    | inr plain ↦ inr (no_count text mechanism rest a (uncut 58 rest plain))
    | inl (count, more, b) ↦ elim (cut_or 36 more) [
      | inr plain ↦ inr (no_salt text mechanism rest count more a b (uncut 36 more plain))
      | inl (salt, keys, c) ↦ elim (cut_or 58 keys) [
        | inr plain ↦ inr (no_keys text mechanism rest count more salt keys a b c (uncut 58 keys plain))
        | inl (stored, server, d) ↦ elim (are_plain_or (made mechanism count salt stored server)) [
          | inl plain ↦ inl (
            made mechanism count salt stored server,
            has_fields text mechanism rest count more salt keys stored server a b c d plain,
          )
          | inr other ↦ inr (not_plain text mechanism rest count more salt keys stored server a b c d other)
        ]
      ]
    ]
  ]
]

version_or : (name : List ℕ) → Found (λ (version : ScramVersion). mechanism_name version ≡ name)
version_or name = go (same_or (mechanism_name Sha1) name) (same_or (mechanism_name Sha256) name)
    (same_or (mechanism_name Sha512) name)
  where
    none : mechanism_name Sha1 ≢ name → mechanism_name Sha256 ≢ name → mechanism_name Sha512 ≢ name
        → (version : ScramVersion) → mechanism_name version ≢ name
    none one two five Sha1 = one
    none one two five Sha256 = two
    none one two five Sha512 = five

    go : Decided (mechanism_name Sha1 ≡ name) → Decided (mechanism_name Sha256 ≡ name)
        → Decided (mechanism_name Sha512 ≡ name) → Found (λ (version : ScramVersion). mechanism_name version ≡ name)
    go (inl one) two five = inl (Sha1, one)
    go (inr one) (inl two) five = inl (Sha256, two)
    go (inr one) (inr two) (inl five) = inl (Sha512, five)
    go (inr one) (inr two) (inr five) = inr (none one two five)

plain_count_or : (text : List ℕ) → Found (IsPlainCount text)
plain_count_or text = elim (count_or text) [
  | inl (count, is) ↦ elim (same_or text (decimal count)) [
    | inl same ↦ inl (count, (same, is.4, is.5))
    | inr other ↦
        inr (λ plain too. other (too.0 ∙ ap decimal (one_count text plain count (plain_is_count text plain too) is)))
  ]
  | inr none ↦ inr (no_plain_count text none)
]

-- no key of the length that the name asks for
abbrev NoKey : List ℕ → List ℕ → Type 0
NoKey name text = (version : ScramVersion) (key : List ℕ) → mechanism_name version ≡ name → ¬ IsKey version text key

no_key_or : (name text : List ℕ) → Decided (NoKey name text)
no_key_or name text = elim (version_or name) [
  | inr none ↦ inl (λ version value is. absurd (none version is))
  | inl (version, is) ↦ elim (base64_or text) [
    | inr none ↦ inl (λ other value too has. none value has.0)
    | inl (key, spells) ↦ elim (same_number_or (length key) (digest_len version)) [
      | inl fits ↦ inr (λ none. none version key is (spells, fits))
      | inr other ↦ inl (unsized version name text key is spells other)
    ]
  ]
]

fields_decided : (fields : Fields) → AllDecided (head_tests fields ++ value_tests fields)
fields_decided fields = (
  none_or (version_or fields.mechanism),
  (
    none_or (plain_count_or fields.count),
    (
      none_or (base64_or fields.salt),
      (
        none_or (base64_or fields.stored_key),
        (
          none_or (base64_or fields.server_key),
          (
            no_key_or fields.mechanism fields.stored_key,
            (no_key_or fields.mechanism fields.server_key, tt),
          ),
        ),
      ),
    ),
  ),
)

-- a key that is spelled is as long as a digest where the test finds no fault
fitting : (version : ScramVersion) (name text key : List ℕ) → mechanism_name version ≡ name → IsBase64 text key
    → ¬ NoKey name text → length key ≡ digest_len version
fitting version name text key is spells some =
    held (same_number_or (length key) (digest_len version))
    (λ other. some (unsized version name text key is spells other))

some_fields : (fields : Fields) → (answer : Result VersionedRecord RecordTextError) × ReadsFields fields answer
some_fields fields = some_reading (head_tests fields ++ value_tests fields) (NamesRecord fields) (fields_decided fields)
    (λ none.
    let version = found_one (version_or fields.mechanism) none.0 in
    let count = found_one (plain_count_or fields.count) none.1.0 in
    let salt = found_one (base64_or fields.salt) none.1.1.0 in
    let stored = found_one (base64_or fields.stored_key) none.1.1.1.0 in
    let server = found_one (base64_or fields.server_key) none.1.1.1.1.0 in (
      kept_of version.0 salt.0 count.0 stored.0 server.0,
      record {
        version = version.1;
        count = count.1;
        salt = salt.1;
        stored_key = (
          stored.1,
          fitting version.0 fields.mechanism fields.stored_key stored.0 version.1 stored.1 none.1.1.1.1.1.0,
        );
        server_key = (
          server.1,
          fitting version.0 fields.mechanism fields.server_key server.0 version.1 server.1 none.1.1.1.1.1.1.0,
        );
      },
    ))

pub some_record : (text : List ℕ) → (answer : Result VersionedRecord RecordTextError) × ReadsRecord text answer
unfolding ReadsRecord
some_record text = elim (fields_or text) [
  | inl (fields, has) ↦ let read = some_fields fields in (read.0, inr (fields, has, read.1))
  | inr none ↦ (Err PartsMismatch, inl (none, refl))
]

-- ---- a record of a password can be read

pub made_is_readable : (version : ScramVersion) (password salt : List ℕ) (count : ℕ) → IsBytes salt → 1 ≤ count
    → count < 2 ^ 32 → IsReadable (record { version = version; stored = record_of version password salt count })
made_is_readable version password salt count are some small = record {
  some = some;
  small = small;
  salt = are;
  stored_key = (IsBytes-digest version _, length-digest version _);
  server_key = (IsBytes-hmac_of version _ _, length-hmac_of version _ _);
}
