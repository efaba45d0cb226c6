-- The records of a store by name, as users come and go.
use Rattle.std.proofs.Common.{◌≡◌, ◌⊎◌, ◌+◌, ◌<◌, ℕ, zero, suc, Bool, true, false, cond, List, [], ◌∷◌, ◌++◌, length, get_or, set, take, arith, bytes_eq, refl, sym, ◌∙◌, ap, subst, inl, inr}
use Rattle.std.proofs.lemmas.Bool.{cond-false, cond-true}
use Rattle.std.proofs.lemmas.Cmp.{nat_list_eq_equiv}
use Rattle.std.proofs.lemmas.List.{take_more}
use Rattle.std.proofs.lemmas.Slice.Eq.{bytes_eq-Decides}
use Rattle.std.specs.BTreeMap.{BTreeMap, get_by_text}
use Rattle.std.specs.Cmp.Lexicographic.{pointwise, slice_cmp}
use Rattle.std.specs.List.{AllZip}
use Rattle.std.specs.Map.{lookup}
use Rattle.std.specs.Ordering.{is_eq, nat_cmp}
use Rattle.std.specs.Prelude.{Option, None, Some, String, is_some, nat_eq, not, option_map, string_bytes}
use Rattle.fe2o3_scram.specs.declared.hmac.ScramVersion.{ScramVersion}
use Rattle.fe2o3_scram.specs.Credentials.{Record, Records, VersionedRecord, record_at, records_with, records_without, versioned}
use Rattle.fe2o3_scram.specs.private.ByName.{IsByName}

-- two names are one, or the test distinguishes them
pub apart : (user name : List ℕ) → (user ≡ name) ⊎ (pointwise nat_eq user name ≡ false)
apart user name = go (pointwise nat_eq user name) refl
  where
    go : (test : Bool) → pointwise nat_eq user name ≡ test → (user ≡ name) ⊎ (pointwise nat_eq user name ≡ false)
    go true is = inl ((bytes_eq-Decides user name).0 is)
    go false is = inr is

-- ---- one user more

-- of another name
record_at-other : (records : Records) (user : List ℕ × Record) (name : List ℕ)
    → pointwise nat_eq user.0 name ≡ false → record_at (records ++ (user ∷ [])) name ≡ record_at records name
record_at-other [] user name other = cond-false (pointwise nat_eq user.0 name) (Some user.1) None other
record_at-other (entry ∷ records) user name other =
    ap (λ (found : Option Record). cond (pointwise nat_eq entry.0 name) (Some entry.1) found)
    (record_at-other records user name other)

-- of a name that has a record
record_at-again : (records : Records) (user : List ℕ × Record) (name : List ℕ) (first : Record)
    → record_at records name ≡ Some first → record_at (records ++ (user ∷ [])) name ≡ Some first
record_at-again [] user name first some = absurd (cc)
record_at-again (entry ∷ records) user name first some =
    go (pointwise nat_eq entry.0 name) some (record_at-again records user name first)
  where
    go : (test : Bool) → cond test (Some entry.1) (record_at records name) ≡ Some first
        → (record_at records name ≡ Some first → record_at (records ++ (user ∷ [])) name ≡ Some first)
        → cond test (Some entry.1) (record_at (records ++ (user ∷ [])) name) ≡ Some first
    go true some behind = some
    go false some behind = behind some

-- of a name that has none
record_at-first : (records : Records) (user : List ℕ × Record) → record_at records user.0 ≡ None
    → record_at (records ++ (user ∷ [])) user.0 ≡ Some user.1
record_at-first [] user none =
    cond-true (pointwise nat_eq user.0 user.0) (Some user.1) None (nat_list_eq_equiv.refl user.0)
record_at-first (entry ∷ records) user none =
    go (pointwise nat_eq entry.0 user.0) none (record_at-first records user)
  where
    go : (test : Bool) → cond test (Some entry.1) (record_at records user.0) ≡ None
        → (record_at records user.0 ≡ None → record_at (records ++ (user ∷ [])) user.0 ≡ Some user.1)
        → cond test (Some entry.1) (record_at (records ++ (user ∷ [])) user.0) ≡ Some user.1
    go true none behind = absurd (cc)
    go false none behind = behind none

-- what a map has, its list has
not_none : {X Z W : Type 0} (f : X → Z) (g : W → Z) (in_map : Option X) → option_map f in_map ≡ option_map g None
    → is_some in_map ≡ true → ⊥
not_none f g None same has = absurd (cc)
not_none f g (Some value) same has = absurd (cc)

none_too : {X Z W : Type 0} (f : X → Z) (g : W → Z) (in_map : Option X) (in_list : Option W)
    → option_map f in_map ≡ option_map g in_list → is_some in_map ≡ false → in_list ≡ None
none_too f g None None same has = refl
none_too f g None (Some value) same has = absurd (cc)
none_too f g (Some value) in_list same has = absurd (cc)

module _ {X Y : Type 0} (record_of : X → VersionedRecord) (version : ScramVersion) where
  -- a name that the map has counts no second time
  pub by_name-again : (map : BTreeMap (String Y) X) (records : Records) (user : List ℕ × Record)
      → IsByName record_of map version records → is_some (get_by_text map user.0) ≡ true
      → IsByName record_of map version (records ++ (user ∷ []))
  by_name-again map records user is has name =
      is name ∙ ap (option_map (versioned version)) (sym (go (apart user.0 name)))
    where
      at_own : (found : Option Record) → record_at records user.0 ≡ found
          → record_at (records ++ (user ∷ [])) user.0 ≡ record_at records user.0
      at_own None none =
          absurd (not_none record_of (versioned version) (get_by_text map user.0)
          (is user.0 ∙ ap (option_map (versioned version)) none) has)
      at_own (Some first) some = record_at-again records user user.0 first some ∙ sym some

      go : (user.0 ≡ name) ⊎ (pointwise nat_eq user.0 name ≡ false)
          → record_at (records ++ (user ∷ [])) name ≡ record_at records name
      go (inl same) =
          subst (λ (name : List ℕ). record_at (records ++ (user ∷ [])) name ≡ record_at records name) same
          (at_own (record_at records user.0) refl)
      go (inr other) = record_at-other records user name other

  -- a name that the map does not have is added to it
  pub by_name-first : (map more : BTreeMap (String Y) X) (records : Records) (user : List ℕ × Record) (value : X)
      → IsByName record_of map version records → is_some (get_by_text map user.0) ≡ false
      → record_of value ≡ versioned version user.1
      → ((name : List ℕ) → get_by_text more name ≡ cond (bytes_eq user.0 name) (Some value) (get_by_text map name))
      → IsByName record_of more version (records ++ (user ∷ []))
  by_name-first map more records user value is has same_record looked_up name = go (apart user.0 name)
    where
      none : record_at records user.0 ≡ None
      none = none_too record_of (versioned version) (get_by_text map user.0) (record_at records user.0) (is user.0) has

      at_own : option_map record_of (get_by_text more user.0)
          ≡ option_map (versioned version) (record_at (records ++ (user ∷ [])) user.0)
      at_own =
          ap (option_map record_of) (looked_up user.0
          ∙ cond-true (bytes_eq user.0 user.0) (Some value) (get_by_text map user.0) (nat_list_eq_equiv.refl user.0))
          ∙ ap Some same_record
          ∙ ap (option_map (versioned version)) (sym (record_at-first records user none))

      go : (user.0 ≡ name) ⊎ (pointwise nat_eq user.0 name ≡ false)
          → option_map record_of (get_by_text more name)
          ≡ option_map (versioned version) (record_at (records ++ (user ∷ [])) name)
      go (inl same) =
          subst (λ (name : List ℕ). option_map record_of (get_by_text more name)
          ≡ option_map (versioned version) (record_at (records ++ (user ∷ [])) name)) same at_own
      go (inr other) =
          ap (option_map record_of) (looked_up name
          ∙ cond-false (bytes_eq user.0 name) (Some value) (get_by_text map name) other)
          ∙ is name ∙ ap (option_map (versioned version)) (sym (record_at-other records user name other))

-- ---- a name less

-- the name itself
pub without-own : (records : Records) (user : List ℕ) → record_at (records_without records user) user ≡ None
without-own [] user = refl
without-own (entry ∷ records) user = go (pointwise nat_eq entry.0 user) refl (without-own records user)
  where
    go : (test : Bool) → pointwise nat_eq entry.0 user ≡ test
        → record_at (records_without records user) user ≡ None
        → record_at (cond (not test) (entry ∷ records_without records user) (records_without records user)) user
        ≡ None
    go true is behind = behind
    go false is behind =
        cond-false (pointwise nat_eq entry.0 user) (Some entry.1) (record_at (records_without records user) user) is
        ∙ behind

-- another name
pub without-other : (records : Records) (user name : List ℕ) → pointwise nat_eq user name ≡ false
    → record_at (records_without records user) name ≡ record_at records name
without-other [] user name other = refl
without-other (entry ∷ records) user name other =
    go (pointwise nat_eq entry.0 user) refl (without-other records user name other)
  where
    go : (test : Bool) → pointwise nat_eq entry.0 user ≡ test
        → record_at (records_without records user) name ≡ record_at records name
        → record_at (cond (not test) (entry ∷ records_without records user) (records_without records user)) name
        ≡ record_at (entry ∷ records) name
    go true is behind =
        behind
        ∙ sym (cond-false (pointwise nat_eq entry.0 name) (Some entry.1) (record_at records name)
        (ap (λ (of : List ℕ). pointwise nat_eq of name) ((bytes_eq-Decides entry.0 user).0 is) ∙ other))
    go false is behind =
        ap (λ (found : Option Record). cond (pointwise nat_eq entry.0 name) (Some entry.1) found) behind

-- a name that nobody has
pub without_mock : (records : Records) (user : List ℕ) → is_some (record_at records user) ≡ false
    → records_without records user ≡ records
without_mock [] user mock = refl
without_mock (entry ∷ records) user mock =
    go (pointwise nat_eq entry.0 user) mock (without_mock records user)
  where
    go : (test : Bool) → is_some (cond test (Some entry.1) (record_at records user)) ≡ false
        → (is_some (record_at records user) ≡ false → records_without records user ≡ records)
        → cond (not test) (entry ∷ records_without records user) (records_without records user) ≡ entry ∷ records
    go true mock behind = absurd (cc)
    go false mock behind = ap (λ (rest : Records). entry ∷ rest) (behind mock)

module _ {X Y : Type 0} (record_of : X → VersionedRecord) (version : ScramVersion) where
  -- the name leaves the map
  pub by_name-without : (map less : BTreeMap (String Y) X) (records : Records) (user : List ℕ)
      → IsByName record_of map version records
      → ((name : List ℕ) → get_by_text less name ≡ cond (bytes_eq user name) None (get_by_text map name))
      → IsByName record_of less version (records_without records user)
  by_name-without map less records user is looked_up name = go (apart user name)
    where
      go : (user ≡ name) ⊎ (pointwise nat_eq user name ≡ false)
          → option_map record_of (get_by_text less name)
          ≡ option_map (versioned version) (record_at (records_without records user) name)
      go (inl same) =
          subst (λ (name : List ℕ). option_map record_of (get_by_text less name)
          ≡ option_map (versioned version) (record_at (records_without records user) name)) same
          (ap (option_map record_of) (looked_up user
          ∙ cond-true (bytes_eq user user) None (get_by_text map user) (nat_list_eq_equiv.refl user))
          ∙ ap (option_map (versioned version)) (sym (without-own records user)))
      go (inr other) =
          ap (option_map record_of) (looked_up name
          ∙ cond-false (bytes_eq user name) None (get_by_text map name) other)
          ∙ is name ∙ ap (option_map (versioned version)) (sym (without-other records user name other))

-- ---- another record

-- the name itself
pub with-own : (records : Records) (user : List ℕ) (stored : Record) → is_some (record_at records user) ≡ true
    → record_at (records_with records user stored) user ≡ Some stored
with-own [] user stored has = absurd (cc)
with-own (entry ∷ records) user stored has =
    go (pointwise nat_eq entry.0 user) refl has (with-own records user stored)
  where
    go : (test : Bool) → pointwise nat_eq entry.0 user ≡ test
        → is_some (cond test (Some entry.1) (record_at records user)) ≡ true
        → (is_some (record_at records user) ≡ true → record_at (records_with records user stored) user ≡ Some stored)
        → record_at (cond test ((entry.0, stored) ∷ records) (entry ∷ records_with records user stored)) user
        ≡ Some stored
    go true is has behind =
        cond-true (pointwise nat_eq entry.0 user) (Some stored) (record_at records user) is
    go false is has behind =
        cond-false (pointwise nat_eq entry.0 user) (Some entry.1) (record_at (records_with records user stored) user) is
        ∙ behind has

-- another name
pub with-other : (records : Records) (user name : List ℕ) (stored : Record) → pointwise nat_eq user name ≡ false
    → record_at (records_with records user stored) name ≡ record_at records name
with-other [] user name stored other = refl
with-other (entry ∷ records) user name stored other =
    go (pointwise nat_eq entry.0 user) refl (with-other records user name stored other)
  where
    go : (test : Bool) → pointwise nat_eq entry.0 user ≡ test
        → record_at (records_with records user stored) name ≡ record_at records name
        → record_at (cond test ((entry.0, stored) ∷ records) (entry ∷ records_with records user stored)) name
        ≡ record_at (entry ∷ records) name
    go true is behind =
        let apart : pointwise nat_eq entry.0 name ≡ false =
        ap (λ (of : List ℕ). pointwise nat_eq of name) ((bytes_eq-Decides entry.0 user).0 is) ∙ other in
        cond-false (pointwise nat_eq entry.0 name) (Some stored) (record_at records name) apart
        ∙ sym (cond-false (pointwise nat_eq entry.0 name) (Some entry.1) (record_at records name) apart)
    go false is behind =
        ap (λ (found : Option Record). cond (pointwise nat_eq entry.0 name) (Some entry.1) found) behind

-- a name that nobody has
pub with_mock : (records : Records) (user : List ℕ) (stored : Record) → is_some (record_at records user) ≡ false
    → records_with records user stored ≡ records
with_mock [] user stored mock = refl
with_mock (entry ∷ records) user stored mock =
    go (pointwise nat_eq entry.0 user) mock (with_mock records user stored)
  where
    go : (test : Bool) → is_some (cond test (Some entry.1) (record_at records user)) ≡ false
        → (is_some (record_at records user) ≡ false → records_with records user stored ≡ records)
        → cond test ((entry.0, stored) ∷ records) (entry ∷ records_with records user stored) ≡ entry ∷ records
    go true mock behind = absurd (cc)
    go false mock behind = ap (λ (rest : Records). entry ∷ rest) (behind mock)

-- the first of the name, with those before it
pub with-at : (records : Records) (user : List ℕ) (stored : Record) (k : ℕ) (default : List ℕ × Record)
    → is_some (record_at (take k records) user) ≡ false → k < length records
    → pointwise nat_eq (get_or records k default).0 user ≡ true
    → set records k ((get_or records k default).0, stored) ≡ records_with records user stored
with-at [] user stored k default before below here = absurd (omega arith)
with-at (entry ∷ records) user stored zero default before below here =
    sym (cond-true (pointwise nat_eq entry.0 user) ((entry.0, stored) ∷ records)
    (entry ∷ records_with records user stored) here)
with-at (entry ∷ records) user stored (suc k) default before below here =
    go (pointwise nat_eq entry.0 user) before
    (λ before. with-at records user stored k default before (omega arith) here)
  where
    go : (test : Bool) → is_some (cond test (Some entry.1) (record_at (take k records) user)) ≡ false
        → (is_some (record_at (take k records) user) ≡ false
        → set records k ((get_or records k default).0, stored) ≡ records_with records user stored)
        → entry ∷ set records k ((get_or records k default).0, stored)
        ≡ cond test ((entry.0, stored) ∷ records) (entry ∷ records_with records user stored)
    go true before behind = absurd (cc)
    go false before behind = ap (λ (rest : Records). entry ∷ rest) (behind before)

-- one user more without the name
pub mock-more : (records : Records) (user : List ℕ) (k : ℕ) (default : List ℕ × Record) → k < length records
    → is_some (record_at (take k records) user) ≡ false
    → pointwise nat_eq (get_or records k default).0 user ≡ false
    → is_some (record_at (take (k + 1) records) user) ≡ false
mock-more records user k default below before here =
    ap (λ (front : Records). is_some (record_at front user)) (take_more records k default below)
    ∙ ap (λ (found : Option Record). is_some found)
    (record_at-other (take k records) (get_or records k default) user here) ∙ before

module _ {X Y : Type 0} (record_of : X → VersionedRecord) (version : ScramVersion) where
  -- a name has another record in both
  pub by_name-with : (map after : BTreeMap (String Y) X) (records : Records) (user : List ℕ) (stored : Record)
      (value : X) → IsByName record_of map version records → is_some (record_at records user) ≡ true
      → record_of value ≡ versioned version stored
      → ((name : List ℕ) → get_by_text after name ≡ cond (bytes_eq user name) (Some value) (get_by_text map name))
      → IsByName record_of after version (records_with records user stored)
  by_name-with map after records user stored value is has same_record looked_up name = go (apart user name)
    where
      at_own : option_map record_of (get_by_text after user)
          ≡ option_map (versioned version) (record_at (records_with records user stored) user)
      at_own =
          ap (option_map record_of) (looked_up user
          ∙ cond-true (bytes_eq user user) (Some value) (get_by_text map user) (nat_list_eq_equiv.refl user))
          ∙ ap Some same_record
          ∙ ap (option_map (versioned version)) (sym (with-own records user stored has))

      go : (user ≡ name) ⊎ (pointwise nat_eq user name ≡ false)
          → option_map record_of (get_by_text after name)
          ≡ option_map (versioned version) (record_at (records_with records user stored) name)
      go (inl same) =
          subst (λ (name : List ℕ). option_map record_of (get_by_text after name)
          ≡ option_map (versioned version) (record_at (records_with records user stored) name)) same at_own
      go (inr other) =
          ap (option_map record_of) (looked_up name
          ∙ cond-false (bytes_eq user name) (Some value) (get_by_text map name) other)
          ∙ is name ∙ ap (option_map (versioned version)) (sym (with-other records user name stored other))

  -- ---- a copy

  copied : (test : List ℕ → Bool) (entries copies : List (String Y × X))
      → AllZip (λ (entry copy : String Y × X). (string_bytes copy.0 ≡ string_bytes entry.0)
      × (record_of copy.1 ≡ record_of entry.1)) entries copies
      → option_map record_of (lookup (λ (key : String Y). test (string_bytes key)) copies)
      ≡ option_map record_of (lookup (λ (key : String Y). test (string_bytes key)) entries)
  copied test [] [] same = refl
  copied test [] (copy ∷ copies) same = absurd same
  copied test (entry ∷ entries) [] same = absurd same
  copied test (entry ∷ entries) (copy ∷ copies) same =
      ap (λ (key : List ℕ). option_map record_of (cond (test key) (Some copy.1)
      (lookup (λ (key : String Y). test (string_bytes key)) copies))) same.0.0
      ∙ go (test (string_bytes entry.0)) (copied test entries copies same.1)
    where
      go : (passes : Bool)
          → option_map record_of (lookup (λ (key : String Y). test (string_bytes key)) copies)
          ≡ option_map record_of (lookup (λ (key : String Y). test (string_bytes key)) entries)
          → option_map record_of (cond passes (Some copy.1)
          (lookup (λ (key : String Y). test (string_bytes key)) copies))
          ≡ option_map record_of (cond passes (Some entry.1)
          (lookup (λ (key : String Y). test (string_bytes key)) entries))
      go true behind = ap Some same.0.1
      go false behind = behind

  -- a copy of the map serves as the map does
  pub by_name-copy : (map copy : BTreeMap (String Y) X) (records : Records)
      → AllZip (λ (entry other : String Y × X). (string_bytes other.0 ≡ string_bytes entry.0)
      × (record_of other.1 ≡ record_of entry.1)) map.entries copy.entries
      → IsByName record_of map version records → IsByName record_of copy version records
  by_name-copy map copy records same is name =
      copied (λ (key : List ℕ). is_eq (slice_cmp nat_cmp name key)) map.entries copy.entries same ∙ is name
