-- A look-up in a store of a caller's own, as the law of a provider asks for it.
use Rattle.std.proofs.Common.{◌≡◌, ℕ, Bool, true, false, cond, List, [], ◌∷◌, Bor, bytes_eq, refl, sym, ◌∙◌, ap}
use Rattle.std.proofs.lemmas.Cmp.{nat_list_eq_equiv}
use Rattle.std.proofs.lemmas.Map.Text.{is_eq-slice_cmp}
use Rattle.std.specs.Cmp.Lexicographic.{pointwise, slice_cmp}
use Rattle.std.specs.List.{find}
use Rattle.std.specs.Map.{lookup}
use Rattle.std.specs.Ordering.{is_eq, nat_cmp}
use Rattle.std.specs.Prelude.{Option, None, Some, option_map, nat_eq}
use Rattle.fe2o3_scram.specs.Credentials.{Record, Records, record_at}
use Rattle.fe2o3_scram.specs.Stores.{records_in}

-- a store whose look-up finds the first entry that passes the test, which is that of the name
pub looked_up : {E : Type 0} (name_of : E → List ℕ) (record_of : E → Record) (is_named : E → Bool) (entries : List E)
    (name : List ℕ) → ((entry : E) → is_named entry ≡ pointwise nat_eq (name_of entry) name)
    → record_at (records_in name_of record_of entries) name ≡ option_map record_of (find is_named entries)
looked_up name_of record_of is_named [] name tests = refl
looked_up {E} name_of record_of is_named (entry ∷ entries) name tests =
    ap (λ (test : Bool). cond test (Some (record_of entry)) (record_at (records_in name_of record_of entries) name))
    (sym (tests entry)) ∙ go (is_named entry) (looked_up name_of record_of is_named entries name tests)
  where
    go : (test : Bool)
        → record_at (records_in name_of record_of entries) name ≡ option_map record_of (find is_named entries)
        → cond test (Some (record_of entry)) (record_at (records_in name_of record_of entries) name)
        ≡ option_map record_of (cond test (Some entry) (find is_named entries))
    go true behind = refl
    go false behind = behind

-- what a look-up in a slice of such entries answers
pub slice_looked_up : {E : Type 0} (name_of : E → List ℕ) (record_of : E → Record) (entries : List E) (name : List ℕ)
    (found : Option (Bor E))
    → option_map (λ (entry : Bor E). entry.now) found
    ≡ find (λ (entry : E). pointwise nat_eq (name_of entry) name) entries
    → option_map (λ (entry : Bor E). record_of entry.now) found
    ≡ record_at (records_in name_of record_of entries) name
slice_looked_up {E} name_of record_of entries name found is =
    both found ∙ ap (option_map record_of) is
    ∙ sym (looked_up name_of record_of (λ (entry : E). pointwise nat_eq (name_of entry) name) entries name
    (λ entry. refl))
  where
    both : (found : Option (Bor E)) → option_map (λ (entry : Bor E). record_of entry.now) found
        ≡ option_map record_of (option_map (λ (entry : Bor E). entry.now) found)
    both None = refl
    both (Some entry) = refl

-- a map's look-up is that of the first entry whose key passes
found_entry : {K X : Type 0} (record_of : X → Record) (test : K → Bool) (entries : List (K × X))
    → option_map record_of (lookup test entries)
    ≡ option_map (λ (entry : K × X). record_of entry.1) (find (λ (entry : K × X). test entry.0) entries)
found_entry record_of test [] = refl
found_entry {K} {X} record_of test (entry ∷ entries) = go (test entry.0) (found_entry record_of test entries)
  where
    go : (passes : Bool) → option_map record_of (lookup test entries)
        ≡ option_map (λ (entry : K × X). record_of entry.1) (find (λ (entry : K × X). test entry.0) entries)
        → option_map record_of (cond passes (Some entry.1) (lookup test entries))
        ≡ option_map (λ (entry : K × X). record_of entry.1)
        (cond passes (Some entry) (find (λ (entry : K × X). test entry.0) entries))
    go true behind = refl
    go false behind = behind

-- the records of a map's entries, by what its keys spell
abbrev pub records_of_map : {K X : Type 0} → (K → List ℕ) → (X → Record) → List (K × X) → Records
records_of_map {K} {X} name_of record_of entries =
    records_in (λ (entry : K × X). name_of entry.0) (λ (entry : K × X). record_of entry.1) entries

by_test : {K X : Type 0} (name_of : K → List ℕ) (record_of : X → Record) (test : K → Bool) (entries : List (K × X))
    (name : List ℕ) (found : Option (Bor X)) → ((key : K) → test key ≡ pointwise nat_eq (name_of key) name)
    → option_map (λ (value : Bor X). value.now) found ≡ lookup test entries
    → option_map (λ (value : Bor X). record_of value.now) found
    ≡ record_at (records_of_map name_of record_of entries) name
by_test {K} {X} name_of record_of test entries name found tests is =
    both found ∙ ap (option_map record_of) is ∙ found_entry record_of test entries
    ∙ sym (looked_up (λ (entry : K × X). name_of entry.0) (λ (entry : K × X). record_of entry.1)
    (λ (entry : K × X). test entry.0) entries name (λ entry. tests entry.0))
  where
    both : (found : Option (Bor X)) → option_map (λ (value : Bor X). record_of value.now) found
        ≡ option_map record_of (option_map (λ (value : Bor X). value.now) found)
    both None = refl
    both (Some value) = refl

-- what `get` of a `HashMap` from names answers
pub hash_map_looked_up : {K X : Type 0} (name_of : K → List ℕ) (record_of : X → Record) (entries : List (K × X))
    (name : List ℕ) (found : Option (Bor X))
    → option_map (λ (value : Bor X). value.now) found
    ≡ lookup (λ (key : K). bytes_eq name (name_of key)) entries
    → option_map (λ (value : Bor X). record_of value.now) found
    ≡ record_at (records_of_map name_of record_of entries) name
hash_map_looked_up {K} name_of record_of entries name found is =
    by_test name_of record_of (λ (key : K). bytes_eq name (name_of key)) entries name found
    (λ key. nat_list_eq_equiv.symm name (name_of key)) is

-- what `get` of a `BTreeMap` from names answers
pub btree_map_looked_up : {K X : Type 0} (name_of : K → List ℕ) (record_of : X → Record) (entries : List (K × X))
    (name : List ℕ) (found : Option (Bor X))
    → option_map (λ (value : Bor X). value.now) found
    ≡ lookup (λ (key : K). is_eq (slice_cmp nat_cmp name (name_of key))) entries
    → option_map (λ (value : Bor X). record_of value.now) found
    ≡ record_at (records_of_map name_of record_of entries) name
btree_map_looked_up {K} name_of record_of entries name found is =
    by_test name_of record_of (λ (key : K). is_eq (slice_cmp nat_cmp name (name_of key))) entries name found
    (λ key. is_eq-slice_cmp name (name_of key) ∙ nat_list_eq_equiv.symm name (name_of key)) is
