-- Reading elements one after the other, as a loop does.
use Rattle.std.proofs.Common.{◌≡◌, ℕ, zero, suc, ◌+◌, ◌-◌, ◌<◌, ◌≤◌, List, [], ◌∷◌, length, cond, Option, Some, None, refl, sym, ap, ◌∙◌, arith, option_map, slice_get, IsSome, subst, Contains}
use Rattle.std.specs.Prelude.{◌↔◌, nat_eq, IsTrue, IsAscii}
use Rattle.std.specs.List.{AllByRecursion}
use Rattle.std.proofs.lemmas.Bool.{eqb-true}
use Rattle.fe2o3_sasl_wire.specs.declared.sasl_frames.forms.Form.{Form}
use Rattle.fe2o3_sasl_wire.specs.private.Reading.{◌>>=◌, content_at, is_ascii, element_at, elements_at, names_in}
use Rattle.fe2o3_sasl_wire.proofs.lemmas.reading.TextLemmas.{IsAscii-from_is_ascii}
use Rattle.fe2o3_sasl_wire.proofs.lemmas.reading.StepLemmas.{bind_some, when_some, some_is}

-- the bytes after the elements that were read
abbrev pub rest_of : Option (List (List ℕ) × List ℕ) → Option (List ℕ)
rest_of read = option_map (λ x. x.1) read

-- one more element and the others
abbrev pub with_first : List ℕ → Option (List (List ℕ) × List ℕ) → Option (List (List ℕ) × List ℕ)
with_first name read = read >>= λ x. Some (name ∷ x.0, x.1)

one_more : (form : Form) (count passed : ℕ) (bytes name after : List ℕ) → passed < count
    → element_at form bytes ≡ Some (name, after)
    → elements_at form (count - passed) bytes ≡ with_first name (elements_at form (count - (passed + 1)) after)
unfolding elements_at
one_more form count passed bytes name after lt h =
    let k : count - passed ≡ suc (count - (passed + 1)) = omega arith in
    rw (k, h) refl

stops : (form : Form) (count passed : ℕ) (bytes : List ℕ) → passed < count → element_at form bytes ≡ None
    → elements_at form (count - passed) bytes ≡ None
unfolding elements_at
stops form count passed bytes lt h =
    let k : count - passed ≡ suc (count - (passed + 1)) = omega arith in
    rw (k, h) refl

at_end : (form : Form) (count passed : ℕ) (bytes : List ℕ) → count ≤ passed
    → elements_at form (count - passed) bytes ≡ Some ([], bytes)
unfolding elements_at
at_end form count passed bytes le =
    let k : count - passed ≡ 0 = omega arith in
    rw k refl

rest-with_first : (name : List ℕ) (read : Option (List (List ℕ) × List ℕ))
    → rest_of (with_first name read) ≡ rest_of read
rest-with_first name None = refl
rest-with_first name (Some x) = refl

-- what a walk over the elements still does: the bytes after those that are left are the ones after all
pub record Leaves (form : Form) (left : ℕ) (bytes : List ℕ) (total : Option (List ℕ)) : Type 0 where
  pub same : rest_of (elements_at form left bytes) ≡ total

-- what precedes the bytes after an element
pub rest_read : (read : Option (List ℕ × List ℕ)) {after : List ℕ} → Some after ≡ option_map (λ x. x.1) read
    → (name : List ℕ) × (read ≡ Some (name, after))
rest_read None h = absurd cc
rest_read (Some x) {after} h = (x.0, ap (λ (y : List ℕ). Some (x.0, y)) (sym (some_is after x.1 h)))

-- where there are no bytes after an element, none was read
pub rest_unread : (read : Option (List ℕ × List ℕ)) → None ≡ option_map (λ x. x.1) read → read ≡ None
rest_unread None h = refl
rest_unread (Some x) h = absurd cc

-- one element is read, and what is left leads to the same bytes as before
pub rest_goes_on : {form : Form} {count passed : ℕ} {bytes name after : List ℕ} {total : Option (List ℕ)}
    → passed < count
    → element_at form bytes ≡ Some (name, after) → Leaves form (count - passed) bytes total
    → Leaves form (count - (passed + 1)) after total
rest_goes_on {form} {count} {passed} {bytes} {name} {after} lt read so_far =
    let others = elements_at form (count - (passed + 1)) after in
    let one = one_more form count passed bytes name after lt read in
    record { same = sym (rest-with_first name others) ∙ sym (ap rest_of one) ∙ so_far.same }

-- where an element cannot be read, nothing follows all
pub rest_stops : {form : Form} {count passed : ℕ} {bytes : List ℕ} {total : Option (List ℕ)} → passed < count
    → element_at form bytes ≡ None → Leaves form (count - passed) bytes total → None ≡ total
rest_stops {form} {count} {passed} {bytes} lt read so_far =
    sym (ap rest_of (stops form count passed bytes lt read)) ∙ so_far.same

-- where no element is left, the bytes at hand are those after all
pub rest_at_end : {form : Form} {count passed : ℕ} {bytes : List ℕ} {total : Option (List ℕ)} → count ≤ passed
    → Leaves form (count - passed) bytes total → Some bytes ≡ total
rest_at_end {form} {count} {passed} {bytes} le so_far =
    sym (ap rest_of (at_end form count passed bytes le)) ∙ so_far.same

-- ---- a view of elements

length_more : (name : List ℕ) (read : Option (List (List ℕ) × List ℕ)) (n : ℕ)
    → (IsSome read → length (names_in read) ≡ n)
    → IsSome (with_first name read) → length (names_in (with_first name read)) ≡ suc n
length_more name None n ih h = absurd cc
length_more name (Some x) n ih h = ap suc (ih refl)

length_step : (first : Option (List ℕ × List ℕ)) (others : List ℕ → Option (List (List ℕ) × List ℕ)) (n : ℕ)
    → ((rest : List ℕ) → IsSome (others rest) → length (names_in (others rest)) ≡ n)
    → IsSome (first >>= λ x. with_first x.0 (others x.1))
    → length (names_in (first >>= λ x. with_first x.0 (others x.1))) ≡ suc n
length_step None others n ih h = absurd cc
length_step (Some x) others n ih h = length_more x.0 (others x.1) n (ih x.1) h

-- as many names as were asked for
pub length_names : (form : Form) (count : ℕ) (bytes : List ℕ) → IsSome (elements_at form count bytes)
    → length (names_in (elements_at form count bytes)) ≡ count
unfolding elements_at
length_names form zero bytes h = refl
length_names form (suc n) bytes h =
    length_step (element_at form bytes) (λ rest. elements_at form n rest) n (λ rest. length_names form n rest) h

-- a walk over no elements has no names
pub walk_ends : (form : Form) (count : ℕ) (bytes : List ℕ) → count ≡ 0 → names_in (elements_at form count bytes) ≡ []
unfolding elements_at
walk_ends form count bytes none = rw none refl

-- no name exactly where none was asked for
pub no_names : (form : Form) (count : ℕ) (bytes : List ℕ) → IsSome (elements_at form count bytes)
    → (IsTrue (nat_eq count 0)) ↔ (names_in (elements_at form count bytes) ≡ [])
no_names form count bytes reads = (
  λ none. walk_ends form count bytes (eqb-true count 0 none),
  λ none. is_zero count (sym (length_names form count bytes reads) ∙ ap length none),
)
  where
    is_zero : (n : ℕ) → n ≡ 0 → IsTrue (nat_eq n 0)
    is_zero zero e = refl
    is_zero (suc n) e = absurd cc

-- what an index still finds: the names in what is left, from the place that is left
pub record Finds (form : Form) (left : ℕ) (bytes : List ℕ) (index : ℕ) (total : Option (List ℕ)) : Type 0 where
  pub reads : IsSome (elements_at form left bytes)
  pub same : slice_get (names_in (elements_at form left bytes)) index ≡ total

is_some-with_first : (name : List ℕ) (read : Option (List (List ℕ) × List ℕ)) → IsSome (with_first name read)
    → IsSome read
is_some-with_first name None h = absurd cc
is_some-with_first name (Some x) h = refl

names-with_first : (name : List ℕ) (read : Option (List (List ℕ) × List ℕ)) → IsSome (with_first name read)
    → names_in (with_first name read) ≡ name ∷ names_in read
names-with_first name None h = absurd cc
names-with_first name (Some x) h = refl

-- before the index is reached, it is found among the elements that are left
pub finds_more : {form : Form} {count passed index : ℕ} {bytes name after : List ℕ} {total : Option (List ℕ)}
    → passed < count
    → passed < index → element_at form bytes ≡ Some (name, after)
    → Finds form (count - passed) bytes (index - passed) total
    → Finds form (count - (passed + 1)) after (index - (passed + 1)) total
finds_more {form} {count} {passed} {index} {bytes} {name} {after} {total} lt far h f =
    let one = one_more form count passed bytes name after lt h in
    let read = elements_at form (count - (passed + 1)) after in
    let reads : IsSome (with_first name read) = rw one at f.reads in
    let k : index - passed ≡ suc (index - (passed + 1)) = omega arith in
    let same : slice_get (names_in (with_first name read)) (suc (index - (passed + 1))) ≡ total =
    rw (one, k) at f.same in
    record { reads = is_some-with_first name read reads; same = rw (names-with_first name read reads) at same }

-- at the index, the name that was read is the one that is found
pub finds_here : {form : Form} {count passed index : ℕ} {bytes name after : List ℕ} {total : Option (List ℕ)}
    → passed < count
    → passed ≡ index → element_at form bytes ≡ Some (name, after)
    → Finds form (count - passed) bytes (index - passed) total → Some name ≡ total
finds_here {form} {count} {passed} {index} {bytes} {name} {after} {total} lt here h f =
    let one = one_more form count passed bytes name after lt h in
    let read = elements_at form (count - (passed + 1)) after in
    let reads : IsSome (with_first name read) = rw one at f.reads in
    let k : index - passed ≡ 0 = omega arith in
    let same : slice_get (names_in (with_first name read)) 0 ≡ total = rw (one, k) at f.same in
    rw (names-with_first name read reads) at same

-- the elements in which an index is sought can be read
pub finds_stops : {form : Form} {count passed : ℕ} (index : ℕ) {bytes : List ℕ} {total : Option (List ℕ)}
    → passed < count
    → element_at form bytes ≡ None
    → Finds form (count - passed) bytes (index - passed) total → ⊥
finds_stops {form} {count} {passed} index {bytes} {total} lt h f =
    let none = stops form count passed bytes lt h in
    let k : IsSome {T = List (List ℕ) × List ℕ} None = rw none at f.reads in
    cc

-- where no element is left, nothing is found
pub finds_nothing : {form : Form} {count passed : ℕ} (index : ℕ) {bytes : List ℕ} {total : Option (List ℕ)}
    → count ≤ passed
    → Finds form (count - passed) bytes (index - passed) total → None ≡ total
finds_nothing {form} {count} {passed} index {bytes} {total} le f =
    sym (ap (λ read. slice_get (names_in read) (index - passed)) (at_end form count passed bytes le)) ∙ f.same

-- ---- a name among the symbols

-- what is still to be searched: the name is among all symbols exactly where it is among those in what is left
pub record Seeks (form : Form) (left : ℕ) (bytes name : List ℕ) (all : List (List ℕ)) : Type 0 where
  pub reads : IsSome (elements_at form left bytes)
  pub in_rest : Contains all name → Contains (names_in (elements_at form left bytes)) name
  pub in_all : Contains (names_in (elements_at form left bytes)) name → Contains all name

contains_other : (first name : List ℕ) (xs : List (List ℕ)) → (first ≡ name → ⊥) → Contains (first ∷ xs) name
    → Contains xs name
contains_other first name xs ne (zero, lt, e) = absurd (ne e)
contains_other first name xs ne (suc k, lt, e) = (k, omega (arith, lt), e)

contains_more : (first name : List ℕ) (xs : List (List ℕ)) → Contains xs name → Contains (first ∷ xs) name
contains_more first name xs (k, lt, e) = (suc k, omega (arith, lt), e)

contains_first : (first name : List ℕ) (xs : List (List ℕ)) → first ≡ name → Contains (first ∷ xs) name
contains_first first name xs e = (0, omega arith, e)

-- an element with another name changes nothing: the search goes on in what is left
pub seeks_more : {form : Form} {count passed : ℕ} {bytes first after name : List ℕ} {all : List (List ℕ)}
    → passed < count
    → (first ≡ name → ⊥) → element_at form bytes ≡ Some (first, after)
    → Seeks form (count - passed) bytes name all → Seeks form (count - (passed + 1)) after name all
seeks_more {form} {count} {passed} {bytes} {first} {after} {name} {all} lt ne h s =
    let one = one_more form count passed bytes first after lt h in
    let read = elements_at form (count - (passed + 1)) after in
    let reads : IsSome (with_first first read) = rw one at s.reads in
    let names : names_in (elements_at form (count - passed) bytes) ≡ first ∷ names_in read =
    ap names_in one ∙ names-with_first first read reads in
    record {
      reads = is_some-with_first first read reads;
      in_rest =
          λ k. contains_other first name (names_in read) ne
          (subst (λ (xs : List (List ℕ)). Contains xs name) names (s.in_rest k));
      in_all =
          λ k. s.in_all (subst (λ (xs : List (List ℕ)). Contains xs name) (sym names)
          (contains_more first name (names_in read) k));
    }

-- an element with the name shows that the name is among all symbols
pub seeks_here : {form : Form} {count passed : ℕ} {bytes first after name : List ℕ} {all : List (List ℕ)}
    → passed < count
    → first ≡ name → element_at form bytes ≡ Some (first, after)
    → Seeks form (count - passed) bytes name all → Contains all name
seeks_here {form} {count} {passed} {bytes} {first} {after} {name} {all} lt here h s =
    let one = one_more form count passed bytes first after lt h in
    let read = elements_at form (count - (passed + 1)) after in
    let reads : IsSome (with_first first read) = rw one at s.reads in
    let names : names_in (elements_at form (count - passed) bytes) ≡ first ∷ names_in read =
    ap names_in one ∙ names-with_first first read reads in
    s.in_all (subst (λ (xs : List (List ℕ)). Contains xs name) (sym names)
    (contains_first first name (names_in read) here))

-- the elements in which a name is sought can be read
pub seeks_stops : {form : Form} {count passed : ℕ} {bytes name : List ℕ} {all : List (List ℕ)} → passed < count
    → element_at form bytes ≡ None
    → Seeks form (count - passed) bytes name all → ⊥
seeks_stops {form} {count} {passed} {bytes} {name} {all} lt h s =
    let none = stops form count passed bytes lt h in
    let k : IsSome {T = List (List ℕ) × List ℕ} None = rw none at s.reads in
    cc

contains_none : (name : List ℕ) → Contains [] name → ⊥
contains_none name (k, lt, e) = omega (arith, lt)

-- where no element is left, the name is not among all symbols
pub seeks_nothing : {form : Form} {count passed : ℕ} {bytes name : List ℕ} {all : List (List ℕ)} → count ≤ passed
    → Seeks form (count - passed) bytes name all → Contains all name → ⊥
seeks_nothing {form} {count} {passed} {bytes} {name} {all} le s k =
    contains_none name
    (subst (λ (xs : List (List ℕ)). Contains xs name) (ap names_in (at_end form count passed bytes le))
    (s.in_rest k))

-- ---- a step of a walk that keeps what is left

one_fewer : (form : Form) (count : ℕ) (bytes name after : List ℕ) → (count ≡ 0 → ⊥)
    → element_at form bytes ≡ Some (name, after)
    → elements_at form count bytes ≡ with_first name (elements_at form (count - 1) after)
one_fewer form count bytes name after some read =
    let all : count - 0 ≡ count = omega arith in
    rw all at (one_more form count 0 bytes name after (omega (arith, some)) read)

-- after a step of a walk, the elements that are left can be read
pub walk_reads : (form : Form) (count : ℕ) (bytes : List ℕ) {name after : List ℕ} → (count ≡ 0 → ⊥)
    → element_at form bytes ≡ Some (name, after)
    → IsSome (elements_at form count bytes) → IsSome (elements_at form (count - 1) after)
walk_reads form count bytes {name} {after} some read reads =
    let one = one_fewer form count bytes name after some read in
    is_some-with_first name (elements_at form (count - 1) after) (rw one at reads)

-- the name that a step read is the first, and the others are those of what is left
pub walk_yields : (form : Form) (count : ℕ) (bytes : List ℕ) {name after : List ℕ} → (count ≡ 0 → ⊥)
    → element_at form bytes ≡ Some (name, after) → IsSome (elements_at form count bytes)
    → names_in (elements_at form count bytes) ≡ name ∷ names_in (elements_at form (count - 1) after)
walk_yields form count bytes {name} {after} some read reads =
    let one = one_fewer form count bytes name after some read in
    ap names_in one ∙ names-with_first name (elements_at form (count - 1) after) (rw one at reads)

-- the elements of a walk can be read
pub walk_goes_on : (form : Form) (count : ℕ) (bytes : List ℕ) → (count ≡ 0 → ⊥) → element_at form bytes ≡ None
    → IsSome (elements_at form count bytes) → ⊥
walk_goes_on form count bytes some read reads =
    let all : count - 0 ≡ count = omega arith in
    let none = rw all at (stops form count 0 bytes (omega (arith, some)) read) in
    let k : IsSome {T = List (List ℕ) × List ℕ} None = rw none at reads in
    cc

-- ---- what each name is

ascii_step : (first : Option (List ℕ × List ℕ)) (others : List ℕ → Option (List (List ℕ) × List ℕ))
    → ((x : List ℕ × List ℕ) → first ≡ Some x → IsAscii x.0)
    → ((rest : List ℕ) → AllByRecursion IsAscii (names_in (others rest)))
    → AllByRecursion IsAscii (names_in (first >>= λ x. with_first x.0 (others x.1)))
ascii_step None others ascii each = tt
ascii_step (Some x) others ascii each = ascii_more x.0 (others x.1) (ascii x refl) (each x.1)
  where
    ascii_more : (name : List ℕ) (read : Option (List (List ℕ) × List ℕ)) → IsAscii name
        → AllByRecursion IsAscii (names_in read) → AllByRecursion IsAscii (names_in (with_first name read))
    ascii_more name None one more = tt
    ascii_more name (Some x) one more = (one, more)

element_ascii : (form : Form) (bytes : List ℕ) (first : List ℕ × List ℕ) → element_at form bytes ≡ Some first
    → IsAscii first.0
unfolding element_at
element_ascii form bytes first read =
    let content = bind_some (content_at form bytes) (λ y. cond (is_ascii y.0) (Some y) None) first read in
    let test = when_some (is_ascii content.0.0) (Some content.0) first content.2 in
    let same : content.0 ≡ first = some_is content.0 first test.1 in
    subst (λ (y : List ℕ × List ℕ). IsAscii y.0) same (IsAscii-from_is_ascii content.0.0 test.0)

-- each name is ASCII
pub ascii_names : (form : Form) (count : ℕ) (bytes : List ℕ)
    → AllByRecursion IsAscii (names_in (elements_at form count bytes))
unfolding elements_at
ascii_names form zero bytes = tt
ascii_names form (suc n) bytes =
    ascii_step (element_at form bytes) (λ rest. elements_at form n rest) (element_ascii form bytes)
    (λ rest. ascii_names form n rest)
