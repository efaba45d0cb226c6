-- The rules one by one: what an error that is none says of each, and the law of what is accepted.
use Rattle.std.proofs.Common.{◌≡◌, ◌↔◌, ℕ, Bool, true, false, ◌||◌, List, [], ◌∷◌, ◌++◌, All, Any, Option, Some, None, if◌then◌else◌, IsSomeAnd, refl, inl, inr, not-suc-le-zero}
use Rattle.std.proofs.lemmas.Bool.{and_parts, and_from, cases_Bool, not-true}
use Rattle.std.proofs.lemmas.List.Folds.{Any-from_list_any, list_any-from_Any, list_any_none}
use Rattle.std.specs.List.{find, list_any}
use Rattle.std.specs.Option.{option_map, option_map_or, option_or}
use Rattle.saslprep.specs.declared.error.SaslprepError.{SaslprepError}
use Rattle.saslprep.specs.declared.error.SaslprepError.TheVariants.{ProhibitedCharacter, MixedDirections, UnassignedCodePoint}
use Rattle.saslprep.specs.declared.Unassigned.{Unassigned}
use Rattle.saslprep.specs.declared.Unassigned.TheVariants.{Allowed, Refused}
use Rattle.saslprep.specs.Laws.{IsOneWay, IsFit}
use Rattle.saslprep.specs.Saslprep.{prepared, is_prohibited, is_right_to_left, is_left_to_right, is_unassigned, has_one_direction, first_unassigned, refusal, refusal_of}
use Rattle.saslprep.proofs.lemmas.ListLemmas.{All-cons, All-find, find-none}

pub record Passes (u : Unassigned) (cs out : List ℕ) : Type 0 where
  pub clean : find is_prohibited out ≡ None
  pub straight : has_one_direction out ≡ true
  pub known : first_unassigned u (cs ++ out) ≡ None

or-None_parts : (a b : Option SaslprepError) → option_or a b ≡ None → (a ≡ None) × (b ≡ None)
or-None_parts None b h = (refl, h)
or-None_parts (Some x) b h = absurd (cc)

pub or-None_numbers : (a b : Option ℕ) → option_or a b ≡ None → b ≡ None
or-None_numbers None b h = h
or-None_numbers (Some x) b h = absurd (cc)

map-None : (f : ℕ → SaslprepError) (o : Option ℕ) → option_map f o ≡ None → o ≡ None
map-None f None h = refl
map-None f (Some x) h = absurd (cc)

straight-from_none : (b : Bool) → (if b then None else Some MixedDirections) ≡ None → b ≡ true
straight-from_none true h = refl
straight-from_none false h = absurd (cc)

pub Passes-from_none : (u : Unassigned) (cs out : List ℕ) → refusal_of u cs out ≡ None → Passes u cs out
unfolding refusal_of
Passes-from_none u cs out h =
    let first = or-None_parts _ _ h in
    let second = or-None_parts _ _ first.1 in
    record {
      clean = map-None ProhibitedCharacter _ first.0;
      straight = straight-from_none _ second.0;
      known = map-None UnassignedCodePoint _ second.1;
    }

pub none-from_Passes : (u : Unassigned) (cs out : List ℕ) → Passes u cs out → refusal_of u cs out ≡ None
unfolding refusal_of
none-from_Passes u cs out h =
    let clean = h.clean in let straight = h.straight in let known = h.known in rw (clean, straight, known) refl

-- ---- directions

neither : (a b : Bool) → (a || b) ≡ false → (a ≡ false) × (b ≡ false)
neither true b h = absurd (cc)
neither false b h = (refl, h)

All-list_any : (p : ℕ → Bool) (cs : List ℕ) → list_any p cs ≡ false → All (λ c. p c ≡ false) cs
All-list_any p [] h = λ k d lt. absurd (not-suc-le-zero lt)
All-list_any p (c ∷ cs) h = let parts = neither (p c) (list_any p cs) h in
    All-cons p c cs parts.0 (All-list_any p cs parts.1)

IsSomeAnd-from_map_or : (p : ℕ → Bool) (o : Option ℕ) → option_map_or p o false ≡ true → IsSomeAnd o (λ c. p c ≡ true)
IsSomeAnd-from_map_or p None h = absurd (cc)
IsSomeAnd-from_map_or p (Some c) h = h

map_or-from_IsSomeAnd : (p : ℕ → Bool) (o : Option ℕ) → IsSomeAnd o (λ c. p c ≡ true) → option_map_or p o false ≡ true
map_or-from_IsSomeAnd p None h = absurd h
map_or-from_IsSomeAnd p (Some c) h = h

one_way-from_straight : (cs : List ℕ) → has_one_direction cs ≡ true → Any (λ c. is_right_to_left c ≡ true) cs →
    IsOneWay cs
unfolding has_one_direction
one_way-from_straight cs h any =
    let some : list_any is_right_to_left cs ≡ true = list_any-from_Any is_right_to_left cs any in
    let parts = and_parts _ _ (rw some at h) in
    let ends = and_parts _ _ parts.1 in
    record {
      no_left = All-list_any is_left_to_right cs (not-true _ parts.0);
      first = IsSomeAnd-from_map_or is_right_to_left _ ends.0;
      last = IsSomeAnd-from_map_or is_right_to_left _ ends.1;
    }

straight-from_one_way : (cs : List ℕ) → (Any (λ c. is_right_to_left c ≡ true) cs → IsOneWay cs) →
    has_one_direction cs ≡ true
unfolding has_one_direction
straight-from_one_way cs h =
    elim (cases_Bool (list_any is_right_to_left cs)) [
      | inl some ↦
          let way = h (Any-from_list_any is_right_to_left cs some) in
          let none : list_any is_left_to_right cs ≡ false = list_any_none is_left_to_right cs way.no_left in
          rw (some, none) (and_from _ _ (map_or-from_IsSomeAnd is_right_to_left _ way.first)
          (map_or-from_IsSomeAnd is_right_to_left _ way.last))
      | inr none ↦ rw none refl
    ]

-- ---- unassigned code points

assigned-from_none : (u : Unassigned) (cs : List ℕ) → first_unassigned u cs ≡ None → u ≡ Refused →
    All (λ c. is_unassigned c ≡ false) cs
assigned-from_none Allowed cs h e = absurd (cc)
assigned-from_none Refused cs h e = All-find is_unassigned cs h

none-from_assigned : (u : Unassigned) (cs : List ℕ) → (u ≡ Refused → All (λ c. is_unassigned c ≡ false) cs) →
    first_unassigned u cs ≡ None
none-from_assigned Allowed cs h = refl
none-from_assigned Refused cs h = find-none is_unassigned cs (h refl)

-- ---- the law

IsFit-from_none : (u : Unassigned) (cs out : List ℕ) → refusal_of u cs out ≡ None → IsFit u cs out
IsFit-from_none u cs out h =
    let passes = Passes-from_none u cs out h in
    record {
      clean = All-find is_prohibited out passes.clean;
      one_way = one_way-from_straight out passes.straight;
      assigned = assigned-from_none u (cs ++ out) passes.known;
    }

none-from_IsFit : (u : Unassigned) (cs out : List ℕ) → IsFit u cs out → refusal_of u cs out ≡ None
none-from_IsFit u cs out h =
    none-from_Passes u cs out
    (record {
      clean = find-none is_prohibited out h.clean;
      straight = straight-from_one_way out h.one_way;
      known = none-from_assigned u (cs ++ out) h.assigned;
    })

pub refusal-fit : (u : Unassigned) (cs : List ℕ) → (refusal u cs ≡ None) ↔ IsFit u cs (prepared cs)
refusal-fit u cs = (IsFit-from_none u cs (prepared cs), none-from_IsFit u cs (prepared cs))
