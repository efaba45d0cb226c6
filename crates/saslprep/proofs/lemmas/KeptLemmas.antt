-- What is prepared is accepted again, and prepared to itself: normalization brings back nothing that the mapping took
-- out.
use Rattle.std.proofs.Common.{◌≡◌, ℕ, zero, suc, ◌+◌, ◌-◌, ◌/◌, ◌%◌, ◌≤◌, Bool, true, false, not, ◌&&◌, ◌||◌, nat_lt, List, [], ◌∷◌, ◌++◌, All, Some, None, refl, sym, ap, ◌∙◌, arith, inl, inr, suc-le-suc, zero-le}
use Rattle.std.proofs.lemmas.Bool.{and_parts, and_from, cases_Bool, cases_eq, not-true, not_from_false}
use Rattle.std.proofs.lemmas.Bool.Decides.{nat_tests}
use Rattle.std.specs.List.{find, filter_map, list_all}
use Rattle.ucd_normal.specs.declared.forms.Form.TheVariants.{Nfd, Nfkc}
use Rattle.ucd_normal.specs.CanonicalCombiningClass.{canonical_combining_class}
use Rattle.ucd_normal.specs.Binary.{is_full_composition_exclusion}
use Rattle.ucd_normal.specs.Compositions.{compositions}
use Rattle.ucd_normal.specs.Decomposition.{decomposition, expand}
use Rattle.ucd_normal.proofs.CompositionLemmas.{is_empty}
use Rattle.ucd_normal.proofs.DecompositionLemmas.{decomposition_stepped}
use Rattle.ucd_table.specs.Rows.{in_ranges}
use Rattle.ucd_table.proofs.Computing.{tables}
use Rattle.ucd_table.proofs.Facts.{tree_value, tree_of, tree_value-tree_of}
use Rattle.ucd_table.proofs.RangedFacts.{points_ok, Stepped-at_points}
use Rattle.unicode_normalization.specs.Compose.{primary_composite}
use Rattle.unicode_normalization.specs.Decompose.{decompose}
use Rattle.unicode_normalization.specs.Forms.{normalize}
use Rattle.unicode_normalization.specs.Hangul.{is_syllable}
use Rattle.unicode_normalization.proofs.DecomposeLemmas.{decompose-syllable, decompose-mapped, decompose-final, primary_composite-some}
use Rattle.unicode_normalization.proofs.FormsLemmas.{normalize_idem}
use Rattle.unicode_normalization.proofs.HangulLemmas.{decompose_hangul-two, decompose_hangul-three, is_among-true}
use Rattle.unicode_normalization.proofs.KeptLemmas.{list_all-normalize}
use Rattle.unicode_normalization.proofs.TableFacts.{Tables, Entry, pick, full, by_rows}
use Rattle.saslprep.specs.declared.Unassigned.{Unassigned}
use Rattle.saslprep.specs.declared.Unassigned.TheVariants.{Allowed, Refused}
use Rattle.saslprep.specs.Saslprep.{mapping, prepared, is_prohibited, is_unassigned, first_unassigned, refusal, refusal_of}
use Rattle.saslprep.specs.Tables.{b_1, c_1_2}
use Rattle.saslprep.proofs.lemmas.ListLemmas.{All-find, find_either}
use Rattle.saslprep.proofs.lemmas.RuleLemmas.{Passes, Passes-from_none, none-from_Passes, or-None_numbers}
use Rattle.saslprep.proofs.lemmas.TableLemmas.{nothing_stepped}

-- the character is not one of those that are mapped to nothing
abbrev stays : ℕ → Bool
stays c = not (in_ranges b_1 c)

-- ---- the table B.1

-- none is a jamo or a syllable, and none decomposes
abbrev lies_apart : ℕ → Bool
lies_apart c = (nat_lt c 0x1100 || nat_lt 0x11FF c) && (nat_lt c 0xAC00 || nat_lt 0xD7A3 c)

apart : (c : ℕ) → in_ranges b_1 c ≡ true → lies_apart c ≡ true
unfolding tables points_ok nothing_stepped
apart c h = Stepped-at_points (in_ranges b_1) nothing_stepped (λ b. not b) (λ c _. lies_apart c) refl c (ap not h)

whole : (c : ℕ) → in_ranges b_1 c ≡ true → is_empty (pick Nfd (decomposition c)) ≡ true
unfolding tables points_ok nothing_stepped decomposition_stepped
whole c h =
    ap (λ f. is_empty (pick Nfd (f c))) (tree_value-tree_of decomposition decomposition_stepped)
    ∙ Stepped-at_points (in_ranges b_1) nothing_stepped (λ b. not b)
    (λ c _. is_empty (pick Nfd (tree_value decomposition_stepped.default
    (tree_of decomposition decomposition_stepped) c))) refl c (ap not h)

stays-jamo : (c : ℕ) → 0x1100 ≤ c → c ≤ 0x11FF → stays c ≡ true
stays-jamo c low high =
    elim (cases_Bool (in_ranges b_1 c)) [
      | inl gone ↦ let clash : lies_apart c ≡ true = apart c gone in absurd (grind (arith, nat_tests))
      | inr here ↦ ap not here
    ]

stays-syllable : (c : ℕ) → 0xAC00 ≤ c → c ≤ 0xD7A3 → stays c ≡ true
stays-syllable c low high =
    elim (cases_Bool (in_ranges b_1 c)) [
      | inl gone ↦ let clash : lies_apart c ≡ true = apart c gone in absurd (grind (arith, nat_tests))
      | inr here ↦ ap not here
    ]

-- ---- decompositions

by_tree : Tables
unfolding tables decomposition_stepped
by_tree =
    record {
      class = canonical_combining_class;
      entry = tree_value decomposition_stepped.default (tree_of decomposition decomposition_stepped);
      excluded = is_full_composition_exclusion;
      pairs = compositions;
      nfc = by_rows.nfc;
      nfkc = by_rows.nfkc;
    }

same_tables : by_rows ≡ by_tree
unfolding by_tree
same_tables =
    λ i. record {
      class = canonical_combining_class;
      entry = tree_value-tree_of decomposition decomposition_stepped i;
      excluded = is_full_composition_exclusion;
      pairs = compositions;
      nfc = by_rows.nfc;
      nfkc = by_rows.nfkc;
    }

abbrev all_stay : Tables → ℕ → Entry → Bool
all_stay t c entry = list_all stays (full t Nfkc c)

stays-mapped : (c : ℕ) → is_empty (pick Nfkc (decomposition c)) ≡ false → all_stay by_rows c (decomposition c) ≡ true
unfolding tables points_ok by_tree expand decomposition_stepped b_1
stays-mapped c some =
    ap (λ t. all_stay t c (decomposition c)) same_tables
    ∙ Stepped-at_points decomposition decomposition_stepped (λ e. is_empty (pick Nfkc e)) (all_stay by_tree) refl c some

stays-decompose : (c : ℕ) → stays c ≡ true → list_all stays (decompose Nfkc c) ≡ true
stays-decompose c h =
    elim (cases_Bool (is_syllable c)) [
      | inl syllable ↦
          let bounds = is_among-true 0xAC00 11172 c syllable in
          let l = stays-jamo (0x1100 + (c - 0xAC00) / 588) (omega arith) (omega (arith, bounds)) in
          let v = stays-jamo (0x1161 + (c - 0xAC00) % 588 / 28) (omega arith) (omega (arith, bounds)) in
          let t = stays-jamo (0x11A7 + (c - 0xAC00) % 28) (omega arith) (omega (arith, bounds)) in
          ap (list_all stays) (decompose-syllable Nfkc c syllable)
          ∙ elim (cases_eq ((c - 0xAC00) % 28) 0) [
            | inl two ↦ ap (list_all stays) (decompose_hangul-two c two) ∙ and_from _ _ l (and_from _ _ v refl)
            | inr three ↦ ap (list_all stays) (decompose_hangul-three c three)
                ∙ and_from _ _ l (and_from _ _ v (and_from _ _ t refl))
          ]
      | inr other ↦
          elim (cases_Bool (is_empty (pick Nfkc (decomposition c)))) [
            | inl none ↦ ap (list_all stays) (decompose-final Nfkc c (and_from _ _ none (not_from_false _ other)))
                ∙ and_from _ _ h refl
            | inr some ↦ ap (list_all stays) (decompose-mapped Nfkc c other some) ∙ stays-mapped c some
          ]
    ]

stays-composite : (a b c : ℕ) → stays a ≡ true → stays b ≡ true → primary_composite a b ≡ Some c → stays c ≡ true
stays-composite a b c first second h =
    elim (primary_composite-some a b c h) [
      | inl hangul ↦ elim hangul [
        | inl lv ↦ stays-syllable c (omega arith) (omega arith)
        | inr lvt ↦ stays-syllable c (omega arith) (omega arith)
      ]
      | inr table ↦
          elim (cases_Bool (in_ranges b_1 c)) [
            | inl gone ↦ let clash = sym (whole c gone) ∙ ap is_empty table.mapping in absurd (cc)
            | inr here ↦ ap not here
          ]
    ]

-- ---- the mapping

stays-space : stays 0x20 ≡ true
unfolding in_ranges b_1
stays-space = refl

stays-cons : (c : ℕ) (cs : List ℕ) → list_all stays (filter_map mapping cs) ≡ true →
    list_all stays (filter_map mapping (c ∷ cs)) ≡ true
unfolding mapping
stays-cons c cs rest =
    elim (cases_Bool (in_ranges c_1_2 c)) [
      | inl space ↦ rw space (and_from _ _ stays-space rest)
      | inr other ↦
          elim (cases_Bool (in_ranges b_1 c)) [
            | inl gone ↦ rw (other, gone) rest
            | inr here ↦ rw (other, here) (and_from _ _ (ap not here) rest)
          ]
    ]

stays-filter_map : (cs : List ℕ) → list_all stays (filter_map mapping cs) ≡ true
stays-filter_map [] = refl
stays-filter_map (c ∷ cs) = stays-cons c cs (stays-filter_map cs)

stays-prepared : (cs : List ℕ) → list_all stays (prepared cs) ≡ true
unfolding prepared
stays-prepared cs = list_all-normalize Nfkc stays stays-decompose stays-composite _ (stays-filter_map cs)

-- a space outside ASCII is prohibited
not_space : (c : ℕ) → is_prohibited c ≡ false → in_ranges c_1_2 c ≡ false
unfolding is_prohibited
not_space c h = elim (cases_Bool (in_ranges c_1_2 c)) [
  | inl space ↦ let clash = sym (rw space at h) in absurd (cc)
  | inr other ↦ other
]

mapping-kept : (c : ℕ) → is_prohibited c ≡ false → stays c ≡ true → mapping c ≡ Some c
unfolding mapping
mapping-kept c clean stay =
    let other : in_ranges c_1_2 c ≡ false = not_space c clean in
    let here : in_ranges b_1 c ≡ false = not-true _ stay in rw (other, here) refl

filter_map-kept : (cs : List ℕ) → All (λ c. is_prohibited c ≡ false) cs → list_all stays cs ≡ true →
    filter_map mapping cs ≡ cs
filter_map-kept [] clean stay = refl
filter_map-kept (c ∷ cs) clean stay =
    let parts = and_parts (stays c) (list_all stays cs) stay in
    let kept : mapping c ≡ Some c = mapping-kept c (clean zero 0 (suc-le-suc zero-le)) parts.0 in
    rw kept (ap (λ l. c ∷ l) (filter_map-kept cs (λ k d lt. clean (suc k) d (suc-le-suc lt)) parts.1))

-- ---- the rules

known-again : (u : Unassigned) (cs out : List ℕ) → first_unassigned u (cs ++ out) ≡ None →
    first_unassigned u (out ++ out) ≡ None
known-again Allowed cs out h = refl
known-again Refused cs out h =
    let none : find is_unassigned out ≡ None = or-None_numbers _ _ (sym (find_either is_unassigned cs out) ∙ h) in
    rw (find_either is_unassigned out out, none) refl

nfkc-prepared : (cs : List ℕ) → normalize Nfkc (prepared cs) ≡ prepared cs
unfolding prepared
nfkc-prepared cs = normalize_idem Nfkc _

prepared-by_map : (cs : List ℕ) → prepared cs ≡ normalize Nfkc (filter_map mapping cs)
unfolding prepared
prepared-by_map cs = refl

prepared-again : (cs : List ℕ) → find is_prohibited (prepared cs) ≡ None → prepared (prepared cs) ≡ prepared cs
prepared-again cs clean =
    prepared-by_map (prepared cs)
    ∙ ap (normalize Nfkc) (filter_map-kept (prepared cs) (All-find is_prohibited _ clean) (stays-prepared cs))
    ∙ nfkc-prepared cs

pub refusal-again : (u : Unassigned) (cs : List ℕ) → refusal u cs ≡ None →
    (refusal u (prepared cs) ≡ None) × (prepared (prepared cs) ≡ prepared cs)
refusal-again u cs h =
    let passes = Passes-from_none u cs (prepared cs) h in
    let same = prepared-again cs passes.clean in
    let again : Passes u (prepared cs) (prepared cs) =
    record { clean = passes.clean; straight = passes.straight; known = known-again u cs (prepared cs) passes.known } in
    (ap (refusal_of u (prepared cs)) same ∙ none-from_Passes u (prepared cs) (prepared cs) again, same)
