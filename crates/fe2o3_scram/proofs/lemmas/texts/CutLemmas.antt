-- Texts that are cut at the first or the last of some byte.
use Rattle.std.proofs.Common.{◌≡◌, ◌⊎◌, ◌<◌, ℕ, List, [], ◌∷◌, ◌++◌, Bor, take, drop, refl, sym, ◌∙◌, ap, inl, inr}
use Rattle.std.proofs.lemmas.List.{take-append-drop}
use Rattle.std.proofs.lemmas.Str.Pattern.{IsSplitOnceResult, NoCharPasses-char, drop_at_char, split_parts}
use Rattle.std.specs.Prelude.{Option, None, Some, MatchOption}
use Rattle.std.specs.Str.Pattern.{RFindsChar, SplitsAroundMatch}
use Rattle.fe2o3_scram.specs.RecordLines.{LastCut}
use Rattle.fe2o3_scram.specs.Texts.{Cut, LastPart, Without}
use Rattle.fe2o3_scram.proofs.lemmas.texts.DecisionLemmas.{same_number_or}
use Rattle.fe2o3_scram.proofs.lemmas.texts.EachByteLemmas.{not_without-in, without-index}

-- a text is cut in one way
pub one_cut : (byte : ℕ) (text before rest other more : List ℕ) → Cut byte text before rest → Cut byte text other more
    → (before ≡ other) × (rest ≡ more)
one_cut byte text before rest other more is too = go before other is.0 too.0 (sym is.1 ∙ too.1)
  where
    go : (before other : List ℕ) → Without byte before → Without byte other
        → before ++ byte ∷ rest ≡ other ++ byte ∷ more → (before ≡ other) × (rest ≡ more)
    go [] [] plain too same = (refl, cc)
    go [] (c ∷ other) plain too same = let first : byte ≡ c = cc in absurd (too.0 (sym first))
    go (b ∷ before) [] plain too same = let first : b ≡ byte = cc in absurd (plain.0 first)
    go (b ∷ before) (c ∷ other) plain too same =
        let first : b ≡ c = cc in
        let tail : before ++ byte ∷ rest ≡ other ++ byte ∷ more = cc in
        let both = go before other plain.1 too.1 tail in
        let front = both.0 in
        (cc, both.1)

-- a text without the byte is not cut
pub uncut : (byte : ℕ) (text : List ℕ) → Without byte text → (before rest : List ℕ) → ¬ Cut byte text before rest
uncut byte text plain before rest is = not_without-in byte before rest text is.1 plain

-- what `split_once` gives
pub cut_from : (byte : ℕ) (text : List ℕ) (found : Option (Bor (List ℕ) × Bor (List ℕ))) → byte < 128
    → IsSplitOnceResult byte text found
    → MatchOption found ((before rest : List ℕ) → ¬ Cut byte text before rest)
    (λ both. Cut byte text both.0.now both.1.now)
cut_from byte text None small is = uncut byte text (without-index byte text (split_parts byte text None is small))
cut_from byte text (Some both) small is = let parts = split_parts byte text (Some both) is small in
    (without-index byte both.0.now parts.1, parts.0)

-- a text is cut, or it is without the byte
pub cut_or : (byte : ℕ) (text : List ℕ)
    → ((before : List ℕ) × (rest : List ℕ) × Cut byte text before rest) ⊎ Without byte text
cut_or byte [] = inr tt
cut_or byte (x ∷ text) = elim (same_number_or x byte) [
  | inl is ↦ inl ([], text, (tt, ap (λ (first : ℕ). first ∷ text) is))
  | inr other ↦ elim (cut_or byte text) [
    | inl (before, rest, cut) ↦ inl (x ∷ before, rest, ((other, cut.0), ap (λ (tail : List ℕ). x ∷ tail) cut.1))
    | inr plain ↦ inr (other, plain)
  ]
]

-- what is not cut is without the byte
pub without-uncut : (byte : ℕ) (text : List ℕ) → ((before rest : List ℕ) → ¬ Cut byte text before rest)
    → Without byte text
without-uncut byte text none = elim (cut_or byte text) [
  | inl (before, rest, cut) ↦ absurd (none before rest cut)
  | inr plain ↦ plain
]

-- what is cut holds the byte
pub not_without : (byte : ℕ) (text before rest : List ℕ) → Cut byte text before rest → ¬ Without byte text
not_without byte text before rest cut plain = uncut byte text plain before rest cut

pub ruleset cuts = (not_without, without-uncut)

-- ---- the last of some bytes

pub one_last_cut : (byte : ℕ) (text before rest other last : List ℕ) → LastCut byte text before rest
    → LastCut byte text other last → (before ≡ other) × (rest ≡ last)
one_last_cut byte text before rest other last is too = go before other is.0 too.0 (sym is.1 ∙ too.1)
  where
    go : (before other : List ℕ) → Without byte rest → Without byte last
        → before ++ byte ∷ rest ≡ other ++ byte ∷ last → (before ≡ other) × (rest ≡ last)
    go [] [] plain too same = (refl, cc)
    go [] (c ∷ other) plain too same = absurd (not_without-in byte other last rest (cc) plain)
    go (b ∷ before) [] plain too same = absurd (not_without-in byte before rest last (cc) too)
    go (b ∷ before) (c ∷ other) plain too same =
        let first : b ≡ c = cc in
        let tail : before ++ byte ∷ rest ≡ other ++ byte ∷ last = cc in
        let more = go before other plain too tail in
        let fronts = more.0 in
        (cc, more.1)

-- what `rsplit_once` found at a byte
pub last_cut_from : (byte : ℕ) (text : List ℕ) (found : Option (Bor (List ℕ) × Bor (List ℕ))) → byte < 128
    → MatchOption found (RFindsChar byte text None)
    (λ both. SplitsAroundMatch (RFindsChar byte) text both.0.now both.1.now)
    → MatchOption found ((before rest : List ℕ) → ¬ LastCut byte text before rest)
    (λ both. LastCut byte text both.0.now both.1.now)
last_cut_from byte text None small none =
    let plain = without-index byte text (λ i below. NoCharPasses-char byte text i none small below) in
    λ before rest is. not_without-in byte before rest text is.1 plain
last_cut_from byte text (Some both) small cut =
    let start = cut.0 in
    let end = cut.1 in
    let at = drop_at_char byte text start end cut.2.1 small in
    let plain = without-index byte (drop end text) (λ i below. NoCharPasses-char byte (drop end text) i cut.2.0
    small below) in
    let whole : text ≡ take start text ++ byte ∷ drop end text =
    sym (take-append-drop start text) ∙ ap (λ rest. take start text ++ rest) at in
    (rw cut.4 plain, rw (cut.3, cut.4) whole)

-- a text is cut at its last such byte, or it is without the byte
pub last_cut_or : (byte : ℕ) (text : List ℕ)
    → ((before : List ℕ) × (rest : List ℕ) × LastCut byte text before rest) ⊎ Without byte text
last_cut_or byte [] = inr tt
last_cut_or byte (x ∷ text) = elim (last_cut_or byte text) [
  | inl (before, rest, cut) ↦ inl (x ∷ before, rest, (cut.0, ap (λ (tail : List ℕ). x ∷ tail) cut.1))
  | inr plain ↦ elim (same_number_or x byte) [
    | inl is ↦ inl ([], text, (plain, ap (λ (first : ℕ). first ∷ text) is))
    | inr other ↦ inr (other, plain)
  ]
]

-- what is not cut at its last such byte is without it
pub without-no_last_cut : (byte : ℕ) (text : List ℕ) → ((before rest : List ℕ) → ¬ LastCut byte text before rest)
    → Without byte text
without-no_last_cut byte text none = elim (last_cut_or byte text) [
  | inl (before, rest, cut) ↦ absurd (none before rest cut)
  | inr plain ↦ plain
]

pub last_part_or : (text : List ℕ) → ((before : List ℕ) × (part : List ℕ) × LastPart text before part)
    ⊎ ((before part : List ℕ) → ¬ LastPart text before part)
last_part_or text = elim (last_cut_or 44 text) [
  | inl last ↦ inl last
  | inr plain ↦ inr (λ before part is. not_without-in 44 before part text is.1 plain)
]
