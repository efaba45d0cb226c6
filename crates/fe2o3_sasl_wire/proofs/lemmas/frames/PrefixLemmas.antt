-- One frame a spelling, and no spelling begins another.
use Rattle.std.proofs.Common.{◌≡◌, ℕ, List, ◌∷◌, ◌++◌, Option, Some, sym, ap, ◌∙◌}
use Rattle.std.proofs.lemmas.List.{append_cancel_right}
use Rattle.fe2o3_sasl_wire.specs.SaslFrames.{SaslFrame}
use Rattle.fe2o3_sasl_wire.specs.Laws.{NoSpellingBeginsAnother}
use Rattle.fe2o3_sasl_wire.specs.private.Reading.{value_at}
use Rattle.fe2o3_sasl_wire.proofs.lemmas.reading.SpelledFramesAreReadLemmas.{value_again}
use Rattle.fe2o3_sasl_wire.proofs.lemmas.frames.ValueLemmas.{value_of, spelled_value}

abbrev front_and_rest : SaslFrame → List ℕ → SaslFrame × List ℕ
front_and_rest frame rest = (frame, rest)

-- what a reader answers: the frame and the bytes after it
abbrev read_as : SaslFrame → List ℕ → Option (SaslFrame × List ℕ)
read_as frame rest = Some (front_and_rest frame rest)

parts_of : (left right : SaslFrame) (rest others : List ℕ) → read_as left rest ≡ read_as right others
    → (left ≡ right) × (rest ≡ others)
parts_of left right rest others same =
    let both : front_and_rest left rest ≡ front_and_rest right others = cc in
    (ap (λ (read : SaslFrame × List ℕ). read.0) both, ap (λ (read : SaslFrame × List ℕ). read.1) both)

-- what follows the first four bytes
values_of : (third fourth other next : ℕ) (value last : List ℕ)
    → 2 ∷ 1 ∷ third ∷ fourth ∷ value ≡ 2 ∷ 1 ∷ other ∷ next ∷ last
    → value ≡ last
values_of third fourth other next value last same = cc

-- a body that spells a frame begins no other such body: the law of this name
pub no_spelling_begins_another : NoSpellingBeginsAnother
no_spelling_begins_another left right body other rest others spelled spells same =
    let first_value = value_of left body spelled in
    let second_value = value_of right other spells in
    let value = first_value ++ rest in
    let last = second_value ++ others in
    let bodies : 2 ∷ 1 ∷ spelled.third ∷ spelled.fourth ∷ value ≡ 2 ∷ 1 ∷ spells.third ∷ spells.fourth ∷ last =
    rw (spelled.whole, spells.whole) at same in
    let values = values_of spelled.third spelled.fourth spells.third spells.fourth value last bodies in
    let first = value_again left first_value rest (spelled_value left body spelled) in
    let second = value_again right second_value others (spelled_value right other spells) in
    let read : read_as left rest ≡ read_as right others = sym first ∙ ap value_at values ∙ second in
    let parts = parts_of left right rest others read in
    (parts.0, append_cancel_right body other rest (same ∙ ap (λ (tail : List ℕ). other ++ tail) (sym parts.1)))
