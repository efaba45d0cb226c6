-- Keys that fit what a message names.
use Rattle.std.proofs.Common.{◌≡◌, ℕ, List, Bool, true, false, refl}
use Rattle.std.proofs.Math.Facts.{eqb_yes, yes_eqb}
use Rattle.std.specs.Cmp.Lexicographic.{pointwise, same_text, other_text}
use Rattle.std.specs.Prelude.{T, ◌&&◌, nat_eq}
use Rattle.fe2o3_scram.specs.ClientFinal.{fit}
use Rattle.fe2o3_scram.specs.ClientKeys.{ClientKeys}
use Rattle.fe2o3_scram.specs.ServerFirst.{ServerFirst}

both_hold : (test other : Bool) → T (test && other) → T test × T other
both_hold true true holds = (tt, tt)
both_hold true false holds = absurd holds
both_hold false other holds = absurd holds

hold_both : (test other : Bool) → T test → T other → T (test && other)
hold_both true true holds too = tt
hold_both true false holds too = too
hold_both false other holds too = holds

texts_equal : (xs ys : List ℕ) → T (pointwise nat_eq xs ys) → xs ≡ ys
texts_equal xs ys = go (pointwise nat_eq xs ys) refl
  where
    go : (test : Bool) → test ≡ pointwise nat_eq xs ys → T test → xs ≡ ys
    go true is holds = same_text xs ys is
    go false is holds = absurd holds

equal_texts : (xs ys : List ℕ) → xs ≡ ys → T (pointwise nat_eq xs ys)
equal_texts xs ys same = go (pointwise nat_eq xs ys) refl
  where
    go : (test : Bool) → test ≡ pointwise nat_eq xs ys → T test
    go true is = tt
    go false is = absurd (other_text xs ys is same)

pub fit_is : (keys : ClientKeys) (first : ServerFirst) → T (fit keys first)
    → (first.salt ≡ keys.salt) × (first.count ≡ keys.count)
fit_is keys first fits =
    let both = both_hold (pointwise nat_eq first.salt keys.salt) (nat_eq first.count keys.count) fits in
    (texts_equal first.salt keys.salt both.0, eqb_yes both.1)

pub is_fit : (keys : ClientKeys) (first : ServerFirst) → first.salt ≡ keys.salt → first.count ≡ keys.count
    → T (fit keys first)
is_fit keys first salt count = hold_both (pointwise nat_eq first.salt keys.salt) (nat_eq first.count keys.count)
    (equal_texts first.salt keys.salt salt) (yes_eqb count)
