-- Exclusive or of a key and two pads.
use Rattle.std.proofs.Common.{◌≡◌, ℕ, List, [], ◌∷◌, length, refl, sym, ap, ◌∙◌, arith}
use Rattle.std.specs.Prelude.{bit_xor}
use Rattle.std.specs.Int.Bits.{xor_assoc, xor_self, xor_zero_l, xor_zero_r}
use Rattle.fe2o3_scram.specs.Hmac.{exclusive_or}

xor-back : (x a : ℕ) → bit_xor (bit_xor x a) a ≡ x
xor-back x a = xor_assoc x a a ∙ (ap (bit_xor x) (xor_self a) ∙ xor_zero_r x)

xor-cancel : (x a b : ℕ) → bit_xor x a ≡ bit_xor x b → a ≡ b
xor-cancel x a b same =
    sym (xor_zero_l a) ∙ (ap (λ z. bit_xor z a) (sym (xor_self x))
    ∙ (xor_assoc x x a ∙ (ap (bit_xor x) same ∙ (sym (xor_assoc x x b)
    ∙ (ap (λ z. bit_xor z b) (xor_self x) ∙ xor_zero_l b)))))

xor-pads : (x a b : ℕ) → bit_xor (bit_xor x a) b ≡ x → a ≡ b
xor-pads x a b same = xor-cancel x a b (sym (xor-back (bit_xor x a) b) ∙ ap (λ z. bit_xor z b) same)

-- a key that comes back out of its proof was turned by one pad twice
pub one_pad : (key pad other : List ℕ) → length key ≡ length pad → length key ≡ length other
    → exclusive_or (exclusive_or key pad) other ≡ key → pad ≡ other
unfolding exclusive_or
one_pad [] [] [] long too same = refl
one_pad [] [] (y ∷ other) long too same = absurd (omega (arith, too))
one_pad [] (x ∷ pad) other long too same = absurd (omega (arith, long))
one_pad (z ∷ key) [] other long too same = absurd (omega (arith, long))
one_pad (z ∷ key) (x ∷ pad) [] long too same = absurd (omega (arith, too))
one_pad (z ∷ key) (x ∷ pad) (y ∷ other) long too same =
    let head : bit_xor (bit_xor z x) y ≡ z = cc in
    let tail : exclusive_or (exclusive_or key pad) other ≡ key = cc in
    let first = xor-pads z x y head in
    let rest = one_pad key pad other (omega (arith, long)) (omega (arith, too)) tail in
    cc
