-- A text spells one count.
use Rattle.std.proofs.Common.{◌≡◌, ◌⊎◌, ◌<◌, ◌^◌, ℕ, List, [], ◌∷◌, ◌++◌, codes, length, get_or, refl, sym, ◌∙◌, ap, subst, inl, inr, arith}
use Rattle.std.proofs.lemmas.Fmt.{decimal_is_IsNumeral, decimal-digits_value, decimal_injective, first_decimal}
use Rattle.std.proofs.lemmas.Str.Parse.{digit_from_value, numerals_by_value, tells_digits}
use Rattle.std.specs.Fmt.{decimal}
use Rattle.std.specs.Prelude.{Option, None, Some, MatchOption}
use Rattle.std.specs.Str.Parse.{IsNumeral, digits_value}
use Rattle.fe2o3_scram.specs.Texts.{StartsWith, IsCount, IsPlainCount}

-- a plus is no digit
no_plus : (digits : List ℕ) → ¬ IsNumeral 10 (43 ∷ digits)
no_plus digits is = let digit = digit_from_value 43 is.1.0 in absurd (omega (arith, digit))

one_numeral : (text digits others : List ℕ) → (text ≡ digits) ⊎ (text ≡ 43 ∷ digits)
    → (text ≡ others) ⊎ (text ≡ 43 ∷ others) → IsNumeral 10 digits → IsNumeral 10 others → digits ≡ others
one_numeral text digits others (inl is) (inl too) are them = sym is ∙ too
one_numeral text digits others (inl is) (inr too) are them =
    absurd (no_plus others (subst (IsNumeral 10) (sym is ∙ too) are))
one_numeral text digits others (inr is) (inl too) are them =
    absurd (no_plus digits (subst (IsNumeral 10) (sym too ∙ is) them))
one_numeral text digits others (inr is) (inr too) are them = let both : 43 ∷ digits ≡ 43 ∷ others = sym is ∙ too in cc

pub one_count : (text : List ℕ) (count other : ℕ) → IsCount text count → IsCount text other → count ≡ other
one_count text count other is too = is.3 ∙ ap (digits_value 10) (one_numeral text is.0 too.0 is.1 too.1 is.2 too.2)
    ∙ sym too.3

-- a count that is written in decimal is read back
pub count_of_decimal : (n count : ℕ) → n < 2 ^ 64 → IsCount (decimal n) count → count ≡ n
count_of_decimal n count small is = let numeral = decimal_is_IsNumeral n small in
    is.3 ∙ ap (digits_value 10) (one_numeral (decimal n) is.0 (decimal n) is.1 (inl refl) is.2 numeral.0) ∙ numeral.1

-- ---- a count without a sign or leading zeros

-- it is a count
pub plain_is_count : (text : List ℕ) (count : ℕ) → IsPlainCount text count → IsCount text count
plain_is_count text count is =
    let numeral = decimal_is_IsNumeral count (omega (arith, is.2)) in (
      decimal count,
      inl is.0,
      numeral.0,
      sym numeral.1,
      is.1,
      is.2,
    )

pub no_plain_count : (text : List ℕ) → ((count : ℕ) → ¬ IsCount text count) → (count : ℕ) → ¬ IsPlainCount text count
no_plain_count text none count is = none count (plain_is_count text count is)

pub signed_count : (text rest : List ℕ) → text ≡ codes "+" ++ rest → (count : ℕ) → ¬ IsPlainCount text count
signed_count text rest begins count is =
    let numeral = decimal_is_IsNumeral count (omega (arith, is.2)) in
    no_plus rest (subst (IsNumeral 10) (sym is.0 ∙ begins) numeral.0)

pub zero_first : (text rest : List ℕ) → text ≡ codes "0" ++ rest → (count : ℕ) → ¬ IsPlainCount text count
zero_first text rest begins count is =
    let first = first_decimal count (omega (arith, is.1)) (omega (arith, is.2)) in
    let byte : get_or (decimal count) 0 0 ≡ 48 = ap (λ (spelt : List ℕ). get_or spelt 0 0) (sym is.0 ∙ begins) in
    absurd (omega (arith, first, byte))

no_zero_first : (text : List ℕ) → ¬ StartsWith text (codes "0") → get_or text 0 0 ≡ 48 → length text ≡ 1
no_zero_first [] plain is = absurd (omega (arith, is))
no_zero_first (x ∷ text) plain is = absurd (plain (text, ap (λ (byte : ℕ). byte ∷ text) is))

pub plain_count : (text : List ℕ) (count : ℕ) → ¬ StartsWith text (codes "+") → ¬ StartsWith text (codes "0")
    → IsCount text count → IsPlainCount text count
plain_count text count no_sign no_zero (digits, inl is, numeral, value, some, small) =
    let plain = subst (λ (spelt : List ℕ). ¬ StartsWith spelt (codes "0")) is no_zero in
    let small_value : digits_value 10 digits < 2 ^ 64 = omega (arith, value, small) in (
      is
          ∙ sym (ap decimal value
          ∙ decimal-digits_value (numerals_by_value _ tells_digits) digits numeral.1 numeral.0
          (no_zero_first digits plain) small_value),
      some,
      small,
    )
plain_count text count no_sign no_zero (digits, inr is, numeral, value, some, small) = absurd (no_sign (digits, is))

-- what is read of a text that begins with neither a plus nor a zero
pub plain_count_from : (text : List ℕ) (found : Option ℕ) → ¬ StartsWith text (codes "+") → ¬ StartsWith text (codes "0")
    → MatchOption found ((count : ℕ) → ¬ IsCount text count) (λ count. IsCount text count)
    → MatchOption found ((count : ℕ) → ¬ IsPlainCount text count) (λ count. IsPlainCount text count)
plain_count_from text None no_sign no_zero none = no_plain_count text none
plain_count_from text (Some count) no_sign no_zero is = plain_count text count no_sign no_zero is

pub ruleset plain_counts = (signed_count, zero_first)

-- a text spells one of them
pub one_plain_count : (text : List ℕ) (count other : ℕ) → IsPlainCount text count → IsPlainCount text other
    → count ≡ other
one_plain_count text count other is too =
    decimal_injective count other (omega (arith, is.2)) (omega (arith, too.2)) (sym is.0 ∙ too.0)
