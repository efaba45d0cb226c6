-- Lemmas on lists and what is found in them.
use Rattle.std.proofs.Common.{◌≡◌, ℕ, zero, suc, Bool, false, cond, List, [], ◌∷◌, ◌++◌, All, Some, None, refl, sym, ap, ◌∙◌, inl, inr, suc-le-suc, zero-le, le_of_suc-le-suc, not-suc-le-zero}
use Rattle.std.proofs.lemmas.Bool.{cases_Bool}
use Rattle.std.proofs.lemmas.List.Folds.{find-append}
use Rattle.std.specs.List.{find}
use Rattle.std.specs.Option.{option_or}

pub find_either : (p : ℕ → Bool) (xs ys : List ℕ) → find p (xs ++ ys) ≡ option_or (find p xs) (find p ys)
find_either = find-append

abbrev pub tail_of : (P : ℕ → Type 0) (x : ℕ) (xs : List ℕ) → All P (x ∷ xs) → All P xs
tail_of P x xs all = λ k d lt. all (suc k) d (suc-le-suc lt)

pub find-none : (p : ℕ → Bool) (cs : List ℕ) → All (λ c. p c ≡ false) cs → find p cs ≡ None
find-none p [] all = refl
find-none p (c ∷ cs) all =
    let fails : p c ≡ false = all zero 0 (suc-le-suc zero-le) in
    rw fails (find-none p cs (tail_of (λ c. p c ≡ false) c cs all))

pub All-cons : (p : ℕ → Bool) (c : ℕ) (cs : List ℕ) → p c ≡ false → All (λ c. p c ≡ false) cs →
    All (λ c. p c ≡ false) (c ∷ cs)
All-cons p c cs fails all zero d lt = fails
All-cons p c cs fails all (suc k) d lt = all k d (le_of_suc-le-suc lt)

pub All-find : (p : ℕ → Bool) (cs : List ℕ) → find p cs ≡ None → All (λ c. p c ≡ false) cs
All-find p [] none = λ k d lt. absurd (not-suc-le-zero lt)
All-find p (c ∷ cs) none =
    elim (cases_Bool (p c)) [
      | inl passes ↦ let clash : Some c ≡ None = sym (ap (λ b. cond b (Some c) (find p cs)) passes) ∙ none in
          absurd (cc)
      | inr fails ↦ All-cons p c cs fails (All-find p cs (sym (ap (λ b. cond b (Some c) (find p cs)) fails) ∙ none))
    ]
