-- Which mechanism a policy has a client take.
use Rattle.std.proofs.Common.{◌≡◌, ◌≢◌, ◌<◌, ◌+◌, ℕ, zero, suc, true, false, Option, Some, None, List, [], ◌∷◌, length, take, get_or, refl, sym, subst, arith}
use Rattle.std.proofs.lemmas.List.{take_more}
use Rattle.std.specs.List.{AllByRecursion}
use Rattle.std.specs.Prelude.{is_some, slice_get}
use Rattle.fe2o3_scram.specs.declared.hmac.ScramVersion.{ScramVersion}
use Rattle.fe2o3_scram.specs.declared.hmac.ScramVersion.TheVariants.{Sha1, Sha256, Sha512}
use Rattle.fe2o3_scram.specs.ClientSecret.{Secret}
use Rattle.fe2o3_sasl_core.specs.ClientPolicy.{CanTake, IsFirstTaken, keys_for_version}
use Rattle.fe2o3_sasl_core.specs.declared.client_policy.ClientPolicy.{ClientPolicy}
use Rattle.fe2o3_sasl_core.specs.declared.mechanism.Mechanism.{Mechanism}
use Rattle.fe2o3_sasl_core.proofs.lemmas.lists.EachLemmas.{each_append}

-- there is something exactly where it is not nothing
pub some_is_not_none : {A : Type 0} (found : Option A) → is_some found ≡ true → found ≢ None
some_is_not_none (Some a) is same = grind (arith, same)
some_is_not_none None is same = grind (arith, is)

pub none_is_none : {A : Type 0} (found : Option A) → is_some found ≡ false → found ≡ None
none_is_none (Some a) is = grind (arith, is)
none_is_none None is = refl

pub ruleset taking = (some_is_not_none, none_is_none)

-- keys of the version serve, and others do not
pub keys_of_version : (version of : ScramVersion) (same other : Option Secret) → of ≡ version
    → keys_for_version version of same other ≡ same
keys_of_version Sha1 Sha1 same other is = refl
keys_of_version Sha256 Sha256 same other is = refl
keys_of_version Sha512 Sha512 same other is = refl
keys_of_version Sha1 Sha256 same other is = grind (arith, is)
keys_of_version Sha1 Sha512 same other is = grind (arith, is)
keys_of_version Sha256 Sha1 same other is = grind (arith, is)
keys_of_version Sha256 Sha512 same other is = grind (arith, is)
keys_of_version Sha512 Sha1 same other is = grind (arith, is)
keys_of_version Sha512 Sha256 same other is = grind (arith, is)

pub keys_of_another : (version of : ScramVersion) (same other : Option Secret) → of ≢ version
    → keys_for_version version of same other ≡ other
keys_of_another Sha1 Sha1 same other not = absurd (not refl)
keys_of_another Sha256 Sha256 same other not = absurd (not refl)
keys_of_another Sha512 Sha512 same other not = absurd (not refl)
keys_of_another Sha1 Sha256 same other not = refl
keys_of_another Sha1 Sha512 same other not = refl
keys_of_another Sha256 Sha1 same other not = refl
keys_of_another Sha256 Sha512 same other not = refl
keys_of_another Sha512 Sha1 same other not = refl
keys_of_another Sha512 Sha256 same other not = refl

pub ruleset keys = (keys_of_version, keys_of_another)

-- ---- looking through a list

-- one more has it
pub each_more : {X : Type 0} (P : X → Type 0) (xs : List X) (k : ℕ) (other : X) → k < length xs
    → AllByRecursion P (take k xs) → P (get_or xs k other) → AllByRecursion P (take (k + 1) xs)
each_more P xs k other below all here = subst (AllByRecursion P) (sym (take_more xs k other below))
    (each_append P (take k xs) (get_or xs k other ∷ []) all (here, tt))

-- what each has, the one at a place has
pub each_at : {X : Type 0} (P : X → Type 0) (xs : List X) (k : ℕ) (x : X) → AllByRecursion P xs
    → slice_get xs k ≡ Some x → P x
each_at P [] k x all is = grind (arith, is)
each_at {X} P (first ∷ xs) zero x all is = subst P (some_one first x is) all.0
  where
    some_one : (a b : X) → Some a ≡ Some b → a ≡ b
    some_one a b is = grind (arith, is)
each_at P (first ∷ xs) (suc k) x all is = each_at P xs k x all.1 is

-- where one can be taken, not all cannot
pub some_taken : (policy : ClientPolicy) (user : List ℕ) (secret : Secret) (names : List (List ℕ))
    (mechanisms : List Mechanism) (mechanism : Mechanism) → IsFirstTaken policy user secret names mechanisms mechanism
    → ¬ AllByRecursion (λ other. ¬ CanTake policy user secret names other) mechanisms
some_taken policy user secret names mechanisms mechanism first all =
    each_at (λ other. ¬ CanTake policy user secret names other) mechanisms first.0 mechanism all first.1 first.2
