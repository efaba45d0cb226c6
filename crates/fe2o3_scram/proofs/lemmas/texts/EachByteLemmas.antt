-- What holds of each byte of a text, and what a text is without.
use Rattle.std.proofs.Common.{◌≡◌, ◌≢◌, ◌⊎◌, ◌<◌, ℕ, zero, suc, true, not, eqb, List, [], ◌∷◌, ◌++◌, length, replicate, get_or, subst, inl, inr, refl, arith}
use Rattle.std.specs.List.{AllByRecursion, list_all}
use Rattle.std.specs.Str.Parse.{AllDigits}
use Rattle.std.proofs.lemmas.Bool.{and_parts, not-true, eqb-false}
use Rattle.std.proofs.lemmas.Str.Parse.{digit_from_value}
use Rattle.base64.specs.GeneralPurpose.{IsBytes}
use Rattle.base64.specs.Rfc4648.{encode_symbols, padding_len}
use Rattle.fe2o3_scram.specs.Texts.{Without, alphabet, base64_text}

module _ {X : Type 0} (P : X → Type 0) where
  pub each-append : (front back : List X) → AllByRecursion P front → AllByRecursion P back
      → AllByRecursion P (front ++ back)
  each-append [] back all too = too
  each-append (x ∷ front) back all too = (all.0, each-append front back all.1 too)

  pub each-front : (front back : List X) → AllByRecursion P (front ++ back) → AllByRecursion P front
  each-front [] back all = tt
  each-front (x ∷ front) back all = (all.0, each-front front back all.1)

  pub each-back : (front back : List X) → AllByRecursion P (front ++ back) → AllByRecursion P back
  each-back [] back all = all
  each-back (x ∷ front) back all = each-back front back all.1

  pub each-weaker : (Q : X → Type 0) → ((x : X) → P x → Q x) → (items : List X) → AllByRecursion P items
      → AllByRecursion Q items
  each-weaker Q weaker [] all = tt
  each-weaker Q weaker (x ∷ items) all = (weaker x all.0, each-weaker Q weaker items all.1)

  pub all-at : (items : List X) (k : ℕ) (other : X) → k < length items → AllByRecursion P items
      → P (get_or items k other)
  all-at [] k other below all = absurd (omega (arith, below))
  all-at (item ∷ items) zero other below all = all.0
  all-at (item ∷ items) (suc k) other below all = all-at items k other (omega (arith, below)) all.1

module _ (P : ℕ → Type 0) where
  pub each-index : (text : List ℕ) → ((i : ℕ) → i < length text → P (get_or text i 0)) → AllByRecursion P text
  each-index [] all = tt
  each-index (x ∷ text) all =
      (all 0 (omega arith), each-index text (λ i below. all (suc i) (omega (arith, below))))

  each-replicate : (n byte : ℕ) → P byte → AllByRecursion P (replicate n byte)
  each-replicate zero byte holds = tt
  each-replicate (suc n) byte holds = (holds, each-replicate n byte holds)

  each-get_or : (text : List ℕ) → P 0 → AllByRecursion P text → (i : ℕ) → P (get_or text i 0)
  each-get_or [] none all i = none
  each-get_or (x ∷ text) none all zero = all.0
  each-get_or (x ∷ text) none all (suc i) = each-get_or text none all.1 i

  each-encode_symbols : (symbols bytes : List ℕ) → ((i : ℕ) → P (get_or symbols i 0))
      → AllByRecursion P (encode_symbols symbols bytes)
  unfolding encode_symbols
  each-encode_symbols symbols [] holds = tt
  each-encode_symbols symbols (a ∷ []) holds = (holds _, (holds _, tt))
  each-encode_symbols symbols (a ∷ b ∷ []) holds = (holds _, (holds _, (holds _, tt)))
  each-encode_symbols symbols (a ∷ b ∷ c ∷ bytes) holds =
      (holds _, (holds _, (holds _, (holds _, each-encode_symbols symbols bytes holds))))

  -- what holds of the 64 symbols holds of each symbol of bytes
  each-symbol : (symbols bytes : List ℕ) → ((i : ℕ) → i < 64 → P (get_or symbols i 0)) → IsBytes bytes
      → AllByRecursion P (encode_symbols symbols bytes)
  unfolding encode_symbols
  each-symbol symbols [] holds are = tt
  each-symbol symbols (a ∷ []) holds are =
      let one = are 0 in (holds _ (omega (arith, one)), (holds _ (omega (arith, one)), tt))
  each-symbol symbols (a ∷ b ∷ []) holds are =
      let one = are 0 in
      let two = are 1 in
      (holds _ (omega (arith, one)), (holds _ (omega (arith, one, two)), (holds _ (omega (arith, two)), tt)))
  each-symbol symbols (a ∷ b ∷ c ∷ bytes) holds are =
      let one = are 0 in
      let two = are 1 in
      let three = are 2 in (
        holds _ (omega (arith, one)),
        (
          holds _ (omega (arith, one, two)),
          (
            holds _ (omega (arith, two, three)),
            (holds _ (omega (arith, three)), each-symbol symbols bytes holds (λ i. are (suc (suc (suc i))))),
          ),
        ),
      )

  -- what holds of each symbol and of the padding holds of each byte of a spelling of bytes
  pub each-base64_of_bytes : (bytes : List ℕ) → IsBytes bytes → P 61 → AllByRecursion P alphabet
      → AllByRecursion P (base64_text bytes)
  unfolding base64_text
  each-base64_of_bytes bytes are padding all =
      each-append P (encode_symbols alphabet bytes) (replicate (padding_len (length bytes)) 61)
      (each-symbol alphabet bytes (λ i below. all-at P alphabet i 0 below all) are)
      (each-replicate (padding_len (length bytes)) 61 padding)

  -- what holds of each symbol, of the padding and of 0 holds of each byte of a spelling
  pub each-base64_text : (bytes : List ℕ) → P 0 → P 61 → AllByRecursion P alphabet
      → AllByRecursion P (base64_text bytes)
  unfolding base64_text
  each-base64_text bytes none padding all =
      each-append P (encode_symbols alphabet bytes) (replicate (padding_len (length bytes)) 61)
      (each-encode_symbols alphabet bytes (each-get_or alphabet none all))
      (each-replicate (padding_len (length bytes)) 61 padding)

-- ---- texts without a byte

pub without-append : (byte : ℕ) (front back : List ℕ) → Without byte front → Without byte back
    → Without byte (front ++ back)
without-append byte = each-append (λ other. other ≢ byte)

pub without-index : (byte : ℕ) (text : List ℕ) → ((i : ℕ) → i < length text → get_or text i 0 ≢ byte)
    → Without byte text
without-index byte = each-index (λ other. other ≢ byte)

-- a literal is without the byte where the test says so
pub without-test : (byte : ℕ) (text : List ℕ) → list_all (λ other. not (eqb other byte)) text ≡ true
    → Without byte text
without-test byte [] passes = tt
without-test byte (x ∷ text) passes =
    let both = and_parts (not (eqb x byte)) (list_all (λ other. not (eqb other byte)) text) passes in
    (eqb-false x byte (not-true (eqb x byte) both.0), without-test byte text both.1)

pub without-digits : (byte : ℕ) (digits : List ℕ) → (byte < 48) ⊎ (57 < byte) → AllDigits 10 digits
    → Without byte digits
without-digits byte [] apart are = tt
without-digits byte (x ∷ digits) apart are =
    let range = digit_from_value x are.0 in (
      λ is. elim apart [
        | inl low ↦ absurd (omega (arith, range, is, low))
        | inr high ↦ absurd (omega (arith, range, is, high))
      ],
      without-digits byte digits apart are.1,
    )

pub not_without-in : (byte : ℕ) (front back text : List ℕ) → text ≡ front ++ byte ∷ back → ¬ Without byte text
not_without-in byte front back text is plain =
    (each-back (λ other. other ≢ byte) front (byte ∷ back) (subst (Without byte) is plain)).0 refl
