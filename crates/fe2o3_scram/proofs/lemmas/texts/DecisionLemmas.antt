-- What is asked of texts is decided: whether one has a part, and whether it spells bytes, a name or a count.
use Rattle.std.proofs.Common.{◌≡◌, ◌≢◌, ◌⊎◌, ◌<◌, ◌≤◌, ◌^◌, ℕ, zero, suc, Bool, true, false, true≢false, List, [], ◌∷◌, ◌++◌, length, bytes_eq, Decides, Result, Ok, Err, Option, Some, None, refl, sym, ◌∙◌, ap, subst, inl, inr, arith, codes}
use Rattle.std.proofs.lemmas.Bool.{cases_lt, cases_eq}
use Rattle.std.proofs.lemmas.List.{append_cancel_left}
use Rattle.std.proofs.lemmas.List.Elements.{All-from_recursion, recursion_from_All}
use Rattle.std.proofs.lemmas.Slice.Eq.{bytes_eq-Decides}
use Rattle.std.proofs.lemmas.Str.{IsUtf8-from_is_utf8, is_utf8-from_IsUtf8}
use Rattle.std.specs.Char.{digit_value}
use Rattle.std.specs.List.{AllByRecursion}
use Rattle.std.specs.Prelude.{slice_get, option_map, MatchOption}
use Rattle.std.specs.Str.{IsUtf8, is_utf8}
use Rattle.std.specs.Str.Parse.{AllDigits, IsNumeral, digits_value}
use Rattle.base64.specs.Engines.{standard}
use Rattle.base64.specs.GeneralPurpose.{IsBytes, decode_of}
use Rattle.base64.specs.declared.decode.DecodeError.{DecodeError}
use Rattle.fe2o3_scram.specs.Escape.{escaped, escaped_byte}
use Rattle.fe2o3_scram.specs.SaslprepAscii.{IsPrintable}
use Rattle.fe2o3_scram.specs.Texts.{NoComma, Part, base64_text, IsBase64, IsCount}
use Rattle.fe2o3_scram.proofs.lemmas.texts.Base64Lemmas.{decode_of-base64_text, none_spelled}
use Rattle.fe2o3_scram.proofs.lemmas.texts.EscapingLemmas.{by_cases, escaped-nil, escaped-cons, escaped_byte-plain, no_comma-escaped}
use Rattle.fe2o3_scram.proofs.lemmas.texts.PartsLemmas.{pieces, one_part, part_from_pieces}

-- it holds, or it does not
abbrev pub Decided : Type 0 → Type 0
Decided P = P ⊎ ¬ P

-- it holds of something, or of nothing
abbrev pub Found : {X : Type 0} → (X → Type 0) → Type 0
Found {X} P = ((x : X) × P x) ⊎ ((x : X) → ¬ P x)

-- ---- what is decided holds where it is not refuted

pub held : {P : Type 0} → Decided P → ¬ ¬ P → P
held (inl holds) unrefuted = holds
held (inr fails) unrefuted = absurd (unrefuted fails)

pub found_one : {X : Type 0} {P : X → Type 0} → Found P → ¬ ((x : X) → ¬ P x) → (x : X) × P x
found_one (inl found) unrefuted = found
found_one (inr none) unrefuted = absurd (unrefuted none)

-- ---- decisions from decisions

from_test : {P : Type 0} (answer : Bool) → Decides answer P → Decided P
from_test true tells = inl (tells.0 refl)
from_test false tells = inr (λ holds. true≢false (sym (tells.1 holds)))

pub not_or : {P : Type 0} → Decided P → Decided (¬ P)
not_or (inl holds) = inr (λ fails. fails holds)
not_or (inr fails) = inl fails

pub none_or : {X : Type 0} {P : X → Type 0} → Found P → Decided ((x : X) → ¬ P x)
none_or (inl found) = inr (λ none. none found.0 found.1)
none_or (inr none) = inl none

pub some_or : {X : Type 0} {P : X → Type 0} → Found P → Decided ((x : X) × P x)
some_or (inl found) = inl found
some_or (inr none) = inr (λ found. none found.0 found.1)

pub both_or : {P Q : Type 0} → Decided P → Decided Q → Decided (P × Q)
both_or (inl left) (inl right) = inl (left, right)
both_or (inl left) (inr fails) = inr (λ both. fails both.1)
both_or (inr fails) right = inr (λ both. fails both.0)

-- what is found decides what is to be found with it
pub found_with : {X Y : Type 0} {P : X → Type 0} {Q : Y → Type 0} → Found P → ((x : X) → P x → Found Q)
    → ((y : Y) → Q y → (x : X) × P x) → Found Q
found_with (inl found) then back = then found.0 found.1
found_with (inr none) then back = inr (λ y holds. let has = back y holds in none has.0 has.1)

each_or : {X : Type 0} {P : X → Type 0} → ((x : X) → Decided (P x)) → (xs : List X) → Decided (AllByRecursion P xs)
each_or asked [] = inl tt
each_or asked (x ∷ xs) = both_or (asked x) (each_or asked xs)

-- ---- numbers and lists of numbers

pub less_or : (n m : ℕ) → Decided (n < m)
less_or n m = elim (cases_lt n m) [ inl less ↦ inl less | inr most ↦ inr (λ less. absurd (omega (arith, less, most))) ]

pub same_number_or : (n m : ℕ) → Decided (n ≡ m)
same_number_or n m = cases_eq n m

pub same_or : (text other : List ℕ) → Decided (text ≡ other)
same_or text other = from_test (bytes_eq text other) (bytes_eq-Decides text other)

pub bytes_or : (text : List ℕ) → Decided (IsBytes text)
bytes_or [] = inl (λ i. omega arith)
bytes_or (x ∷ text) = go (less_or x 256) (bytes_or text)
  where
    more : x < 256 → IsBytes text → IsBytes (x ∷ text)
    more small are zero = small
    more small are (suc i) = are i

    go : Decided (x < 256) → Decided (IsBytes text) → Decided (IsBytes (x ∷ text))
    go (inl small) (inl are) = inl (more small are)
    go (inl small) (inr none) = inr (λ are. none (λ i. are (suc i)))
    go (inr large) are = inr (λ all. large (all 0))

pub utf8_or : (text : List ℕ) → Decided (IsUtf8 text)
utf8_or text = from_test (is_utf8 text) (IsUtf8-from_is_utf8 text, is_utf8-from_IsUtf8 text)

pub printable_or : (text : List ℕ) → Decided (IsPrintable text)
printable_or text = go (each_or (λ byte. both_or (at_most 0x20 byte) (at_most byte 0x7e)) text)
  where
    at_most : (n m : ℕ) → Decided (n ≤ m)
    at_most n m = elim (cases_lt m n) [
      | inl less ↦ inr (λ most. absurd (omega (arith, less, most)))
      | inr most ↦ inl
          most
    ]

    go : Decided (AllByRecursion (λ byte. (0x20 ≤ byte) × (byte ≤ 0x7e)) text) → Decided (IsPrintable text)
    go (inl each) = inl (All-from_recursion _ text each)
    go (inr fails) = inr (λ all. fails (recursion_from_All _ text all))

-- ---- parts

-- what follows a prefix
pub rest_or : (prefix text : List ℕ) → Found (λ (rest : List ℕ). text ≡ prefix ++ rest)
rest_or [] text = inl (text, refl)
rest_or (x ∷ prefix) [] = inr (λ rest is. absurd (cc))
rest_or (x ∷ prefix) (y ∷ text) = go (same_number_or y x) (rest_or prefix text)
  where
    go : Decided (y ≡ x) → Found (λ (rest : List ℕ). text ≡ prefix ++ rest)
        → Found (λ (rest : List ℕ). y ∷ text ≡ x ∷ prefix ++ rest)
    go (inl same) (inl found) = let tail = found.1 in inl (found.0, cc)
    go (inl same) (inr none) = inr (λ rest is. none rest (let tail : text ≡ prefix ++ rest = cc in tail))
    go (inr other) found = inr (λ rest is. other (let head : y ≡ x = cc in head))

pub part_or : (text : List ℕ) (k : ℕ) → Found (Part text k)
part_or text k = go (slice_get (pieces text) k) (part_from_pieces (λ (part : List ℕ). part) text k _ (same _))
  where
    same : (found : Option (List ℕ)) → option_map (λ (part : List ℕ). part) found ≡ found
    same None = refl
    same (Some part) = refl

    go : (found : Option (List ℕ)) → MatchOption found ((part : List ℕ) → ¬ Part text k part) (Part text k)
        → Found (Part text k)
    go None none = inr none
    go (Some part) is = inl (part, is)

-- whether this is the part
pub part_is_or : (text : List ℕ) (k : ℕ) (part : List ℕ) → Decided (Part text k part)
part_is_or text k part = elim (part_or text k) [
  | inl (other, is) ↦ elim (same_or other part) [
    | inl same ↦ inl (subst (Part text k) same is)
    | inr apart ↦ inr (λ has. apart (one_part text k other part is has))
  ]
  | inr none ↦ inr (none part)
]

-- what follows the key of a part, which says something or nothing
pub attribute_or : {X : Type 0} (Good : X → Type 0) (write : X → List ℕ) (text : List ℕ) (k : ℕ) (key : List ℕ)
    → ((spelling : List ℕ) → Found (λ (x : X). Good x × (spelling ≡ write x)))
    → Found (λ (x : X). Good x × Part text k (key ++ write x))
attribute_or {X} Good write text k key read =
    found_with (part_or text k) behind_key (λ x has. (key ++ write x, has.1))
  where
    behind_key : (part : List ℕ) → Part text k part → Found (λ (x : X). Good x × Part text k (key ++ write x))
    behind_key part is = found_with (rest_or key part) spelled back
      where
        back : (x : X) → Good x × Part text k (key ++ write x) → (rest : List ℕ) × (part ≡ key ++ rest)
        back x has = (write x, one_part text k part (key ++ write x) is has.1)

        spelled : (rest : List ℕ) → part ≡ key ++ rest → Found (λ (x : X). Good x × Part text k (key ++ write x))
        spelled rest begins = found_with (read rest)
            (λ x says. inl (x, (says.0, subst (Part text k) (begins ∙ ap (λ spelt. key ++ spelt) says.1) is)))
            (λ x has. (
              x,
              (
                has.0,
                append_cancel_left key rest (write x)
                    (sym begins ∙ one_part text k part (key ++ write x) is has.1),
              ),
            ))

-- what follows the key of a part
pub attribute_text_or : (text : List ℕ) (k : ℕ) (key : List ℕ) → Found (λ (rest : List ℕ). Part text k (key ++ rest))
attribute_text_or text k key = found_with (attribute_or (λ _. Unit {0}) (λ rest. rest) text k key
    (λ spelling. inl (spelling, (tt, refl)))) (λ rest has. inl (rest, has.1)) (λ rest has. (rest, (tt, has)))

-- ---- what a text spells

-- bytes in base64
pub base64_or : (text : List ℕ) → Found (IsBase64 text)
base64_or text = go (decode_of standard text) refl
  where
    go : (read : Result (List ℕ) DecodeError) → decode_of standard text ≡ read → Found (IsBase64 text)
    go (Err fault) is = inr (none_spelled text fault is)
    go (Ok bytes) is = written (bytes_or bytes) (same_or text (base64_text bytes))
      where
        only : (others : List ℕ) → IsBase64 text others → others ≡ bytes
        only others spells =
            let read = decode_of-base64_text others spells.0 in
            let again : Ok others ≡ Ok bytes = (sym read ∙ rw spells.1 at is) in
            cc

        written : Decided (IsBytes bytes) → Decided (text ≡ base64_text bytes) → Found (IsBase64 text)
        written (inl are) (inl same) = inl (bytes, (are, same))
        written (inl are) (inr other) =
            inr (λ others spells. other (subst (λ (b : List ℕ). text ≡ base64_text b) (only others spells) spells.1))
        written (inr none) same = inr (λ others spells. none (subst IsBytes (only others spells) spells.0))

-- digits, of a count
abbrev Counts : List ℕ → ℕ → Type 0
Counts digits count = IsNumeral 10 digits × (count ≡ digits_value 10 digits) × (1 ≤ count) × (count < 2 ^ 32)

digits_or : (text : List ℕ) → Decided (AllDigits 10 text)
digits_or [] = inl tt
digits_or (x ∷ text) = both_or (less_or (digit_value x) 10) (digits_or text)

counts_or : (digits : List ℕ) → Found (Counts digits)
counts_or digits = go (both_or (less_or 0 (length digits)) (digits_or digits)) (less_or 0 (digits_value 10 digits))
    (less_or (digits_value 10 digits) (2 ^ 32))
  where
    go : Decided (IsNumeral 10 digits) → Decided (0 < digits_value 10 digits)
        → Decided (digits_value 10 digits < 2 ^ 32) → Found (Counts digits)
    go (inl numeral) (inl some) (inl small) = inl (digits_value 10 digits, (numeral, refl, some, small))
    go (inl numeral) (inl some) (inr large) = inr (λ count is. large (subst (λ (n : ℕ). n < 2 ^ 32) is.1 is.3))
    go (inl numeral) (inr none) small = inr (λ count is. none (subst (λ (n : ℕ). 1 ≤ n) is.1 is.2))
    go (inr other) some small = inr (λ count is. other is.0)

no_count : (text : List ℕ) → ((count : ℕ) → ¬ Counts text count)
    → ((digits : List ℕ) → text ≡ 43 ∷ digits → (count : ℕ) → ¬ Counts digits count) → (count : ℕ)
    → ¬ IsCount text count
no_count text none none_signed count (digits, inl is, numeral, value, some, small) =
    none count (subst (λ (spelt : List ℕ). Counts spelt count) (sym is) (numeral, value, some, small))
no_count text none none_signed count (digits, inr is, numeral, value, some, small) =
    none_signed digits is count (numeral, value, some, small)

pub count_or : (text : List ℕ) → Found (IsCount text)
count_or text = go (counts_or text)
  where
    signed : (text : List ℕ) → ((count : ℕ) → ¬ Counts text count) → Found (IsCount text)
    signed [] none = inr (no_count [] none (λ digits is. absurd (cc)))
    signed (x ∷ digits) none = plus (same_number_or x 43) (counts_or digits)
      where
        plus : Decided (x ≡ 43) → Found (Counts digits) → Found (IsCount (x ∷ digits))
        plus (inl is) (inl (count, has)) = inl (
          count,
          (digits, inr (ap (λ (byte : ℕ). byte ∷ digits) is), has.0, has.1, has.2, has.3),
        )
        plus (inl is) (inr neither) = inr (no_count (x ∷ digits) none
            (λ others same count has. neither count (subst (λ (spelt : List ℕ). Counts spelt count)
            (let tail : others ≡ digits = cc in tail) has)))
        plus (inr other) behind = inr (no_count (x ∷ digits) none
            (λ others same. absurd (other (let head : x ≡ 43 = cc in head))))

    go : Found (Counts text) → Found (IsCount text)
    go (inl (count, has)) = inl (count, (text, inl refl, has.0, has.1, has.2, has.3))
    go (inr none) = signed text none

-- a name

abbrev Spells : List ℕ → List ℕ → Type 0
Spells text name = text ≡ escaped name

byte_first : (b c : ℕ) (text other : List ℕ) → b ∷ text ≡ c ∷ other → b ≡ c
byte_first b c text other same = cc

-- a byte that is no equals sign is sent as itself
plain_back : (b : ℕ) (rest name : List ℕ) → b ≢ 61 → b ∷ rest ≡ escaped name
    → (others : List ℕ) × (rest ≡ escaped others)
plain_back b rest [] plain is = let wrong : b ∷ rest ≡ [] = is ∙ escaped-nil in absurd (cc)
plain_back b rest (c ∷ others) plain is =
    by_cases c (λ (sent : List ℕ). b ∷ rest ≡ sent ++ escaped others → (name : List ℕ) × (rest ≡ escaped name))
    (λ _ same. absurd (plain (byte_first b 61 _ _ same))) (λ _ same. absurd (plain (byte_first b 61 _ _ same)))
    (λ _ _ same. (others, (let tail : rest ≡ escaped others = cc in tail))) (is ∙ escaped-cons c others)

-- an equals sign begins an escape
escape_back : (rest name : List ℕ) → 61 ∷ rest ≡ escaped name
    → ((others : List ℕ) × (rest ≡ codes "2C" ++ escaped others))
    ⊎ ((others : List ℕ) × (rest ≡ codes "3D" ++ escaped others))
escape_back rest [] is = let wrong : 61 ∷ rest ≡ [] = is ∙ escaped-nil in absurd (cc)
escape_back rest (c ∷ others) is =
    by_cases c (λ (sent : List ℕ). 61 ∷ rest ≡ sent ++ escaped others
    → ((others : List ℕ) × (rest ≡ codes "2C" ++ escaped others))
    ⊎ ((others : List ℕ) × (rest ≡ codes "3D" ++ escaped others)))
    (λ _ same. inl (others, (let tail : rest ≡ codes "2C" ++ escaped others = cc in tail)))
    (λ _ same. inr (others, (let tail : rest ≡ codes "3D" ++ escaped others = cc in tail)))
    (λ _ plain same. absurd (plain (sym (byte_first 61 c _ _ same)))) (is ∙ escaped-cons c others)

-- what follows an escape is a name, or not
abbrev Behind : List ℕ → Type 0
Behind rest = (x y : ℕ) (more : List ℕ) → rest ≡ x ∷ y ∷ more → Found (Spells more)

after_escape : (rest more escape : List ℕ) (byte : ℕ) → 61 ∷ escape ≡ escaped_byte byte → rest ≡ escape ++ more
    → Found (Spells more) → ((name : List ℕ) → 61 ∷ rest ≡ escaped name
    → (others : List ℕ) × (rest ≡ escape ++ escaped others)) → Found (Spells (61 ∷ rest))
after_escape rest more escape byte sent is found back = found_with found
    (λ name spelt. inl (
      byte ∷ name,
      ap (λ (text : List ℕ). 61 ∷ text) (is ∙ ap (λ (text : List ℕ). escape ++ text) spelt)
          ∙ ap (λ (front : List ℕ). front ++ escaped name) sent ∙ sym (escaped-cons byte name),
    ))
    (λ name same. let others = back name same in
    (others.0, append_cancel_left escape more (escaped others.0) (sym is ∙ others.1)))

after_equals : (rest : List ℕ) → Behind rest → Found (Spells (61 ∷ rest))
after_equals rest behind = go (rest_or (codes "2C") rest) (rest_or (codes "3D") rest)
  where
    go : Found (λ (more : List ℕ). rest ≡ codes "2C" ++ more) → Found (λ (more : List ℕ). rest ≡ codes "3D" ++ more)
        → Found (λ (name : List ℕ). 61 ∷ rest ≡ escaped name)
    go (inl (more, is)) other = after_escape rest more (codes "2C") 44 refl is (behind 50 67 more is)
        (λ name same. elim (escape_back rest name same) [
          | inl comma ↦ comma
          | inr equals ↦ let apart = byte_first 50 51 _ _ (sym is ∙ equals.1) in absurd (omega (arith, apart))
        ])
    go (inr none) (inl (more, is)) = after_escape rest more (codes "3D") 61 refl is (behind 51 68 more is)
        (λ name same. elim (escape_back rest name same) [
          | inl comma ↦ absurd (none (escaped comma.0) comma.1)
          | inr equals ↦ equals
        ])
    go (inr none) (inr neither) =
        inr (λ name same. elim (escape_back rest name same) [
          | inl comma ↦ none (escaped comma.0) comma.1
          | inr equals ↦ neither (escaped equals.0) equals.1
        ])

-- one more byte, before what was read
name_step : (b : ℕ) (rest : List ℕ) → Found (Spells rest) → Behind rest → Found (Spells (b ∷ rest))
name_step b rest found behind = go (same_number_or b 44) (same_number_or b 61)
  where
    go : Decided (b ≡ 44) → Decided (b ≡ 61) → Found (λ (name : List ℕ). b ∷ rest ≡ escaped name)
    go (inl comma) equals = inr (λ name is. (subst NoComma (sym is) (no_comma-escaped name)).0 comma)
    go (inr no_comma) (inl equals) = subst (λ (c : ℕ). Found (Spells (c ∷ rest))) (sym equals)
        (after_equals rest behind)
    go (inr no_comma) (inr no_equals) = found_with found
        (λ name spelt. inl (
          b ∷ name,
          ap (λ (text : List ℕ). b ∷ text) spelt
              ∙ ap (λ (front : List ℕ). front ++ escaped name) (sym (escaped_byte-plain b no_comma no_equals))
              ∙ sym (escaped-cons b name),
        ))
        (λ name is. plain_back b rest name no_equals is)

pub name_or : (text : List ℕ) → Found (λ (name : List ℕ). text ≡ escaped name)
name_or [] = inl ([], sym escaped-nil)
name_or (b ∷ []) = name_step b [] (inl ([], sym escaped-nil)) (λ x y more is. absurd (cc))
name_or (b ∷ x ∷ []) = name_step b (x ∷ []) (name_or (x ∷ [])) (λ y z more is. absurd (cc))
name_or (b ∷ x ∷ y ∷ text) = name_step b (x ∷ y ∷ text) (name_or (x ∷ y ∷ text))
    (λ u v more is. subst (λ (z : List ℕ). Found (Spells z)) (let tail : text ≡ more = cc in tail) (name_or text))
