-- SASLprep on ASCII: printable characters stay, and controls are rejected.
use Rattle.std.proofs.Common.{◌≡◌, ℕ, zero, ◌<◌, ◌≤◌, Bool, true, false, not, ◌&&◌, nat_le, List, [], ◌∷◌, ◌++◌, All, Option, Some, None, refl, sym, ap, ◌∙◌, arith, chars, encode_utf8, encode_utf8_all, suc-le-suc, zero-le}
use Rattle.std.proofs.lemmas.Bool.{not-true}
use Rattle.std.proofs.lemmas.Bool.Decides.{nat_tests}
use Rattle.std.proofs.lemmas.List.Folds.{list_any_none}
use Rattle.std.proofs.lemmas.Str.{chars-IsAscii, encode_ascii}
use Rattle.std.proofs.lemmas.Str.Ascii.{All-from_ascii}
use Rattle.std.specs.Bool.{beq}
use Rattle.std.specs.List.{find, filter_map, list_any}
use Rattle.std.specs.Option.{option_map, option_or}
use Rattle.std.specs.Str.{IsAscii}
use Rattle.ucd_normal.specs.declared.forms.Form.TheVariants.{Nfkc}
use Rattle.ucd_table.specs.Rows.{in_ranges}
use Rattle.ucd_table.proofs.Computing.{tables}
use Rattle.ucd_table.proofs.Facts.{Stepped-below, same_from_beq}
use Rattle.unicode_normalization.proofs.FormsLemmas.{normalize-ascii}
use Rattle.saslprep.specs.declared.error.SaslprepError.{SaslprepError}
use Rattle.saslprep.specs.declared.error.SaslprepError.TheVariants.{ProhibitedCharacter}
use Rattle.saslprep.specs.declared.Unassigned.{Unassigned}
use Rattle.saslprep.specs.declared.Unassigned.TheVariants.{Allowed, Refused}
use Rattle.saslprep.specs.Saslprep.{mapping, prepared, is_prohibited, is_right_to_left, is_unassigned, has_one_direction, first_unassigned, refusal, refusal_of, IsPrintableText}
use Rattle.saslprep.proofs.lemmas.ListLemmas.{find_either, find-none, All-find, tail_of}
use Rattle.saslprep.specs.Tables.{b_1, c_1_2}
use Rattle.saslprep.proofs.lemmas.TableLemmas.{spaces_stepped, nothing_stepped, union_stepped, is_prohibited_stepped, is_right_to_left_stepped, is_unassigned_stepped}

no_space : (c : ℕ) → c < 128 → in_ranges c_1_2 c ≡ false
unfolding tables spaces_stepped
no_space c lt = not-true _ (Stepped-below (in_ranges c_1_2) spaces_stepped (λ _ b. not b) 128 refl c lt)

not_nothing : (c : ℕ) → c < 128 → in_ranges b_1 c ≡ false
unfolding tables nothing_stepped
not_nothing c lt = not-true _ (Stepped-below (in_ranges b_1) nothing_stepped (λ _ b. not b) 128 refl c lt)

not_right_to_left : (c : ℕ) → c < 128 → is_right_to_left c ≡ false
unfolding tables is_right_to_left_stepped
not_right_to_left c lt = not-true _ (Stepped-below is_right_to_left is_right_to_left_stepped
    (λ _ b. not b) 128 refl c lt)

assigned : (c : ℕ) → c < 128 → is_unassigned c ≡ false
unfolding tables is_unassigned_stepped
assigned c lt = not-true _ (Stepped-below is_unassigned is_unassigned_stepped (λ _ b. not b) 128 refl c lt)

-- of ASCII the controls are prohibited
abbrev is_control : ℕ → Bool
is_control c = not (nat_le 0x20 c && nat_le c 0x7E)

prohibited-ascii : (c : ℕ) → c < 128 → is_prohibited c ≡ is_control c
unfolding tables union_stepped is_prohibited_stepped
prohibited-ascii c lt =
    same_from_beq _ _ (Stepped-below is_prohibited is_prohibited_stepped (λ c b. beq b (is_control c)) 128 refl c lt)

mapping-ascii : (c : ℕ) → c < 128 → mapping c ≡ Some c
unfolding mapping
mapping-ascii c lt =
    let none : in_ranges c_1_2 c ≡ false = no_space c lt in
    let some : in_ranges b_1 c ≡ false = not_nothing c lt in
    rw (none, some) refl

filter_map-ascii : (cs : List ℕ) → All (λ c. c < 128) cs → filter_map mapping cs ≡ cs
filter_map-ascii [] all = refl
filter_map-ascii (c ∷ cs) all =
    let kept : mapping c ≡ Some c = mapping-ascii c (all zero 0 (suc-le-suc zero-le)) in
    rw kept (ap (λ l. c ∷ l) (filter_map-ascii cs (tail_of (λ c. c < 128) c cs all)))

pub prepared-ascii : (cs : List ℕ) → All (λ c. c < 128) cs → prepared cs ≡ cs
unfolding prepared
prepared-ascii cs all = rw (filter_map-ascii cs all) (normalize-ascii Nfkc cs all)

one_direction-ascii : (cs : List ℕ) → All (λ c. c < 128) cs → has_one_direction cs ≡ true
unfolding has_one_direction
one_direction-ascii cs all =
    let none : list_any is_right_to_left cs ≡ false = list_any_none is_right_to_left cs
    (λ k d lt. not_right_to_left _ (all k d lt)) in
    rw none refl

first_unassigned-ascii : (u : Unassigned) (cs : List ℕ) → All (λ c. c < 128) cs → first_unassigned u (cs ++ cs) ≡ None
first_unassigned-ascii Allowed cs all = refl
first_unassigned-ascii Refused cs all =
    let none : find is_unassigned cs ≡ None = find-none is_unassigned cs (λ k d lt. assigned _ (all k d lt)) in
    rw (find_either is_unassigned cs cs, none) refl

or-None : (o : Option SaslprepError) → option_or o None ≡ o
or-None None = refl
or-None (Some e) = refl

refusal_of-ascii : (u : Unassigned) (cs : List ℕ) → All (λ c. c < 128) cs →
    refusal_of u cs cs ≡ option_map ProhibitedCharacter (find is_prohibited cs)
unfolding refusal_of
refusal_of-ascii u cs all = rw (one_direction-ascii cs all, first_unassigned-ascii u cs all) (or-None _)

encode_utf8_all-ascii : (cs : List ℕ) → All (λ c. c < 128) cs → encode_utf8_all cs ≡ cs
encode_utf8_all-ascii [] all = refl
encode_utf8_all-ascii (c ∷ cs) all =
    let own : encode_utf8 c ≡ c ∷ [] = encode_ascii c (all zero 0 (suc-le-suc zero-le)) in
    rw own (ap (λ l. c ∷ l) (encode_utf8_all-ascii cs (tail_of (λ c. c < 128) c cs all)))

-- ---- a text of ASCII

pub refusal-of_ascii : (u : Unassigned) (bs : List ℕ) → IsAscii bs →
    refusal u (chars bs) ≡ option_map ProhibitedCharacter (find is_prohibited (chars bs))
refusal-of_ascii u bs ascii =
    let all = All-from_ascii bs ascii in
    rw (chars-IsAscii bs ascii, prepared-ascii bs all) (refusal_of-ascii u bs all)

pub value-of_ascii : (bs : List ℕ) → IsAscii bs → bs ≡ encode_utf8_all (prepared (chars bs))
value-of_ascii bs ascii =
    let all = All-from_ascii bs ascii in
    sym (ap (λ cs. encode_utf8_all (prepared cs)) (chars-IsAscii bs ascii)
    ∙ ap encode_utf8_all (prepared-ascii bs all) ∙ encode_utf8_all-ascii bs all)

in_print : (c : ℕ) → is_control c ≡ false → (0x20 ≤ c) × (c ≤ 0x7E)
in_print c h = grind (arith, nat_tests)

not_control : (c : ℕ) → (0x20 ≤ c) × (c ≤ 0x7E) → is_control c ≡ false
not_control c h = grind (arith, nat_tests)

pub printable-of_ascii : (bs : List ℕ) → IsAscii bs → find is_prohibited (chars bs) ≡ None → IsPrintableText bs
printable-of_ascii bs ascii none k d lt =
    let all = All-from_ascii bs ascii in
    let clean = All-find is_prohibited bs (sym (ap (find is_prohibited) (chars-IsAscii bs ascii)) ∙ none) k d lt in
    in_print _ (sym (prohibited-ascii _ (all k d lt)) ∙ clean)

pub not_printable-of_ascii : (bs : List ℕ) (c : ℕ) → IsAscii bs → find is_prohibited (chars bs) ≡ Some c →
    ¬ (IsPrintableText bs)
not_printable-of_ascii bs c ascii some printable =
    let all = All-from_ascii bs ascii in
    let none = find-none is_prohibited bs (λ k d lt. prohibited-ascii _ (all k d lt)
    ∙ not_control _ (printable k d lt)) in
    let clash : Some c ≡ None = sym some ∙ ap (find is_prohibited) (chars-IsAscii bs ascii) ∙ none in
    absurd (cc)
