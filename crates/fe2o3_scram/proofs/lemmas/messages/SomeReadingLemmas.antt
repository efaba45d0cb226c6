-- Each of the four messages has an answer.
use Rattle.std.proofs.Common.{◌≡◌, Bool, true, false, Option, Some, None, ◌⊎◌, ℕ, ◌<◌, List, [], ◌∷◌, ◌++◌, length, Result, Ok, Err, refl, sym, ap, ◌∙◌, subst, inl, inr, codes}
use Rattle.std.specs.Fmt.{decimal}
use Rattle.fe2o3_scram.specs.declared.scram_messages.error.ScramErrorKind.{ScramErrorKind}
use Rattle.fe2o3_scram.specs.declared.scram_messages.error.ScramErrorKind.TheVariants.{ServerSignatureMismatch}
use Rattle.fe2o3_scram.specs.declared.scram_messages.error.ServerScramErrorKind.{ServerScramErrorKind}
use Rattle.fe2o3_scram.specs.declared.scram_messages.error.ServerScramErrorKind.TheVariants.{XorLengthMismatch, AuthenticationFailed}
use Rattle.fe2o3_scram.specs.declared.scram_messages.server_rules.ServerRules.{ServerRules}
use Rattle.fe2o3_scram.specs.Grammar.{HasMisplacedFrom, is_nonce, is_value}
use Rattle.fe2o3_scram.specs.ClientFinal.{Server, ClientFinal, HasMisplacedBeforeProof, HasProof, recovered_key, NamesClientFinal, ReadsFinalText, ReadsClientFinal, final_text_tests}
use Rattle.fe2o3_scram.specs.declared.scram_messages.channel_binding_flag.ChannelBindingFlag.{ChannelBindingFlag}
use Rattle.fe2o3_scram.specs.declared.scram_messages.channel_binding_flag.ChannelBindingFlag.TheVariants.{NotSupported, ClientSupports, Required}
use Rattle.fe2o3_scram.specs.declared.channel_binding.ChannelBindings.{ChannelBindings}
use Rattle.fe2o3_scram.specs.declared.channel_binding.ChannelData.{ChannelData}
use Rattle.fe2o3_scram.specs.declared.channel_binding.ChannelKind.TheVariants.{TlsUnique, TlsServerEndPoint, TlsExporter}
use Rattle.fe2o3_scram.specs.ClientFirst.{ClientFirst, BarePart, HasMisplacedAfterNonce, NamesClientFirst, NamesNoNonce, NamesNoValue, ReadsClientFirst, client_first_tests}
use Rattle.fe2o3_scram.specs.ChannelBinding.{AcceptsFlag, ClientHeader, Gs2Header, TakesFlag, TakesHeader, TakesIdentity, authzid_text, cbind_input, data_of_kind, flag_text, header_text, is_strict}
use Rattle.fe2o3_scram.specs.Escape.{escaped}
use Rattle.fe2o3_scram.specs.Hmac.{digest, digest_len}
use Rattle.fe2o3_scram.specs.Readings.{IsFirst, NoneHolds, Reads}
use Rattle.fe2o3_scram.specs.ServerFinal.{ReadsSignature, ReadsServerFinal, server_final_tests}
use Rattle.fe2o3_scram.specs.ServerFirst as server_first
use Rattle.fe2o3_scram.specs.ServerFirst.{AddsNoNonce, Client, ServerFirst, HasCount, HasPlainCount, NamesServerFirst, ReadsServerFirst, grammar_tests, server_first_tests, secret_tests}
use Rattle.fe2o3_scram.specs.declared.client_secret.IterationLimits.{IterationLimits}
use Rattle.fe2o3_scram.specs.ClientKeys.{ClientKeys}
use Rattle.fe2o3_scram.specs.ClientSecret.{Secret, Password, Keys, Both}
use Rattle.fe2o3_scram.specs.Texts as texts
use Rattle.fe2o3_scram.specs.Texts.{IsPlainCount, base64_text, StartsWith, Part, LastPart, HasBase64, Without}
use Rattle.fe2o3_scram.specs.Passwords.{PasswordText, Typed, Prepared, IsNormal}
use Rattle.base64.specs.GeneralPurpose.{IsBytes}
use Rattle.fe2o3_scram.proofs.lemmas.messages.ClientFirstLemmas.{after_nonce, name_of_bare, nonce_of_bare}
use Rattle.fe2o3_scram.proofs.lemmas.messages.HeaderLemmas.{identity_spelled, joined_header, no_flag, no_identity, none_ended, none_named, none_spelled, none_valued, one_header}
use Rattle.fe2o3_scram.proofs.lemmas.messages.ClientFinalLemmas.{no_proof, has_proof, proof_part, unread_proof}
use Rattle.fe2o3_scram.proofs.lemmas.messages.ServerFirstLemmas.{one_has_count, no_count, no_plain}
use Rattle.fe2o3_scram.proofs.lemmas.texts.CountLemmas.{one_count, plain_is_count}
use Rattle.fe2o3_scram.proofs.lemmas.texts.PartsLemmas.{one_behind}
use Rattle.fe2o3_scram.proofs.lemmas.texts.CutLemmas as cuts
use Rattle.fe2o3_scram.proofs.lemmas.texts.CutLemmas.{last_part_or, one_last_cut}
use Rattle.fe2o3_scram.proofs.lemmas.texts.GrammarLemmas.{misplaced_from_or}
use Rattle.std.specs.Prelude.{T}
use Rattle.fe2o3_scram.proofs.lemmas.texts.DecisionLemmas.{Decided, Found, held, found_one, not_or, none_or, some_or, both_or, found_with, less_or, same_number_or, same_or, bytes_or, utf8_or, printable_or, rest_or, part_or, part_is_or, attribute_or, attribute_text_or, base64_or, count_or, name_or}
use Rattle.fe2o3_scram.specs.private.Tests.{salt_tests, count_tests, binding_tests, final_nonce_tests, spelling_tests}

-- ---- lists of tests

-- each of the tests is decided
abbrev pub AllDecided : {F : Type 0} → List (F × Type 0) → Type 0
AllDecided [] = Unit {0}
AllDecided (test ∷ tests) = Decided test.1 × AllDecided tests

decided-append : {F : Type 0} (tests more : List (F × Type 0)) → AllDecided tests → AllDecided more
    → AllDecided (tests ++ more)
decided-append [] more decided too = too
decided-append (test ∷ tests) more decided too = (decided.0, decided-append tests more decided.1 too)

pub none-split : {F : Type 0} (tests more : List (F × Type 0)) → NoneHolds (tests ++ more)
    → NoneHolds tests × NoneHolds more
none-split [] more none = (tt, none)
none-split (test ∷ tests) more none = let rest = none-split tests more none.1 in ((none.0, rest.0), rest.1)

-- a first test holds, or none does
first_or : {F : Type 0} (tests : List (F × Type 0)) → AllDecided tests
    → ((fault : F) × IsFirst tests fault) ⊎ NoneHolds tests
first_or [] decided = inr tt
first_or (test ∷ tests) (inl holds, decided) = inl (test.0, inl (holds, refl))
first_or (test ∷ tests) (inr fails, decided) = elim (first_or tests decided) [
  | inl (fault, first) ↦ inl (fault, inr (fails, first))
  | inr none ↦ inr (fails, none)
]

-- where each test is decided, and something is named where none holds, there is an answer
pub some_reading : {F V : Type 0} (tests : List (F × Type 0)) (Names : V → Type 0) → AllDecided tests
    → (NoneHolds tests → (values : V) × Names values) → (answer : Result V F) × Reads tests Names answer
some_reading tests Names decided named = elim (first_or tests decided) [
  | inl (fault, first) ↦ (Err fault, first)
  | inr none ↦ let values = named none in (Ok values.0, (none, values.1))
]

-- whether a condition of code holds
true_or : (b : Bool) → Decided (T b)
true_or true = inl tt
true_or false = inr (λ wrong. wrong)

-- whether a condition of code is true
true_bool : (b : Bool) → Decided (b ≡ true)
true_bool true = inl refl
true_bool false = inr (λ wrong. absurd (cc))

-- ---- the client-first message

-- a header that is accepted, and what follows it
abbrev Cut : ServerRules → List ℕ → Gs2Header × List ℕ → Type 0
Cut rules text cut = TakesHeader rules cut.0 × (text ≡ header_text cut.0 ++ cut.1)

-- a flag that is accepted, and what follows its comma
abbrev FlagCut : ServerRules → List ℕ → ChannelBindingFlag × List ℕ → Type 0
FlagCut rules text cut = AcceptsFlag rules cut.0 × (text ≡ (flag_text cut.0 ++ codes ",") ++ cut.1)

-- an identity that is accepted, or none, and what follows its comma
abbrev IdentityCut : Bool → List ℕ → Option (List ℕ) × List ℕ → Type 0
IdentityCut accept text cut = TakesIdentity accept cut.0 × (text ≡ (authzid_text cut.0 ++ codes ",") ++ cut.1)

-- whether a flag that is accepted is at the beginning, and what follows it
abbrev Of : ServerRules → List ℕ → ChannelBindingFlag → Type 0
Of rules text flag = Found (λ (rest : List ℕ). FlagCut rules text (flag, rest))

taken_or : (rules : ServerRules) (text : List ℕ) (flag : ChannelBindingFlag)
    → Decided (AcceptsFlag rules flag) → Of rules text flag
taken_or rules text flag (inl takes) = found_with (rest_or (flag_text flag ++ codes ",") text)
    (λ rest is. inl (rest, (takes, is))) (λ rest cut. (rest, cut.1))
taken_or rules text flag (inr refuses) = inr (λ rest cut. refuses cut.0)

-- whether a server accepts a flag
takes_data : (known : Option ChannelData) → Decided ((its : ChannelData) × (known ≡ Some its))
takes_data None = inr (λ has. absurd (cc))
takes_data (Some its) = inl (its, refl)

takes_or : (channels : Option ChannelBindings) (accept_y : Bool) (flag : ChannelBindingFlag)
    → Decided (TakesFlag channels accept_y flag)
takes_or None accept_y NotSupported = inl tt
takes_or None accept_y ClientSupports = true_or accept_y
takes_or None accept_y (Required kind) = inr (λ wrong. wrong)
takes_or (Some channels) accept_y NotSupported = inr (λ wrong. wrong)
takes_or (Some channels) accept_y ClientSupports = inr (λ wrong. wrong)
takes_or (Some channels) accept_y (Required kind) = takes_data (data_of_kind channels kind)

flag_or : (rules : ServerRules) (text : List ℕ) → Found (FlagCut rules text)
flag_or rules text = go (found NotSupported) (found ClientSupports) (found (Required TlsUnique))
    (found (Required TlsServerEndPoint)) (found (Required TlsExporter))
  where
    found : (flag : ChannelBindingFlag) → Of rules text flag
    found flag = taken_or rules text flag (takes_or rules.channels rules.accept_cbind_flag_y flag)

    neither : ((rest : List ℕ) → ¬ FlagCut rules text (NotSupported, rest))
        → ((rest : List ℕ) → ¬ FlagCut rules text (ClientSupports, rest))
        → ((rest : List ℕ) → ¬ FlagCut rules text (Required TlsUnique, rest))
        → ((rest : List ℕ) → ¬ FlagCut rules text (Required TlsServerEndPoint, rest))
        → ((rest : List ℕ) → ¬ FlagCut rules text (Required TlsExporter, rest))
        → (cut : ChannelBindingFlag × List ℕ) → ¬ FlagCut rules text cut
    neither n y u s e (NotSupported, rest) cut = n rest cut
    neither n y u s e (ClientSupports, rest) cut = y rest cut
    neither n y u s e (Required TlsUnique, rest) cut = u rest cut
    neither n y u s e (Required TlsServerEndPoint, rest) cut = s rest cut
    neither n y u s e (Required TlsExporter, rest) cut = e rest cut

    go : Of rules text NotSupported → Of rules text ClientSupports → Of rules text (Required TlsUnique)
        → Of rules text (Required TlsServerEndPoint) → Of rules text (Required TlsExporter) → Found (FlagCut rules text)
    go (inl (rest, cut)) y u s e = inl ((NotSupported, rest), cut)
    go (inr n) (inl (rest, cut)) u s e = inl ((ClientSupports, rest), cut)
    go (inr n) (inr y) (inl (rest, cut)) s e = inl ((Required TlsUnique, rest), cut)
    go (inr n) (inr y) (inr u) (inl (rest, cut)) e = inl ((Required TlsServerEndPoint, rest), cut)
    go (inr n) (inr y) (inr u) (inr s) (inl (rest, cut)) = inl ((Required TlsExporter, rest), cut)
    go (inr n) (inr y) (inr u) (inr s) (inr e) = inr (neither n y u s e)

value_or : (text : List ℕ) → Decided (is_value text ≡ true)
value_or text = true_bool (is_value text)

-- whether a text that begins with `a=` names an identity that is accepted
named_or : (accept : Bool) (text named : List ℕ) → ¬ StartsWith text (codes ",") → text ≡ codes "a=" ++ named
    → Decided (T accept) → Found (IdentityCut accept text)
named_or accept text named comma is (inr off) = inr none
  where
    none : (cut : Option (List ℕ) × List ℕ) → ¬ IdentityCut accept text cut
    none (None, rest) cut = comma (rest, cut.1)
    none (Some name, rest) cut = off cut.0.0
named_or accept text named comma is (inl on) = elim (cuts.cut_or 44 named) [
  | inr whole ↦ inr (λ cut has. none_ended accept text named comma is (no_cut whole) cut.0 has.0 (cut.1, has.1))
  | inl (spelling, rest, ends) ↦ elim (name_or spelling) [
    | inr bad ↦ inr (λ cut has. none_spelled accept text named comma is spelling rest ends
        (λ name spells. bad name (sym spells)) cut.0 has.0 (cut.1, has.1))
    | inl (name, spells) ↦ elim (value_or name) [
      | inl value ↦ inl (
        (Some name, rest),
        ((on, value), identity_spelled accept text named comma is spelling rest ends name (sym spells)),
      )
      | inr empty ↦ inr (λ cut has. none_valued accept text named comma is spelling rest ends name (sym spells)
          (not_true (is_value name) empty) cut.0 has.0 (cut.1, has.1))
    ]
  ]
]
  where
    not_true : (b : Bool) → ¬ (b ≡ true) → b ≡ false
    not_true true not = absurd (not refl)
    not_true false not = refl

    no_cut : Without 44 named → (before rest : List ℕ) → ¬ texts.Cut 44 named before rest
    no_cut = cuts.uncut 44 named

identity_or : (accept : Bool) (text : List ℕ) → Found (IdentityCut accept text)
identity_or accept text = elim (rest_or (codes ",") text) [
  | inl (rest, is) ↦ inl ((None, rest), (tt, is))
  | inr comma ↦ elim (rest_or (codes "a=") text) [
    | inl (named, is) ↦ named_or accept text named (λ begins. comma begins.0 begins.1) is (true_or accept)
    | inr key ↦ inr (λ cut has. none_named accept text (λ begins. comma begins.0 begins.1) (λ begins. key begins.0 begins.1)
        cut.0 has.0 (cut.1, has.1))
  ]
]

cut_or : (rules : ServerRules) (text : List ℕ) → Found (Cut rules text)
cut_or rules text = elim (flag_or rules text) [
  | inr none ↦ inr (λ cut has. no_flag rules text (λ flag takes begins. none (flag, begins.0) (takes, begins.1))
      cut.0 has.0 (cut.1, has.1))
  | inl ((flag, rest), has) ↦ elim (identity_or rules.accept_authzid rest) [
    | inl ((acts_for, bare), named) ↦ inl (
      (record { flag = flag; acts_for = acts_for }, bare),
      ((has.0, named.0), joined_header flag acts_for text rest bare has.1 named.1),
    )
    | inr none ↦ inr (λ cut too. no_identity rules flag text rest has.1
        (λ acts_for takes begins. none (acts_for, begins.0) (takes, begins.1)) cut.0 too.0 (cut.1, too.1))
  ]
]

-- whether the message begins with no header that is taken
no_header_or : (rules : ServerRules) (text : List ℕ)
    → Decided ((header : Gs2Header) → TakesHeader rules header → ¬ StartsWith text (header_text header))
no_header_or rules text = elim (cut_or rules text) [
  | inl ((header, bare), cut) ↦ inr (λ none. none header cut.0 (bare, cut.1))
  | inr none ↦ inl (λ header takes begins. none (header, begins.0) (takes, begins.1))
]

-- what a part after the header is
bare_attribute_or : {X : Type 0} (write : X → List ℕ) (rules : ServerRules) (text : List ℕ) (k : ℕ) (key : List ℕ)
    → ((spelling : List ℕ) → Found (λ (x : X). spelling ≡ write x))
    → Found (λ (x : X). BarePart rules text k (key ++ write x))
bare_attribute_or {X} write rules text k key read =
    found_with (cut_or rules text) behind (λ x has. ((has.0, has.1), (has.2, has.3)))
  where
    behind : (cut : Gs2Header × List ℕ) → Cut rules text cut
        → Found (λ (x : X). BarePart rules text k (key ++ write x))
    behind (header, bare) cut =
        found_with (attribute_or (λ _. Unit {0}) write bare k key
        (λ spelling. found_with (read spelling) (λ x is. inl (x, (tt, is))) (λ x is. (x, is.1))))
        (λ x has. inl (x, (header, bare, cut.0, cut.1, has.1)))
        (λ x has. (
          x,
          (
            tt,
            subst (λ (behind : List ℕ). Part behind k (key ++ write x))
                (one_header has.0 header text has.1 bare has.3 cut.1).1 has.4,
          ),
        ))

false_or : (b : Bool) → Decided (b ≡ false)
false_or true = inr (λ wrong. absurd (cc))
false_or false = inl refl

-- whether the user that the message names has a name that is no value
no_value_or : (rules : ServerRules) (text : List ℕ)
    → Found (λ (user : List ℕ). BarePart rules text 0 (codes "n=" ++ escaped user))
    → Decided (NamesNoValue rules text)
no_value_or rules text (inl (user, (header, bare, takes, is, part))) = elim (false_or (is_value user)) [
  | inl none ↦ inl (user, (header, bare, takes, is, part), none)
  | inr some ↦ inr (λ has. some (name_of_bare rules header text bare user is part has))
]
no_value_or rules text (inr none) = inr (λ has. none has.0 has.1)

-- whether the nonce that it names is not printable
no_nonce_or : (rules : ServerRules) (text : List ℕ) → Found (λ (nonce : List ℕ). BarePart rules text 1 (codes "r=" ++ nonce))
    → Decided (NamesNoNonce rules text)
no_nonce_or rules text (inl (nonce, (header, bare, takes, is, part))) = elim (false_or (is_nonce nonce)) [
  | inl none ↦ inl (nonce, (header, bare, takes, is, part), none)
  | inr some ↦ inr (λ has. some (nonce_of_bare rules header text bare nonce is part has))
]
no_nonce_or rules text (inr none) = inr (λ has. none has.0 has.1)

-- whether something else than an extension is after the nonce
after_nonce_or : (rules : ServerRules) (text : List ℕ) → Decided (HasMisplacedAfterNonce rules text)
after_nonce_or rules text = elim (cut_or rules text) [
  | inl ((header, bare), cut) ↦ elim (misplaced_from_or 2 bare) [
    | inl has ↦ inl (header, bare, cut.0, cut.1, has)
    | inr none ↦ inr (λ has. none (after_nonce rules header text bare cut.1 has))
  ]
  | inr none ↦ inr (λ has. none (has.0, has.1) (has.2, has.3))
]

pub some_client_first : (rules : ServerRules) (text : List ℕ) → (answer : Result ClientFirst ServerScramErrorKind)
    × ReadsClientFirst rules text answer
unfolding ReadsClientFirst
some_client_first rules text =
    some_reading (client_first_tests rules text) (NamesClientFirst rules text) (
      not_or (utf8_or text),
      (
        no_header_or rules text,
        (
          none_or user,
          (
            none_or nonce,
            (
              both_or (true_or rules.strict) (no_value_or rules text user),
              (
                both_or (true_or rules.strict) (no_nonce_or rules text nonce),
                (both_or (true_or (is_strict rules)) (after_nonce_or rules text), tt),
              ),
            ),
          ),
        ),
      ),
    )
    (λ none. named (found_one user none.1.1.0) (found_one nonce none.1.1.1.0))
  where
    user : Found (λ (user : List ℕ). BarePart rules text 0 (codes "n=" ++ escaped user))
    user = bare_attribute_or escaped rules text 0 (codes "n=") name_or

    nonce : Found (λ (nonce : List ℕ). BarePart rules text 1 (codes "r=" ++ nonce))
    nonce = bare_attribute_or (λ nonce. nonce) rules text 1 (codes "r=") (λ spelling. inl (spelling, refl))

    named : (user : List ℕ) × BarePart rules text 0 (codes "n=" ++ escaped user)
        → (nonce : List ℕ) × BarePart rules text 1 (codes "r=" ++ nonce)
        → (first : ClientFirst) × NamesClientFirst rules text first
    named (user, (header, bare, takes, is, part)) (nonce, (own, other, taken, too, next)) = (
      record { header = header; user = user; nonce = nonce; bare = bare },
      record {
        header = takes;
        bare = is;
        user = part;
        nonce = subst (λ (behind : List ℕ). Part behind 1 (codes "r=" ++ nonce))
            (one_header own header text other bare too is).1 next;
      },
    )

-- ---- the server-first message

salt_or : (text : List ℕ) → Found (HasBase64 text 1 (codes "s="))
salt_or text = attribute_or IsBytes base64_text text 1 (codes "s=") base64_or

has_count_or : (text : List ℕ) → Found (HasCount text)
has_count_or text = found_with (attribute_text_or text 2 (codes "i=")) (λ digits is. elim (count_or digits) [
  | inl (count, has) ↦ inl (count, (digits, is, has))
  | inr none ↦ inr (no_count text digits is none)
]) (λ count has. (has.0, has.1))

-- whether a message names a count that passes this test
some_count_or : (text : List ℕ) (Test : ℕ → Type 0) → ((count : ℕ) → Decided (Test count))
    → Decided ((count : ℕ) × HasCount text count × Test count)
some_count_or text Test test = elim (has_count_or text) [
  | inl (count, has) ↦ elim (test count) [
    | inl holds ↦ inl (count, has, holds)
    | inr fails ↦ inr (λ some. fails (subst Test (one_has_count text some.0 count some.1 has) some.2))
  ]
  | inr none ↦ inr (λ some. none some.0 some.1)
]

-- whether a message names this count, and the values that these keys are of
this_count_or : (text : List ℕ) (count : ℕ) → Decided (HasCount text count)
this_count_or text count = elim (some_count_or text (λ other. other ≡ count) (λ other. same_number_or other count)) [
  | inl (other, has, is) ↦ inl (subst (HasCount text) is has)
  | inr none ↦ inr (λ has. none (count, has, refl))
]

pub names_values_or : (keys : ClientKeys) (text : List ℕ)
    → Decided (HasBase64 text 1 (codes "s=") keys.salt × HasCount text keys.count)
names_values_or keys text = both_or
    (both_or (bytes_or keys.salt) (part_is_or text 1 (codes "s=" ++ base64_text keys.salt)))
    (this_count_or text keys.count)

normal_or : (password : PasswordText) → Decided (IsNormal password)
normal_or (Typed text) = printable_or text
normal_or (Prepared text) = inl tt

secret_decided : (secret : Secret) (text : List ℕ) → AllDecided (secret_tests secret text)
secret_decided (Password password) text = (not_or (normal_or password), tt)
secret_decided (Keys keys) text = (not_or (names_values_or keys text), tt)
secret_decided (Both password keys) text =
    (both_or (not_or (names_values_or keys text)) (not_or (normal_or password)), tt)

nonce_decided : (client_nonce text : List ℕ) → AllDecided (server_first.nonce_tests client_nonce text)
nonce_decided client_nonce text = (
  none_or (part_or text 2),
  (
    some_or (attribute_text_or text 0 (codes "m=")),
    (
      none_or (attribute_text_or text 0 (codes "r=")),
      (none_or (attribute_text_or text 0 (codes "r=" ++ client_nonce)), tt),
    ),
  ),
)

salt_decided : (text : List ℕ) → AllDecided (salt_tests text)
salt_decided text = (none_or (attribute_text_or text 1 (codes "s=")), (none_or (salt_or text), tt))

count_decided : (limits : IterationLimits) (text : List ℕ) → AllDecided (count_tests limits text)
count_decided limits text = (
  none_or (attribute_text_or text 2 (codes "i=")),
  (
    none_or (has_count_or text),
    (
      some_count_or text (λ count. count < limits.min_iterations) (λ count. less_or count limits.min_iterations),
      (some_count_or text (λ count. limits.max_iterations < count) (less_or limits.max_iterations), tt),
    ),
  ),
)

-- whether a message names a count without a sign or leading zeros
plain_or : (digits : List ℕ) → Found (IsPlainCount digits)
plain_or digits = elim (count_or digits) [
  | inl (count, has) ↦ elim (same_or digits (decimal count)) [
    | inl same ↦ inl (count, (same, has.4, has.5))
    | inr other ↦ inr (λ plain_count plain. other
        (plain.0 ∙ ap decimal (one_count digits plain_count count (plain_is_count digits plain_count plain) has)))
  ]
  | inr none ↦ inr (λ count plain. none count (plain_is_count digits count plain))
]

has_plain_count_or : (text : List ℕ) → Found (HasPlainCount text)
has_plain_count_or text = found_with (attribute_text_or text 2 (codes "i=")) (λ digits is. elim (plain_or digits) [
  | inl (count, has) ↦ inl (count, (digits, is, has))
  | inr none ↦ inr (λ count has. no_plain text digits is none (count, has))
]) (λ count has. (has.0, has.1))

adds_no_nonce_or : (client_nonce text : List ℕ) → Decided (AddsNoNonce client_nonce text)
adds_no_nonce_or client_nonce text = elim (attribute_text_or text 0 (codes "r=" ++ client_nonce)) [
  | inl (added, is) ↦ elim (false_or (is_nonce added)) [
    | inl none ↦ inl (added, is, none)
    | inr some ↦ inr (λ has. some (subst (λ (other : List ℕ). is_nonce other ≡ false)
        (one_behind text 0 (codes "r=" ++ client_nonce) has.0 added has.1 is) has.2))
  ]
  | inr none ↦ inr (λ has. none has.0 has.1)
]

grammar_decided : (client : Client) (text : List ℕ) → AllDecided (grammar_tests client text)
grammar_decided client text = (
  both_or (true_or client.grammar) (adds_no_nonce_or client.nonce text),
  (
    both_or (true_or client.grammar) (none_or (has_plain_count_or text)),
    (both_or (true_or client.strict) (misplaced_from_or 3 text), tt),
  ),
)

pub some_server_first : (client : Client) (text : List ℕ)
    → (answer : Result ServerFirst ScramErrorKind) × ReadsServerFirst client text answer
unfolding ReadsServerFirst
some_server_first client text =
    let secret = grammar_tests client text ++ secret_tests client.secret text in
    let count = count_tests client.limits text ++ secret in
    let salt = salt_tests text ++ count in
    some_reading (server_first_tests client text) (NamesServerFirst text)
    (decided-append (server_first.nonce_tests client.nonce text) salt (nonce_decided client.nonce text)
    (decided-append (salt_tests text) count (salt_decided text)
    (decided-append (count_tests client.limits text) secret (count_decided client.limits text)
    (decided-append (grammar_tests client text) (secret_tests client.secret text) (grammar_decided client text)
    (secret_decided client.secret text)))))
    (λ none.
    let nonce_parts = none-split (server_first.nonce_tests client.nonce text) salt none in
    let salt_parts = none-split (salt_tests text) count nonce_parts.1 in
    let count_parts = none-split (count_tests client.limits text) secret salt_parts.1 in
    let named_nonce = found_one (attribute_text_or text 0 (codes "r=")) nonce_parts.0.1.1.0 in
    let named_salt = found_one (salt_or text) salt_parts.0.1.0 in
    let named_count = found_one (has_count_or text) count_parts.0.1.0 in (
      record { nonce = named_nonce.0; salt = named_salt.0; count = named_count.0 },
      record { nonce = named_nonce.1; salt = named_salt.1; count = named_count.1 },
    ))

-- ---- the client-final message

binding_or : (text : List ℕ) → Found (HasBase64 text 0 (codes "c="))
binding_or text = attribute_or IsBytes base64_text text 0 (codes "c=") base64_or

this_binding_or : (text binding : List ℕ) → Decided (HasBase64 text 0 (codes "c=") binding)
this_binding_or text binding = both_or (bytes_or binding) (part_is_or text 0 (codes "c=" ++ base64_text binding))

proof_part_or : (text : List ℕ) → Decided ((before rest : List ℕ) → ¬ LastPart text before (codes "p=" ++ rest))
proof_part_or text = elim (last_part_or text) [
  | inl (before, part, is) ↦ elim (rest_or (codes "p=") part) [
    | inl (rest, begins) ↦ inr (proof_part text before part rest is begins)
    | inr none ↦ inl (no_proof text before part is (λ begins. none begins.0 begins.1))
  ]
  | inr none ↦ inl (λ before rest. none before (codes "p=" ++ rest))
]

proof_or : (text : List ℕ) → Found (HasProof text)
proof_or text = elim (last_part_or text) [
  | inl (before, part, is) ↦ elim (rest_or (codes "p=") part) [
    | inl (spelling, begins) ↦ elim (base64_or spelling) [
      | inl (proof, spells) ↦
          inl (record { without = before; proof = proof }, has_proof text before part spelling proof is begins spells)
      | inr none ↦ inr (unread_proof text before part spelling is begins none)
    ]
    | inr none ↦ inr (λ final has. no_proof text before part is (λ begins. none begins.0 begins.1) final.without
        (base64_text final.proof) has.1)
  ]
  | inr none ↦ inr (λ final has. none final.without (codes "p=" ++ base64_text final.proof) has.1)
]

binding_decided : (header : ClientHeader) (text : List ℕ) → AllDecided (binding_tests header text)
binding_decided header text = (
  none_or (attribute_text_or text 0 (codes "c=")),
  (none_or (binding_or text), (not_or (this_binding_or text (cbind_input header)), tt)),
)

final_nonce_decided : (nonce text : List ℕ) → AllDecided (final_nonce_tests nonce text)
final_nonce_decided nonce text = (
  none_or (attribute_text_or text 1 (codes "r=")),
  (not_or (part_is_or text 1 (codes "r=" ++ nonce)), tt),
)

-- whether something else than an extension is between the nonce and the proof
before_proof_or : (text : List ℕ) → Decided (HasMisplacedBeforeProof text)
before_proof_or text = elim (last_part_or text) [
  | inl (before, part, is) ↦ elim (rest_or (codes "p=") part) [
    | inl (rest, begins) ↦ elim (misplaced_from_or 2 before) [
      | inl has ↦ inl (before, rest, subst (LastPart text before) begins is, has)
      | inr none ↦ inr (λ has. none (subst (HasMisplacedFrom 2)
          (one_last_cut 44 text has.0 (codes "p=" ++ has.1) before part has.2 is).0 has.3))
    ]
    | inr none ↦ inr (λ has. no_proof text before part is (λ begins. none begins.0 begins.1) has.0 has.1 has.2)
  ]
  | inr none ↦ inr (λ has. none has.0 (codes "p=" ++ has.1) has.2)
]

spelling_decided : (strict : Bool) (text : List ℕ) → AllDecided (spelling_tests strict text)
spelling_decided strict text =
    (proof_part_or text, (none_or (proof_or text), (both_or (true_or strict) (before_proof_or text), tt)))

-- a text has an answer before the keys are looked at
some_final_text : (header : ClientHeader) (strict : Bool) (nonce text : List ℕ)
    → (answer : Result ClientFinal ServerScramErrorKind) × ReadsFinalText header strict nonce text answer
unfolding ReadsFinalText
some_final_text header strict nonce text =
    let after_binding = final_nonce_tests nonce text ++ spelling_tests strict text in
    some_reading (final_text_tests header strict nonce text) (NamesClientFinal header nonce text) (
      not_or (utf8_or text),
      decided-append (binding_tests header text) after_binding (binding_decided header text)
          (decided-append (final_nonce_tests nonce text) (spelling_tests strict text) (final_nonce_decided nonce text)
          (spelling_decided strict text)),
    )
    (λ none.
    let binding_parts = none-split (binding_tests header text) after_binding none.1 in
    let nonce_parts = none-split (final_nonce_tests nonce text) (spelling_tests strict text) binding_parts.1 in
    let final = found_one (proof_or text) nonce_parts.1.1.0 in (
      final.0,
      record {
        binding = held (this_binding_or text (cbind_input header)) binding_parts.0.1.1.0;
        nonce = held (part_is_or text 1 (codes "r=" ++ nonce)) nonce_parts.0.1.0;
        proof = final.1;
      },
    ))

pub some_client_final : (server : Server) (text : List ℕ)
    → (answer : Result ClientFinal ServerScramErrorKind) × ReadsClientFinal server text answer
unfolding ReadsClientFinal
some_client_final server text = go (some_final_text server.header server.strict server.nonce text)
  where
    go : (answer : Result ClientFinal ServerScramErrorKind) × ReadsFinalText server.header server.strict server.nonce text answer
        → (answer : Result ClientFinal ServerScramErrorKind) × ReadsClientFinal server text answer
    go (Err fault, reads) = (Err fault, inl reads)
    go (Ok final, reads) = elim (same_number_or (length final.proof) (digest_len server.version)) [
      | inr other ↦ (Err XorLengthMismatch, inr (final, reads, inl (other, refl)))
      | inl sized ↦ elim (same_or (digest server.version (recovered_key server final)) server.stored.stored_key) [
        | inl meets ↦ elim (true_bool server.may_act) [
          | inl may ↦ (Ok final, (reads, sized, (meets, may)))
          | inr barred ↦ (
            Err AuthenticationFailed,
            inr (final, reads, inr ((λ other. other sized), inl (λ accepted. barred accepted.1, refl))),
          )
        ]
        | inr fails ↦ (
          Err AuthenticationFailed,
          inr (final, reads, inr ((λ other. other sized), inl (λ accepted. fails accepted.0, refl))),
        )
      ]
    ]

-- ---- the server-final message

signature_or : (text : List ℕ) → Found (HasBase64 text 0 (codes "v="))
signature_or text = attribute_or IsBytes base64_text text 0 (codes "v=") base64_or

some_signature : (strict : Bool) (text : List ℕ)
    → (answer : Result (List ℕ) ScramErrorKind) × ReadsSignature strict text answer
unfolding ReadsSignature
some_signature strict text = some_reading (server_final_tests strict text) (HasBase64 text 0 (codes "v=")) (
  not_or (utf8_or text),
  (
    none_or (attribute_text_or text 0 (codes "v=")),
    (
      none_or (signature_or text),
      (both_or (true_or strict) (misplaced_from_or 1 text), tt),
    ),
  ),
)
    (λ none. found_one (signature_or text) none.1.1.0)

pub some_server_final : (strict : Bool) (signature text : List ℕ)
    → (answer : Result (Unit {0}) ScramErrorKind) × ReadsServerFinal strict signature text answer
unfolding ReadsServerFinal
some_server_final strict signature text = go (some_signature strict text)
  where
    go : (answer : Result (List ℕ) ScramErrorKind) × ReadsSignature strict text answer
        → (answer : Result (Unit {0}) ScramErrorKind) × ReadsServerFinal strict signature text answer
    go (Err fault, reads) = (Err fault, inl reads)
    go (Ok other, reads) = elim (same_or other signature) [
      | inl same ↦ (Ok tt, subst (λ (named : List ℕ). ReadsSignature strict text (Ok named)) same reads)
      | inr differ ↦ (Err ServerSignatureMismatch, inr (other, reads, differ, refl))
    ]
