-- The reading of a server-first message.
use Rattle.std.proofs.Common.{◌≡◌, ℕ, ◌<◌, ◌≤◌, Bool, true, false, List, ◌++◌, Result, Ok, Err, refl, sym, ap, ◌∙◌, subst, codes, inl, inr, arith}
use Rattle.std.proofs.lemmas.List.{append_cancel_left}
use Rattle.std.specs.Prelude.{T}
use Rattle.fe2o3_scram.specs.declared.client_secret.IterationLimits.{IterationLimits}
use Rattle.fe2o3_scram.specs.ClientKeys.{ClientKeys}
use Rattle.fe2o3_scram.specs.ClientFinal.{fit}
use Rattle.fe2o3_scram.specs.ClientSecret.{Secret, Password, Keys, Both}
use Rattle.fe2o3_scram.specs.private.Serving.{Serves, ServesNot}
use Rattle.fe2o3_scram.proofs.lemmas.messages.FittingKeyLemmas.{fit_is, is_fit}
use Rattle.fe2o3_scram.specs.declared.scram_messages.error.ScramErrorKind.{ScramErrorKind}
use Rattle.fe2o3_scram.specs.declared.scram_messages.error.ScramErrorKind.TheVariants.{OutOfMemory}
use Rattle.fe2o3_scram.specs.Grammar.{is_nonce}
use Rattle.fe2o3_scram.specs.Texts.{base64_text, IsBase64, IsCount, IsPlainCount, Part, StartsWith, HasBase64}
use Rattle.fe2o3_scram.specs.Readings.{IsFirst, NoneHolds}
use Rattle.fe2o3_scram.specs.ServerFirst.{AddsNoNonce, Client, ServerFirst, HasCount, HasPlainCount, NamesServerFirst, ReachesSalt, ReadsServerFirst, grammar_tests, nonce_tests, secret_tests, NamesOther}
use Rattle.fe2o3_scram.proofs.lemmas.texts.Base64Lemmas.{one_spelled}
use Rattle.fe2o3_scram.proofs.lemmas.texts.CountLemmas.{one_count}
use Rattle.fe2o3_scram.proofs.lemmas.texts.PartsLemmas.{one_behind}
use Rattle.fe2o3_scram.proofs.lemmas.messages.TestListLemmas.{NoneHolds-append, IsFirst-front, IsFirst-back, one_reading, not_first}
use Rattle.fe2o3_scram.specs.private.Tests.{salt_tests, count_tests}

-- no test of the nonce or of the count has the error for a failed allocation

pub not_the_nonces : (client_nonce text : List ℕ) → ¬ IsFirst (nonce_tests client_nonce text) OutOfMemory
not_the_nonces client_nonce text = not_first (nonce_tests client_nonce text) OutOfMemory (
  λ wrong. absurd (cc),
  (λ wrong. absurd (cc), (λ wrong. absurd (cc), (λ wrong. absurd (cc), tt))),
)

pub not_the_count : (limits : IterationLimits) (text : List ℕ) → ¬ IsFirst (count_tests limits text) OutOfMemory
not_the_count limits text = not_first (count_tests limits text) OutOfMemory (
  λ wrong. absurd (cc),
  (λ wrong. absurd (cc), (λ wrong. absurd (cc), (λ wrong. absurd (cc), tt))),
)

pub not_the_secret : (secret : Secret) (first : ServerFirst) → ¬ ServesNot secret first OutOfMemory
not_the_secret (Password password) first (unprintable, wrong) = absurd (cc)
not_the_secret (Keys keys) first (unfit, wrong) = absurd (cc)
not_the_secret (Both password keys) first (unfit, unprintable, wrong) = absurd (cc)

-- the nonce does not go on from the client's
pub other_nonce : (text client_nonce nonce : List ℕ) → Part text 0 (codes "r=" ++ nonce) → ¬ StartsWith nonce client_nonce
    → (rest : List ℕ) → ¬ Part text 0 (codes "r=" ++ (client_nonce ++ rest))
other_nonce text client_nonce nonce is other rest has =
    other (rest, one_behind text 0 (codes "r=") nonce (client_nonce ++ rest) is has)

-- it does
pub same_nonce : (text client_nonce nonce rest : List ℕ) → Part text 0 (codes "r=" ++ nonce)
    → nonce ≡ client_nonce ++ rest → ¬ ((rest : List ℕ) → ¬ Part text 0 (codes "r=" ++ (client_nonce ++ rest)))
same_nonce text client_nonce nonce rest is goes_on none =
    none rest (subst (λ (full : List ℕ). Part text 0 (codes "r=" ++ full)) goes_on is)

pub ruleset nonces = (other_nonce, same_nonce)

pub no_salt : (text spelling : List ℕ) → Part text 1 (codes "s=" ++ spelling)
    → ((bytes : List ℕ) → ¬ IsBase64 spelling bytes) → (salt : List ℕ) → ¬ HasBase64 text 1 (codes "s=") salt
no_salt text spelling is none salt has =
    none salt (has.0, one_behind text 1 (codes "s=") spelling (base64_text salt) is has.1)

pub has_salt : (text spelling salt : List ℕ) → Part text 1 (codes "s=" ++ spelling) → IsBase64 spelling salt
    → HasBase64 text 1 (codes "s=") salt
has_salt text spelling salt is spells =
    (spells.0, subst (λ (spelt : List ℕ). Part text 1 (codes "s=" ++ spelt)) spells.1 is)

pub ruleset salts = (no_salt, has_salt)

pub no_count : (text digits : List ℕ) → Part text 2 (codes "i=" ++ digits) → ((count : ℕ) → ¬ IsCount digits count)
    → (count : ℕ) → ¬ HasCount text count
no_count text digits is none count has = none count
    (subst (λ (spelt : List ℕ). IsCount spelt count) (one_behind text 2 (codes "i=") has.0 digits has.1 is) has.2)

-- a message names one count
pub one_has_count : (text : List ℕ) (count other : ℕ) → HasCount text count → HasCount text other → count ≡ other
one_has_count text count other has too =
    let digits = one_behind text 2 (codes "i=") has.0 too.0 has.1 too.1 in
    one_count too.0 count other (subst (λ (spelt : List ℕ). IsCount spelt count) digits has.2) too.2

pub not_too_large : (text : List ℕ) (limit count : ℕ) → HasCount text count → count ≤ limit
    → ¬ ((count : ℕ) × HasCount text count × (limit < count))
not_too_large text limit count has within large = let same = one_has_count text count large.0 has large.1 in
    absurd (omega (arith, same, within, large.2))

pub not_too_small : (text : List ℕ) (least count : ℕ) → HasCount text count → least ≤ count
    → ¬ ((count : ℕ) × HasCount text count × (count < least))
not_too_small text least count has within small = let same = one_has_count text count small.0 has small.1 in
    absurd (omega (arith, same, within, small.2))

pub ruleset counts = (no_count, not_too_small, not_too_large)

-- ---- the grammar

pub adds_none : (text client_nonce nonce added : List ℕ) → Part text 0 (codes "r=" ++ nonce) → nonce ≡ client_nonce ++ added
    → is_nonce added ≡ false → AddsNoNonce client_nonce text
adds_none text client_nonce nonce added is goes_on none =
    (added, subst (λ (full : List ℕ). Part text 0 (codes "r=" ++ full)) goes_on is, none)

pub adds_one : (text client_nonce nonce added : List ℕ) → Part text 0 (codes "r=" ++ nonce) → nonce ≡ client_nonce ++ added
    → is_nonce added ≡ true → ¬ AddsNoNonce client_nonce text
adds_one text client_nonce nonce added is goes_on one other =
    let same = one_behind text 0 (codes "r=") nonce (client_nonce ++ other.0) is other.1 in
    let added_too : added ≡ other.0 = append_cancel_left client_nonce added other.0 (sym goes_on ∙ same) in
    let wrong : ◌≡◌ {A = Bool} true false = sym one ∙ ap is_nonce added_too ∙ other.2 in absurd (cc)

pub adds_to_no_other : (text client_nonce nonce : List ℕ) → Part text 0 (codes "r=" ++ nonce)
    → ¬ StartsWith nonce client_nonce → ¬ AddsNoNonce client_nonce text
adds_to_no_other text client_nonce nonce is other has = other_nonce text client_nonce nonce is other has.0 has.1

pub ruleset additions = (adds_none, adds_one, adds_to_no_other)

pub no_plain : (text digits : List ℕ) → Part text 2 (codes "i=" ++ digits) → ((count : ℕ) → ¬ IsPlainCount digits count)
    → ¬ ((count : ℕ) × HasPlainCount text count)
no_plain text digits is none (count, has) = none count (subst (λ (spelt : List ℕ). IsPlainCount spelt count)
    (one_behind text 2 (codes "i=") has.0 digits has.1 is) has.2)

-- the tests after those of the count
abbrev last_tests : Client → List ℕ → List (ScramErrorKind × Type 0)
last_tests client text = grammar_tests client text ++ secret_tests client.secret text

-- the parts of the reading make the whole

pub nonce_refused : (client : Client) (text : List ℕ) (fault : ScramErrorKind)
    → IsFirst (nonce_tests client.nonce text) fault
    → ReadsServerFirst client text (Err fault)
unfolding ReadsServerFirst
nonce_refused client text fault first = IsFirst-front (nonce_tests client.nonce text)
    (salt_tests text ++ (count_tests client.limits text ++ last_tests client text)) fault first

pub salt_refused : (client : Client) (text : List ℕ) (fault : ScramErrorKind)
    → NoneHolds (nonce_tests client.nonce text) → IsFirst (salt_tests text) fault
    → ReadsServerFirst client text (Err fault)
unfolding ReadsServerFirst
salt_refused client text fault nonce first =
    let rest = count_tests client.limits text ++ last_tests client text in
    IsFirst-back (nonce_tests client.nonce text) (salt_tests text ++ rest) fault nonce
    (IsFirst-front (salt_tests text) rest fault first)

pub count_refused : (client : Client) (text : List ℕ) (fault : ScramErrorKind)
    → NoneHolds (nonce_tests client.nonce text) → NoneHolds (salt_tests text)
    → IsFirst (count_tests client.limits text) fault
    → ReadsServerFirst client text (Err fault)
unfolding ReadsServerFirst
count_refused client text fault nonce salt first =
    let rest = count_tests client.limits text ++ last_tests client text in
    IsFirst-back (nonce_tests client.nonce text) (salt_tests text ++ rest) fault nonce
    (IsFirst-back (salt_tests text) rest fault salt (IsFirst-front (count_tests client.limits text)
    (last_tests client text) fault first))

-- a message has one salt
pub one_has_salt : (text salt other : List ℕ) → HasBase64 text 1 (codes "s=") salt
    → HasBase64 text 1 (codes "s=") other → salt ≡ other
one_has_salt text salt other has too =
    let spelling = one_behind text 1 (codes "s=") (base64_text salt) (base64_text other) has.1 too.1 in
    one_spelled (base64_text salt) salt other (has.0, refl) (too.0, spelling)

-- what a message names, of its parts
abbrev pub made : List ℕ → List ℕ → ℕ → ServerFirst
made nonce salt count = record { nonce = nonce; salt = salt; count = count }

pub names_made : (text nonce salt : List ℕ) (count : ℕ) → Part text 0 (codes "r=" ++ nonce)
    → HasBase64 text 1 (codes "s=") salt
    → HasCount text count → NamesServerFirst text (made nonce salt count)
names_made text nonce salt count first second third = record { nonce = first; salt = second; count = third }

-- keys of no other salt and count than are named fit what is named
pub fitting_named : (keys : ClientKeys) (text : List ℕ) (first : ServerFirst) → NamesServerFirst text first
    → HasBase64 text 1 (codes "s=") keys.salt × HasCount text keys.count → T (fit keys first)
fitting_named keys text first names has =
    is_fit keys first (one_has_salt text first.salt keys.salt names.salt has.0)
    (one_has_count text first.count keys.count names.count has.1)

-- keys that fit what is named are of no other salt or count, and the other way round
pub not_other : (keys : ClientKeys) (text : List ℕ) (first : ServerFirst) → NamesServerFirst text first
    → T (fit keys first) → ¬ NamesOther keys text
not_other keys text first names fits other = let same = fit_is keys first fits in
    other (rw same.0 at names.salt, rw same.1 at names.count)

pub other_named : (keys : ClientKeys) (text : List ℕ) (first : ServerFirst) → NamesServerFirst text first
    → ¬ T (fit keys first) → NamesOther keys text
other_named keys text first names unfit has = unfit (fitting_named keys text first names has)

-- the test of a secret that serves, and of one that does not
pub secret_holds : (secret : Secret) (text : List ℕ) (first : ServerFirst) → NamesServerFirst text first
    → Serves secret first → NoneHolds (secret_tests secret text)
secret_holds (Password password) text first names printable = (λ un. un printable, tt)
secret_holds (Keys keys) text first names fits = (not_other keys text first names fits, tt)
secret_holds (Both password keys) text first names (inl fits) =
    (λ test. not_other keys text first names fits test.0, tt)
secret_holds (Both password keys) text first names (inr printable) = (λ test. test.1 printable, tt)

pub secret_first : (secret : Secret) (text : List ℕ) (first : ServerFirst) (fault : ScramErrorKind)
    → NamesServerFirst text first → ServesNot secret first fault → IsFirst (secret_tests secret text) fault
secret_first (Password password) text first fault names (unprintable, is) = inl (unprintable, is)
secret_first (Keys keys) text first fault names (unfit, is) =
    inl (other_named keys text first names unfit, is)
secret_first (Both password keys) text first fault names (unfit, unprintable, is) =
    inl ((other_named keys text first names unfit, unprintable), is)

pub last_refused : (client : Client) (text : List ℕ) (fault : ScramErrorKind)
    → NoneHolds (nonce_tests client.nonce text) → NoneHolds (salt_tests text)
    → NoneHolds (count_tests client.limits text) → IsFirst (last_tests client text) fault
    → ReadsServerFirst client text (Err fault)
unfolding ReadsServerFirst
last_refused client text fault nonce salt count first =
    let rest = count_tests client.limits text ++ last_tests client text in
    IsFirst-back (nonce_tests client.nonce text) (salt_tests text ++ rest) fault nonce
    (IsFirst-back (salt_tests text) rest fault salt
    (IsFirst-back (count_tests client.limits text) (last_tests client text) fault count first))

-- a strict client rejects what its grammar does not allow
pub grammar_refused : (client : Client) (text : List ℕ) (fault : ScramErrorKind)
    → NoneHolds (nonce_tests client.nonce text) → NoneHolds (salt_tests text) → NoneHolds (count_tests client.limits text)
    → IsFirst (grammar_tests client text) fault → ReadsServerFirst client text (Err fault)
grammar_refused client text fault nonce salt count first = last_refused client text fault nonce salt count
    (IsFirst-front (grammar_tests client text) (secret_tests client.secret text) fault first)

pub not_the_grammar : (client : Client) (text : List ℕ) → ¬ IsFirst (grammar_tests client text) OutOfMemory
not_the_grammar client text = not_first (grammar_tests client text) OutOfMemory
    (λ wrong. absurd (cc), (λ wrong. absurd (cc), (λ wrong. absurd (cc), tt)))

pub secret_refused : (client : Client) (text : List ℕ) (fault : ScramErrorKind)
    → NoneHolds (nonce_tests client.nonce text) → NoneHolds (salt_tests text)
    → NoneHolds (count_tests client.limits text) → NoneHolds (grammar_tests client text)
    → IsFirst (secret_tests client.secret text) fault → ReadsServerFirst client text (Err fault)
secret_refused client text fault nonce salt count grammar first = last_refused client text fault nonce salt count
    (IsFirst-back (grammar_tests client text) (secret_tests client.secret text) fault grammar first)

pub values_read : (client : Client) (text : List ℕ) (first : ServerFirst) → NoneHolds (nonce_tests client.nonce text)
    → NoneHolds (salt_tests text) → NoneHolds (count_tests client.limits text)
    → NoneHolds (grammar_tests client text) → NoneHolds (secret_tests client.secret text)
    → NamesServerFirst text first
    → ReadsServerFirst client text (Ok first)
unfolding ReadsServerFirst
values_read client text first nonce salt count grammar secret names =
    let rest = count_tests client.limits text ++ last_tests client text in (
      NoneHolds-append (nonce_tests client.nonce text) (salt_tests text ++ rest) nonce
          (NoneHolds-append (salt_tests text) rest salt (NoneHolds-append (count_tests client.limits text)
          (last_tests client text) count
          (NoneHolds-append (grammar_tests client text) (secret_tests client.secret text) grammar secret))),
      names,
    )

-- a message has one reading

one_values : (text : List ℕ) (first other : ServerFirst) → NamesServerFirst text first → NamesServerFirst text other
    → first ≡ other
one_values text first other names too =
    let nonce = one_behind text 0 (codes "r=") first.nonce other.nonce names.nonce too.nonce in
    let salt = one_has_salt text first.salt other.salt names.salt too.salt in
    let count = one_has_count text first.count other.count names.count too.count in
    λ i. made (nonce i) (salt i) (count i)

pub one_server_first : (client : Client) (text : List ℕ) (answer other : Result ServerFirst ScramErrorKind)
    → ReadsServerFirst client text answer
    → ReadsServerFirst client text other → answer ≡ other
unfolding ReadsServerFirst
one_server_first client text answer other reads too =
    one_reading (nonce_tests client.nonce text ++ (salt_tests text
    ++ (count_tests client.limits text ++ last_tests client text))) (NamesServerFirst text)
    (one_values text) answer other reads too

-- a reader of a message has reached its salt
pub salt_reached : (client : Client) (text : List ℕ) (first : ServerFirst)
    → ReadsServerFirst client text (Ok first) → ReachesSalt client.nonce text
unfolding ReadsServerFirst
salt_reached client text first reads =
    let none = reads.0 in (
      (none.0, (none.1.0, (none.1.1.0, (none.1.1.1.0, tt)))),
      (base64_text first.salt, reads.1.salt.1),
    )
