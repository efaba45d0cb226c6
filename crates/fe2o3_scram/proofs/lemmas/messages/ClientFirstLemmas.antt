-- The reading of a client-first message.
use Rattle.std.proofs.Common.{◌≡◌, ◌≢◌, ◌⊎◌, false, ℕ, List, [], ◌∷◌, ◌++◌, Result, Ok, Err, refl, sym, ◌∙◌, subst, codes, inl, inr}
use Rattle.std.specs.Str.{IsUtf8}
use Rattle.fe2o3_scram.specs.declared.scram_messages.error.ServerScramErrorKind.{ServerScramErrorKind}
use Rattle.fe2o3_scram.specs.declared.scram_messages.error.ServerScramErrorKind.TheVariants.{Utf8Error, CannotParseGs2Header, CannotParseUsername, CannotParseClientNonce, MisplacedAttribute, OutOfMemory}
use Rattle.fe2o3_scram.specs.declared.scram_messages.server_rules.ServerRules.{ServerRules}
use Rattle.std.specs.Prelude.{T}
use Rattle.fe2o3_scram.specs.Grammar.{HasMisplacedFrom, is_nonce, is_value}
use Rattle.fe2o3_scram.specs.Readings.{IsFirst, NoneHolds}
use Rattle.fe2o3_scram.specs.private.Tests.{bare_grammar_tests}
use Rattle.fe2o3_scram.specs.ClientFirst.{HasEscapes, HasMisplacedAfterNonce, ClientFirst, BarePart, NamesClientFirst, NamesNoNonce, NamesNoValue, ReadsClientFirst, client_first_tests}
use Rattle.fe2o3_scram.specs.ChannelBinding.{Gs2Header, TakesHeader, header_text, is_strict}
use Rattle.fe2o3_scram.specs.declared.scram_messages.escape.UnescapeError.{UnescapeError}
use Rattle.fe2o3_scram.specs.declared.scram_messages.escape.UnescapeError.TheVariants.{Invalid, OutOfMemory as UnescapeOutOfMemory}
use Rattle.fe2o3_scram.specs.Escape.{NoEquals, escaped}
use Rattle.fe2o3_scram.specs.Texts.{Part, StartsWith}
use Rattle.fe2o3_scram.proofs.lemmas.texts.EscapingLemmas.{one_escaped}
use Rattle.fe2o3_scram.proofs.lemmas.texts.PartsLemmas.{one_behind}
use Rattle.fe2o3_scram.proofs.lemmas.messages.HeaderLemmas.{one_header}
use Rattle.fe2o3_scram.proofs.lemmas.messages.TestListLemmas.{not_first, one_reading}

part_of_bare : (rules : ServerRules) (header : Gs2Header) (text bare part : List ℕ) (k : ℕ)
    → text ≡ header_text header ++ bare → BarePart rules text k part → Part bare k part
part_of_bare rules header text bare part k is has = subst (λ (behind : List ℕ). Part behind k part)
    (one_header has.0 header text has.1 bare has.3 is).1 has.4

-- the user whom the message names is the one whose name this is
pub name_of_bare : (rules : ServerRules) (header : Gs2Header) (text bare user : List ℕ)
    → text ≡ header_text header ++ bare → Part bare 0 (codes "n=" ++ escaped user) → NamesNoValue rules text
    → is_value user ≡ false
name_of_bare rules header text bare user is part has =
    let spelt = one_behind bare 0 (codes "n=") (escaped has.0) (escaped user)
    (part_of_bare rules header text bare (codes "n=" ++ escaped has.0) 0 is has.1) part in
    subst (λ (name : List ℕ). is_value name ≡ false) (one_escaped has.0 user spelt) has.2

-- the nonce that it names is this one
pub nonce_of_bare : (rules : ServerRules) (header : Gs2Header) (text bare nonce : List ℕ)
    → text ≡ header_text header ++ bare → Part bare 1 (codes "r=" ++ nonce) → NamesNoNonce rules text
    → is_nonce nonce ≡ false
nonce_of_bare rules header text bare nonce is part has = subst (λ (named : List ℕ). is_nonce named ≡ false)
    (one_behind bare 1 (codes "r=") has.0 nonce
    (part_of_bare rules header text bare (codes "r=" ++ has.0) 1 is has.1) part) has.2

-- what is misplaced after the nonce is so in the text after the header
pub after_nonce : (rules : ServerRules) (header : Gs2Header) (text bare : List ℕ)
    → text ≡ header_text header ++ bare → HasMisplacedAfterNonce rules text → HasMisplacedFrom 2 bare
after_nonce rules header text bare is has = subst (λ (behind : List ℕ). HasMisplacedFrom 2 behind)
    (one_header has.0 header text has.1 bare has.3 is).1 has.4

pub not_utf8 : (rules : ServerRules) (text : List ℕ) → ¬ IsUtf8 text → ReadsClientFirst rules text (Err Utf8Error)
unfolding ReadsClientFirst
not_utf8 rules text fails = inl (fails, refl)

pub no_header : (rules : ServerRules) (text : List ℕ) → IsUtf8 text
    → ((header : Gs2Header) → TakesHeader rules header → ¬ StartsWith text (header_text header))
    → ReadsClientFirst rules text (Err CannotParseGs2Header)
unfolding ReadsClientFirst
no_header rules text utf8 none = inr (λ fails. fails utf8, inl (none, refl))

-- no test of the grammar has the error for a failed allocation
pub not_the_grammar : (rules : ServerRules) (first : ClientFirst) → ¬ IsFirst (bare_grammar_tests rules first) OutOfMemory
not_the_grammar rules first = not_first (bare_grammar_tests rules first) OutOfMemory
    (λ wrong. absurd (cc), (λ wrong. absurd (cc), (λ wrong. absurd (cc), tt)))

abbrev pub made : Gs2Header → List ℕ → List ℕ → List ℕ → ClientFirst
made header user nonce bare = record { header = header; user = user; nonce = nonce; bare = bare }

-- the tests of the grammar, of a text
abbrev strict_tests : ServerRules → List ℕ → List (ServerScramErrorKind × Type 0)
strict_tests rules text =
    (CannotParseUsername, T rules.strict × NamesNoValue rules text)
    ∷ (CannotParseClientNonce, T rules.strict × NamesNoNonce rules text)
    ∷ (MisplacedAttribute, T (is_strict rules) × HasMisplacedAfterNonce rules text)
    ∷ []

module _ (rules : ServerRules) (header : Gs2Header) (text bare : List ℕ) (utf8 : IsUtf8 text)
    (takes : TakesHeader rules header) (is : text ≡ header_text header ++ bare) where
  pub no_name : ((rest : List ℕ) → ¬ Part bare 0 (codes "n=" ++ rest)) → ReadsClientFirst rules text
      (Err CannotParseUsername)
  unfolding ReadsClientFirst
  no_name none = inr (
    λ fails. fails utf8,
    inr (
      λ absent. absent header takes (bare, is),
      inl (
        λ user has. none (escaped user) (part_of_bare rules header text bare
            (codes "n=" ++ escaped user) 0 is has),
        refl,
      ),
    ),
  )

  pub bad_name : (spelling : List ℕ) → Part bare 0 (codes "n=" ++ spelling)
      → ((name : List ℕ) → escaped name ≢ spelling) → ReadsClientFirst rules text (Err CannotParseUsername)
  unfolding ReadsClientFirst
  bad_name spelling part bad = inr (
    λ fails. fails utf8,
    inr (
      λ absent. absent header takes (bare, is),
      inl (
        λ user has. bad user (one_behind bare 0 (codes "n=") (escaped user) spelling
            (part_of_bare rules header text bare (codes "n=" ++ escaped user) 0 is has) part),
        refl,
      ),
    ),
  )

  -- the part of the user whom the text spells
  user_part : (spelling user : List ℕ) → Part bare 0 (codes "n=" ++ spelling) → escaped user ≡ spelling
      → Part bare 0 (codes "n=" ++ escaped user)
  user_part spelling user part spells = subst (λ (spelt : List ℕ). Part bare 0 (codes "n=" ++ spelt)) (sym spells) part

  pub has_escapes : (spelling user : List ℕ) → Part bare 0 (codes "n=" ++ spelling) → escaped user ≡ spelling
      → ¬ NoEquals spelling → HasEscapes rules text
  has_escapes spelling user part spells some = (
    utf8,
    inr (
      user,
      (header, bare, takes, is, user_part spelling user part spells),
      subst (λ (spelt : List ℕ). ¬ NoEquals spelt) (sym spells) some,
    ),
  )

  pub no_nonce : (spelling user : List ℕ) → Part bare 0 (codes "n=" ++ spelling) → escaped user ≡ spelling
      → ((rest : List ℕ) → ¬ Part bare 1 (codes "r=" ++ rest)) → ReadsClientFirst rules text
      (Err CannotParseClientNonce)
  unfolding ReadsClientFirst
  no_nonce spelling user part spells none =
      inr (
        λ fails. fails utf8,
        inr (
          λ absent. absent header takes (bare, is),
          inr (
            λ mock. mock user (header, bare, takes, is, user_part spelling user part spells),
            inl (λ nonce has. none nonce (part_of_bare rules header text bare (codes "r=" ++ nonce) 1 is has), refl),
          ),
        ),
      )

  pub named : (spelling user nonce : List ℕ) → Part bare 0 (codes "n=" ++ spelling) → escaped user ≡ spelling
      → Part bare 1 (codes "r=" ++ nonce) → NoneHolds (bare_grammar_tests rules (made header user nonce bare))
      → ReadsClientFirst rules text (Ok (made header user nonce bare))
  unfolding ReadsClientFirst
  named spelling user nonce first spells has grammar =
      let part = user_part spelling user first spells in (
        (
          λ fails. fails utf8,
          (
            λ absent. absent header takes (bare, is),
            (
              λ mock. mock user (header, bare, takes, is, part),
              (
                λ none. none nonce (header, bare, takes, is, has),
                (
                  λ wrong. grammar.0 (wrong.0, name_of_bare rules header text bare user is part wrong.1),
                  (
                    λ wrong. grammar.1.0 (wrong.0, nonce_of_bare rules header text bare nonce is has wrong.1),
                    (λ wrong. grammar.1.1.0 (wrong.0, after_nonce rules header text bare is wrong.1), tt),
                  ),
                ),
              ),
            ),
          ),
        ),
        record { header = takes; bare = is; user = part; nonce = has },
      )

  -- the first test of the grammar that holds of what is named holds of the text
  grammar_first : (user nonce : List ℕ) (fault : ServerScramErrorKind) → Part bare 0 (codes "n=" ++ escaped user)
      → Part bare 1 (codes "r=" ++ nonce) → IsFirst (bare_grammar_tests rules (made header user nonce bare)) fault
      → IsFirst (strict_tests rules text) fault
  grammar_first user nonce fault part has (inl (found, kind)) =
      inl ((found.0, (user, (header, bare, takes, is, part), found.1)), kind)
  grammar_first user nonce fault part has (inr (name, inl (found, kind))) = inr (
    λ wrong. name (wrong.0, name_of_bare rules header text bare user is part wrong.1),
    inl ((found.0, (nonce, (header, bare, takes, is, has), found.1)), kind),
  )
  grammar_first user nonce fault part has (inr (name, inr (plain, inl (found, kind)))) = inr (
    λ wrong. name (wrong.0, name_of_bare rules header text bare user is part wrong.1),
    inr (
      λ wrong. plain (wrong.0, nonce_of_bare rules header text bare nonce is has wrong.1),
      inl ((found.0, (header, bare, takes, is, found.1)), kind),
    ),
  )
  grammar_first user nonce fault part has (inr (name, inr (plain, inr (placed, none)))) = absurd none

  pub grammar_refused : (spelling user nonce : List ℕ) (fault : ServerScramErrorKind)
      → Part bare 0 (codes "n=" ++ spelling) → escaped user ≡ spelling → Part bare 1 (codes "r=" ++ nonce)
      → IsFirst (bare_grammar_tests rules (made header user nonce bare)) fault → ReadsClientFirst rules text (Err fault)
  unfolding ReadsClientFirst
  grammar_refused spelling user nonce fault first spells has refused =
      let part = user_part spelling user first spells in
      inr (
        λ fails. fails utf8,
        inr (
          λ absent. absent header takes (bare, is),
          inr (
            λ mock. mock user (header, bare, takes, is, part),
            inr (
              λ none. none nonce (header, bare, takes, is, has),
              grammar_first user nonce fault part has refused,
            ),
          ),
        ),
      )

one_values : (rules : ServerRules) (text : List ℕ) (first other : ClientFirst) → NamesClientFirst rules text first
    → NamesClientFirst rules text other → first ≡ other
one_values rules text first other names too =
    let one = one_header first.header other.header text first.bare other.bare names.bare too.bare in
    let header = one.0 in
    let bare = one.1 in
    let user = one_escaped first.user other.user (one_behind other.bare 0 (codes "n=") (escaped first.user)
    (escaped other.user) (subst (λ (behind : List ℕ). Part behind 0 (codes "n=" ++ escaped first.user)) bare names.user)
    too.user) in
    let nonce = one_behind other.bare 1 (codes "r=") first.nonce other.nonce
    (subst (λ (behind : List ℕ). Part behind 1 (codes "r=" ++ first.nonce)) bare names.nonce) too.nonce in
    λ i. made (header i) (user i) (nonce i) (bare i)

pub one_client_first : (rules : ServerRules) (text : List ℕ) (answer other : Result ClientFirst ServerScramErrorKind)
    → ReadsClientFirst rules text answer → ReadsClientFirst rules text other → answer ≡ other
unfolding ReadsClientFirst
one_client_first rules text answer other reads too =
    one_reading (client_first_tests rules text) (NamesClientFirst rules text) (one_values rules text) answer other
    reads too

-- the error for a text that no name is escaped to
pub invalid_name : (error : UnescapeError) (P Q : Type 0) → error ≡ Invalid
    → ((error ≡ Invalid) × P) ⊎ ((error ≡ UnescapeOutOfMemory) × Q) → P
invalid_name error P Q is (inl found) = found.1
invalid_name error P Q is (inr other) = let wrong : Invalid ≡ UnescapeOutOfMemory = sym is ∙ other.0 in absurd (cc)

-- a text for which memory ran out
pub escaped_name : (error : UnescapeError) (P Q : Type 0) → error ≡ UnescapeOutOfMemory
    → ((error ≡ Invalid) × P) ⊎ ((error ≡ UnescapeOutOfMemory) × Q) → Q
escaped_name error P Q is (inl other) = let wrong : UnescapeOutOfMemory ≡ Invalid = sym is ∙ other.0 in absurd (cc)
escaped_name error P Q is (inr found) = found.1
