-- Escaped names hold no comma, and no two names have one escaped text.
use Rattle.std.proofs.Common.{◌≡◌, ◌≢◌, ◌<◌, ◌+◌, ℕ, true, false, Bool, List, [], ◌∷◌, ◌++◌, length, get_or, take, refl, arith, ◌∙◌, sym, ap, codes, eqb, cond, append_assoc, append-nil}
use Rattle.std.specs.Prelude.{Option, None, Some, MatchOption, Result, Ok, Err, IfErr}
use Rattle.std.proofs.lemmas.Bool.{eqb-false, ne_eqb, eqb-true}
use Rattle.std.proofs.lemmas.List.{take_more}
use Rattle.fe2o3_scram.specs.Texts.{NoComma, StartsWith}
use Rattle.fe2o3_scram.specs.Escape.{escaped, escaped_byte, NoEquals}
use Rattle.fe2o3_scram.proofs.lemmas.texts.Base64Lemmas.{no_comma-append, no_comma-test}
use Rattle.fe2o3_scram.proofs.lemmas.texts.EachByteLemmas.{all-at, each-back, each-front, without-index}

pub escaped-nil : escaped [] ≡ []
unfolding escaped
escaped-nil = refl

pub escaped-cons : (b : ℕ) (name : List ℕ) → escaped (b ∷ name) ≡ escaped_byte b ++ escaped name
unfolding escaped
escaped-cons b name = refl

pub escaped-one : (b : ℕ) → escaped (b ∷ []) ≡ escaped_byte b
escaped-one b = escaped-cons b [] ∙ ap (λ rest. escaped_byte b ++ rest) escaped-nil ∙ append-nil (escaped_byte b)

pub escaped-append : (front back : List ℕ) → escaped (front ++ back) ≡ escaped front ++ escaped back
unfolding escaped
escaped-append [] back = refl
escaped-append (b ∷ front) back = ap (λ rest. escaped_byte b ++ rest) (escaped-append front back)
    ∙ sym (append_assoc (escaped_byte b) (escaped front) (escaped back))

-- a byte that is sent as itself
pub escaped_byte-plain : (b : ℕ) → b ≢ 44 → b ≢ 61 → escaped_byte b ≡ b ∷ []
escaped_byte-plain b no_comma no_equals = rw (ne_eqb b 44 no_comma, ne_eqb b 61 no_equals) refl

-- what holds of both escapes and of a byte sent as itself holds of an escaped byte
pub by_cases : (b : ℕ) (P : List ℕ → Type 0) → (b ≡ 44 → P (codes "=2C")) → (b ≡ 61 → P (codes "=3D"))
    → (b ≢ 44 → b ≢ 61 → P (b ∷ [])) → P (escaped_byte b)
by_cases b P comma equals plain = go (eqb b 44) (eqb b 61) refl refl
  where
    go : (x y : Bool) → eqb b 44 ≡ x → eqb b 61 ≡ y → P (cond x (codes "=2C") (cond y (codes "=3D") (b ∷ [])))
    go true y is other = comma (eqb-true b 44 is)
    go false true is other = equals (eqb-true b 61 other)
    go false false is other = plain (eqb-false b 44 is) (eqb-false b 61 other)

no_comma-escaped_byte : (b : ℕ) → NoComma (escaped_byte b)
no_comma-escaped_byte b = by_cases b NoComma (λ _. no_comma-test (codes "=2C") refl)
    (λ _. no_comma-test (codes "=3D") refl) (λ no_comma no_equals. (no_comma, tt))

pub no_comma-escaped : (name : List ℕ) → NoComma (escaped name)
unfolding escaped
no_comma-escaped [] = tt
no_comma-escaped (b ∷ name) = no_comma-append (escaped_byte b) (escaped name) (no_comma-escaped_byte b)
    (no_comma-escaped name)

-- a text with neither byte is sent as itself
pub escaped-plain : (text : List ℕ) → NoComma text → NoEquals text → escaped text ≡ text
unfolding escaped
escaped-plain [] no_comma no_equals = refl
escaped-plain (b ∷ text) no_comma no_equals =
    rw (escaped_byte-plain b no_comma.0 no_equals.0, escaped-plain text no_comma.1 no_equals.1) refl

byte_at : {text other : List ℕ} → text ≡ other → (i : ℕ) → get_or text i 0 ≡ get_or other i 0
byte_at same i = ap (λ bytes. get_or bytes i 0) same

-- where two escaped bytes begin one text, they are one
escaped_byte-same : (a b : ℕ) (s t : List ℕ) → escaped_byte a ++ s ≡ escaped_byte b ++ t → (a ≡ b) × (s ≡ t)
escaped_byte-same a b s t = by_cases a (λ x. x ++ s ≡ escaped_byte b ++ t → (a ≡ b) × (s ≡ t))
    (λ ea. by_cases b (λ y. codes "=2C" ++ s ≡ y ++ t → (a ≡ b) × (s ≡ t)) (λ eb e. (ea ∙ sym eb, cc))
    (λ eb e. absurd (omega (arith, byte_at e 1))) (λ n k e. absurd (k (sym (byte_at e 0)))))
    (λ ea. by_cases b (λ y. codes "=3D" ++ s ≡ y ++ t → (a ≡ b) × (s ≡ t)) (λ eb e. absurd (omega (arith, byte_at e 1)))
    (λ eb e. (ea ∙ sym eb, cc)) (λ n k e. absurd (k (sym (byte_at e 0)))))
    (λ m j. by_cases b (λ y. a ∷ s ≡ y ++ t → (a ≡ b) × (s ≡ t)) (λ eb e. absurd (j (byte_at e 0)))
    (λ eb e. absurd (j (byte_at e 0))) (λ n k e. (cc, cc)))

not_empty : (b : ℕ) (text : List ℕ) → [] ≢ escaped_byte b ++ text
not_empty b text = by_cases b (λ x. [] ≢ x ++ text) (λ _ e. cc) (λ _ e. cc) (λ _ _ e. cc)

-- a name whose escaped text begins as another's does goes on from that other
escaped-front : (name other rest : List ℕ) → escaped other ≡ escaped name ++ rest
    → (more : List ℕ) × (other ≡ name ++ more) × (escaped more ≡ rest)
unfolding escaped
escaped-front [] other rest is = (other, refl, is)
escaped-front (b ∷ name) [] rest is =
    absurd (not_empty b (escaped name ++ rest) (is ∙ append_assoc (escaped_byte b) (escaped name) rest))
escaped-front (b ∷ name) (c ∷ other) rest is =
    let same = escaped_byte-same c b (escaped other) (escaped name ++ rest)
    (is ∙ append_assoc (escaped_byte b) (escaped name) rest) in
    let more = escaped-front name other rest same.1 in
    let head = same.0 in
    let tail = more.1 in
    (more.0, cc, more.2)

-- no two names have one escaped text
pub one_escaped : (name other : List ℕ) → escaped name ≡ escaped other → name ≡ other
unfolding escaped
one_escaped [] [] is = refl
one_escaped [] (b ∷ other) is = absurd (not_empty b (escaped other) is)
one_escaped (a ∷ name) [] is = absurd (not_empty a (escaped name) (sym is))
one_escaped (a ∷ name) (b ∷ other) is =
    let same = escaped_byte-same a b (escaped name) (escaped other) is in
    let more = one_escaped name other same.1 in
    let head = same.0 in
    cc

-- one more byte of the name is escaped
pub escaped-next : (name : List ℕ) (k : ℕ) → k < length name
    → escaped (take (k + 1) name) ≡ escaped (take k name) ++ escaped_byte (get_or name k 0)
escaped-next name k below = ap escaped (take_more name k 0 below)
    ∙ escaped-append (take k name) (get_or name k 0 ∷ [])
    ∙ ap (λ rest. escaped (take k name) ++ rest) (escaped-one (get_or name k 0))

-- no byte of the name follows a text
pub escaped-start : (before : List ℕ) → before ++ escaped [] ≡ before
escaped-start before = ap (λ rest. before ++ rest) escaped-nil ∙ append-nil before

-- one more byte of the name is escaped after a text
pub escaped-more : (before name : List ℕ) (k : ℕ) → k < length name
    → before ++ escaped (take (k + 1) name) ≡ (before ++ escaped (take k name)) ++ escaped_byte (get_or name k 0)
escaped-more before name k below = ap (λ rest. before ++ rest) (escaped-next name k below)
    ∙ sym (append_assoc before (escaped (take k name)) (escaped_byte (get_or name k 0)))

pub ruleset escaping = (escaped-start, escaped-more, escaped_byte-plain)

abbrev Plain : ℕ → Type 0
Plain byte = byte ≢ 44

-- the reading of a text without commas: name was read of its front, and rest is left

before_plain : (text name rest before tail : List ℕ) → NoComma text → text ≡ escaped name ++ rest → NoEquals before
    → rest ≡ before ++ tail → escaped before ≡ before
before_plain text name rest before tail no_comma read no_equals cut =
    escaped-plain before (each-front Plain before tail (rw cut at
    (each-back Plain (escaped name) rest (rw read at no_comma)))) no_equals

-- nothing is read yet
pub none_read : (text name : List ℕ) → name ≡ [] → text ≡ escaped name ++ text
none_read text name empty = sym (ap (λ start. escaped start ++ text) empty ∙ ap (λ start. start ++ text) escaped-nil)

-- one more escape is read
pub one_more_read : (text name plain_too escape_too rest before escape more : List ℕ) (b : ℕ) → NoComma text
    → text ≡ escaped name ++ rest → NoEquals before × (rest ≡ before ++ (61 ∷ escape))
    → 61 ∷ escape ≡ escaped_byte b ++ more → plain_too ≡ name ++ before → escape_too ≡ plain_too ++ (b ∷ [])
    → text ≡ escaped escape_too ++ more
one_more_read text name plain_too escape_too rest before escape more b no_comma read cut spelt first second =
    let plain = before_plain text name rest before (61 ∷ escape) no_comma read cut.0 cut.1 in
    let whole : escaped ((name ++ before) ++ (b ∷ [])) ≡ (escaped name ++ before) ++ escaped_byte b =
    escaped-append (name ++ before) (b ∷ []) ∙ ap (λ start. start ++ escaped (b ∷ []))
    (escaped-append name before ∙ ap (λ start. escaped name ++ start) plain)
    ∙ ap (λ last. (escaped name ++ before) ++ last) (escaped-one b) in
    rw (second, first)
    (read ∙ ap (λ last. escaped name ++ last) (cut.1 ∙ ap (λ last. before ++ last) spelt)
    ∙ sym (append_assoc (escaped name) before (escaped_byte b ++ more))
    ∙ sym (append_assoc (escaped name ++ before) (escaped_byte b) more) ∙ sym (ap (λ start. start ++ more) whole))

-- an equals sign begins no escape
pub no_escape : (text name rest before escape : List ℕ) → NoComma text → text ≡ escaped name ++ rest → NoEquals before
    → rest ≡ before ++ (61 ∷ escape) → ¬ StartsWith escape (codes "2C") → ¬ StartsWith escape (codes "3D") → (other : List ℕ)
    → escaped other ≢ text
no_escape text name rest before escape no_comma read no_equals cut comma equals other is =
    let plain = before_plain text name rest before (61 ∷ escape) no_comma read no_equals cut in
    let after_name = escaped-front name other rest (is ∙ read) in
    let after_before = escaped-front before after_name.0 (61 ∷ escape)
    (after_name.2 ∙ cut ∙ sym (ap (λ start. start ++ (61 ∷ escape)) plain)) in
    last after_before.0 after_before.2
  where
    last : (more : List ℕ) → escaped more ≡ 61 ∷ escape → ⊥
    last [] starts = let wrong : [] ≡ 61 ∷ escape = sym escaped-nil ∙ starts in absurd (cc)
    last (b ∷ more) starts = by_cases b (λ x. x ++ escaped more ≡ 61 ∷ escape → ⊥)
        (λ _ e. comma (escaped more, (let both : 61 ∷ escape ≡ 61 ∷ (codes "2C" ++ escaped more) = sym e in cc)))
        (λ _ e. equals (escaped more, (let both : 61 ∷ escape ≡ 61 ∷ (codes "3D" ++ escaped more) = sym e in cc)))
        (λ n k e. k (ap (λ bytes. get_or bytes 0 0) e))
        (sym (escaped-cons b more) ∙ starts)

-- the rest holds no escape
pub all_read : (text name rest : List ℕ) → NoComma text → text ≡ escaped name ++ rest → NoEquals rest
    → escaped (name ++ rest) ≡ text
all_read text name rest no_comma read no_equals =
    escaped-append name rest ∙ ap (λ last. escaped name ++ last)
    (escaped-plain rest (each-back Plain (escaped name) rest (rw read at no_comma)) no_equals) ∙ sym read

pub ruleset unescaping = (no_escape, all_read)

-- a text with a comma is no escaped name
pub comma_refused : (text : List ℕ) (i : ℕ) → i < length text → get_or text i 0 ≡ 44 → (name : List ℕ)
    → escaped name ≢ text
comma_refused text i below comma name is = all-at Plain text i 0 below (rw is at (no_comma-escaped name)) comma

pub no_equals-index : (text : List ℕ) → ((i : ℕ) → i < length text → get_or text i 0 ≢ 61) → NoEquals text
no_equals-index = without-index 61

-- what a search that found nothing says of each byte
pub not_contained : (text : List ℕ) (byte : ℕ) (found : Bool) → found ≡ false
    → ((i : ℕ) → i < length text → get_or text i 0 ≡ byte → found ≡ true) → (i : ℕ) → i < length text
    → get_or text i 0 ≢ byte
not_contained text byte found is finds i below at = let wrong : true ≡ false = sym (finds i below at) ∙ is in cc

pub ruleset names = (escaped-plain, comma_refused, no_equals-index)

pub MatchOption-weaker : {X : Type 0} (found : Option X) (A A' : Type 0) (B B' : X → Type 0) → (A → A')
    → ((x : X) → B x → B' x) → MatchOption found A B → MatchOption found A' B'
MatchOption-weaker None A A' B B' f g h = f h
MatchOption-weaker (Some x) A A' B B' f g h = g x h

-- what holds anyway holds of an error
pub always_if_err : {X F : Type 0} (result : Result X F) (Q : F → Type 0) (P : Type 0) → P
    → IfErr result (λ fault. Q fault → P)
always_if_err (Ok value) Q P holds = tt
always_if_err (Err fault) Q P holds = λ _. holds
