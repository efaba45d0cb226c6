-- What each side of an exchange writes, the other reads.
use Rattle.std.proofs.Common.{◌≡◌, ◌<◌, ◌≤◌, ◌^◌, ℕ, suc, List, [], ◌∷◌, ◌++◌, length, get_or, refl, arith, ◌∙◌, sym, ap, codes, not, eqb, inl, inr, subst, Bool, true, false, Ok, ◌≢◌, ◌⊎◌, append_assoc}
use Rattle.std.specs.Prelude.{bit_xor, T, if◌then◌else◌}
use Rattle.std.specs.List.{list_all}
use Rattle.std.specs.Fmt.{decimal}
use Rattle.std.specs.Str.{IsUtf8}
use Rattle.std.specs.Int.Bits.{xor_assoc, xor_self, xor_zero_r}
use Rattle.std.proofs.lemmas.Fmt.{decimal_is_IsNumeral}
use Rattle.std.proofs.lemmas.Nat.{xor_of_8}
use Rattle.std.proofs.lemmas.Str.{IsUtf8-append}
use Rattle.base64.specs.GeneralPurpose.{IsBytes}
use Rattle.fe2o3_scram.specs.Texts.{base64_text, IsCount, NoComma, Parts, Part, joined, HasBase64}
use Rattle.fe2o3_scram.specs.ClientFinal.{Answer, answer_by, fit, keys_for, client_final_of, Server, ClientFinal, HasMisplacedBeforeProof, IsAccepted, ReadsClientFinal, without_proof_with}
use Rattle.fe2o3_scram.specs.ClientFirst.{client_first_bare, client_first_with, ReadsClientFirst}
use Rattle.fe2o3_scram.specs.ChannelBinding.{ClientHeader, HoldsHeaderBytes, cbind_input, header_of}
use Rattle.fe2o3_scram.specs.Escape.{escaped}
use Rattle.fe2o3_scram.specs.Exchanges.{Exchange, client_in, IsSound, OpensRecord, Succeeds, nonce_in, bare_in, first_in, named_in, server_in, final_in, answer_in}
use Rattle.fe2o3_scram.specs.Hmac.{digest, digest_len, exclusive_or}
use Rattle.fe2o3_scram.specs.Keys.{auth_message, client_key, client_signature, stored_key, client_proof}
use Rattle.fe2o3_scram.specs.Pbkdf2Hi.{salted_of}
use Rattle.fe2o3_scram.specs.ServerFinal.{server_final_of, ReadsServerFinal}
use Rattle.fe2o3_scram.specs.declared.hmac.ScramVersion.{ScramVersion}
use Rattle.fe2o3_scram.specs.ClientKeys.{ClientKeys, keys_of}
use Rattle.fe2o3_scram.specs.ClientSecret.{Secret, Password, Keys, Both}
use Rattle.fe2o3_scram.specs.Passwords.{IsNormal, password_bytes}
use Rattle.fe2o3_scram.specs.private.Serving.{Serves}
use Rattle.fe2o3_scram.proofs.lemmas.messages.FittingKeyLemmas.{fit_is, is_fit}
use Rattle.fe2o3_scram.specs.ServerFirst.{ServerFirst, HasCount, NamesServerFirst, ReadsServerFirst}
use Rattle.fe2o3_scram.proofs.lemmas.texts.AsciiLemmas.{IsUtf8-base64_text, IsUtf8-escaped, utf8_behind}
use Rattle.fe2o3_scram.proofs.lemmas.texts.Base64Lemmas.{no_comma-append, no_comma-test, no_comma-base64_text}
use Rattle.fe2o3_scram.proofs.lemmas.texts.EachByteLemmas.{without-digits}
use Rattle.fe2o3_scram.proofs.lemmas.messages.ClientFinalLemmas.{NamesAcceptedFinal, text_read}
use Rattle.fe2o3_scram.proofs.lemmas.messages.ClientFirstLemmas.{named}
use Rattle.fe2o3_scram.proofs.lemmas.messages.HeaderLemmas.{IsBytes-cbind_input, header_utf8}
use Rattle.fe2o3_scram.proofs.lemmas.hashes.DigestLemmas.{IsBytes-nil, IsBytes-cons, length-hmac_of, IsBytes-hmac_of}
use Rattle.fe2o3_scram.proofs.lemmas.texts.EscapingLemmas.{no_comma-escaped}
use Rattle.fe2o3_scram.proofs.lemmas.texts.PartsLemmas.{one_part}
use Rattle.fe2o3_scram.proofs.lemmas.texts.CutLemmas.{one_last_cut}
use Rattle.fe2o3_scram.proofs.lemmas.texts.ExtensionLemmas.{none_after_all}
use Rattle.fe2o3_scram.specs.Grammar.{HasMisplacedFrom}
use Rattle.fe2o3_scram.proofs.lemmas.messages.ServerFinalLemmas.{same_signature, signature_read}
use Rattle.fe2o3_scram.proofs.lemmas.messages.ServerFirstLemmas.{adds_one, values_read, same_nonce, not_too_small, not_too_large, secret_holds}

-- exclusive ors

pub IsBytes-exclusive_or : (left right : List ℕ) → IsBytes left → IsBytes right → IsBytes (exclusive_or left right)
unfolding exclusive_or
IsBytes-exclusive_or [] right are too = IsBytes-nil
IsBytes-exclusive_or (x ∷ left) [] are too = IsBytes-nil
IsBytes-exclusive_or (x ∷ left) (y ∷ right) are too = IsBytes-cons (bit_xor x y) _ (xor_of_8 x y (are 0) (too 0))
    (IsBytes-exclusive_or left right (λ i. are (suc i)) (λ i. too (suc i)))

pub length-exclusive_or : (left right : List ℕ) → length left ≡ length right
    → length (exclusive_or left right) ≡ length left
unfolding exclusive_or
length-exclusive_or [] right same = refl
length-exclusive_or (x ∷ left) [] same = absurd (omega (arith, same))
length-exclusive_or (x ∷ left) (y ∷ right) same = let less : length left ≡ length right = omega (arith, same) in
    ap suc (length-exclusive_or left right less)

-- what was turned is turned back
pub exclusive_or-back : (left right : List ℕ) → length left ≡ length right
    → exclusive_or (exclusive_or left right) right ≡ left
unfolding exclusive_or
exclusive_or-back [] right same = refl
exclusive_or-back (x ∷ left) [] same = absurd (omega (arith, same))
exclusive_or-back (x ∷ left) (y ∷ right) same =
    let less : length left ≡ length right = omega (arith, same) in
    let rest = exclusive_or-back left right less in
    let first : bit_xor (bit_xor x y) y ≡ x = xor_assoc x y y ∙ ap (bit_xor x) (xor_self y) ∙ xor_zero_r x in
    rw (first, rest) refl

-- counts

pub no_comma-decimal : (n : ℕ) → n < 2 ^ 64 → NoComma (decimal n)
no_comma-decimal n small = without-digits 44 (decimal n) (inl (omega arith)) (decimal_is_IsNumeral n small).0.1

pub IsCount-decimal : (n : ℕ) → 1 ≤ n → n < 2 ^ 32 → IsCount (decimal n) n
IsCount-decimal n some small =
    let wide : n < 2 ^ 64 = omega (arith, small) in
    let is = decimal_is_IsNumeral n wide in
    (decimal n, inl refl, is.0, sym is.1, some, small)

-- parts

pub two_parts : (p q : List ℕ) → NoComma p → NoComma q → Parts (joined (p ∷ q ∷ [])) (p ∷ q ∷ [])
two_parts p q plain too = record { some = omega arith; apart = (plain, (too, tt)); whole = refl }

three_parts : (p q r : List ℕ) → NoComma p → NoComma q → NoComma r → Parts (joined (p ∷ q ∷ r ∷ [])) (p ∷ q ∷ r ∷ [])
three_parts p q r plain too also = record { some = omega arith; apart = (plain, (too, (also, tt))); whole = refl }

-- a key and a text after it, as one part
pub part_of : (key text : List ℕ) → list_all (λ byte. not (eqb byte 44)) key ≡ true → NoComma text
    → NoComma (key ++ text)
part_of key text passes plain = no_comma-append key text (no_comma-test key passes) plain

pub only_part : (text : List ℕ) → NoComma text → Parts text (text ∷ [])
only_part text plain = record { some = omega arith; apart = (plain, tt); whole = refl }

-- client-first

nonce_plain : (x : Exchange) → IsSound x → NoComma (nonce_in x)
nonce_plain x sound = no_comma-append x.client_nonce x.server_nonce sound.client_plain sound.server_plain

pub nonce_text : (x : Exchange) → IsSound x → IsUtf8 (nonce_in x)
nonce_text x sound = IsUtf8-append x.client_nonce x.server_nonce sound.client_text sound.server_text

bare_text : (user nonce : List ℕ) → IsUtf8 user → IsUtf8 nonce → IsUtf8 (client_first_bare user nonce)
bare_text user nonce utf8 too = IsUtf8-append (codes "n=" ++ escaped user) (codes ",r=" ++ nonce)
    (utf8_behind (codes "n=") (escaped user) refl (IsUtf8-escaped user utf8)) (utf8_behind (codes ",r=") nonce refl too)

-- a truth value is one of both
not_both : {b : Bool} → b ≡ true → b ≡ false → ⊥
not_both is not_so = let wrong : ◌≡◌ {A = Bool} true false = sym is ∙ not_so in absurd (cc)

reads_client_first : (x : Exchange) → IsSound x
    → ReadsClientFirst x.rules (client_first_with (header_of x.header) x.user x.client_nonce)
    (Ok (record { header = header_of x.header; user = x.user; nonce = x.client_nonce; bare = bare_in x }))
reads_client_first x sound =
    let parts = two_parts (codes "n=" ++ escaped x.user) (codes "r=" ++ x.client_nonce)
    (part_of (codes "n=") (escaped x.user) refl (no_comma-escaped x.user))
    (part_of (codes "r=") x.client_nonce refl sound.client_plain) in
    let utf8 = header_utf8 (header_of x.header) (bare_in x) sound.identity
    (bare_text x.user x.client_nonce sound.user sound.client_text) in
    named x.rules (header_of x.header) (client_first_with (header_of x.header) x.user x.client_nonce)
    (bare_in x) utf8 sound.header refl (escaped x.user) x.user x.client_nonce
    (_, parts, refl) refl (_, parts, refl) (
      λ wrong. not_both (sound.name wrong.0) wrong.1,
      (
        λ wrong. not_both (sound.client_printable wrong.0) wrong.1,
        (λ wrong. none_after_all 2 (bare_in x) _ parts refl wrong.1, tt),
      ),
    )

-- server-first

pub not_extended : (text nonce : List ℕ) → Part text 0 (codes "r=" ++ nonce)
    → ¬ ((rest : List ℕ) × Part text 0 (codes "m=" ++ rest))
not_extended text nonce is has =
    let same : codes "r=" ++ nonce ≡ codes "m=" ++ has.0 =
    one_part text 0 (codes "r=" ++ nonce) (codes "m=" ++ has.0) is has.1 in
    let letter : ◌≡◌ {A = ℕ} 114 109 = ap (λ bytes. get_or bytes 0 0) same in
    omega (arith, letter)

-- a secret that opens a record answers by the keys of it, and serves for its salt and count
pub opened : (version : ScramVersion) (secret : Secret) (password salt : List ℕ) (count : ℕ) (nonce : List ℕ)
    → OpensRecord version secret password salt count
    → (keys_for version secret (record { nonce = nonce; salt = salt; count = count })
    ≡ keys_of version password salt count)
    × Serves secret (record { nonce = nonce; salt = salt; count = count })
opened version (Password own) password salt count nonce (same, printable) =
    (ap (λ (word : List ℕ). keys_of version word salt count) same, printable)
opened version (Keys keys) password salt count nonce is = (
  is,
  is_fit keys (record { nonce = nonce; salt = salt; count = count })
      (sym (ap (λ (made : ClientKeys). made.salt) is)) (sym (ap (λ (made : ClientKeys). made.count) is)),
)
opened version (Both own keys) password salt count nonce opens = go (fit keys first) refl opens
  where
    first : ServerFirst
    first = record { nonce = nonce; salt = salt; count = count }

    fits : keys ≡ keys_of version password salt count → T (fit keys first)
    fits is = is_fit keys first (sym (ap (λ (made : ClientKeys). made.salt) is))
        (sym (ap (λ (made : ClientKeys). made.count) is))

    other : (salt ≢ keys.salt) ⊎ (count ≢ keys.count) → T (fit keys first) → ⊥
    other (inl differs) holds = differs (fit_is keys first holds).0
    other (inr differs) holds = differs (fit_is keys first holds).1

    go : (fitting : Bool) → fitting ≡ fit keys first → OpensRecord version (Both own keys) password salt count
        → ((if fitting then keys else keys_of version (password_bytes own) salt count)
        ≡ keys_of version password salt count)
        × (T fitting ⊎ IsNormal own)
    go true is (inl same) = (same, inl tt)
    go false is (inl same) = absurd (subst T (sym is) (fits same))
    go true is (inr (differs, same, printable)) = absurd (other differs (subst T is tt))
    go false is (inr (differs, same, printable)) =
        (ap (λ (word : List ℕ). keys_of version word salt count) same, inr printable)

-- so the answer is by the keys of the record
abbrev made_in : Exchange → Answer
made_in x =
    answer_by (keys_of x.version x.password x.salt x.count) (bare_in x) (first_in x)
    (without_proof_with x.header (nonce_in x))

pub answered : (x : Exchange) → IsSound x → answer_in x ≡ made_in x
answered x sound =
    ap (λ (keys : ClientKeys). answer_by keys (bare_in x) (first_in x) (without_proof_with x.header (nonce_in x)))
    (opened x.version x.secret x.password x.salt x.count (nonce_in x) sound.opens).0

reads_server_first : (x : Exchange) → IsSound x
    → ReadsServerFirst (client_in x) (first_in x) (Ok (named_in x))
reads_server_first x sound =
    let wide : x.count < 2 ^ 64 = omega (arith, sound.within, sound.limit) in
    let small : x.count < 2 ^ 32 = omega (arith, sound.within, sound.limit) in
    let parts = three_parts (codes "r=" ++ nonce_in x) (codes "s=" ++ base64_text x.salt)
    (codes "i=" ++ decimal x.count)
    (part_of (codes "r=") (nonce_in x) refl (nonce_plain x sound))
    (part_of (codes "s=") (base64_text x.salt) refl (no_comma-base64_text x.salt))
    (part_of (codes "i=") (decimal x.count) refl (no_comma-decimal x.count wide)) in
    let nonce : Part (first_in x) 0 (codes "r=" ++ nonce_in x) = (_, parts, refl) in
    let salt : HasBase64 (first_in x) 1 (codes "s=") x.salt = (sound.salt, (_, parts, refl)) in
    let digits : Part (first_in x) 2 (codes "i=" ++ decimal x.count) = (_, parts, refl) in
    let count : HasCount (first_in x) x.count = (decimal x.count, digits, IsCount-decimal x.count sound.some small) in
    let names : NamesServerFirst (first_in x) (named_in x) = record { nonce = nonce; salt = salt; count = count } in
    values_read (client_in x) (first_in x) (named_in x) (
      λ few. few (codes "i=" ++ decimal x.count) digits,
      (
        not_extended (first_in x) (nonce_in x) nonce,
        (
          λ none. none (nonce_in x) nonce,
          (same_nonce (first_in x) x.client_nonce (nonce_in x) x.server_nonce nonce refl, tt),
        ),
      ),
    )
    (λ none. none (base64_text x.salt) salt.1, (λ none. none x.salt salt, tt)) (
      λ none. none (decimal x.count) digits,
      (
        λ none. none x.count count,
        (
          not_too_small (first_in x) x.limits.min_iterations x.count count sound.least,
          (not_too_large (first_in x) x.limits.max_iterations x.count count sound.within, tt),
        ),
      ),
    ) (
      λ wrong. adds_one (first_in x) x.client_nonce (nonce_in x) x.server_nonce nonce refl (sound.server_printable wrong.0)
          wrong.1,
      (
        λ wrong. wrong.1 x.count (decimal x.count, digits, (refl, sound.some, small)),
        (λ wrong. none_after_all 3 (first_in x) _ parts refl wrong.1, tt),
      ),
    )
    (secret_holds x.secret (first_in x) (named_in x) names
    (opened x.version x.secret x.password x.salt x.count (nonce_in x) sound.opens).1) names

-- client-final

final_parts : (c r p : List ℕ) → NoComma c → NoComma r → NoComma p
    → Parts (joined (joined (c ∷ r ∷ []) ∷ p ∷ [])) (c ∷ r ∷ p ∷ [])
final_parts c r p plain too also = record {
  some = omega arith;
  apart = (plain, (too, (also, tt)));
  whole =
      sym (append_assoc c (44 ∷ r) (44 ∷ p));
}

final_text : (header : ClientHeader) (nonce proof : List ℕ) → IsUtf8 nonce
    → IsUtf8 (client_final_of (without_proof_with header nonce) proof)
final_text header nonce proof utf8 =
    IsUtf8-append (without_proof_with header nonce) (codes ",p=" ++ base64_text proof)
    (IsUtf8-append (codes "c=" ++ base64_text (cbind_input header)) (codes ",r=" ++ nonce)
    (utf8_behind (codes "c=") (base64_text (cbind_input header)) refl (IsUtf8-base64_text (cbind_input header)))
    (utf8_behind (codes ",r=") nonce refl utf8))
    (utf8_behind (codes ",p=") (base64_text proof) refl (IsUtf8-base64_text proof))

-- a message that names its values is read, if it has no misplaced attribute before its proof or the server is not strict
pub final_read : (server : Server) (text : List ℕ) (final : ClientFinal) → IsUtf8 text
    → NamesAcceptedFinal server text final → ¬ (T server.strict × HasMisplacedBeforeProof text)
    → ReadsClientFinal server text (Ok final)
unfolding ReadsClientFinal
final_read server text final utf8 names placed = (
  text_read server.header server.strict server.nonce text utf8 final (
    λ none. none (base64_text (cbind_input server.header)) names.binding.1,
    (λ none. none (cbind_input server.header) names.binding, (λ other. other names.binding, tt)),
  )
      (λ none. none server.nonce names.nonce, (λ other. other names.nonce, tt)) (
        λ none. none final.without (base64_text final.proof) names.proof.1,
        (λ none. none final names.proof, (placed, tt)),
      )
      (record { binding = names.binding; nonce = names.nonce; proof = names.proof }),
  names.sized,
  names.accepted,
)

reads_final : (server : Server) (header : ClientHeader) (proof : List ℕ)
    → cbind_input server.header ≡ cbind_input header → HoldsHeaderBytes header
    → NoComma server.nonce → IsUtf8 server.nonce → IsBytes proof
    → length proof ≡ digest_len server.version → IsAccepted server
    (record { without = without_proof_with header server.nonce; proof = proof })
    → ReadsClientFinal server (client_final_of (without_proof_with header server.nonce) proof)
    (Ok (record { without = without_proof_with header server.nonce; proof = proof }))
reads_final server header proof expected known plain utf8 bytes sized accepted =
    let nonce = server.nonce in
    let text = client_final_of (without_proof_with header nonce) proof in
    let final : ClientFinal = record { without = without_proof_with header nonce; proof = proof } in
    let last = part_of (codes "p=") (base64_text proof) refl (no_comma-base64_text proof) in
    let first = part_of (codes "c=") (base64_text (cbind_input header)) refl (no_comma-base64_text (cbind_input header)) in
    let second = part_of (codes "r=") nonce refl plain in
    let parts = final_parts (codes "c=" ++ base64_text (cbind_input header)) (codes "r=" ++ nonce)
    (codes "p=" ++ base64_text proof) first second last in
    final_read server text final (final_text header nonce proof utf8)
    (record {
      binding = subst (HasBase64 text 0 (codes "c=")) (sym expected)
          (IsBytes-cbind_input header known, (_, parts, refl));
      nonce = (_, parts, refl);
      proof =
          (bytes, (last, refl));
      sized = sized;
      accepted = accepted;
    })
    (λ wrong. none_after_all 2 (without_proof_with header nonce) _
    (two_parts (codes "c=" ++ base64_text (cbind_input header)) (codes "r=" ++ nonce) first second) refl
    (subst (HasMisplacedFrom 2) (sym (one_last_cut 44 text (without_proof_with header nonce)
    (codes "p=" ++ base64_text proof) wrong.1.0 (codes "p=" ++ wrong.1.1) (last, refl) wrong.1.2).0)
    wrong.1.3))

reads_client_final : (x : Exchange) → IsSound x → ReadsClientFinal (server_in x) (made_in x).message (Ok (final_in x))
reads_client_final x sound =
    let v = x.version in
    let salted = salted_of v x.password x.salt x.count in
    let auth = auth_message (bare_in x) (first_in x) (without_proof_with x.header (nonce_in x)) in
    let key = client_key v salted in
    let mac = client_signature v (stored_key v key) auth in
    let key_long : length key ≡ digest_len v = length-hmac_of v salted (codes "Client Key") in
    let mac_long : length mac ≡ digest_len v = length-hmac_of v (stored_key v key) auth in
    reads_final (server_in x) x.header (client_proof v key auth) sound.channel sound.bytes (nonce_plain x sound)
    (nonce_text x sound) (IsBytes-exclusive_or key mac (IsBytes-hmac_of v salted (codes "Client Key"))
    (IsBytes-hmac_of v (stored_key v key) auth))
    (length-exclusive_or key mac (key_long ∙ sym mac_long) ∙ key_long)
    (ap (digest v) (exclusive_or-back key mac (key_long ∙ sym mac_long)), sound.right)

-- server-final

pub reads_signature : (strict : Bool) (signature : List ℕ) → IsBytes signature
    → ReadsServerFinal strict signature (codes "v=" ++ base64_text signature) (Ok tt)
reads_signature strict signature bytes =
    let text = codes "v=" ++ base64_text signature in
    let plain = part_of (codes "v=") (base64_text signature) refl (no_comma-base64_text signature) in
    let utf8 = utf8_behind (codes "v=") (base64_text signature) refl (IsUtf8-base64_text signature) in
    same_signature strict signature text signature (signature_read strict text utf8 (base64_text signature) signature
    (_, only_part text plain, refl) (bytes, refl) (λ wrong. none_after_all 1 text _ (only_part text plain) refl wrong.1))
    refl

reads_server_final : (x : Exchange)
    → ReadsServerFinal (client_in x).strict (made_in x).signature (server_final_of (server_in x) (final_in x)) (Ok tt)
reads_server_final x = reads_signature (client_in x).strict (made_in x).signature (IsBytes-hmac_of x.version _ _)

pub succeeds : (x : Exchange) → IsSound x → Succeeds x
succeeds x sound = record {
  client_first = reads_client_first x sound;
  server_first = reads_server_first x sound;
  client_final = subst (λ (answer : Answer). ReadsClientFinal (server_in x) answer.message (Ok (final_in x)))
      (sym (answered x sound)) (reads_client_final x sound);
  server_final = subst (λ (answer : Answer). ReadsServerFinal (client_in x).strict answer.signature
      (server_final_of (server_in x) (final_in x)) (Ok tt)) (sym (answered x sound)) (reads_server_final x);
}
