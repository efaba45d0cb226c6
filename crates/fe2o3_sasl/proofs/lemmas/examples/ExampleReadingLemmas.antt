-- How the messages of the worked examples are read.
use Rattle.std.specs.Prelude.{T, false}
use Rattle.std.proofs.Common.{◌≡◌, ◌≤◌, ℕ, List, [], ◌∷◌, ◌++◌, length, refl, sym, ◌∙◌, ap, subst, arith, codes, Ok, Bool, false}
use Rattle.std.specs.List.{AllByRecursion}
use Rattle.std.specs.Str.{IsUtf8}
use Rattle.std.proofs.lemmas.List.Elements.{All-from_recursion}
use Rattle.std.proofs.lemmas.Option.{none-some}
use Rattle.std.proofs.lemmas.Str.{IsUtf8-append, IsUtf8-nil}
use Rattle.base64.specs.GeneralPurpose.{IsBytes}
use Rattle.fe2o3_scram.specs.ClientFirst.{default_rules}
use Rattle.fe2o3_scram.specs.declared.hmac.ScramVersion.TheVariants.{Sha256}
use Rattle.fe2o3_scram.specs.Texts.{base64_text, IsCount, Parts, Part, joined, HasBase64}
use Rattle.fe2o3_scram.specs.ClientFinal.{HasProof, IsAccepted, ReadsClientFinal, Server, without_proof}
use Rattle.fe2o3_scram.specs.ChannelBinding.{cbind_input, ClientHeader, own_header, plain_header}
use Rattle.fe2o3_scram.specs.declared.scram_messages.channel_binding_flag.ChannelBindingFlag.TheVariants.{NotSupported}
use Rattle.fe2o3_scram.specs.ClientFirst.{ReadsClientFirst}
use Rattle.fe2o3_sasl_core.specs.ClientHistory.{answer_at}
use Rattle.fe2o3_scram.specs.Escape.{escaped}
use Rattle.fe2o3_sasl_core.specs.Events.{IsLogin, IsRecord, login_header}
use Rattle.fe2o3_sasl.specs.examples.Examples.{client_bytes, server_bytes, client_nonce, server_nonce, both, salt, login, stored, names, salted, values, binds, answering, challenging}
use Rattle.fe2o3_scram.specs.Hmac.{digest, digest_len, hmac_of, exclusive_or}
use Rattle.fe2o3_scram.specs.Keys.{auth_message}
use Rattle.fe2o3_scram.specs.SaslprepAscii.{IsPrintable}
use Rattle.fe2o3_scram.specs.ServerFinal.{ReadsServerFinal}
use Rattle.fe2o3_scram.specs.Readings.{NoneHolds}
use Rattle.fe2o3_scram.specs.ServerFirst.{NamesServerFirst, ReadsServerFirst, nonce_tests, client_of}
use Rattle.fe2o3_scram.specs.declared.client_secret.IterationLimits.{IterationLimits}
use Rattle.fe2o3_sasl_core.specs.ServerHistory.{first_message}
use Rattle.fe2o3_sasl_core.specs.TwoSides.{keys_at, proof_at, client_message}
use Rattle.fe2o3_scram.proofs.lemmas.texts.AsciiLemmas.{IsUtf8-literal}
use Rattle.fe2o3_scram.proofs.lemmas.messages.ClientFirstLemmas.{named}
use Rattle.fe2o3_scram.proofs.lemmas.hashes.DigestLemmas.{length-hmac_of, IsBytes-digest, IsBytes-hmac_of, IsBytes-literal, IsBytes-nil}
use Rattle.fe2o3_sasl.proofs.lemmas.examples.ExampleTextLemmas.{Plain, plain-literal, plain-append, plain-base64_text, parts_joined, utf8_joined, joined-append, header_text, user_text, count_text, IsBytes-replicate}
use Rattle.fe2o3_scram.proofs.lemmas.messages.ExchangeLemmas.{IsBytes-exclusive_or, length-exclusive_or, exclusive_or-back, IsCount-decimal, not_extended, final_read, reads_signature}
use Rattle.fe2o3_scram.proofs.lemmas.messages.ServerFirstLemmas.{values_read, same_nonce, not_too_small, not_too_large}
use Rattle.fe2o3_sasl_core.proofs.lemmas.lists.EachLemmas.{each_append}
use Rattle.fe2o3_scram.specs.private.Tests.{salt_tests, count_tests}

-- ---- login and record

pub is_login : IsLogin login
is_login = record {
  user = IsUtf8-literal (codes "user") refl;
  limit = omega arith;
  channel = (IsBytes-nil, IsBytes-nil);
  identity = IsUtf8-nil;
  hostname = λ host is. absurd (none-some host is);
}

pub is_record : IsRecord stored
is_record = record {
  salt = IsBytes-replicate 32 3 (omega arith);
  count = omega arith;
  stored_key = IsBytes-digest Sha256 _;
  server_key = IsBytes-hmac_of Sha256 _ _;
}

-- ---- the parts

pub plain_both : Plain both
plain_both = plain-append client_nonce server_nonce (plain-base64_text client_bytes) (plain-base64_text server_bytes)

pub plain_user : Plain (codes "user")
plain_user = plain-literal (codes "user") refl refl

plain_nonce : (nonce : List ℕ) → Plain nonce → Plain (codes "r=" ++ nonce)
plain_nonce nonce plain = plain-append (codes "r=") nonce (plain-literal (codes "r=") refl refl) plain

pub plain_names : (user : List ℕ) → Plain user → AllByRecursion Plain (names user)
plain_names user plain = (
  plain-append (codes "n=") user (plain-literal (codes "n=") refl refl) plain,
  (plain_nonce client_nonce (plain-base64_text client_bytes), tt),
)

pub plain_salted : (bytes nonce : List ℕ) → Plain nonce → AllByRecursion Plain (salted bytes nonce)
plain_salted bytes nonce plain = (
  plain_nonce nonce plain,
  (
    plain-append (codes "s=") (base64_text bytes) (plain-literal (codes "s=") refl refl)
        (plain-base64_text bytes),
    (plain-literal (codes "i=4096") refl refl, tt),
  ),
)

pub plain_values : (nonce : List ℕ) → Plain nonce → AllByRecursion Plain (values nonce)
plain_values nonce plain = plain_salted salt nonce plain

pub plain_binds : (nonce : List ℕ) → Plain nonce → AllByRecursion Plain (binds nonce)
plain_binds nonce plain = (plain-literal (codes "c=biws") refl refl, (plain_nonce nonce plain, tt))

-- ---- the client-first message, with more parts after the nonce

pub reads_names : (user : List ℕ) (more : List (List ℕ)) → escaped user ≡ user → Plain user → AllByRecursion Plain more
    → ReadsClientFirst default_rules (codes "n,," ++ joined (names user ++ more))
    (Ok (record { header = own_header NotSupported; user = user; nonce = client_nonce; bare = joined (names user ++ more) }))
reads_names user more sent plain too =
    let all = each_append Plain (names user) more (plain_names user plain) too in
    let parts = parts_joined (codes "n=" ++ user) ((codes "r=" ++ client_nonce) ∷ more) all in
    named default_rules (own_header NotSupported) (codes "n,," ++ joined (names user ++ more)) (joined (names user ++ more))
    (IsUtf8-append (codes "n,,") (joined (names user ++ more)) (IsUtf8-literal (codes "n,,") refl)
    (utf8_joined (names user ++ more) all)) (tt, tt) refl user user client_nonce
    (names user ++ more, parts, refl) sent (names user ++ more, parts, refl)
    (λ wrong. wrong.0, (λ wrong. wrong.0, (λ wrong. wrong.0, tt)))

-- ---- the server-first message, with more parts after the count

pub salt_bytes : IsBytes salt
salt_bytes = IsBytes-replicate 32 3 (omega arith)

pub password_printable : IsPrintable (codes "pencil")
password_printable =
    let each : AllByRecursion (λ byte. (0x20 ≤ byte) × (byte ≤ 0x7e)) (codes "pencil") = (
      (omega arith, omega arith),
      (
        (omega arith, omega arith),
        (
          (omega arith, omega arith),
          (
            (omega arith, omega arith),
            ((omega arith, omega arith), ((omega arith, omega arith), tt)),
          ),
        ),
      ),
    ) in
    All-from_recursion (λ byte. (0x20 ≤ byte) × (byte ≤ 0x7e)) (codes "pencil") each

counted : IsCount (codes "4096") 4096
counted = subst (λ (digits : List ℕ). IsCount digits 4096) count_text (IsCount-decimal 4096 (omega arith) (omega arith))

-- whatever the salt, the tests before that of the secret
module _ (bytes : List ℕ) (is : IsBytes bytes) (nonce rest : List ℕ) (more : List (List ℕ))
    (begins : nonce ≡ client_nonce ++ rest) (plain : Plain nonce) (too : AllByRecursion Plain more) where
  abbrev challenge : List ℕ
  challenge = joined (salted bytes nonce ++ more)

  cut : Parts challenge (salted bytes nonce ++ more)
  cut = parts_joined (codes "r=" ++ nonce) ((codes "s=" ++ base64_text bytes) ∷ codes "i=4096" ∷ more)
      (each_append Plain (salted bytes nonce) more (plain_salted bytes nonce plain) too)

  digits : Part challenge 2 (codes "i=" ++ codes "4096")
  digits = (salted bytes nonce ++ more, cut, refl)

  pub names_salted : NamesServerFirst challenge (record { nonce = nonce; salt = bytes; count = 4096 })
  names_salted = record {
    nonce = (salted bytes nonce ++ more, cut, refl);
    salt = (is, (salted bytes nonce ++ more, cut, refl));
    count = (codes "4096", digits, counted);
  }

  pub nonce_passes : NoneHolds (nonce_tests client_nonce challenge)
  nonce_passes = (
    λ few. few (codes "i=4096") digits,
    (
      not_extended challenge nonce names_salted.nonce,
      (
        λ none. none nonce names_salted.nonce,
        (same_nonce challenge client_nonce nonce rest names_salted.nonce begins, tt),
      ),
    ),
  )

  pub salt_passes : NoneHolds (salt_tests challenge)
  salt_passes = (λ none. none (base64_text bytes) names_salted.salt.1, (λ none. none bytes names_salted.salt, tt))

  pub count_passes : (limits : IterationLimits) → limits.min_iterations ≤ 4096 → 4096 ≤ limits.max_iterations
      → NoneHolds (count_tests limits challenge)
  count_passes limits least most = (
    λ none. none (codes "4096") digits,
    (
      λ none. none 4096 names_salted.count,
      (
        not_too_small challenge limits.min_iterations 4096 names_salted.count least,
        (not_too_large challenge limits.max_iterations 4096 names_salted.count most, tt),
      ),
    ),
  )

pub reads_values : (nonce rest : List ℕ) (more : List (List ℕ)) → nonce ≡ client_nonce ++ rest → Plain nonce
    → AllByRecursion Plain more
    → ReadsServerFirst (client_of client_nonce login.secret login.limits (login_header login) login.strict)
    (joined (values nonce ++ more)) (Ok (answering (joined (values nonce ++ more)) nonce).first)
reads_values nonce rest more begins plain too =
    values_read (client_of client_nonce login.secret login.limits (login_header login) login.strict)
    (joined (values nonce ++ more)) _
    (nonce_passes salt salt_bytes nonce rest more begins plain too)
    (salt_passes salt salt_bytes nonce rest more begins plain too)
    (count_passes salt salt_bytes nonce rest more begins plain too login.limits (omega arith) (omega arith))
    (λ wrong. wrong.0, (λ wrong. wrong.0, (λ wrong. wrong.0, tt))) (λ un. un password_printable, tt)
    (names_salted salt salt_bytes nonce rest more begins plain too)

-- ---- the AuthMessage

three_joined : (p : List ℕ) (ps : List (List ℕ)) (q : List ℕ) (qs : List (List ℕ)) (r : List ℕ) (rs : List (List ℕ))
    → joined (joined (p ∷ ps) ∷ joined (q ∷ qs) ∷ joined (r ∷ rs) ∷ []) ≡ joined (p ∷ ps ++ (q ∷ qs ++ r ∷ rs))
three_joined p ps q qs r rs = ap (λ (rest : List ℕ). joined (p ∷ ps) ++ 44 ∷ rest) (joined-append q qs r rs)
    ∙ joined-append p ps q (qs ++ r ∷ rs)

-- all parts of the client's, where the server-first message has more after the count
pub client_joined : (nonce : List ℕ) (more : List (List ℕ))
    → client_message login (answering (joined (values nonce ++ more)) nonce)
    ≡ joined (names (codes "user") ++ ((values nonce ++ more) ++ binds nonce))
client_joined nonce more =
    let text = joined (values nonce ++ more) in
    ap (λ (name : List ℕ). auth_message (joined (names name)) text (without_proof nonce)) user_text
    ∙ ap (λ (binding : List ℕ). auth_message (joined (names (codes "user"))) text
    (joined ((codes "c=" ++ binding) ∷ (codes "r=" ++ nonce) ∷ []))) header_text
    ∙ three_joined (codes "n=user") ((codes "r=" ++ client_nonce) ∷ []) (codes "r=" ++ nonce)
    ((codes "s=" ++ base64_text salt) ∷ codes "i=4096" ∷ more) (codes "c=biws") ((codes "r=" ++ nonce) ∷ [])

-- and of the server's, where the client's messages have more after the nonce
pub server_joined : (more others : List (List ℕ)) → auth_message (joined (names (codes "user") ++ more))
    (first_message (challenging (joined (names (codes "user") ++ more)))) (joined (binds both ++ others))
    ≡ joined ((names (codes "user") ++ more) ++ (values both ++ (binds both ++ others)))
server_joined more others =
    ap (λ (count : List ℕ). auth_message (joined (names (codes "user") ++ more))
    (joined ((codes "r=" ++ both) ∷ (codes "s=" ++ base64_text salt) ∷ (codes "i=" ++ count) ∷ []))
    (joined (binds both ++ others))) count_text
    ∙ three_joined (codes "n=user") ((codes "r=" ++ client_nonce) ∷ more) (codes "r=" ++ both)
    ((codes "s=" ++ base64_text salt) ∷ codes "i=4096" ∷ []) (codes "c=biws") ((codes "r=" ++ both) ∷ others)

-- the server-first message as the server writes it
pub first_joined : (bare : List ℕ) → first_message (challenging bare) ≡ joined (values both)
first_joined bare = ap (λ (count : List ℕ). joined ((codes "r=" ++ both) ∷ (codes "s=" ++ base64_text salt)
    ∷ (codes "i=" ++ count) ∷ [])) count_text

-- ---- the client's proof

module _ (text nonce : List ℕ) where
  abbrev key : List ℕ
  key = (keys_at login (answering text nonce)).client_key

  abbrev mac : List ℕ
  mac = hmac_of Sha256 (digest Sha256 key) (client_message login (answering text nonce))

  same_length : length key ≡ length mac
  same_length = length-hmac_of Sha256 _ (codes "Client Key")
      ∙ sym (length-hmac_of Sha256 (digest Sha256 key) (client_message login (answering text nonce)))

  pub length-proof : length (proof_at login (answering text nonce)) ≡ 32
  length-proof = length-exclusive_or key mac same_length ∙ length-hmac_of Sha256 _ (codes "Client Key")

  pub IsBytes-proof : IsBytes (proof_at login (answering text nonce))
  IsBytes-proof = IsBytes-exclusive_or key mac (IsBytes-hmac_of Sha256 _ (codes "Client Key"))
      (IsBytes-hmac_of Sha256 (digest Sha256 key) (client_message login (answering text nonce)))

  -- it meets the stored key where the server has the client's AuthMessage
  pub proof_meets : (message : List ℕ) → client_message login (answering text nonce) ≡ message
      → digest Sha256 (exclusive_or (proof_at login (answering text nonce)) (hmac_of Sha256 stored.stored_key message))
      ≡ stored.stored_key
  proof_meets message same =
      ap (λ (one : List ℕ). digest Sha256 (exclusive_or (proof_at login (answering text nonce))
      (hmac_of Sha256 (digest Sha256 key) one))) (sym same)
      ∙ ap (digest Sha256) (exclusive_or-back key mac same_length)

  -- and then the signature is the one that the client waits for
  pub signature_read : (message : List ℕ) → client_message login (answering text nonce) ≡ message
      → (strict : Bool) → ReadsServerFinal strict (answer_at login (answering text nonce)).signature
      (codes "v=" ++ base64_text (hmac_of Sha256 stored.server_key message)) (Ok tt)
  signature_read message same strict =
      let signature = (answer_at login (answering text nonce)).signature in
      subst (λ (one : List ℕ). ReadsServerFinal strict signature (codes "v="
      ++ base64_text (hmac_of Sha256 stored.server_key one)) (Ok tt)) same
      (reads_signature strict signature (IsBytes-hmac_of Sha256 _ _))

-- ---- the client-final message, with more parts between the nonce and the proof

abbrev pub final_text : List (List ℕ) → List ℕ → List ℕ
final_text more proof = joined (joined (binds both ++ more) ∷ (codes "p=" ++ base64_text proof) ∷ [])

module _ (more : List (List ℕ)) (too : AllByRecursion Plain more) (proof : List ℕ) where
  abbrev last : List ℕ
  last = codes "p=" ++ base64_text proof

  plain_last : Plain last
  plain_last = plain-append (codes "p=") (base64_text proof) (plain-literal (codes "p=") refl refl)
      (plain-base64_text proof)

  abbrev parts : List (List ℕ)
  parts = binds both ++ (more ++ last ∷ [])

  plain_parts : AllByRecursion Plain parts
  plain_parts = each_append Plain (binds both) (more ++ last ∷ []) (plain_binds both plain_both)
      (each_append Plain more (last ∷ []) too (plain_last, tt))

  whole : final_text more proof ≡ joined parts
  whole = joined-append (codes "c=biws") ((codes "r=" ++ both) ∷ more) last []

  final_parts : Parts (final_text more proof) parts
  final_parts = let joins = parts_joined (codes "c=biws") ((codes "r=" ++ both) ∷ (more ++ last ∷ [])) plain_parts in
      record { some = joins.some; apart = joins.apart; whole = sym whole }

  pub utf8_final : IsUtf8 (final_text more proof)
  utf8_final = subst IsUtf8 (sym whole) (utf8_joined parts plain_parts)

  pub has_final : IsBytes proof → HasProof (final_text more proof)
      (record { without = joined (binds both ++ more); proof = proof })
  has_final bytes = (bytes, (plain_last.0, refl))

  pub reads_final : (server : Server) → plain_header ≡ server.header → server.strict ≡ false → server.nonce ≡ both
      → IsBytes proof
      → length proof ≡ digest_len server.version
      → IsAccepted server (record { without = joined (binds both ++ more); proof = proof })
      → ReadsClientFinal server (final_text more proof) (Ok
      (record { without = joined (binds both ++ more); proof = proof }))
  reads_final server header lax same bytes sized accepted =
      let text = final_text more proof in
      let binding : Part text 0 (codes "c=" ++ codes "biws") = (parts, final_parts, refl) in
      let nonce : Part text 1 (codes "r=" ++ both) = (parts, final_parts, refl) in
      final_read server text (record { without = joined (binds both ++ more); proof = proof }) utf8_final
      (record {
        binding = subst (λ (own : ClientHeader). HasBase64 text 0 (codes "c=") (cbind_input own)) header (
          IsBytes-literal (codes "n,,") refl,
          subst
              (λ (spelling : List ℕ). Part text 0 (codes "c=" ++ spelling)) (sym header_text) binding,
        );
        nonce = subst (λ (some : List ℕ). Part text 1 (codes "r=" ++ some)) (sym same) nonce;
        proof = has_final bytes;
        sized = sized;
        accepted = accepted;
      })
      (λ wrong. subst T lax wrong.0)
