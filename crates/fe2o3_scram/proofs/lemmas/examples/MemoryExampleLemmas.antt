-- Texts to which running out of memory is no answer.
use Rattle.std.proofs.Common.{◌≡◌, Option, Some, None, ◌≢◌, ◌⊎◌, ℕ, List, [], ◌∷◌, ◌++◌, length, get_or, refl, ◌∙◌, ap, subst, arith, codes, inl, inr}
use Rattle.std.proofs.lemmas.List.{append_cancel_left}
use Rattle.fe2o3_scram.specs.declared.scram_messages.server_rules.ServerRules.{ServerRules}
use Rattle.fe2o3_scram.specs.declared.hmac.ScramVersion.{ScramVersion}
use Rattle.fe2o3_scram.specs.declared.hmac.ScramVersion.TheVariants.{Sha1, Sha256, Sha512}
use Rattle.fe2o3_scram.specs.ClientFinal.{ReachesBinding, ReachesProof, client_final_of, without_proof}
use Rattle.fe2o3_scram.specs.ChannelBinding.{Gs2Header, own_header, plain_header}
use Rattle.fe2o3_scram.specs.declared.scram_messages.channel_binding_flag.ChannelBindingFlag.TheVariants.{NotSupported}
use Rattle.fe2o3_scram.specs.ClientFirst.{HasEscapes}
use Rattle.fe2o3_scram.specs.Escape.{escaped, NoEquals}
use Rattle.fe2o3_scram.specs.Hmac.{mechanism_name}
use Rattle.fe2o3_scram.specs.examples.MemoryExamples.{AnsweredClientsAllocateNothing, CommasAllocateNothing, ErrorsAllocateNothing, OtherNoncesAllocateNothing, MissingBindingsAllocateNothing, UnknownMechanismsAllocateNothing, UnknownUsersAllocateNothing}
use Rattle.fe2o3_scram.specs.RecordLines.{ReachesName}
use Rattle.fe2o3_scram.specs.RecordText.{Fields, HasFields, Plain}
use Rattle.fe2o3_scram.specs.Texts.{NoComma, Part, Parts, base64_text, HasBase64}
use Rattle.fe2o3_scram.proofs.lemmas.messages.HeaderLemmas.{one_header}
use Rattle.fe2o3_scram.proofs.lemmas.hashes.DigestLemmas.{IsBytes-literal}
use Rattle.fe2o3_scram.proofs.lemmas.messages.ExchangeLemmas.{only_part, part_of}
use Rattle.fe2o3_scram.proofs.lemmas.messages.RecordTextLemmas.{one_fields}
use Rattle.fe2o3_scram.proofs.lemmas.texts.Base64Lemmas.{no_comma-base64_text, no_comma-test}
use Rattle.fe2o3_scram.proofs.lemmas.texts.CutLemmas.{one_cut, one_last_cut}
use Rattle.fe2o3_scram.proofs.lemmas.texts.EachByteLemmas.{without-test}
use Rattle.fe2o3_scram.proofs.lemmas.texts.JoinedTextLemmas.{two_joined, with_last}
use Rattle.fe2o3_scram.proofs.lemmas.texts.PartsLemmas.{one_part}

-- ---- messages

pub errors_allocate_nothing : ErrorsAllocateNothing
errors_allocate_nothing signature keys has =
    let text = codes "e=invalid-proof" in
    let is : Part text 0 text = (_, only_part text (no_comma-test text refl), refl) in
    let same = one_part text 0 text (codes "v=" ++ has.1.0) is has.1.1 in
    let letter : ◌≡◌ {A = ℕ} 101 118 = ap (λ (bytes : List ℕ). get_or bytes 0 0) same in
    omega (arith, letter)

pub answered_clients_allocate_nothing : AnsweredClientsAllocateNothing
answered_clients_allocate_nothing signature text keys has = has

-- the parts of the client-first message
user_parts : Parts (codes "n=user,r=abc") (codes "n=user" ∷ codes "r=abc" ∷ [])
user_parts = two_joined (codes "n=user") (codes "r=abc") (codes "n=user" ∷ []) (codes "r=abc" ∷ [])
    (only_part (codes "n=user") (no_comma-test (codes "n=user") refl))
    (only_part (codes "r=abc") (no_comma-test (codes "r=abc") refl))

no_escapes : (rules : ServerRules) → ¬ HasEscapes rules (codes "n,,n=user,r=abc")
no_escapes rules (utf8, inl (flag, name, bare, takes, on, is, some)) =
    let same = (one_header (record { flag = flag; acts_for = Some name }) (own_header NotSupported)
    (codes "n,,n=user,r=abc") bare (codes "n=user,r=abc") is refl).0 in
    let wrong : ◌≡◌ {A = Option (List ℕ)} (Some name) None = ap (λ (header : Gs2Header). header.acts_for) same in
    absurd (cc)
no_escapes rules (utf8, inr (user, bare, some)) =
    let spelling = escaped user in
    let behind : bare.1 ≡ codes "n=user,r=abc" =
    (one_header bare.0 (own_header NotSupported) (codes "n,,n=user,r=abc") bare.1 (codes "n=user,r=abc") bare.3 refl).1 in
    let part = subst (λ (text : List ℕ). Part text 0 (codes "n=" ++ spelling)) behind bare.4 in
    let same = one_part (codes "n=user,r=abc") 0 (codes "n=user") (codes "n=" ++ spelling)
    (_, user_parts, refl) part in
    let name = append_cancel_left (codes "n=") (codes "user") spelling same in
    some (subst NoEquals name (without-test 61 (codes "user") refl))

pub unknown_users_allocate_nothing : UnknownUsersAllocateNothing
unknown_users_allocate_nothing version rules (inl escapes) = no_escapes rules escapes
unknown_users_allocate_nothing version rules (inr (client, stored, reads, known)) = absurd (cc)

-- the first part is no channel binding
cbind_flag_y : (rest : List ℕ) → ¬ Part (codes "r=abc,p=AA==") 0 (codes "c=" ++ rest)
cbind_flag_y rest has =
    let parts = two_joined (codes "r=abc") (codes "p=AA==") (codes "r=abc" ∷ []) (codes "p=AA==" ∷ [])
    (only_part (codes "r=abc") (no_comma-test (codes "r=abc") refl))
    (only_part (codes "p=AA==") (no_comma-test (codes "p=AA==") refl)) in
    let same = one_part (codes "r=abc,p=AA==") 0 (codes "r=abc") (codes "c=" ++ rest) (_, parts, refl) has in
    let letter : ◌≡◌ {A = ℕ} 114 99 = ap (λ (bytes : List ℕ). get_or bytes 0 0) same in
    omega (arith, letter)

pub missing_bindings_allocate_nothing : MissingBindingsAllocateNothing
missing_bindings_allocate_nothing rules stored user bare first has = go has.1
  where
    go : ReachesBinding plain_header (codes "r=abc,p=AA==")
        ⊎ ReachesProof plain_header (codes "abc") (codes "r=abc,p=AA==") → ⊥
    go (inl reaches) = cbind_flag_y reaches.0.0 reaches.0.1
    go (inr reaches) = reaches.0.1.0 cbind_flag_y

-- the client-final message with the nonce abd
abbrev other_text : List ℕ
other_text = client_final_of (without_proof (codes "abd")) []

other_parts : Parts other_text
    ((codes "c=" ++ base64_text (codes "n,,")) ∷ codes "r=abd" ∷ (codes "p=" ++ base64_text []) ∷ [])
other_parts =
    let binding = codes "c=" ++ base64_text (codes "n,,") in
    let proof = codes "p=" ++ base64_text [] in
    with_last other_text (without_proof (codes "abd")) proof (binding ∷ codes "r=abd" ∷ [])
    (part_of (codes "p=") (base64_text []) refl (no_comma-base64_text [])) refl
    (two_joined binding (codes "r=abd") (binding ∷ []) (codes "r=abd" ∷ [])
    (only_part binding (part_of (codes "c=") (base64_text (codes "n,,")) refl (no_comma-base64_text (codes "n,,"))))
    (only_part (codes "r=abd") (no_comma-test (codes "r=abd") refl)))

other_nonce : ¬ Part other_text 1 (codes "r=" ++ codes "abc")
other_nonce has =
    let same = one_part other_text 1 (codes "r=abd") (codes "r=" ++ codes "abc") (_, other_parts, refl) has in
    let letter : ◌≡◌ {A = ℕ} 100 99 = ap (λ (bytes : List ℕ). get_or bytes 4 0) same in
    omega (arith, letter)

pub other_nonces_allocate_nothing : OtherNoncesAllocateNothing
other_nonces_allocate_nothing rules stored user bare first has = go has.1
  where
    bound : HasBase64 other_text 0 (codes "c=") (codes "n,,")
    bound = (IsBytes-literal (codes "n,,") refl, (_, other_parts, refl))

    go : ReachesBinding plain_header other_text ⊎ ReachesProof plain_header (codes "abc") other_text → ⊥
    go (inl reaches) = reaches.1 refl bound
    go (inr reaches) = reaches.0.1.1.1.1.1.0 other_nonce

-- ---- records and lines

other_name : (version : ScramVersion) → mechanism_name version ≢ codes "SCRAM-MD5"
other_name Sha1 same = let long : ◌≡◌ {A = ℕ} 11 9 = ap length same in omega (arith, long)
other_name Sha256 same = let long : ◌≡◌ {A = ℕ} 13 9 = ap length same in omega (arith, long)
other_name Sha512 same = let long : ◌≡◌ {A = ℕ} 13 9 = ap length same in omega (arith, long)

abbrev md5_fields : Fields
md5_fields = record {
  mechanism = codes "SCRAM-MD5";
  count = codes "1";
  salt = codes "AA==";
  stored_key = codes "AA==";
  server_key = codes "AA==";
}

has_md5_fields : HasFields (codes "SCRAM-MD5$1:AA==$AA==:AA==") md5_fields
has_md5_fields =
    let key : Plain (codes "AA==") = (without-test 36 (codes "AA==") refl, without-test 58 (codes "AA==") refl) in (
      (
        (without-test 36 (codes "SCRAM-MD5") refl, without-test 58 (codes "SCRAM-MD5") refl),
        ((without-test 36 (codes "1") refl, without-test 58 (codes "1") refl), (key, (key, (key, tt)))),
      ),
      refl,
    )

pub unknown_mechanisms_allocate_nothing : UnknownMechanismsAllocateNothing
unknown_mechanisms_allocate_nothing has =
    let same = one_fields (codes "SCRAM-MD5$1:AA==$AA==:AA==") has.0 md5_fields has.1 has_md5_fields in
    has.2.0 (λ version named. other_name version (named ∙ ap (λ (fields : Fields). fields.mechanism) same))

pub commas_allocate_nothing : CommasAllocateNothing
commas_allocate_nothing has =
    let kept = codes "SCRAM-SHA-1$1:AA==$AA==:AA==" in
    let line = codes "a,b SCRAM-SHA-1$1:AA==$AA==:AA==" in
    let first = one_cut 10 (line ++ (10 ∷ [])) has.0 has.1 line [] has.2 (without-test 10 line refl, refl) in
    let reaches : ReachesName line = subst ReachesName first.0 has.3 in
    let names = one_last_cut 32 line reaches.0 reaches.1 (codes "a,b") kept reaches.2
    (without-test 32 kept refl, refl) in
    let plain = subst NoComma names.0 reaches.3 in
    plain.1.0 refl
