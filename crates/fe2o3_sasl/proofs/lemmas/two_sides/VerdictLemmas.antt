-- Each finding has one verdict.
use Rattle.std.proofs.Common.{◌≡◌, ◌≢◌, ◌⊎◌, ℕ, Option, Some, None, List, [], ◌∷◌, length, refl, sym, ap, ◌∙◌, arith, inl, inr}
use Rattle.fe2o3_sasl_core.specs.ClientHistory.{Answering}
use Rattle.fe2o3_scram.specs.ClientKeys.{AreSized}
use Rattle.fe2o3_scram.specs.Hmac.{digest, digest_len, hmac_of, exclusive_or}
use Rattle.fe2o3_sasl_core.specs.Laws.{TakenVerifiersAreJudged, ShownProofsAreJudged, OneVerdictEach}
use Rattle.fe2o3_sasl_core.specs.ServerHistory.{Accepted, full_nonce}
use Rattle.fe2o3_scram.specs.Texts.{Parts}
use Rattle.fe2o3_sasl_core.specs.TwoSides.{Sides, Agree, IsPlainInit, client_message, server_message, keys_at, proof_at}
use Rattle.fe2o3_sasl_core.specs.Verdicts.{Parameters, Verdict, Agreed, SameMac, SameHash, OtherKey, AreParameters, AreAgreed, JudgesVerifier, JudgesProof, IsStoredKey, recovered_at}
use Rattle.fe2o3_scram.proofs.lemmas.hashes.DigestLemmas.{length-hmac_of}
use Rattle.fe2o3_scram.proofs.lemmas.hashes.OnePadLemmas.{one_pad}
use Rattle.fe2o3_sasl_core.proofs.lemmas.two_sides.MeetingSidesLemmas.{Met, met_shown, agree, sized_at}
use Rattle.fe2o3_sasl_core.specs.Headline.{VerifierAgrees}
use Rattle.fe2o3_sasl_core.proofs.lemmas.two_sides.HeadlineLemmas.{verifier_agrees}
use Rattle.fe2o3_scram.proofs.lemmas.texts.PartsLemmas.{pieces, Parts-pieces, one_list_of_parts}
use Rattle.fe2o3_sasl_core.proofs.lemmas.two_sides.EqualMessageLemmas.{is_accepted}

-- ---- a verdict

-- two texts are equal or not
pub same_or_not : (left right : List ℕ) → (left ≡ right) ⊎ (left ≢ right)
same_or_not [] [] = inl refl
same_or_not [] (y ∷ right) = inr (λ same. cc)
same_or_not (x ∷ left) [] = inr (λ same. cc)
same_or_not (x ∷ left) (y ∷ right) = go (bytes x y) (same_or_not left right)
  where
    bytes : (x y : ℕ) → (x ≡ y) ⊎ (x ≢ y)
    bytes x y = grind arith

    go : (x ≡ y) ⊎ (x ≢ y) → (left ≡ right) ⊎ (left ≢ right) → (x ∷ left ≡ y ∷ right) ⊎ (x ∷ left ≢ y ∷ right)
    go (inl first) (inl rest) = inl (cc)
    go (inl first) (inr rest) = inr (λ same. rest (cc))
    go (inr first) rest = inr (λ same. first (cc))

-- an init is plain or not
plain_or_not : (accepted : Accepted) → IsPlainInit accepted ⊎ ¬ IsPlainInit accepted
plain_or_not accepted = go (pieces bare) (Parts-pieces bare) (two (length (pieces bare)))
  where
    bare : List ℕ
    bare = accepted.challenge.client.bare

    two : (n : ℕ) → (n ≡ 2) ⊎ (n ≢ 2)
    two n = grind arith

    go : (parts : List (List ℕ)) → Parts accepted.challenge.client.bare parts → (length parts ≡ 2) ⊎ (length parts ≢ 2)
        → IsPlainInit accepted ⊎ ¬ IsPlainInit accepted
    go parts are (inl is) = inl (parts, are, is)
    go parts are (inr is) =
        inr (λ plain. is (ap length (one_list_of_parts accepted.challenge.client.bare parts plain.0 are plain.1)
        ∙ plain.2))

-- the values on which both sides agree
agreed : (sides : Sides) (answer : Answering) (accepted : Accepted)
    → client_message sides.login answer ≡ server_message accepted → Agree sides.login sides.provider answer accepted
    → (parameters : Option Parameters) × AreAgreed sides answer accepted accepted.challenge.client.user
    accepted.challenge.client.nonce parameters
agreed sides answer accepted same agrees = go (plain_or_not accepted)
  where
    go : IsPlainInit accepted ⊎ ¬ IsPlainInit accepted → (parameters : Option Parameters)
        × AreAgreed sides answer accepted accepted.challenge.client.user accepted.challenge.client.nonce parameters
    go (inl plain) = (
      Some (record {
        full_nonce = full_nonce accepted.challenge;
        salt = accepted.challenge.stored.salt;
        iterations = accepted.challenge.stored.count;
      }),
      (same, agrees, refl, refl, (plain, refl, refl, refl)),
    )
    go (inr other) = (None, (same, agrees, refl, refl, other))

-- a verifier on which the sides agree or collide has a verdict
pub verifier_judged : (sides : Sides) (m : ℕ) (accepted : Accepted) (agrees : VerifierAgrees sides m accepted)
    → (verdict : Verdict) × JudgesVerifier sides agrees.answer accepted verdict
verifier_judged sides m accepted agrees =
    go (same_or_not (client_message sides.login agrees.answer) (server_message accepted))
  where
    go : (client_message sides.login agrees.answer ≡ server_message accepted)
        ⊎ (client_message sides.login agrees.answer ≢ server_message accepted)
        → (verdict : Verdict) × JudgesVerifier sides agrees.answer accepted verdict
    go (inl same) = let values = agreed sides agrees.answer accepted same (agrees.agrees same) in
        (Agreed accepted.challenge.client.user accepted.challenge.client.nonce values.0, values.1)
    go (inr differ) = (
      SameMac (keys_at sides.login agrees.answer).server_key (client_message sides.login agrees.answer)
          accepted.challenge.stored.server_key (server_message accepted),
      (refl, refl, refl, refl, agrees.collides differ),
    )

pub taken_verifiers_are_judged : TakenVerifiersAreJudged
taken_verifiers_are_judged sides m n accepted histories kept takes =
    let agrees = verifier_agrees sides m n accepted histories kept takes in
    let verdict = verifier_judged sides m accepted agrees in
    (agrees, verdict.0, verdict.1)

-- what a proof says that was shown and accepted
pub record Shown (sides : Sides) (answer : Answering) (accepted : Accepted) : Type 0 where
  pub met : Met sides answer accepted
  pub sized : AreSized (keys_at sides.login answer)
  pub one : proof_at sides.login answer ≡ accepted.final.proof
  pub meets : digest sides.provider.version (recovered_at sides.provider accepted) ≡ accepted.challenge.stored.stored_key

-- with the stored key, and where the client's key comes back out of the proof, the two HMAC values are one
one_mac : (sides : Sides) (answer : Answering) (accepted : Accepted) → Shown sides answer accepted
    → IsStoredKey sides answer accepted → (keys_at sides.login answer).client_key ≡ recovered_at sides.provider accepted
    → hmac_of (keys_at sides.login answer).version accepted.challenge.stored.stored_key
    (client_message sides.login answer)
    ≡ hmac_of (keys_at sides.login answer).version accepted.challenge.stored.stored_key (server_message accepted)
one_mac sides answer accepted shown stored recovers =
    let version = (keys_at sides.login answer).version in
    let kept = accepted.challenge.stored.stored_key in
    let key = (keys_at sides.login answer).client_key in
    let pad = hmac_of version kept (client_message sides.login answer) in
    let other = hmac_of version kept (server_message accepted) in
    let is : exclusive_or key pad ≡ accepted.final.proof =
    ap (λ z. exclusive_or key (hmac_of version z (client_message sides.login answer))) (sym stored) ∙ shown.one in
    let back : exclusive_or (exclusive_or key pad) other ≡ key =
    ap (λ z. exclusive_or z other) is
    ∙ (ap (λ z. exclusive_or accepted.final.proof (hmac_of z kept (server_message accepted))) shown.met.version
    ∙ sym recovers) in
    let long : length key ≡ digest_len version = shown.sized.0 in
    one_pad key pad other (long ∙ sym (length-hmac_of version kept (client_message sides.login answer)))
    (long ∙ sym (length-hmac_of version kept (server_message accepted))) back

-- such a proof has a verdict
pub proof_judged : (sides : Sides) (answer : Answering) (accepted : Accepted) → Shown sides answer accepted
    → (verdict : Verdict) × JudgesProof sides answer accepted verdict
proof_judged sides answer accepted shown =
    go (same_or_not (digest (keys_at sides.login answer).version (keys_at sides.login answer).client_key)
    accepted.challenge.stored.stored_key) (same_or_not (client_message sides.login answer)
    (server_message accepted)) (same_or_not (keys_at sides.login answer).client_key
    (recovered_at sides.provider accepted))
  where
    go : IsStoredKey sides answer accepted ⊎ ¬ IsStoredKey sides answer accepted
        → (client_message sides.login answer ≡ server_message accepted)
        ⊎ (client_message sides.login answer ≢ server_message accepted)
        → ((keys_at sides.login answer).client_key ≡ recovered_at sides.provider accepted)
        ⊎ ((keys_at sides.login answer).client_key ≢ recovered_at sides.provider accepted)
        → (verdict : Verdict) × JudgesProof sides answer accepted verdict
    go (inr other) texts keys = (OtherKey, other)
    go (inl stored) (inl same) keys =
        let values = agreed sides answer accepted same (agree sides answer accepted shown.met same) in
        (Agreed accepted.challenge.client.user accepted.challenge.client.nonce values.0, (stored, values.1))
    go (inl stored) (inr differ) (inr keys) =
        let one = stored ∙ (sym shown.meets ∙ ap (λ version. digest version (recovered_at sides.provider accepted))
        (sym shown.met.version)) in (
          SameHash (keys_at sides.login answer).client_key (recovered_at sides.provider accepted),
          (stored, differ, refl, refl, shown.met.version, record { differ = keys; one = one }),
        )
    go (inl stored) (inr differ) (inl recovers) =
        let kept = accepted.challenge.stored.stored_key in (
          SameMac kept (client_message sides.login answer) kept (server_message accepted),
          (
            stored,
            recovers,
            refl,
            refl,
            refl,
            refl,
            record {
              version = shown.met.version;
              differ = differ;
              one = one_mac sides answer accepted shown stored recovers;
            },
          ),
        )

pub shown_proofs_are_judged : ShownProofsAreJudged
shown_proofs_are_judged sides k n answer accepted histories held kept shows =
    let names = (is_accepted sides.provider sides.server_events sides.server_replies n accepted shows.ok.accepts).names
    in
    proof_judged sides answer accepted
    (record {
      met = met_shown sides k n answer accepted held kept shows;
      sized = sized_at sides.login answer held;
      one = shows.one;
      meets = names.accepted.0;
    })

-- ---- and no other

abbrev values_of : List ℕ → List ℕ → ℕ → Parameters
values_of full salt iterations = record { full_nonce = full; salt = salt; iterations = iterations }

pub one_value : (accepted : Accepted) (parameters other : Option Parameters) → AreParameters accepted parameters
    → AreParameters accepted other → parameters ≡ other
one_value accepted None None are too = refl
one_value accepted None (Some other) are too = absurd (are too.0)
one_value accepted (Some parameters) None are too = absurd (too are.0)
one_value accepted (Some parameters) (Some other) are too =
    λ i. Some (values_of ((are.1 ∙ sym too.1) i) ((are.2 ∙ sym too.2) i) ((are.3 ∙ sym too.3) i))

abbrev one_agreement : List ℕ → List ℕ → Option Parameters → Verdict
one_agreement user nonce parameters = Agreed user nonce parameters

abbrev two_texts : List ℕ → List ℕ → List ℕ → List ℕ → Verdict
two_texts client_key client_text server_key server_text = SameMac client_key client_text server_key server_text

abbrev two_keys : List ℕ → List ℕ → Verdict
two_keys client_key recovered = SameHash client_key recovered

module _ (sides : Sides) (answer : Answering) (accepted : Accepted) where
  same_agreement : (user nonce : List ℕ) (parameters : Option Parameters) (user' nonce' : List ℕ)
      (parameters' : Option Parameters) → AreAgreed sides answer accepted user nonce parameters
      → AreAgreed sides answer accepted user' nonce' parameters'
      → one_agreement user nonce parameters ≡ one_agreement user' nonce' parameters'
  same_agreement user nonce parameters user' nonce' parameters' are too =
      λ i. one_agreement ((are.2 ∙ sym too.2) i) ((are.3 ∙ sym too.3) i)
      (one_value accepted parameters parameters' are.4 too.4 i)

  one_verifier_verdict : (verdict other : Verdict) → JudgesVerifier sides answer accepted verdict
      → JudgesVerifier sides answer accepted other → verdict ≡ other
  one_verifier_verdict (Agreed a b c) (Agreed d e f) is too = same_agreement a b c d e f is too
  one_verifier_verdict (Agreed a b c) (SameMac d e f g) is too = absurd (too.4.differ is.0)
  one_verifier_verdict (Agreed a b c) (SameHash d e) is too = absurd too
  one_verifier_verdict (Agreed a b c) OtherKey is too = absurd too
  one_verifier_verdict (SameMac a b c d) (Agreed e f g) is too = absurd (is.4.differ too.0)
  one_verifier_verdict (SameMac a b c d) (SameMac e f g h) is too =
      λ i. two_texts ((is.0 ∙ sym too.0) i) ((is.1 ∙ sym too.1) i) ((is.2 ∙ sym too.2) i) ((is.3 ∙ sym too.3) i)
  one_verifier_verdict (SameMac a b c d) (SameHash e f) is too = absurd too
  one_verifier_verdict (SameMac a b c d) OtherKey is too = absurd too
  one_verifier_verdict (SameHash a b) other is too = absurd is
  one_verifier_verdict OtherKey other is too = absurd is

  one_proof_verdict : (verdict other : Verdict) → JudgesProof sides answer accepted verdict
      → JudgesProof sides answer accepted other → verdict ≡ other
  one_proof_verdict (Agreed a b c) (Agreed d e f) is too = same_agreement a b c d e f is.1 too.1
  one_proof_verdict (Agreed a b c) (SameMac d e f g) is too = absurd (too.6.differ is.1.0)
  one_proof_verdict (Agreed a b c) (SameHash d e) is too = absurd (too.1 is.1.0)
  one_proof_verdict (Agreed a b c) OtherKey is too = absurd (too is.0)
  one_proof_verdict (SameMac a b c d) (Agreed e f g) is too = absurd (is.6.differ too.1.0)
  one_proof_verdict (SameMac a b c d) (SameMac e f g h) is too =
      λ i. two_texts ((is.2 ∙ sym too.2) i) ((is.3 ∙ sym too.3) i) ((is.4 ∙ sym too.4) i) ((is.5 ∙ sym too.5) i)
  one_proof_verdict (SameMac a b c d) (SameHash e f) is too = absurd (too.5.differ (too.2 ∙ (is.1 ∙ sym too.3)))
  one_proof_verdict (SameMac a b c d) OtherKey is too = absurd (too is.0)
  one_proof_verdict (SameHash a b) (Agreed d e f) is too = absurd (is.1 too.1.0)
  one_proof_verdict (SameHash a b) (SameMac d e f g) is too = absurd (is.5.differ (is.2 ∙ (too.1 ∙ sym is.3)))
  one_proof_verdict (SameHash a b) (SameHash d e) is too = λ i. two_keys ((is.2 ∙ sym too.2) i) ((is.3 ∙ sym too.3) i)
  one_proof_verdict (SameHash a b) OtherKey is too = absurd (too is.0)
  one_proof_verdict OtherKey (Agreed d e f) is too = absurd (is too.0)
  one_proof_verdict OtherKey (SameMac d e f g) is too = absurd (is too.0)
  one_proof_verdict OtherKey (SameHash d e) is too = absurd (is too.0)
  one_proof_verdict OtherKey OtherKey is too = refl

pub one_verdict_each : OneVerdictEach
one_verdict_each sides answer accepted verdict other =
    (one_verifier_verdict sides answer accepted verdict other, one_proof_verdict sides answer accepted verdict other)
