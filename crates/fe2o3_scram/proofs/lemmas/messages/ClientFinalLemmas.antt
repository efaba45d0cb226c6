-- The reading of a client-final message.
use Rattle.std.proofs.Common.{◌≡◌, ◌≢◌, ◌||◌, Bool, false, Option, Some, None, is_some, ℕ, List, [], ◌∷◌, ◌++◌, length, Result, Ok, Err, refl, sym, ◌∙◌, ap, subst, codes, inl, inr, arith}
use Rattle.std.specs.Str.{IsUtf8}
use Rattle.std.specs.Prelude.{IfOk, IfErr}
use Rattle.base64.specs.GeneralPurpose.{IsBytes}
use Rattle.fe2o3_scram.specs.declared.scram_messages.error.ServerScramErrorKind.{ServerScramErrorKind}
use Rattle.fe2o3_scram.specs.declared.scram_messages.error.ServerScramErrorKind.TheVariants.{Utf8Error, AuthenticationFailed, OutOfMemory}
use Rattle.fe2o3_scram.specs.declared.scram_messages.client_channel.ClientChannel.{ClientChannel}
use Rattle.fe2o3_scram.specs.declared.scram_messages.client_channel.ClientChannel.TheVariants.{Absent, NotOffered, Bound}
use Rattle.fe2o3_scram.specs.ChannelBinding.{ClientHeader, cbind_input, is_bound, has_more_than_flag}
use Rattle.fe2o3_scram.specs.Texts.{base64_text, IsBase64, Part, LastPart, StartsWith, HasBase64}
use Rattle.fe2o3_scram.specs.Hmac.{digest_len}
use Rattle.fe2o3_scram.specs.Readings.{IsFirst, NoneHolds, Gives}
use Rattle.fe2o3_scram.specs.ClientFinal.{Server, ClientFinal, HasProof, NamesClientFinal, ReachesBase64, ReachesBinding, ReadsFinalText, ReadsClientFinal, final_text_tests, proof_tests, IsAccepted}
use Rattle.fe2o3_scram.specs.ServerFinal.{AnswersClientFinal, FinalCosts}
use Rattle.fe2o3_scram.specs.private.Answers.{AnswersProof, IsMet, ProofCosts}
use Rattle.fe2o3_scram.proofs.lemmas.hashes.DigestLemmas.{IsBytes-nil, IsBytes-cons}
use Rattle.fe2o3_scram.proofs.lemmas.texts.Base64Lemmas.{one_spelled}
use Rattle.fe2o3_scram.proofs.lemmas.texts.DecisionLemmas.{held, utf8_or}
use Rattle.fe2o3_scram.proofs.lemmas.texts.CutLemmas.{one_last_cut}
use Rattle.fe2o3_scram.proofs.lemmas.texts.PartsLemmas.{one_behind}
use Rattle.fe2o3_scram.proofs.lemmas.messages.TestListLemmas.{NoneHolds-append, IsFirst-front, IsFirst-back, one_reading, one_first, first_or_none, not_first}
use Rattle.fe2o3_scram.specs.private.Tests.{binding_tests, final_nonce_tests, spelling_tests}

-- the channel binding

binding_spelled : (text spelling binding : List ℕ) → Part text 0 (codes "c=" ++ spelling)
    → HasBase64 text 0 (codes "c=") binding → IsBase64 spelling binding
binding_spelled text spelling binding is has =
    (has.0, one_behind text 0 (codes "c=") spelling (base64_text binding) is has.1)

pub has_binding : (text spelling binding : List ℕ) → Part text 0 (codes "c=" ++ spelling) → IsBase64 spelling binding
    → HasBase64 text 0 (codes "c=") binding
has_binding text spelling binding is spells =
    (spells.0, subst (λ (spelt : List ℕ). Part text 0 (codes "c=" ++ spelt)) spells.1 is)

pub no_binding : (text spelling : List ℕ) → Part text 0 (codes "c=" ++ spelling)
    → ((binding : List ℕ) → ¬ IsBase64 spelling binding) → (binding : List ℕ) → ¬ HasBase64 text 0 (codes "c=") binding
no_binding text spelling is none binding has = none binding (binding_spelled text spelling binding is has)

-- a header with neither a channel nor an identity holds bytes
plain_bytes : (channel : ClientChannel) (acts_for : Option (List ℕ)) → (is_bound channel || is_some acts_for) ≡ false
    → IsBytes (cbind_input (record { channel = channel; acts_for = acts_for }))
plain_bytes Absent None is = IsBytes-cons 110 (44 ∷ 44 ∷ []) (omega arith)
    (IsBytes-cons 44 (44 ∷ []) (omega arith) (IsBytes-cons 44 [] (omega arith) IsBytes-nil))
plain_bytes NotOffered None is = IsBytes-cons 121 (44 ∷ 44 ∷ []) (omega arith)
    (IsBytes-cons 44 (44 ∷ []) (omega arith) (IsBytes-cons 44 [] (omega arith) IsBytes-nil))
plain_bytes Absent (Some name) is = absurd (cc)
plain_bytes NotOffered (Some name) is = absurd (cc)
plain_bytes (Bound binding) acts_for is = absurd (cc)

-- a text that spells the expected binding, which holds bytes
pub this_binding : (header : ClientHeader) (text spelling : List ℕ) → has_more_than_flag header ≡ false
    → Part text 0 (codes "c=" ++ spelling) → spelling ≡ base64_text (cbind_input header)
    → HasBase64 text 0 (codes "c=") (cbind_input header)
this_binding header text spelling plain is same =
    has_binding text spelling (cbind_input header) is (plain_bytes header.channel header.acts_for plain, same)

pub other_spelling : (header : ClientHeader) (text spelling : List ℕ) → Part text 0 (codes "c=" ++ spelling)
    → spelling ≢ base64_text (cbind_input header) → ¬ HasBase64 text 0 (codes "c=") (cbind_input header)
other_spelling header text spelling is other has =
    other (binding_spelled text spelling (cbind_input header) is has).1

-- other bytes are not the expected binding
pub other_bytes : (header : ClientHeader) (text spelling bytes : List ℕ) → Part text 0 (codes "c=" ++ spelling)
    → IsBase64 spelling bytes → bytes ≢ cbind_input header → ¬ HasBase64 text 0 (codes "c=") (cbind_input header)
other_bytes header text spelling bytes is spells other has = other
    (one_spelled spelling bytes (cbind_input header) spells (binding_spelled text spelling (cbind_input header) is has))

-- a text whose binding is decoded reaches an allocation
pub reaches_binding : (header : ClientHeader) (text spelling : List ℕ) → Part text 0 (codes "c=" ++ spelling)
    → (has_more_than_flag header ≡ false → spelling ≢ base64_text (cbind_input header)) → ReachesBinding header text
reaches_binding header text spelling is other =
    ((spelling, is), λ plain. other_spelling header text spelling is (other plain))

-- the nonce

pub other_nonce : (text named nonce : List ℕ) → Part text 1 (codes "r=" ++ named) → named ≢ nonce
    → ¬ Part text 1 (codes "r=" ++ nonce)
other_nonce text named nonce is other has = other (one_behind text 1 (codes "r=") named nonce is has)

-- no test of the nonce has the error for a failed allocation
pub not_the_nonces : (nonce text : List ℕ) → ¬ IsFirst (final_nonce_tests nonce text) OutOfMemory
not_the_nonces nonce text = not_first (final_nonce_tests nonce text) OutOfMemory
    (λ wrong. absurd (cc), (λ wrong. absurd (cc), tt))

-- the proof

pub no_proof : (text without last : List ℕ) → LastPart text without last → ¬ StartsWith last (codes "p=")
    → (before rest : List ℕ) → ¬ LastPart text before (codes "p=" ++ rest)
no_proof text without last is other before rest has = other
    (rest, (one_last_cut 44 text without last before (codes "p=" ++ rest) is has).1)

pub has_proof : (text without last spelling proof : List ℕ) → LastPart text without last → last ≡ codes "p=" ++ spelling
    → IsBase64 spelling proof → HasProof text (record { without = without; proof = proof })
has_proof text without last spelling proof is begins spells =
    (spells.0, subst (LastPart text without) (begins ∙ ap (λ spelt. codes "p=" ++ spelt) spells.1) is)

pub proof_part : (text without last spelling : List ℕ) → LastPart text without last → last ≡ codes "p=" ++ spelling
    → ¬ ((before rest : List ℕ) → ¬ LastPart text before (codes "p=" ++ rest))
proof_part text without last spelling is begins none = none without spelling (subst (LastPart text without) begins is)

pub unread_proof : (text without last spelling : List ℕ) → LastPart text without last → last ≡ codes "p=" ++ spelling
    → ((proof : List ℕ) → ¬ IsBase64 spelling proof) → (final : ClientFinal) → ¬ HasProof text final
unread_proof text without last spelling is begins none final has =
    let same = one_last_cut 44 text without last final.without (codes "p=" ++ base64_text final.proof) is has.1 in
    let both : codes "p=" ++ spelling ≡ codes "p=" ++ base64_text final.proof = sym begins ∙ same.1 in
    none final.proof (has.0, cc)

abbrev made : List ℕ → List ℕ → ClientFinal
made without proof = record { without = without; proof = proof }

-- a message has one proof
pub one_proof : (text : List ℕ) (final other : ClientFinal) → HasProof text final → HasProof text other → final ≡ other
one_proof text final other has too =
    let same = one_last_cut 44 text final.without (codes "p=" ++ base64_text final.proof) other.without
    (codes "p=" ++ base64_text other.proof) has.1 too.1 in
    let lasts : codes "p=" ++ base64_text final.proof ≡ codes "p=" ++ base64_text other.proof = same.1 in
    let spelling : base64_text final.proof ≡ base64_text other.proof = cc in
    let proof = one_spelled (base64_text final.proof) final.proof other.proof (has.0, refl) (too.0, spelling) in
    let without = same.0 in
    λ i. made (without i) (proof i)

-- the tests of the text, in their order

pub not_utf8 : (header : ClientHeader) (strict : Bool) (nonce text : List ℕ) → ¬ IsUtf8 text
    → ReadsFinalText header strict nonce text
    (Err Utf8Error)
unfolding ReadsFinalText
not_utf8 header strict nonce text fails = inl (fails, refl)

module _ (header : ClientHeader) (strict : Bool) (nonce text : List ℕ) (utf8 : IsUtf8 text) where
  pub binding_refused : (fault : ServerScramErrorKind) → IsFirst (binding_tests header text) fault
      → ReadsFinalText header strict nonce text (Err fault)
  unfolding ReadsFinalText
  binding_refused fault first = inr (
    λ fails. fails utf8,
    IsFirst-front (binding_tests header text) (final_nonce_tests nonce text ++ spelling_tests strict text) fault first,
  )

  pub nonce_refused : (fault : ServerScramErrorKind) → NoneHolds (binding_tests header text)
      → IsFirst (final_nonce_tests nonce text) fault → ReadsFinalText header strict nonce text (Err fault)
  unfolding ReadsFinalText
  nonce_refused fault binding first = inr (
    λ fails. fails utf8,
    IsFirst-back (binding_tests header text) (final_nonce_tests nonce text ++ spelling_tests strict text) fault binding
        (IsFirst-front (final_nonce_tests nonce text) (spelling_tests strict text) fault first),
  )

  pub spelling_refused : (fault : ServerScramErrorKind) → NoneHolds (binding_tests header text)
      → NoneHolds (final_nonce_tests nonce text) → IsFirst (spelling_tests strict text) fault
      → ReadsFinalText header strict nonce text
      (Err fault)
  unfolding ReadsFinalText
  spelling_refused fault binding tested first = inr (
    λ fails. fails utf8,
    IsFirst-back (binding_tests header text) (final_nonce_tests nonce text ++ spelling_tests strict text) fault binding
        (IsFirst-back (final_nonce_tests nonce text) (spelling_tests strict text) fault tested first),
  )

  pub text_read : (final : ClientFinal) → NoneHolds (binding_tests header text) → NoneHolds (final_nonce_tests nonce text)
      → NoneHolds (spelling_tests strict text) → NamesClientFinal header nonce text final
      → ReadsFinalText header strict nonce text
      (Ok final)
  unfolding ReadsFinalText
  text_read final binding tested spelling names = (
    (
      λ fails. fails utf8,
      NoneHolds-append (binding_tests header text) (final_nonce_tests nonce text ++ spelling_tests strict text) binding
          (NoneHolds-append (final_nonce_tests nonce text) (spelling_tests strict text) tested spelling),
    ),
    names,
  )

  -- what is read of the proof is what is read of the text, where the tests before it have passed
  pub text_answered : {A : Type 0} (view : A → ClientFinal) (result : Result A ServerScramErrorKind)
      → NoneHolds (binding_tests header text) → NoneHolds (final_nonce_tests nonce text) → HasBase64 text 0 (codes "c=")
      (cbind_input header)
      → Part text 1 (codes "r=" ++ nonce) → IfOk result (λ _. NoneHolds (spelling_tests strict text))
      → IfOk result (λ final. HasProof text (view final))
      → IfErr result (λ kind. kind ≡ OutOfMemory
      → (before : List ℕ) × (rest : List ℕ) × LastPart text before (codes "p=" ++ rest))
      → IfErr result (λ kind. kind ≢ OutOfMemory → IsFirst (spelling_tests strict text) kind)
      → Gives OutOfMemory (ReachesBase64 header nonce text) view result (ReadsFinalText header strict nonce text)
  text_answered view (Ok final) binding tested bound same spelling has reaches refused =
      text_read (view final) binding tested spelling (record { binding = bound; nonce = same; proof = has })
  text_answered view (Err fault) binding tested bound same spelling has reaches refused = (
    λ memory. (
      utf8,
      inr (
        (
          λ fails. fails utf8,
          NoneHolds-append (binding_tests header text) (final_nonce_tests nonce text)
              binding tested,
        ),
        reaches memory,
      ),
    ),
    λ other. spelling_refused fault binding tested (refused other),
  )

-- the texts of a message that was read

pub names_final_text : (header : ClientHeader) (strict : Bool) (nonce text : List ℕ) (final : ClientFinal)
    → ReadsFinalText header strict nonce text (Ok final)
    → NamesClientFinal header nonce text final
unfolding ReadsFinalText
names_final_text header strict nonce text final reads = reads.1

pub one_final_text : (header : ClientHeader) (strict : Bool) (nonce text : List ℕ)
    (answer other : Result ClientFinal ServerScramErrorKind)
    → ReadsFinalText header strict nonce text answer → ReadsFinalText header strict nonce text other → answer ≡ other
unfolding ReadsFinalText
one_final_text header strict nonce text answer other reads too =
    one_reading (final_text_tests header strict nonce text) (NamesClientFinal header nonce text)
    (λ final another names them. one_proof text final another names.proof them.proof) answer other reads too

-- a reader of a message has reached its proof
proof_reached : (header : ClientHeader) (strict : Bool) (nonce text : List ℕ) (final : ClientFinal)
    → ReadsFinalText header strict nonce text
    (Ok final)
    → ReachesBase64 header nonce text
unfolding ReadsFinalText
proof_reached header strict nonce text final reads =
    let binding = reads.0.1 in
    let tested = binding.1.1.1 in (
      held (utf8_or text) reads.0.0,
      inr (
        (reads.0.0, (binding.0, (binding.1.0, (binding.1.1.0, (tested.0, (tested.1.0, tt)))))),
        (final.without, base64_text final.proof, reads.1.proof.1),
      ),
    )

-- no test of the text has the fault of a proof
not_the_proof : (header : ClientHeader) (strict : Bool) (nonce text : List ℕ) → ¬ ReadsFinalText header strict nonce text
    (Err AuthenticationFailed)
unfolding ReadsFinalText
not_the_proof header strict nonce text = not_first (final_text_tests header strict nonce text) AuthenticationFailed (
  λ wrong. absurd (cc),
  (
    λ wrong. absurd (cc),
    (
      λ wrong. absurd (cc),
      (
        λ wrong. absurd (cc),
        (
          λ wrong. absurd (cc),
          (λ wrong. absurd (cc), (λ wrong. absurd (cc), (λ wrong. absurd (cc), (λ wrong. absurd (cc), tt)))),
        ),
      ),
    ),
  ),
)

-- a text that is rejected costs nothing
pub text_costs_nothing : (A : Type 0) (server : Server) (text : List ℕ) (fault : ServerScramErrorKind) (count : ℕ)
    → (fault ≢ OutOfMemory → ReadsFinalText server.header server.strict server.nonce text (Err fault))
    → FinalCosts {A = A} server text (Err fault) count count
text_costs_nothing A server text AuthenticationFailed count refused =
    absurd (not_the_proof server.header server.strict server.nonce text (refused
    (λ same. let wrong : AuthenticationFailed ≡ OutOfMemory = same in
    absurd (cc))))
text_costs_nothing A server text OutOfMemory count refused = (omega arith, omega arith, λ _ _. refl)
text_costs_nothing A server text fault count refused = refl

-- the tests of the proof, which come after those of the text

-- what a message names that is accepted
pub record NamesAcceptedFinal (server : Server) (text : List ℕ) (final : ClientFinal) : Type 0 where
  pub binding : HasBase64 text 0 (codes "c=") (cbind_input server.header)
  pub nonce : Part text 1 (codes "r=" ++ server.nonce)
  pub proof : HasProof text final
  pub sized : length final.proof ≡ digest_len server.version
  pub accepted : IsAccepted server final

module _ (server : Server) (text : List ℕ) where
  pub text_refused : (fault : ServerScramErrorKind) → ReadsFinalText server.header server.strict server.nonce text (Err fault)
      → ReadsClientFinal server text (Err fault)
  unfolding ReadsClientFinal
  text_refused fault refused = inl refused

  -- what the server makes of the proof is its answer to the message
  pub proof_answered : {A : Type 0} (view : A → List ℕ) (final : ClientFinal) (result : Result A ServerScramErrorKind)
      → ReadsFinalText server.header server.strict server.nonce text (Ok final)
      → Gives OutOfMemory (IsMet server final) view result (AnswersProof server final)
      → Gives OutOfMemory (ReachesBase64 server.header server.nonce text) view result (AnswersClientFinal server text)
  unfolding ReadsClientFinal
  proof_answered view final (Ok message) reads answers = (final, (reads, answers.0, answers.1), answers.2)
  proof_answered view final (Err fault) reads answers = (
    λ memory. proof_reached server.header server.strict server.nonce text final reads,
    λ other. inr (final, reads, answers.1 other),
  )

  pub names_client_final : (final : ClientFinal) → ReadsClientFinal server text (Ok final)
      → NamesAcceptedFinal server text final
  unfolding ReadsClientFinal
  names_client_final final reads =
      let names = names_final_text server.header server.strict server.nonce text final reads.0 in
      record {
        binding = names.binding;
        nonce = names.nonce;
        proof = names.proof;
        sized = reads.1;
        accepted = reads.2;
      }

  -- of one text no proof is both accepted and rejected
  one_verdict : (final other : ClientFinal) (fault : ServerScramErrorKind) → ReadsClientFinal server text (Ok final)
      → ReadsFinalText server.header server.strict server.nonce text (Ok other) → IsFirst (proof_tests server other) fault → ⊥
  unfolding ReadsClientFinal
  one_verdict final other fault reads too first =
      let both = one_final_text server.header server.strict server.nonce text (Ok final) (Ok other) reads.0 too in
      let same : final ≡ other = cc in
      first_or_none (proof_tests server final) fault
      (subst (λ (read : ClientFinal). IsFirst (proof_tests server read) fault) (sym same) first)
      (λ unsized. unsized reads.1, (λ unmet. unmet reads.2, tt))

  pub one_client_final : (answer other : Result ClientFinal ServerScramErrorKind) → ReadsClientFinal server text answer
      → ReadsClientFinal server text other → answer ≡ other
  unfolding ReadsClientFinal
  one_client_final (Ok final) (Ok other) reads too =
      one_final_text server.header server.strict server.nonce text (Ok final) (Ok other) reads.0 too.0
  one_client_final (Ok final) (Err fault) reads (inl refused) =
      one_final_text server.header server.strict server.nonce text (Ok final) (Err fault) reads.0 refused
  one_client_final (Ok final) (Err fault) reads (inr (other, too, first)) =
      absurd (one_verdict final other fault reads too first)
  one_client_final (Err fault) (Ok final) (inl refused) reads =
      one_final_text server.header server.strict server.nonce text (Err fault) (Ok final) refused reads.0
  one_client_final (Err fault) (Ok final) (inr (other, too, first)) reads =
      absurd (one_verdict final other fault reads too first)
  one_client_final (Err fault) (Err other) (inl refused) (inl too) =
      one_final_text server.header server.strict server.nonce text (Err fault) (Err other) refused too
  one_client_final (Err fault) (Err other) (inl refused) (inr (final, reads, first)) =
      let both = one_final_text server.header server.strict server.nonce text (Err fault) (Ok final) refused reads in absurd (cc)
  one_client_final (Err fault) (Err other) (inr (final, reads, first)) (inl refused) =
      let both = one_final_text server.header server.strict server.nonce text (Err other) (Ok final) refused reads in absurd (cc)
  one_client_final (Err fault) (Err other) (inr (final, reads, first)) (inr (another, too, second)) =
      let both = one_final_text server.header server.strict server.nonce text (Ok final) (Ok another) reads too in
      let same : final ≡ another = cc in
      ap Err (one_first (proof_tests server another) fault other
      (subst (λ (read : ClientFinal). IsFirst (proof_tests server read) fault) same first) second)

  -- what the proof costs, the message does
  pub proof_costs : {A : Type 0} (view : A → List ℕ) (final : ClientFinal) (result : Result A ServerScramErrorKind)
      (before after : ℕ) → ReadsFinalText server.header server.strict server.nonce text (Ok final)
      → Gives OutOfMemory (IsMet server final) view result (AnswersProof server final)
      → ProofCosts result before after → FinalCosts server text result before after
  unfolding ReadsClientFinal
  proof_costs view final (Ok message) before after reads answers costs = costs
  proof_costs view final (Err AuthenticationFailed) before after reads answers costs = costs
  proof_costs view final (Err OutOfMemory) before after reads answers costs = (
    omega (arith, costs),
    omega (arith, costs),
    λ fault refused.
        let met = answers.0 refl in
        let both = one_client_final (Ok final) (Err fault) (reads, met.0, met.1) refused in absurd (cc),
  )
  proof_costs view final (Err fault) before after reads answers costs = costs
