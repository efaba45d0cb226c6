-- The user of an agreed finding has logged in, and findings that repeat a position are of events with one nonce.
use Rattle.std.proofs.Common.{◌≡◌, ◌⊎◌, ℕ, zero, suc, ◌<◌, true, false, Option, Some, None, List, [], ◌∷◌, ◌++◌, refl, sym, ap, subst, arith, inl, inr}
use Rattle.std.specs.Prelude.{slice_get}
use Rattle.std.specs.List.{AllByRecursion, Contains}
use Rattle.fe2o3_sasl_core.specs.Verdicts.{Parameters, Verdict, Agreed, AreAgreed, JudgesVerifier, JudgesProof, FindingKind, OfVerifier, OfProof, Finding, IsVerifierFinding, IsProofFinding, Audits}
use Rattle.fe2o3_sasl_core.specs.ClientHistory.{Answering, is_start, is_answer, ends_answer}
use Rattle.fe2o3_sasl_core.specs.Events.{IsRecord, ClientSays, Started, Answered, Reported, Refused}
use Rattle.fe2o3_sasl_core.specs.Laws.{AgreedUsersAreNamed, AnswerPosition, Start, FromTwoStarts, FromTwoChallenges, TakesAgreed, ShowsAgreed, HoldsRecords, RepeatedClientFindings, RepeatedServerFindings}
use Rattle.fe2o3_sasl_core.specs.Positions.{test_at, IsLastOpen}
use Rattle.fe2o3_sasl_core.specs.ServerHistory.{Accepted, LoggedIn, is_challenge, is_ok}
use Rattle.fe2o3_sasl_core.specs.TwoSides.{Sides, SignedAnswer, OkAt, IsPlainInit}
use Rattle.fe2o3_sasl_core.proofs.lemmas.positions.PositionLemmas.{opens_here}
use Rattle.fe2o3_sasl_core.proofs.lemmas.lists.EachLemmas.{each_append, each_weaker}
use Rattle.fe2o3_sasl.proofs.lemmas.histories.RepeatedNonceLemmas.{not_none, repeated_client_positions, repeated_server_positions}
use Rattle.fe2o3_sasl_core.proofs.lemmas.two_sides.EqualMessageLemmas.{is_challenging, accepts_open}
use Rattle.fe2o3_sasl_core.proofs.lemmas.two_sides.ReportedAnswerLemmas.{one_more, signed_position}

-- ---- what is known of a finding

-- what holds of all elements holds of each
each_contained : {X : Type 0} (P : X → Type 0) (xs : List X) (x : X) → AllByRecursion P xs → Contains xs x → P x
each_contained P [] x all (k, within, at) = absurd (omega (arith, within))
each_contained P (first ∷ xs) x all (zero, within, at) = subst P at all.0
each_contained P (first ∷ xs) x all (suc k, within, at) = each_contained P xs x all.1 (k, omega (arith, within), at)

-- a finding is of either kind
abbrev IsFinding : Sides → Finding → Type 0
IsFinding sides finding = IsVerifierFinding sides finding ⊎ IsProofFinding sides finding

is_finding : (sides : Sides) (findings : List Finding) (finding : Finding) → Audits sides findings
    → Contains findings finding → IsFinding sides finding
is_finding sides findings finding audits is =
    let all : AllByRecursion (IsFinding sides) (audits.verifiers ++ audits.proofs) =
    each_append (IsFinding sides) audits.verifiers audits.proofs
    (each_weaker (IsVerifierFinding sides) (IsFinding sides) audits.verifiers (λ f. inl) audits.verifier_verdicts)
    (each_weaker (IsProofFinding sides) (IsFinding sides) audits.proofs (λ f. inr) audits.proof_verdicts) in
    each_contained (IsFinding sides) findings finding
    (subst (AllByRecursion (IsFinding sides)) (sym audits.whole) all) is

-- the record of an accepted response
held : (sides : Sides) (n : ℕ) (accepted : Accepted) → HoldsRecords sides.provider → OkAt sides n accepted
    → IsRecord accepted.challenge.stored
held sides n accepted records ok =
    let at = (accepts_open sides.provider sides.server_events sides.server_replies n accepted ok.accepts).2 in
    records accepted.challenge.client.user accepted.challenge.stored
    (is_challenging sides.provider at.0 at.1 accepted.challenge at.4).known

-- what an agreed verdict on a verifier says
verifier_agrees : (sides : Sides) (answer : Answering) (accepted : Accepted) (verdict : Verdict)
    (user nonce : List ℕ) (parameters : Option Parameters) → JudgesVerifier sides answer accepted verdict
    → verdict ≡ Agreed user nonce parameters → AreAgreed sides answer accepted user nonce parameters
verifier_agrees sides answer accepted verdict user nonce parameters judges is =
    subst (JudgesVerifier sides answer accepted) is judges

-- and on a proof
proof_agrees : (sides : Sides) (answer : Answering) (accepted : Accepted) (verdict : Verdict)
    (user nonce : List ℕ) (parameters : Option Parameters) → JudgesProof sides answer accepted verdict
    → verdict ≡ Agreed user nonce parameters → AreAgreed sides answer accepted user nonce parameters
proof_agrees sides answer accepted verdict user nonce parameters judges is =
    let both : JudgesProof sides answer accepted (Agreed user nonce parameters) =
    subst (JudgesProof sides answer accepted) is judges in
    both.1

-- an agreed finding of a verifier: the answer's position, the accepted response, and what both are
record TakenFinding (sides : Sides) (m n : ℕ) (parameters : Option Parameters) : Type 0 where
  place : ℕ
  accepted : Accepted
  taken : TakesAgreed sides m place n accepted
  plain : (given : Parameters) → parameters ≡ Some given → IsPlainInit accepted

-- of a proof
record ShownFinding (sides : Sides) (k n : ℕ) (parameters : Option Parameters) : Type 0 where
  accepted : Accepted
  shown : ShowsAgreed sides k n accepted
  plain : (given : Parameters) → parameters ≡ Some given → IsPlainInit accepted

-- where parameters are given the init was plain
is_plain : (sides : Sides) (answer : Answering) (accepted : Accepted) (user nonce : List ℕ)
    (parameters : Option Parameters) → AreAgreed sides answer accepted user nonce parameters
    → (given : Parameters) → parameters ≡ Some given → IsPlainInit accepted
is_plain sides answer accepted user nonce parameters agreed given is =
    let both : AreAgreed sides answer accepted user nonce (Some given) =
    subst (AreAgreed sides answer accepted user nonce) is agreed in
    both.4.0

taken_finding : (sides : Sides) (finding : Finding) (user nonce : List ℕ) (parameters : Option Parameters)
    → IsVerifierFinding sides finding → finding.verdict ≡ Agreed user nonce parameters
    → TakenFinding sides finding.client finding.server parameters
taken_finding sides finding user nonce parameters is agreed =
    let answer = is.1.0 in
    let accepted = is.1.1 in
    let takes = is.1.2 in
    let reported = is.1.3 in
    let signed = subst (λ (z : Option (List ℕ)). SignedAnswer sides.login sides.client_events sides.client_replies
    finding.client z answer)
    (one_more sides.client_replies finding.client reported.0 takes.more reported.1 takes.reported) reported.2 in
    let position = signed_position sides.login sides.client_events sides.client_replies finding.client takes.more answer
    signed in
    let values = verifier_agrees sides answer accepted finding.verdict user nonce parameters is.1.4 agreed in
    record {
      place = position.0;
      accepted = accepted;
      taken = (answer, takes, position.1, position.2, values.0);
      plain = is_plain sides answer accepted user nonce parameters values;
    }

shown_finding : (sides : Sides) (finding : Finding) (user nonce : List ℕ) (parameters : Option Parameters)
    → IsProofFinding sides finding → finding.verdict ≡ Agreed user nonce parameters
    → ShownFinding sides finding.client finding.server parameters
shown_finding sides finding user nonce parameters is agreed =
    let answer = is.1.0 in
    let accepted = is.1.1 in
    let values = proof_agrees sides answer accepted finding.verdict user nonce parameters is.1.3 agreed in
    record {
      accepted = accepted;
      shown = (answer, is.1.2, values.0);
      plain = is_plain sides answer accepted user nonce parameters values;
    }

-- ---- who has logged in

-- after an accepted response the user is that of the response
logged : (sides : Sides) (n : ℕ) (accepted : Accepted) (user : List ℕ) → OkAt sides n accepted
    → user ≡ accepted.challenge.client.user
    → LoggedIn sides.provider sides.server_events sides.server_replies (suc n) user
logged sides n accepted user ok same = (
  n,
  opens_here is_ok is_challenge sides.server_replies n (ap (test_at is_ok) ok.says),
  (accepted, ok.accepts, same),
)

pub agreed_users_are_named : AgreedUsersAreNamed
agreed_users_are_named sides findings finding user nonce parameters audits contains agreed =
    go (is_finding sides findings finding audits contains)
  where
    go : IsFinding sides finding
        → LoggedIn sides.provider sides.server_events sides.server_replies (suc finding.server) user
    go (inl is) =
        let values = verifier_agrees sides is.1.0 is.1.1 finding.verdict user nonce parameters is.1.4 agreed in
        logged sides finding.server is.1.1 user is.1.2.ok values.2
    go (inr is) =
        let values = proof_agrees sides is.1.0 is.1.1 finding.verdict user nonce parameters is.1.3 agreed in
        logged sides finding.server is.1.1 user is.1.2.ok values.2

-- ---- the last start before an answer is the last one before what reports on it

-- an answer is no start
no_start : (says : Option ClientSays) → test_at is_answer says ≡ true → test_at is_start says ≡ false
no_start None is = refl
no_start (Some (Started body)) is = sym is
no_start (Some (Answered body)) is = refl
no_start (Some (Reported code more)) is = refl
no_start (Some (Refused fault)) is = refl

-- what does not end an answer is no start
no_new_start : (says : Option ClientSays) → test_at ends_answer says ≡ false → test_at is_start says ≡ false
no_new_start None is = refl
no_new_start (Some (Started body)) is = is
no_new_start (Some (Answered body)) is = refl
no_new_start (Some (Reported code more)) is = refl
no_new_start (Some (Refused fault)) is = refl

-- i is before k, k itself, or after it
three : (i k : ℕ) → (i < k) ⊎ ((i ≡ k) ⊎ (k < i))
three i k = grind arith

later_start : (replies : List ClientSays) (m k s : ℕ) → IsLastOpen is_answer ends_answer replies m k
    → Start replies k s → Start replies m s
later_start replies m k s answer start = record {
  before = omega (arith, start.before, answer.before);
  opened = start.opened;
  last = λ i behind before. go i behind before (three i k);
  kept = λ i behind before. not_none (slice_get replies i);
}
  where
    go : (i : ℕ) → s < i → i < m → (i < k) ⊎ ((i ≡ k) ⊎ (k < i)) → test_at is_start (slice_get replies i) ≡ false
    go i behind before (inl less) = start.last i behind less
    go i behind before (inr (inl same)) =
        subst (λ (z : ℕ). test_at is_start (slice_get replies z) ≡ false) (sym same)
        (no_start (slice_get replies k) answer.opened)
    go i behind before (inr (inr more)) = no_new_start (slice_get replies i) (answer.kept i more before)

-- what reports on it may be without data
later_start_at : (replies : List ClientSays) (m k s : ℕ) (more : Option (List ℕ)) → AnswerPosition replies m more k
    → Start replies k s → Start replies m s
later_start_at replies m k s (Some text) answer start = later_start replies m k s answer start
later_start_at replies m k s None answer start =
    later_start replies m answer.0 s answer.1 (later_start replies answer.0 k s answer.2 start)

-- ---- the laws

verifier_not_proof : (kind other : FindingKind) → kind ≡ OfVerifier → other ≡ OfProof → kind ≡ other → ⊥
verifier_not_proof kind other is too same = cc

pub repeated_client_findings : RepeatedClientFindings
repeated_client_findings sides findings finding other given records both agreed also server apart =
    go (is_finding sides findings finding both.audits both.one) (is_finding sides findings other both.audits both.two)
  where
    go : IsFinding sides finding → IsFinding sides other → FromTwoStarts sides finding.client other.client
    go (inl is) (inr too) = absurd (verifier_not_proof finding.kind other.kind is.0 too.0 both.alike)
    go (inr is) (inl too) = absurd (verifier_not_proof other.kind finding.kind too.0 is.0 (sym both.alike))
    go (inl is) (inl too) =
        let first = taken_finding sides finding agreed.0 agreed.1 agreed.2 is agreed.3 in
        let second : TakenFinding sides other.client finding.server also.2 =
        subst (λ (n : ℕ). TakenFinding sides other.client n also.2) (sym server)
        (taken_finding sides other also.0 also.1 also.2 too also.3) in
        let starts = (repeated_client_positions sides finding.server first.place second.place first.accepted
        second.accepted given (held sides finding.server first.accepted records first.taken.1.ok)
        (held sides finding.server second.accepted records second.taken.1.ok)).0 finding.client other.client apart
        first.taken second.taken in (
          starts.0,
          starts.1,
          later_start_at sides.client_replies finding.client first.place starts.0 first.taken.1.more first.taken.2
              starts.2,
          later_start_at sides.client_replies other.client second.place starts.1 second.taken.1.more second.taken.2
              starts.3,
          starts.4,
        )
    go (inr is) (inr too) =
        let first = shown_finding sides finding agreed.0 agreed.1 agreed.2 is agreed.3 in
        let second : ShownFinding sides other.client finding.server also.2 =
        subst (λ (n : ℕ). ShownFinding sides other.client n also.2) (sym server)
        (shown_finding sides other also.0 also.1 also.2 too also.3) in
        (repeated_client_positions sides finding.server finding.client other.client first.accepted second.accepted
        given (held sides finding.server first.accepted records first.shown.1.ok)
        (held sides finding.server second.accepted records second.shown.1.ok)).1 apart first.shown second.shown

pub repeated_server_findings : RepeatedServerFindings
repeated_server_findings sides findings finding other given records both agreed also client apart =
    go (is_finding sides findings finding both.audits both.one) (is_finding sides findings other both.audits both.two)
  where
    go : IsFinding sides finding → IsFinding sides other → FromTwoChallenges sides finding.server other.server
    go (inl is) (inr too) = absurd (verifier_not_proof finding.kind other.kind is.0 too.0 both.alike)
    go (inr is) (inl too) = absurd (verifier_not_proof other.kind finding.kind too.0 is.0 (sym both.alike))
    go (inl is) (inl too) =
        let first = taken_finding sides finding agreed.0 agreed.1 (Some agreed.2) is agreed.3 in
        let second : TakenFinding sides finding.client other.server (Some also.2) =
        subst (λ (m : ℕ). TakenFinding sides m other.server (Some also.2)) (sym client)
        (taken_finding sides other also.0 also.1 (Some also.2) too also.3) in
        (repeated_server_positions sides first.place finding.server other.server first.accepted second.accepted given
        (held sides finding.server first.accepted records first.taken.1.ok)
        (held sides other.server second.accepted records second.taken.1.ok) apart (first.plain agreed.2 refl)
        (second.plain also.2 refl)).0 finding.client second.place first.taken second.taken
    go (inr is) (inr too) =
        let first = shown_finding sides finding agreed.0 agreed.1 (Some agreed.2) is agreed.3 in
        let second : ShownFinding sides finding.client other.server (Some also.2) =
        subst (λ (k : ℕ). ShownFinding sides k other.server (Some also.2)) (sym client)
        (shown_finding sides other also.0 also.1 (Some also.2) too also.3) in
        (repeated_server_positions sides finding.client finding.server other.server first.accepted second.accepted
        given (held sides finding.server first.accepted records first.shown.1.ok)
        (held sides other.server second.accepted records second.shown.1.ok) apart (first.plain agreed.2 refl)
        (second.plain also.2 refl)).1 first.shown second.shown
