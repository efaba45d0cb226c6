-- An audit has one answer.
use Rattle.std.proofs.Common.{◌≡◌, ◌⊎◌, ⊎_elim, ℕ, zero, suc, List, [], ◌∷◌, ◌++◌, map, refl, sym, ap, ◌∙◌, subst, arith, inl, inr}
use Rattle.std.specs.List.{AllByRecursion, Contains}
use Rattle.fe2o3_sasl_core.specs.ClientHistory.{Answering, AnswersAt}
use Rattle.fe2o3_sasl_core.specs.Events.{ClientSays, ServerSays}
use Rattle.fe2o3_sasl_core.specs.Laws.{OneAuditEach}
use Rattle.fe2o3_sasl_core.specs.ServerHistory.{Accepted, AcceptsAt}
use Rattle.fe2o3_sasl_core.specs.TwoSides.{Sides, sides_of, ReportedAnswer, Takes, Shows}
use Rattle.fe2o3_sasl_core.specs.Verdicts.{Verdict, Finding, FindingKind, place_of, Before, Ascending, Lists, IsVerifierFinding, IsProofFinding, Audits, JudgesVerifier, JudgesProof}
use Rattle.fe2o3_sasl_core.proofs.lemmas.histories.OneClientHistoryLemmas.{one_answers_at, one_client_history}
use Rattle.fe2o3_sasl_core.proofs.lemmas.two_sides.ReportedAnswerLemmas.{one_reported_answer}
use Rattle.fe2o3_sasl_core.proofs.lemmas.histories.OneServerHistoryLemmas.{one_accepted, one_server_history}
use Rattle.fe2o3_sasl.proofs.lemmas.two_sides.VerdictLemmas.{one_verdict_each}

-- ---- what a list contains

contains_none : {X : Type 0} (x : X) → Contains [] x → ⊥
contains_none x (k, within, at) = absurd (omega (arith, within))

contains_first : {X : Type 0} (x : X) (xs : List X) → Contains (x ∷ xs) x
contains_first x xs = (0, omega arith, refl)

contains_more : {X : Type 0} (x other : X) (xs : List X) → Contains xs other → Contains (x ∷ xs) other
contains_more x other xs (k, within, at) = (suc k, omega (arith, within), at)

-- an element is the first or one of the others
contains_cases : {X : Type 0} (x other : X) (xs : List X) → Contains (x ∷ xs) other → (x ≡ other) ⊎ Contains xs other
contains_cases x other xs (zero, within, at) = inl at
contains_cases x other xs (suc k, within, at) = inr (k, omega (arith, within), at)

-- ---- ascending lists

-- no place is before itself
not_before : (place : ℕ × ℕ) → Before place place → ⊥
not_before place (inl less) = absurd (omega (arith, less))
not_before place (inr less) = absurd (omega (arith, less.1))

-- no two are each before the other
not_both : (left right : ℕ × ℕ) → Before left right → Before right left → ⊥
not_both left right (inl less) (inl more) = absurd (omega (arith, less, more))
not_both left right (inl less) (inr more) = absurd (omega (arith, less, more.0))
not_both left right (inr less) (inl more) = absurd (omega (arith, less.0, more))
not_both left right (inr less) (inr more) = absurd (omega (arith, less.1, more.1))

-- what holds of all elements
all_of : (P : ℕ × ℕ → Type 0) (places : List (ℕ × ℕ)) (place : ℕ × ℕ) → AllByRecursion P places
    → Contains places place → P place
all_of P [] place all is = absurd (contains_none place is)
all_of P (first ∷ places) place all is = ⊎_elim (λ (same : first ≡ place). subst P same all.0)
    (λ (further : Contains places place). all_of P places place all.1 further) (contains_cases first place places is)

-- two ascending lists with the same elements have one head
same_head : (left right : ℕ × ℕ) (lefts rights : List (ℕ × ℕ)) → AllByRecursion (Before left) lefts
    → AllByRecursion (Before right) rights → (right ≡ left) ⊎ Contains rights left
    → (left ≡ right) ⊎ Contains lefts right → left ≡ right
same_head left right lefts rights before after (inl same) back = sym same
same_head left right lefts rights before after (inr is) (inl same) = same
same_head left right lefts rights before after (inr is) (inr too) =
    absurd (not_both left right (all_of (Before left) lefts right before too)
    (all_of (Before right) rights left after is))

-- and after it the same elements
behind : (left right place : ℕ × ℕ) (lefts rights : List (ℕ × ℕ)) → left ≡ right → AllByRecursion (Before left) lefts
    → Contains lefts place → (right ≡ place) ⊎ Contains rights place → Contains rights place
behind left right place lefts rights same before is (inl here) = absurd (not_before place
    (subst (λ (other : ℕ × ℕ). Before other place) (same ∙ here) (all_of (Before left) lefts place before is)))
behind left right place lefts rights same before is (inr further) = further

-- so they are one list
one_list : (lefts rights : List (ℕ × ℕ)) → Ascending lefts → Ascending rights
    → ((place : ℕ × ℕ) → Contains lefts place → Contains rights place)
    → ((place : ℕ × ℕ) → Contains rights place → Contains lefts place) → lefts ≡ rights
one_list [] [] before after to from = refl
one_list [] (right ∷ rights) before after to from =
    absurd (contains_none right (from right (contains_first right rights)))
one_list (left ∷ lefts) [] before after to from = absurd (contains_none left (to left (contains_first left lefts)))
one_list (left ∷ lefts) (right ∷ rights) before after to from =
    let forth : (place : ℕ × ℕ) → Contains (left ∷ lefts) place → (right ≡ place) ⊎ Contains rights place =
    λ place is. contains_cases right place rights (to place is) in
    let back : (place : ℕ × ℕ) → Contains (right ∷ rights) place → (left ≡ place) ⊎ Contains lefts place =
    λ place is. contains_cases left place lefts (from place is) in
    let same = same_head left right lefts rights before.0 after.0 (forth left (contains_first left lefts))
    (back right (contains_first right rights)) in
    let rest = one_list lefts rights before.1 after.1
    (λ place is. behind left right place lefts rights same before.0 is
    (forth place (contains_more left place lefts is)))
    (λ place is. behind right left place rights lefts (sym same) after.0 is
    (back place (contains_more right place rights is))) in
    λ i. same i ∷ rest i

-- two listings of one relation are one list
one_listing : (R : ℕ → ℕ → Type 0) (places others : List (ℕ × ℕ)) → Lists R places → Lists R others → places ≡ others
one_listing R places others listing again =
    let Is = λ (place : ℕ × ℕ). R place.0 place.1 in
    one_list places others listing.ordered again.ordered
    (λ place is. again.every place.0 place.1 (all_of Is places place listing.each is))
    (λ place is. listing.every place.0 place.1 (all_of Is others place again.each is))

-- ---- findings

same_cons : {X : Type 0} (x y : X) (xs ys : List X) → x ∷ xs ≡ y ∷ ys → (x ≡ y) × (xs ≡ ys)
same_cons x y xs ys same = (cc, cc)

empty_cons : {X : Type 0} (x : X) (xs : List X) → [] ≡ x ∷ xs → ⊥
empty_cons x xs same = absurd (cc)

-- findings with one finding a place, and with the same places
one_findings : (Is : Finding → Type 0) → ((finding other : Finding) → place_of finding ≡ place_of other → Is finding
    → Is other → finding ≡ other)
    → (findings others : List Finding) → map place_of findings ≡ map place_of others → AllByRecursion Is findings
    → AllByRecursion Is others → findings ≡ others
one_findings Is one [] [] places are too = refl
one_findings Is one [] (other ∷ others) places are too =
    absurd (empty_cons (place_of other) (map place_of others) places)
one_findings Is one (finding ∷ findings) [] places are too =
    absurd (empty_cons (place_of finding) (map place_of findings) (sym places))
one_findings Is one (finding ∷ findings) (other ∷ others) places are too =
    let both = same_cons (place_of finding) (place_of other) (map place_of findings) (map place_of others) places in
    let first = one finding other both.0 are.0 too.0 in
    let rest = one_findings Is one findings others both.1 are.1 too.1 in
    λ i. first i ∷ rest i

abbrev made : FindingKind → ℕ → ℕ → Verdict → Finding
made kind client server verdict = record { kind = kind; client = client; server = server; verdict = verdict }

-- a place has one verifier's finding
one_verifier : (sides : Sides) (finding other : Finding) → place_of finding ≡ place_of other
    → IsVerifierFinding sides finding → IsVerifierFinding sides other → finding ≡ other
one_verifier sides finding other places is too =
    let kind : finding.kind ≡ other.kind = is.0 ∙ sym too.0 in
    let client : finding.client ≡ other.client = ap (λ (place : ℕ × ℕ). place.0) places in
    let server : finding.server ≡ other.server = ap (λ (place : ℕ × ℕ). place.1) places in
    let answer : too.1.0 ≡ is.1.0 =
    one_reported_answer sides.login sides.client_events sides.client_replies finding.client too.1.0 is.1.0
    (subst (λ (m : ℕ). ReportedAnswer sides.login sides.client_events sides.client_replies m too.1.0)
    (sym client) too.1.3) is.1.3 in
    let accepted : too.1.1 ≡ is.1.1 =
    one_accepted sides.provider sides.server_events sides.server_replies finding.server too.1.1 is.1.1
    (subst (λ (n : ℕ). AcceptsAt sides.provider sides.server_events sides.server_replies n too.1.1)
    (sym server) too.1.2.ok.accepts) is.1.2.ok.accepts in
    let judges : JudgesVerifier sides is.1.0 is.1.1 other.verdict =
    subst (λ (x : Answering). JudgesVerifier sides x is.1.1 other.verdict) answer
    (subst (λ (y : Accepted). JudgesVerifier sides too.1.0 y other.verdict) accepted too.1.4) in
    let verdict : finding.verdict ≡ other.verdict =
    (one_verdict_each sides is.1.0 is.1.1 finding.verdict other.verdict).0 is.1.4 judges in
    λ i. made (kind i) (client i) (server i) (verdict i)

-- and one proof's
one_proof : (sides : Sides) (finding other : Finding) → place_of finding ≡ place_of other
    → IsProofFinding sides finding → IsProofFinding sides other → finding ≡ other
one_proof sides finding other places is too =
    let kind : finding.kind ≡ other.kind = is.0 ∙ sym too.0 in
    let client : finding.client ≡ other.client = ap (λ (place : ℕ × ℕ). place.0) places in
    let server : finding.server ≡ other.server = ap (λ (place : ℕ × ℕ). place.1) places in
    let answer : too.1.0 ≡ is.1.0 =
    one_answers_at sides.login sides.client_events sides.client_replies finding.client too.1.0 is.1.0
    (subst (λ (k : ℕ). AnswersAt sides.login sides.client_events sides.client_replies k too.1.0)
    (sym client) too.1.2.answers) is.1.2.answers in
    let accepted : too.1.1 ≡ is.1.1 =
    one_accepted sides.provider sides.server_events sides.server_replies finding.server too.1.1 is.1.1
    (subst (λ (n : ℕ). AcceptsAt sides.provider sides.server_events sides.server_replies n too.1.1)
    (sym server) too.1.2.ok.accepts) is.1.2.ok.accepts in
    let judges : JudgesProof sides is.1.0 is.1.1 other.verdict =
    subst (λ (x : Answering). JudgesProof sides x is.1.1 other.verdict) answer
    (subst (λ (y : Accepted). JudgesProof sides too.1.0 y other.verdict) accepted too.1.3) in
    let verdict : finding.verdict ≡ other.verdict =
    (one_verdict_each sides is.1.0 is.1.1 finding.verdict other.verdict).1 is.1.3 judges in
    λ i. made (kind i) (client i) (server i) (verdict i)

-- two audits of the same replies
any_mechanism_sides : (sides : Sides) (findings others : List Finding) → Audits sides findings → Audits sides others
    → findings ≡ others
any_mechanism_sides sides findings others audit again =
    let verifiers = one_findings (IsVerifierFinding sides) (one_verifier sides) audit.verifiers again.verifiers
    (one_listing (λ m n. (accepted : Accepted) × Takes sides m n accepted) (map place_of audit.verifiers)
    (map place_of again.verifiers) audit.takes again.takes) audit.verifier_verdicts again.verifier_verdicts in
    let proofs = one_findings (IsProofFinding sides) (one_proof sides) audit.proofs again.proofs
    (one_listing (λ k n. (answer : Answering) × (accepted : Accepted) × Shows sides k n answer accepted)
    (map place_of audit.proofs) (map place_of again.proofs) audit.shows again.shows)
    audit.proof_verdicts again.proof_verdicts in
    audit.whole ∙ ((λ i. verifiers i ++ proofs i) ∙ sym again.whole)

pub one_audit_each : OneAuditEach
one_audit_each login client_events provider server_events findings others first again =
    let audit = first.2 in
    let other = again.2 in
    let client = one_client_history login client_events again.0 first.0 other.histories.client audit.histories.client
    other.client_complete audit.client_complete in
    let server = one_server_history provider server_events again.1 first.1 other.histories.server
    audit.histories.server other.server_complete audit.server_complete in
    let moved = subst (λ (replies : List ClientSays). Audits
    (sides_of login client_events replies provider server_events first.1) others) client
    (subst (λ (replies : List ServerSays). Audits
    (sides_of login client_events again.0 provider server_events replies) others) server other) in
    any_mechanism_sides (sides_of login client_events first.0 provider server_events first.1) findings others audit moved
