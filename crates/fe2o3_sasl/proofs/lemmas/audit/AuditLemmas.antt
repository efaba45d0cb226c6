-- What is found of exact receipts is what an audit lists.
use Rattle.std.proofs.Common.{◌≡◌, ◌≢◌, ℕ, Bool, true, false, cond, Option, Some, List, ◌++◌, map, length, refl, sym, ap, ◌∙◌, subst, arith}
use Rattle.std.specs.Prelude.{slice_get}
use Rattle.std.specs.Cmp.Lexicographic.{same_text}
use Rattle.std.proofs.lemmas.Cmp.{nat_list_eq_equiv}
use Rattle.std.proofs.lemmas.List.{length-map}
use Rattle.std.proofs.lemmas.Option.{slice_get_within}
use Rattle.fe2o3_sasl_wire.specs.declared.amqp_types.SaslCode.TheVariants as outcomes
use Rattle.fe2o3_sasl_core.specs.Verdicts.{Parameters, Verdict, Agreed, SameMac, SameHash, OtherKey, AreAgreed, JudgesVerifier, JudgesProof, Finding, place_of, IsVerifierFinding, IsProofFinding, Audits, AuditsEvents}
use Rattle.fe2o3_sasl_core.specs.ClientHistory.{Answering, AnswersAt, ClientHistory}
use Rattle.fe2o3_sasl_core.specs.Complete.{ClientComplete, ServerComplete}
use Rattle.fe2o3_sasl_core.specs.Events.{Given, Login, ServerSays, Concluded, ClientSays, Answered, Reported, IsSecret}
use Rattle.fe2o3_sasl_core.specs.ServerHistory.{Accepted, AcceptsAt, ServerHistory, final_message}
use Rattle.fe2o3_sasl_core.specs.TwoSides.{Sides, Histories, VerifierText, OkAt, Takes, Shows, proof_at}
use Rattle.fe2o3_sasl.specs.private.Findings.{same, agreed_on, verifier_verdict, proof_verdict, is_taken, is_shown, verifier_finding, proof_finding, findings_of}
use Rattle.fe2o3_sasl.specs.private.Receipts.{ClientReceipt, ServerReceipt, OfAnswer, OfAccepted, IsShownReceipt, IsTakenReceipt, IsOkReceipt, ProvesAt, ReportsAt, ConcludesAt, Member, Covers}
use Rattle.fe2o3_scram.specs.Credentials.{Provider}
use Rattle.fe2o3_scram.specs.Texts.{Part}
use Rattle.fe2o3_scram.proofs.lemmas.texts.PartsLemmas.{one_part}
use Rattle.fe2o3_sasl.proofs.lemmas.audit.FoundLemmas.{each_found, found_pairs}
use Rattle.fe2o3_sasl.proofs.lemmas.lists.MemberLemmas.{member_each}
use Rattle.fe2o3_sasl_core.proofs.lemmas.histories.OneClientHistoryLemmas.{one_answers_at}
use Rattle.fe2o3_sasl_core.proofs.lemmas.histories.OneServerHistoryLemmas.{one_accepted}
use Rattle.fe2o3_sasl_core.proofs.lemmas.two_sides.ReportedAnswerLemmas.{one_more, one_reported_answer, one_verifier_text}
use Rattle.fe2o3_sasl.proofs.lemmas.two_sides.VerdictLemmas.{one_value, taken_verifiers_are_judged, shown_proofs_are_judged}

same_is : (left right : List ℕ) → same left right ≡ true → left ≡ right
same_is left right is = same_text left right (sym is)

same_of : (left right : List ℕ) → left ≡ right → same left right ≡ true
same_of left right is = ap (same left) (sym is) ∙ nat_list_eq_equiv.refl left

not_same : (left right : List ℕ) → left ≢ right → same left right ≡ false
not_same left right apart = go (same left right) refl
  where
    go : (v : Bool) → same left right ≡ v → same left right ≡ false
    go true is = absurd (apart (same_is left right is))
    go false is = is

abbrev agreeing : List ℕ → List ℕ → Option Parameters → Verdict
agreeing user nonce parameters = Agreed user nonce parameters

abbrev one_mac_of : List ℕ → List ℕ → List ℕ → List ℕ → Verdict
one_mac_of client_key client_text server_key server_text = SameMac client_key client_text server_key server_text

abbrev one_hash_of : List ℕ → List ℕ → Verdict
one_hash_of client_key recovered = SameHash client_key recovered

-- ---- the verdict that is computed is the one that judges

module _ (sides : Sides) (answer : Answering) (accepted : Accepted) (client : ClientReceipt) (server : ServerReceipt)
    (a : OfAnswer sides.login answer client) (b : OfAccepted sides.provider accepted server) where
  agreed_is : (user nonce : List ℕ) (parameters : Option Parameters)
      → AreAgreed sides answer accepted user nonce parameters → agreed_on server ≡ Agreed user nonce parameters
  agreed_is user nonce parameters is = λ i. agreeing ((b.user ∙ sym is.2) i) ((b.nonce ∙ sym is.3) i)
      (one_value accepted server.parameters parameters b.parameters is.4 i)

  verifier_is : (verdict : Verdict) → JudgesVerifier sides answer accepted verdict
      → verifier_verdict client server ≡ verdict
  verifier_is (Agreed user nonce parameters) is =
      ap (λ v. cond v (agreed_on server) (SameMac client.server_key client.message server.server_key server.message))
      (same_of client.message server.message (a.message ∙ (is.0 ∙ sym b.message)))
      ∙ agreed_is user nonce parameters is
  verifier_is (SameMac client_key client_text server_key server_text) is =
      ap (λ v. cond v (agreed_on server) (SameMac client.server_key client.message server.server_key server.message))
      (not_same client.message server.message (λ e. is.4.differ (sym a.message ∙ (e ∙ b.message))))
      ∙ (λ i. one_mac_of ((a.server_key ∙ sym is.0) i) ((a.message ∙ sym is.1) i) ((b.server_key ∙ sym is.2) i)
      ((b.message ∙ sym is.3) i))
  verifier_is (SameHash client_key recovered) is = absurd is
  verifier_is OtherKey is = absurd is

  abbrev behind_key : Bool → Bool → Verdict
  behind_key messages keys =
      cond messages (agreed_on server) (cond keys
      (SameMac server.stored_key client.message server.stored_key server.message)
      (SameHash client.client_key server.recovered))

  one_key : (verdict : Verdict) → client.stored_key ≡ server.stored_key
      → behind_key (same client.message server.message) (same client.client_key server.recovered) ≡ verdict
      → proof_verdict client server ≡ verdict
  one_key verdict is rest = ap (λ v. cond v
      (behind_key (same client.message server.message) (same client.client_key server.recovered)) OtherKey)
      (same_of client.stored_key server.stored_key is) ∙ rest

  proof_is : (verdict : Verdict) → JudgesProof sides answer accepted verdict → proof_verdict client server ≡ verdict
  proof_is OtherKey is = ap (λ v. cond v (behind_key (same client.message server.message)
      (same client.client_key server.recovered)) OtherKey)
      (not_same client.stored_key server.stored_key (λ e. is (sym a.stored_key ∙ (e ∙ b.stored_key))))
  proof_is (Agreed user nonce parameters) is =
      one_key (Agreed user nonce parameters) (a.stored_key ∙ (is.0 ∙ sym b.stored_key))
      (ap (λ v. behind_key v (same client.client_key server.recovered))
      (same_of client.message server.message (a.message ∙ (is.1.0 ∙ sym b.message)))
      ∙ agreed_is user nonce parameters is.1)
  proof_is (SameHash client_key recovered) is =
      one_key (SameHash client_key recovered) (a.stored_key ∙ (is.0 ∙ sym b.stored_key))
      (ap (λ v. behind_key v (same client.client_key server.recovered))
      (not_same client.message server.message (λ e. is.1 (sym a.message ∙ (e ∙ b.message))))
      ∙ (ap (behind_key false) (not_same client.client_key server.recovered
      (λ e. is.5.differ (is.2 ∙ (sym a.client_key ∙ (e ∙ (b.recovered ∙ sym is.3))))))
      ∙ (λ i. one_hash_of ((a.client_key ∙ sym is.2) i) ((b.recovered ∙ sym is.3) i))))
  proof_is (SameMac client_key client_text server_key server_text) is =
      one_key (SameMac client_key client_text server_key server_text) (a.stored_key ∙ (is.0 ∙ sym b.stored_key))
      (ap (λ v. behind_key v (same client.client_key server.recovered))
      (not_same client.message server.message (λ e. is.6.differ (sym a.message ∙ (e ∙ b.message))))
      ∙ (ap (behind_key false) (same_of client.client_key server.recovered (a.client_key ∙ (is.1 ∙ sym b.recovered)))
      ∙ (λ i. one_mac_of ((b.stored_key ∙ sym is.2) i) ((a.message ∙ sym is.3) i) ((b.stored_key ∙ sym is.4) i)
      ((b.message ∙ sym is.5) i))))

-- ---- the pairs

-- the receipts of the two sides
abbrev Shown : Sides → ClientReceipt → Type 0
Shown sides receipt = IsShownReceipt sides.login sides.client_events sides.client_replies receipt

abbrev Taken : Sides → ClientReceipt → Type 0
Taken sides receipt = IsTakenReceipt sides.login sides.client_events sides.client_replies receipt

abbrev OfOk : Sides → ServerReceipt → Type 0
OfOk sides receipt = IsOkReceipt sides.provider sides.server_events sides.server_replies receipt

ok_at : (sides : Sides) (server : ServerReceipt) (o : OfOk sides server) → OkAt sides server.place o.1
ok_at sides server o = record { body = o.0; says = o.2; accepts = o.3 }

module _ (sides : Sides) (histories : Histories sides) (held : IsSecret sides.login.secret) where
  taken_of : (client : ClientReceipt) (server : ServerReceipt) (t : Taken sides client) (o : OfOk sides server)
      → is_taken client server ≡ true → Takes sides client.place server.place o.1
  taken_of client server t o meets =
      record {
        more = t.0;
        text = t.1;
        reported = t.3;
        verifier = t.5;
        ok = ok_at sides server o;
        one =
            subst (λ (z : List ℕ). Part t.1 0 z) (same_is client.shown server.verifier meets ∙ o.4.verifier) t.6;
      }

  shown_of : (client : ClientReceipt) (server : ServerReceipt) (t : Shown sides client) (o : OfOk sides server)
      → is_shown client server ≡ true → Shows sides client.place server.place t.1 o.1
  shown_of client server t o meets =
      record {
        body = t.0;
        answered = t.2;
        answers = t.3;
        ok = ok_at sides server o;
        one =
            sym t.4 ∙ (same_is client.shown server.proof meets ∙ o.4.proof);
      }

  taken_finding : (client : ClientReceipt) (server : ServerReceipt) → Taken sides client → OfOk sides server
      → is_taken client server ≡ true → IsVerifierFinding sides (verifier_finding client server)
  taken_finding client server t o meets =
      let takes = taken_of client server t o meets in
      let judged = taken_verifiers_are_judged sides client.place server.place o.1 histories o.4.kept takes in
      let one : t.2 ≡ judged.0.answer = one_reported_answer sides.login sides.client_events sides.client_replies
      client.place t.2 judged.0.answer (t.0, t.3, t.4) judged.0.opened in
      let a : OfAnswer sides.login judged.0.answer client =
      subst (λ (z : Answering). OfAnswer sides.login z client) one t.7 in (
        refl,
        (
          judged.0.answer,
          o.1,
          takes,
          judged.0.opened,
          subst (JudgesVerifier sides judged.0.answer o.1)
              (sym (verifier_is sides judged.0.answer o.1 client server a o.4 judged.1 judged.2)) judged.2,
        ),
      )

  shown_finding : (client : ClientReceipt) (server : ServerReceipt) → Shown sides client → OfOk sides server
      → is_shown client server ≡ true → IsProofFinding sides (proof_finding client server)
  shown_finding client server t o meets =
      let shows = shown_of client server t o meets in
      let judged = shown_proofs_are_judged sides client.place server.place t.1 o.1 histories held o.4.kept
      shows in (
        refl,
        (
          t.1,
          o.1,
          shows,
          subst (JudgesProof sides t.1 o.1)
              (sym (proof_is sides t.1 o.1 client server t.5 o.4 judged.0 judged.1)) judged.1,
        ),
      )

  -- an Ok of the server has its receipt
  ok_member : (oks : List ServerReceipt) (n : ℕ) (accepted : Accepted)
      → Covers (OfOk sides) (λ receipt. receipt.place) (ConcludesAt sides.server_replies)
      (length sides.server_events) oks → OkAt sides n accepted
      → (server : ServerReceipt) × Member server oks × (server.place ≡ n) × OfAccepted sides.provider accepted server
  ok_member oks n accepted covers ok =
      let within = slice_get_within sides.server_replies n (Concluded outcomes.Ok ok.body) ok.says in
      let found = covers.every n (omega (arith, within, histories.server.count)) (ok.body, ok.says) in
      let is = member_each (OfOk sides) oks found.0 covers.each found.1 in
      let also : AcceptsAt sides.provider sides.server_events sides.server_replies n is.1 =
      subst (λ (z : ℕ). AcceptsAt sides.provider sides.server_events sides.server_replies z is.1) found.2 is.3 in
      let one = one_accepted sides.provider sides.server_events sides.server_replies n is.1 accepted also ok.accepts in
      (found.0, found.1, found.2, subst (λ (z : Accepted). OfAccepted sides.provider z found.0) one is.4)

  pub audits : (shown taken : List ClientReceipt) (oks : List ServerReceipt) → ClientComplete sides.client_replies
      → ServerComplete sides.server_replies
      → Covers (Shown sides) (λ receipt. receipt.place) (ProvesAt sides.login sides.client_events sides.client_replies)
      (length sides.client_events) shown
      → Covers (Taken sides) (λ receipt. receipt.place) (ReportsAt sides.client_replies)
      (length sides.client_events) taken
      → Covers (OfOk sides) (λ receipt. receipt.place) (ConcludesAt sides.server_replies)
      (length sides.server_events) oks
      → Audits sides (findings_of is_taken verifier_finding taken oks ++ findings_of is_shown proof_finding shown oks)
  audits shown taken oks client_complete server_complete shows takes concludes =
      record {
        verifiers = findings_of is_taken verifier_finding taken oks;
        proofs = findings_of is_shown proof_finding shown oks;
        whole = refl;
        histories = histories;
        client_complete = client_complete;
        server_complete = server_complete;
        takes = found_pairs (λ (c : ClientReceipt). c.place)
            (λ (s : ServerReceipt). s.place) place_of is_taken verifier_finding
            (λ m n. (accepted : Accepted) × Takes sides m n accepted) taken oks (λ c s. refl)
            (λ c s m n e. let o = member_each (OfOk sides) oks s concludes.each n in
            (o.1, taken_of c s (member_each (Taken sides) taken c takes.each m) o e))
            (λ m n t. taken_pair m n t.0 t.1) takes.rising concludes.rising;
        shows = found_pairs (λ (c : ClientReceipt). c.place)
            (λ (s : ServerReceipt). s.place) place_of is_shown proof_finding
            (λ k n. (answer : Answering) × (accepted : Accepted) × Shows sides k n answer accepted) shown oks
            (λ c s. refl)
            (λ c s m n e. let o = member_each (OfOk sides) oks s concludes.each n in let a =
            member_each (Shown sides) shown c shows.each m in (a.1, o.1, shown_of c s a o e))
            (λ k n t. shown_pair k n t.0 t.1 t.2) shows.rising concludes.rising;
        verifier_verdicts = each_found is_taken verifier_finding (IsVerifierFinding sides) taken oks
            (λ c s m n e. taken_finding c s (member_each (Taken sides) taken c takes.each m)
            (member_each (OfOk sides) oks s concludes.each n) e);
        proof_verdicts = each_found is_shown proof_finding (IsProofFinding sides) shown oks
            (λ c s m n e. shown_finding c s (member_each (Shown sides) shown c shows.each m)
            (member_each (OfOk sides) oks s concludes.each n) e);
      }
    where
      taken_pair : (m n : ℕ) (accepted : Accepted) → Takes sides m n accepted
          → (client : ClientReceipt) × (server : ServerReceipt) × Member client taken × Member server oks
          × (is_taken client server ≡ true) × (client.place ≡ m) × (server.place ≡ n)
      taken_pair m n accepted t =
          let within = slice_get_within sides.client_replies m (Reported outcomes.Ok t.more) t.reported in
          let found = takes.every m (omega (arith, within, histories.client.count)) (t.more, t.reported) in
          let is = member_each (Taken sides) taken found.0 takes.each found.1 in
          let at : slice_get sides.client_replies m ≡ Some (Reported outcomes.Ok is.0) =
          subst (λ (z : ℕ). slice_get sides.client_replies z ≡ Some (Reported outcomes.Ok is.0)) found.2 is.3 in
          let verifier : VerifierText sides.client_events sides.client_replies m is.0 is.1 =
          subst (λ (z : ℕ). VerifierText sides.client_events sides.client_replies z is.0 is.1) found.2 is.5 in
          let moved : VerifierText sides.client_events sides.client_replies m t.more is.1 =
          subst (λ (z : Option (List ℕ)). VerifierText sides.client_events sides.client_replies m z is.1)
          (one_more sides.client_replies m is.0 t.more at t.reported) verifier in
          let text : is.1 ≡ t.text = one_verifier_text sides.client_events sides.client_replies m t.more is.1 t.text
          moved t.verifier in
          let part = subst (λ (z : List ℕ). Part z 0 found.0.shown) text is.6 in
          let server = ok_member oks n accepted concludes t.ok in (
            found.0,
            server.0,
            found.1,
            server.1,
            same_of found.0.shown server.0.verifier
                (one_part t.text 0 found.0.shown (final_message sides.provider accepted) part t.one
                ∙ sym server.3.verifier),
            found.2,
            server.2,
          )

      shown_pair : (k n : ℕ) (answer : Answering) (accepted : Accepted) → Shows sides k n answer accepted
          → (client : ClientReceipt) × (server : ServerReceipt) × Member client shown × Member server oks
          × (is_shown client server ≡ true) × (client.place ≡ k) × (server.place ≡ n)
      shown_pair k n answer accepted t =
          let within = slice_get_within sides.client_replies k (Answered t.body) t.answered in
          let found = shows.every k (omega (arith, within, histories.client.count))
          (t.body, answer, t.answered, t.answers) in
          let is = member_each (Shown sides) shown found.0 shows.each found.1 in
          let also : AnswersAt sides.login sides.client_events sides.client_replies k is.1 =
          subst (λ (z : ℕ). AnswersAt sides.login sides.client_events sides.client_replies z is.1) found.2 is.3 in
          let one = one_answers_at sides.login sides.client_events sides.client_replies k is.1 answer also t.answers in
          let server = ok_member oks n accepted concludes t.ok in (
            found.0,
            server.0,
            found.1,
            server.1,
            same_of found.0.shown server.0.proof
                (is.4 ∙ (ap (λ (z : Answering). proof_at sides.login z) one ∙ (t.one ∙ sym server.3.proof))),
            found.2,
            server.2,
          )

-- the same, as the code has it
pub audits_events : {E X Y F A B : Type 0} (login : Login) (provider : Provider) (given : E → Given)
    (client_says : X → ClientSays) (server_says : Y → ServerSays) (finding : F → Finding) (client : A → ClientReceipt)
    (server : B → ServerReceipt)
    → IsSecret login.secret
    → (client_events server_events : List E) (client_replies : List X) (server_replies : List Y) (shown taken : List A)
    (oks : List B) (first whole : List F)
    → ClientHistory login (map given client_events) (map client_says client_replies)
    → ServerHistory provider (map given server_events) (map server_says server_replies)
    → ClientComplete (map client_says client_replies) → ServerComplete (map server_says server_replies)
    → Covers (IsShownReceipt login (map given client_events) (map client_says client_replies))
    (λ receipt. receipt.place) (ProvesAt login (map given client_events) (map client_says client_replies))
    (length client_events) (map client shown)
    → Covers (IsTakenReceipt login (map given client_events) (map client_says client_replies))
    (λ receipt. receipt.place) (ReportsAt (map client_says client_replies)) (length client_events) (map client taken)
    → Covers (IsOkReceipt provider (map given server_events) (map server_says server_replies))
    (λ receipt. receipt.place) (ConcludesAt (map server_says server_replies)) (length server_events) (map server oks)
    → map finding first ≡ findings_of is_taken verifier_finding (map client taken) (map server oks)
    → map finding whole ≡ map finding first ++ findings_of is_shown proof_finding (map client shown) (map server oks)
    → AuditsEvents login (map given client_events) provider (map given server_events) (map finding whole)
audits_events login provider given client_says server_says finding client server held client_events server_events
    client_replies server_replies shown taken oks first whole hc hs fc fs cs ct co e f =
    let sides : Sides = record {
      login = login;
      client_events = map given client_events;
      client_replies =
          map client_says client_replies;
      provider = provider;
      server_events = map given server_events;
      server_replies =
          map server_says server_replies;
    } in
    let n : length client_events ≡ length (map given client_events) = sym (length-map client_events given) in
    let m : length server_events ≡ length (map given server_events) = sym (length-map server_events given) in (
      map client_says client_replies,
      map server_says server_replies,
      subst (Audits sides) (sym (f ∙ ap (λ z. z ++ findings_of is_shown proof_finding (map client shown)
          (map server oks)) e))
          (audits sides (record { client = hc; server = hs }) held (map client shown) (map client taken)
          (map server oks) fc fs
          (subst (λ (i : ℕ). Covers (Shown sides) (λ (r : ClientReceipt). r.place)
          (ProvesAt sides.login sides.client_events sides.client_replies) i (map client shown)) n cs)
          (subst (λ (i : ℕ). Covers (Taken sides) (λ (r : ClientReceipt). r.place) (ReportsAt sides.client_replies) i
          (map client taken)) n ct)
          (subst (λ (i : ℕ). Covers (OfOk sides) (λ (r : ServerReceipt). r.place) (ConcludesAt sides.server_replies) i
          (map server oks)) m co)),
    )
