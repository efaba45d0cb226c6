use Rattle.std.proofs.Common.{◌++◌, map, length, ◌∙◌, subst}
use Rattle.fe2o3_scram.specs.Credentials.{Provider, serving}
use Rattle.fe2o3_sasl.specs.Audit.{finding_of}
use Rattle.fe2o3_sasl_core.specs.Complete.{ClientComplete, ServerComplete}
use Rattle.fe2o3_sasl_core.specs.Events.{Login}
use Rattle.fe2o3_sasl_core.specs.Runs.{given, client_answer, server_answer, login_with}
use Rattle.fe2o3_sasl.specs.private.Findings.{client_receipt, server_receipt, is_taken, is_shown, verifier_finding, proof_finding, findings_of}
use Rattle.fe2o3_sasl.specs.private.Receipts.{Covers, IsShownReceipt, IsTakenReceipt, IsOkReceipt, ProvesAt, ReportsAt, ConcludesAt}
use Rattle.fe2o3_sasl.proofs.lemmas.audit.AuditLemmas.{audits_events}
use Rattle.fe2o3_sasl.proofs.audit.audit_with_options.Goals as goal

pub returns : goal.returns
returns g c =
    let login : Login = login_with c.args.options c.args.version c.args.user.now c.args.password.now in
    let provider : Provider =
    serving c.args.rules (g.C.ScramCredentialProvider.meaning c.args.credentials.now) in
    let inputs = map given c.args.client_events.now in
    let others = map given c.args.server_events.now in
    let shown = c.in_ok-client.client.shown.items in
    let taken = c.in_ok-client.client.taken.items in
    let oks = c.in_ok-oks.oks.items in
    audits_events login provider given client_answer server_answer finding_of client_receipt server_receipt tt
    c.args.client_events.now c.args.server_events.now c.in_ok-client_replies.client_replies.items
    c.in_ok-server_replies.server_replies.items shown taken oks c.match_verifiers.new.findings.items
    c.match_proofs.new.findings.items c.in_ok-client_replies.ensures.history c.in_ok-server_replies.ensures.history
    (subst (λ z. ClientComplete (map client_answer z)) c.deref.ensures.value
    (c.client_is_complete.ensures.0 c.if-not-client_is_complete.false))
    (subst (λ z. ServerComplete (map server_answer z)) c.deref-2.ensures.value
    (c.server_is_complete.ensures.0 c.if-not-server_is_complete.false))
    (subst (λ z. Covers (IsShownReceipt login inputs (map client_answer z)) (λ receipt. receipt.place)
    (ProvesAt login inputs (map client_answer z)) (length c.args.client_events.now) (map client_receipt shown))
    c.deref-3.ensures.value c.in_ok-client.ensures.shown)
    (subst (λ z. Covers (IsTakenReceipt login inputs (map client_answer z)) (λ receipt. receipt.place)
    (ReportsAt (map client_answer z)) (length c.args.client_events.now) (map client_receipt taken))
    c.deref-3.ensures.value c.in_ok-client.ensures.taken)
    (subst (λ z. Covers (IsOkReceipt provider others (map server_answer z)) (λ receipt. receipt.place)
    (ConcludesAt (map server_answer z)) (length c.args.server_events.now) (map server_receipt oks))
    c.deref-4.ensures.value c.in_ok-oks.ensures)
    (c.in_ok-match_verifiers.ensures
    ∙ (λ i. map finding_of (c.new-findings.ensures.items i) ++ findings_of is_taken verifier_finding
    (map client_receipt (c.deref-5.ensures.value i)) (map server_receipt (c.deref-6.ensures.value i))))
    (c.in_ok-match_proofs.ensures
    ∙ (λ i. map finding_of c.match_verifiers.new.findings.items ++ findings_of is_shown proof_finding
    (map client_receipt (c.deref-7.ensures.value i)) (map server_receipt (c.deref-8.ensures.value i))))
