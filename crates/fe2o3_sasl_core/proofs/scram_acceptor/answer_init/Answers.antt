use Rattle.std.proofs.Common.{◌≡◌, ◌∙◌, refl, sym, subst, None, Some, Ok, Err, ℕ, List, Option}
use Rattle.std.specs.Prelude.{option_map, string_bytes, Vec}
use Rattle.std.specs.declared.alloc.Global.{Global}
use Rattle.fe2o3_sasl_wire.specs.declared.amqp_types.SaslCode.TheVariants.{Auth}
use Rattle.fe2o3_scram.specs.Credentials.{serving, with_rights}
use Rattle.fe2o3_scram.specs.MockSettings.{mocking}
use Rattle.fe2o3_scram.specs.ScramServer.{FirstCosts, provider_in, served_by, state_in}
use Rattle.fe2o3_scram.specs.ServerFirst.{ReachesChallenge}
use Rattle.fe2o3_sasl_core.specs.SaslAcceptor.{ends_with, sent_frame}
use Rattle.fe2o3_sasl_core.specs.ScramRejections.{known_by}
use Rattle.fe2o3_sasl_core.proofs.lemmas.machines.InitCostLemmas.{refusal_most, refusal_takes}
use Rattle.fe2o3_sasl_core.proofs.lemmas.machines.LoginAttemptLemmas.{not_apart}
use Rattle.fe2o3_sasl_core.proofs.lemmas.machines.RejectionLemmas.{first_rejected}
use Rattle.fe2o3_sasl_core.proofs.lemmas.steps.AcceptorReplyLemmas.{init_answered, init_refused, init_wants}
use Rattle.fe2o3_sasl_core.proofs.scram_acceptor.answer_init.Goals as goal

pub returns-in-Ok-Some-clause-ok : goal.returns-in-Ok-Some-clause-ok
returns-in-Ok-Some-clause-ok g c =
    let m = g.C.ScramCredentialProvider in
    let name = (sym c.as_str.ensures.text ∙ not_apart c.as_str.result.now c.mechanism.result.now c.if-ne.ensures)
    ∙ c.mechanism.ensures in
    let made = c.compute_server_first_message_metered in
    let answers = rw c.deref.ensures.value at (rw c.in-Ok-Some.field-0-is at c.in-Ok-Some.ensures.answer) in
    rw c.in-Some.is (init_answered (served_by m.meaning c.args.scram.now) (served_by m.meaning made.new.self)
    (state_in c.args.scram.now) (state_in made.new.self) c.args.nonce.now c.args.init.now.mechanism
    c.in-Some.client_first.0.items (option_map string_bytes c.args.init.now.hostname)
    (Ok (Some c.in-Ok-Some.server_first.items)) (sent_frame c.challenge.result)
    (λ i. with_rights (made.ensures.rights i)
    (mocking (made.ensures.mock i) (serving (made.ensures.rules i) (m.meaning (made.ensures.provider i)))))
    name answers (rw c.in-Ok-Some.field-0-is at c.challenge.ensures.frame))

pub returns-in-Ok-None-clause-ok : goal.returns-in-Ok-None-clause-ok
returns-in-Ok-None-clause-ok g c =
    let m = g.C.ScramCredentialProvider in
    let name = (sym c.as_str.ensures.text ∙ not_apart c.as_str.result.now c.mechanism.result.now c.if-ne.ensures)
    ∙ c.mechanism.ensures in
    let made = c.compute_server_first_message_metered in
    let answers = rw c.deref.ensures.value at (rw c.in-Ok-None.field-0-is at c.in-Ok-None.ensures.answer) in
    rw c.in-Some.is (init_answered (served_by m.meaning c.args.scram.now) (served_by m.meaning made.new.self)
    (state_in c.args.scram.now) (state_in made.new.self) c.args.nonce.now c.args.init.now.mechanism
    c.in-Some.client_first.0.items (option_map string_bytes c.args.init.now.hostname)
    (Ok None) (ends_with Auth)
    (λ i. with_rights (made.ensures.rights i)
    (mocking (made.ensures.mock i) (serving (made.ensures.rules i) (m.meaning (made.ensures.provider i)))))
    name answers refl)

pub returns-in-Err-clause-ok : goal.returns-in-Err-clause-ok
returns-in-Err-clause-ok g c =
    let m = g.C.ScramCredentialProvider in
    let name = (sym c.as_str.ensures.text ∙ not_apart c.as_str.result.now c.mechanism.result.now c.if-ne.ensures)
    ∙ c.mechanism.ensures in
    let made = c.compute_server_first_message_metered in
    let answers = rw c.deref.ensures.value at c.in-Err.ensures.answer in
    rw c.in-Some.is (init_refused sent_frame (option_map (λ (message : Vec ℕ Global). message.items))
    (served_by m.meaning c.args.scram.now) (served_by m.meaning made.new.self) (state_in c.args.scram.now)
    (state_in made.new.self) c.args.nonce.now c.args.init.now.mechanism c.in-Some.client_first.0.items
    (option_map string_bytes c.args.init.now.hostname) c.in-Err.kind c.refusal.result
    (λ i. with_rights (made.ensures.rights i)
    (mocking (made.ensures.mock i) (serving (made.ensures.rules i) (m.meaning (made.ensures.provider i)))))
    name answers c.refusal.ensures.auth)

pub returns-in-Err-clause-reason : goal.returns-in-Err-clause-reason
returns-in-Err-clause-reason g c =
    let m = g.C.ScramCredentialProvider in
    let name = (sym c.as_str.ensures.text ∙ not_apart c.as_str.result.now c.mechanism.result.now c.if-ne.ensures)
    ∙ c.mechanism.ensures in
    let answers = rw c.deref.ensures.value at c.in-Err.ensures.answer in
    let first = rw (c.rules.ensures ∙ c.compute_server_first_message_metered.ensures.rules)
    at (rw c.deref-in-Err.ensures.value at c.reason_of_first.ensures) in
    rw c.in-Some.is (first_rejected (option_map (λ (message : Vec ℕ Global). message.items))
    (known_by (m.meaning (provider_in c.args.scram.now)))
    (served_by m.meaning c.args.scram.now) (state_in c.args.scram.now)
    (state_in c.compute_server_first_message_metered.new.self) c.args.nonce.now c.args.init.now.mechanism
    c.in-Some.client_first.0.items (option_map string_bytes c.args.init.now.hostname) c.in-Err.kind
    c.reason_of_first.result c.refusal.result name answers first c.refusal.ensures.auth c.refusal.ensures.reason)

pub returns-in-Err-clause-memory : goal.returns-in-Err-clause-memory
returns-in-Err-clause-memory g c =
    let m = g.C.ScramCredentialProvider in
    let name = (sym c.as_str.ensures.text ∙ not_apart c.as_str.result.now c.mechanism.result.now c.if-ne.ensures)
    ∙ c.mechanism.ensures in
    let answers = rw c.deref.ensures.value at c.in-Err.ensures.answer in
    rw c.in-Some.is (init_wants (option_map (λ (message : Vec ℕ Global). message.items))
    (served_by m.meaning c.args.scram.now) (state_in c.args.scram.now)
    (state_in c.compute_server_first_message_metered.new.self) c.args.nonce.now
    c.args.init.now.mechanism c.in-Some.client_first.0.items (option_map string_bytes c.args.init.now.hostname)
    c.in-Err.kind c.refusal.result name answers c.refusal.ensures.memory)

pub returns-in-Err-clause-cost : goal.returns-in-Err-clause-cost
returns-in-Err-clause-cost g c =
    let m = g.C.ScramCredentialProvider in
    let name = (sym c.as_str.ensures.text ∙ not_apart c.as_str.result.now c.mechanism.result.now c.if-ne.ensures)
    ∙ c.mechanism.ensures in
    rw c.in-Some.is (refusal_most (served_by m.meaning c.args.scram.now) (state_in c.args.scram.now) c.args.init.now.mechanism
    c.in-Some.client_first.0.items (option_map string_bytes c.args.init.now.hostname)
    (state_in c.compute_server_first_message_metered.new.self) c.args.nonce.now name
    (Option (Vec ℕ Global)) c.in-Err.kind c.args.meter.now _
    (subst (λ (text : List ℕ). FirstCosts {A = Option (Vec ℕ Global)} (served_by m.meaning c.args.scram.now) text
    (Err c.in-Err.kind) c.args.meter.now c.compute_server_first_message_metered.new.meter) c.deref.ensures.value
    c.in-Err.ensures.cost))

pub returns-in-Err-clause-exactly : goal.returns-in-Err-clause-exactly
returns-in-Err-clause-exactly g c =
    let m = g.C.ScramCredentialProvider in
    let name = (sym c.as_str.ensures.text ∙ not_apart c.as_str.result.now c.mechanism.result.now c.if-ne.ensures)
    ∙ c.mechanism.ensures in
    let answers = rw c.deref.ensures.value at c.in-Err.ensures.answer in
    rw c.in-Some.is (refusal_takes (served_by m.meaning c.args.scram.now) (state_in c.args.scram.now) c.args.init.now.mechanism
    c.in-Some.client_first.0.items (option_map string_bytes c.args.init.now.hostname)
    (state_in c.compute_server_first_message_metered.new.self) c.args.nonce.now name
    (Option (Vec ℕ Global)) (Option (Vec ℕ Global))
    (ReachesChallenge (served_by m.meaning c.args.scram.now) c.in-Some.client_first.0.items)
    (λ frame. sent_frame frame ≡ ends_with Auth) (option_map (λ (message : Vec ℕ Global). message.items))
    c.in-Err.kind c.refusal.result c.args.meter.now _ answers
    (subst (λ (text : List ℕ). FirstCosts {A = Option (Vec ℕ Global)} (served_by m.meaning c.args.scram.now) text
    (Err c.in-Err.kind) c.args.meter.now c.compute_server_first_message_metered.new.meter) c.deref.ensures.value
    c.in-Err.ensures.cost) c.refusal.ensures.auth)
