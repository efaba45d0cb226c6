use Rattle.std.proofs.Common.{◌≡◌, Ok, Err, ℕ}
use Rattle.std.specs.Prelude.{⊤, option_map, Vec}
use Rattle.std.specs.declared.alloc.Global.{Global}
use Rattle.fe2o3_scram.specs.Credentials.{serving, with_rights}
use Rattle.fe2o3_scram.specs.MockSettings.{mocking}
use Rattle.fe2o3_scram.specs.ScramServer.{rules_in, served_by, state_in, ReachesBase64In}
use Rattle.fe2o3_sasl_wire.specs.declared.amqp_types.SaslCode.TheVariants.{Auth}
use Rattle.fe2o3_sasl_core.specs.SaslAcceptor.{sent_frame, ends_with}
use Rattle.fe2o3_sasl_core.proofs.lemmas.machines.ResponseCostLemmas.{response_costs, answer_costs, refusal_costs}
use Rattle.fe2o3_sasl_core.proofs.lemmas.steps.AcceptorReplyLemmas.{response_answered, response_refused, response_wants}
use Rattle.fe2o3_sasl_core.proofs.scram_acceptor.answer_response.Goals as goal

pub returns-in-Ok-clause-ok : goal.returns-in-Ok-clause-ok
returns-in-Ok-clause-ok g c =
    let m = g.C.ScramCredentialProvider in
    let answers = rw c.deref.ensures.value at c.in-Ok.ensures.answer in
    λ nonce. response_answered (served_by m.meaning c.args.scram.now)
    (served_by m.meaning c.compute_server_final_message_metered.new.self) (state_in c.args.scram.now)
    (state_in c.compute_server_final_message_metered.new.self) nonce _
    (Ok (option_map (λ message. message.items) c.in-Ok.answer)) (sent_frame c.conclusion.result)
    (λ i. with_rights (c.compute_server_final_message_metered.ensures.rights i)
    (mocking (c.compute_server_final_message_metered.ensures.mock i)
    (serving (c.compute_server_final_message_metered.ensures.rules i)
    (m.meaning (c.compute_server_final_message_metered.ensures.provider i))))) answers c.conclusion.ensures.frame

pub returns-in-Err-clause-ok : goal.returns-in-Err-clause-ok
returns-in-Err-clause-ok g c =
    let m = g.C.ScramCredentialProvider in
    let answers = rw c.deref.ensures.value at c.in-Err.ensures.answer in
    response_refused sent_frame (option_map (λ (message : Vec ℕ Global). message.items))
    (served_by m.meaning c.args.scram.now) (served_by m.meaning c.compute_server_final_message_metered.new.self)
    (state_in c.args.scram.now) (state_in c.compute_server_final_message_metered.new.self) _ c.in-Err.kind
    c.refusal.result
    (λ i. with_rights (c.compute_server_final_message_metered.ensures.rights i)
    (mocking (c.compute_server_final_message_metered.ensures.mock i)
    (serving (c.compute_server_final_message_metered.ensures.rules i)
    (m.meaning (c.compute_server_final_message_metered.ensures.provider i))))) answers c.refusal.ensures.auth

pub returns-in-Err-clause-memory : goal.returns-in-Err-clause-memory
returns-in-Err-clause-memory g c =
    let m = g.C.ScramCredentialProvider in
    let answers = rw c.deref.ensures.value at c.in-Err.ensures.answer in
    response_wants (option_map (λ (message : Vec ℕ Global). message.items)) (served_by m.meaning c.args.scram.now)
    (state_in c.args.scram.now) (state_in c.compute_server_final_message_metered.new.self) _ c.in-Err.kind
    c.refusal.result
    answers c.refusal.ensures.memory

pub returns-in-Ok-clause-cost : goal.returns-in-Ok-clause-cost
returns-in-Ok-clause-cost g c =
    let m = g.C.ScramCredentialProvider in
    response_costs (ReachesBase64In (state_in c.args.scram.now) (rules_in c.args.scram.now)
    c.args.response.now.response.0.items)
    (option_map (λ (message : Vec ℕ Global). message.items)) (served_by m.meaning c.args.scram.now)
    (state_in c.args.scram.now) (state_in c.compute_server_final_message_metered.new.self)
    c.args.response.now.response.0.items (Ok c.in-Ok.answer)
    c.args.meter.now c.compute_server_final_message_metered.new.meter
    (rw c.deref.ensures.value at c.in-Ok.ensures.answer) (rw c.deref.ensures.value at c.in-Ok.ensures.cost)

pub returns-in-Err-clause-cost : goal.returns-in-Err-clause-cost
returns-in-Err-clause-cost g c =
    let m = g.C.ScramCredentialProvider in
    response_costs (ReachesBase64In (state_in c.args.scram.now) (rules_in c.args.scram.now)
    c.args.response.now.response.0.items)
    (option_map (λ (message : Vec ℕ Global). message.items)) (served_by m.meaning c.args.scram.now)
    (state_in c.args.scram.now) (state_in c.compute_server_final_message_metered.new.self)
    c.args.response.now.response.0.items (Err c.in-Err.kind)
    c.args.meter.now c.compute_server_final_message_metered.new.meter
    (rw c.deref.ensures.value at c.in-Err.ensures.answer) (rw c.deref.ensures.value at c.in-Err.ensures.cost)

pub returns-in-Ok-clause-exactly : goal.returns-in-Ok-clause-exactly
returns-in-Ok-clause-exactly g c =
    let m = g.C.ScramCredentialProvider in
    λ n takes. answer_costs {E = ⊤} (ReachesBase64In (state_in c.args.scram.now) (rules_in c.args.scram.now)
    c.args.response.now.response.0.items)
    (option_map (λ (message : Vec ℕ Global). message.items)) (served_by m.meaning c.args.scram.now)
    (state_in c.args.scram.now) (state_in c.compute_server_final_message_metered.new.self)
    c.args.response.now.response.0.items c.in-Ok.answer (Ok c.conclusion.result) c.args.meter.now
    c.compute_server_final_message_metered.new.meter
    (rw c.deref.ensures.value at c.in-Ok.ensures.answer) (rw c.deref.ensures.value at c.in-Ok.ensures.cost) n takes

pub returns-in-Err-clause-exactly : goal.returns-in-Err-clause-exactly
returns-in-Err-clause-exactly g c =
    let m = g.C.ScramCredentialProvider in
    refusal_costs (ReachesBase64In (state_in c.args.scram.now) (rules_in c.args.scram.now)
    c.args.response.now.response.0.items) (λ frame. sent_frame frame ≡ ends_with Auth)
    (option_map (λ (message : Vec ℕ Global). message.items)) (served_by m.meaning c.args.scram.now)
    (state_in c.args.scram.now) (state_in c.compute_server_final_message_metered.new.self)
    c.args.response.now.response.0.items c.in-Err.kind c.refusal.result c.args.meter.now
    c.compute_server_final_message_metered.new.meter
    (rw c.deref.ensures.value at c.in-Err.ensures.answer) (rw c.deref.ensures.value at c.in-Err.ensures.cost)
    c.refusal.ensures.auth
