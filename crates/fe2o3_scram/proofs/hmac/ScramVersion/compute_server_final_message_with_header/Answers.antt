use Rattle.std.proofs.Common.{Vec, ℕ}
use Rattle.std.proofs.lemmas.Result.{err_from_is_err_and}
use Rattle.std.specs.declared.alloc.Global.{Global}
use Rattle.fe2o3_scram.specs.Credentials.{kept}
use Rattle.fe2o3_scram.specs.ClientFinal.{Server, server_of, client_final_values}
use Rattle.fe2o3_scram.proofs.lemmas.messages.ClientFinalLemmas.{text_refused, text_costs_nothing, proof_answered, proof_costs}
use Rattle.fe2o3_scram.proofs.hmac.ScramVersion.compute_server_final_message_with_header.Goals as goal

pub returns-in_err-client_final-clause-answer : goal.returns-in_err-client_final-clause-answer
returns-in_err-client_final-clause-answer c =
    let server : Server = server_of c.args.self.now c.args.header.now c.args.strict c.args.client_first_message_bare.now
    c.args.server_first_message.now c.args.client_server_nonce.now (kept c.args.stored_password.now) c.args.may_act in
    let from = err_from_is_err_and c.from_residual.result c.from_residual.ensures.1 in
    rw (from.1, from.2) (
      (rw c.is_strict-strict.ensures at c.in_err-client_final.ensures).0,
      λ other. text_refused server c.args.client_final.now c.in_err-client_final.field-0.0
          ((rw c.is_strict-strict.ensures at c.in_err-client_final.ensures).1 other),
    )

pub returns-in_err-client_final-clause-cost : goal.returns-in_err-client_final-clause-cost
returns-in_err-client_final-clause-cost c =
    let server : Server = server_of c.args.self.now c.args.header.now c.args.strict c.args.client_first_message_bare.now
    c.args.server_first_message.now c.args.client_server_nonce.now (kept c.args.stored_password.now) c.args.may_act in
    let from = err_from_is_err_and c.from_residual.result c.from_residual.ensures.1 in
    rw (from.1, from.2) (text_costs_nothing (Vec ℕ Global) server c.args.client_final.now
    c.in_err-client_final.field-0.0 c.args.meter.now (rw c.is_strict-strict.ensures at c.in_err-client_final.ensures).1)

pub returns-clause-answer : goal.returns-clause-answer
returns-clause-answer c =
    let server : Server = server_of c.args.self.now c.args.header.now c.args.strict c.args.client_first_message_bare.now
    c.args.server_first_message.now c.args.client_server_nonce.now (kept c.args.stored_password.now) c.args.may_act in
    proof_answered server c.args.client_final.now (λ (message : Vec ℕ Global). message.items)
    (client_final_values c.in_ok-client_final.client_final) c.answer_proof.result
    (rw c.is_strict-strict.ensures at c.in_ok-client_final.ensures)
    (c.answer_proof.ensures.answer c.args.header.now c.args.strict c.args.client_server_nonce.now)

pub returns-clause-cost : goal.returns-clause-cost
returns-clause-cost c =
    let server : Server = server_of c.args.self.now c.args.header.now c.args.strict c.args.client_first_message_bare.now
    c.args.server_first_message.now c.args.client_server_nonce.now (kept c.args.stored_password.now) c.args.may_act in
    proof_costs server c.args.client_final.now (λ (message : Vec ℕ Global). message.items)
    (client_final_values c.in_ok-client_final.client_final) c.answer_proof.result _ _
    (rw c.is_strict-strict.ensures at c.in_ok-client_final.ensures)
    (c.answer_proof.ensures.answer c.args.header.now c.args.strict c.args.client_server_nonce.now) c.answer_proof.ensures.cost
