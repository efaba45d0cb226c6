use Rattle.std.proofs.Common.{Ok, arith, refl, ◌≤◌, ◌+◌}
use Rattle.std.proofs.lemmas.Result.{err_from_is_err_and}
use Rattle.fe2o3_scram.specs.ClientSecret.{secret_of}
use Rattle.fe2o3_scram.specs.ServerFirst.{Client, client_of, server_first_values}
use Rattle.fe2o3_scram.proofs.lemmas.messages.AnswerCostLemmas.{costs_of_answer, cost_within}
use Rattle.fe2o3_scram.proofs.lemmas.messages.ServerFirstLemmas.{salt_reached}
use Rattle.fe2o3_scram.proofs.hmac.ScramVersion.answer_server_first.Goals as goal

pub returns-in_err-message-clause-answer : goal.returns-in_err-message-clause-answer
returns-in_err-message-clause-answer c =
    let client : Client = client_of c.args.client_nonce.now (secret_of c.args.secret) c.args.limits
    c.args.header.now c.args.strict in
    let from = err_from_is_err_and c.from_residual-in_err-message.result c.from_residual-in_err-message.ensures.1 in
    rw (from.1, from.2) (
      λ _. salt_reached client c.args.server_first.now (server_first_values c.in_ok-first.first)
          c.in_ok-first.ensures.reads,
      λ other. absurd (other refl),
    )

pub returns-in_err-answer-clause-answer : goal.returns-in_err-answer-clause-answer
returns-in_err-answer-clause-answer c =
    let client : Client = client_of c.args.client_nonce.now (secret_of c.args.secret) c.args.limits
    c.args.header.now c.args.strict in
    let from = err_from_is_err_and c.from_residual-in_err-answer.result c.from_residual-in_err-answer.ensures.1 in
    rw (from.1, from.2) (
      λ _. salt_reached client c.args.server_first.now (server_first_values c.in_ok-first.first)
          c.in_ok-first.ensures.reads,
      λ other. absurd (other c.in_err-answer.ensures.memory),
    )

pub returns-in_err-answer-clause-cost : goal.returns-in_err-answer-clause-cost
returns-in_err-answer-clause-cost c =
    let client : Client = client_of c.args.client_nonce.now (secret_of c.args.secret) c.args.limits
    c.args.header.now c.args.strict in
    let from = err_from_is_err_and c.from_residual-in_err-answer.result c.from_residual-in_err-answer.ensures.1 in
    let made = c.keys_for-keys.ensures.counted in
    let two = cost_within client.secret (server_first_values c.in_ok-first.first) in
    let most : c.answer.new.meter ≤ c.keys_for-keys.new.meter + 2 = c.in_err-answer.ensures.at_most in
    costs_of_answer client c.args.server_first.now c.from_residual-in_err-answer.result
    (server_first_values c.in_ok-first.first) c.args.meter.now c.answer.new.meter
    c.in_ok-first.ensures.reads c.in_ok-first.ensures.count.1 (rw from.1 tt)
    (omega (arith, made, most)) (omega (arith, made, two.0, c.in_err-answer.ensures.never_falls))

pub returns-clause-cost : goal.returns-clause-cost
returns-clause-cost c =
    let client : Client = client_of c.args.client_nonce.now (secret_of c.args.secret) c.args.limits
    c.args.header.now c.args.strict in
    let is = c.keys_for-keys.ensures.counted in
    let counted = c.in_ok-answer.ensures.counted in
    costs_of_answer client c.args.server_first.now (Ok c.in_ok-answer.answer)
    (server_first_values c.in_ok-first.first) c.args.meter.now c.answer.new.meter
    c.in_ok-first.ensures.reads c.in_ok-first.ensures.count.1 (omega (arith, is, counted))
    (omega (arith, is, counted)) (omega (arith, is, counted))
