use Rattle.std.proofs.Common.{rules, ◌∙◌, Ok, Err, option_map}
use Rattle.std.specs.Prelude.{Some, None}
use Rattle.fe2o3_scram.specs.ClientFirst.{client_first_values}
use Rattle.fe2o3_scram.specs.Credentials.{Store}
use Rattle.fe2o3_scram.specs.ScramServer.{ChallengesFrom, mock_in, provider_in, served_by, state_in, rules_in}
use Rattle.sasl_c.proofs.ServerLemmas.{challenged, challenges_so, failed, never_unknown, not_shown, unread}
use Rattle.sasl_c.proofs.StatusLemmas.{carried}
use Rattle.sasl_c.proofs.server_calls.challenged.Goals as goal

pub returns-in-Err-clause-err : goal.returns-in-Err-clause-err
returns-in-Err-clause-err c = search (rules, unread)

pub returns-in-Err-read-clause-err : goal.returns-in-Err-read-clause-err
returns-in-Err-read-clause-err c = λ other.
    not_shown c.args.rules c.args.kept.now c.args.nonce.now c.args.client_first.now
    (client_first_values c.in-Ok.first)
    c.in-Err-read.status c.in-Ok.ensures.answer (c.in-Err-read.ensures.err other)

pub returns-in-Ok-Some-clause-ok : goal.returns-in-Ok-Some-clause-ok
returns-in-Ok-Some-clause-ok c =
    let machine = c.server_over-machine.result in
    let next = state_in c.compute_server_first_message.new.self in
    let answered = carried (λ answer. ChallengesFrom (state_in machine) (served_by (λ (store : Store). store) machine)
    c.args.nonce.now c.args.client_first.now (Ok (option_map (λ message. message.items) answer)) next)
    c.in-Ok-Some.field-0 (Some c.in-Ok-Some.field-0-0) c.in-Ok-Some.field-0-is c.in-Ok-Some.ensures.answer in
    let held = challenges_so (state_in machine) next (provider_in machine) (mock_in machine) (rules_in machine)
    c.args.rules c.args.nonce.now c.args.client_first.now (Ok (Some c.in-Ok-Some.field-0-0.items))
    c.server_over-machine.ensures.mock c.server_over-machine.ensures.rules answered in
    challenged c.args.rules c.args.kept.now c.args.nonce.now c.args.client_first.now _ _ c.in-Ok-read.kept
    (provider_in machine) (state_in machine) next c.in-Ok-read.ensures.ok
    (c.server_over-machine.ensures.provider ∙ c.new-credential.ensures) held

pub returns-in-Ok-None-clause-err : goal.returns-in-Ok-None-clause-err
returns-in-Ok-None-clause-err c = λ _.
    let machine = c.server_over-machine.result in
    let next = state_in c.compute_server_first_message.new.self in
    let answered = carried (λ answer. ChallengesFrom (state_in machine) (served_by (λ (store : Store). store) machine)
    c.args.nonce.now c.args.client_first.now (Ok (option_map (λ message. message.items) answer)) next)
    c.in-Ok-None.field-0 None c.in-Ok-None.field-0-is c.in-Ok-None.ensures.answer in
    let held = challenges_so (state_in machine) next (provider_in machine) (mock_in machine) (rules_in machine)
    c.args.rules c.args.nonce.now c.args.client_first.now (Ok None) c.server_over-machine.ensures.mock
    c.server_over-machine.ensures.rules answered in
    never_unknown c.args.rules c.args.kept.now c.args.nonce.now c.args.client_first.now _ c.in-Ok-read.kept
    (provider_in machine) (state_in machine) next (client_first_values c.in-Ok.first) _
    c.in-Ok.ensures.answer c.in_ok-username.ensures.ok
    (c.server_over-machine.ensures.provider ∙ c.new-credential.ensures) held

pub returns-clause-err : goal.returns-clause-err
returns-clause-err c =
    let machine = c.server_over-machine.result in
    let why = c.in-Err-compute_server_first_message.why in
    failed c.args.rules c.args.kept.now c.args.nonce.now c.args.client_first.now (provider_in machine)
    (state_in machine) _ why c.from-in-Err-compute_server_first_message.result
    (λ other. challenges_so _ _ (provider_in machine) (mock_in machine) (rules_in machine) c.args.rules c.args.nonce.now
    c.args.client_first.now (Err why) c.server_over-machine.ensures.mock c.server_over-machine.ensures.rules
    (c.in-Err-compute_server_first_message.ensures.answer.1 other))
    c.from-in-Err-compute_server_first_message.ensures
