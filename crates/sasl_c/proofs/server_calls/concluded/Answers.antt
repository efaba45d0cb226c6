use Rattle.std.proofs.Common.{rules, ap, ◌∙◌, ℕ, List}
use Rattle.std.specs.Prelude.{Option}
use Rattle.fe2o3_scram.specs.Credentials.{kept, versioned}
use Rattle.fe2o3_scram.specs.ScramServer.{challenge_kept}
use Rattle.fe2o3_scram.specs.ChannelBinding.{ClientHeader}
use Rattle.fe2o3_scram.specs.declared.scram_messages.client_channel.ClientChannel.{ClientChannel}
use Rattle.sasl_c.proofs.ServerLemmas.{concluded, final_asks, keeps_none, memory_costs, not_open, refuses}
use Rattle.sasl_c.proofs.server_calls.concluded.Goals as goal

-- the header of a client that says this of its channel
abbrev with_channel : Option (List ℕ) → ClientChannel → ClientHeader
with_channel acts_for channel = record { channel = channel; acts_for = acts_for }

pub returns-in_default-clause-err : goal.returns-in_default-clause-err
returns-in_default-clause-err c = search (rules, not_open)

pub returns-in-Err-clause-err : goal.returns-in-Err-clause-err
returns-in-Err-clause-err c = λ _.
    keeps_none c.args.rules c.args.identities.now c.args.kept.now c.args.server.now c.args.client_final.now
    (challenge_kept c.in-Some.challenge) c.in-Err.status
    c.in-Some.ensures c.in-Err.ensures.err

pub returns-in-Ok-compute_server_final_message_with_header-clause-ok :
    goal.returns-in-Ok-compute_server_final_message_with_header-clause-ok
returns-in-Ok-compute_server_final_message_with_header-clause-ok c =
    let answered = rw (c.new-header.ensures, c.expected_channel.ensures, c.is_strict-strict.ensures, c.may_act.ensures)
    at c.in-Ok-compute_server_final_message_with_header.ensures.answer in
    let all = concluded c.args.rules c.args.identities.now c.args.kept.now c.args.server.now c.args.client_final.now
    c.in-Ok-compute_server_final_message_with_header.message.items
    (challenge_kept c.in-Some.challenge) (versioned c.in-Ok.shown.0 (kept c.in-Ok.shown.1)) c.in-Some.ensures
    c.in-Ok.ensures.ok answered in
    (c.in-Some.challenge.username.now, (challenge_kept c.in-Some.challenge).header.acts_for, all.0)

pub returns-in-Ok-compute_server_final_message_with_header-clause-fits :
    goal.returns-in-Ok-compute_server_final_message_with_header-clause-fits
returns-in-Ok-compute_server_final_message_with_header-clause-fits c =
    let answered = rw (c.new-header.ensures, c.expected_channel.ensures, c.is_strict-strict.ensures, c.may_act.ensures)
    at c.in-Ok-compute_server_final_message_with_header.ensures.answer in
    let all = concluded c.args.rules c.args.identities.now c.args.kept.now c.args.server.now c.args.client_final.now
    c.in-Ok-compute_server_final_message_with_header.message.items
    (challenge_kept c.in-Some.challenge) (versioned c.in-Ok.shown.0 (kept c.in-Ok.shown.1)) c.in-Some.ensures
    c.in-Ok.ensures.ok answered in
    all.1

pub returns-in-Err-compute_server_final_message_with_header-clause-err :
    goal.returns-in-Err-compute_server_final_message_with_header-clause-err
returns-in-Err-compute_server_final_message_with_header-clause-err c =
    let answered = rw (c.new-header.ensures, c.expected_channel.ensures, c.is_strict-strict.ensures, c.may_act.ensures)
    at c.in-Err-compute_server_final_message_with_header.ensures.answer.1 in
    refuses c.args.rules c.args.identities.now c.args.kept.now c.args.server.now c.args.client_final.now
    (challenge_kept c.in-Some.challenge) (versioned c.in-Ok.shown.0 (kept c.in-Ok.shown.1))
    c.in-Err-compute_server_final_message_with_header.why c.from.result c.in-Some.ensures c.in-Ok.ensures.ok
    answered c.from.ensures

pub returns-in-Err-compute_server_final_message_with_header-clause-memory :
    goal.returns-in-Err-compute_server_final_message_with_header-clause-memory
returns-in-Err-compute_server_final_message_with_header-clause-memory c =
    let reaches = rw (c.new-header.ensures, c.expected_channel.ensures)
    at c.in-Err-compute_server_final_message_with_header.ensures.answer.0 in
    final_asks c.args.rules c.args.kept.now c.args.server.now c.args.client_final.now (challenge_kept c.in-Some.challenge)
    (versioned c.in-Ok.shown.0 (kept c.in-Ok.shown.1))
    c.in-Err-compute_server_final_message_with_header.why c.from.result c.in-Some.ensures c.in-Ok.ensures.ok
    reaches c.from.ensures

pub returns-in-Err-compute_server_final_message_with_header-clause-cost :
    goal.returns-in-Err-compute_server_final_message_with_header-clause-cost
returns-in-Err-compute_server_final_message_with_header-clause-cost c =
    memory_costs (Unit {0}) c.args.rules c.args.identities.now c.args.kept.now c.args.server.now c.args.client_final.now
    (challenge_kept c.in-Some.challenge)
    c.new-header.result c.is_strict-strict.result c.may_act.result (versioned c.in-Ok.shown.0 (kept c.in-Ok.shown.1))
    c.in-Err-compute_server_final_message_with_header.why c.from.result _ _ c.in-Some.ensures c.in-Ok.ensures.ok
    (c.new-header.ensures ∙ ap (with_channel (challenge_kept c.in-Some.challenge).header.acts_for) c.expected_channel.ensures)
    c.is_strict-strict.ensures c.may_act.ensures c.in-Err-compute_server_final_message_with_header.ensures.cost c.from.ensures
