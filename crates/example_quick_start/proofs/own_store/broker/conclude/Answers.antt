use Rattle.std.proofs.Common.{Result, Ok, Err, ap}
use Rattle.std.specs.Result.{IfOk}
use Rattle.fe2o3_scram.specs.ScramServer.{logged_in, provider_in, rights_in, rules_in, state_in}
use Rattle.fe2o3_scram.proofs.lemmas.messages.LoginLemmas.{accepted_texts_log_in}
use Rattle.example_quick_start.proofs.own_store.broker.conclude.Goals as goal

-- what holds whatever the result is
always : {T E : Type 0} {P : Type 0} → P → (result : Result T E) → IfOk result (λ _. P)
always is (Ok value) = is
always is (Err fault) = tt

pub returns : goal.returns
returns c =
    let logs = accepted_texts_log_in (state_in c.args.server.now) (state_in c.compute_server_final_message.new.self)
    (provider_in c.args.server.now).value.version (rules_in c.args.server.now) (rights_in c.args.server.now)
    c.args.client_final.now _ c.in_ok-signature.ensures.answer in
    always (logs.0, logs.1, logs.2, ap logged_in logs.3) c.context.result
