use Rattle.fe2o3_scram.specs.ScramServer.{challenge_kept, state_in}
use Rattle.sasl_c.proofs.ServerLemmas.{one_challenge, opens_asks, opens_exchange, opens_text}
use Rattle.sasl_c.proofs.server_calls.first_into.Goals as goal

pub returns-clause-text : goal.returns-clause-text
returns-clause-text c =
    let held = c.in-Ok.ensures.ok in
    opens_text c.args.rules c.args.kept.now c.args.nonce.now c.args.client_first.now held.0
    (challenge_kept c.in-Some.challenge) _ _ _ _ _ c.open_into-written.result held.3
    (one_challenge (state_in c.in-Ok.machine) held.0 (challenge_kept c.in-Some.challenge) held.1 held.2 c.in-Some.ensures)
    c.open_into-written.ensures

pub returns-clause-moved : goal.returns-clause-moved
returns-clause-moved c =
    let held = c.in-Ok.ensures.ok in
    opens_exchange c.args.rules c.args.kept.now c.args.nonce.now c.args.client_first.now held.0
    (challenge_kept c.in-Some.challenge) _ _ _ _ c.open_into-written.result held.3
    (one_challenge (state_in c.in-Ok.machine) held.0 (challenge_kept c.in-Some.challenge) held.1 held.2 c.in-Some.ensures)
    c.open_into-written.ensures

pub returns-clause-memory : goal.returns-clause-memory
returns-clause-memory c = opens_asks _ _ _ _ _ _ _ _ c.open_into-written.ensures
