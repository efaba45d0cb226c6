use Rattle.sasl_c.proofs.ClientLemmas.{no_verification, not_waiting, server_verified, tested_header, unverified}
use Rattle.sasl_c.proofs.client_calls.verify.Goals as goal

pub returns-in-Err-validate_server_final_with_header-clause-verifies :
    goal.returns-in-Err-validate_server_final_with_header-clause-verifies
returns-in-Err-validate_server_final_with_header-clause-verifies c =
    unverified c.args.login.now c.args.client.now c.args.server_final.now c.in-Some.signature.now c.in-Ok.version
    c.in-Ok-header.header c.in-Err-validate_server_final_with_header.why c.verify_status.result c.in-Ok.ensures.ok.0
    c.in-Ok.ensures.ok.1 c.in-Ok-header.ensures.tested.0 c.in-Some.ensures.0
    c.in-Some.ensures.1 (rw c.is_set-strict.ensures at c.in-Err-validate_server_final_with_header.ensures.1)
    c.verify_status.ensures.status

pub returns-in-Err-clause-verifies : goal.returns-in-Err-clause-verifies
returns-in-Err-clause-verifies c =
    no_verification c.args.login.now c.args.client.now c.args.server_final.now c.in-Err.status c.in-Err.ensures.err

pub returns-in_default-clause-verifies : goal.returns-in_default-clause-verifies
returns-in_default-clause-verifies c =
    not_waiting c.args.login.now c.args.client.now c.args.server_final.now c.in-Ok.version c.in-Ok.ensures.ok.0
    c.in-Ok.ensures.ok.1 c.in_default.ensures

pub returns-clause-verifies : goal.returns-clause-verifies
returns-clause-verifies c =
    server_verified c.args.login.now c.args.client.now c.complete.new.self c.args.server_final.now c.in-Some.signature.now
    c.in-Ok.version c.in-Ok-header.header c.in_default-validate_server_final_with_header.field-0 c.in-Ok.ensures.ok.0
    c.in-Ok.ensures.ok.1 c.in-Ok-header.ensures.tested.0 c.in-Some.ensures.0 c.in-Some.ensures.1
    (rw c.is_set-strict.ensures at c.in_default-validate_server_final_with_header.ensures) c.complete.ensures

pub returns-in-Err-header-clause-verifies : goal.returns-in-Err-header-clause-verifies
returns-in-Err-header-clause-verifies c =
    absurd (tested_header c.args.login.now c.in-Err-header.status c.in-Ok.ensures.ok.1 c.in-Err-header.ensures.tested)
