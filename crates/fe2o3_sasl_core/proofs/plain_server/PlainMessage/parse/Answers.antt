use Rattle.fe2o3_sasl_core.proofs.lemmas.machines.PlainMessageLemmas.{cut_once, cut_thrice, cut_twice}
use Rattle.fe2o3_sasl_core.proofs.plain_server.PlainMessage.parse.Goals as goal

pub returns-in_err-username : goal.returns-in_err-username
returns-in_err-username c = rw c.from_residual-in_err-username.ensures (cut_once c.args.text.now
    c.in_ok-identity.identity.now c.in_ok-identity.rest.now c.in_ok-identity.ensures c.in_err-username.ensures)

pub returns-in-Some : goal.returns-in-Some
returns-in-Some c = cut_thrice c.args.text.now c.in_ok-identity.identity.now c.in_ok-identity.rest.now
    c.in_ok-username.username.now c.in_ok-username.password.now c.in-Some.field-0.0.now c.in-Some.field-0.1.now
    c.in_ok-identity.ensures c.in_ok-username.ensures c.in-Some.ensures

pub returns-in-None : goal.returns-in-None
returns-in-None c = cut_twice c.args.text.now c.in_ok-identity.identity.now c.in_ok-identity.rest.now
    c.in_ok-username.username.now c.in_ok-username.password.now c.utf8.text c.in_ok-identity.ensures
    c.in_ok-username.ensures c.in-None.ensures
