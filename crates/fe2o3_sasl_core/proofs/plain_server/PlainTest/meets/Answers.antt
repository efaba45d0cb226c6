use Rattle.std.proofs.Common.{sym}
use Rattle.fe2o3_scram.specs.Credentials.{kept, record_at}
use Rattle.fe2o3_scram.specs.Passwords.{password_of}
use Rattle.fe2o3_sasl_core.proofs.lemmas.machines.PlainServerLemmas.{costs_known, costs_unknown, unknown}
use Rattle.fe2o3_sasl_core.proofs.plain_server.PlainTest.meets.Goals as goal

pub returns-in-Some-clause-cost : goal.returns-in-Some-clause-cost
returns-in-Some-clause-cost g c = costs_known (password_of c.args.password) c.args.self.now.iterations
    (record_at (g.C.ScramCredentialProvider.meaning c.args.self.now.credentials.now).records c.args.username.now)
    (kept c.in-Some.stored_password) c.args.meter.now c.verify_password.new.meter
    (rw c.in-Some.is at c.get_stored_password.ensures) c.verify_password.ensures.cost

pub returns-in-None-clause-cost : goal.returns-in-None-clause-cost
returns-in-None-clause-cost g c = costs_unknown (password_of c.args.password) c.args.self.now.iterations
    (record_at (g.C.ScramCredentialProvider.meaning c.args.self.now.credentials.now).records c.args.username.now)
    c.mock.result.iterations c.args.meter.now c.verify_password-in-None.new.meter
    (rw c.in-None.is at c.get_stored_password.ensures) c.mock.ensures.count c.verify_password-in-None.ensures.cost

pub returns-in-None-clause-verdict : goal.returns-in-None-clause-verdict
returns-in-None-clause-verdict g c = unknown (g.C.ScramCredentialProvider.meaning c.args.self.now.credentials.now)
    c.args.username.now (password_of c.args.password) (kept c.mock.result) c.verify_password-in-None.result
    (sym (rw c.in-None.is at c.get_stored_password.ensures)) c.mock.ensures.keyless
    (rw (← c.scram_version-scram_version.ensures) c.verify_password-in-None.ensures.verdict)
