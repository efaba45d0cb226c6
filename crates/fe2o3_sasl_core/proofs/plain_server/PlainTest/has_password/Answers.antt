use Rattle.std.proofs.Common.{refl}
use Rattle.fe2o3_scram.specs.Credentials.{record_at}
use Rattle.fe2o3_scram.specs.Passwords.{Typed, Prepared}
use Rattle.fe2o3_sasl_core.specs.PlainServer.{count_or, parts_of}
use Rattle.fe2o3_sasl_core.specs.declared.plain_server.passwords.PlainPasswords.TheVariants as forms
use Rattle.fe2o3_sasl_core.proofs.lemmas.machines.PlainServerLemmas.{costs_form, has_form}
use Rattle.fe2o3_sasl_core.proofs.plain_server.PlainTest.has_password.Goals as goal

pub returns-in-Typed-clause-verdict : goal.returns-in-Typed-clause-verdict
returns-in-Typed-clause-verdict g c = has_form c.args.self.now.passwords forms.Typed
    (g.C.ScramCredentialProvider.meaning c.args.self.now.credentials.now) (parts_of c.args.message.now)
    (Typed c.args.message.now.password.now) c.meets.result c.in-Typed.is refl
    c.meets.ensures.verdict

pub returns-in-Typed-clause-cost : goal.returns-in-Typed-clause-cost
returns-in-Typed-clause-cost g c = costs_form c.args.self.now.passwords forms.Typed c.args.message.now.password.now
    (Typed c.args.message.now.password.now) (count_or c.args.self.now.iterations
    (record_at (g.C.ScramCredentialProvider.meaning c.args.self.now.credentials.now).records c.args.message.now.username.now))
    c.args.meter.now c.meets.new.meter c.in-Typed.is refl c.meets.ensures.cost

pub returns-in-Prepared-clause-verdict : goal.returns-in-Prepared-clause-verdict
returns-in-Prepared-clause-verdict g c = has_form c.args.self.now.passwords forms.Prepared
    (g.C.ScramCredentialProvider.meaning c.args.self.now.credentials.now) (parts_of c.args.message.now)
    (Prepared c.args.message.now.password.now) c.meets-in-Prepared.result c.in-Prepared.is refl
    c.meets-in-Prepared.ensures.verdict

pub returns-in-Prepared-clause-cost : goal.returns-in-Prepared-clause-cost
returns-in-Prepared-clause-cost g c = costs_form c.args.self.now.passwords forms.Prepared c.args.message.now.password.now
    (Prepared c.args.message.now.password.now) (count_or c.args.self.now.iterations
    (record_at (g.C.ScramCredentialProvider.meaning c.args.self.now.credentials.now).records c.args.message.now.username.now))
    c.args.meter.now c.meets-in-Prepared.new.meter c.in-Prepared.is refl c.meets-in-Prepared.ensures.cost

pub returns-in-Some-clause-verdict : goal.returns-in-Some-clause-verdict
returns-in-Some-clause-verdict g c = has_form c.args.self.now.passwords forms.Saslprep
    (g.C.ScramCredentialProvider.meaning c.args.self.now.credentials.now) (parts_of c.args.message.now)
    (Prepared c.as_str.result.now) c.meets-in-Saslprep.result c.in-Saslprep.is
    (rw c.as_str.ensures.value (rw c.in-Some.is at c.in_ok-text-in-Saslprep.ensures.text))
    c.meets-in-Saslprep.ensures.verdict

pub returns-in-Some-clause-cost : goal.returns-in-Some-clause-cost
returns-in-Some-clause-cost g c = costs_form c.args.self.now.passwords forms.Saslprep c.args.message.now.password.now
    (Prepared c.as_str.result.now) (count_or c.args.self.now.iterations
    (record_at (g.C.ScramCredentialProvider.meaning c.args.self.now.credentials.now).records c.args.message.now.username.now))
    c.args.meter.now c.meets-in-Saslprep.new.meter c.in-Saslprep.is
    (rw c.as_str.ensures.value (rw c.in-Some.is at c.in_ok-text-in-Saslprep.ensures.text)) c.meets-in-Saslprep.ensures.cost
