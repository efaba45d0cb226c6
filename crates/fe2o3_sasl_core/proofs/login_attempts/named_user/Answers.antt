use Rattle.std.proofs.Common.{false, true, option_map, string_bytes}
use Rattle.std.proofs.lemmas.Result.{IfErr-weaker, IfOk-weaker}
use Rattle.fe2o3_sasl_core.proofs.lemmas.machines.LoginAttemptLemmas.{read_allocates, read_second}
use Rattle.fe2o3_sasl_core.proofs.lemmas.machines.PlainServerLemmas.{err_where}
use Rattle.fe2o3_sasl_core.proofs.login_attempts.named_user.Goals as goal

pub returns-in_err-user-clause-memory : goal.returns-in_err-user-clause-memory
returns-in_err-user-clause-memory c = err_where c.from_residual.result
    (read_allocates c.args.plus false c.args.message.now (rw c.headers_of.ensures at c.in_err-user.ensures.memory))

pub returns-in-None-clause-ok : goal.returns-in-None-clause-ok
returns-in-None-clause-ok c =
    let none = rw c.headers_of.ensures at (rw c.in-None.is at c.in_ok-user.ensures.ok) in
    IfOk-weaker c.scram_user-in-None.result _ _
    (λ user reads. read_second c.args.plus c.args.message.now (option_map string_bytes user) none
    (rw c.headers_of-in-None.ensures at reads)) c.scram_user-in-None.ensures.ok

pub returns-in-None-clause-memory : goal.returns-in-None-clause-memory
returns-in-None-clause-memory c = IfErr-weaker c.scram_user-in-None.result _ _
    (λ _ asks. read_allocates c.args.plus true c.args.message.now (rw c.headers_of-in-None.ensures at asks))
    c.scram_user-in-None.ensures.memory
