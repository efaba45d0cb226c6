use Rattle.std.proofs.Common.{option_map, string_bytes}
use Rattle.std.proofs.lemmas.Result.{IfErr-weaker, IfOk-weaker}
use Rattle.fe2o3_sasl_core.proofs.lemmas.machines.LoginAttemptLemmas.{not_apart, plain_allocates, scram_allocates, scram_claim_of}
use Rattle.fe2o3_sasl_core.proofs.lemmas.machines.PlainServerLemmas.{err_where}
use Rattle.fe2o3_sasl_core.proofs.login_attempts.claimed_user.Goals as goal

pub returns-in-Some-clause-ok : goal.returns-in-Some-clause-ok
returns-in-Some-clause-ok c = IfOk-weaker c.named_user.result _ _
    (λ user names. scram_claim_of c.args.mechanism.now c.args.message.now c.in-Some.ensures.0 c.in-Some.plus
    c.in-Some.ensures.1 (option_map string_bytes user) names) c.named_user.ensures.ok

pub returns-in-Some-clause-memory : goal.returns-in-Some-clause-memory
returns-in-Some-clause-memory c = IfErr-weaker c.named_user.result _ _
    (λ _ asks. scram_allocates c.args.mechanism.now c.args.message.now c.in-Some.ensures.0 c.in-Some.plus
    c.in-Some.ensures.1 asks)
    c.named_user.ensures.memory

pub returns-in_err-to_string-in-Some-plain_user-clause-memory :
    goal.returns-in_err-to_string-in-Some-plain_user-clause-memory
returns-in_err-to_string-in-Some-plain_user-clause-memory c =
    err_where c.from_residual.result (plain_allocates c.args.mechanism.now c.args.message.now
    c.in-Some-plain_user.user.now (not_apart c.args.mechanism.now _ c.if-ne.ensures) c.in-Some-plain_user.ensures)
