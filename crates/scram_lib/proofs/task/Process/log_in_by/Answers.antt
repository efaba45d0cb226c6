use Rattle.std.proofs.Common.{rules, option_map, string_bytes, sym, subst, ◌≡◌}
use Rattle.fe2o3_sasl_core.specs.LoginAttempts.{ClaimOf}
use Rattle.scram_lib.specs.Done.{IsClaim}
use Rattle.scram_lib.proofs.task.Process.log_in_by.Goals as goal

-- the name is claimed as the copy of it is lent
pub returns : goal.returns
returns g c = λ settings.
    let lent : option_map (λ sent. sent.now) c.as_deref.result ≡ option_map string_bytes c.in_ok-claimed.claimed =
    search (rules, c.as_deref.ensures.value, c.as_deref.ensures.cases) in
    let claim : IsClaim c.args.service.now c.args.message.now (option_map string_bytes c.in_ok-claimed.claimed) =
    subst (λ name. ClaimOf name c.args.message.now (option_map string_bytes c.in_ok-claimed.claimed)) c.mechanism.ensures
    c.in_ok-claimed.ensures.ok in
    c.answer_client.ensures (option_map (λ sent. sent.now) c.as_deref.result)
    (subst (λ name. IsClaim c.args.service.now c.args.message.now name) (sym lent) claim)
    (_, _, c.in_ok-server.ensures settings)
