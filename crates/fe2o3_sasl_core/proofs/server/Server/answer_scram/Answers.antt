use Rattle.std.proofs.Common.{◌≡◌, ◌+◌, ℕ, Option, refl, inl, subst, None, Some, Ok, Err}
use Rattle.std.specs.Prelude.{Vec, option_map}
use Rattle.std.specs.declared.alloc.Global.{Global}
use Rattle.fe2o3_scram.specs.ChannelBinding.{server_mechanism}
use Rattle.fe2o3_scram.specs.Credentials.{Provider, serving}
use Rattle.fe2o3_scram.specs.MockSettings.{mocking}
use Rattle.fe2o3_scram.specs.ScramServer.{FirstCosts, Initial, lent_mock}
use Rattle.fe2o3_scram.specs.ServerFirst.{OpenExchange}
use Rattle.fe2o3_sasl_core.specs.Servers.{provider_by, settings_in}
use Rattle.fe2o3_sasl_core.proofs.lemmas.machines.InitCostLemmas.{read_takes, refusal_most, unread_takes}
use Rattle.fe2o3_sasl_core.proofs.lemmas.machines.PlainServerLemmas.{err_where}
use Rattle.fe2o3_sasl_core.proofs.server.Server.answer_scram.Goals as goal

pub returns-in-Ok-Some-clause-ok : goal.returns-in-Ok-Some-clause-ok
returns-in-Ok-Some-clause-ok c = λ kept.
    let begins = rw (c.rules-rules.ensures, c.mock_users.ensures, c.for_version.ensures)
    at (rw c.in-Ok-Some.field-0-is at c.in-Ok-Some.ensures.answer) in
    (Ok (Some (c.in-Ok-Some.message.items, c.in-Ok-Some.exchange)), begins, (c.challenge.ensures.frame, refl))

pub returns-in_ok-reason-in-Ok-None-clause-ok : goal.returns-in_ok-reason-in-Ok-None-clause-ok
returns-in_ok-reason-in-Ok-None-clause-ok c = λ kept.
    let begins = rw (c.rules-rules.ensures, c.mock_users.ensures, c.for_version.ensures)
    at (rw c.in-Ok-None.field-0-is at c.in-Ok-None.ensures.answer) in
    (Ok None, begins, (refl, refl))

pub returns-in_ok-refusal-in-Err-clause-ok : goal.returns-in_ok-refusal-in-Err-clause-ok
returns-in_ok-refusal-in-Err-clause-ok c = λ kept.
    let begins = rw (c.rules-rules.ensures, c.mock_users.ensures, c.for_version.ensures) at c.in-Err.ensures.answer in
    let auth = c.in_ok-refusal-in-Err.ensures.auth in
    (Err c.in-Err.kind, begins.1 auth.0, (auth.1, refl))

pub returns-in_err-reason-in-Ok-None-clause-memory : goal.returns-in_err-reason-in-Ok-None-clause-memory
returns-in_err-reason-in-Ok-None-clause-memory c = err_where c.from_residual.result
    (inl (rw c.rules-rules.ensures at c.in_err-reason-in-Ok-None.ensures.memory))

pub returns-in_err-refusal-in-Err-clause-memory : goal.returns-in_err-refusal-in-Err-clause-memory
returns-in_err-refusal-in-Err-clause-memory c =
    let begins = rw (c.rules-rules.ensures, c.mock_users.ensures, c.for_version.ensures) at c.in-Err.ensures.answer in
    err_where c.from_residual-in_err-refusal-in-Err.result (begins.0 c.in_err-refusal-in-Err.ensures.memory)

pub returns-in_err-refusal-in-Err-clause-cost : goal.returns-in_err-refusal-in-Err-clause-cost
returns-in_err-refusal-in-Err-clause-cost c =
    let settings = settings_in c.args.self.now in
    let provider = provider_by settings c.args.version c.args.plus in
    let same : mocking (option_map lent_mock c.mock_users.result)
    (serving c.rules-rules.result c.for_version.result.now) ≡ provider =
    λ i. mocking (c.mock_users.ensures i) (serving (c.rules-rules.ensures i) (c.for_version.ensures i)) in
    let costs = subst (λ (p : Provider). FirstCosts {A = Option (Vec ℕ Global × OpenExchange)} p c.args.text.now
    (Err c.in-Err.kind) c.args.meter.now c.open-opened.new.meter) same c.in-Err.ensures.cost in
    refusal_most provider Initial (server_mechanism provider.version provider.rules) c.args.text.now None Initial
    c.args.nonce.now refl (Option (Vec ℕ Global × OpenExchange)) c.in-Err.kind c.args.meter.now c.open-opened.new.meter costs

pub returns-in-Ok-Some-clause-exactly : goal.returns-in-Ok-Some-clause-exactly
returns-in-Ok-Some-clause-exactly c =
    let settings = settings_in c.args.self.now in
    let provider = provider_by settings c.args.version c.args.plus in
    let begins = rw (c.rules-rules.ensures, c.mock_users.ensures, c.for_version.ensures)
    at (rw c.in-Ok-Some.field-0-is at c.in-Ok-Some.ensures.answer) in
    let same : mocking (option_map lent_mock c.mock_users.result)
    (serving c.rules-rules.result c.for_version.result.now) ≡ provider =
    λ i. mocking (c.mock_users.ensures i) (serving (c.rules-rules.ensures i) (c.for_version.ensures i)) in
    let costs = subst (λ (p : Provider). c.open-opened.new.meter ≡ c.args.meter.now + p.look_up_cost) same
    c.in-Ok-Some.ensures.cost in
    read_takes provider Initial (server_mechanism provider.version provider.rules) c.args.text.now None Initial
    c.args.nonce.now refl begins.0.0 begins.0.2 c.args.meter.now c.open-opened.new.meter costs

pub returns-in_ok-reason-in-Ok-None-clause-exactly : goal.returns-in_ok-reason-in-Ok-None-clause-exactly
returns-in_ok-reason-in-Ok-None-clause-exactly c =
    let settings = settings_in c.args.self.now in
    let provider = provider_by settings c.args.version c.args.plus in
    let begins = rw (c.rules-rules.ensures, c.mock_users.ensures, c.for_version.ensures)
    at (rw c.in-Ok-None.field-0-is at c.in-Ok-None.ensures.answer) in
    let same : mocking (option_map lent_mock c.mock_users.result)
    (serving c.rules-rules.result c.for_version.result.now) ≡ provider =
    λ i. mocking (c.mock_users.ensures i) (serving (c.rules-rules.ensures i) (c.for_version.ensures i)) in
    let costs = subst (λ (p : Provider). c.open-opened.new.meter ≡ c.args.meter.now + p.look_up_cost) same
    c.in-Ok-None.ensures.cost in
    read_takes provider Initial (server_mechanism provider.version provider.rules) c.args.text.now None Initial
    c.args.nonce.now refl begins.0 begins.1 c.args.meter.now c.open-opened.new.meter costs

pub returns-in_ok-refusal-in-Err-clause-exactly : goal.returns-in_ok-refusal-in-Err-clause-exactly
returns-in_ok-refusal-in-Err-clause-exactly c =
    let settings = settings_in c.args.self.now in
    let provider = provider_by settings c.args.version c.args.plus in
    let begins = rw (c.rules-rules.ensures, c.mock_users.ensures, c.for_version.ensures) at c.in-Err.ensures.answer in
    let auth = c.in_ok-refusal-in-Err.ensures.auth in
    let same : mocking (option_map lent_mock c.mock_users.result)
    (serving c.rules-rules.result c.for_version.result.now) ≡ provider =
    λ i. mocking (c.mock_users.ensures i) (serving (c.rules-rules.ensures i) (c.for_version.ensures i)) in
    let costs = subst (λ (p : Provider). FirstCosts {A = Option (Vec ℕ Global × OpenExchange)} p c.args.text.now
    (Err c.in-Err.kind) c.args.meter.now c.open-opened.new.meter) same c.in-Err.ensures.cost in
    unread_takes provider Initial (server_mechanism provider.version provider.rules) c.args.text.now None Initial
    c.args.nonce.now refl (Option (Vec ℕ Global × OpenExchange)) c.in-Err.kind auth.0 (begins.1 auth.0)
    c.args.meter.now c.open-opened.new.meter costs
