use Rattle.std.proofs.Common.{ℕ, List, ◌+◌, ◌≡◌, ap}
use Rattle.std.specs.Prelude.{Bool, IsTrue, Ok, ◌↔◌}
use Rattle.fe2o3_sasl_core.specs.PlainServer.{PlainLogsIn, PlainParts, PlainRules, plain_hmacs}
use Rattle.sasl_c.specs.Plain.{ClaimsPlainUser, HasUsersPassword, VerifyingCosts, plain_rules_of}
use Rattle.sasl_c.specs.declared.status.Status.{Status}
use Rattle.sasl_c.specs.declared.status.Status.TheVariants.{OutOfMemory}
use Rattle.sasl_c.proofs.PlainLemmas.{costs, has_password, password_logs_in}
use Rattle.sasl_c.proofs.StatusLemmas.{err_so, ok_so}
use Rattle.sasl_c.proofs.plain_verify.has_users_password.Goals as goal

pub returns-in-Ok-clause-ok : goal.returns-in-Ok-clause-ok
returns-in-Ok-clause-ok c =
    let (parts, spells, taken, named) = c.in-Some.ensures in
    let (found, first, same) = c.in-Ok.ensures.ok in
    let terms = c.args.terms.now in
    let user = c.in-Some.username.now in
    let rules : PlainRules = plain_rules_of terms user c.in-Ok.store in
    let by = ap (plain_rules_of terms user) same in
    ok_so c.logs_in.result
    (λ (is : Bool). IsTrue is ↔ ((other : PlainParts) × PlainLogsIn rules c.args.message.now other))
    (λ (is : Bool). IsTrue is ↔ HasUsersPassword terms c.args.records.now c.args.message.now)
    (λ is both. (
      (λ yes. has_password terms c.args.records.now c.args.message.now user parts found rules spells named first by
          (both.0 yes)),
      (λ has. both.1 (password_logs_in terms c.args.records.now c.args.message.now user parts found rules spells named
          first by has)),
    )) c.logs_in.ensures.ok

pub returns-in-Ok-clause-memory : goal.returns-in-Ok-clause-memory
returns-in-Ok-clause-memory c =
    let (parts, spells, taken, named) = c.in-Some.ensures in
    err_so c.logs_in.result (λ (status : Status). status ≡ OutOfMemory)
    (λ (status : Status). (name : List ℕ) × ClaimsPlainUser c.args.message.now (Ok name))
    (λ status memory. (c.in-Some.username.now, (parts, spells, taken, named))) c.logs_in.ensures.err

pub returns-in-Ok-clause-cost : goal.returns-in-Ok-clause-cost
returns-in-Ok-clause-cost c =
    let (parts, spells, taken, named) = c.in-Some.ensures in
    let (found, first, same) = c.in-Ok.ensures.ok in
    let terms = c.args.terms.now in
    let user = c.in-Some.username.now in
    let rules : PlainRules = plain_rules_of terms user c.in-Ok.store in
    ok_so c.logs_in.result
    (λ (is : Bool). (n : ℕ) → plain_hmacs rules c.args.message.now n → c.logs_in.new.meter ≡ c.args.meter.now + n)
    (λ (is : Bool). VerifyingCosts terms c.args.records.now c.args.message.now c.args.meter.now c.logs_in.new.meter)
    (λ is cost. costs terms c.args.records.now c.args.message.now user parts found rules c.args.meter.now
    c.logs_in.new.meter spells taken named first (ap (plain_rules_of terms user) same) cost) c.logs_in.ensures.cost

pub returns-in-Err-clause-memory : goal.returns-in-Err-clause-memory
returns-in-Err-clause-memory c = (c.in-Some.username.now, c.in-Some.ensures)
