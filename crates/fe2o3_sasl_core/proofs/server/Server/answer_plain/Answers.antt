use Rattle.std.proofs.Common.{◌∙◌, Some, inl, inr, refl}
use Rattle.fe2o3_sasl_core.specs.PlainServer.{parts_of}
use Rattle.fe2o3_sasl_core.specs.Servers.{UserAuthenticated, plain_by_settings, settings_in}
use Rattle.fe2o3_sasl_core.specs.declared.mechanism.Mechanism.TheVariants as mechanisms
use Rattle.fe2o3_sasl_core.proofs.lemmas.machines.PlainServerLemmas.{cost_of_test, err_where, most_of_test, not_logged_in}
use Rattle.fe2o3_sasl_core.proofs.server.Server.answer_plain.Goals as goal

pub returns-in_err-to_string-clause-memory : goal.returns-in_err-to_string-clause-memory
returns-in_err-to_string-clause-memory c =
    let lets_in = rw c.for_version.ensures at (c.in_ok-lets_in.ensures.verdict.0 c.if-branch.true) in
    err_where c.from_residual-in_err-to_string.result
    (inr (parts_of c.in-Some.message, (c.in-Some.ensures.0, c.in-Some.ensures.1, lets_in)))

pub returns-in_err-copied-clause-memory : goal.returns-in_err-copied-clause-memory
returns-in_err-copied-clause-memory c =
    let lets_in = rw c.for_version.ensures at (c.in_ok-lets_in.ensures.verdict.0 c.if-branch.true) in
    err_where c.from_residual-in_err-copied.result
    (inr (parts_of c.in-Some.message, (c.in-Some.ensures.0, c.in-Some.ensures.1, lets_in)))

pub returns-in_ok-copied-clause-ok : goal.returns-in_ok-copied-clause-ok
returns-in_ok-copied-clause-ok c = λ kept nonce.
    let lets_in = rw c.for_version.ensures at (c.in_ok-lets_in.ensures.verdict.0 c.if-branch.true) in
    inl (
      parts_of c.in-Some.message,
      (c.in-Some.ensures.0, c.in-Some.ensures.1, lets_in),
      (
        c.accepted.ensures.frame,
        λ i. UserAuthenticated (record {
          mechanism = mechanisms.Plain;
          user = Some (c.in_ok-to_string.ensures.ok i);
          acts_for = (c.in_ok-copied.ensures ∙ c.asked_identity.ensures) i;
        }),
      ),
    )

pub returns-else-branch-clause-ok : goal.returns-else-branch-clause-ok
returns-else-branch-clause-ok c = λ kept nonce.
    let verdict = rw c.for_version.ensures at c.in_ok-lets_in.ensures.verdict in
    inr (
      not_logged_in (plain_by_settings (settings_in c.args.self.now)) c.args.text.now (parts_of c.in-Some.message)
          c.in-Some.ensures.0 (λ is. let yes = verdict.1 is in let no = c.if-branch.false in absurd (cc)),
      (refl, refl),
    )

pub returns-in_err-to_string-clause-cost : goal.returns-in_err-to_string-clause-cost
returns-in_err-to_string-clause-cost c =
    most_of_test (plain_by_settings (settings_in c.args.self.now)) c.args.text.now (parts_of c.in-Some.message)
    c.args.meter.now c.lets_in.new.meter c.in-Some.ensures.0 c.in-Some.ensures.1
    (rw (c.plain_iterations.ensures, c.for_version.ensures) at c.in_ok-lets_in.ensures.cost)

pub returns-in_err-copied-clause-cost : goal.returns-in_err-copied-clause-cost
returns-in_err-copied-clause-cost c =
    most_of_test (plain_by_settings (settings_in c.args.self.now)) c.args.text.now (parts_of c.in-Some.message)
    c.args.meter.now c.lets_in.new.meter c.in-Some.ensures.0 c.in-Some.ensures.1
    (rw (c.plain_iterations.ensures, c.for_version.ensures) at c.in_ok-lets_in.ensures.cost)

pub returns-in_ok-copied-clause-cost : goal.returns-in_ok-copied-clause-cost
returns-in_ok-copied-clause-cost c =
    most_of_test (plain_by_settings (settings_in c.args.self.now)) c.args.text.now (parts_of c.in-Some.message)
    c.args.meter.now c.lets_in.new.meter c.in-Some.ensures.0 c.in-Some.ensures.1
    (rw (c.plain_iterations.ensures, c.for_version.ensures) at c.in_ok-lets_in.ensures.cost)

pub returns-else-branch-clause-cost : goal.returns-else-branch-clause-cost
returns-else-branch-clause-cost c =
    most_of_test (plain_by_settings (settings_in c.args.self.now)) c.args.text.now (parts_of c.in-Some.message)
    c.args.meter.now c.lets_in.new.meter c.in-Some.ensures.0 c.in-Some.ensures.1
    (rw (c.plain_iterations.ensures, c.for_version.ensures) at c.in_ok-lets_in.ensures.cost)

pub returns-in_ok-copied-clause-exactly : goal.returns-in_ok-copied-clause-exactly
returns-in_ok-copied-clause-exactly c =
    cost_of_test (plain_by_settings (settings_in c.args.self.now)) c.args.text.now (parts_of c.in-Some.message)
    c.args.meter.now c.lets_in.new.meter c.in-Some.ensures.0 c.in-Some.ensures.1
    (rw (c.plain_iterations.ensures, c.for_version.ensures) at c.in_ok-lets_in.ensures.cost)

pub returns-else-branch-clause-exactly : goal.returns-else-branch-clause-exactly
returns-else-branch-clause-exactly c =
    cost_of_test (plain_by_settings (settings_in c.args.self.now)) c.args.text.now (parts_of c.in-Some.message)
    c.args.meter.now c.lets_in.new.meter c.in-Some.ensures.0 c.in-Some.ensures.1
    (rw (c.plain_iterations.ensures, c.for_version.ensures) at c.in_ok-lets_in.ensures.cost)
