use Rattle.std.proofs.Common.{inr, ap, ◌∙◌}
use Rattle.fe2o3_scram.specs.ClientFirst.{HasEscapes}
use Rattle.fe2o3_scram.specs.declared.scram_messages.server_rules.ServerRules.{ServerRules}
use Rattle.sasl_c.specs.Rules.{rules_of, with_cbind_flag_y}
use Rattle.sasl_c.specs.Server.{ClaimedIdentity}
use Rattle.sasl_c.specs.Status.{AsksText, Fills}
use Rattle.sasl_c.proofs.StatusLemmas.{carried}
use Rattle.sasl_c.proofs.server_identity.identity_by_rules.Goals as goal

pub returns-in-Ok : goal.returns-in-Ok
returns-in-Ok c = let made = c.identity_into.ensures in inr (
  c.in-Ok.ensures.shows.1,
  carried (λ (rules : ServerRules). Fills (ClaimedIdentity rules c.args.client_first.now)
      (record { bytes = c.args.out.now; len = c.args.out_len.now })
      (record { bytes = c.identity_into.new.out; len = c.identity_into.new.out_len }) c.identity_into.result
      × AsksText (HasEscapes rules c.args.client_first.now) c.identity_into.result) c.with_cbind_flag_y-rules.result
      (with_cbind_flag_y (rules_of c.args.rules.now))
      (c.with_cbind_flag_y-rules.ensures ∙ ap with_cbind_flag_y c.in-Ok.ensures.shows.0) (made.filled, made.memory),
)
