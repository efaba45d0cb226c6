use Rattle.std.proofs.Common.{inr, ◌≡◌}
use Rattle.std.specs.Prelude.{OnErr}
use Rattle.fe2o3_scram.specs.declared.scram_messages.server_rules.ServerRules.{ServerRules}
use Rattle.sasl_c.specs.Rules.{rules_of}
use Rattle.sasl_c.specs.Server.{Concludes, FinalAsks}
use Rattle.sasl_c.specs.Status.{AsksText, FillsWithin}
use Rattle.sasl_c.proofs.StatusLemmas.{carried}
use Rattle.sasl_c.proofs.server_calls.conclude_by_rules.Goals as goal

pub returns-in-Ok : goal.returns-in-Ok
returns-in-Ok c = let made = c.conclude.ensures in inr (
  c.in-Ok.ensures.shows.1,
  carried (λ (shown : ServerRules). FillsWithin 90
      (Concludes shown c.args.rules.now.identities.now c.args.kept.now c.args.client_final.now
      c.args.server.now c.conclude.new.server) (record { bytes = c.args.out.now; len = c.args.out_len.now })
      (record { bytes = c.conclude.new.out; len = c.conclude.new.out_len }) c.conclude.result
      × OnErr c.conclude.result (c.conclude.new.server ≡ c.args.server.now)
      × AsksText (FinalAsks shown c.args.kept.now c.args.client_final.now c.args.server.now) c.conclude.result)
      c.in-Ok.shown (rules_of c.args.rules.now) c.in-Ok.ensures.shows.0 (made.text, made.stays, made.memory),
)
