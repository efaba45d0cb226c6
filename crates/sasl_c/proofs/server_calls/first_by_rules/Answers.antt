use Rattle.std.proofs.Common.{inr}
use Rattle.fe2o3_scram.specs.declared.scram_messages.server_rules.ServerRules.{ServerRules}
use Rattle.sasl_c.specs.Rules.{rules_of}
use Rattle.sasl_c.specs.Server.{Challenges, OpensExchange, ReadsFirst}
use Rattle.sasl_c.specs.Status.{AsksText, Fills}
use Rattle.sasl_c.proofs.StatusLemmas.{carried}
use Rattle.sasl_c.proofs.server_calls.first_by_rules.Goals as goal

pub returns-in-Ok : goal.returns-in-Ok
returns-in-Ok c = let made = c.first_into.ensures in inr (
  c.in-Ok.ensures.shows.1,
  carried (λ (shown : ServerRules). Fills (Challenges shown c.args.kept.now c.args.nonce.now c.args.client_first.now)
      (record { bytes = c.args.out.now; len = c.args.out_len.now })
      (record { bytes = c.first_into.new.out; len = c.first_into.new.out_len }) c.first_into.result
      × OpensExchange shown c.args.kept.now c.args.nonce.now c.args.client_first.now c.args.server.now
      c.first_into.new.server c.first_into.result
      × AsksText (ReadsFirst shown c.args.client_first.now) c.first_into.result) c.in-Ok.rules
      (rules_of c.args.rules.now) c.in-Ok.ensures.shows.0 (made.text, made.moved, made.memory),
)
