use Rattle.std.proofs.Common.{rules}
use Rattle.sasl_c.proofs.ExchangeLemmas.{asked_shows}
use Rattle.sasl_c.proofs.server.ScramServer.hold_asked.Goals as goal

pub returns-clause-shows : goal.returns-clause-shows
returns-clause-shows c = asked_shows c.ask.new.self c.args.mechanism c.args.nonce.now c.ask.ensures (search rules)
