use Rattle.fe2o3_sasl_core.proofs.lemmas.machines.ServerAnswerLemmas.{IsAscii-mechanism_symbol}
use Rattle.fe2o3_sasl_core.proofs.server.Server.offer.Goals as goal

pub symbol_of-requires : goal.symbol_of-requires
symbol_of-requires c = rw c.name.ensures (IsAscii-mechanism_symbol c.args.mechanism)
