use Rattle.fe2o3_scram.proofs.lemmas.messages.ExchangeLemmas.{succeeds}
use Rattle.fe2o3_scram.proofs.laws.unaltered_exchanges.Goals as goal

pub returns : goal.returns
returns c = succeeds
