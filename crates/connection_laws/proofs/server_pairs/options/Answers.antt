use Rattle.connection_laws.proofs.lemmas.TestedOptionLemmas.{tested_options_reject}
use Rattle.connection_laws.proofs.server_pairs.options.Goals as goal

pub returns : goal.returns
returns c = tested_options_reject
