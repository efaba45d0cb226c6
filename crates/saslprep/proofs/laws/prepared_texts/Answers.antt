use Rattle.saslprep.proofs.lemmas.KeptLemmas.{refusal-again}
use Rattle.saslprep.proofs.laws.prepared_texts.Goals as goal

pub returns : goal.returns
returns c = refusal-again
