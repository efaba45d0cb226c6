use Rattle.saslprep.proofs.lemmas.RuleLemmas.{refusal-fit}
use Rattle.saslprep.proofs.laws.accepted_texts.Goals as goal

pub returns : goal.returns
returns c = refusal-fit
