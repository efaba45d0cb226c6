use Rattle.fe2o3_sasl.proofs.lemmas.examples.ExampleLemmas.{premises_can_be_met, shifted_texts_pass}
use Rattle.fe2o3_sasl.proofs.laws.worked_examples.Goals as goal

pub returns-clause-premises_can_be_met : goal.returns-clause-premises_can_be_met
returns-clause-premises_can_be_met c = premises_can_be_met

pub returns-clause-shifted_texts_pass : goal.returns-clause-shifted_texts_pass
returns-clause-shifted_texts_pass c = shifted_texts_pass
