use Rattle.fe2o3_scram.proofs.lemmas.texts.EscapingLemmas.{one_escaped, no_comma-escaped}
use Rattle.fe2o3_scram.proofs.laws.escaped_names.Goals as goal

pub returns-clause-one : goal.returns-clause-one
returns-clause-one c = one_escaped

pub returns-clause-no_comma : goal.returns-clause-no_comma
returns-clause-no_comma c = no_comma-escaped
