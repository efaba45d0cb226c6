use Rattle.fe2o3_sasl_core.proofs.lemmas.two_sides.HeadlineLemmas.{answers_ok_exactly, reports_ok_exactly, taken_verifiers_agree}
use Rattle.fe2o3_sasl.proofs.laws.headline.Goals as goal

pub returns-clause-server : goal.returns-clause-server
returns-clause-server c = answers_ok_exactly

pub returns-clause-client : goal.returns-clause-client
returns-clause-client c = reports_ok_exactly

pub returns-clause-agreement : goal.returns-clause-agreement
returns-clause-agreement c = taken_verifiers_agree
