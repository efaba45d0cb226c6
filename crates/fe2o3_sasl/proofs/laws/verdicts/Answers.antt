use Rattle.fe2o3_sasl.proofs.lemmas.two_sides.VerdictLemmas.{taken_verifiers_are_judged, shown_proofs_are_judged, one_verdict_each}
use Rattle.fe2o3_sasl.proofs.laws.verdicts.Goals as goal

pub returns-clause-taken : goal.returns-clause-taken
returns-clause-taken c = taken_verifiers_are_judged

pub returns-clause-shown : goal.returns-clause-shown
returns-clause-shown c = shown_proofs_are_judged

pub returns-clause-one : goal.returns-clause-one
returns-clause-one c = one_verdict_each
