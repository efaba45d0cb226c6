use Rattle.fe2o3_sasl_core.proofs.lemmas.histories.ServerLawLemmas.{refusals_leave_open}
use Rattle.fe2o3_sasl_core.proofs.lemmas.positions.PositionLemmas.{positions_are_used_once}
use Rattle.fe2o3_sasl.proofs.laws.positions.Goals as goal

pub returns-clause-used_once : goal.returns-clause-used_once
returns-clause-used_once c = positions_are_used_once

pub returns-clause-left_open : goal.returns-clause-left_open
returns-clause-left_open c = refusals_leave_open
