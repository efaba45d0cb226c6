use Rattle.connection_laws.proofs.lemmas.JoinedExistLemmas.{joined_sides_exist, user_logs_in}
use Rattle.connection_laws.proofs.joined.joined_sides.Goals as goal

pub returns-clause-exist : goal.returns-clause-exist
returns-clause-exist c = joined_sides_exist

pub returns-clause-example : goal.returns-clause-example
returns-clause-example c = user_logs_in
