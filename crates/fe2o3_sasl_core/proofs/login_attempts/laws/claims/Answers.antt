use Rattle.fe2o3_sasl_core.proofs.lemmas.machines.ClaimLemmas.{claims_what_servers_read, one_claim, some_claim}
use Rattle.fe2o3_sasl_core.proofs.login_attempts.laws.claims.Goals as goal

pub returns-clause-one : goal.returns-clause-one
returns-clause-one c = one_claim

pub returns-clause-some : goal.returns-clause-some
returns-clause-some c = some_claim

pub returns-clause-servers : goal.returns-clause-servers
returns-clause-servers c = claims_what_servers_read
