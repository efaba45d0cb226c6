use Rattle.fe2o3_sasl_core.proofs.lemmas.frames.SpellingLemmas.{IsAscii-mechanism_of}
use Rattle.fe2o3_sasl_core.proofs.sasl_profile.SaslProfile.name.Goals as goal

pub returns-in-ScramSha1-clause-ascii : goal.returns-in-ScramSha1-clause-ascii
returns-in-ScramSha1-clause-ascii c = rw c.mechanism.ensures (IsAscii-mechanism_of _ _)
