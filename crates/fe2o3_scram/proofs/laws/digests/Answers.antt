use Rattle.fe2o3_scram.proofs.lemmas.hashes.DigestLemmas.{length-digest, IsBytes-digest, length-hmac_of, IsBytes-hmac_of}
use Rattle.fe2o3_scram.proofs.laws.digests.Goals as goal

pub returns-clause-digests : goal.returns-clause-digests
returns-clause-digests c = λ version message. (length-digest version message, IsBytes-digest version message)

pub returns-clause-macs : goal.returns-clause-macs
returns-clause-macs c = λ version key message. (length-hmac_of version key message, IsBytes-hmac_of version key message)
