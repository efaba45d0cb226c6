use Rattle.fe2o3_scram.specs.ScramServer.{rules_in, served_by}
use Rattle.fe2o3_sasl_core.proofs.lemmas.machines.NameLemmas.{IsAscii-server_mechanism}
use Rattle.fe2o3_sasl_core.proofs.scram_acceptor.ScramAuthenticatorSaslAcceptor.mechanisms.Goals as goal

pub one_name-requires : goal.one_name-requires
one_name-requires g c =
    let m = g.C.ScramCredentialProvider in
    rw c.mechanism.ensures (IsAscii-server_mechanism (served_by m.meaning c.args.self.now).version
    (rules_in c.args.self.now))
