use Rattle.std.proofs.Common.{drop}
use Rattle.sasl_c.proofs.SaslServerLemmas.{ShowSoFar}
use Rattle.sasl_c.proofs.sasl_server.SaslServerConfig.store.Given as goal

abbrev pub invariant-loop-kept : goal.invariant-loop-kept
invariant-loop-kept l =
    ShowSoFar l.username l.self.records.now (drop l.kept-index l.self.records.now) l.store
