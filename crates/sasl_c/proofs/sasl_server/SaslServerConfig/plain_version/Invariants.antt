use Rattle.std.proofs.Common.{drop, ℕ, List}
use Rattle.fe2o3_scram.specs.Mixed.{MultiRecords}
use Rattle.sasl_c.specs.SaslServer.{ShowRecords}
use Rattle.sasl_c.proofs.sasl_server.SaslServerConfig.plain_version.Given as goal

-- the structs so far show none
abbrev pub invariant-loop-kept : goal.invariant-loop-kept
invariant-loop-kept l = (user : List ℕ) (records : MultiRecords) → ShowRecords user l.self.records.now records
    → ShowRecords user (drop l.kept-index l.self.records.now) records
