use Rattle.std.proofs.Common.{arith, drop, ◌+◌}
use Rattle.std.proofs.lemmas.List.{drop_more}
use Rattle.fe2o3_scram.specs.Credentials.{kept, versioned}
use Rattle.sasl_c.specs.SaslServer.{ShowRecords, mechanisms_for}
use Rattle.sasl_c.proofs.SaslServerLemmas.{first_shown}
use Rattle.sasl_c.proofs.StatusLemmas.{carried}
use Rattle.sasl_c.proofs.sasl_server.SaslServerConfig.plain_version.Goals as goal

pub returns-in-Ok : goal.returns-in-Ok
returns-in-Ok c = λ user records shows. let kepts = c.args.self.now.records.now in let k = c.loop-kept.kept-index in
    first_shown (mechanisms_for c.args.choice) user _ (drop (k + 1) kepts) records
    (versioned c.in-Ok.version (kept c.in-Ok.field-0-1)) c.in-Ok.ensures.ok
    (carried (λ left. ShowRecords user left records) (drop k kepts) _ (drop_more kepts k _ (omega arith))
    (c.loop-kept.invariant user records shows))
