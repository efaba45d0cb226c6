use Rattle.std.proofs.Common.{rules, ◌≢◌}
use Rattle.std.proofs.lemmas.Result.{err_from_is_err_and}
use Rattle.std.specs.Prelude.{string_bytes}
use Rattle.fe2o3_scram.proofs.lemmas.messages.MixedLinesLemmas.{other_version}
use Rattle.fe2o3_scram.proofs.credentials.record_store.RecordStore.read_line.Goals as goal

pub returns-in_err-username-clause-err : goal.returns-in_err-username-clause-err
returns-in_err-username-clause-err c =
    let from = err_from_is_err_and c.from_residual.result c.from_residual.ensures.1 in
    rw (from.1, from.2) (λ other. c.in_err-username.ensures.err other c.args.self.now.version)

pub returns-in-Err-VersionMismatch-clause-err : goal.returns-in-Err-VersionMismatch-clause-err
returns-in-Err-VersionMismatch-clause-err c =
    let differ : c.in_ok-username.kept.version ≢ c.args.self.now.version = search rules in
    λ _. other_version c.args.self.now.version c.args.text.now c.in_ok-username.rest.now
    (string_bytes c.in_ok-username.username, c.in_ok-username.kept) c.in_ok-username.ensures.ok.0
    c.in_ok-username.ensures.ok.1 differ
