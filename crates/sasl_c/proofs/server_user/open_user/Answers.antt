use Rattle.std.proofs.Common.{rules}
use Rattle.fe2o3_scram.specs.ScramServer.{challenge_kept}
use Rattle.fe2o3_scram.specs.ServerFirst.{ServerChallenge}
use Rattle.sasl_c.specs.Server.{IsOpen}
use Rattle.sasl_c.proofs.StatusLemmas.{on_err}
use Rattle.sasl_c.proofs.server_user.open_user.Goals as goal

pub returns-in_ok-to_string-in-Some-clause-ok : goal.returns-in_ok-to_string-in-Some-clause-ok
returns-in_ok-to_string-in-Some-clause-ok c = (challenge_kept c.in-Some.challenge, c.in-Some.ensures, search rules)

pub returns-in_err-to_string-in-Some-clause-memory : goal.returns-in_err-to_string-in-Some-clause-memory
returns-in_err-to_string-in-Some-clause-memory c =
    on_err ((challenge : ServerChallenge) × IsOpen c.args.scram.now challenge) _
    (challenge_kept c.in-Some.challenge, c.in-Some.ensures)
