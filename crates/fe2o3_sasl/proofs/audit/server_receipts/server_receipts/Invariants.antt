use Rattle.std.proofs.Common.{◌≤◌, map}
use Rattle.fe2o3_scram.specs.Credentials.{serving}
use Rattle.fe2o3_sasl.specs.private.Findings.{server_receipt}
use Rattle.fe2o3_sasl.specs.private.ServerReceipts.{ServerSoFar}
use Rattle.fe2o3_sasl_core.specs.Runs.{given, server_answer}
use Rattle.fe2o3_sasl.proofs.audit.server_receipts.server_receipts.Given as goal

abbrev pub invariant-loop-place : goal.invariant-loop-place
invariant-loop-place g l =
    record {
      so_far : ServerSoFar (serving l.rules (g.C.ScramCredentialProvider.meaning l.credentials))
          (map given l.events) (map server_answer l.replies) l.place l.challenge (map server_receipt l.oks.items);
      behind : l.challenge ≤ l.place;
    }
