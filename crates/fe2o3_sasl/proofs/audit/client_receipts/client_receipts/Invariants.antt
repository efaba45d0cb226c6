use Rattle.std.proofs.Common.{◌≤◌, map}
use Rattle.fe2o3_sasl_core.specs.Runs.{given, client_answer}
use Rattle.fe2o3_sasl.specs.private.ClientReceipts.{ClientSoFar, KeptKeys, login_at}
use Rattle.fe2o3_sasl.specs.private.Findings.{client_receipt}
use Rattle.fe2o3_sasl.proofs.audit.client_receipts.client_receipts.Given as goal

abbrev pub invariant-loop-place : goal.invariant-loop-place
invariant-loop-place l = record {
  so_far : ClientSoFar (login_at l.words) (map given l.events) (map client_answer l.replies) l.place l.last.start
      l.last.response (map client_receipt l.receipts.shown.items) (map client_receipt l.receipts.taken.items);
  behind : l.last.start ≤ l.place;
  keys : KeptKeys l.words l.kept;
}
