use Rattle.std.proofs.Common.{false, length, ◌-◌, ◌≡◌, ◌≤◌, ◌++◌, List, ℕ}
use Rattle.fe2o3_sasl_core.specs.Profiles.{Profile}
use Rattle.fe2o3_sasl_core.specs.Runs.{ProfileSteps}
use Rattle.fe2o3_sasl_negotiation.specs.Connections.{ClientConnection}
use Rattle.fe2o3_sasl_negotiation.specs.Sides.{client_side, extended_in, hostname_in}
use Rattle.fe2o3_sasl_negotiation.specs.private.Pieces.{Continues}
use Rattle.fe2o3_sasl_negotiation.proofs.pieces.answer_piece.Given as goal

abbrev pub invariant-loop-taken : goal.invariant-loop-taken
invariant-loop-taken l = record {
  within : l.taken ≤ length l.piece.bytes.now;
  extended : extended_in l.side ≡ false;
  hostname : hostname_in l.side ≡ hostname_in l.fn.side;
  kept : (more : List ℕ) × (l.sent.items ≡ l.fn.sent.items ++ more)
      × ((limit : ℕ) (profile : Profile)
      → Continues (ClientConnection (ProfileSteps (hostname_in l.fn.side)) limit profile) (client_side l.fn.side)
      l.piece.bytes.now l.piece.nonce l.taken more (client_side l.side));
}

abbrev pub decreases-loop-taken : goal.decreases-loop-taken
decreases-loop-taken l = length l.piece.bytes.now - l.taken
