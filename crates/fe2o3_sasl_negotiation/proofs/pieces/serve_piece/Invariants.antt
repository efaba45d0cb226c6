use Rattle.std.proofs.Common.{false, length, ◌-◌, ◌≡◌, ◌≤◌, ◌++◌, List, ℕ}
use Rattle.fe2o3_sasl_negotiation.specs.Connections.{ServerConnection}
use Rattle.fe2o3_sasl_negotiation.specs.Sides.{extended_in, server_side}
use Rattle.fe2o3_sasl_negotiation.specs.private.Pieces.{Continues}
use Rattle.fe2o3_sasl_negotiation.proofs.pieces.serve_piece.Given as goal

abbrev pub invariant-loop-taken : goal.invariant-loop-taken
invariant-loop-taken g l =
    let m = g.A.SaslAcceptor in
    record {
      within : l.taken ≤ length l.piece.bytes.now;
      extended : extended_in l.side ≡ false;
      kept : (more : List ℕ) × (l.sent.items ≡ l.fn.sent.items ++ more)
          × ((limit : ℕ) (state : m.State)
          → Continues (ServerConnection m.names m.machine limit state) (server_side m.state l.fn.side)
          l.piece.bytes.now l.piece.nonce l.taken more (server_side m.state l.side));
    }

abbrev pub decreases-loop-taken : goal.decreases-loop-taken
decreases-loop-taken g l = length l.piece.bytes.now - l.taken
