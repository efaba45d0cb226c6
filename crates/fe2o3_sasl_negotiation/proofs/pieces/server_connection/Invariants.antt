use Rattle.std.proofs.Common.{◌≡◌, false, map, take}
use Rattle.fe2o3_sasl_wire.specs.SaslFrames.{IsBytes}
use Rattle.fe2o3_sasl_negotiation.specs.Connections.{ServerConnection, bytes_of}
use Rattle.fe2o3_sasl_negotiation.specs.Pieces.{piece_of}
use Rattle.fe2o3_sasl_negotiation.specs.Sides.{extended_in, server_side}
use Rattle.fe2o3_sasl_negotiation.proofs.pieces.server_connection.Given as goal

abbrev pub invariant-loop-piece : goal.invariant-loop-piece
invariant-loop-piece g l =
    let m = g.A.SaslAcceptor in
    record {
      count : l.whole ≡ l.piece-index;
      extended : extended_in l.side ≡ false;
      so_far : IsBytes (bytes_of (map piece_of l.pieces))
          → ServerConnection m.names m.machine 512 (m.state l.fn.acceptor) (map piece_of l.pieces)
          (bytes_of (map piece_of (take l.piece-index l.pieces))) l.sent.items (server_side m.state l.side);
    }
