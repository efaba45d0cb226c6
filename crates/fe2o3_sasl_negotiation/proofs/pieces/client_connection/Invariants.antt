use Rattle.std.proofs.Common.{◌≡◌, false, map, take, option_map, string_bytes}
use Rattle.fe2o3_sasl_wire.specs.SaslFrames.{IsBytes}
use Rattle.fe2o3_sasl_core.specs.SaslProfile.{profile_of}
use Rattle.fe2o3_sasl_core.specs.Runs.{ProfileSteps}
use Rattle.fe2o3_sasl_negotiation.specs.Connections.{ClientConnection, bytes_of}
use Rattle.fe2o3_sasl_negotiation.specs.Pieces.{piece_of}
use Rattle.fe2o3_sasl_negotiation.specs.Sides.{client_side, extended_in, hostname_in}
use Rattle.fe2o3_sasl_negotiation.proofs.pieces.client_connection.Given as goal

abbrev pub invariant-loop-piece : goal.invariant-loop-piece
invariant-loop-piece l = record {
  count : l.whole ≡ l.piece-index;
  extended : extended_in l.side ≡ false;
  hostname : hostname_in l.side ≡ option_map string_bytes l.fn.hostname;
  so_far : IsBytes (bytes_of (map piece_of l.pieces))
      → ClientConnection (ProfileSteps (option_map string_bytes l.fn.hostname)) 512 (profile_of l.fn.profile)
      (map piece_of l.pieces)
      (bytes_of (map piece_of (take l.piece-index l.pieces))) l.sent.items (client_side l.side);
}
