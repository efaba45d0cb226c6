-- A server's negotiation over any bytes, and one that has the same bytes at another machine (AMQP 1.0, part 5, section 5.3).
use Rattle.std.specs.Prelude.{◌≡◌, ℕ, List}
use Rattle.fe2o3_sasl_core.specs.AnyMechanismLaws.{Machine}
use Rattle.fe2o3_sasl_negotiation.specs.Connections.{Piece, ServerNegotiated}
use Rattle.fe2o3_sasl_negotiation.specs.Negotiations.{Side}

-- a server's negotiation by this machine from this state, over any bytes in any pieces
pub record ServerBy {S : Type 0} (machine : Machine S) (state : S) : Type 0 where
  pub limit : ℕ
  pub pieces : List Piece
  pub taken : List ℕ
  pub sent : List ℕ
  pub last : Side S
  pub connection : ServerNegotiated machine limit state pieces taken sent last

-- a side with this state of another machine
abbrev pub side_with : {S T : Type 0} → T → Side S → Side T
side_with state side = record {
  progress = side.progress;
  expected = side.expected;
  limit = side.limit;
  held = side.held;
  state = state;
}

-- the bytes are a negotiation of this machine too, between these states of it, with the same events and replies
abbrev pub NegotiatesAs : {S T : Type 0} (whole : Machine S) (state : S) → ServerBy whole state → Machine T → T → T
    → Type 0
NegotiatesAs whole state server machine begin end =
    (own : ServerNegotiated machine server.limit begin server.pieces server.taken server.sent (side_with end server.last))
    × (own.events ≡ server.connection.events) × (own.replies ≡ server.connection.replies)
