-- The pieces that the code's values are, and the bytes that are taken of them.
use Rattle.std.specs.Prelude.{ℕ, List, ◌++◌, take, drop}
use Rattle.fe2o3_sasl_negotiation.specs.declared.pieces.Piece as declared
use Rattle.fe2o3_sasl_negotiation.specs.Connections.{Piece, bytes_of}

-- the piece that a value is
abbrev pub piece_of : declared.Piece → Piece
piece_of piece = record { bytes = piece.bytes.now; nonce = piece.nonce }

-- the bytes of the first n pieces, and the first k bytes after them
abbrev pub first_bytes : List Piece → ℕ → ℕ → List ℕ
first_bytes pieces n k = bytes_of (take n pieces) ++ take k (bytes_of (drop n pieces))
