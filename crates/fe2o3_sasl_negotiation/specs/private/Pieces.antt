-- What private contracts cite of bytes that arrive in pieces.
use Rattle.std.specs.Prelude.{ℕ, ◌+◌, ◌<◌, List, ◌++◌, length, take}
use Rattle.fe2o3_sasl_wire.specs.SaslFrames.{IsBytes}
use Rattle.fe2o3_sasl_negotiation.specs.Connections.{Piece, PieceNonceAt}
use Rattle.fe2o3_sasl_negotiation.specs.Negotiations.{Side}

-- the nonce of the next k bytes of a stream
abbrev pub NextNonces : List Piece → ℕ → ℕ → List ℕ → Type 0
NextNonces pieces at k nonce = (i : ℕ) → i < k → PieceNonceAt pieces (at + i) nonce

-- calls with these bytes, which take the first k of them, turn one side into the other: a connection stays one
abbrev pub Continues : {S : Type 0} → (List Piece → List ℕ → List ℕ → Side S → Type 0) → Side S → List ℕ → List ℕ → ℕ
    → List ℕ → Side S → Type 0
Continues Is side bytes nonce k more next = (pieces : List Piece) (taken sent : List ℕ) → Is pieces taken sent side
    → IsBytes (taken ++ bytes) → NextNonces pieces (length taken) (length bytes) nonce
    → Is pieces (taken ++ take k bytes) (sent ++ more) next
