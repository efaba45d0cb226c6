-- What a struct of a connection and the next bytes show before they are received (AMQP 1.0, part 5, section 5.3.2).
use Rattle.std.specs.Prelude.{◌≡◌, ◌≢◌, ◌⊎◌, ◌||◌, ℕ, List, [], Bool, Result, Ok, Err}
use Rattle.fe2o3_scram.specs.Readings.{IsFirst, NoneHolds}
use Rattle.fe2o3_sasl_negotiation.specs.declared.progress.Expected.{Expected}
use Rattle.fe2o3_sasl_negotiation.specs.declared.progress.Expected.TheVariants.{Header, Frame}
use Rattle.fe2o3_sasl_negotiation.specs.declared.progress.FrameKind.{FrameKind}
use Rattle.fe2o3_sasl_negotiation.specs.declared.progress.FrameKind.TheVariants as turns
use Rattle.fe2o3_sasl_negotiation.specs.declared.progress.Progress.TheVariants.{InProgress}
use Rattle.fe2o3_sasl_negotiation.specs.Framing.{IsPart, body_read}
use Rattle.fe2o3_sasl_negotiation.specs.Negotiations.{Completes, Side}
use Rattle.fe2o3_sasl_negotiation.specs.Nonces.{client_uses_nonce, server_uses_nonce}
use Rattle.sasl_c.specs.declared.connection.Connection.{Connection}
use Rattle.sasl_c.specs.declared.status.Status.{Status}
use Rattle.sasl_c.specs.declared.status.Status.TheVariants as statuses
use Rattle.sasl_c.specs.Connection.{IsSideOf, accepts_extended, Keeps, KeepsNoPart, expected_number, progress_code, side_tests}

-- a side with no machine
abbrev pub AnySide : Type 0
AnySide = Side (Unit {0})

-- ---- the nonce of the next call (RFC 5802, section 5)

-- a side may use the nonce of its next call, as a client or as a server
abbrev pub uses_nonce : {S : Type 0} → Side S → Bool
uses_nonce side = client_uses_nonce side || server_uses_nonce side

-- the struct is in progress, and expects the list of mechanisms, as only a client does, or an init, as only a server does
abbrev pub ShowsNonceUse : Connection → Type 0
ShowsNonceUse kept = (kept.progress ≡ progress_code InProgress)
    × ((kept.expected ≡ expected_number (Frame turns.Mechanisms)) ⊎ (kept.expected ≡ expected_number (Frame turns.Init)))

-- the number is 1 if the struct shows this, and otherwise 0
abbrev pub IsNonceNumber : Connection → ℕ → Type 0
IsNonceNumber kept number = (ShowsNonceUse kept → number ≡ 1) × (¬ ShowsNonceUse kept → number ≡ 0)

-- ---- the frame that bytes complete

-- a frame is expected, and the struct keeps a part of it: where a call requests memory to complete a frame
abbrev pub AwaitsFrame : Connection → Type 0
AwaitsFrame kept = (expected : Expected) × (held : List ℕ) × Keeps kept InProgress expected held
    × IsPart expected 512 held × (expected ≢ Header)

-- the body of the frame that these bytes complete, as a side reads it that may accept extended headers (part 2, section
-- 2.3.1), which has at least four bytes; empty if they complete none
abbrev pub CompletedBody : {S : Type 0} → Bool → Side S → List ℕ → List ℕ → Type 0
CompletedBody accepts side bytes body =
    ((turn : FrameKind) × (received : List ℕ) × Completes side bytes turn received × (body ≡ body_read accepts received))
    ⊎ (((turn : FrameKind) (other : List ℕ) → ¬ Completes side bytes turn other) × (body ≡ []))

-- the body for the side of a struct
unfoldable pub Peeked : Connection → List ℕ → List ℕ → Type 0
Peeked kept bytes body = (side : AnySide) × IsSideOf kept side × (side.progress ≡ InProgress)
    × IsPart side.expected 512 side.held × CompletedBody (accepts_extended kept) side bytes body

-- or why there is none: the struct is of no side that expects more bytes
unfoldable pub NotPeeked : Connection → Status → Type 0
NotPeeked kept status = IsFirst (side_tests kept) status
    ⊎ (NoneHolds (side_tests kept) × (status ≡ statuses.InvalidSnapshot) × KeepsNoPart kept)

-- what a call returns
abbrev pub Peeks : Connection → List ℕ → Result (List ℕ) Status → Type 0
Peeks kept bytes (Ok body) = Peeked kept bytes body
Peeks kept bytes (Err status) = NotPeeked kept status
