-- Where a call may run out of memory: only where it allocates.
use Rattle.std.specs.Prelude.{◌≡◌, ◌⊎◌, ◌<◌, ◌≤◌, ℕ, List, ◌++◌, Ok, vec_capacity}
use Rattle.fe2o3_sasl_wire.specs.SaslFrames.{SaslFrame}
use Rattle.fe2o3_sasl_core.specs.Bodies.{SpellsBody}
use Rattle.fe2o3_sasl_negotiation.specs.declared.side.ConnectionSide.{ConnectionSide}
use Rattle.fe2o3_sasl_negotiation.specs.declared.side.Role.{Ghosts}
use Rattle.fe2o3_sasl_negotiation.specs.declared.progress.Expected.TheVariants.{Header}
use Rattle.fe2o3_sasl_negotiation.specs.declared.progress.FrameKind.{FrameKind}
use Rattle.fe2o3_sasl_negotiation.specs.declared.progress.Progress.TheVariants.{InProgress}
use Rattle.fe2o3_sasl_negotiation.specs.Framing.{IsWhole, longest_unit}
use Rattle.fe2o3_sasl_negotiation.specs.Negotiations.{Side, Completes, IsInTurn}

-- how many bytes a side can hold before it allocates again
abbrev pub room_in : {E R : Type 0} {role : Ghosts R} → ConnectionSide E R role → ℕ
room_in side = vec_capacity side.held

-- there is room for the longest unit
abbrev pub HasRoom : {S : Type 0} → ℕ → Side S → Type 0
HasRoom room side = longest_unit side.limit ≤ room

-- these bytes complete the header
abbrev pub CompletesHeader : {S : Type 0} → Side S → List ℕ → Type 0
CompletesHeader side bytes = (side.expected ≡ Header) × IsWhole Header side.limit (side.held ++ bytes)

-- these bytes complete a frame that is read and in turn
abbrev pub CompletesInTurn : {S : Type 0} → Side S → List ℕ → Type 0
CompletesInTurn side bytes = (turn : FrameKind) × (body : List ℕ) × (frame : SaslFrame)
    × Completes side bytes turn body × SpellsBody body (Ok frame) × IsInTurn turn frame

-- a server allocates: room for the longest unit, while it has none, and its answer to a header or to a frame in turn;
-- one that has ended allocates nothing
abbrev pub ServerAsks : {S : Type 0} → ℕ → Side S → List ℕ → Type 0
ServerAsks room side bytes = (side.progress ≡ InProgress)
    × ((room < longest_unit side.limit) ⊎ (CompletesHeader side bytes ⊎ CompletesInTurn side bytes))

-- a client allocates: room for the longest unit, while it has none, and its answer to a frame in turn; it answers no
-- header
abbrev pub ClientAsks : {S : Type 0} → ℕ → Side S → List ℕ → Type 0
ClientAsks room side bytes =
    (side.progress ≡ InProgress) × ((room < longest_unit side.limit) ⊎ CompletesInTurn side bytes)
