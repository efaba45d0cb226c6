-- Laws of the grammar of frames, over the relation `Spells` only (AMQP 1.0, part 5, section 5.3).
use Rattle.std.specs.Prelude.{◌≡◌, ◌↔◌, ℕ, List, ◌++◌, length, IsTrue, Some, Result, Ok}
use Rattle.fe2o3_sasl_wire.specs.declared.amqp_types.SaslCode.{SaslCode}
use Rattle.fe2o3_sasl_wire.specs.declared.protocol_header.ProtocolHeader.{ProtocolHeader}
use Rattle.fe2o3_sasl_wire.specs.declared.protocol_header.ProtocolId.{ProtocolId}
use Rattle.fe2o3_sasl_wire.specs.ProtocolHeader.{id_byte, header_bytes}
use Rattle.fe2o3_sasl_wire.specs.AmqpTypes.{same_frame}
use Rattle.fe2o3_sasl_wire.specs.declared.sasl_frames.error.Error.{Error}
use Rattle.fe2o3_sasl_wire.specs.SaslFrames.{IsBytes, SaslFrame, outcome_code, Spells, ReadsBody, canonical, HasTexts}
use Rattle.fe2o3_sasl_wire.specs.Owned.{HasAsciiMechanism}

-- a canonical body spells its frame (part 5, section 5.3.1)
abbrev pub CanonicalBodiesSpell : Type 0
CanonicalBodiesSpell =
    (frame : SaslFrame) (body : List ℕ) → HasTexts frame → canonical frame ≡ Some body → Spells frame body

-- no body spells two frames (part 5, section 5.3.1)
abbrev pub SpellingsHaveOneFrame : Type 0
SpellingsHaveOneFrame = (left right : SaslFrame) (body : List ℕ) → Spells left body → Spells right body → left ≡ right

-- no spelling is a proper prefix of another: two that begin one list of bytes are equal, and of one frame (part 5,
-- section 5.3.1)
abbrev pub NoSpellingBeginsAnother : Type 0
NoSpellingBeginsAnother =
    (left right : SaslFrame) (body other rest others : List ℕ) → Spells left body → Spells right other
    → body ++ rest ≡ other ++ others → (left ≡ right) × (body ≡ other)

-- a canonical body followed by any bytes is read as its frame, and as no other (part 5, section 5.3.1)
abbrev pub WrittenBodiesAreRead : Type 0
WrittenBodiesAreRead =
    (frame : SaslFrame) (body rest : List ℕ) (answer : Result (SaslFrame × ℕ) Error)
    → HasTexts frame → canonical frame ≡ Some body → ReadsBody (body ++ rest) (Ok (frame, length body))
    × (ReadsBody (body ++ rest) answer → answer ≡ Ok (frame, length body))

-- each list of bytes is read in exactly one way (part 5, section 5.3.1)
abbrev pub BodiesHaveOneAnswer : Type 0
BodiesHaveOneAnswer = (body : List ℕ) → IsBytes body
    → (answer : Result (SaslFrame × ℕ) Error) × ReadsBody body answer
    × ((other : Result (SaslFrame × ℕ) Error) → ReadsBody body other → other ≡ answer)

-- the mechanism of every init that a body spells is ASCII (part 1, section 1.6.21)
abbrev pub SpelledMechanismsAreAscii : Type 0
SpelledMechanismsAreAscii = (frame : SaslFrame) (body : List ℕ) → Spells frame body → HasAsciiMechanism frame

-- `==` is true exactly of equal frames, codes, headers and protocols (part 5, section 5.3.3; part 2, section 2.2)
abbrev pub EqualValuesAreOne : Type 0
EqualValuesAreOne = ((left right : SaslFrame) → IsTrue (same_frame left right) ↔ (left ≡ right))
    × ((left right : SaslCode) → outcome_code left ≡ outcome_code right → left ≡ right)
    × ((left right : ProtocolHeader) → header_bytes left ≡ header_bytes right → left ≡ right)
    × ((left right : ProtocolId) → id_byte left ≡ id_byte right → left ≡ right)
