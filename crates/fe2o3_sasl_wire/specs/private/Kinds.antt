-- The kinds of frames, by which the code reads and writes a descriptor.
use Rattle.std.specs.Prelude.{◌≡◌, ℕ, ◌<◌, List, ◌∷◌, ◌++◌, codes, length, IsAscii}
use Rattle.fe2o3_sasl_wire.specs.declared.sasl_frames.forms.Form.{Form}
use Rattle.fe2o3_sasl_wire.specs.declared.sasl_frames.forms.Kind.{Kind}
use Rattle.fe2o3_sasl_wire.specs.declared.sasl_frames.forms.Kind.TheVariants as kinds
use Rattle.fe2o3_sasl_wire.specs.SaslFrames.{SaslFrame, Mechanisms, Init, Challenge, Response, Outcome, limit, fields_of, SpellsItems, SpellsList, SpellsDescriptor}

-- the kind of a frame
abbrev pub kind_of : SaslFrame → Kind
kind_of (Mechanisms names) = kinds.Mechanisms
kind_of (Init mechanism response hostname) = kinds.Init
kind_of (Challenge bytes) = kinds.Challenge
kind_of (Response bytes) = kinds.Response
kind_of (Outcome code bytes) = kinds.Outcome

-- the code of a kind's descriptor (part 5, section 5.3.3)
abbrev pub code_of : Kind → ℕ
code_of kinds.Mechanisms = 0x40
code_of kinds.Init = 0x41
code_of kinds.Challenge = 0x42
code_of kinds.Response = 0x43
code_of kinds.Outcome = 0x44

-- the name of a kind's descriptor (part 5, section 5.3.3)
abbrev pub name_of : Kind → List ℕ
name_of kinds.Mechanisms = codes "amqp:sasl-mechanisms:list"
name_of kinds.Init = codes "amqp:sasl-init:list"
name_of kinds.Challenge = codes "amqp:sasl-challenge:list"
name_of kinds.Response = codes "amqp:sasl-response:list"
name_of kinds.Outcome = codes "amqp:sasl-outcome:list"

-- the bytes spell the descriptor of this kind
abbrev pub SpellsKind : Kind → List ℕ → Type 0
SpellsKind kind b = SpellsDescriptor (code_of kind, name_of kind) b

-- a symbol as an element of an array, without its constructor (part 1, section 1.2.4)
abbrev pub IsElement : Form → List ℕ → Type 0
IsElement form symbol = IsAscii symbol × (length symbol < limit form)

-- the body after its first four bytes: a described list
pub record SpellsValue (frame : SaslFrame) (b : List ℕ) : Type 0 where
  pub descriptor : List ℕ
  pub count : ℕ
  pub items : List ℕ
  pub fields : List ℕ
  pub described : SpellsKind (kind_of frame) descriptor
  pub each : SpellsItems (fields_of frame) count items
  pub listed : SpellsList count items fields
  pub whole : b ≡ 0 ∷ descriptor ++ fields
