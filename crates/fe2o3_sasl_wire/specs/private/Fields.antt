-- The fields of a frame as the encoder holds them.
use Rattle.std.specs.Prelude.{◌≡◌, ◌-◌, List, ◌++◌, length, replicate}
use Rattle.std.specs.List.{AllByRecursion}
use Rattle.fe2o3_sasl_wire.specs.declared.sasl_frames.fields.Field.{Field as HeldField}
use Rattle.fe2o3_sasl_wire.specs.declared.sasl_frames.fields.Field.TheVariants as held
use Rattle.fe2o3_sasl_wire.specs.SaslFrames.{Field, Null, Ubyte, Binary, Text, Symbol, Symbols}

-- the field that a value holds
abbrev pub shown_field : HeldField → Field
shown_field held.Null = Null
shown_field (held.Ubyte n) = Ubyte n
shown_field (held.Binary bytes) = Binary bytes.now
shown_field (held.Text text) = Text text.now
shown_field (held.Symbol text) = Symbol text.now
shown_field (held.Symbols symbols) = Symbols symbols.now

-- the fields followed by nulls, up to three
abbrev pub filled : List Field → List Field
filled fields = fields ++ replicate (3 - length fields) Null

-- none of the fields has a value
abbrev pub AllNull : List Field → Type 0
AllNull fields = AllByRecursion (λ field. field ≡ Null) fields
