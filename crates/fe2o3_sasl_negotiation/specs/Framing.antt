-- Headers and frames as bytes of a connection (AMQP 1.0, part 2, sections 2.2 and 2.3.1; part 5, section 5.3.1).
use Rattle.std.specs.Prelude.{ℕ, ◌+◌, ◌-◌, ◌*◌, ◌<◌, ◌≤◌, max, Bool, true, false, not, ◌&&◌, if◌then◌else◌, List, [], ◌∷◌, ◌++◌, length, take, drop, nat_eq, nat_lt}
use Rattle.std.specs.Cmp.Lexicographic.{pointwise}
use Rattle.std.specs.Coded.{le_prop}
use Rattle.std.specs.Int.{w32, to_be_bytes, from_be_bytes}
use Rattle.fe2o3_sasl_wire.specs.ProtocolHeader.{header_bytes, first_version}
use Rattle.fe2o3_sasl_wire.specs.declared.protocol_header.ProtocolId.TheVariants.{Sasl}
use Rattle.fe2o3_sasl_negotiation.specs.declared.progress.Expected.{Expected}
use Rattle.fe2o3_sasl_negotiation.specs.declared.progress.Expected.TheVariants.{Header, Frame}

-- the header of SASL 1.0.0, with which each side begins (part 5, section 5.3.2)
abbrev pub sasl_header : List ℕ
sasl_header = header_bytes (first_version Sasl)

-- whether a header is that of SASL 1.0.0
abbrev pub is_sasl_header : List ℕ → Bool
is_sasl_header header = pointwise nat_eq header sasl_header

-- a frame: its size in four bytes, big-endian, which counts itself, and its body (part 2, section 2.3.1)
abbrev pub framed : List ℕ → List ℕ
framed body = to_be_bytes w32 (length body + 4) ++ body

-- the size in the first four bytes
unfoldable pub size_of : List ℕ → ℕ
size_of bytes = from_be_bytes w32 (take 4 bytes)

-- a frame may have this size: it holds a frame's own header of eight bytes, and is within the limit (part 5, section
-- 5.3.1: no SASL frame has more than 512 bytes)
abbrev pub Fits : ℕ → ℕ → Type 0
Fits limit size = (8 ≤ size) × (size ≤ limit)

-- the length of the expected unit: eight bytes for a header (part 2, section 2.2), its own size for a frame
abbrev pub unit_size : Expected → List ℕ → ℕ
unit_size Header come = 8
unit_size (Frame turn) come = size_of come

-- the longest unit: a header has eight bytes, and a frame no more than the limit
abbrev pub longest_unit : ℕ → ℕ
longest_unit limit = max limit 8

-- less than the whole unit has arrived, and no size that is not allowed
abbrev pub IsPart : Expected → ℕ → List ℕ → Type 0
IsPart Header limit come = length come < 8
IsPart (Frame turn) limit come = 4 ≤ length come → Fits limit (size_of come) × (length come < size_of come)

-- the arrived size is not allowed
abbrev pub IsRefused : Expected → ℕ → List ℕ → Type 0
IsRefused Header limit come = ⊥
IsRefused (Frame turn) limit come = (4 ≤ length come) × ¬ Fits limit (size_of come)

-- the whole unit has arrived
abbrev pub IsWhole : Expected → ℕ → List ℕ → Type 0
IsWhole Header limit come = 8 ≤ length come
IsWhole (Frame turn) limit come = Fits limit (size_of come) × (size_of come ≤ length come)

-- "less than the whole" has one proof at most
pub IsPart-prop : (expected : Expected) (limit : ℕ) (come : List ℕ) → IsProp (IsPart expected limit come)
IsPart-prop Header limit come = le_prop
IsPart-prop (Frame turn) limit come = Prim.hlevel le_prop

-- ---- extended headers (part 2, section 2.3.1)

-- the data offset of a frame, with which its body begins: where the rest of the frame is, after its header and its
-- extended header, in words of four bytes from the first byte of the size
abbrev pub data_offset : List ℕ → ℕ
data_offset [] = 0
data_offset (words ∷ rest) = words

-- a frame with this body has an extended header: its data offset is above 2, the words of the header, and no word of
-- the extended header is after the end of the frame
abbrev pub has_extended_header : List ℕ → Bool
has_extended_header body = nat_lt 2 (data_offset body) && not (nat_lt (length body + 4) (4 * data_offset body))

-- a body without its extended header, which is ignored (part 5, section 5.3.1): its data offset is 2, and the three bytes
-- after that and all bytes from the old data offset on are as before
abbrev pub unextended : List ℕ → List ℕ
unextended body =
    if has_extended_header body then 2 ∷ (take 3 (drop 1 body) ++ drop (4 * data_offset body - 4) body) else body

-- the body that a side reads, by whether it accepts extended headers
abbrev pub body_read : Bool → List ℕ → List ℕ
body_read false body = body
body_read true body = unextended body

-- the unit that a side reads in the place of one that has arrived: a header as received, and a frame without its
-- extended header, if the side accepts these
abbrev pub unit_read : Bool → Expected → List ℕ → List ℕ
unit_read false expected unit = unit
unit_read true Header unit = unit
unit_read true (Frame turn) unit = framed (unextended (drop 4 unit))
