-- Parsing from left to right, like the private functions. The proofs join it to the relation `Spells`. A parser returns
-- a value and the bytes after it, or nothing if the bytes do not begin with such a value.
use Rattle.std.specs.Prelude.{ℕ, zero, suc, ◌-◌, Bool, ◌&&◌, List, [], ◌∷◌, length, take, drop, Option, Some, None, nat_lt, ◌==◌, if◌then◌else◌, bytes_eq}
use Rattle.std.specs.Str.{is_utf8}
use Rattle.std.specs.List.{list_all}
use Rattle.std.specs.Int.{w32, w64, from_be_bytes}
use Rattle.fe2o3_sasl_wire.specs.declared.amqp_types.SaslCode.{SaslCode}
use Rattle.fe2o3_sasl_wire.specs.declared.amqp_types.SaslCode.TheVariants as sasl_codes
use Rattle.fe2o3_sasl_wire.specs.declared.sasl_frames.forms.Form.{Form}
use Rattle.fe2o3_sasl_wire.specs.declared.sasl_frames.forms.Form.TheVariants.{Eight, ThirtyTwo}
use Rattle.fe2o3_sasl_wire.specs.declared.sasl_frames.forms.Kind.{Kind}
use Rattle.fe2o3_sasl_wire.specs.declared.sasl_frames.forms.Kind.TheVariants as kinds
use Rattle.fe2o3_sasl_wire.specs.SaslFrames.{SaslFrame, Mechanisms, Init, Challenge, Response, Outcome}
use Rattle.fe2o3_sasl_wire.specs.private.Kinds.{name_of}

-- the next parser, if there is a value
infixl 10 ◌>>=◌
abbrev pub ◌>>=◌ : {A B : Type 0} → Option A → (A → Option B) → Option B
None >>= f = None
(Some x) >>= f = f x

-- one byte (part 1, section 1.2)
abbrev pub byte_at : List ℕ → Option (ℕ × List ℕ)
byte_at [] = None
byte_at (b ∷ rest) = Some (b, rest)

-- a number of four bytes (part 1, section 1.2)
abbrev pub four_at : List ℕ → Option (ℕ × List ℕ)
four_at bytes = if nat_lt (length bytes) 4 then None else Some (from_be_bytes w32 (take 4 bytes), drop 4 bytes)

-- a number of eight bytes (part 1, section 1.6.6)
abbrev pub eight_at : List ℕ → Option (ℕ × List ℕ)
eight_at bytes = if nat_lt (length bytes) 8 then None else Some (from_be_bytes w64 (take 8 bytes), drop 8 bytes)

-- a size, a length or a count (part 1, section 1.2)
abbrev pub number_at : Form → List ℕ → Option (ℕ × List ℕ)
number_at Eight bytes = byte_at bytes
number_at ThirtyTwo bytes = four_at bytes

-- a length, and that many bytes (part 1, section 1.2.2)
unfoldable pub content_at : Form → List ℕ → Option (List ℕ × List ℕ)
content_at form bytes = do
  n ← number_at form bytes
  if nat_lt (length n.1) n.0 then None else Some (take n.0 n.1, drop n.0 n.1)

-- the form that a constructor names (part 1, section 1.2)
abbrev pub form_at : ℕ → ℕ → ℕ → Option Form
form_at short long constructor =
    if constructor == short then Some Eight else (if constructor == long then Some ThirtyTwo else None)

-- a constructor of either form, a length, and that many bytes (part 1, section 1.2.2)
unfoldable pub variable_at : ℕ → ℕ → List ℕ → Option (List ℕ × List ℕ)
variable_at short long bytes = do
  constructor ← byte_at bytes
  form ← form_at short long constructor.0
  content_at form constructor.1

-- each byte is ASCII (part 1, section 1.6.21)
abbrev pub is_ascii : List ℕ → Bool
is_ascii bytes = list_all (λ b. nat_lt b 128) bytes

-- a symbol without its constructor (part 1, section 1.2.4)
unfoldable pub element_at : Form → List ℕ → Option (List ℕ × List ℕ)
element_at form bytes = do
  x ← content_at form bytes
  if is_ascii x.0 then Some x else None

-- a symbol (part 1, section 1.6.21)
unfoldable pub symbol_at : List ℕ → Option (List ℕ × List ℕ)
symbol_at bytes = do
  constructor ← byte_at bytes
  form ← form_at 0xa3 0xb3 constructor.0
  element_at form constructor.1

-- a string (part 1, section 1.6.20)
unfoldable pub string_at : List ℕ → Option (List ℕ × List ℕ)
string_at bytes = do
  x ← variable_at 0xa1 0xb1 bytes
  if is_utf8 x.0 then Some x else None

-- that many symbols without their constructor (part 1, section 1.2.4)
unfoldable pub elements_at : Form → ℕ → List ℕ → Option (List (List ℕ) × List ℕ)
elements_at form zero bytes = Some ([], bytes)
elements_at form (suc n) bytes = do
  first ← element_at form bytes
  others ← elements_at form n first.1
  Some (first.0 ∷ others.0, others.1)

-- an array after its constructor (part 1, section 1.2.4)
unfoldable pub array_at : Form → List ℕ → Option (List (List ℕ) × List ℕ)
array_at form bytes = do
  inner ← content_at form bytes
  count ← number_at form inner.0
  constructor ← byte_at count.1
  element ← form_at 0xa3 0xb3 constructor.0
  names ← elements_at element count.0 constructor.1
  if length names.1 == 0 then Some (names.0, inner.1) else None

-- a list of one symbol, after the symbol's constructor (part 1, section 1.4)
unfoldable pub one_at : Form → List ℕ → Option (List (List ℕ) × List ℕ)
one_at form bytes = elements_at form 1 bytes

-- an array of symbols, or one symbol, which is read as a list of one (part 1, sections 1.4 and 1.6.24)
unfoldable pub symbols_at : List ℕ → Option (List (List ℕ) × List ℕ)
symbols_at [] = None
symbols_at (constructor ∷ rest) =
    if constructor == 0xe0 then array_at Eight rest
    else (if constructor == 0xf0 then array_at ThirtyTwo rest
    else (form_at 0xa3 0xb3 constructor >>= λ form. one_at form rest))

-- the code with this number (part 5, section 5.3.3.6)
abbrev pub sasl_code : ℕ → Option SaslCode
sasl_code n =
    if n == 0 then Some sasl_codes.Ok
    else (if n == 1 then Some sasl_codes.Auth
    else (if n == 2 then Some sasl_codes.Sys
    else (if n == 3 then Some sasl_codes.SysPerm
    else (if n == 4 then Some sasl_codes.SysTemp else None))))

-- an outcome's code, as a ubyte (part 5, section 5.3.3.5)
unfoldable pub code_at : List ℕ → Option (SaslCode × List ℕ)
code_at bytes = do
  constructor ← byte_at bytes
  n ← byte_at constructor.1
  code ← sasl_code n.0
  if constructor.0 == 0x50 then Some (code, n.1) else None

-- ---- the items of a list

-- how many items are left, and their bytes (part 1, section 1.2.3)
abbrev pub Items : Type 0
Items = ℕ × List ℕ

-- the next item, which must be present (part 1, section 1.4)
unfoldable pub required : {A : Type 0} → (List ℕ → Option (A × List ℕ)) → Items → Option (A × Items)
required read items = if items.0 == 0 then None else (read items.1 >>= λ x. Some (x.0, (items.0 - 1, x.1)))

-- the bytes after a null (part 1, section 1.6.1)
abbrev pub null_at : List ℕ → Option (List ℕ)
null_at [] = None
null_at (b ∷ rest) = if b == 0x40 then Some rest else None

-- no value if a null was read, otherwise the result of the value's parser (part 1, section 1.4)
abbrev pub unless_null : {A : Type 0} → Option (List ℕ) → ℕ → Option (A × List ℕ) → Option (Option A × Items)
unless_null (Some rest) count read = Some (None, (count - 1, rest))
unless_null None count read = read >>= λ x. Some (Some x.0, (count - 1, x.1))

-- the next item, which may be null or absent (part 1, section 1.4)
unfoldable pub optional_at : {A : Type 0} → (List ℕ → Option (A × List ℕ)) → Items → Option (Option A × Items)
optional_at read items =
    if items.0 == 0 then Some (None, items) else unless_null (null_at items.1) items.0 (read items.1)

-- no item and no byte is left (part 1, section 1.2.3)
abbrev pub ended : Items → Option (Unit {0})
ended items = if items.0 == 0 && (length items.1 == 0) then Some tt else None

-- a binary (part 1, section 1.6.19)
unfoldable pub binary_at : List ℕ → Option (List ℕ × List ℕ)
binary_at bytes = variable_at 0xa0 0xb0 bytes

-- the frame of a kind with these items (part 5, section 5.3.3)
unfoldable pub fields_at : Kind → Items → Option SaslFrame
fields_at kinds.Mechanisms items = do
  names ← required symbols_at items
  ended names.1 >>= λ _. Some (Mechanisms names.0)
fields_at kinds.Init items = do
  mechanism ← required symbol_at items
  first ← optional_at binary_at mechanism.1
  hostname ← optional_at string_at first.1
  ended hostname.1 >>= λ _. Some (Init mechanism.0 first.0 hostname.0)
fields_at kinds.Challenge items = do
  bytes ← required binary_at items
  ended bytes.1 >>= λ _. Some (Challenge bytes.0)
fields_at kinds.Response items = do
  bytes ← required binary_at items
  ended bytes.1 >>= λ _. Some (Response bytes.0)
fields_at kinds.Outcome items = do
  code ← required code_at items
  bytes ← optional_at binary_at code.1
  ended bytes.1 >>= λ _. Some (Outcome code.0 bytes.0)

-- a list with a size and a count, after its constructor (part 1, section 1.2.3)
abbrev pub sized_at : ℕ → List ℕ → Option (Items × List ℕ)
sized_at constructor bytes = do
  form ← form_at 0xc0 0xd0 constructor
  inner ← content_at form bytes
  count ← number_at form inner.0
  Some (count, inner.1)

-- a list of any form (part 1, section 1.6.22)
unfoldable pub list_at : List ℕ → Option (Items × List ℕ)
list_at [] = None
list_at (constructor ∷ rest) = if constructor == 0x45 then Some ((0, []), rest) else sized_at constructor rest

-- the kind of frame with this code (part 5, section 5.3.3)
abbrev pub kind_of_code : ℕ → Option Kind
kind_of_code n =
    if n == 0x40 then Some kinds.Mechanisms
    else (if n == 0x41 then Some kinds.Init
    else (if n == 0x42 then Some kinds.Challenge
    else (if n == 0x43 then Some kinds.Response
    else (if n == 0x44 then Some kinds.Outcome else None))))

-- the kind of frame with this name (part 5, section 5.3.3)
unfoldable pub kind_of_name : List ℕ → Option Kind
kind_of_name name =
    if bytes_eq name (name_of kinds.Mechanisms) then Some kinds.Mechanisms
    else (if bytes_eq name (name_of kinds.Init) then Some kinds.Init
    else (if bytes_eq name (name_of kinds.Challenge) then Some kinds.Challenge
    else (if bytes_eq name (name_of kinds.Response) then Some kinds.Response
    else (if bytes_eq name (name_of kinds.Outcome) then Some kinds.Outcome else None))))

-- a descriptor (part 1, section 1.4)
unfoldable pub descriptor_at : List ℕ → Option (Kind × List ℕ)
descriptor_at [] = None
descriptor_at (constructor ∷ rest) =
    if constructor == 0x53 then (byte_at rest >>= λ n. kind_of_code n.0 >>= λ kind. Some (kind, n.1))
    else (if constructor == 0x80 then (eight_at rest >>= λ n. kind_of_code n.0 >>= λ kind. Some (kind, n.1))
    else (symbol_at (constructor ∷ rest) >>= λ name. kind_of_name name.0 >>= λ kind. Some (kind, name.1)))

-- a described list (part 1, section 1.4)
unfoldable pub value_at : List ℕ → Option (SaslFrame × List ℕ)
value_at [] = None
value_at (zero ∷ bytes) = do
  kind ← descriptor_at bytes
  list ← list_at kind.1
  frame ← fields_at kind.0 list.0
  Some (frame, list.1)
value_at (suc b ∷ bytes) = None

-- the symbols that were read from the elements (part 1, section 1.2.4)
abbrev pub names_in : Option (List (List ℕ) × List ℕ) → List (List ℕ)
names_in None = []
names_in (Some x) = x.0
