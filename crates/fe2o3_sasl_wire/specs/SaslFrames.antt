-- The five SASL frames, the bodies that spell them, what is read and what is written (AMQP 1.0, part 5, section 5.3).
use Rattle.std.specs.Prelude.{◌≡◌, ℕ, suc, ◌<◌, ◌≤◌, ◌^◌, ◌&&◌, List, [], ◌∷◌, ◌++◌, length, take, drop, slice_index, Option, Some, None, IsSome, Result, Ok, Err, ◌⊎◌, nat_lt, ◌==◌, if◌then◌else◌, codes, IsAscii, IsUtf8}
use Rattle.std.specs.List.{flat_map, list_all, AllByRecursion}
use Rattle.std.specs.Int.{w32, w64, to_be_bytes}
use Rattle.fe2o3_sasl_wire.specs.declared.amqp_types.SaslCode.{SaslCode}
use Rattle.fe2o3_sasl_wire.specs.declared.amqp_types.SaslCode.TheVariants as sasl_codes
use Rattle.fe2o3_sasl_wire.specs.declared.sasl_frames.error.Error.{Error}
use Rattle.fe2o3_sasl_wire.specs.declared.sasl_frames.error.Error.TheVariants as faults
use Rattle.fe2o3_sasl_wire.specs.declared.sasl_frames.forms.Form.{Form}
use Rattle.fe2o3_sasl_wire.specs.declared.sasl_frames.forms.Form.TheVariants.{Eight, ThirtyTwo}

-- ---- frames

-- a frame: mechanisms; mechanism, response and hostname; challenge; response; code and data (part 5, section 5.3.3)
pub data SaslFrame : Type 0 where
  Mechanisms : List (List ℕ) → SaslFrame
  Init : List ℕ → Option (List ℕ) → Option (List ℕ) → SaslFrame
  Challenge : List ℕ → SaslFrame
  Response : List ℕ → SaslFrame
  Outcome : SaslCode → Option (List ℕ) → SaslFrame

-- the code and the name of a frame's descriptor (part 5, section 5.3.3)
abbrev pub descriptor_of : SaslFrame → ℕ × List ℕ
descriptor_of (Mechanisms names) = (0x40, codes "amqp:sasl-mechanisms:list")
descriptor_of (Init mechanism response hostname) = (0x41, codes "amqp:sasl-init:list")
descriptor_of (Challenge bytes) = (0x42, codes "amqp:sasl-challenge:list")
descriptor_of (Response bytes) = (0x43, codes "amqp:sasl-response:list")
descriptor_of (Outcome code bytes) = (0x44, codes "amqp:sasl-outcome:list")

-- the number of an outcome's code (part 5, section 5.3.3.6)
abbrev pub outcome_code : SaslCode → ℕ
outcome_code sasl_codes.Ok = 0
outcome_code sasl_codes.Auth = 1
outcome_code sasl_codes.Sys = 2
outcome_code sasl_codes.SysPerm = 3
outcome_code sasl_codes.SysTemp = 4

-- the value of a field (part 1, section 1.6)
pub data Field : Type 0 where
  Null : Field
  Ubyte : ℕ → Field
  Binary : List ℕ → Field
  Text : List ℕ → Field
  Symbol : List ℕ → Field
  Symbols : List (List ℕ) → Field

-- a field that may be absent (part 1, section 1.4)
abbrev pub optional : (List ℕ → Field) → Option (List ℕ) → Field
optional field None = Null
optional field (Some bytes) = field bytes

-- the fields of a frame, in order (part 5, sections 5.3.3.1 to 5.3.3.5)
abbrev pub fields_of : SaslFrame → List Field
fields_of (Mechanisms names) = Symbols names ∷ []
fields_of (Init mechanism response hostname) = Symbol mechanism ∷ optional Binary response ∷ optional Text hostname ∷ []
fields_of (Challenge bytes) = Binary bytes ∷ []
fields_of (Response bytes) = Binary bytes ∷ []
fields_of (Outcome code bytes) = Ubyte (outcome_code code) ∷ optional Binary bytes ∷ []

-- ---- encodings

-- each number is a byte (part 1, section 1.2), as in each list of bytes that the code holds
abbrev pub IsBytes : List ℕ → Type 0
IsBytes bytes = (i : ℕ) → slice_index bytes i < 256

-- the bound of a size, a length or a count (part 1, section 1.2)
abbrev pub limit : Form → ℕ
limit Eight = 2 ^ 8
limit ThirtyTwo = 2 ^ 32

-- a size, a length or a count in network byte order (part 1, section 1.2)
abbrev pub number : Form → ℕ → List ℕ
number Eight n = n ∷ []
number ThirtyTwo n = to_be_bytes w32 n

-- the constructor of a form (part 1, section 1.2)
abbrev pub choice : ℕ → ℕ → Form → ℕ
choice short long Eight = short
choice short long ThirtyTwo = long

-- a length or a size, followed by that many bytes (part 1, section 1.2.2)
abbrev pub content : Form → List ℕ → List ℕ
content form bytes = number form (length bytes) ++ bytes

-- the constructor of a form, a length or a size, followed by that many bytes (part 1, section 1.2.2)
abbrev pub sized : ℕ → ℕ → Form → List ℕ → List ℕ
sized short long form bytes = choice short long form ∷ content form bytes

-- what an array's size counts: the count, and one constructor before the elements (part 1, section 1.2.4)
abbrev pub array_body : Form → Form → List (List ℕ) → List ℕ
array_body form inner symbols =
    number form (length symbols) ++ choice 0xa3 0xb3 inner ∷ flat_map (content inner) symbols

-- what a list's size counts: the count and the items (part 1, section 1.2.3)
abbrev pub list_body : Form → ℕ → List ℕ → List ℕ
list_body form count items = number form count ++ items

-- ---- which bodies spell a frame

-- a constructor, a length and that many bytes, in either form for any length (part 1, section 1.2.2)
pub record SpellsVariable (short long : ℕ) (bytes b : List ℕ) : Type 0 where
  pub form : Form
  pub fits : length bytes < limit form
  pub whole : b ≡ sized short long form bytes

-- a symbol is ASCII (part 1, section 1.6.21)
abbrev pub SpellsSymbol : List ℕ → List ℕ → Type 0
SpellsSymbol bytes b = IsAscii bytes × SpellsVariable 0xa3 0xb3 bytes b

-- an array of symbols; it has the constructor of the elements even if it has none (part 1, section 1.6.24)
pub record SpellsArray (symbols : List (List ℕ)) (b : List ℕ) : Type 0 where
  pub form : Form
  pub inner : Form
  pub each : AllByRecursion (λ symbol. IsAscii symbol × (length symbol < limit inner)) symbols
  pub size : length (array_body form inner symbols) < limit form
  pub count : length symbols < limit form
  pub whole : b ≡ sized 0xe0 0xf0 form (array_body form inner symbols)

-- a list with a size and a count (part 1, section 1.2.3)
pub record SpellsSized (count : ℕ) (items b : List ℕ) : Type 0 where
  pub form : Form
  pub size : length (list_body form count items) < limit form
  pub few : count < limit form
  pub whole : b ≡ sized 0xc0 0xd0 form (list_body form count items)

-- a list: the constructor of the empty list, or a list with a size and a count (part 1, section 1.6.22)
abbrev pub SpellsList : ℕ → List ℕ → List ℕ → Type 0
SpellsList count items b = ((count ≡ 0) × (items ≡ []) × (b ≡ 0x45 ∷ [])) ⊎ SpellsSized count items b

-- a field that is present: a binary is any bytes and a string is UTF-8 (part 1, sections 1.6.19 and 1.6.20); one symbol
-- is read as a list of one (part 1, section 1.4, on multiple values)
abbrev pub SpellsField : Field → List ℕ → Type 0
SpellsField Null b = b ≡ 0x40 ∷ []
SpellsField (Ubyte n) b = b ≡ 0x50 ∷ n ∷ []
SpellsField (Binary bytes) b = SpellsVariable 0xa0 0xb0 bytes b
SpellsField (Text bytes) b = IsUtf8 bytes × SpellsVariable 0xa1 0xb1 bytes b
SpellsField (Symbol bytes) b = SpellsSymbol bytes b
SpellsField (Symbols names) b = ((name : List ℕ) × (names ≡ name ∷ []) × SpellsSymbol name b) ⊎ SpellsArray names b

-- that many items, one for each field from the first on; nulls at the end may be absent (part 1, section 1.4)
abbrev pub SpellsItems : List Field → ℕ → List ℕ → Type 0
SpellsItems [] count items = (count ≡ 0) × (items ≡ [])
SpellsItems (field ∷ fields) count items =
    (AllByRecursion (λ absent. absent ≡ Null) (field ∷ fields) × (count ≡ 0) × (items ≡ []))
    ⊎ ((before : ℕ) × (item : List ℕ) × (others : List ℕ) × (count ≡ suc before) × (items ≡ item ++ others)
    × SpellsField field item × SpellsItems fields before others)

-- a descriptor: the code as smallulong or as ulong, or the name as a symbol (part 1, sections 1.4 and 1.6.6)
abbrev pub SpellsDescriptor : ℕ × List ℕ → List ℕ → Type 0
SpellsDescriptor descriptor b =
    (b ≡ 0x53 ∷ descriptor.0 ∷ []) ⊎ ((b ≡ 0x80 ∷ to_be_bytes w64 descriptor.0) ⊎ SpellsSymbol descriptor.1 b)

-- a body without its size: data offset 2, type 1, two bytes of any value (part 5, section 5.3.1), and a described list:
-- a zero byte, the descriptor, and the list of the fields (part 1, sections 1.2 and 1.4)
pub record Spells (frame : SaslFrame) (b : List ℕ) : Type 0 where
  pub third : ℕ
  pub fourth : ℕ
  pub descriptor : List ℕ
  pub count : ℕ
  pub items : List ℕ
  pub fields : List ℕ
  pub described : SpellsDescriptor (descriptor_of frame) descriptor
  pub each : SpellsItems (fields_of frame) count items
  pub listed : SpellsList count items fields
  pub whole : b ≡ 2 ∷ 1 ∷ third ∷ fourth ∷ 0 ∷ descriptor ++ fields

-- ---- what a body is read as

-- the first n bytes of a body spell the frame (part 5, section 5.3.1)
pub record Begins (body : List ℕ) (frame : SaslFrame) (n : ℕ) : Type 0 where
  pub within : n ≤ length body
  pub spelled : Spells frame (take n body)

-- the error for a body that begins with no frame: NotImplemented if, of four bytes or more, the type is not 1 or the
-- data offset is not 2 (part 5, section 5.3.1), otherwise DecodeError
unfoldable pub fault_of : List ℕ → Error
fault_of body = if nat_lt (length body) 4 then faults.DecodeError
    else (if slice_index body 1 == 1 && (slice_index body 0 == 2) then faults.DecodeError else faults.NotImplemented)

-- the frame that a prefix of a body spells and its length, or the error if none does (part 5, section 5.3.1)
abbrev pub ReadsBody : List ℕ → Result (SaslFrame × ℕ) Error → Type 0
ReadsBody body (Ok answer) = Begins body answer.0 answer.1
ReadsBody body (Err fault) = (fault ≡ fault_of body) × ((frame : SaslFrame) (n : ℕ) → ¬ (Begins body frame n))

-- a prefix of the old bytes spells the frame, and the new bytes are the rest (part 5, section 5.3.1)
abbrev pub TakesFrame : List ℕ → List ℕ → SaslFrame → Type 0
TakesFrame old new frame = (n : ℕ) × ReadsBody old (Ok (frame, n)) × (new ≡ drop n old)

-- why a body is not decoded: its error; or allocation fails, and then a prefix spells a frame (part 5, section 5.3.1)
abbrev pub RefusesBody : List ℕ → Error → Type 0
RefusesBody body faults.OutOfMemory = (frame : SaslFrame) × (n : ℕ) × Begins body frame n
RefusesBody body fault = ReadsBody body (Err fault)

-- ---- the one body that is written: the shortest forms, and no nulls at the end

-- the form of a length or a size: one byte if it is at most 255 (part 1, section 1.2)
abbrev pub shortest : ℕ → Form
shortest n = if nat_lt n 256 then Eight else ThirtyTwo

-- a body with its constructor and its size: one byte for the size if it is at most 255 (part 1, section 1.2)
abbrev pub compact : ℕ → ℕ → (Form → List ℕ) → List ℕ
compact short long body = let form = shortest (length (body Eight)) in sized short long form (body form)

-- the form of the elements: one byte if each symbol has at most 255 bytes (part 1, section 1.2.4)
abbrev pub inner_form : List (List ℕ) → Form
inner_form names = if list_all (λ name. nat_lt (length name) 256) names then Eight else ThirtyTwo

-- a field in its canonical encoding: a binary, a string or a symbol in the form of its length, and a list of symbols
-- always as an array (part 1, sections 1.2.2, 1.2.4 and 1.6)
abbrev pub canonical_field : Field → List ℕ
canonical_field Null = 0x40 ∷ []
canonical_field (Ubyte n) = 0x50 ∷ n ∷ []
canonical_field (Binary bytes) = compact 0xa0 0xb0 (λ form. bytes)
canonical_field (Text bytes) = compact 0xa1 0xb1 (λ form. bytes)
canonical_field (Symbol bytes) = compact 0xa3 0xb3 (λ form. bytes)
canonical_field (Symbols names) = compact 0xe0 0xf0 (λ form. array_body form (inner_form names) names)

-- a field before the fields to write: a null with nothing after it is omitted (part 1, section 1.4)
abbrev pub with_field : Field → List Field → List Field
with_field Null [] = []
with_field field fields = field ∷ fields

-- the fields up to the last one that has a value (part 1, section 1.4)
abbrev pub written : List Field → List Field
written [] = []
written (field ∷ fields) = with_field field (written fields)

-- the canonical body (part 5, section 5.3.1): the code as smallulong, and the count and the items of its fields as one
-- list (part 1, section 1.2.3); none if a size, and so that of the list, has more than 32 bits
unfoldable pub canonical : SaslFrame → Option (List ℕ)
canonical frame = let fields = written (fields_of frame) in
    let list : Form → List ℕ = λ form. list_body form (length fields) (flat_map canonical_field fields) in
    if nat_lt (length (list ThirtyTwo)) (2 ^ 32)
    then Some (2 ∷ 1 ∷ 0 ∷ 0 ∷ 0 ∷ 0x53 ∷ (descriptor_of frame).0 ∷ compact 0xc0 0xd0 list)
    else None

-- a field's symbols are ASCII and its string is UTF-8 (part 1, sections 1.6.20 and 1.6.21)
abbrev pub IsText : Field → Type 0
IsText (Text bytes) = IsUtf8 bytes
IsText (Symbol bytes) = IsAscii bytes
IsText (Symbols names) = AllByRecursion IsAscii names
IsText _ = Unit {0}

-- a frame's symbols are ASCII, its hostname UTF-8, like those of each frame of the code (part 1, sections 1.6.20 and
-- 1.6.21)
abbrev pub HasTexts : SaslFrame → Type 0
HasTexts frame = AllByRecursion IsText (fields_of frame)

-- new is old with the frame's canonical body at its end (part 5, section 5.3.1)
abbrev pub AppendsCanonical : SaslFrame → List ℕ → List ℕ → Type 0
AppendsCanonical frame old new = (body : List ℕ) × (canonical frame ≡ Some body) × (new ≡ old ++ body)

-- why a frame is not written: it has no canonical body; or allocation fails, and then it has one (part 5, section
-- 5.3.1)
abbrev pub RefusesFrame : SaslFrame → Error → Type 0
RefusesFrame frame faults.TooLarge = canonical frame ≡ None
RefusesFrame frame faults.OutOfMemory = IsSome (canonical frame)
RefusesFrame frame _ = ⊥
