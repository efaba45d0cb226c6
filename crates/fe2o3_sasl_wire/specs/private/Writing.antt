-- What the private functions that write cite of lengths and forms.
use Rattle.std.specs.Prelude.{ℕ, Bool, List, length, nat_lt}
use Rattle.std.specs.List.{flat_map, list_all}
use Rattle.fe2o3_sasl_wire.specs.declared.sasl_frames.forms.Form.{Form}
use Rattle.fe2o3_sasl_wire.specs.declared.sasl_frames.forms.Form.TheVariants.{Eight, ThirtyTwo}
use Rattle.fe2o3_sasl_wire.specs.SaslFrames.{SaslFrame, fields_of, content, array_body, list_body, shortest, compact, inner_form, canonical_field, written}

-- how many bytes a size, a length or a count has (part 1, section 1.2)
abbrev pub width : Form → ℕ
width Eight = 1
width ThirtyTwo = 4

-- the concatenated elements of an array, without a constructor (part 1, section 1.2.4)
abbrev pub elements : Form → List (List ℕ) → List ℕ
elements form symbols = flat_map (content form) symbols

-- each symbol has at most 255 bytes
abbrev pub all_short : List (List ℕ) → Bool
all_short names = list_all (λ name. nat_lt (length name) 256) names

-- the form of an array: one byte if count, constructor and elements have at most 255 bytes together
abbrev pub array_form : List (List ℕ) → Form
array_form names = shortest (length (array_body Eight (inner_form names) names))

-- the form of a list: one byte if count and items have at most 255 bytes together
abbrev pub list_form : ℕ → List ℕ → Form
list_form count items = shortest (length (list_body Eight count items))

-- a binary, a string or a symbol in the form of its length (part 1, section 1.2.2)
abbrev pub canonical_variable : ℕ → ℕ → List ℕ → List ℕ
canonical_variable short long bytes = compact short long (λ form. bytes)

-- symbols as an array (part 1, section 1.2.4)
abbrev pub canonical_array : List (List ℕ) → List ℕ
canonical_array names = compact 0xe0 0xf0 (λ form. array_body form (inner_form names) names)

-- the items of a frame's list (part 1, section 1.4)
abbrev pub items_of : SaslFrame → List ℕ
items_of frame = flat_map canonical_field (written (fields_of frame))

-- how many items there are (part 1, section 1.4)
abbrev pub count_of : SaslFrame → ℕ
count_of frame = length (written (fields_of frame))

-- a list with a size and a count (part 1, section 1.2.3)
abbrev pub canonical_list : ℕ → List ℕ → List ℕ
canonical_list count items = compact 0xc0 0xd0 (λ form. list_body form count items)
