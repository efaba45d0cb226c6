-- Extensions of messages (RFC 5802, section 7: "unrecognized attributes not defined in this document MUST be ignored"),
-- and attributes in their place that RFC 5802 does define.
use Rattle.std.specs.Prelude.{ℕ, List, ◌∷◌, ◌≡◌, ◌⊎◌, ◌≤◌, codes, Bool, true, false, ◌&&◌, nat_eq}
use Rattle.std.specs.List.{list_any}
use Rattle.fe2o3_scram.specs.Texts.{Part}

-- whether the part is an attribute that RFC 5802 defines (section 5.1): one of its letters, followed by an equals sign
abbrev pub is_attribute : List ℕ → Bool
is_attribute (letter ∷ sign ∷ value) = nat_eq sign 61 && list_any (nat_eq letter) (codes "anmrcsipve")
is_attribute part = false

-- the text has an attribute that RFC 5802 defines at place k or later, counted from 0
abbrev pub HasAttributeFrom : ℕ → List ℕ → Type 0
HasAttributeFrom k text = (j : ℕ) × (part : List ℕ) × (k ≤ j) × Part text j part × (is_attribute part ≡ true)

-- one of the two sides received no attribute that RFC 5802 defines in the place of an extension (RFC 5802, section 7):
-- the client none in the server-first message, or the server none in the client-first message without its GS2 header
-- and none in the client-final message without its proof
abbrev pub NoneMisplaced : List ℕ → List ℕ → List ℕ → Type 0
NoneMisplaced first bare without =
    (¬ HasAttributeFrom 3 first) ⊎ ((¬ HasAttributeFrom 2 bare) × (¬ HasAttributeFrom 2 without))
