-- The name by which `scram server` looks a user up (RFC 5802, section 5.1).
use Rattle.std.specs.Prelude.{◌≡◌, ◌≢◌, ◌⊎◌, ℕ, Bool, false, true, List, [], Option, None, Some, chars, encode_utf8_all}
use Rattle.saslprep.specs.Saslprep.{prepared, refusal}
use Rattle.saslprep.specs.declared.Unassigned.TheVariants.{Allowed}

-- the bytes of a name that SASLprep maps and normalizes
abbrev pub query_bytes : List ℕ → List ℕ
query_bytes sent = encode_utf8_all (prepared (chars sent))

-- what SASLprep makes of a name as a query (RFC 4013): none if it rejects the name or makes it empty
abbrev pub IsPreparedName : List ℕ → Option (List ℕ) → Type 0
IsPreparedName sent None = (refusal Allowed (chars sent) ≢ None) ⊎ (query_bytes sent ≡ [])
IsPreparedName sent (Some name) =
    (refusal Allowed (chars sent) ≡ None) × (name ≡ query_bytes sent) × (name ≢ [])

-- the name of the records of a user who sends a name, by whether the server prepares names
abbrev pub IsLookedUp : Bool → List ℕ → Option (List ℕ) → Type 0
IsLookedUp false sent name = name ≡ Some sent
IsLookedUp true sent name = IsPreparedName sent name
