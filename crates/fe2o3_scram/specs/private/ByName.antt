-- A map from each name to the record that counts. No public clause cites this file.
use Rattle.std.specs.BTreeMap.{BTreeMap, get_by_text}
use Rattle.std.specs.Prelude.{ℕ, List, ◌≡◌, String, option_map}
use Rattle.fe2o3_scram.specs.declared.hmac.ScramVersion.{ScramVersion}
use Rattle.fe2o3_scram.specs.Credentials.{Records, VersionedRecord, record_at, versioned}

-- the map has under each name its first record, for this version, and has no other name
abbrev pub IsByName : {X Y : Type 0} → (X → VersionedRecord) → BTreeMap (String Y) X → ScramVersion → Records → Type 0
IsByName record_of map version records =
    (name : List ℕ) → option_map record_of (get_by_text map name)
    ≡ option_map (versioned version) (record_at records name)
