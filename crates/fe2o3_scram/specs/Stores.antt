-- The meaning of a caller-owned store: a record for each of its entries, in order.
use Rattle.std.specs.Prelude.{ℕ, List, map}
use Rattle.fe2o3_scram.specs.Credentials.{Record, Records}

-- the records of entries that have these names and these records
abbrev pub records_in : {E : Type 0} → (E → List ℕ) → (E → Record) → List E → Records
records_in {E} name_of record_of entries = map (λ (entry : E). (name_of entry, record_of entry)) entries
