-- Records as `gsasl --mkpasswd` of GNU SASL writes them.
use Rattle.std.specs.Prelude.{◌≡◌, ◌++◌, ◌⊎◌, ◌∷◌, ℕ, List, Ok, codes}
use Rattle.fe2o3_scram.specs.Credentials.{VersionedRecord}
use Rattle.fe2o3_scram.specs.Escape.{escaped}
use Rattle.fe2o3_scram.specs.RecordLines.{LastCut}
use Rattle.fe2o3_scram.specs.RecordText.{Fields, ReadsRecord, record_fields}

-- the fields with the separators of gsasl
abbrev pub gsasl_laid_out : Fields → List ℕ
gsasl_laid_out fields = codes "{" ++ (fields.mechanism ++ (codes "}" ++ (fields.count ++ (codes "," ++ (fields.salt
    ++ (codes "," ++ (fields.stored_key ++ (codes "," ++ fields.server_key))))))))

-- the text of a record
abbrev pub gsasl_text : VersionedRecord → List ℕ
gsasl_text kept = gsasl_laid_out (record_fields kept)

-- a line names a user and a record: the name, escaped, a space, and the record as RFC 5803 or gsasl writes it
abbrev pub NamesBoth : List ℕ → List ℕ → VersionedRecord → Type 0
NamesBoth line name kept = (text : List ℕ) × LastCut 32 line (escaped name) text
    × (ReadsRecord text (Ok kept) ⊎ (text ≡ gsasl_text kept))
