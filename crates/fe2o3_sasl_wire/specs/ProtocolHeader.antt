-- Protocol headers (AMQP 1.0, part 2, section 2.2; for the ids of TLS and SASL, part 5, sections 5.2 and 5.3).
use Rattle.std.specs.Prelude.{◌≡◌, ◌<◌, ◌≤◌, ℕ, List, [], ◌∷◌, ◌++◌, codes, length, take, drop, Option, Some, None, Result, Ok, Err, MatchResult}
use Rattle.std.specs.Borrow.{Bor}
use Rattle.fe2o3_sasl_wire.specs.declared.protocol_header.ProtocolId.{ProtocolId}
use Rattle.fe2o3_sasl_wire.specs.declared.protocol_header.ProtocolId.TheVariants.{Amqp, Tls, Sasl}
use Rattle.fe2o3_sasl_wire.specs.declared.protocol_header.ProtocolHeader.{ProtocolHeader}
use Rattle.fe2o3_sasl_wire.specs.declared.protocol_header.NegotiationError.{NegotiationError}
use Rattle.fe2o3_sasl_wire.specs.declared.protocol_header.NegotiationError.TheVariants.{ProtocolHeaderMismatch}

-- the byte of a protocol (part 2, section 2.2; part 5, sections 5.2 and 5.3)
abbrev pub id_byte : ProtocolId → ℕ
id_byte Amqp = 0
id_byte Tls = 2
id_byte Sasl = 3

-- "AMQP", the protocol, and the version (part 2, section 2.2)
abbrev pub header_bytes : ProtocolHeader → List ℕ
header_bytes header = codes "AMQP" ++ id_byte header.id ∷ header.major ∷ header.minor ∷ header.revision ∷ []

-- the header of a protocol at version 1.0.0 (part 2, section 2.8)
abbrev pub first_version : ProtocolId → ProtocolHeader
first_version id = record { id = id; major = 1; minor = 0; revision = 0 }

-- the bytes are no header (part 2, section 2.2)
abbrev pub IsNoHeader : List ℕ → Type 0
IsNoHeader bytes = (header : ProtocolHeader) → ¬ (header_bytes header ≡ bytes)

-- the protocol of this byte, or the byte itself if no protocol has it (part 2, section 2.2)
abbrev pub DecodesId : ℕ → Result ProtocolId ℕ → Type 0
DecodesId byte r = MatchResult r
    (λ id. id_byte id ≡ byte)
    (λ back. (back ≡ byte) × ((id : ProtocolId) → ¬ (id_byte id ≡ byte)))

-- the header with these bytes, or the bytes themselves if they are none (part 2, section 2.2)
abbrev pub DecodesHeader : List ℕ → Result ProtocolHeader (List ℕ) → Type 0
DecodesHeader bytes r = MatchResult r
    (λ header. header_bytes header ≡ bytes)
    (λ back. (back ≡ bytes) × IsNoHeader bytes)

-- the header with the bytes of a borrowed slice, or the slice itself if it is none (part 2, section 2.2)
abbrev pub DecodesSlice : Bor (List ℕ) → Result ProtocolHeader (Bor (List ℕ)) → Type 0
DecodesSlice slice r = MatchResult r
    (λ header. header_bytes header ≡ slice.now)
    (λ back. (back ≡ slice) × IsNoHeader slice.now)

-- the first eight bytes of a buffer, the length of a header, were taken (part 2, section 2.2)
pub record TakesEight (old new : List ℕ) : Type 0 where
  pub enough : 8 ≤ length old
  pub rest : new ≡ drop 8 old

-- nothing is taken of less than eight bytes, otherwise eight: those of a header, or of none, as the error says (part 2,
-- section 2.2)
abbrev pub DecodesBuffer : List ℕ → List ℕ → Result (Option ProtocolHeader) NegotiationError → Type 0
DecodesBuffer old new (Ok None) = (length old < 8) × (new ≡ old)
DecodesBuffer old new (Ok (Some header)) = TakesEight old new × (header_bytes header ≡ take 8 old)
DecodesBuffer old new (Err (ProtocolHeaderMismatch bytes)) =
    TakesEight old new × (bytes ≡ take 8 old) × IsNoHeader bytes

-- a header's bytes are read as that header (part 2, section 2.2)
abbrev pub BytesGiveTheHeaderBack : Type 0
BytesGiveTheHeaderBack =
    (header : ProtocolHeader) (r : Result ProtocolHeader (List ℕ)) → DecodesHeader (header_bytes header) r
    → r ≡ Ok header
