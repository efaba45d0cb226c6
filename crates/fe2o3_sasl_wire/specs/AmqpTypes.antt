-- What the types of the SASL frames hold (AMQP 1.0, part 5, section 5.3.3).
use Rattle.std.specs.Prelude.{◌≡◌, ℕ, ◌==◌, Bool, false, ◌&&◌, List, Result, MatchResult, option_map, bytes_eq, string_bytes, IsAscii}
use Rattle.std.specs.Option.{option_eq}
use Rattle.std.specs.Cmp.Lexicographic.{pointwise}
use Rattle.fe2o3_sasl_wire.specs.declared.amqp_types.symbols.SymbolError.{SymbolError}
use Rattle.fe2o3_sasl_wire.specs.declared.amqp_types.symbols.SymbolError.TheVariants.{NotAscii, OutOfMemory}
use Rattle.fe2o3_sasl_wire.specs.declared.amqp_types.Binary.{Binary}
use Rattle.fe2o3_sasl_wire.specs.declared.amqp_types.SaslCode.{SaslCode}
use Rattle.fe2o3_sasl_wire.specs.declared.amqp_types.SaslMechanisms.{SaslMechanisms}
use Rattle.fe2o3_sasl_wire.specs.declared.amqp_types.SaslInit.{SaslInit}
use Rattle.fe2o3_sasl_wire.specs.declared.amqp_types.SaslChallenge.{SaslChallenge}
use Rattle.fe2o3_sasl_wire.specs.declared.amqp_types.SaslResponse.{SaslResponse}
use Rattle.fe2o3_sasl_wire.specs.declared.amqp_types.SaslOutcome.{SaslOutcome}
use Rattle.fe2o3_sasl_wire.specs.SaslFrames.{SaslFrame, Mechanisms, Init, Challenge, Response, Outcome, outcome_code}

-- why a text is not a symbol: a byte is not ASCII; or allocation fails, and then all are (part 1, section 1.6.21)
abbrev pub RefusesText : List ℕ → SymbolError → Type 0
RefusesText text NotAscii = ¬ (IsAscii text)
RefusesText text OutOfMemory = IsAscii text

-- the code of this byte, or the byte itself if no code has it (part 5, section 5.3.3.6)
abbrev pub DecodesCode : ℕ → Result SaslCode ℕ → Type 0
DecodesCode byte r = MatchResult r
    (λ code. outcome_code code ≡ byte)
    (λ back. (back ≡ byte) × ((code : SaslCode) → ¬ (outcome_code code ≡ byte)))

-- the bytes of a binary (part 1, section 1.6.19)
abbrev pub binary_bytes : Binary → List ℕ
binary_bytes binary = binary.0.items

-- the frame of a list of mechanisms (part 5, section 5.3.3.1)
abbrev pub mechanisms_frame : SaslMechanisms → SaslFrame
mechanisms_frame mechanisms = Mechanisms mechanisms.sasl_server_mechanisms.0.items

-- the frame of an init (part 5, section 5.3.3.2)
abbrev pub init_frame : SaslInit → SaslFrame
init_frame init =
    Init init.mechanism (option_map binary_bytes init.initial_response) (option_map string_bytes init.hostname)

-- the frame of a challenge (part 5, section 5.3.3.3)
abbrev pub challenge_frame : SaslChallenge → SaslFrame
challenge_frame challenge = Challenge (binary_bytes challenge.challenge)

-- the frame of a response (part 5, section 5.3.3.4)
abbrev pub response_frame : SaslResponse → SaslFrame
response_frame response = Response (binary_bytes response.response)

-- the frame of an outcome (part 5, section 5.3.3.5)
abbrev pub outcome_frame : SaslOutcome → SaslFrame
outcome_frame outcome = Outcome outcome.code (option_map binary_bytes outcome.additional_data)

-- whether two frames are equal, field by field (part 5, section 5.3.3): the test that `==` computes
abbrev pub same_frame : SaslFrame → SaslFrame → Bool
same_frame (Mechanisms names) (Mechanisms others) = pointwise bytes_eq names others
same_frame (Init name first host) (Init other next home) =
    bytes_eq name other && option_eq bytes_eq first next && option_eq bytes_eq host home
same_frame (Challenge bytes) (Challenge others) = bytes_eq bytes others
same_frame (Response bytes) (Response others) = bytes_eq bytes others
same_frame (Outcome code bytes) (Outcome other others) =
    (outcome_code code == outcome_code other) && option_eq bytes_eq bytes others
same_frame _ _ = false
