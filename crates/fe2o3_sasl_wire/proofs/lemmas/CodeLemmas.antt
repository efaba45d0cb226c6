-- The code of a byte, as the answer of the conversion.
use Rattle.std.proofs.Common.{◌≡◌, ℕ, None, Result, Ok, Err, refl, sym}
use Rattle.std.specs.Result.{result_ok}
use Rattle.std.proofs.lemmas.Bool.{ne_eqb}
use Rattle.fe2o3_sasl_wire.specs.declared.amqp_types.SaslCode.{SaslCode}
use Rattle.fe2o3_sasl_wire.specs.declared.amqp_types.SaslCode.TheVariants as sasl_codes
use Rattle.fe2o3_sasl_wire.specs.AmqpTypes.{DecodesCode}
use Rattle.fe2o3_sasl_wire.specs.private.Reading.{sasl_code}

-- a byte that is returned has no code
pub no_code : (byte : ℕ) (answer : Result SaslCode ℕ) → DecodesCode byte answer → result_ok answer ≡ None
    → sasl_code byte ≡ None
no_code byte (Ok code) gives none = absurd cc
no_code byte (Err back) gives none =
    rw (
      ne_eqb byte 0 (λ is. gives.1 sasl_codes.Ok (sym is)),
      ne_eqb byte 1 (λ is. gives.1 sasl_codes.Auth (sym is)),
      ne_eqb byte 2 (λ is. gives.1 sasl_codes.Sys (sym is)),
      ne_eqb byte 3 (λ is. gives.1 sasl_codes.SysPerm (sym is)),
      ne_eqb byte 4 (λ is. gives.1 sasl_codes.SysTemp (sym is)),
    ) refl
