use Rattle.std.proofs.Common.{◌≡◌, ℕ, Option, Some, List, refl, Result, Ok, Err}
use Rattle.std.specs.Prelude.{IfErr}
use Rattle.fe2o3_sasl_wire.specs.FrameView.{shown}
use Rattle.fe2o3_sasl_core.proofs.sasl_profile.frames.outcome_of.Goals as goal

pub returns-in_err-from_slice-in-Some-clause-err : goal.returns-in_err-from_slice-in-Some-clause-err
returns-in_err-from_slice-in-Some-clause-err c =
    go c.from_residual.result (shown c.args.additional_data) c.in-Some.data.now (rw c.in-Some.is refl)
  where
    go : {A F : Type 0} (result : Result A F) (more : Option (List ℕ)) (bytes : List ℕ) → more ≡ Some bytes
        → IfErr result (λ _. (text : List ℕ) × (more ≡ Some text))
    go (Ok outcome) more text is = tt
    go (Err fault) more text is = (text, is)
