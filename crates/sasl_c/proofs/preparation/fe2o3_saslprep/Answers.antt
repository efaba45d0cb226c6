use Rattle.std.proofs.Common.{refl, ◌≡◌, Err}
use Rattle.sasl_c.specs.declared.status.Status.TheVariants.{OutOfMemory}
use Rattle.sasl_c.specs.declared.status.WriteError.TheVariants.{Other}
use Rattle.sasl_c.proofs.preparation.fe2o3_saslprep.Goals as goal

pub returns-in-Err : goal.returns-in-Err
returns-in-Err c = (
  Err (Other c.in-Err.status),
  c.text_number-in-Err.ensures,
  (
    (refl, refl, c.in-Err.ensures.err),
    λ same. let memory : c.in-Err.status ≡ OutOfMemory = cc in c.in-Err.ensures.memory memory,
  ),
)
