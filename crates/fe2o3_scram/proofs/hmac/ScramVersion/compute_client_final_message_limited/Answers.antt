use Rattle.std.proofs.Common.{refl}
use Rattle.fe2o3_scram.specs.ClientFinal.{answer_values}
use Rattle.fe2o3_scram.proofs.hmac.ScramVersion.compute_client_final_message_limited.Goals as goal

pub returns-clause-answer : goal.returns-clause-answer
returns-clause-answer c =
    (answer_values c.in_ok-answer.answer, rw (c.up_to.ensures, c.plain.ensures) at c.in_ok-answer.ensures.answer, refl)
