use Rattle.std.proofs.Common.{refl}
use Rattle.std.proofs.lemmas.Result.{err_from_is_err_and}
use Rattle.fe2o3_scram.specs.ClientFinal.{answer_values}
use Rattle.fe2o3_scram.proofs.scram_client.ScramClient.compute_client_final_message_metered.Goals as goal

pub returns-in_ok-answer-in-ClientFirstSent-clause-answer : goal.returns-in_ok-answer-in-ClientFirstSent-clause-answer
returns-in_ok-answer-in-ClientFirstSent-clause-answer c =
    let answers = rw (
      c.base64_of_nonce-client_nonce.ensures,
      c.lent.ensures,
      c.deref.ensures.value,
      c.header.ensures,
      ← c.self.view_is,
    ) at c.in_ok-answer-in-ClientFirstSent.ensures.answer in
    rw (← c.self.view_is, c.in-ClientFirstSent.is) (
      answer_values c.in_ok-answer-in-ClientFirstSent.answer,
      answers,
      refl,
      refl,
    )

pub returns-in_err-answer-in-ClientFirstSent-clause-answer :
    goal.returns-in_err-answer-in-ClientFirstSent-clause-answer
returns-in_err-answer-in-ClientFirstSent-clause-answer c =
    let answers = rw (c.base64_of_nonce-client_nonce.ensures, c.lent.ensures, c.header.ensures, ← c.self.view_is) at
    c.in_err-answer-in-ClientFirstSent.ensures.answer in
    let from = err_from_is_err_and c.from_residual.result c.from_residual.ensures.1 in
    rw (from.1, from.2, ← c.self.view_is, c.in-ClientFirstSent.is) (answers.0, λ other. (answers.1 other, refl))
