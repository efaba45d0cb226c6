use Rattle.std.proofs.Common.{refl, sym, ◌∙◌, false, Ok, Err, Vec, ℕ}
use Rattle.std.specs.declared.alloc.Global.{Global}
use Rattle.fe2o3_sasl_core.proofs.lemmas.steps.CostLemmas.{challenge_costs, signature_costs}
use Rattle.fe2o3_sasl_core.proofs.lemmas.steps.ProfileReplyLemmas.{challenge_replied, challenge_refused}
use Rattle.fe2o3_sasl_core.proofs.sasl_profile.scram_frames.answer.Goals as goal

pub returns-in-Ok-compute_client_final_message_metered-clause-answer
    : goal.returns-in-Ok-compute_client_final_message_metered-clause-answer
returns-in-Ok-compute_client_final_message_metered-clause-answer c = λ hostname nonce.
    challenge_replied c.args.client.now hostname nonce c.args.challenge.now false _ _
    (sym c.expects_signature.ensures ∙ c.if-expects_signature.false) c.in-Ok.ensures.cases.1 (
      Ok c.in-Ok-compute_client_final_message_metered.client_final.items,
      c.compute_client_final_message_metered.new.self,
      rw c.in-Ok.ensures.cases.0 at c.in-Ok-compute_client_final_message_metered.ensures.answer,
      refl,
      refl,
    )

pub returns-in-Err-clause-answer : goal.returns-in-Err-clause-answer
returns-in-Err-clause-answer c = λ hostname nonce.
    rw c.from.ensures (challenge_refused (λ (message : Vec ℕ Global). message.items) c.args.client.now
    c.compute_client_final_message_metered.new.self hostname nonce c.args.challenge.now c.in-Err.kind
    (sym c.expects_signature.ensures ∙ c.if-expects_signature.false)
    c.in-Ok.ensures.cases.1 c.in-Err.ensures.err (rw c.in-Ok.ensures.cases.0 at c.in-Err.ensures.answer))

pub returns-in-Ok-compute_client_final_message_metered-clause-cost
    : goal.returns-in-Ok-compute_client_final_message_metered-clause-cost
returns-in-Ok-compute_client_final_message_metered-clause-cost c =
    challenge_costs c.args.client.now c.args.challenge.now
    (Ok c.in-Ok-compute_client_final_message_metered.client_final) _ c.args.meter.now
    c.compute_client_final_message_metered.new.meter c.in-Ok.ensures.cases.1 (λ is. is)
    (rw c.in-Ok.ensures.cases.0 at c.in-Ok-compute_client_final_message_metered.ensures.cost)

pub returns-in-Err-clause-cost : goal.returns-in-Err-clause-cost
returns-in-Err-clause-cost c =
    challenge_costs c.args.client.now c.args.challenge.now (Err c.in-Err.kind) _ c.args.meter.now
    c.compute_client_final_message_metered.new.meter c.in-Ok.ensures.cases.1 (λ is. is)
    (rw c.in-Ok.ensures.cases.0 at c.in-Err.ensures.cost)

pub returns-then-expects_signature-clause-cost : goal.returns-then-expects_signature-clause-cost
returns-then-expects_signature-clause-cost c =
    signature_costs c.args.client.now c.args.challenge.now c.confirm.result c.args.meter.now
    (sym c.expects_signature.ensures ∙ c.if-expects_signature.true)
