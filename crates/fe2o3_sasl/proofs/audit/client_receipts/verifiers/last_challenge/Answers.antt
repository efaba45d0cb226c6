use Rattle.std.proofs.Common.{List, ℕ, Ok, rules, subst}
use Rattle.std.proofs.lemmas.Result.{IfOk-weaker}
use Rattle.fe2o3_sasl_wire.specs.SaslFrames.{Challenge}
use Rattle.fe2o3_sasl_core.specs.Bodies.{SpellsBody}
use Rattle.fe2o3_sasl_core.specs.Runs.{given}
use Rattle.fe2o3_sasl.proofs.lemmas.audit.CoverLemmas.{at_index}
use Rattle.fe2o3_sasl.proofs.audit.client_receipts.verifiers.last_challenge.Goals as goal

pub returns : goal.returns
returns c =
    IfOk-weaker c.challenge_text.result _ _ (λ text is. (
      c.in-Some.place,
      search rules,
      (
        given c.in-Some-get.event.now,
        at_index given c.args.events.now c.in-Some.place c.in-Some-get.event.now (search rules)
            (search rules),
        subst (λ (body : List ℕ). SpellsBody body (Ok (Challenge text.now))) c.deref.ensures.value is,
      ),
    )) c.challenge_text.ensures
