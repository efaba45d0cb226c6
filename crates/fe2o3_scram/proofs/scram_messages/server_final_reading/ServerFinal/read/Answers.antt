use Rattle.std.proofs.Common.{◌≡◌, Bool, true, false, sym, ◌∙◌, rules, refl}
use Rattle.std.proofs.lemmas.Result.{err_from_is_err_and}
use Rattle.fe2o3_scram.specs.ServerFinal.{ReachesVerifier}
use Rattle.fe2o3_scram.proofs.lemmas.messages.ServerFinalLemmas.{not_utf8, no_verifier, not_base64, misplaced, signature_read}
use Rattle.fe2o3_scram.proofs.scram_messages.server_final_reading.ServerFinal.read.Goals as goal

pub returns-in_default : goal.returns-in_default
returns-in_default c = (λ wrong. absurd (cc), λ _. not_utf8 c.args.strict c.args.text.now c.in_default.ensures.cases.0)

pub returns-in_default-attribute : goal.returns-in_default-attribute
returns-in_default-attribute c = (
  search rules,
  λ _. no_verifier c.args.strict c.args.text.now c.in-Ok.ensures.cases.1
      (rw c.in-Ok.ensures.cases.0 at c.in_default-attribute.ensures),
)

pub returns-in_default-2 : goal.returns-in_default-2
returns-in_default-2 c = (
  search rules,
  λ _. not_base64 c.args.strict c.args.text.now c.in-Ok.ensures.cases.1 c.in-Some.base64_signature.now
      (rw c.in-Ok.ensures.cases.0 at c.in-Some.ensures) (rw c.in_default-2.is at c.in_ok-signature.ensures),
)

pub returns : goal.returns
returns c =
    signature_read c.args.strict c.args.text.now c.in-Ok.ensures.cases.1 c.in-Some.base64_signature.now
    c.in-Some-2.signature.items (rw c.in-Ok.ensures.cases.0 at c.in-Some.ensures) (rw c.in-Some-2.is at c.in_ok-signature.ensures)
    (λ wrong. let placed : ◌≡◌ {A = Bool} false true =
    sym c.if-is_misplaced.false ∙ c.is_misplaced.ensures.1 (rw (← c.in-Ok.ensures.cases.0) at wrong) in absurd (cc))

pub returns-then-is_misplaced : goal.returns-then-is_misplaced
returns-then-is_misplaced c = (
  search rules,
  λ _. misplaced c.args.strict c.args.text.now c.in-Ok.ensures.cases.1 c.in-Some.base64_signature.now
      c.in-Some-2.signature.items (rw c.in-Ok.ensures.cases.0 at c.in-Some.ensures)
      (rw c.in-Some-2.is at c.in_ok-signature.ensures)
      (rw c.in-Ok.ensures.cases.0 at (c.is_misplaced.ensures.0 c.if-is_misplaced.true)),
)

pub returns-in_err-signature : goal.returns-in_err-signature
returns-in_err-signature c =
    let from = err_from_is_err_and c.from_residual.result c.from_residual.ensures.1 in
    let reaches : ReachesVerifier c.args.text.now =
    (c.in-Ok.ensures.cases.1, (c.in-Some.base64_signature.now, rw c.in-Ok.ensures.cases.0 at c.in-Some.ensures)) in
    rw (from.1, from.2) (λ _. reaches, λ other. absurd (other refl))
