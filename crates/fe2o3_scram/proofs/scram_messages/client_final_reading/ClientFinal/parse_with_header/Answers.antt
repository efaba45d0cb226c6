use Rattle.std.proofs.Common.{rules, inl}
use Rattle.std.proofs.lemmas.Result.{err_from_is_err_and}
use Rattle.fe2o3_scram.specs.ClientFinal.{client_final_values}
use Rattle.fe2o3_scram.proofs.lemmas.messages.ClientFinalLemmas.{not_utf8, not_the_nonces, binding_refused, nonce_refused, text_answered}
use Rattle.fe2o3_scram.proofs.scram_messages.client_final_reading.ClientFinal.parse_with_header.Goals as goal

pub returns-in_default : goal.returns-in_default
returns-in_default c = (
  search rules,
  λ _. not_utf8 c.args.header.now c.args.strict c.args.client_server_nonce.now c.args.text.now c.in_default.ensures.cases.0,
)

pub returns-in_err-test_binding : goal.returns-in_err-test_binding
returns-in_err-test_binding c =
    let from = err_from_is_err_and c.from_residual.result c.from_residual.ensures.1 in
    let same = c.in-Ok.ensures.cases.0 in
    rw (from.1, from.2) (
      λ memory. (c.in-Ok.ensures.cases.1, inl (rw same at (c.in_err-test_binding.ensures.memory memory))),
      λ other. binding_refused c.args.header.now c.args.strict c.args.client_server_nonce.now c.args.text.now
          c.in-Ok.ensures.cases.1 c.in_err-test_binding.field-0.0
          (rw same at (c.in_err-test_binding.ensures.err other)),
    )

pub returns-in_err-test_nonce : goal.returns-in_err-test_nonce
returns-in_err-test_nonce c =
    let from = err_from_is_err_and c.from_residual-in_err-test_nonce.result
    c.from_residual-in_err-test_nonce.ensures.1 in
    let same = c.in-Ok.ensures.cases.0 in
    rw (from.1, from.2) (
      λ memory. absurd (not_the_nonces c.args.client_server_nonce.now c.in-Ok.client_final.now
          (rw memory at c.in_err-test_nonce.ensures.err)),
      λ _. nonce_refused c.args.header.now c.args.strict c.args.client_server_nonce.now c.args.text.now
          c.in-Ok.ensures.cases.1 c.in_err-test_nonce.field-0.0 (rw same at c.in_ok-test_binding.ensures.tested)
          (rw same at c.in_err-test_nonce.ensures.err),
    )

pub returns : goal.returns
returns c =
    let same = c.in-Ok.ensures.cases.0 in
    text_answered c.args.header.now c.args.strict c.args.client_server_nonce.now c.args.text.now c.in-Ok.ensures.cases.1
    client_final_values
    c.read_proof.result (rw same at c.in_ok-test_binding.ensures.tested) (rw same at c.in_ok-test_nonce.ensures.tested)
    (rw same at c.in_ok-test_binding.ensures.bound) (rw same at c.in_ok-test_nonce.ensures.same)
    (rw same at c.read_proof.ensures.tested) (rw same at c.read_proof.ensures.named)
    (rw same at c.read_proof.ensures.memory)
    (rw same at c.read_proof.ensures.err)
