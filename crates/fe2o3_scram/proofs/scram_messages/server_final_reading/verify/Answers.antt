use Rattle.std.proofs.Common.{rules}
use Rattle.std.proofs.lemmas.Result.{err_from_is_err_and}
use Rattle.fe2o3_scram.proofs.lemmas.messages.ServerFinalLemmas.{text_refused, same_signature, other_signature}
use Rattle.fe2o3_scram.proofs.scram_messages.server_final_reading.verify.Goals as goal

pub returns-in_err-message : goal.returns-in_err-message
returns-in_err-message c =
    let from = err_from_is_err_and c.from_residual.result c.from_residual.ensures.1 in
    rw (from.1, from.2) (
      c.in_err-message.ensures.0,
      λ other. text_refused c.args.strict c.args.server_signature.now c.args.server_final.now c.in_err-message.field-0.0
          (c.in_err-message.ensures.1 other),
    )

pub returns-then-same_bytes : goal.returns-then-same_bytes
returns-then-same_bytes c = same_signature c.args.strict c.args.server_signature.now c.args.server_final.now
    c.in_ok-message.message.signature.items c.in_ok-message.ensures (search rules)

pub returns : goal.returns
returns c = (
  search rules,
  λ _. other_signature c.args.strict c.args.server_signature.now c.args.server_final.now
      c.in_ok-message.message.signature.items c.in_ok-message.ensures (search rules),
)
