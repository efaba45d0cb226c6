use Rattle.std.proofs.Common.{rules, inl, inr}
use Rattle.fe2o3_sasl_core.proofs.lemmas.steps.HexEventLemmas.{event_read, event_spelled, nonce_refused, body_refused, character_refused}
use Rattle.fe2o3_sasl_core.proofs.events.Event.from_hex.Goals as goal

pub returns-in_default-clause-err : goal.returns-in_default-clause-err
returns-in_default-clause-err c =
    nonce_refused c.args.nonce.now c.args.body.now c.in_default.field-0 c.in_default.ensures

pub returns-in-Ok-decode-clause-ok : goal.returns-in-Ok-decode-clause-ok
returns-in-Ok-decode-clause-ok c =
    event_read c.args.nonce.now c.args.body.now c.in-Ok.nonce c.in-Ok-decode.body.items c.in-Ok.ensures
    c.in-Ok-decode.ensures.ok

pub returns-in-Err : goal.returns-in-Err
returns-in-Err c =
    record {
      ok = tt;
      err = λ event spells. elim c.in-Err.ensures.err [
        | inl memory ↦ absurd (search rules)
        | inr is ↦ body_refused c.args.nonce.now c.args.body.now c.in-Err.field-0 is event spells
      ];
    }

pub returns-then-not-are_digits-clause-err : goal.returns-then-not-are_digits-clause-err
returns-then-not-are_digits-clause-err c =
    character_refused c.args.nonce.now c.args.body.now (search rules)

pub returns-in-Err-OutOfMemory-clause-err : goal.returns-in-Err-OutOfMemory-clause-err
returns-in-Err-OutOfMemory-clause-err c =
    event_spelled c.args.nonce.now c.args.body.now c.in-Ok.nonce c.in-Ok.ensures (search rules) (search rules)
