use Rattle.sasl_c.proofs.SaslprepLemmas.{asks, no_text, refuses}
use Rattle.sasl_c.proofs.preparation.prepared.Goals as goal

pub returns-in_default-text-clause-err : goal.returns-in_default-text-clause-err
returns-in_default-text-clause-err c = λ _.
    no_text c.args.unassigned c.args.bytes.now c.in-Some.choice c.in-Some.ensures c.in_default-text.ensures.1

pub returns-in-Err-clause-err : goal.returns-in-Err-clause-err
returns-in-Err-clause-err c = λ other.
    refuses c.args.unassigned c.args.bytes.now c.in-Ok.text.now c.in-Some.choice c.in-Err.why c.from.result
    c.in-Some.ensures c.in-Ok.ensures.0 c.in-Ok.ensures.1 c.in-Err.ensures.refused c.from.ensures other

pub returns-in-Err-clause-memory : goal.returns-in-Err-clause-memory
returns-in-Err-clause-memory c = λ memory.
    asks c.args.unassigned c.args.bytes.now c.in-Ok.text.now c.in-Some.choice c.in-Err.why c.from.result
    c.in-Some.ensures c.in-Ok.ensures.0 c.in-Ok.ensures.1 c.in-Err.ensures.ascii c.from.ensures memory
