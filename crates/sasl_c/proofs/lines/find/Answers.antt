use Rattle.std.proofs.Common.{refl, sym, ℕ}
use Rattle.std.specs.Prelude.{Err}
use Rattle.sasl_c.specs.Lines.{FindsRecord}
use Rattle.sasl_c.proofs.StatusLemmas.{carried}
use Rattle.sasl_c.proofs.lines.find.Goals as goal

pub returns-in-Err-clause-finds : goal.returns-in-Err-clause-finds
returns-in-Err-clause-finds c = (
  refl,
  c.tell.ensures.memory,
  λ other. carried (λ (n : ℕ). FindsRecord c.args.lines.now c.args.username.now c.args.version n (Err c.in-Err.none.why))
      c.in-Err.none.line c.tell.new.line (sym (c.tell.ensures.told other)) (c.in-Err.ensures.err other),
)
