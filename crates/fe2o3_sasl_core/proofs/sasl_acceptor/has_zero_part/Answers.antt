use Rattle.std.proofs.Common.{sym, ◌∙◌}
use Rattle.std.proofs.lemmas.Slice.Eq.{bytes_eq-Decides}
use Rattle.fe2o3_sasl_core.proofs.lemmas.machines.ZeroPartLemmas.{wanted_part}
use Rattle.fe2o3_sasl_core.proofs.sasl_acceptor.has_zero_part.Goals as goal

pub returns-in-Some : goal.returns-in-Some
returns-in-Some c =
    let decides = bytes_eq-Decides c.in-Some.part.now c.args.wanted.now in
    wanted_part c.args.bytes.now c.args.k c.in-Some.part.now c.args.wanted.now c.eq.result c.in-Some.ensures
    (λ yes. decides.0 (sym c.eq.ensures ∙ yes), λ same. c.eq.ensures ∙ decides.1 same)

pub returns-in-None : goal.returns-in-None
returns-in-None c = (λ clash. absurd cc, λ has. absurd (c.in-None.ensures c.args.wanted.now has))
