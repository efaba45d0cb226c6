use Rattle.std.proofs.Common.{refl, sym, ap, reverse, [], ◌∷◌, ◌++◌}
use Rattle.sasl_c.specs.Texts.{status_texts}
use Rattle.sasl_c.proofs.StatusTextLemmas.{unknown}
use Rattle.sasl_c.proofs.texts.text_of.Goals as goal

pub returns-in_default : goal.returns-in_default
returns-in_default c = sym (ap (λ text. text ++ (0 ∷ []))
    (unknown (reverse status_texts) [] c.args.status c.in_default.in_default-own.rest refl))
