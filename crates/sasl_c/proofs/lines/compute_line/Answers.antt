use Rattle.std.proofs.Common.{◌∙◌}
use Rattle.std.specs.String.{string_bytes}
use Rattle.sasl_c.proofs.LineLemmas.{line_written}
use Rattle.sasl_c.proofs.lines.compute_line.Goals as goal

pub returns-in-Ok-text-clause-ok : goal.returns-in-Ok-text-clause-ok
returns-in-Ok-text-clause-ok c =
    line_written c.args.username.now (string_bytes c.in_ok-username.username) c.in-Ok-text.text.items c.args.kept.now
    c.in-Ok.kept c.new-users.result c.add.new.self c.in_ok-text.ensures.1 c.in-Ok.ensures.ok
    (c.in_ok-username.ensures.ok ∙ c.in_ok-text.ensures.0) c.new-users.ensures c.in_default.ensures.ok
    (λ refused. let wrong = c.in-Ok-text.ensures.refused.1 refused in absurd (cc)) c.in-Ok-text.ensures.ok
