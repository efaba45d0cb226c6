use Rattle.std.proofs.Common.{refl, inl, inr, rules}
use Rattle.fe2o3_scram.specs.ServerFirst.{HasCount}
use Rattle.fe2o3_scram.proofs.lemmas.messages.ServerFirstLemmas.{no_count, not_too_small, not_too_large}
use Rattle.fe2o3_scram.proofs.scram_messages.server_first_reading.read_count.Goals as goal

pub returns-in_default-count_of-clause-err : goal.returns-in_default-count_of-clause-err
returns-in_default-count_of-clause-err c =
    let digits = c.in-Some.iter_count_str.now in
    inr (
      λ none. none digits c.in-Some.ensures,
      inl (no_count c.args.server_first.now digits c.in-Some.ensures c.in_default-count_of.ensures, refl),
    )

pub returns-then-iterations-limits-clause-err : goal.returns-then-iterations-limits-clause-err
returns-then-iterations-limits-clause-err c =
    let digits = c.in-Some.iter_count_str.now in
    let count = c.in-Some-count_of.iterations in
    let has : HasCount c.args.server_first.now count = (digits, c.in-Some.ensures, c.in-Some-count_of.ensures) in
    inr (
      λ none. none digits c.in-Some.ensures,
      inr (
        λ none. none count has,
        inl ((count, has, c.if-iterations-limits.true), refl),
      ),
    )

pub returns-then-iterations-limits-2-clause-err : goal.returns-then-iterations-limits-2-clause-err
returns-then-iterations-limits-2-clause-err c =
    let text = c.args.server_first.now in
    let digits = c.in-Some.iter_count_str.now in
    let count = c.in-Some-count_of.iterations in
    let has : HasCount text count = (digits, c.in-Some.ensures, c.in-Some-count_of.ensures) in
    inr (
      λ none. none digits c.in-Some.ensures,
      inr (
        λ none. none count has,
        inr (
          not_too_small text c.args.limits.min_iterations count has c.if-iterations-limits.false,
          inl ((count, has, c.if-iterations-limits-2.true), refl),
        ),
      ),
    )

pub returns-clause-tested : goal.returns-clause-tested
returns-clause-tested c =
    let text = c.args.server_first.now in
    let digits = c.in-Some.iter_count_str.now in
    let count = c.in-Some-count_of.iterations in
    let has : HasCount text count = (digits, c.in-Some.ensures, c.in-Some-count_of.ensures) in (
      λ none. none digits c.in-Some.ensures,
      (
        λ none. none count has,
        (
          not_too_small text c.args.limits.min_iterations count has (search rules),
          (not_too_large text c.args.limits.max_iterations count has (search rules), tt),
        ),
      ),
    )
