use Rattle.std.proofs.Common.{refl, inl, inr}
use Rattle.std.proofs.lemmas.Result.{err_from_is_err_and}
use Rattle.fe2o3_scram.proofs.lemmas.messages.ServerFirstLemmas.{no_salt, has_salt}
use Rattle.fe2o3_scram.proofs.scram_messages.server_first_reading.read_salt.Goals as goal

pub returns-in_default-2-clause-err : goal.returns-in_default-2-clause-err
returns-in_default-2-clause-err c =
    let spelling = c.in-Some.base64_salt.now in
    λ _. inr (
      λ none. none spelling c.in-Some.ensures,
      inl (
        no_salt c.args.server_first.now spelling c.in-Some.ensures (rw c.in_default-2.is at c.in_ok-salt.ensures),
        refl,
      ),
    )

pub returns-clause-tested : goal.returns-clause-tested
returns-clause-tested c =
    let spelling = c.in-Some.base64_salt.now in
    let salt = c.in-Some-2.salt.items in (
      λ none. none spelling c.in-Some.ensures,
      (
        λ none. none salt (has_salt c.args.server_first.now spelling salt c.in-Some.ensures
            (rw c.in-Some-2.is at c.in_ok-salt.ensures)),
        tt,
      ),
    )

pub returns-in_err-salt-clause-memory : goal.returns-in_err-salt-clause-memory
returns-in_err-salt-clause-memory c =
    let from = err_from_is_err_and c.from_residual.result c.from_residual.ensures.1 in
    rw (from.1, from.2) (λ _. (c.in-Some.base64_salt.now, c.in-Some.ensures))
