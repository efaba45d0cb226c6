use Rattle.std.proofs.Common.{rules, refl, inr}
use Rattle.std.proofs.lemmas.Result.{err_from_is_err_and}
use Rattle.fe2o3_scram.specs.Credentials.{kept}
use Rattle.fe2o3_scram.specs.ClientFirst.{client_first_values}
use Rattle.fe2o3_scram.proofs.scram_messages.server_first.challenge.Goals as goal

pub returns-in_err-message : goal.returns-in_err-message
returns-in_err-message g c =
    let from = err_from_is_err_and c.from_residual-in_err-message.result c.from_residual-in_err-message.ensures.1 in
    rw (from.1, from.2) (
      λ _. inr (
        client_first_values c.in_ok-client_first.client_first,
        kept c.in-Some.stored_password,
        c.in_ok-client_first.ensures.answer,
        search rules,
      ),
      λ other. absurd (other refl),
    )

pub returns : goal.returns
returns g c = (
  client_first_values c.in_ok-client_first.client_first,
  kept c.in-Some.stored_password,
  c.in_ok-client_first.ensures.answer,
  search rules,
  search rules,
)
