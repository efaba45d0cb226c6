use Rattle.std.proofs.Common.{refl, inr, Some, Option, Vec, ℕ, option_map}
use Rattle.std.specs.declared.alloc.Global.{Global}
use Rattle.std.proofs.lemmas.Result.{err_from_is_err_and}
use Rattle.fe2o3_scram.specs.ClientFirst.{client_first_values}
use Rattle.fe2o3_scram.specs.Credentials.{kept, serving}
use Rattle.fe2o3_scram.specs.MockSettings.{mocking}
use Rattle.fe2o3_scram.specs.ScramServer.{lent_mock}
use Rattle.fe2o3_scram.specs.ServerFirst.{OpenExchange}
use Rattle.fe2o3_scram.proofs.lemmas.messages.FirstCostLemmas.{looked_up_costs}
use Rattle.fe2o3_scram.proofs.lemmas.providers.MockLemmas.{has_record}
use Rattle.fe2o3_scram.proofs.scram_server.exchange.ServerExchange.open.Goals as goal

pub returns-in_err-opened-clause-answer : goal.returns-in_err-opened-clause-answer
returns-in_err-opened-clause-answer g c =
    let from = err_from_is_err_and c.from_residual-in_err-opened.result c.from_residual-in_err-opened.ensures.1 in
    let client = client_first_values c.in_ok-client_first.client_first in
    let known = has_record (option_map lent_mock c.args.mock)
    (g.C.ScramCredentialProvider.meaning c.args.credentials.now).records client.user c.deref.result.now
    c.deref-2.result.now c.mock_values-mock.result (Some (kept c.in-Some.stored)) c.deref.ensures.value
    c.deref-2.ensures.value c.mock_values-mock.ensures.record c.in-Some.ensures in
    rw (from.1, from.2) (
      λ _. inr (client, kept c.in-Some.stored, c.in_ok-client_first.ensures.answer, known),
      λ other. absurd (other refl),
    )

pub returns-in_err-opened-clause-cost : goal.returns-in_err-opened-clause-cost
returns-in_err-opened-clause-cost g c =
    let from = err_from_is_err_and c.from_residual-in_err-opened.result c.from_residual-in_err-opened.ensures.1 in
    rw (from.1, from.2, c.mock_values-mock.ensures.counted) (looked_up_costs (Option (Vec ℕ Global × OpenExchange))
    (mocking (option_map lent_mock c.args.mock)
    (serving c.args.rules (g.C.ScramCredentialProvider.meaning c.args.credentials.now)))
    c.args.client_first_message.now (client_first_values c.in_ok-client_first.client_first) c.args.meter.now
    c.in_ok-client_first.ensures.answer)

pub returns-clause-answer : goal.returns-clause-answer
returns-clause-answer g c =
    let client = client_first_values c.in_ok-client_first.client_first in
    let stored = kept c.in-Some.stored in
    let known = has_record (option_map lent_mock c.args.mock)
    (g.C.ScramCredentialProvider.meaning c.args.credentials.now).records client.user c.deref.result.now
    c.deref-2.result.now c.mock_values-mock.result (Some stored) c.deref.ensures.value c.deref-2.ensures.value
    c.mock_values-mock.ensures.record c.in-Some.ensures in
    let exchange = rw c.base64_of_nonce-nonce.ensures at c.in_ok-opened.ensures.exchange in
    rw exchange (
      (client, stored, c.in_ok-client_first.ensures.answer, known, refl),
      rw c.base64_of_nonce-nonce.ensures at c.in_ok-opened.ensures.message,
      known,
    )
