use Rattle.std.proofs.Common.{◌≡◌, refl}
use Rattle.fe2o3_scram.specs.ClientFinal.{client_final_values}
use Rattle.fe2o3_scram.specs.Keys.{auth_message}
use Rattle.fe2o3_sasl_core.specs.ServerHistory.{first_message}
use Rattle.fe2o3_sasl.specs.private.ServerReceipts.{opened_challenge}
use Rattle.fe2o3_sasl.proofs.audit.server_receipts.accepted.receipt_of.Goals as goal

pub returns-clause-accepted : goal.returns-clause-accepted
returns-clause-accepted g c = λ rules.
    let provider = g.C.ScramCredentialProvider.meaning c.args.credentials.now in
    let opened = opened_challenge c.args.opened.now in
    let final = client_final_values c.args.client_final in
    let version : c.scram_version-version.result.now ≡ provider.version = c.scram_version-version.ensures in
    let auth : c.in_ok-message.message.items ≡ auth_message opened.client.bare (first_message opened) final.without =
    c.in_ok-message.ensures in
    record {
      kept = c.is_record.ensures;
      verifier = rw (c.deref-3.ensures.value, auth, version) at c.in_ok-verifier.ensures;
      proof = refl;
      message = auth;
      user = c.in_ok-to_string.ensures.ok;
      nonce = c.in_ok-to_string-2.ensures.ok;
      parameters = c.in_ok-parameters.ensures final;
      stored_key = c.in_ok-to_vec.ensures.items_if_clones_equal (λ x y same. same);
      server_key = c.in_ok-to_vec-2.ensures.items_if_clones_equal (λ x y same. same);
      recovered = rw (c.deref.ensures.value, c.deref-2.ensures.value, auth, version) at c.in_ok-recovered_key.ensures;
    }
