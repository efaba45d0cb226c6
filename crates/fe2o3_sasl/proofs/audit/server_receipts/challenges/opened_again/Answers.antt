use Rattle.std.proofs.Common.{◌∙◌, ap, sym, subst, ℕ, List, Some, Ok}
use Rattle.std.specs.Prelude.{string_bytes}
use Rattle.fe2o3_sasl_wire.specs.SaslFrames.{Init}
use Rattle.fe2o3_scram.specs.ClientFirst.{client_first_values}
use Rattle.fe2o3_scram.specs.Credentials.{kept, record_at, serving}
use Rattle.fe2o3_scram.specs.ServerFirst.{AnswersClientFirst, challenge_values}
use Rattle.fe2o3_scram.proofs.lemmas.texts.Base64Lemmas.{encode_of-standard}
use Rattle.fe2o3_sasl_core.specs.Bodies.{SpellsBody}
use Rattle.fe2o3_sasl.proofs.lemmas.audit.ServerReceiptLemmas.{challenge_again}
use Rattle.fe2o3_sasl.proofs.audit.server_receipts.challenges.opened_again.Goals as goal

pub returns-clause-opened : goal.returns-clause-opened
returns-clause-opened g c =
    let records = (g.C.ScramCredentialProvider.meaning c.args.credentials.now).records in
    record {
      mechanism = c.in-Some.ensures.0;
      text = c.in-Some.text.now;
      hostname = c.in-Some.ensures.1;
      spells =
          subst (λ (body : List ℕ). SpellsBody body
          (Ok (Init c.in-Some.ensures.0 (Some c.in-Some.text.now) c.in-Some.ensures.1))) c.deref.ensures.value
          c.in-Some.ensures.2;
      reads = c.in-Ok.ensures.answer;
      known =
          ap (record_at records) (sym c.deref-3.ensures.value) ∙ sym c.in-Some-get_stored_password.ensures;
      nonce = c.in_ok-server_nonce.ensures.text ∙ encode_of-standard c.args.init.now.nonce;
    }

pub returns-clause-message : goal.returns-clause-message
returns-clause-message g c =
    let provider = serving c.args.rules (g.C.ScramCredentialProvider.meaning c.args.credentials.now) in
    let answers : AnswersClientFirst provider c.deref-2.result.now c.in-Some.text.now
    (Ok (Some (challenge_values c.in-Ok-Some.server_first))) =
    rw c.in-Ok-Some.field-0-is at c.in-Ok-Some.ensures in
    challenge_again provider (string_bytes c.in_ok-server_nonce.server_nonce) c.in-Some.text.now
    (challenge_values c.in-Ok-Some.server_first) (client_first_values c.in-Ok.client_first)
    (kept c.in-Some-get_stored_password.stored_password) (rw c.deref-2.ensures at answers) c.in-Ok.ensures.answer
    (c.in-Some-get_stored_password.ensures ∙ ap provider.records c.deref-3.ensures.value)
