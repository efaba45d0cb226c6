use Rattle.std.proofs.Common.{ap, ◌∙◌}
use Rattle.fe2o3_scram.specs.ClientFinal.{answer_values}
use Rattle.fe2o3_scram.specs.ClientFirst.{client_first_bare}
use Rattle.fe2o3_scram.specs.ClientSecret.{secret_of}
use Rattle.sasl_c.proofs.ClientLemmas.{answered_by, refused_by}
use Rattle.sasl_c.proofs.client_final.answer_with_secret.Goals as goal

pub returns-in-Ok-clause-ok : goal.returns-in-Ok-clause-ok
returns-in-Ok-clause-ok c =
    let bare = c.as_slice.ensures ∙ c.in_ok-bare.ensures.bare
    ∙ ap (client_first_bare c.args.login.now.username.now) c.as_bytes.ensures.value in
    let held = rw c.limits.ensures at rw c.is_set.ensures at c.in-Ok.ensures.answer in
    λ is has binds sent.
    answered_by c.args.login.now c.args.client.now c.args.version (secret_of c.args.secret) c.args.header.now
    c.nonce_text-nonce.result.now c.as_slice.result.now c.args.server_first.now (answer_values c.in-Ok.answer) is has
    binds sent c.nonce_text-nonce.ensures bare held

pub returns-clause-err : goal.returns-clause-err
returns-clause-err c =
    let bare = c.as_slice.ensures ∙ c.in_ok-bare.ensures.bare
    ∙ ap (client_first_bare c.args.login.now.username.now) c.as_bytes.ensures.value in
    let held = rw c.limits.ensures at rw c.is_set.ensures at c.in-Err.ensures.answer in
    λ other is has binds sent.
    refused_by c.args.login.now c.args.client.now c.args.version (secret_of c.args.secret) c.args.header.now
    c.nonce_text-nonce.result.now c.as_slice.result.now c.args.server_first.now c.in-Err.why c.from.result is has
    binds sent c.nonce_text-nonce.ensures bare held.1 c.from.ensures other
