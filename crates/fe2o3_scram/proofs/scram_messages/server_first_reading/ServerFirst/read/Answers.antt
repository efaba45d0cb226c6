use Rattle.std.proofs.lemmas.Result.{err_from_is_err_and}
use Rattle.fe2o3_scram.specs.ClientSecret.{secret_of}
use Rattle.fe2o3_scram.specs.ServerFirst.{Client, client_of}
use Rattle.fe2o3_scram.proofs.lemmas.messages.ServerFirstLemmas.{made, names_made, not_the_nonces, not_the_count, nonce_refused, salt_refused, count_refused, grammar_refused, not_the_grammar, secret_refused, values_read, secret_holds, secret_first, not_the_secret}
use Rattle.fe2o3_scram.proofs.scram_messages.server_first_reading.ServerFirst.read.Goals as goal

pub returns-in_err-nonce-clause-reads : goal.returns-in_err-nonce-clause-reads
returns-in_err-nonce-clause-reads c =
    let client : Client = client_of c.args.client_nonce.now (secret_of c.args.secret) c.args.limits
    c.args.header.now c.args.strict in
    let from = err_from_is_err_and c.from_residual.result c.from_residual.ensures.1 in
    rw (from.1, from.2) (
      λ memory. absurd (not_the_nonces c.args.client_nonce.now c.args.text.now
          (rw memory at c.in_err-nonce.ensures.err)),
      λ _. nonce_refused client c.args.text.now c.in_err-nonce.field-0.0 c.in_err-nonce.ensures.err,
    )

pub returns-in_err-salt-clause-reads : goal.returns-in_err-salt-clause-reads
returns-in_err-salt-clause-reads c =
    let client : Client = client_of c.args.client_nonce.now (secret_of c.args.secret) c.args.limits
    c.args.header.now c.args.strict in
    let from = err_from_is_err_and c.from_residual-in_err-salt.result c.from_residual-in_err-salt.ensures.1 in
    rw (from.1, from.2) (
      λ memory. (c.in_ok-nonce.ensures.tested, c.in_err-salt.ensures.memory memory),
      λ other. salt_refused client c.args.text.now c.in_err-salt.field-0.0
          c.in_ok-nonce.ensures.tested (c.in_err-salt.ensures.err other),
    )

pub returns-in_err-iterations-clause-reads : goal.returns-in_err-iterations-clause-reads
returns-in_err-iterations-clause-reads c =
    let client : Client = client_of c.args.client_nonce.now (secret_of c.args.secret) c.args.limits
    c.args.header.now c.args.strict in
    let from = err_from_is_err_and c.from_residual-in_err-iterations.result
    c.from_residual-in_err-iterations.ensures.1 in
    rw (from.1, from.2) (
      λ memory. absurd (not_the_count c.args.limits c.args.text.now (rw memory at c.in_err-iterations.ensures.err)),
      λ _. count_refused client c.args.text.now c.in_err-iterations.field-0.0 c.in_ok-nonce.ensures.tested
          c.in_ok-salt.ensures.tested c.in_err-iterations.ensures.err,
    )

pub returns-in_err-test_grammar-clause-reads : goal.returns-in_err-test_grammar-clause-reads
returns-in_err-test_grammar-clause-reads c =
    let client : Client = client_of c.args.client_nonce.now (secret_of c.args.secret) c.args.limits
    c.args.header.now c.args.strict in
    let from = err_from_is_err_and c.from_residual-in_err-test_grammar.result
    c.from_residual-in_err-test_grammar.ensures.1 in
    rw (from.1, from.2) (
      λ memory. absurd (not_the_grammar client c.args.text.now
          (rw (memory, c.is_strict.ensures) at c.in_err-test_grammar.ensures)),
      λ _. grammar_refused client c.args.text.now c.in_err-test_grammar.field-0.0 c.in_ok-nonce.ensures.tested
          c.in_ok-salt.ensures.tested c.in_ok-iterations.ensures.tested (rw c.is_strict.ensures at c.in_err-test_grammar.ensures),
    )

pub returns-in_err-test_secret-clause-reads : goal.returns-in_err-test_secret-clause-reads
returns-in_err-test_secret-clause-reads c =
    let client : Client = client_of c.args.client_nonce.now (secret_of c.args.secret) c.args.limits
    c.args.header.now c.args.strict in
    let first = made c.in_ok-nonce.nonce.now c.in_ok-salt.salt.items c.in_ok-iterations.iterations in
    let names = names_made c.args.text.now c.in_ok-nonce.nonce.now c.in_ok-salt.salt.items
    c.in_ok-iterations.iterations c.in_ok-nonce.ensures.named c.in_ok-salt.ensures.named
    c.in_ok-iterations.ensures.named in
    let from = err_from_is_err_and c.from_residual-in_err-test_secret.result
    c.from_residual-in_err-test_secret.ensures.1 in
    rw (from.1, from.2) (
      λ memory. absurd (not_the_secret client.secret first (rw memory at c.in_err-test_secret.ensures)),
      λ _. secret_refused client c.args.text.now c.in_err-test_secret.field-0.0 c.in_ok-nonce.ensures.tested
          c.in_ok-salt.ensures.tested c.in_ok-iterations.ensures.tested (rw c.is_strict.ensures at c.in_ok-test_grammar.ensures)
          (secret_first client.secret c.args.text.now first c.in_err-test_secret.field-0.0 names
          c.in_err-test_secret.ensures),
    )

pub returns-clause-reads : goal.returns-clause-reads
returns-clause-reads c =
    let client : Client = client_of c.args.client_nonce.now (secret_of c.args.secret) c.args.limits
    c.args.header.now c.args.strict in
    let first = made c.in_ok-nonce.nonce.now c.in_ok-salt.salt.items c.in_ok-iterations.iterations in
    let names = names_made c.args.text.now c.in_ok-nonce.nonce.now c.in_ok-salt.salt.items
    c.in_ok-iterations.iterations c.in_ok-nonce.ensures.named c.in_ok-salt.ensures.named
    c.in_ok-iterations.ensures.named in
    values_read client c.args.text.now first c.in_ok-nonce.ensures.tested c.in_ok-salt.ensures.tested
    c.in_ok-iterations.ensures.tested (rw c.is_strict.ensures at c.in_ok-test_grammar.ensures)
    (secret_holds client.secret c.args.text.now first names c.in_ok-test_secret.ensures) names
