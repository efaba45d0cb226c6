use Rattle.std.proofs.Common.{rules}
use Rattle.sasl_c.proofs.SaslClientLemmas.{is_some_name, no_words_acting}
use Rattle.sasl_c.proofs.StatusLemmas.{err_so}
use Rattle.sasl_c.proofs.sasl_client.SaslLogin.plain.Goals as goal

pub returns-in-false-clause-err : goal.returns-in-false-clause-err
returns-in-false-clause-err c =
    let login = c.args.self.now.login in
    err_so c.plain_acting.result _ _ (λ status held other. no_words_acting login status
    (is_some_name login.acts_for.now (search rules)) (held other)) c.plain_acting.ensures.err
