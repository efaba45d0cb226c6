use Rattle.std.proofs.Common.{◌≡◌, ◌∙◌, ap, map}
use Rattle.fe2o3_scram.specs.Credentials.{serving, with_rights}
use Rattle.fe2o3_scram.specs.MockSettings.{mocking}
use Rattle.fe2o3_scram.specs.ScramServer.{served_by}
use Rattle.fe2o3_sasl_core.specs.Runs.{given, server_answer}
use Rattle.fe2o3_sasl_core.specs.SaslAcceptor.{ScramAcceptor}
use Rattle.fe2o3_sasl_core.proofs.lemmas.steps.LongerRunLemmas.{if_ok_map, server_run_is_history}
use Rattle.fe2o3_sasl_core.proofs.lemmas.two_sides.HeadlineLemmas.{answers_ok_exactly}
use Rattle.fe2o3_sasl_core.proofs.lemmas.unaltered.UnalteredRunLemmas.{servers_log_in}
use Rattle.fe2o3_sasl_core.proofs.whole_runs.scram_server_run_with_rules.Goals as goal

pub returns-clause-history : goal.returns-clause-history
returns-clause-history g c =
    let m = g.C.ScramCredentialProvider in
    let kept = g.met.C.ScramCredentialProvider.clone_keeps c.args.credentials.now c.in_ok-provider.provider
    c.in_ok-provider.ensures.cases in
    let made : served_by m.meaning c.with_rules-authenticator.result
    ≡ serving c.args.rules (m.meaning c.args.credentials.now) =
    λ i. with_rights ((c.with_rules-authenticator.ensures.rights ∙ c.new.ensures.rights) i)
    (mocking ((c.with_rules-authenticator.ensures.mock ∙ c.new.ensures.mock) i)
    (serving (c.with_rules-authenticator.ensures.rules i)
    ((ap m.meaning (c.with_rules-authenticator.ensures.provider ∙ c.new.ensures.provider) ∙ kept) i))) in
    let begun = c.with_rules-authenticator.ensures.state ∙ c.new.ensures.state in
    if_ok_map _ _ c.run_acceptor.result (λ replies run. server_run_is_history
    (serving c.args.rules (m.meaning c.args.credentials.now)) _ _
    (map given c.args.events.now) (map server_answer replies.items) (λ i. ScramAcceptor (made i) (begun i)) run)
    c.run_acceptor.ensures.replies

pub returns-clause-exactly : goal.returns-clause-exactly
returns-clause-exactly g c =
    let m = g.C.ScramCredentialProvider in
    if_ok_map _ _ c.run_acceptor.result (λ replies history. answers_ok_exactly
    (serving c.args.rules (m.meaning c.args.credentials.now))
    (map given c.args.events.now) (map server_answer replies.items) history) (returns-clause-history g c)

pub returns-clause-unaltered : goal.returns-clause-unaltered
returns-clause-unaltered g c =
    let m = g.C.ScramCredentialProvider in
    if_ok_map _ _ c.run_acceptor.result (λ replies history. servers_log_in
    (serving c.args.rules (m.meaning c.args.credentials.now))
    (map given c.args.events.now) (map server_answer replies.items) history) (returns-clause-history g c)
