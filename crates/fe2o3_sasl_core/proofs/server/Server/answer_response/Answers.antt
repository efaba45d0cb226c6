use Rattle.std.proofs.Common.{Some, subst, sym}
use Rattle.fe2o3_sasl_core.specs.SaslAcceptor.{sent_frame}
use Rattle.fe2o3_sasl_core.specs.Servers.{InitAnswers, NotStarted, ResponseAsked, ServerStage, settings_in}
use Rattle.fe2o3_sasl_core.proofs.lemmas.machines.ServerAnswerLemmas.{after_restart}
use Rattle.fe2o3_sasl_core.proofs.server.Server.answer_response.Goals as goal

pub returns-in_ok-reply-in-Asked-clause-ok : goal.returns-in_ok-reply-in-Asked-clause-ok
returns-in_ok-reply-in-Asked-clause-ok c = rw (c.in-Asked.is, c.or_restart.ensures) (subst (λ (next : ServerStage).
    InitAnswers (settings_in c.args.self.now) c.in-Asked.mechanism NotStarted c.in-Asked.nonce (Some c.args.text.now)
    (sent_frame c.in_ok-reply-in-Asked.reply) next)
    (sym (after_restart (ResponseAsked c.in-Asked.mechanism c.in-Asked.nonce) c.in_ok-reply-in-Asked.moves))
    (c.in_ok-reply-in-Asked.ensures.ok NotStarted))

pub returns-in-Open-clause-memory : goal.returns-in-Open-clause-memory
returns-in-Open-clause-memory c = rw c.in-Open.is c.conclude.ensures.memory

pub returns-in-Open-clause-cost : goal.returns-in-Open-clause-cost
returns-in-Open-clause-cost c = rw c.in-Open.is c.conclude.ensures.cost

pub returns-in-Open-clause-exactly : goal.returns-in-Open-clause-exactly
returns-in-Open-clause-exactly c = rw c.in-Open.is c.conclude.ensures.exactly
