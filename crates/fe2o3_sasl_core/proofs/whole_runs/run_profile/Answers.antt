use Rattle.std.proofs.Common.{arith, map, subst, List}
use Rattle.std.proofs.lemmas.List.{take_all}
use Rattle.fe2o3_sasl_wire.specs.FrameView.{shown}
use Rattle.fe2o3_sasl_core.specs.declared.events.Event.{Event}
use Rattle.fe2o3_sasl_core.specs.Runs.{ProfileSteps, Runs, given, client_answer}
use Rattle.fe2o3_sasl_core.specs.SaslProfile.{profile_of}
use Rattle.fe2o3_sasl_core.proofs.lemmas.steps.LongerRunLemmas.{runs_next, client_run_is_history}
use Rattle.fe2o3_sasl_core.proofs.lemmas.two_sides.HeadlineLemmas.{reports_ok_exactly, taken_verifiers_agree}
use Rattle.fe2o3_sasl_core.proofs.lemmas.unaltered.UnalteredRunLemmas.{clients_log_in}
use Rattle.fe2o3_sasl_core.proofs.whole_runs.run_profile.Goals as goal

pub loop-event-preserved : goal.loop-event-preserved
loop-event-preserved c =
    record {
      ran = runs_next (ProfileSteps (shown c.args.hostname)) given client_answer (profile_of c.args.profile.now)
          c.args.events.now c.loop-event.event-index c.event-item.result c.loop-event.replies.items
          c.push_within.new.items.items c.profile_step-reply.result (profile_of c.loop-event.profile)
          (profile_of c.profile_step-reply.new.profile) (omega arith) c.event-item.is c.push_within.ensures.items
          c.loop-event.invariant.ran c.profile_step-reply.ensures;
      room = omega arith;
      filled = omega arith;
    }

pub returns-clause-history : goal.returns-clause-history
returns-clause-history c login starts =
    client_run_is_history login (shown c.args.hostname) (profile_of c.args.profile.now)
    (profile_of c.loop-event.profile) (map given c.args.events.now) (map client_answer c.loop-event.replies.items)
    starts (subst (λ (events : List Event). Runs (ProfileSteps (shown c.args.hostname))
    (profile_of c.args.profile.now) (map given events) (map client_answer c.loop-event.replies.items)
    (profile_of c.loop-event.profile))
    (take_all c.loop-event.event-index c.args.events.now (omega arith)) c.loop-event.invariant.ran)

pub returns-clause-exactly : goal.returns-clause-exactly
returns-clause-exactly c login starts = reports_ok_exactly login (map given c.args.events.now)
    (map client_answer c.loop-event.replies.items) (returns-clause-history c login starts)

pub returns-clause-agreement : goal.returns-clause-agreement
returns-clause-agreement c login starts = taken_verifiers_agree login (map given c.args.events.now)
    (map client_answer c.loop-event.replies.items) (returns-clause-history c login starts)

pub returns-clause-unaltered : goal.returns-clause-unaltered
returns-clause-unaltered c login starts is = clients_log_in login (map given c.args.events.now)
    (map client_answer c.loop-event.replies.items) (returns-clause-history c login starts) is
