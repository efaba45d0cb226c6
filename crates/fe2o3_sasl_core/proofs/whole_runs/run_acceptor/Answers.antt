use Rattle.std.proofs.Common.{arith}
use Rattle.fe2o3_sasl_core.specs.Runs.{AcceptorSteps, given, server_answer}
use Rattle.fe2o3_sasl_core.proofs.lemmas.steps.LongerRunLemmas.{runs_next}
use Rattle.fe2o3_sasl_core.proofs.whole_runs.run_acceptor.Goals as goal

pub loop-event-preserved : goal.loop-event-preserved
loop-event-preserved g c =
    let m = g.A.SaslAcceptor in
    record {
      ran = runs_next (AcceptorSteps m.machine) given server_answer (m.state c.args.acceptor.now) c.args.events.now
          c.loop-event.event-index c.event-item.result c.loop-event.replies.items c.push_within.new.items.items
          c.acceptor_step-reply.result (m.state c.loop-event.acceptor) (m.state c.acceptor_step-reply.new.acceptor)
          (omega arith) c.event-item.is c.push_within.ensures.items c.loop-event.invariant.ran
          c.acceptor_step-reply.ensures;
      room = omega arith;
      filled = omega arith;
    }
