use Rattle.std.proofs.Common.{◌≡◌, ◌≤◌, map, length, take, vec_len, vec_capacity}
use Rattle.fe2o3_sasl_core.specs.Runs.{AcceptorSteps, Runs, given, server_answer}
use Rattle.fe2o3_sasl_core.proofs.whole_runs.run_acceptor.Given as goal

abbrev pub invariant-loop-event : goal.invariant-loop-event
invariant-loop-event g l =
    let m = g.A.SaslAcceptor in
    record {
      ran : Runs (AcceptorSteps m.machine) (m.state l.fn.acceptor) (map given (take l.event-index l.events))
          (map server_answer l.replies.items) (m.state l.acceptor);
      room : length l.events ≤ vec_capacity l.replies;
      filled : vec_len l.replies ≡ l.event-index;
    }
