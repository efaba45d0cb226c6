use Rattle.std.proofs.Common.{◌≡◌, ◌≤◌, map, length, take, vec_len, vec_capacity}
use Rattle.fe2o3_sasl_wire.specs.FrameView.{shown}
use Rattle.fe2o3_sasl_core.specs.Runs.{ProfileSteps, Runs, given, client_answer}
use Rattle.fe2o3_sasl_core.specs.SaslProfile.{profile_of}
use Rattle.fe2o3_sasl_core.proofs.whole_runs.run_profile.Given as goal

abbrev pub invariant-loop-event : goal.invariant-loop-event
invariant-loop-event l =
    record {
      ran : Runs (ProfileSteps (shown l.fn.hostname)) (profile_of l.fn.profile)
          (map given (take l.event-index l.events)) (map client_answer l.replies.items) (profile_of l.profile);
      room : length l.events ≤ vec_capacity l.replies;
      filled : vec_len l.replies ≡ l.event-index;
    }
