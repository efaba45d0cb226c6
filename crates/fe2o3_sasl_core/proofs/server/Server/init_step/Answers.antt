use Rattle.fe2o3_sasl_wire.specs.FrameView.{shown}
use Rattle.fe2o3_sasl_wire.specs.SaslFrames as frames
use Rattle.fe2o3_sasl_core.specs.Runs.{server_reply}
use Rattle.fe2o3_sasl_core.specs.SaslAcceptor.{sent_frame}
use Rattle.fe2o3_sasl_core.specs.Servers.{ServerAt, sasl_machine, sasl_server, settings_in, stage_of}
use Rattle.fe2o3_sasl_core.specs.private.ServerMoves.{after, claimed}
use Rattle.fe2o3_sasl_core.proofs.lemmas.machines.ServerAnswerLemmas.{unwritten_answer, written_answer}
use Rattle.fe2o3_sasl_core.proofs.server.Server.init_step.Goals as goal

pub returns-in-Ok-clause-answer : goal.returns-in-Ok-clause-answer
returns-in-Ok-clause-answer c =
    let moved : ServerAt = record {
      settings = settings_in c.args.self.now;
      stage = after (stage_of c.args.self.now.stage) c.in_ok-reply.moves;
      last = claimed (sasl_server c.args.self.now).last c.in_ok-reply.claim;
    } in
    written_answer sasl_machine (sasl_server c.args.self.now) moved (sasl_server c.commit.new.self) c.args.nonce.now
    (frames.Init c.args.mechanism.now (shown c.args.initial_response) (shown c.args.hostname))
    (sent_frame c.in_ok-reply.reply) (server_reply c.in-Ok.says)
    c.in_ok-reply.ensures.ok c.in-Ok.ensures c.commit.ensures.state

pub returns-in-Err-clause-answer : goal.returns-in-Err-clause-answer
returns-in-Err-clause-answer c =
    let moved : ServerAt = record {
      settings = settings_in c.args.self.now;
      stage = after (stage_of c.args.self.now.stage) c.in_ok-reply.moves;
      last = claimed (sasl_server c.args.self.now).last c.in_ok-reply.claim;
    } in
    unwritten_answer sasl_machine (sasl_server c.args.self.now) moved c.args.nonce.now
    (frames.Init c.args.mechanism.now (shown c.args.initial_response) (shown c.args.hostname))
    (sent_frame c.in_ok-reply.reply) c.in-Err.fault
    c.in_ok-reply.ensures.ok c.in-Err.ensures
