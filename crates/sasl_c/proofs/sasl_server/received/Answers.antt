use Rattle.std.proofs.Common.{inl, inr}
use Rattle.sasl_c.specs.Rejections.{state_of}
use Rattle.sasl_c.proofs.ServerCallLemmas.{answered, no_connection, no_config, short_answer, unanswered}
use Rattle.sasl_c.proofs.sasl_server.received.Goals as goal

pub returns-in-Err-clause-err : goal.returns-in-Err-clause-err
returns-in-Err-clause-err c = λ _. no_connection c.args.config.now c.args.bytes.now c.args.nonce.now c.args.server.now
    c.in-Err.status c.in-Err.ensures.err

pub returns-in-Err-prepared-clause-err : goal.returns-in-Err-prepared-clause-err
returns-in-Err-prepared-clause-err c = λ other. no_config c.args.config.now c.args.bytes.now c.args.nonce.now
    c.args.server.now c.in-Ok.kept c.in-Err-prepared.status c.in-Ok.ensures.kept c.in-Ok.ensures.wanting.0
    (c.in-Err-prepared.ensures.err other)

pub returns-in-Err-restore-clause-err : goal.returns-in-Err-restore-clause-err
returns-in-Err-restore-clause-err c = λ other. unanswered c.args.config.now c.args.bytes.now c.args.nonce.now
    c.args.server.now c.in-Ok.kept (state_of c.in-Ok-restored.acceptor) c.in-Ok.ensures.kept c.in-Ok.ensures.wanting.0
    c.in-Ok.ensures.wanting.1 c.in-Ok.ensures.extended _ c.in-Ok-restored.ensures.settings
    c.in-Ok-prepared.ensures.ok c.in-Ok-prepared.ensures.offers c.in-Ok-prepared.ensures.tests
    c.in-Ok-restored.ensures.rejection c.in-Ok-restored.ensures.stage
    c.in-Err-restore.status c.in-Ok.ensures.mock (inl (c.in-Err-restore.ensures.err other))

pub returns-clause-err : goal.returns-clause-err
returns-clause-err c = let call = c.in-Ok-restore.call in λ other. unanswered c.args.config.now c.args.bytes.now
    c.args.nonce.now c.args.server.now c.in-Ok.kept (state_of c.in-Ok-restored.acceptor) c.in-Ok.ensures.kept
    c.in-Ok.ensures.wanting.0 c.in-Ok.ensures.wanting.1 c.in-Ok.ensures.extended _ c.in-Ok-restored.ensures.settings
    c.in-Ok-prepared.ensures.ok c.in-Ok-prepared.ensures.offers c.in-Ok-prepared.ensures.tests
    c.in-Ok-restored.ensures.rejection c.in-Ok-restored.ensures.stage
    c.in-Err-saved.status c.in-Ok.ensures.mock (inr (
      c.in-Err-saved.ensures.err.0,
      (call.side, call.taken, call.sent.items, c.in-Ok-restore.ensures.ok.1, c.in-Err-saved.ensures.err.1),
    ))

pub returns-in-Ok-saved-clause-ok : goal.returns-in-Ok-saved-clause-ok
returns-in-Ok-saved-clause-ok c = let call = c.in-Ok-restore.call in let made = c.in-Ok-saved.ensures.ok in
    answered c.args.config.now c.args.bytes.now c.args.nonce.now c.args.server.now c.in-Ok.kept
    (state_of c.in-Ok-restored.acceptor) c.in-Ok.ensures.kept c.in-Ok.ensures.wanting.0 c.in-Ok.ensures.wanting.1
    c.in-Ok.ensures.extended _ c.in-Ok-restored.ensures.settings c.in-Ok-prepared.ensures.ok
    c.in-Ok-prepared.ensures.offers c.in-Ok-prepared.ensures.tests c.in-Ok-restored.ensures.rejection
    c.in-Ok-restored.ensures.stage
    c.saved.new.server call.taken call.sent.items c.in-Ok-saved.made.taken c.in-Ok-saved.made.sent.items made.0 made.1
    c.in-Ok-restore.ensures.ok.0 (call.side, c.in-Ok-restore.ensures.ok.1, c.in-Ok-restore.ensures.ok.2, made.2, made.3)

pub returns-in-Ok-saved-clause-fits : goal.returns-in-Ok-saved-clause-fits
returns-in-Ok-saved-clause-fits c = let call = c.in-Ok-restore.call in let made = c.in-Ok-saved.ensures.ok in
    short_answer c.args.config.now c.args.bytes.now c.args.nonce.now c.args.server.now c.in-Ok.kept
    (state_of c.in-Ok-restored.acceptor) c.in-Ok.ensures.kept c.in-Ok.ensures.wanting.0 c.in-Ok.ensures.wanting.1
    c.in-Ok.ensures.extended _ c.in-Ok-restored.ensures.settings c.in-Ok-prepared.ensures.ok
    c.in-Ok-prepared.ensures.offers c.in-Ok-prepared.ensures.tests c.in-Ok-restored.ensures.rejection
    c.in-Ok-restored.ensures.stage
    c.saved.new.server call.taken call.sent.items c.in-Ok-saved.made.taken c.in-Ok-saved.made.sent.items made.0 made.1
    (call.side, c.in-Ok-restore.ensures.ok.1, c.in-Ok-restore.ensures.ok.2, made.2, made.3)
