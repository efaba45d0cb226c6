use Rattle.std.proofs.Common.{map, arith}
use Rattle.fe2o3_scram.specs.Credentials.{serving}
use Rattle.fe2o3_sasl.specs.private.Findings.{server_receipt}
use Rattle.fe2o3_sasl_core.specs.Runs.{given, server_answer}
use Rattle.fe2o3_sasl.proofs.lemmas.audit.CoverLemmas.{at_index}
use Rattle.fe2o3_sasl.proofs.lemmas.audit.ServerReceiptLemmas.{server_next, challenge_behind}
use Rattle.fe2o3_sasl.proofs.audit.server_receipts.server_receipts.Goals as goal

pub loop-place-preserved : goal.loop-place-preserved
loop-place-preserved g c =
    let provider = serving c.args.rules (g.C.ScramCredentialProvider.meaning c.args.credentials.now) in
    let events = c.args.events.now in
    let replies = c.args.replies.now in
    let i = c.loop-place.place in
    let challenge = c.loop-place.challenge in
    let next = c.in_ok-challenge.challenge in
    let init = c.index-events-challenge.result in
    let event = c.index-events-place.result in
    let reply = c.index-replies-place.result in
    let oks = map server_receipt c.loop-place.oks.items in
    let oks' = map server_receipt c.keep_reply.new.oks.items in
    record {
      so_far =
          server_next provider (map given events) (map server_answer replies) c.requires.history i challenge next oks
          oks' (given init) (given event) (server_answer reply)
          (at_index server_answer replies i reply (omega arith) c.index-replies-place.is)
          (at_index given events challenge init (omega arith) c.index-events-challenge.is)
          (at_index given events i event (omega arith) c.index-events-place.is) c.in_ok-challenge.ensures
          c.loop-place.invariant.so_far;
      behind =
          challenge_behind provider i challenge next oks oks' (given init) (given event) (server_answer reply)
          c.in_ok-challenge.ensures c.loop-place.invariant.behind;
    }
