use Rattle.std.proofs.Common.{Ok, subst}
use Rattle.std.proofs.lemmas.Result.{on_ok_weaker}
use Rattle.fe2o3_scram.specs.ScramClient.{AnswersIn, ClientSide}
use Rattle.scram_lib.proofs.client.exchange.Goals as goal

pub returns : goal.returns
returns g c = on_ok_weaker c.verify.result (λ verifies. record {
  nonce = c.args.nonce.now;
  first = c.deref-2.result.now;
  answer = c.in_ok-last.last.items;
  answered = c.answer.new.client;
  final = c.deref-4.result.now;
  answers = subst (λ (side : ClientSide). AnswersIn side.state side c.deref-2.result.now (Ok c.in_ok-last.last.items)
      c.answer.new.client) c.in_ok-first.ensures.started c.in_ok-last.ensures;
  verifies = verifies;
}) c.verify.ensures
