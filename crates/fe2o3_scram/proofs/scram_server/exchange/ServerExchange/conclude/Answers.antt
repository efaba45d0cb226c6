use Rattle.fe2o3_scram.proofs.scram_server.exchange.ServerExchange.conclude.Goals as goal

pub returns-clause-answer : goal.returns-clause-answer
returns-clause-answer c =
    let answers = rw (
      c.new.ensures,
      c.acts_for.ensures,
      c.expected_channel.ensures,
      c.is_strict.ensures,
      c.deref.ensures,
      c.deref-2.ensures,
      c.deref-3.ensures,
      c.as_stored_password.ensures,
      ← c.self.view_is,
    ) at c.compute_server_final_message_with_header.ensures.answer in
    rw (← c.self.view_is) answers
