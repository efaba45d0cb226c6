use Rattle.fe2o3_scram.proofs.hmac.ScramVersion.compute_server_final_message_metered.Goals as goal

pub returns-clause-answer : goal.returns-clause-answer
returns-clause-answer c = rw c.plain.ensures at c.compute_server_final_message_with_header.ensures.answer
