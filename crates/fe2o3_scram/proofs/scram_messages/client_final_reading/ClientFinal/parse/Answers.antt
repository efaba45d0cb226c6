use Rattle.fe2o3_scram.proofs.scram_messages.client_final_reading.ClientFinal.parse.Goals as goal

pub returns : goal.returns
returns c = rw c.plain.ensures at c.parse_with_header.ensures
