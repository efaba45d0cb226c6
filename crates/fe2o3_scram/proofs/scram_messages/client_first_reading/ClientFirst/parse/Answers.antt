use Rattle.fe2o3_scram.proofs.scram_messages.client_first_reading.ClientFirst.parse.Goals as goal

pub returns-clause-borrowed : goal.returns-clause-borrowed
returns-clause-borrowed c = rw c.new.ensures at c.parse_with_rules.ensures.borrowed
