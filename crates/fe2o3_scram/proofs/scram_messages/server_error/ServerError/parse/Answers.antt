use Rattle.fe2o3_scram.proofs.lemmas.messages.ServerErrorLemmas.{no_error}
use Rattle.fe2o3_scram.proofs.scram_messages.server_error.ServerError.parse.Goals as goal

pub returns-in-None : goal.returns-in-None
returns-in-None c = no_error c.args.text.now (rw c.in-Ok.ensures.cases.0 at c.in-None.ensures)
