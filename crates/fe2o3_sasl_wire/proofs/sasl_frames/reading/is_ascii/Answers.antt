use Rattle.fe2o3_sasl_wire.proofs.lemmas.reading.TextLemmas.{tells_ascii}
use Rattle.fe2o3_sasl_wire.proofs.sasl_frames.reading.is_ascii.Goals as goal

pub returns : goal.returns
returns c = tells_ascii c.is_ascii.result c.args.bytes.now c.is_ascii.ensures.cases
