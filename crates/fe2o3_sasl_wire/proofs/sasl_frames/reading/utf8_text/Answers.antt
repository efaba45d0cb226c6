use Rattle.fe2o3_sasl_wire.proofs.lemmas.reading.TextLemmas.{shows_utf8}
use Rattle.fe2o3_sasl_wire.proofs.sasl_frames.reading.utf8_text.Goals as goal

pub returns : goal.returns
returns c = rw c.ok.ensures.value (shows_utf8 c.from_utf8.result c.args.bytes.now _ c.from_utf8.ensures.cases)
