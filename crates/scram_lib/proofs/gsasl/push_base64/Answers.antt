use Rattle.fe2o3_scram.proofs.lemmas.texts.Base64Lemmas.{encode_of-standard}
use Rattle.scram_lib.proofs.gsasl.push_base64.Goals as goal

pub returns : goal.returns
returns c = rw (← encode_of-standard c.args.bytes.now) c.encode_string.ensures.ok
