use Rattle.fe2o3_scram.proofs.lemmas.texts.Base64Lemmas.{one_spelled, decode_of-base64_text, no_comma-base64_text}
use Rattle.fe2o3_scram.proofs.laws.base64_texts.Goals as goal

pub returns-clause-one : goal.returns-clause-one
returns-clause-one c = one_spelled

pub returns-clause-again : goal.returns-clause-again
returns-clause-again c = decode_of-base64_text

pub returns-clause-no_comma : goal.returns-clause-no_comma
returns-clause-no_comma c = no_comma-base64_text
