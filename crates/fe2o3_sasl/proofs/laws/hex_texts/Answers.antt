use Rattle.fe2o3_sasl_core.proofs.lemmas.steps.HexTextLemmas.{one_bytes_of_hex, hex_is_read_again}
use Rattle.fe2o3_sasl.proofs.laws.hex_texts.Goals as goal

pub returns-clause-one : goal.returns-clause-one
returns-clause-one c = one_bytes_of_hex

pub returns-clause-again : goal.returns-clause-again
returns-clause-again c = hex_is_read_again
