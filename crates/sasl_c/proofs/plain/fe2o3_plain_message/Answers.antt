use Rattle.fe2o3_scram.specs.Readings.{NoneHolds}
use Rattle.sasl_c.specs.Plain.{WritesPlain, word_tests}
use Rattle.sasl_c.proofs.StatusLemmas.{asks_text, fills}
use Rattle.sasl_c.proofs.plain.fe2o3_plain_message.Goals as goal

pub returns : goal.returns
returns c = (
  c.write.result,
  c.text_number.ensures,
  (
    fills _ (WritesPlain c.args.acts_for.now c.args.username.now c.args.password.now) c.compute_message.result _ _
        c.write.result c.compute_message.ensures.ok c.compute_message.ensures.err c.write.ensures,
    asks_text _ (NoneHolds (word_tests c.args.acts_for.now c.args.username.now c.args.password.now))
        c.compute_message.result _ _ c.write.result c.compute_message.ensures.memory c.write.ensures,
  ),
)
