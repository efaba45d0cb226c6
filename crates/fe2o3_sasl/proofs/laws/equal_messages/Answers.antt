use Rattle.fe2o3_sasl_core.proofs.lemmas.two_sides.MeetingSidesLemmas.{equal_messages_agree, no_short_extensions}
use Rattle.fe2o3_sasl.proofs.laws.equal_messages.Goals as goal

pub returns-clause-agree : goal.returns-clause-agree
returns-clause-agree c = equal_messages_agree

pub returns-clause-no_short_extensions : goal.returns-clause-no_short_extensions
returns-clause-no_short_extensions c = no_short_extensions
