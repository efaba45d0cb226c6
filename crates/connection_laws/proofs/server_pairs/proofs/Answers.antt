use Rattle.connection_laws.proofs.lemmas.ServerProofLemmas.{proofs_at_servers_are_judged, proofs_at_servers_bind_channels}
use Rattle.connection_laws.proofs.server_pairs.proofs.Goals as goal

pub returns-clause-judged : goal.returns-clause-judged
returns-clause-judged c = proofs_at_servers_are_judged

pub returns-clause-channels : goal.returns-clause-channels
returns-clause-channels c = proofs_at_servers_bind_channels
