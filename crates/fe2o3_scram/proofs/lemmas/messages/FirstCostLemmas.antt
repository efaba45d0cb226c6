-- What the answer to a client-first message costs.
use Rattle.std.proofs.Common.{◌+◌, ℕ, List, arith, Ok, Err}
use Rattle.fe2o3_scram.specs.declared.scram_messages.error.ServerScramErrorKind.TheVariants.{OutOfMemory}
use Rattle.fe2o3_scram.specs.ClientFirst.{ClientFirst, ReadsClientFirst}
use Rattle.fe2o3_scram.specs.Credentials.{Provider}
use Rattle.fe2o3_scram.specs.ScramServer.{FirstCosts}
use Rattle.fe2o3_scram.proofs.lemmas.messages.ClientFirstLemmas.{one_client_first}

-- where memory runs out for the challenge, the look-up was made
pub looked_up_costs : (A : Type 0) (provider : Provider) (text : List ℕ) (client : ClientFirst) (count : ℕ)
    → ReadsClientFirst provider.rules text (Ok client)
    → FirstCosts {A = A} provider text (Err OutOfMemory) count (count + provider.look_up_cost)
looked_up_costs A provider text client count reads = (
  omega arith,
  omega arith,
  λ fault refuses. let both = one_client_first provider.rules text (Err fault) (Ok client) refuses reads in absurd (cc),
)
