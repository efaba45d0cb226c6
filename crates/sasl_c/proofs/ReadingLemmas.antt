-- What a side does that is restored from a struct, by what the struct says of extended headers.
use Rattle.std.proofs.Common.{Bool, ◌≡◌, ℕ, List}
use Rattle.fe2o3_sasl_negotiation.specs.declared.progress.Expected.{Expected}
use Rattle.fe2o3_sasl_negotiation.specs.Negotiations.{Reading, Receives, Side, SideOutput}
use Rattle.sasl_c.proofs.StatusLemmas.{carried}

-- a side does what the struct says of which it was restored
pub read_as_kept : {S : Type 0} (Answers : Expected → S → List ℕ → List ℕ → SideOutput → S → Type 0)
    (accepts kept : Bool) (side next : Side S) (bytes nonce sent : List ℕ) (taken : ℕ) → accepts ≡ kept
    → Receives (Reading accepts Answers) side bytes nonce taken sent next
    → Receives (Reading kept Answers) side bytes nonce taken sent next
read_as_kept Answers accepts kept side next bytes nonce sent taken same reads =
    carried (λ (b : Bool). Receives (Reading b Answers) side bytes nonce taken sent next) accepts kept same reads
