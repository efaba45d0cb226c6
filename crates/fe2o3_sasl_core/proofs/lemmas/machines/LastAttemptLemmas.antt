-- A frame leaves one last claim.
use Rattle.std.proofs.Common.{◌≡◌, ℕ, Option, Some, None, List, sym, ap, ◌∙◌}
use Rattle.fe2o3_sasl_wire.specs.SaslFrames as frames
use Rattle.fe2o3_sasl_wire.specs.SaslFrames.{SaslFrame}
use Rattle.fe2o3_sasl_core.specs.LoginAttempts.{Attempt, ClaimIn, IsAttempt, LateClaim, RecordsFrame, RecordsResponse, with_late}
use Rattle.fe2o3_sasl_core.proofs.lemmas.machines.ClaimLemmas.{one_claim}

one_in : (mechanism : List ℕ) (response user other : Option (List ℕ)) → ClaimIn mechanism response user
    → ClaimIn mechanism response other → user ≡ other
one_in mechanism (Some text) user other is too = one_claim mechanism text user other is too
one_in mechanism None user other is too = is ∙ sym too

one_attempt : (mechanism : List ℕ) (response hostname : Option (List ℕ)) (attempt other : Attempt)
    → IsAttempt (frames.Init mechanism response hostname) attempt
    → IsAttempt (frames.Init mechanism response hostname) other → attempt ≡ other
one_attempt mechanism response hostname attempt other is too =
    let same = is.0 ∙ sym too.0 in
    let user = one_in mechanism response attempt.user other.user is.1 too.1 in
    let host = is.2 ∙ sym too.2 in
    λ i. record { mechanism = same i; user = user i; hostname = host i }

one_late : (claimed : Option (List ℕ)) (mechanism text : List ℕ) (late other : Option (List ℕ))
    → LateClaim claimed mechanism text late → LateClaim claimed mechanism text other → late ≡ other
one_late (Some user) mechanism text late other is too = is ∙ sym too
one_late None mechanism text late other is too = one_claim mechanism text late other is too

one_response : (text : List ℕ) (before after other : Option Attempt) → RecordsResponse text before after
    → RecordsResponse text before other → after ≡ other
one_response text None after other is too = is ∙ sym too
one_response text (Some attempt) after other (late, claims, to) (late', claims', to') =
    let same = one_late attempt.user attempt.mechanism text late late' claims claims' in
    to ∙ (ap (λ (user : Option (List ℕ)). Some (with_late attempt user)) same ∙ sym to')

pub one_record : (frame : SaslFrame) (before after other : Option Attempt) → RecordsFrame frame before after
    → RecordsFrame frame before other → after ≡ other
one_record (frames.Init mechanism response hostname) before after other (attempt, is, to) (attempt', is', to') =
    to ∙ (ap (λ (a : Attempt). Some a) (one_attempt mechanism response hostname attempt attempt' is is') ∙ sym to')
one_record (frames.Response text) before after other is too = one_response text before after other is too
one_record frame before after other is too = is ∙ sym too
