-- Stages of a login that no struct tells apart, and the last claim after a frame.
use Rattle.std.proofs.Common.{refl, ◌≡◌, ℕ, List}
use Rattle.std.specs.Prelude.{Option, Some, None}
use Rattle.fe2o3_sasl_wire.specs.SaslFrames as frames
use Rattle.fe2o3_sasl_wire.specs.SaslFrames.{SaslFrame}
use Rattle.fe2o3_sasl_core.specs.LoginAttempts.{Attempt, ClaimIn, LateClaim, RecordsFrame, RecordsResponse, with_late}
use Rattle.fe2o3_sasl_core.specs.Servers.{ExchangeOpen, NotStarted, ResponseAsked, ServerStage, SignatureShown, UserAuthenticated, is_response_asked}
use Rattle.fe2o3_sasl_core.proofs.lemmas.machines.ClaimLemmas.{some_claim}

-- ---- the last claim

some_claim_in : (mechanism : List ℕ) (response : Option (List ℕ)) → (user : Option (List ℕ)) × ClaimIn mechanism response user
some_claim_in mechanism None = (None, refl)
some_claim_in mechanism (Some text) = some_claim mechanism text

some_late : (user : Option (List ℕ)) (mechanism text : List ℕ)
    → (late : Option (List ℕ)) × LateClaim user mechanism text late
some_late (Some user) mechanism text = (None, refl)
some_late None mechanism text = some_claim mechanism text

some_response : (text : List ℕ) (before : Option Attempt) → (after : Option Attempt) × RecordsResponse text before after
some_response text None = (None, refl)
some_response text (Some attempt) = let late = some_late attempt.user attempt.mechanism text in
    (Some (with_late attempt late.0), (late.0, late.1, refl))

-- each frame has a last claim after it
pub some_record : (frame : SaslFrame) (before : Option Attempt) → (after : Option Attempt) × RecordsFrame frame before after
some_record (frames.Init mechanism response hostname) before = let claim = some_claim_in mechanism response in
    let attempt : Attempt = record { mechanism = mechanism; user = claim.0; hostname = hostname } in
    (Some attempt, (attempt, (refl, claim.1, refl), refl))
some_record (frames.Response text) before = some_response text before
some_record (frames.Mechanisms names) before = (before, refl)
some_record (frames.Challenge text) before = (before, refl)
some_record (frames.Outcome code more) before = (before, refl)

-- ---- two stages

-- the first stage, which is that of a connection, and the second, which a struct of it restores, are shown alike: of an open
-- exchange the records may differ
abbrev pub Looks : ServerStage → ServerStage → Type 0
Looks NotStarted NotStarted = Unit {0}
Looks NotStarted (UserAuthenticated other) = other.user ≡ None
Looks (ResponseAsked mechanism nonce) (ResponseAsked other_mechanism other_nonce) = (other_mechanism ≡ mechanism)
    × (other_nonce ≡ nonce)
Looks (ExchangeOpen version plus exchange) (ExchangeOpen other_version other_plus other) =
    (other_version ≡ version) × (other_plus ≡ plus) × (other.challenge ≡ exchange.challenge)
Looks (SignatureShown login) (SignatureShown other) = (other.user ≡ login.user) × (other.acts_for ≡ login.acts_for)
Looks (UserAuthenticated login) (UserAuthenticated other) = (other.user ≡ login.user) × (other.acts_for ≡ login.acts_for)
Looks stage other = ⊥

pub looks_same : (stage : ServerStage) → Looks stage stage
looks_same NotStarted = tt
looks_same (ResponseAsked mechanism nonce) = (refl, refl)
looks_same (ExchangeOpen version plus exchange) = (refl, refl, refl)
looks_same (SignatureShown login) = (refl, refl)
looks_same (UserAuthenticated login) = (refl, refl)

pub one_asked : (stage other : ServerStage) → Looks stage other → is_response_asked other ≡ is_response_asked stage
one_asked NotStarted NotStarted looks = refl
one_asked NotStarted (UserAuthenticated other) looks = refl
one_asked (ResponseAsked mechanism nonce) (ResponseAsked other_mechanism other_nonce) looks = refl
one_asked (ExchangeOpen version plus exchange) (ExchangeOpen other_version other_plus other) looks = refl
one_asked (SignatureShown login) (SignatureShown other) looks = refl
one_asked (UserAuthenticated login) (UserAuthenticated other) looks = refl
one_asked NotStarted (ResponseAsked mechanism nonce) looks = absurd looks
one_asked NotStarted (ExchangeOpen version plus exchange) looks = absurd looks
one_asked NotStarted (SignatureShown login) looks = absurd looks
one_asked (ResponseAsked mechanism nonce) NotStarted looks = absurd looks
one_asked (ResponseAsked mechanism nonce) (ExchangeOpen version plus exchange) looks = absurd looks
one_asked (ResponseAsked mechanism nonce) (SignatureShown login) looks = absurd looks
one_asked (ResponseAsked mechanism nonce) (UserAuthenticated login) looks = absurd looks
one_asked (ExchangeOpen version plus exchange) NotStarted looks = absurd looks
one_asked (ExchangeOpen version plus exchange) (ResponseAsked mechanism nonce) looks = absurd looks
one_asked (ExchangeOpen version plus exchange) (SignatureShown login) looks = absurd looks
one_asked (ExchangeOpen version plus exchange) (UserAuthenticated login) looks = absurd looks
one_asked (SignatureShown login) NotStarted looks = absurd looks
one_asked (SignatureShown login) (ResponseAsked mechanism nonce) looks = absurd looks
one_asked (SignatureShown login) (ExchangeOpen version plus exchange) looks = absurd looks
one_asked (SignatureShown login) (UserAuthenticated other) looks = absurd looks
one_asked (UserAuthenticated login) NotStarted looks = absurd looks
one_asked (UserAuthenticated login) (ResponseAsked mechanism nonce) looks = absurd looks
one_asked (UserAuthenticated login) (ExchangeOpen version plus exchange) looks = absurd looks
one_asked (UserAuthenticated login) (SignatureShown other) looks = absurd looks
