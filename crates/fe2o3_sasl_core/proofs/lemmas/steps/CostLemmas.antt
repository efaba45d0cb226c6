-- What answers and steps cost, from what a meter shows.
use Rattle.std.proofs.Common.{◌≡◌, ℕ, Bool, List, refl, subst, true, false, Result, Ok, Err, arith}
use Rattle.std.specs.Prelude.{IsOk, OnOk, ◌&&◌}
use Rattle.std.specs.Str.{IsUtf8}
use Rattle.fe2o3_sasl_wire.specs.declared.sasl_frames.error.Error.{Error}
use Rattle.fe2o3_sasl_wire.specs.SaslFrames as frames
use Rattle.fe2o3_sasl_wire.specs.SaslFrames.{SaslFrame, ReadsBody}
use Rattle.fe2o3_scram.specs.ScramClient as client_states
use Rattle.fe2o3_scram.specs.ScramClient.{ClientSide, ClientState, AnswerCostsIn, expects_signature, is_unsigned}
use Rattle.fe2o3_scram.specs.ServerFirst.{Client}
use Rattle.fe2o3_scram.specs.ServerFirstAnswers.{AnswerCosts}
use Rattle.fe2o3_sasl_core.specs.Costs.{CostsAtMost, CostsExactly, AcceptorStepCosts, ProfileCosts, ProfileStepCosts}
use Rattle.fe2o3_sasl_core.specs.Bodies.{SpellsBody}
use Rattle.fe2o3_sasl_core.specs.Events.{Given}
use Rattle.fe2o3_sasl_core.specs.Profiles.{Profile, ScramProfile}
use Rattle.fe2o3_sasl_core.proofs.lemmas.frames.SpellingLemmas.{one_spelled_frame}

-- ---- profiles

-- what one answer costs, another costs too that is no success where the first is none
again : {A F B G : Type 0} (client : Client) (text : List ℕ) (result : Result A F) (other : Result B G)
    (before after : ℕ) → (IsOk other → IsOk result) → AnswerCosts client text result before after
    → AnswerCosts client text other before after
again client text (Ok a) (Ok b) before after fewer costs = record {
  refused = costs.refused;
  answered = costs.answered;
  at_most = costs.at_most;
  limited = costs.limited;
  never_falls = costs.never_falls;
}
again client text (Err fault) (Ok b) before after fewer costs = let is : false ≡ true = fewer refl in absurd (cc)
again client text result (Err fault) before after fewer costs = record {
  refused = costs.refused;
  answered = λ first reads. tt;
  at_most = costs.at_most;
  limited = costs.limited;
  never_falls = costs.never_falls;
}

again_in : {A F B G : Type 0} (state : ClientState) (client : ClientSide) (text : List ℕ) (result : Result A F)
    (other : Result B G) (before after : ℕ) → (IsOk other → IsOk result)
    → AnswerCostsIn state client text result before after → AnswerCostsIn state client text other before after
again_in (client_states.ClientFirstSent nonce bare) client text result other before after fewer costs =
    again _ text result other before after fewer costs
again_in client_states.ClientInitial client text result other before after fewer costs = costs
again_in (client_states.ClientFinalSent signature keys) client text result other before after fewer costs = costs
again_in (client_states.SignatureVerified keys) client text result other before after fewer costs = costs
again_in (client_states.Complete keys) client text result other before after fewer costs = costs

-- an answer to a challenge in UTF-8
pub challenge_costs : {A F B G : Type 0} (client : ClientSide) (text : List ℕ) (result : Result A F)
    (other : Result B G) (before after : ℕ) → IsUtf8 text → (IsOk other → IsOk result)
    → AnswerCostsIn client.state client text result before after
    → ProfileCosts (frames.Challenge text) (ScramProfile client) other before after
challenge_costs client text result other before after utf8 fewer costs =
    (λ not. absurd (not utf8), λ _. again_in client.state client text result other before after fewer costs)

-- a signature in a challenge
pub signature_costs : {A F : Type 0} (client : ClientSide) (text : List ℕ) (result : Result A F) (meter : ℕ)
    → expects_signature client ≡ true → ProfileCosts (frames.Challenge text) (ScramProfile client) result meter meter
signature_costs {A} {F} client text result meter expects =
    (λ not. refl, λ utf8. go client.state (unsigned client.signature_by_challenge (is_unsigned client.state) expects))
  where
    unsigned : (accepts waits : Bool) → (accepts && waits) ≡ true → waits ≡ true
    unsigned true waits is = is
    unsigned false waits is = absurd (cc)

    go : (state : ClientState) → is_unsigned state ≡ true
        → AnswerCostsIn {A = A} {F = F} state client text result meter meter
    go (client_states.ClientFirstSent nonce bare) is = absurd (cc)
    go state is = refl

-- the same of what rests on an answer
pub costs_again : {A F B G : Type 0} (frame : SaslFrame) (profile : Profile) (result : Result A F)
    (other : Result B G) (before after : ℕ) → (IsOk other → IsOk result)
    → ProfileCosts frame profile result before after → ProfileCosts frame profile other before after
costs_again (frames.Challenge text) (ScramProfile client) result other before after fewer costs =
    (costs.0, λ utf8. again_in client.state client text result other before after fewer (costs.1 utf8))
costs_again frame profile result other before after fewer costs = costs

-- an error for which the meter stays
none_in : {F : Type 0} (A : Type 0) (state : ClientState) (client : ClientSide) (text : List ℕ) (fault : F) (meter : ℕ)
    → AnswerCostsIn {A = A} state client text (Err fault) meter meter
none_in A (client_states.ClientFirstSent nonce bare) client text fault meter = record {
  refused = λ kind reads. refl;
  answered = λ first reads. tt;
  at_most = λ first reads. omega (arith);
  limited = omega (arith);
  never_falls = omega (arith);
}
none_in A state client text fault meter = refl

-- of a step over a body that spells a frame, and over one that does not
pub profile_step_costs : {A F : Type 0} (profile : Profile) (event : Given) (frame : SaslFrame) (n : ℕ)
    (result : Result A F) (before after : ℕ) → ReadsBody event.body (Ok (frame, n))
    → ProfileCosts frame profile result before after → ProfileStepCosts profile event result before after
profile_step_costs profile event frame n result before after reads costs = (Ok frame, (n, reads), costs)

pub unread_profile_costs : {A F : Type 0} (profile : Profile) (event : Given) (fault : Error) (result : Result A F)
    (meter : ℕ) → ReadsBody event.body (Err fault) → ProfileStepCosts profile event result meter meter
unread_profile_costs profile event fault result meter reads = (Err fault, reads, refl)

-- ---- acceptors

-- an answer for which the meter stays
pub no_hmacs : {S : Type 0} (hmacs : S → SaslFrame → ℕ → Type 0) (state : S) (frame : SaslFrame) (meter : ℕ)
    → CostsAtMost hmacs state frame meter meter
no_hmacs hmacs state frame meter = (omega (arith), λ n takes. omega (arith))

-- of a step over a body that spells a frame, and over one that does not
pub acceptor_step_costs : {S : Type 0} (hmacs : S → SaslFrame → ℕ → Type 0) (state : S) (event : Given)
    (frame : SaslFrame) (n before after : ℕ) → ReadsBody event.body (Ok (frame, n))
    → CostsAtMost hmacs state frame before after → AcceptorStepCosts hmacs state event before after
acceptor_step_costs hmacs state event frame n before after reads costs = (Ok frame, (n, reads), costs)

pub unread_acceptor_costs : {S : Type 0} (hmacs : S → SaslFrame → ℕ → Type 0) (state : S) (event : Given)
    (fault : Error) (meter : ℕ) → ReadsBody event.body (Err fault) → AcceptorStepCosts hmacs state event meter meter
unread_acceptor_costs hmacs state event fault meter reads = (Err fault, reads, refl)

-- a body that spells a frame costs what the frame does
pub step_costs_exactly : {S X E : Type 0} (hmacs : S → SaslFrame → ℕ → Type 0) (state : S) (body : List ℕ) (frame : SaslFrame)
    (result : Result X E) (before after : ℕ) → SpellsBody body (Ok frame)
    → OnOk result (CostsExactly hmacs state frame before after)
    → OnOk result ((other : SaslFrame) → SpellsBody body (Ok other) → CostsExactly hmacs state other before after)
step_costs_exactly hmacs state body frame (Ok value) before after spells exactly = λ other is.
    subst (λ (f : SaslFrame). CostsExactly hmacs state f before after) (one_spelled_frame body frame other spells is) exactly
step_costs_exactly hmacs state body frame (Err fault) before after spells exactly = tt
