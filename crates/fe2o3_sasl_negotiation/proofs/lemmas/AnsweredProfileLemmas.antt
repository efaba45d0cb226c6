-- A profile that has sent a response makes no HMAC value for a challenge (RFC 5802, section 3).
use Rattle.std.proofs.Common.{◌≡◌, ℕ, Bool, true, false, Option, Some, None, List, [], subst, sym, inl, inr, Result, Ok, Err}
use Rattle.std.specs.Prelude.{IsUtf8}
use Rattle.fe2o3_sasl_wire.specs.declared.amqp_types.SaslCode.TheVariants as outcomes
use Rattle.fe2o3_sasl_wire.specs.declared.sasl_frames.error.Error.TheVariants as faults
use Rattle.fe2o3_sasl_wire.specs.SaslFrames as frames
use Rattle.fe2o3_sasl_wire.specs.SaslFrames.{SaslFrame, canonical}
use Rattle.fe2o3_scram.specs.ScramClient as client_states
use Rattle.fe2o3_scram.specs.ScramClient.{ClientSide, ClientState, AnswersIn, ChecksSignatureIn, AnswerCostsIn, expects_signature}
use Rattle.fe2o3_scram.proofs.lemmas.texts.DecisionLemmas.{Decided, utf8_or}
use Rattle.fe2o3_sasl_core.specs.Bodies.{carried}
use Rattle.fe2o3_sasl_core.specs.Costs.{ProfileCosts}
use Rattle.fe2o3_sasl_core.specs.Events.{Given, ClientSays, Started, Answered, Refused as ClientRefused}
use Rattle.fe2o3_sasl_core.specs.Profiles.{Profile, ScramProfile, MessageProfile, profile_state}
use Rattle.fe2o3_sasl_core.specs.ProfileMachine.{ChallengeReplies, profile_machine}
use Rattle.fe2o3_sasl_core.proofs.lemmas.machines.OfferLemmas.{Viewed, offer_view}
use Rattle.fe2o3_sasl_core.specs.Runs.{ProfileSteps, Replies}
use Rattle.fe2o3_sasl_core.specs.declared.sasl_profile.error.ProfileError.{ProfileError}
use Rattle.fe2o3_sasl_core.specs.declared.sasl_profile.error.ProfileError.TheVariants.{Frame as FrameFault}

-- a client in this state makes no HMAC value for a challenge: it has not sent its first message, or has answered
abbrev pub MakesNone : ClientState → Type 0
MakesNone (client_states.ClientFirstSent nonce bare) = ⊥
MakesNone state = Unit {0}

abbrev pub IsPast : Profile → Type 0
IsPast profile = MakesNone (profile_state profile)

-- a challenge costs nothing where no HMAC value is made for it
answer_past : {A F : Type 0} (state : ClientState) (client : ClientSide) (text : List ℕ) (result : Result A F)
    (before after : ℕ) → MakesNone state → AnswerCostsIn state client text result before after → after ≡ before
answer_past (client_states.ClientFirstSent nonce bare) client text result before after past costs = absurd past
answer_past state client text result before after past costs = costs

pub past_costs : {A F : Type 0} (profile : Profile) (frame : SaslFrame) (result : Result A F) (before after : ℕ)
    → IsPast profile → ProfileCosts frame profile result before after → after ≡ before
past_costs (ScramProfile client) (frames.Challenge text) result before after past costs = go (utf8_or text)
  where
    go : Decided (IsUtf8 text) → after ≡ before
    go (inl is) = answer_past client.state client text result before after past (costs.1 is)
    go (inr not) = costs.0 not
past_costs profile (frames.Challenge text) result before after past costs = costs
past_costs profile (frames.Mechanisms names) result before after past costs = costs
past_costs profile (frames.Init mechanism response host) result before after past costs = costs
past_costs profile (frames.Response text) result before after past costs = costs
past_costs profile (frames.Outcome code more) result before after past costs = costs

-- ---- the state after a response

answered_past : (state : ClientState) (client : ClientSide) (text message : List ℕ) (after : ClientSide)
    → AnswersIn state client text (Ok message) after → MakesNone after.state
answered_past (client_states.ClientFirstSent nonce bare) client text message after is =
    subst (λ (side : ClientSide). MakesNone side.state) (sym is.3) tt
answered_past state client text message after is = absurd is

checked_past : (state : ClientState) (client : ClientSide) (text : List ℕ) (verified : Unit {0}) (after : ClientSide)
    → ChecksSignatureIn state client text (Ok verified) after → MakesNone after.state
checked_past (client_states.ClientFinalSent signature keys) client text verified after is =
    subst (λ (side : ClientSide). MakesNone side.state) (sym is.1) tt
checked_past state client text verified after is = absurd is

-- what a machine replies, with the profile after it: it is past after a response
abbrev Responds : Result SaslFrame ProfileError → Profile → Type 0
Responds (Ok (frames.Response text)) moved = IsPast moved
Responds (Ok (frames.Init mechanism response host)) moved = Unit {0}
Responds (Ok (frames.Outcome code more)) moved = Unit {0}
Responds (Ok frame) moved = ⊥
Responds (Err fault) moved = Unit {0}

responds : (reply other : Result SaslFrame ProfileError) (moved : Profile) → reply ≡ other → Responds other moved
    → Responds reply moved
responds reply other moved same holds = subst (λ (r : Result SaslFrame ProfileError). Responds r moved) (sym same) holds

challenge_responds : (expects : Bool) (client : ClientSide) (text : List ℕ) (reply : Result SaslFrame ProfileError)
    (moved : Profile) → ChallengeReplies expects client text reply moved → Responds reply moved
challenge_responds false client text reply moved (Ok message, after, answers, is, same) =
    responds reply (Ok (frames.Response message)) moved is
    (subst IsPast (sym same) (answered_past client.state client text message after answers))
challenge_responds false client text reply moved (Err fault, after, answers, is, same) =
    responds reply (Err _) moved is tt
challenge_responds true client text reply moved (Ok verified, after, checks, is, same) =
    responds reply (Ok (frames.Response [])) moved is
    (subst IsPast (sym same) (checked_past client.state client text verified after checks))
challenge_responds true client text reply moved (Err fault, after, checks, is, same) =
    responds reply (Err _) moved is tt

scram_responds : (client : ClientSide) (hostname : Option (List ℕ)) (nonce : List ℕ) (frame : SaslFrame)
    (reply : Result SaslFrame ProfileError) (moved : Profile)
    → profile_machine (ScramProfile client) hostname nonce frame reply moved → Responds reply moved
scram_responds client hostname nonce (frames.Mechanisms names) reply moved (inl is) = responds reply _ moved is.1 tt
scram_responds client hostname nonce (frames.Mechanisms names) reply moved (inr is) = responds reply _ moved is.1 tt
scram_responds client hostname nonce (frames.Challenge text) reply moved (inl is) = responds reply _ moved is.1 tt
scram_responds client hostname nonce (frames.Challenge text) reply moved (inr is) =
    challenge_responds (expects_signature client) client text reply moved is.1
scram_responds client hostname nonce (frames.Outcome outcomes.Ok None) reply moved
    (Ok verified, after, ends, is, same) = responds reply (Ok (frames.Outcome outcomes.Ok None)) moved is tt
scram_responds client hostname nonce (frames.Outcome outcomes.Ok None) reply moved
    (Err fault, after, ends, is, same) = responds reply (Err _) moved is tt
scram_responds client hostname nonce (frames.Outcome outcomes.Ok (Some text)) reply moved
    (Ok verified, after, verifies, is, same) = responds reply (Ok (frames.Outcome outcomes.Ok (Some text))) moved is tt
scram_responds client hostname nonce (frames.Outcome outcomes.Ok (Some text)) reply moved
    (Err fault, after, verifies, is, same) = responds reply (Err _) moved is tt
scram_responds client hostname nonce (frames.Outcome code more) reply moved is = responds reply _ moved is.0 tt
scram_responds client hostname nonce (frames.Init mechanism response host) reply moved is =
    responds reply _ moved is.0 tt
scram_responds client hostname nonce (frames.Response text) reply moved is = responds reply _ moved is.0 tt

machine_responds : (profile : Profile) (hostname : Option (List ℕ)) (nonce : List ℕ) (frame : SaslFrame)
    (reply : Result SaslFrame ProfileError) (moved : Profile)
    → profile_machine profile hostname nonce frame reply moved → Responds reply moved
machine_responds (ScramProfile client) hostname nonce frame reply moved is =
    scram_responds client hostname nonce frame reply moved is
machine_responds profile hostname nonce (frames.Mechanisms names) reply moved is =
    offer_responds (offer_view profile hostname nonce names reply moved is)
  where
    offer_responds : Viewed profile hostname nonce names reply moved → Responds reply moved
    offer_responds (inl (chosen, for, sends, moves)) = responds reply _ moved sends tt
    offer_responds (inr none) = responds reply _ moved none.1 tt
machine_responds (MessageProfile mechanism message true) hostname nonce (frames.Challenge []) reply moved is =
    responds reply (Ok (frames.Response message)) moved is.0 (subst IsPast (sym is.1) tt)
machine_responds profile hostname nonce frame reply moved is = responds reply _ moved is.0 tt

-- a profile that says a response is past
carried_past : (body : List ℕ) (carry : List ℕ → ClientSays) (frame : Option (List ℕ)) (profile moved next : Profile)
    → ((bytes : List ℕ) → Answered body ≡ carry bytes → IsPast moved)
    → Answered body ≡ carried (ClientRefused (FrameFault faults.TooLarge)) carry frame
    → next ≡ carried profile (λ _. moved) frame → IsPast next
carried_past body carry None profile moved next past says same = absurd (cc)
carried_past body carry (Some bytes) profile moved next past says same = subst IsPast (sym same) (past bytes says)

replied_past : (profile moved next : Profile) (reply : Result SaslFrame ProfileError) (body : List ℕ)
    → Responds reply moved → Replies profile moved reply (Answered body) next → IsPast next
replied_past profile moved next (Err fault) body holds is = let apart = is.0 in absurd (cc)
replied_past profile moved next (Ok (frames.Outcome code more)) body holds is = let apart = is.0 in absurd (cc)
replied_past profile moved next (Ok (frames.Init mechanism response host)) body holds is =
    carried_past body (λ b. Started b) (canonical (frames.Init mechanism response host)) profile moved next
    (λ bytes started. absurd (cc)) is.0 is.1
replied_past profile moved next (Ok (frames.Response text)) body holds is =
    carried_past body (λ b. Answered b) (canonical (frames.Response text)) profile moved next (λ bytes same. holds) is.0
    is.1
replied_past profile moved next (Ok (frames.Mechanisms names)) body holds is = absurd holds
replied_past profile moved next (Ok (frames.Challenge text)) body holds is = absurd holds

pub response_is_past : (hostname : Option (List ℕ)) (profile next : Profile) (event : Given) (body : List ℕ)
    → ProfileSteps hostname profile event (Answered body) next → IsPast next
response_is_past hostname profile next event body (Err fault, spells, is) = let apart = is.0 in absurd (cc)
response_is_past hostname profile next event body (Ok frame, spells, inl is) = let apart = is.1 in absurd (cc)
response_is_past hostname profile next event body (Ok frame, spells, inr (reply, moved, moves, says)) =
    replied_past profile moved next reply body
    (machine_responds profile hostname event.nonce frame reply moved moves) says
