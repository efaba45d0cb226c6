-- Worked examples of frames at which no memory is asked for.
use Rattle.std.proofs.Common.{◌≡◌, ℕ, Bool, true, false, true≢false, Option, None, List, [], ◌∷◌, sym, ◌∙◌, subst, arith, inl, inr, Ok}
use Rattle.std.specs.Prelude.{◌&&◌, is_some}
use Rattle.std.specs.List.{Contains}
use Rattle.std.specs.Str.{IsUtf8, is_utf8, chars}
use Rattle.std.proofs.lemmas.Str.{is_utf8-from_IsUtf8}
use Rattle.fe2o3_sasl_wire.specs.declared.amqp_types.SaslCode.{SaslCode}
use Rattle.fe2o3_sasl_wire.specs.declared.amqp_types.SaslCode.TheVariants as outcomes
use Rattle.fe2o3_sasl_wire.specs.SaslFrames as frames
use Rattle.fe2o3_sasl_wire.specs.SaslFrames.{SaslFrame}
use Rattle.fe2o3_scram.specs.ScramClient as client_states
use Rattle.fe2o3_scram.specs.ScramClient.{ClientSide, ClientState, ReachesSaltIn, ReachesVerifierIn, expects_signature, is_unsigned}
use Rattle.fe2o3_sasl_core.specs.ClientHistory.{ClientAllocates}
use Rattle.fe2o3_sasl_core.specs.Events.{Login}
use Rattle.fe2o3_sasl_core.specs.Laws.{WantsAtServer}
use Rattle.std.specs.List.{AllByRecursion}
use Rattle.fe2o3_sasl_core.specs.ClientPolicy.{CanTake, by_strength}
use Rattle.fe2o3_sasl_core.specs.declared.mechanism.Mechanism.{Mechanism}
use Rattle.fe2o3_sasl_core.specs.Profiles.{Profile, ScramProfile, PlainProfile, AnonymousProfile, ExternalProfile, MessageProfile, PolicyProfile, Selection}
use Rattle.fe2o3_sasl_core.specs.ProfileMachine.{FrameAllocates, NoneCanBeTaken, OfferAllocates, StepAllocates, ChallengeAllocates, IsChallengeDue, IsStarted, IsAnswered}
use Rattle.fe2o3_sasl.specs.examples.MemoryExamples.{AcceptorsAskForNone, AskForNone, OwnedAskForNone, ServersWantNone, ClientsWantNone}
use Rattle.fe2o3_sasl.proofs.lemmas.machines.MechanismLemmas.{other_name}

no_name : (name : List ℕ) → ¬ Contains [] name
no_name name has = let within = has.1 in absurd (omega (arith, within))

no_text : ¬ IsUtf8 (0xff ∷ [])
unfolding is_utf8 chars
no_text is = absurd (true≢false (sym (is_utf8-from_IsUtf8 (0xff ∷ []) is)))

not_due : (client : ClientSide) (text : List ℕ) → client.state ≡ client_states.ClientInitial
    → ¬ ChallengeAllocates (expects_signature client) client text
not_due client text is = go (expects_signature client)
  where
    go : (expects : Bool) → ¬ ChallengeAllocates expects client text
    go false reaches = subst (λ (s : ClientState). ReachesSaltIn s text) is reaches
    go true reaches = subst (λ (s : ClientState). ReachesVerifierIn s text) is reaches

not_started : (state : ClientState) → state ≡ client_states.ClientInitial → ¬ IsStarted state
not_started state is started = let same = sym is ∙ started.2 in absurd (cc)

none_signs : (accept : Bool) → ¬ ((accept && false) ≡ true)
none_signs true is = absurd (true≢false (sym is))
none_signs false is = absurd (true≢false (sym is))

not_expected : (client : ClientSide) → client.state ≡ client_states.ClientInitial → ¬ IsChallengeDue client
not_expected client is (inl started) = not_started client.state is started
not_expected client is (inr signs) = none_signs client.signature_by_challenge
    (subst (λ (s : ClientState). (client.signature_by_challenge && is_unsigned s) ≡ true) is signs)

not_answered : (state : ClientState) → state ≡ client_states.ClientInitial → ¬ IsAnswered state
not_answered state is answered = let same = sym is ∙ answered.2 in absurd (cc)

no_signature : (state : ClientState) → ¬ ReachesVerifierIn state (0xff ∷ [])
no_signature (client_states.ClientFinalSent signature keys) reaches = no_text reaches.0
no_signature state reaches = reaches

pub acceptors_ask_for_none : AcceptorsAskForNone
acceptors_ask_for_none = (
  λ provider state text hostname asks. (other_name provider.version (is_some provider.rules.channels)).0 (sym asks.0),
  λ provider state hostname asks. asks,
  λ provider text asks. asks,
  λ provider user text acts_for asks. asks,
  λ user password accepted frame asks. asks,
  λ frame asks. asks,
)

-- nothing is selected of an empty offer
none_taken : (selection : Selection) → NoneCanBeTaken selection []
none_taken selection = go by_strength
  where
    go : (mechanisms : List Mechanism)
        → AllByRecursion (λ mechanism. ¬ CanTake selection.policy selection.user selection.secret [] mechanism) mechanisms
    go [] = tt
    go (mechanism ∷ mechanisms) = (λ can. no_name _ can.2, go mechanisms)

empty_offer : (profile : Profile) → ¬ OfferAllocates profile []
empty_offer (PolicyProfile selection) asks = asks (none_taken selection)
empty_offer profile asks = no_name _ asks

no_data : (profile : Profile) (code : SaslCode) → ¬ FrameAllocates profile (frames.Outcome code None)
no_data (ScramProfile client) outcomes.Ok asks = asks
no_data (ScramProfile client) outcomes.Auth asks = asks
no_data (ScramProfile client) outcomes.Sys asks = asks
no_data (ScramProfile client) outcomes.SysPerm asks = asks
no_data (ScramProfile client) outcomes.SysTemp asks = asks
no_data (PlainProfile identity user password) code asks = asks
no_data AnonymousProfile code asks = asks
no_data ExternalProfile code asks = asks
no_data (MessageProfile mechanism message is_due) code asks = asks
no_data (PolicyProfile selection) code asks = asks

pub owned_ask_for_none : OwnedAskForNone
owned_ask_for_none = (
  (
    empty_offer,
    λ client asks. no_text asks.0,
    λ client text is asks. not_due client text is asks.1,
    λ identity user password text asks. asks,
    no_data,
    λ client asks. no_signature client.state asks,
    λ client text is asks. subst (λ (s : ClientState). ReachesVerifierIn s text) is asks,
  ),
  λ client more asks. asks,
  λ identity user password code more asks. asks,
)

no_data_in_step : (profile : Profile) (code : SaslCode) → ¬ StepAllocates profile (frames.Outcome code None)
no_data_in_step (ScramProfile client) outcomes.Ok asks = asks
no_data_in_step (ScramProfile client) outcomes.Auth asks = asks
no_data_in_step (ScramProfile client) outcomes.Sys asks = asks
no_data_in_step (ScramProfile client) outcomes.SysPerm asks = asks
no_data_in_step (ScramProfile client) outcomes.SysTemp asks = asks
no_data_in_step (PlainProfile identity user password) code asks = asks
no_data_in_step AnonymousProfile code asks = asks
no_data_in_step ExternalProfile code asks = asks
no_data_in_step (MessageProfile mechanism message is_due) code asks = asks
no_data_in_step (PolicyProfile selection) code asks = asks

pub steps_ask_for_none : AskForNone StepAllocates
steps_ask_for_none = (
  empty_offer,
  λ client asks. no_text asks.0,
  λ client text is asks. not_expected client is asks.1,
  λ identity user password text asks. asks,
  no_data_in_step,
  λ client asks. no_text asks.0,
  λ client text is asks. not_answered client.state is asks.1,
)

no_list : (names : List (List ℕ)) → ¬ WantsAtServer (frames.Mechanisms names)
no_list names (inl wants) = let same = wants.3 in absurd (cc)
no_list names (inr wants) = let same = wants.1 in absurd (cc)

no_challenge : (text : List ℕ) → ¬ WantsAtServer (frames.Challenge text)
no_challenge text (inl wants) = let same = wants.3 in absurd (cc)
no_challenge text (inr wants) = let same = wants.1 in absurd (cc)

no_outcome : (code : SaslCode) (more : Option (List ℕ)) → ¬ WantsAtServer (frames.Outcome code more)
no_outcome code more (inl wants) = let same = wants.3 in absurd (cc)
no_outcome code more (inr wants) = let same = wants.1 in absurd (cc)

pub servers_want_none : ServersWantNone
servers_want_none = (
  λ fault wants. wants,
  λ names. (λ wants. wants, no_list names),
  λ text. (λ wants. wants, no_challenge text),
  λ code more. (λ wants. wants, no_outcome code more),
)

no_client_data : (login : Login) (code : SaslCode) → ¬ ClientAllocates login (Ok (frames.Outcome code None))
no_client_data login outcomes.Ok wants = wants
no_client_data login outcomes.Auth wants = wants
no_client_data login outcomes.Sys wants = wants
no_client_data login outcomes.SysPerm wants = wants
no_client_data login outcomes.SysTemp wants = wants

pub clients_want_none : ClientsWantNone
clients_want_none login = (
  λ fault wants. wants,
  λ wants. no_name _ wants,
  λ wants. no_text wants,
  no_client_data login,
  λ text wants. wants,
)
