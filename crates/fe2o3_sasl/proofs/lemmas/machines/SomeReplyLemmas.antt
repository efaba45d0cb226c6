-- Each machine has a reply to each frame that its side is sent.
use Rattle.std.proofs.Common.{◌⊎◌, ℕ, Option, Some, None, List, [], ◌∷◌, refl, inl, inr, Bool, true, false, Result, Ok, Err}
use Rattle.std.specs.List.{Contains}
use Rattle.fe2o3_sasl_wire.specs.declared.amqp_types.SaslCode.TheVariants as outcomes
use Rattle.fe2o3_sasl_wire.specs.SaslFrames as frames
use Rattle.fe2o3_sasl_wire.specs.SaslFrames.{SaslFrame}
use Rattle.fe2o3_scram.proofs.lemmas.texts.DecisionLemmas.{Decided}
use Rattle.fe2o3_sasl_core.specs.MechanismLaws.{SomeAcceptorReply, SomeProfileReply}
use Rattle.fe2o3_sasl_core.specs.Profiles.{Profile, ScramProfile, PlainProfile, AnonymousProfile, ExternalProfile, MessageProfile, MessageMechanism, PolicyProfile, Selection, message_name, profile_name, initial_response, after_init}
use Rattle.fe2o3_sasl_core.specs.ProfileMachine.{IsSelected, NoneIsSelected, profile_machine}
use Rattle.fe2o3_sasl_core.specs.SaslAcceptor.{Acceptor, ScramAcceptor, PlainAcceptor, AnonymousAcceptor, acceptor_machine, ends_with, server_frame, NamesPlain}
use Rattle.fe2o3_sasl_core.proofs.lemmas.machines.SomeRunLemmas.{some_start, some_conclusion, some_move, contains_or}
use Rattle.fe2o3_sasl_core.specs.private.Writing.{IsFor, NoneIsFor}
use Rattle.fe2o3_sasl_core.proofs.lemmas.machines.OfferLemmas.{offer_refused, offer_started}
use Rattle.fe2o3_sasl_core.proofs.lemmas.machines.ZeroPartLemmas.{names_plain_or}
use Rattle.fe2o3_sasl.proofs.lemmas.machines.SomeOfferLemmas.{some_offer}
use Rattle.fe2o3_sasl_core.specs.declared.sasl_profile.error.ProfileError.{ProfileError}
use Rattle.fe2o3_sasl_core.specs.declared.sasl_profile.error.ProfileError.TheVariants.{NotImplemented}

-- ---- an acceptor

abbrev Replies : Acceptor → List ℕ → SaslFrame → Type 0
Replies acceptor nonce frame =
    (reply : SaslFrame) × (next : Acceptor) × acceptor_machine acceptor nonce frame reply next

plain_reply : (user password : List ℕ) (accepted : Bool) (nonce mechanism text : List ℕ) (hostname : Option (List ℕ))
    → Decided (NamesPlain user password text)
    → Replies (PlainAcceptor user password accepted) nonce (frames.Init mechanism (Some text) hostname)
plain_reply user password accepted nonce mechanism text hostname (inl names) =
    (ends_with outcomes.Ok, PlainAcceptor user password true, inl (names, refl, refl))
plain_reply user password accepted nonce mechanism text hostname (inr other) =
    (ends_with outcomes.Auth, PlainAcceptor user password accepted, inr (other, refl, refl))

pub some_acceptor_reply : SomeAcceptorReply
some_acceptor_reply (ScramAcceptor provider state) nonce (frames.Init mechanism response hostname) sent =
    let start = some_start provider state nonce mechanism response hostname in
    (start.0, ScramAcceptor provider start.1, start.2)
some_acceptor_reply (ScramAcceptor provider state) nonce (frames.Response text) sent =
    let answer = some_conclusion state provider.version provider.rules provider.rights text in (
      server_frame (λ message. frames.Outcome outcomes.Ok (Some message)) answer.0,
      ScramAcceptor provider answer.1,
      (answer.0, answer.1, answer.2, refl, refl),
    )
some_acceptor_reply (PlainAcceptor user password accepted) nonce (frames.Init mechanism (Some text) hostname) sent =
    plain_reply user password accepted nonce mechanism text hostname (names_plain_or user password text)
some_acceptor_reply (PlainAcceptor user password accepted) nonce (frames.Init mechanism None hostname) sent =
    (ends_with outcomes.Auth, PlainAcceptor user password accepted, (refl, refl))
some_acceptor_reply (PlainAcceptor user password accepted) nonce (frames.Response text) sent =
    (ends_with outcomes.Sys, PlainAcceptor user password accepted, (refl, refl))
some_acceptor_reply AnonymousAcceptor nonce (frames.Init mechanism response hostname) sent =
    (ends_with outcomes.Ok, AnonymousAcceptor, (refl, refl))
some_acceptor_reply AnonymousAcceptor nonce (frames.Response text) sent =
    (ends_with outcomes.Ok, AnonymousAcceptor, (refl, refl))
some_acceptor_reply acceptor nonce (frames.Mechanisms names) sent = absurd sent
some_acceptor_reply acceptor nonce (frames.Challenge text) sent = absurd sent
some_acceptor_reply acceptor nonce (frames.Outcome code more) sent = absurd sent

-- ---- a profile

abbrev Answers : Profile → Option (List ℕ) → List ℕ → SaslFrame → Type 0
Answers profile hostname nonce frame = (reply : Result SaslFrame ProfileError) × (next : Profile)
    × profile_machine profile hostname nonce frame reply next

-- a profile of a mechanism finds its name among those offered, or does not
abbrev IsOfMechanism : Profile → Type 0
IsOfMechanism (PolicyProfile selection) = ⊥
IsOfMechanism profile = Unit {0}

own : (profile : Profile) (names : List (List ℕ)) → IsOfMechanism profile → Contains names (profile_name profile)
    → IsFor profile names profile
own (PolicyProfile selection) names of has = absurd of
own profile names of has = (has, refl)

not_own : (profile : Profile) (names : List (List ℕ)) → IsOfMechanism profile → ¬ Contains names (profile_name profile)
    → NoneIsFor profile names
not_own (PolicyProfile selection) names of none = absurd of
not_own profile names of none = none

listed : (profile : Profile) (hostname : Option (List ℕ)) (nonce : List ℕ) (names : List (List ℕ))
    → IsOfMechanism profile → Decided (Contains names (profile_name profile))
    → Answers profile hostname nonce (frames.Mechanisms names)
listed (PolicyProfile selection) hostname nonce names of decided = absurd of
listed profile hostname nonce names of (inl has) = (
  Ok (frames.Init (profile_name profile) (initial_response profile nonce) hostname),
  after_init profile nonce,
  offer_started profile profile hostname nonce names (own profile names of has),
)
listed profile hostname nonce names of (inr none) =
    (Err NotImplemented, profile, offer_refused profile hostname nonce names (not_own profile names of none))

-- a profile of a single message answers an empty challenge that is due
message_reply : (mechanism : MessageMechanism) (message : List ℕ) (is_due : Bool) (hostname : Option (List ℕ))
    (nonce : List ℕ) (frame : SaslFrame) → Answers (MessageProfile mechanism message is_due) hostname nonce frame
message_reply mechanism message is_due hostname nonce (frames.Mechanisms names) = listed
    (MessageProfile mechanism message is_due) hostname nonce names tt (contains_or names (message_name mechanism))
message_reply mechanism message true hostname nonce (frames.Challenge []) =
    (Ok (frames.Response message), MessageProfile mechanism message false, (refl, refl))
message_reply mechanism message true hostname nonce (frames.Challenge (byte ∷ rest)) =
    (Err NotImplemented, MessageProfile mechanism message true, (refl, refl))
message_reply mechanism message false hostname nonce (frames.Challenge text) =
    (Err NotImplemented, MessageProfile mechanism message false, (refl, refl))
message_reply mechanism message is_due hostname nonce (frames.Outcome code more) =
    (Ok (frames.Outcome code more), MessageProfile mechanism message is_due, (refl, refl))
message_reply mechanism message is_due hostname nonce (frames.Init name response host) =
    (Err NotImplemented, MessageProfile mechanism message is_due, (refl, refl))
message_reply mechanism message is_due hostname nonce (frames.Response text) =
    (Err NotImplemented, MessageProfile mechanism message is_due, (refl, refl))

-- a client by a policy selects a profile, or none
selected_reply : (selection : Selection) (hostname : Option (List ℕ)) (nonce : List ℕ) (names : List (List ℕ))
    → ((profile : Profile) × IsSelected selection names profile) ⊎ NoneIsSelected selection names
    → Answers (PolicyProfile selection) hostname nonce (frames.Mechanisms names)
selected_reply selection hostname nonce names (inl (chosen, selected)) = (
  Ok (frames.Init (profile_name chosen) (initial_response chosen nonce) hostname),
  after_init chosen nonce,
  inl (chosen, selected, refl, refl),
)
selected_reply selection hostname nonce names (inr none) =
    (Err NotImplemented, PolicyProfile selection, inr (none, refl, refl))

pub some_profile_reply : SomeProfileReply
some_profile_reply (ScramProfile client) hostname nonce frame =
    let move = some_move hostname client nonce frame in (move.0, ScramProfile move.1, move.2)
some_profile_reply (PlainProfile identity user password) hostname nonce (frames.Mechanisms names) = listed
    (PlainProfile identity user password) hostname nonce names tt
    (contains_or names (profile_name (PlainProfile identity user password)))
some_profile_reply (PlainProfile identity user password) hostname nonce (frames.Outcome code more) =
    (Ok (frames.Outcome code more), PlainProfile identity user password, (refl, refl))
some_profile_reply (PlainProfile identity user password) hostname nonce (frames.Init mechanism response host) =
    (Err NotImplemented, PlainProfile identity user password, (refl, refl))
some_profile_reply (PlainProfile identity user password) hostname nonce (frames.Challenge text) =
    (Err NotImplemented, PlainProfile identity user password, (refl, refl))
some_profile_reply (PlainProfile identity user password) hostname nonce (frames.Response text) =
    (Err NotImplemented, PlainProfile identity user password, (refl, refl))
some_profile_reply AnonymousProfile hostname nonce (frames.Mechanisms names) =
    listed AnonymousProfile hostname nonce names tt (contains_or names (profile_name AnonymousProfile))
some_profile_reply AnonymousProfile hostname nonce (frames.Outcome code more) =
    (Ok (frames.Outcome code more), AnonymousProfile, (refl, refl))
some_profile_reply AnonymousProfile hostname nonce (frames.Init mechanism response host) =
    (Err NotImplemented, AnonymousProfile, (refl, refl))
some_profile_reply AnonymousProfile hostname nonce (frames.Challenge text) =
    (Err NotImplemented, AnonymousProfile, (refl, refl))
some_profile_reply AnonymousProfile hostname nonce (frames.Response text) =
    (Err NotImplemented, AnonymousProfile, (refl, refl))
some_profile_reply ExternalProfile hostname nonce (frames.Mechanisms names) =
    listed ExternalProfile hostname nonce names tt (contains_or names (profile_name ExternalProfile))
some_profile_reply ExternalProfile hostname nonce (frames.Outcome code more) =
    (Ok (frames.Outcome code more), ExternalProfile, (refl, refl))
some_profile_reply ExternalProfile hostname nonce (frames.Init mechanism response host) =
    (Err NotImplemented, ExternalProfile, (refl, refl))
some_profile_reply ExternalProfile hostname nonce (frames.Challenge text) =
    (Err NotImplemented, ExternalProfile, (refl, refl))
some_profile_reply ExternalProfile hostname nonce (frames.Response text) =
    (Err NotImplemented, ExternalProfile, (refl, refl))
some_profile_reply (MessageProfile mechanism message is_due) hostname nonce frame =
    message_reply mechanism message is_due hostname nonce frame
some_profile_reply (PolicyProfile selection) hostname nonce (frames.Mechanisms names) =
    selected_reply selection hostname nonce names (some_offer selection names)
some_profile_reply (PolicyProfile selection) hostname nonce (frames.Outcome code more) =
    (Err NotImplemented, PolicyProfile selection, (refl, refl))
some_profile_reply (PolicyProfile selection) hostname nonce (frames.Init mechanism response host) =
    (Err NotImplemented, PolicyProfile selection, (refl, refl))
some_profile_reply (PolicyProfile selection) hostname nonce (frames.Challenge text) =
    (Err NotImplemented, PolicyProfile selection, (refl, refl))
some_profile_reply (PolicyProfile selection) hostname nonce (frames.Response text) =
    (Err NotImplemented, PolicyProfile selection, (refl, refl))
