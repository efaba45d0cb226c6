-- The profiles of a client, and what each sends first (AMQP 1.0, part 5, section 5.3.2).
use Rattle.std.specs.Prelude.{ℕ, Bool, true, false, Option, Some, None, List, [], ◌∷◌, ◌++◌, codes}
use Rattle.fe2o3_scram.specs.ChannelBinding.{is_bound, mechanism_of, header_of}
use Rattle.fe2o3_scram.specs.ClientFirst.{client_first_with}
use Rattle.fe2o3_scram.specs.ClientSecret.{Secret}
use Rattle.fe2o3_scram.specs.ScramClient as client_states
use Rattle.fe2o3_scram.specs.ScramClient.{ClientSide, ClientState, started, with_state, header_in}
use Rattle.fe2o3_scram.specs.Texts.{base64_text}
use Rattle.fe2o3_sasl_core.specs.Events.{Login}
use Rattle.fe2o3_sasl_core.specs.declared.client_policy.ClientPolicy.{ClientPolicy}

-- the mechanisms of a single message, which the client can send as its initial response: ANONYMOUS with trace information
-- (RFC 4505, section 2), and EXTERNAL with an authorization identity (RFC 4422, appendix A)
pub data MessageMechanism : Type 0 where
  AnonymousMessage : MessageMechanism
  ExternalMessage : MessageMechanism

-- what a client selects its mechanism by: the user and the secret, which mechanisms it may log in by, and the identity that it
-- asks to act for, if any
pub record Selection : Type 0 where
  pub user : List ℕ
  pub secret : Secret
  pub policy : ClientPolicy
  pub acts_for : Option (List ℕ)

-- the profiles: SCRAM of the three versions; PLAIN with the identity that it asks to act for, which is empty if the user
-- acts for itself (RFC 4616, section 2); ANONYMOUS and EXTERNAL; and the last two with an initial response. A server that
-- wants that response by a challenge sends an empty one first (RFC 4422, section 5), which is due after the init until it
-- is answered. Or it is by a policy, and has selected no mechanism yet
pub data Profile : Type 0 where
  ScramProfile : (client : ClientSide) → Profile
  PlainProfile : (identity user password : List ℕ) → Profile
  AnonymousProfile : Profile
  ExternalProfile : Profile
  MessageProfile : (mechanism : MessageMechanism) (message : List ℕ) (is_due : Bool) → Profile
  PolicyProfile : (selection : Selection) → Profile

-- whether a profile is of SCRAM
abbrev pub is_scram : Profile → Bool
is_scram (ScramProfile client) = true
is_scram profile = false

-- the name of a mechanism of a single message
abbrev pub message_name : MessageMechanism → List ℕ
message_name AnonymousMessage = codes "ANONYMOUS"
message_name ExternalMessage = codes "EXTERNAL"

-- the name of a profile's mechanism, which is empty before one is selected
abbrev pub profile_name : Profile → List ℕ
profile_name (ScramProfile client) = mechanism_of client.version (is_bound client.channel)
profile_name (PlainProfile identity user password) = codes "PLAIN"
profile_name AnonymousProfile = codes "ANONYMOUS"
profile_name ExternalProfile = codes "EXTERNAL"
profile_name (MessageProfile mechanism message is_due) = message_name mechanism
profile_name (PolicyProfile selection) = []

-- the initial response of a profile, with this nonce
abbrev pub initial_response : Profile → List ℕ → Option (List ℕ)
initial_response (ScramProfile client) nonce =
    Some (client_first_with (header_of (header_in client)) client.user (base64_text nonce))
initial_response (PlainProfile identity user password) nonce = Some (identity ++ 0 ∷ user ++ 0 ∷ password)
initial_response (MessageProfile mechanism message is_due) nonce = Some message
initial_response profile nonce = None

-- the profile after its init
abbrev pub after_init : Profile → List ℕ → Profile
after_init (ScramProfile client) nonce = ScramProfile (started client nonce)
after_init (MessageProfile mechanism message is_due) nonce = MessageProfile mechanism message true
after_init profile nonce = profile

-- whether a profile answers an empty challenge by its initial response
abbrev pub answers_empty_challenge : Profile → Bool
answers_empty_challenge (MessageProfile mechanism message is_due) = is_due
answers_empty_challenge profile = false

-- whether a profile takes the server's signature in a challenge too (RFC 4422, section 5). No step changes it
abbrev pub accepts_signature_by_challenge : Profile → Bool
accepts_signature_by_challenge (ScramProfile client) = client.signature_by_challenge
accepts_signature_by_challenge profile = false

-- a SCRAM profile before its first message
abbrev pub scram_profile : Login → Profile
scram_profile login = ScramProfile (record {
  user = login.user;
  secret = login.secret;
  version = login.version;
  limits = login.limits;
  channel = login.channel;
  acts_for = login.acts_for;
  strict = login.strict;
  signature_by_challenge = login.signature_by_challenge;
  state = client_states.ClientInitial;
})

-- the state of a profile's client; a profile of another mechanism has sent no message of SCRAM
abbrev pub profile_state : Profile → ClientState
profile_state (ScramProfile client) = client.state
profile_state profile = client_states.ClientInitial

-- a profile with its client in this state; one of another mechanism is unchanged
abbrev pub in_state : Profile → ClientState → Profile
in_state (ScramProfile client) state = ScramProfile (with_state client state)
in_state profile state = profile
