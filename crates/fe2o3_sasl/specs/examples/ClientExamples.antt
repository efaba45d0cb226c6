-- Worked examples of clients. Each is the client of the first examples, but with the keys of its password.
use Rattle.std.specs.Prelude.{ℕ, Option, Some, None, List, [], ◌∷◌, replicate, codes, false}
use Rattle.fe2o3_sasl_wire.specs.declared.amqp_types.SaslCode.TheVariants as outcomes
use Rattle.fe2o3_sasl_wire.specs.SaslFrames as frames
use Rattle.fe2o3_scram.specs.declared.scram_messages.client_channel.ClientChannel.TheVariants.{Absent}
use Rattle.fe2o3_scram.specs.declared.hmac.ScramVersion.TheVariants.{Sha256}
use Rattle.fe2o3_scram.specs.ClientKeys.{keys_of}
use Rattle.fe2o3_scram.specs.ClientSecret.{Secret, Keys}
use Rattle.fe2o3_scram.specs.declared.client_secret.IterationLimits.{IterationLimits}
use Rattle.fe2o3_scram.specs.Texts.{joined}
use Rattle.fe2o3_sasl_core.specs.ClientHistory.{Answering, ClientHistory}
use Rattle.fe2o3_sasl_core.specs.Events.{ClientSays, Given, Login, Answered, Reported, Refused, Started}
use Rattle.fe2o3_sasl_core.specs.TwoSides.{proof_at}
use Rattle.fe2o3_sasl.specs.examples.Examples.{answer_to, binds, body_of, both, client_bytes, event_of, login, names, offers, salt, salted, sends_init, sends_ok, sends_response, unaltered, verifier}
use Rattle.fe2o3_sasl_core.specs.declared.sasl_profile.error.ProfileError.TheVariants.{StaleKeys}

-- the client of the first examples with this secret, these limits and this hostname
abbrev pub changed : Secret → IterationLimits → Option (List ℕ) → Login
changed secret limits hostname =
    record {
      user = login.user;
      secret = secret;
      version = Sha256;
      limits = limits;
      channel = Absent;
      acts_for = None;
      strict = false;
      signature_by_challenge = false;
      hostname = hostname;
    }

-- ---- what all of them get and say

-- a challenge with this salt
abbrev pub asks : List ℕ → Given
asks bytes = event_of client_bytes (frames.Challenge (joined (salted bytes both)))

-- what the client of the first examples makes of the challenge with the record's salt
abbrev pub made : Answering
made = answer_to unaltered

-- the init of these clients
abbrev pub starts : ClientSays
starts = Started (body_of (sends_init (joined (names (codes "user")))))

-- the response of these clients, and their report of the outcome Ok
abbrev pub logs_in : List ClientSays
logs_in = Answered (body_of (sends_response (joined (binds both)) (proof_at login made)))
    ∷ Reported outcomes.Ok (Some (verifier made)) ∷ []

-- the challenge with the salt of the record, and the outcome Ok
abbrev pub is_served : List Given
is_served = asks salt ∷ event_of client_bytes (sends_ok made) ∷ []

-- ---- keys in place of the password

abbrev pub with_keys : Login
with_keys = changed (Keys (keys_of Sha256 (codes "pencil") salt 4096)) login.limits None

-- a client with the keys replies like one with the password
abbrev pub KeysLogIn : Type 0
KeysLogIn = ClientHistory with_keys (event_of client_bytes offers ∷ is_served) (starts ∷ logs_in)

-- a salt other than that of the keys
abbrev pub other_salt : List ℕ
other_salt = replicate 32 4

-- a challenge with another salt is rejected, and stays expected: the next one with the salt of the keys logs in
abbrev pub StaleKeysLogInLater : Type 0
StaleKeysLogInLater = ClientHistory with_keys (event_of client_bytes offers ∷ asks other_salt ∷ is_served)
    (starts ∷ Refused StaleKeys ∷ logs_in)
