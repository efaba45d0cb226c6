-- Worked examples: one login over frame bodies, as it is sent, and with a text that is shifted on the way. Hashes are
-- not computed.
use Rattle.std.specs.Prelude.{◌≢◌, ℕ, Some, None, List, [], ◌∷◌, ◌++◌, replicate, codes, false}
use Rattle.fe2o3_sasl_wire.specs.declared.amqp_types.SaslCode.TheVariants as outcomes
use Rattle.fe2o3_sasl_wire.specs.SaslFrames.{canonical, SaslFrame}
use Rattle.fe2o3_sasl_wire.specs.SaslFrames as frames
use Rattle.fe2o3_scram.specs.ClientFirst.{default_rules}
use Rattle.fe2o3_scram.specs.declared.scram_messages.client_channel.ClientChannel.TheVariants.{Absent}
use Rattle.fe2o3_scram.specs.declared.hmac.ScramVersion.TheVariants.{Sha256}
use Rattle.fe2o3_scram.specs.Texts.{base64_text, joined}
use Rattle.fe2o3_scram.specs.ClientSecret.{Password, no_limit, up_to}
use Rattle.fe2o3_scram.specs.declared.scram_messages.channel_binding_flag.ChannelBindingFlag.TheVariants.{NotSupported}
use Rattle.fe2o3_scram.specs.Passwords.{Typed}
use Rattle.fe2o3_scram.specs.Credentials.{Record, Provider, record_of, serving}
use Rattle.fe2o3_sasl_core.specs.ClientHistory.{Answering, answer_at, OpenAnswer}
use Rattle.fe2o3_sasl_core.specs.Events.{Given, Login, IsLogin, IsRecord, Challenged, Concluded, Started, Answered, Reported}
use Rattle.fe2o3_sasl_core.specs.Bodies.{carried}
use Rattle.fe2o3_sasl_core.specs.ServerHistory.{Challenging, Accepted, full_nonce}
use Rattle.fe2o3_sasl_core.specs.TwoSides.{Sides, Histories, Takes, Shows, HasParts, proof_at}
use Rattle.fe2o3_sasl_core.specs.Verdicts.{Agreed, JudgesVerifier, JudgesProof}
use Rattle.fe2o3_sasl_core.specs.UnalteredRuns.{UnalteredRun, Suffices, HoldsLogin}
use Rattle.fe2o3_scram.specs.ChannelBinding.{own_header}

-- ---- the client and the server

-- the nonce of the client's events
abbrev pub client_bytes : List ℕ
client_bytes = replicate 32 1

-- the nonce of the server's events
abbrev pub server_bytes : List ℕ
server_bytes = replicate 32 2

-- the nonce that the client sends
abbrev pub client_nonce : List ℕ
client_nonce = base64_text client_bytes

-- the nonce that the server sends
abbrev pub server_nonce : List ℕ
server_nonce = base64_text server_bytes

-- the nonce of both sides
abbrev pub both : List ℕ
both = client_nonce ++ server_nonce

-- the salt of the record
abbrev pub salt : List ℕ
salt = replicate 32 3

-- the client's login
abbrev pub login : Login
login = record {
  user = codes "user";
  secret = Password (Typed (codes "pencil"));
  version = Sha256;
  limits = up_to no_limit;
  channel = Absent;
  acts_for = None;
  strict = false;
  signature_by_challenge = false;
  hostname = None;
}

-- the record of the login's password
abbrev pub stored : Record
stored = record_of Sha256 (codes "pencil") salt 4096

-- a provider with only that record
abbrev pub provider : Provider
provider = serving default_rules (record { version = Sha256; records = (codes "user", stored) ∷ [] })

-- ---- messages

-- the parts of a client-first message without its header
abbrev pub names : List ℕ → List (List ℕ)
names user = (codes "n=" ++ user) ∷ (codes "r=" ++ client_nonce) ∷ []

-- the parts of a server-first message: this salt, this nonce, and the count
abbrev pub salted : List ℕ → List ℕ → List (List ℕ)
salted bytes nonce = (codes "r=" ++ nonce) ∷ (codes "s=" ++ base64_text bytes) ∷ codes "i=4096" ∷ []

-- the parts of a server-first message with the salt of the record
abbrev pub values : List ℕ → List (List ℕ)
values nonce = salted salt nonce

-- the parts of a client-final message before the proof
abbrev pub binds : List ℕ → List (List ℕ)
binds nonce = codes "c=biws" ∷ (codes "r=" ++ nonce) ∷ []

-- what the client makes of a server-first message that names this nonce
abbrev pub answering : List ℕ → List ℕ → Answering
answering text nonce = record {
  nonce = client_nonce;
  text = text;
  first =
      record { nonce = nonce; salt = salt; count = 4096 };
}

-- what the server makes of a client-first message
abbrev pub challenging : List ℕ → Challenging
challenging bare = record {
  client = record { header = own_header NotSupported; user = codes "user"; nonce = client_nonce; bare = bare };
  nonce =
      server_nonce;
  stored = stored;
}

-- ---- frames

-- the list of the one mechanism
abbrev pub offers : SaslFrame
offers = frames.Mechanisms (codes "SCRAM-SHA-256" ∷ [])

-- an init with the user's message
abbrev pub sends_init : List ℕ → SaslFrame
sends_init bare = frames.Init (codes "SCRAM-SHA-256") (Some (codes "n,," ++ bare)) None

-- a response with the text before its proof
abbrev pub sends_response : List ℕ → List ℕ → SaslFrame
sends_response without proof = frames.Response (joined (without ∷ (codes "p=" ++ base64_text proof) ∷ []))

-- the verifier with the signature that the client waits for
abbrev pub verifier : Answering → List ℕ
verifier answer = codes "v=" ++ base64_text (answer_at login answer).signature

-- the outcome Ok with the verifier
abbrev pub sends_ok : Answering → SaslFrame
sends_ok answer = frames.Outcome outcomes.Ok (Some (verifier answer))

-- the body of a frame
abbrev pub body_of : SaslFrame → List ℕ
body_of frame = carried [] (λ body. body) (canonical frame)

-- a frame that arrives in its body, with these bytes as the nonce
abbrev pub event_of : List ℕ → SaslFrame → Given
event_of nonce frame = record { body = body_of frame; nonce = nonce }

-- ---- a login to which a man in the middle may add

-- the texts that are added: to the client's nonce, where the server adds its own; and parts after the client's first
-- message, after the server's, and before the proof
pub record Added : Type 0 where
  pub nonce : List ℕ
  pub init : List (List ℕ)
  pub challenge : List (List ℕ)
  pub response : List (List ℕ)

-- the nonce of both sides that the client receives
abbrev pub told : Added → List ℕ
told added = client_nonce ++ added.nonce

-- the client's first message as the server receives it
abbrev pub init_text : Added → List ℕ
init_text added = joined (names (codes "user") ++ added.init)

-- the server's first message as the client receives it
abbrev pub challenge_text : Added → List ℕ
challenge_text added = joined (values (told added) ++ added.challenge)

-- the text before the proof in the client's last message, as the server receives it
abbrev pub response_text : Added → List ℕ
response_text added = joined (binds both ++ added.response)

-- what the client makes of all that it receives
abbrev pub answer_to : Added → Answering
answer_to added = answering (challenge_text added) (told added)

-- what the server makes of all that it receives
abbrev pub accepted_with : Added → Accepted
accepted_with added = record {
  challenge = challenging (init_text added);
  final = record { without = response_text added; proof = proof_at login (answer_to added) };
}

-- what both sides receive and reply: each reports Ok
abbrev pub sides_with : Added → Sides
sides_with added =
    let answer = answer_to added in
    let proof = proof_at login answer in
    record {
      login = login;
      client_events = event_of client_bytes offers ∷ event_of client_bytes (frames.Challenge (challenge_text added))
          ∷ event_of client_bytes (sends_ok answer) ∷ [];
      client_replies = Started (body_of (sends_init (joined (names (codes "user")))))
          ∷ Answered (body_of (sends_response (joined (binds (told added))) proof))
          ∷ Reported outcomes.Ok (Some (verifier answer)) ∷ [];
      provider = provider;
      server_events = event_of server_bytes (sends_init (init_text added))
          ∷ event_of server_bytes (sends_response (response_text added) proof) ∷ [];
      server_replies = Challenged (body_of (frames.Challenge (joined (values both))))
          ∷ Concluded outcomes.Ok (body_of (sends_ok answer)) ∷ [];
    }

-- ---- nothing is added

abbrev pub unaltered : Added
unaltered = record { nonce = server_nonce; init = []; challenge = []; response = [] }

-- the premises of the law of unaltered runs can be met
abbrev pub PremisesCanBeMet : Type 0
PremisesCanBeMet =
    let sides = sides_with unaltered in
    UnalteredRun sides × Histories sides × IsLogin login × HoldsLogin sides (codes "pencil") salt 4096 × Suffices sides

-- ---- the shifted text

-- the client's first message is followed by the parts of a server-first message with another nonce, which the client
-- receives; the server's own parts reach the client after those, and the rest reaches the server before the proof
abbrev pub shifted : Added
shifted =
    let nonce = client_nonce ++ codes "x" in
    record {
      nonce = codes "x";
      init = values nonce;
      challenge = values both ++ binds both;
      response = binds nonce;
    }

-- the two lists are histories; the client takes the server's verifier and shows it the proof that it accepts; and both
-- are judged to agree on user name and client nonce, and on nothing more: the init has five parts, and the sides mean
-- two nonces
pub record IsShifted (sides : Sides) (answer : Answering) (accepted : Accepted) : Type 0 where
  pub login : IsLogin sides.login
  pub record_held : IsRecord accepted.challenge.stored
  pub histories : Histories sides
  pub takes : Takes sides 2 1 accepted
  pub shows : Shows sides 1 1 answer accepted
  pub answers : OpenAnswer sides.login sides.client_events sides.client_replies 2 answer
  pub verifier : JudgesVerifier sides answer accepted (Agreed (codes "user") client_nonce None)
  pub proof : JudgesProof sides answer accepted (Agreed (codes "user") client_nonce None)
  pub five : HasParts accepted.challenge.client.bare 5
  pub apart : answer.first.nonce ≢ full_nonce accepted.challenge

-- agreement on more than user name and client nonce is impossible where the init has five parts
abbrev pub ShiftedTextsPass : Type 0
ShiftedTextsPass = IsShifted (sides_with shifted) (answer_to shifted) (accepted_with shifted)
