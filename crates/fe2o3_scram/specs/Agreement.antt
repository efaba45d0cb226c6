-- What an exchange of texts means to both of its sides, in the words of the headline (RFC 5802, section 5). The law is
-- the clause `agreement` of `laws::accepted_messages`.
use Rattle.std.specs.Prelude.{ℕ, List, ◌≡◌, ◌≢◌, ◌⊎◌, T, Some, Ok, length}
use Rattle.fe2o3_scram.specs.ClientFinal.{ClientFinal, ReadsClientFinal, keys_for, without_proof_with}
use Rattle.fe2o3_scram.specs.ClientFirst.{ClientFirst, ReadsClientFirst, client_first_bare}
use Rattle.fe2o3_scram.specs.ClientKeys.{ClientKeys}
use Rattle.fe2o3_scram.specs.Credentials.{Provider, Record}
use Rattle.fe2o3_scram.specs.ChannelBinding.{ClientHeader, HoldsHeaderBytes, cbind_data, expected_header, header_of, is_strict}
use Rattle.fe2o3_scram.specs.Extensions.{NoneMisplaced}
use Rattle.fe2o3_scram.specs.Hmac.{hmac_of}
use Rattle.fe2o3_scram.specs.Keys.{auth_message}
use Rattle.fe2o3_scram.specs.Laws.{HoldsBytes}
use Rattle.fe2o3_scram.specs.ScramClient.{ClientSide, AnswersIn, VerifiesIn, header_in, holding, is_strict_client, started}
use Rattle.fe2o3_scram.specs.ScramServer.{ServerState, ChallengesFrom, ConcludesFrom, server_against}
use Rattle.fe2o3_scram.specs.ServerFirst.{ServerChallenge, ServerFirst, ReadsServerFirst, challenge_of}
use Rattle.fe2o3_scram.specs.Texts.{Part, Parts, base64_text}

-- a client's calls: it started with this nonce, answered this server-first message, and verified this server-final
-- message
pub record Verified (side : ClientSide) (nonce first last : List ℕ) : Type 0 where
  pub message : List ℕ
  pub waiting : ClientSide
  pub done : ClientSide
  pub answers : AnswersIn (started side nonce).state (started side nonce) first (Ok message) waiting
  pub verifies : VerifiesIn waiting.state waiting last (Ok tt) done

-- a server's calls: with this nonce it answered this client-first message by a challenge, and then this client-final
-- message, which it accepted, by this server-final message
pub record AcceptedTexts (provider : Provider) (nonce init response last : List ℕ) : Type 0 where
  pub state : ServerState
  pub waiting : ServerState
  pub done : ServerState
  pub first : List ℕ
  pub challenges : ChallengesFrom state provider nonce init (Ok (Some first)) waiting
  pub accepts : ConcludesFrom waiting provider.version provider.rules provider.rights response (Ok (Some last)) done

-- what the client knows: what the server-first message named to it
pub record ClientKnows (side : ClientSide) (nonce text : List ℕ) : Type 0 where
  pub first : ServerFirst
  pub reads : ReadsServerFirst (holding side (base64_text nonce)) text (Ok first)

-- what the server knows: what the client-first message named, the record of its user, and what the client-final message
-- named
pub record ServerKnows (provider : Provider) (nonce init response : List ℕ) : Type 0 where
  pub client : ClientFirst
  pub stored : Record
  pub final : ClientFinal
  pub reads_init : ReadsClientFirst provider.rules init (Ok client)
  pub known : provider.records client.user ≡ Some stored
  pub reads : let challenge = challenge_of client (base64_text nonce) stored in
      ReadsClientFinal (server_against provider.version provider.rules provider.rights challenge stored) response (Ok final)

-- the keys that the client answered by (RFC 5802, section 3)
abbrev pub keys_known : {side : ClientSide} {nonce text : List ℕ} → ClientKnows side nonce text → ClientKeys
keys_known {side} client = keys_for side.version side.secret client.first

-- AuthMessage of the messages as the client has them (RFC 5802, section 3)
abbrev pub client_auth_message : {side : ClientSide} {nonce text : List ℕ} → ClientKnows side nonce text → List ℕ
client_auth_message {side} {nonce} {text} client =
    auth_message (client_first_bare side.user (base64_text nonce)) text (without_proof_with (header_in side) client.first.nonce)

-- the challenge that the server sent
abbrev pub challenge_known : {provider : Provider} {nonce init response : List ℕ}
    → ServerKnows provider nonce init response → ServerChallenge
challenge_known {provider} {nonce} server = challenge_of server.client (base64_text nonce) server.stored

-- AuthMessage of the messages as the server has them (RFC 5802, section 3)
abbrev pub server_auth_message : {provider : Provider} {nonce init response : List ℕ}
    → ServerKnows provider nonce init response → List ℕ
server_auth_message server = auth_message server.client.bare (challenge_known server).first server.final.without

-- the text has that many parts, as commas cut it (RFC 5802, section 7)
abbrev pub InParts : ℕ → List ℕ → Type 0
InParts n text = (parts : List (List ℕ)) × Parts text parts × (length parts ≡ n)

-- the client-first message had exactly two parts, the user name and the nonce
abbrev pub IsPlain : List ℕ → Type 0
IsPlain bare = InParts 2 bare

-- one of the two sides received no attribute of RFC 5802 in the place of an extension
abbrev pub NoneMisplacedInTexts : {side : ClientSide} {provider : Provider} {own text its init response : List ℕ}
    → ClientKnows side own text → ServerKnows provider its init response → Type 0
NoneMisplacedInTexts {text} client server = NoneMisplaced text server.client.bare server.final.without

-- the header that the server expected
abbrev pub header_known : {provider : Provider} {nonce init response : List ℕ}
    → ServerKnows provider nonce init response → ClientHeader
header_known {provider} server = expected_header provider.rules.channels server.client.header

-- both sides mean one login: one version of keys, user name and client nonce. Where the client-first message was plain,
-- or one side received no misplaced attribute, also one nonce of both sides, salt and count; in the second case also one
-- GS2 header, that of the client, and the data of one channel
pub record TextsAgree {side : ClientSide} {provider : Provider} {own text its init response : List ℕ}
    (client : ClientKnows side own text) (server : ServerKnows provider its init response) : Type 0 where
  pub version : (keys_known client).version ≡ provider.version
  pub header : HoldsHeaderBytes (header_in side) → NoneMisplacedInTexts client server
      → header_of (header_in side) ≡ server.client.header
  pub channel : HoldsHeaderBytes (header_in side) → NoneMisplacedInTexts client server
      → cbind_data side.channel ≡ cbind_data (header_known server).channel
  pub user : side.user ≡ server.client.user
  pub nonce : base64_text own ≡ server.client.nonce
  pub full_nonce : IsPlain server.client.bare ⊎ NoneMisplacedInTexts client server
      → client.first.nonce ≡ (challenge_known server).nonce
  pub salt : IsPlain server.client.bare ⊎ NoneMisplacedInTexts client server → client.first.salt ≡ server.stored.salt
  pub count : IsPlain server.client.bare ⊎ NoneMisplacedInTexts client server → client.first.count ≡ server.stored.count

-- the AuthMessages share one HMAC value, each under its side's ServerKey, at one version
pub record Collide {side : ClientSide} {provider : Provider} {own text its init response : List ℕ}
    (client : ClientKnows side own text) (server : ServerKnows provider its init response) : Type 0 where
  pub version : (keys_known client).version ≡ provider.version
  pub one : hmac_of provider.version (keys_known client).server_key (client_auth_message client)
      ≡ hmac_of provider.version server.stored.server_key (server_auth_message server)

-- a client that verified the message by which a server accepted: both sides agree if their AuthMessages are equal, and
-- otherwise these collide
abbrev pub VerifiedTextsAgree : Type 0
VerifiedTextsAgree = (side : ClientSide) (provider : Provider) (own text last its init response verifier : List ℕ)
    → Verified side own text last → AcceptedTexts provider its init response verifier → Part last 0 verifier
    → (client : ClientKnows side own text) × (server : ServerKnows provider its init response)
    × (HoldsBytes (server.client.user, server.stored)
    → (client_auth_message client ≡ server_auth_message server → TextsAgree client server)
    × (client_auth_message client ≢ server_auth_message server → Collide client server))

-- one strict side is enough: where the client is strict, or the server is, as each that binds a channel is, one side
-- received no misplaced attribute, so that both agree on the whole login
abbrev pub OneStrictSideOfTextsIsEnough : Type 0
OneStrictSideOfTextsIsEnough = (side : ClientSide) (provider : Provider) (own text its init response : List ℕ)
    (client : ClientKnows side own text) (server : ServerKnows provider its init response)
    → T (is_strict_client side) ⊎ T (is_strict provider.rules) → NoneMisplacedInTexts client server
