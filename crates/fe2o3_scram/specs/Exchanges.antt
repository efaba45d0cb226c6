-- An exchange of the four messages (RFC 5802, section 5) in which each arrives as it was sent.
use Rattle.std.specs.Prelude.{ℕ, List, Bool, ◌++◌, ◌≡◌, ◌≢◌, ◌⊎◌, ◌≤◌, ◌<◌, ◌^◌, Ok, T, true}
use Rattle.std.specs.Str.{IsUtf8}
use Rattle.base64.specs.GeneralPurpose.{IsBytes}
use Rattle.fe2o3_scram.specs.declared.hmac.ScramVersion.{ScramVersion}
use Rattle.fe2o3_scram.specs.declared.scram_messages.server_rules.ServerRules.{ServerRules}
use Rattle.fe2o3_scram.specs.ActingRights.{Rights, may_act}
use Rattle.fe2o3_scram.specs.ServerFirst.{server_first_of, Client, ServerFirst, ReadsServerFirst, client_of}
use Rattle.fe2o3_scram.specs.ClientFinal.{Answer, answer_by, keys_for, Server, server_of, ClientFinal, ReadsClientFinal, without_proof_with}
use Rattle.fe2o3_scram.specs.ClientFirst.{client_first_bare, client_first_with, ReadsClientFirst}
use Rattle.fe2o3_scram.specs.ChannelBinding.{ClientHeader, HoldsHeaderBytes, TakesHeader, authzid_text, cbind_input, expected_header, header_of, is_strict}
use Rattle.fe2o3_scram.specs.ClientKeys.{keys_of}
use Rattle.fe2o3_scram.specs.ClientSecret.{Secret, Password, Keys, Both}
use Rattle.fe2o3_scram.specs.declared.client_secret.IterationLimits.{IterationLimits}
use Rattle.fe2o3_scram.specs.Credentials.{Record, record_of}
use Rattle.fe2o3_scram.specs.Grammar.{is_nonce, is_value}
use Rattle.fe2o3_scram.specs.Keys.{auth_message, client_key, client_proof}
use Rattle.fe2o3_scram.specs.Pbkdf2Hi.{salted_of}
use Rattle.fe2o3_scram.specs.ServerFinal.{server_final_of, ReadsServerFinal}
use Rattle.fe2o3_scram.specs.Passwords.{IsNormal, password_bytes}
use Rattle.fe2o3_scram.specs.Texts.{NoComma}

-- a client's secret opens the record of a password with this salt and this count (RFC 5802, section 3): it is that
-- password, in normal form, or its keys with that salt and that count; of both, the password opens a record of another
-- salt or count than the keys have
abbrev pub OpensRecord : ScramVersion → Secret → List ℕ → List ℕ → ℕ → Type 0
OpensRecord version (Password own) password salt count = (password_bytes own ≡ password) × IsNormal own
OpensRecord version (Keys keys) password salt count = keys ≡ keys_of version password salt count
OpensRecord version (Both own keys) password salt count =
    (keys ≡ keys_of version password salt count)
    ⊎ (((salt ≢ keys.salt) ⊎ (count ≢ keys.count)) × (password_bytes own ≡ password) × IsNormal own)

-- the start of an exchange (RFC 5802, section 5): the client's header, its user, secret and limits, whether
-- it is set to be strict, what the server accepts, who may act as whom, the password, the salt and the count of the
-- record, and the nonces
pub record Exchange : Type 0 where
  pub version : ScramVersion
  pub header : ClientHeader
  pub rules : ServerRules
  pub rights : Rights
  pub user : List ℕ
  pub secret : Secret
  pub limits : IterationLimits
  pub strict : Bool
  pub password : List ℕ
  pub salt : List ℕ
  pub count : ℕ
  pub client_nonce : List ℕ
  pub server_nonce : List ℕ

-- the channel binding that the server expects after the client's header
abbrev pub binding_expected : Exchange → List ℕ
binding_expected x = cbind_input (expected_header x.rules.channels (header_of x.header))

-- the server accepts the header, the user may act for the identity that it names, the secret opens the record, the
-- client accepts the count, and names, nonces and salts are what the code holds; a strict side receives a name and
-- nonces that the grammar allows (RFC 5802, section 7)
pub record IsSound (x : Exchange) : Type 0 where
  pub header : TakesHeader x.rules (header_of x.header)
  pub right : may_act x.rights x.user x.header.acts_for ≡ true
  pub channel : binding_expected x ≡ cbind_input x.header
  pub bytes : HoldsHeaderBytes x.header
  pub opens : OpensRecord x.version x.secret x.password x.salt x.count
  pub some : 1 ≤ x.count
  pub least : x.limits.min_iterations ≤ x.count
  pub within : x.count ≤ x.limits.max_iterations
  pub limit : x.limits.max_iterations < 2 ^ 32
  pub salt : IsBytes x.salt
  pub user : IsUtf8 x.user
  pub identity : IsUtf8 (authzid_text x.header.acts_for)
  pub client_text : IsUtf8 x.client_nonce
  pub server_text : IsUtf8 x.server_nonce
  pub client_plain : NoComma x.client_nonce
  pub server_plain : NoComma x.server_nonce
  pub name : T x.rules.strict → is_value x.user ≡ true
  pub client_printable : T x.rules.strict → is_nonce x.client_nonce ≡ true
  pub server_printable : T x.strict → is_nonce x.server_nonce ≡ true

-- the nonce of both sides
abbrev pub nonce_in : Exchange → List ℕ
nonce_in x = x.client_nonce ++ x.server_nonce

-- the client-first message of the exchange, without its header
abbrev pub bare_in : Exchange → List ℕ
bare_in x = client_first_bare x.user x.client_nonce

-- the record that the server stores
abbrev pub record_in : Exchange → Record
record_in x = record_of x.version x.password x.salt x.count

-- the server-first message of the exchange
abbrev pub first_in : Exchange → List ℕ
first_in x = server_first_of (nonce_in x) (record_in x)

-- what the client knows when it reads the server-first message
abbrev pub client_in : Exchange → Client
client_in x = client_of x.client_nonce x.secret x.limits x.header x.strict

-- the values that the server-first message names
abbrev pub named_in : Exchange → ServerFirst
named_in x = record { nonce = nonce_in x; salt = x.salt; count = x.count }

-- the client-final message, and the signature that the client waits for
abbrev pub answer_in : Exchange → Answer
answer_in x = answer_by (keys_for x.version x.secret (named_in x)) (bare_in x) (first_in x)
    (without_proof_with x.header (nonce_in x))

-- what the server knows when it reads the client-final message
abbrev pub server_in : Exchange → Server
server_in x = server_of x.version (expected_header x.rules.channels (header_of x.header)) (is_strict x.rules) (bare_in x)
    (first_in x) (nonce_in x) (record_in x) (may_act x.rights x.user x.header.acts_for)

-- the values that the client-final message names
abbrev pub final_in : Exchange → ClientFinal
final_in x = record {
  without = without_proof_with x.header (nonce_in x);
  proof =
      client_proof x.version (client_key x.version (salted_of x.version x.password x.salt x.count))
      (auth_message (bare_in x) (first_in x) (without_proof_with x.header (nonce_in x)));
}

-- each side accepts what the other wrote (RFC 5802, section 5)
pub record Succeeds (x : Exchange) : Type 0 where
  pub client_first : ReadsClientFirst x.rules (client_first_with (header_of x.header) x.user x.client_nonce)
      (Ok (record { header = header_of x.header; user = x.user; nonce = x.client_nonce; bare = bare_in x }))
  pub server_first : ReadsServerFirst (client_in x) (first_in x) (Ok (named_in x))
  pub client_final : ReadsClientFinal (server_in x) (answer_in x).message (Ok (final_in x))
  pub server_final : ReadsServerFinal (client_in x).strict (answer_in x).signature
      (server_final_of (server_in x) (final_in x)) (Ok tt)
