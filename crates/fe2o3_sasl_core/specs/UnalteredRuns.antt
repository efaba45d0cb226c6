-- A login whose frame bodies arrive as they were sent (RFC 5802, section 5; AMQP 1.0, part 5, section 5.3.2).
use Rattle.std.specs.Prelude.{◌≡◌, ◌≢◌, ◌≤◌, ℕ, Bool, Option, Some, None, List, [], ◌∷◌, ◌++◌, T, true, slice_get}
use Rattle.fe2o3_sasl_wire.specs.declared.amqp_types.SaslCode.TheVariants as outcomes
use Rattle.fe2o3_sasl_wire.specs.declared.sasl_frames.error.Error.TheVariants as faults
use Rattle.fe2o3_sasl_wire.specs.SaslFrames.{IsBytes, canonical}
use Rattle.fe2o3_sasl_wire.specs.SaslFrames as frames
use Rattle.fe2o3_scram.specs.ActingRights.{may_act}
use Rattle.fe2o3_scram.specs.Texts.{base64_text}
use Rattle.fe2o3_scram.specs.Grammar.{is_nonce, is_value}
use Rattle.fe2o3_scram.specs.ChannelBinding.{TakesHeader, cbind_data, header_of, expected_header}
use Rattle.fe2o3_sasl_core.specs.ClientHistory.{ClientHistory}
use Rattle.fe2o3_scram.specs.Credentials.{Provider, record_of}
use Rattle.fe2o3_sasl_core.specs.Events.{Given, Login, login_mechanism, IsLogin, ServerSays, Challenged, Concluded, Failed, ClientSays, Started, Answered, Reported, Refused, login_header}
use Rattle.fe2o3_scram.specs.Exchanges.{OpensRecord}
use Rattle.fe2o3_sasl_core.specs.ServerHistory.{ServerHistory}
use Rattle.fe2o3_sasl_core.specs.TwoSides.{Sides, sides_of}
use Rattle.fe2o3_sasl_core.specs.Verdicts.{Verdict, Agreed, Finding, OfVerifier, OfProof, Audits}
use Rattle.fe2o3_sasl_core.specs.Complete.{ClientComplete, ServerComplete}
use Rattle.fe2o3_sasl_core.specs.declared.sasl_profile.error.ProfileError.TheVariants.{Frame}

-- the body that a client's reply sends
abbrev pub client_body : Option ClientSays → Option (List ℕ)
client_body (Some (Started body)) = Some body
client_body (Some (Answered body)) = Some body
client_body says = None

-- the body that a server's reply sends
abbrev pub server_body : Option ServerSays → Option (List ℕ)
server_body (Some (Challenged body)) = Some body
server_body (Some (Concluded code body)) = Some body
server_body says = None

-- the body of the other side, if it sent one, arrives as it was sent
abbrev pub Arrives : Option (List ℕ) → List ℕ → Type 0
Arrives None body = Unit {0}
Arrives (Some sent) body = body ≡ sent

-- the nonces of both sides are written with printable characters where the other side is strict (RFC 5802, section 7), as
-- each nonce of 32 bytes is
abbrev pub ArePrintable : Sides → List ℕ → List ℕ → Type 0
ArePrintable sides mine theirs = (T sides.provider.rules.strict → is_nonce (base64_text mine) ≡ true)
    × (T sides.login.strict → is_nonce (base64_text theirs) ≡ true)

-- each nonce of these events is, if the other side is strict
abbrev pub NoncesArePrintable : Bool → List Given → Type 0
NoncesArePrintable strict events = T strict → (k : ℕ) (event : Given) → slice_get events k ≡ Some event
    → is_nonce (base64_text event.nonce) ≡ true

-- three events of the client and two of the server: the list of the one mechanism, and from then on what the other side
-- sent, if it sent a body
pub record UnalteredRun (sides : Sides) : Type 0 where
  pub offer : Given
  pub challenge : Given
  pub outcome : Given
  pub init : Given
  pub response : Given
  pub printable : ArePrintable sides offer.nonce init.nonce
  pub client_events : sides.client_events ≡ offer ∷ challenge ∷ outcome ∷ []
  pub server_events : sides.server_events ≡ init ∷ response ∷ []
  pub offered : canonical (frames.Mechanisms (login_mechanism sides.login ∷ [])) ≡ Some offer.body
  pub started : Arrives (client_body (slice_get sides.client_replies 0)) init.body
  pub challenged : Arrives (server_body (slice_get sides.server_replies 0)) challenge.body
  pub answered : Arrives (client_body (slice_get sides.client_replies 1)) response.body
  pub concluded : Arrives (server_body (slice_get sides.server_replies 1)) outcome.body

-- no allocation fails, and nothing is too large
pub record Suffices (sides : Sides) : Type 0 where
  pub client : ClientComplete sides.client_replies
  pub server : ServerComplete sides.server_replies
  pub client_small : (k : ℕ) → slice_get sides.client_replies k ≢ Some (Refused (Frame faults.TooLarge))
  pub server_small : (k : ℕ) → slice_get sides.server_replies k ≢ Some (Failed faults.TooLarge)

-- the provider holds the record of a password with this salt and this count, which the client's secret opens and whose
-- count it accepts; and it accepts the client's GS2 header and has the data of the client's channel, as each provider
-- without channels does of each client without one; the user may act for the identity that the client names, as each may
-- for itself (RFC 4422, section 2); a strict provider accepts the user's name (RFC 5802, section 7)
pub record HoldsLogin (sides : Sides) (password salt : List ℕ) (count : ℕ) : Type 0 where
  pub version : sides.provider.version ≡ sides.login.version
  pub header : TakesHeader sides.provider.rules (header_of (login_header sides.login))
  pub channel : cbind_data sides.login.channel
      ≡ cbind_data (expected_header sides.provider.rules.channels (header_of (login_header sides.login))).channel
  pub identity : may_act sides.provider.rights sides.login.user (header_of (login_header sides.login)).acts_for ≡ true
  pub name : T sides.provider.rules.strict → is_value sides.login.user ≡ true
  pub stored : sides.provider.records sides.login.user
      ≡ Some (record_of sides.login.version password salt count)
  pub bytes : IsBytes salt
  pub opens : OpensRecord sides.login.version sides.login.secret password salt count
  pub some : 1 ≤ count
  pub least : sides.login.limits.min_iterations ≤ count
  pub within : count ≤ sides.login.limits.max_iterations

-- the values on which both sides agree
abbrev pub agreed_verdict : {sides : Sides} → UnalteredRun sides → List ℕ → ℕ → Verdict
agreed_verdict {sides} run salt count =
    let client_nonce = base64_text run.offer.nonce in
    Agreed sides.login.user client_nonce
    (Some (record { full_nonce = client_nonce ++ base64_text run.init.nonce; salt = salt; iterations = count }))

-- an audit finds the client's Ok and its answer with the server's Ok, and nothing else; in both the sides agree
abbrev pub agreed_findings : {sides : Sides} → UnalteredRun sides → List ℕ → ℕ → List Finding
agreed_findings run salt count =
    record { kind = OfVerifier; client = 2; server = 1; verdict = agreed_verdict run salt count }
    ∷ record { kind = OfProof; client = 1; server = 1; verdict = agreed_verdict run salt count } ∷ []

-- the client starts, answers and reports Ok, the server challenges and concludes with Ok, each in the body that
-- arrived, and these are the findings
pub record LogsIn {sides : Sides} (run : UnalteredRun sides) (salt : List ℕ) (count : ℕ) : Type 0 where
  pub text : List ℕ
  pub client : sides.client_replies
      ≡ Started run.init.body ∷ Answered run.response.body ∷ Reported outcomes.Ok (Some text) ∷ []
  pub server : sides.server_replies
      ≡ Challenged run.challenge.body ∷ Concluded outcomes.Ok run.outcome.body ∷ []
  pub audit : Audits sides (agreed_findings run salt count)

-- an unaltered run against a record that the client's secret opens logs in, for all nonces, if no allocation fails and
-- nothing is too large
abbrev pub LogsInUnaltered : Sides → Type 0
LogsInUnaltered sides = (password salt : List ℕ) (count : ℕ) (run : UnalteredRun sides)
    → HoldsLogin sides password salt count → Suffices sides → LogsIn run salt count

-- what an unaltered run gives a client's history: it logs in with every server
abbrev pub ClientLogsIn : Login → List Given → List ClientSays → Type 0
ClientLogsIn login events replies = (provider : Provider) (server_events : List Given)
    (server_replies : List ServerSays) → ServerHistory provider server_events server_replies
    → LogsInUnaltered (sides_of login events replies provider server_events server_replies)

-- what an unaltered run gives a server's history: every client logs in
abbrev pub ServerLogsIn : Provider → List Given → List ServerSays → Type 0
ServerLogsIn provider events replies = (login : Login) (client_events : List Given)
    (client_replies : List ClientSays) → IsLogin login → ClientHistory login client_events client_replies
    → LogsInUnaltered (sides_of login client_events client_replies provider events replies)
