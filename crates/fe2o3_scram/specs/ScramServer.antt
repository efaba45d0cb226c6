-- A SCRAM server from message to message (RFC 5802, section 5).
use Rattle.std.specs.Prelude.{ℕ, Bool, List, Vec, ◌≡◌, ◌≤◌, ◌+◌, Option, Some, None, Result, Ok, Err, option_map}
use Rattle.std.specs.declared.alloc.Global.{Global}
use Rattle.std.specs.String.{string_bytes}
use Rattle.fe2o3_scram.specs.declared.scram_messages.error.ServerScramErrorKind.{ServerScramErrorKind}
use Rattle.fe2o3_scram.specs.declared.scram_messages.error.ServerScramErrorKind.TheVariants.{IllegalAuthenticatorState, OutOfMemory}
use Rattle.fe2o3_scram.specs.declared.hmac.ScramVersion.{ScramVersion}
use Rattle.fe2o3_scram.specs.declared.scram_messages.server_rules.ServerRules.{ServerRules}
use Rattle.fe2o3_scram.specs.declared.scram_server.ScramAuthenticatorState.{ScramAuthenticatorState}
use Rattle.fe2o3_scram.specs.declared.scram_server.ScramAuthenticatorState.TheVariants.{Initial as CodeInitial, ServerFirstSent as CodeServerFirstSent, ServerFinalSent as CodeServerFinalSent}
use Rattle.fe2o3_scram.specs.ActingRights.{Rights, may_act}
use Rattle.fe2o3_scram.specs.ChannelBinding.{expected_header, is_strict}
use Rattle.fe2o3_scram.specs.Texts.{base64_text}
use Rattle.fe2o3_scram.specs.ClientFirst.{ReadsClientFirst}
use Rattle.fe2o3_scram.specs.ServerFirst.{ServerChallenge, OpenExchange, AnswersClientFirst}
use Rattle.fe2o3_scram.specs.Credentials.{Record, Store, Provider, serving, with_rights}
use Rattle.fe2o3_scram.specs.MockSettings.{MockSettings, mocking}
use Rattle.fe2o3_scram.specs.ClientFinal.{ReachesBase64, Server, server_of}
use Rattle.fe2o3_scram.specs.ServerFinal.{AnswersClientFinal, FinalCosts}
use Rattle.fe2o3_scram.specs.declared.scram_server.ScramAuthenticator.{ScramAuthenticator}
use Rattle.fe2o3_scram.specs.declared.scram_server.mock_users.MockUsers.{MockUsers}
use Rattle.fe2o3_scram.specs.declared.scram_server.open_challenge.OpenChallenge.{OpenChallenge}

-- what a server has sent last (RFC 5802, section 5): an open challenge, made with this record of its user, or the end of
-- the login of a user, who acts for an identity, or for itself if it named none
pub data ServerState : Type 0 where
  Initial : ServerState
  ServerFirstSent : (challenge : ServerChallenge) → (stored : Record) → ServerState
  ServerFinalSent : (user : List ℕ) → (acts_for : Option (List ℕ)) → ServerState

-- the user who has logged in, if no later challenge has reopened the login
abbrev pub logged_in : ServerState → Option (List ℕ)
logged_in (ServerFinalSent user acts_for) = Some user
logged_in state = None

-- the identity that this user acts for, if it named one (RFC 4422, section 2)
abbrev pub logged_in_for : ServerState → Option (List ℕ)
logged_in_for (ServerFinalSent user acts_for) = acts_for
logged_in_for state = None

-- the challenge that is open
abbrev pub open_challenge : ServerState → Option ServerChallenge
open_challenge (ServerFirstSent challenge stored) = Some challenge
open_challenge state = None

-- the record that the open challenge was made with
abbrev pub open_record : ServerState → Option Record
open_record (ServerFirstSent challenge stored) = Some stored
open_record state = None

-- a server's open challenge, its record, the user who has logged in, and the identity that it acts for are all of its state
abbrev pub StatesAreReported : Type 0
StatesAreReported = (state other : ServerState) → open_challenge state ≡ open_challenge other
    → open_record state ≡ open_record other → logged_in state ≡ logged_in other → logged_in_for state ≡ logged_in_for other
    → state ≡ other

-- the answer to a client-first message (RFC 5802, section 5): the server-first message and the exchange that it opens, with
-- the record of the user; nothing to an unknown user; or the first error
abbrev pub BeginsExchange : Provider → List ℕ → List ℕ → Result (Option (List ℕ × OpenExchange)) ServerScramErrorKind
    → Type 0
BeginsExchange provider nonce text (Ok (Some opened)) =
    AnswersClientFirst provider (base64_text nonce) text (Ok (Some opened.1.challenge))
    × (opened.0 ≡ opened.1.challenge.first)
    × (provider.records opened.1.challenge.user ≡ Some opened.1.stored)
BeginsExchange provider nonce text (Ok None) = AnswersClientFirst provider (base64_text nonce) text (Ok None)
BeginsExchange provider nonce text (Err fault) = AnswersClientFirst provider (base64_text nonce) text (Err fault)

-- what a server answers to a client-first message in any state (RFC 5802, section 5), and its state after it: a
-- challenge replaces an earlier one, an unknown user and an error change nothing
abbrev pub ChallengesFrom : ServerState → Provider → List ℕ → List ℕ → Result (Option (List ℕ)) ServerScramErrorKind
    → ServerState → Type 0
ChallengesFrom state provider nonce text (Ok (Some message)) next =
    (challenge : ServerChallenge) × AnswersClientFirst provider (base64_text nonce) text (Ok (Some challenge))
    × (message ≡ challenge.first) × ((stored : Record) × (provider.records challenge.user ≡ Some stored)
    × (next ≡ ServerFirstSent challenge stored))
ChallengesFrom state provider nonce text (Ok None) next =
    AnswersClientFirst provider (base64_text nonce) text (Ok None) × (next ≡ state)
ChallengesFrom state provider nonce text (Err fault) next =
    AnswersClientFirst provider (base64_text nonce) text (Err fault) × (next ≡ state)

-- the HMAC values of a server's answer to a client-first message, as a meter shows them before and after: those of the
-- look-up if the message is read, none if it is rejected, and from none to that many if memory ran out for one that is
-- read
abbrev pub FirstCosts : {A : Type 0} → Provider → List ℕ → Result A ServerScramErrorKind → ℕ → ℕ → Type 0
FirstCosts provider text (Ok answer) before after = after ≡ before + provider.look_up_cost
FirstCosts provider text (Err OutOfMemory) before after = (before ≤ after) × (after ≤ before + provider.look_up_cost)
    × ((fault : ServerScramErrorKind) → ReadsClientFirst provider.rules text (Err fault) → after ≡ before)
FirstCosts provider text (Err fault) before after = after ≡ before

-- what a server knows when it reads a client-final message, from an open challenge and the record that it was made with
abbrev pub server_against : ScramVersion → ServerRules → Rights → ServerChallenge → Record → Server
server_against version rules rights challenge stored = server_of version (expected_header rules.channels challenge.header)
    (is_strict rules) challenge.bare challenge.first challenge.nonce stored
    (may_act rights challenge.user challenge.header.acts_for)

-- what a server knows when it reads a client-final message in an open exchange, by whether the user has the right
abbrev pub server_for : ScramVersion → ServerRules → Bool → OpenExchange → Server
server_for version rules may_act exchange = server_of version (expected_header rules.channels exchange.challenge.header)
    (is_strict rules) exchange.challenge.bare exchange.challenge.first exchange.challenge.nonce exchange.stored may_act

-- what a server answers to a client-final message (RFC 5802, section 5), and its state after it: an accepted one closes
-- the challenge and logs its user in, for the identity of its header, a rejected one changes nothing, and without an
-- open challenge it is rejected unread
abbrev pub ConcludesFrom : ServerState → ScramVersion → ServerRules → Rights → List ℕ
    → Result (Option (List ℕ)) ServerScramErrorKind → ServerState → Type 0
ConcludesFrom (ServerFirstSent challenge stored) version rules rights text (Ok (Some message)) next =
    AnswersClientFinal (server_against version rules rights challenge stored) text (Ok message)
    × (next ≡ ServerFinalSent challenge.user challenge.header.acts_for)
ConcludesFrom (ServerFirstSent challenge stored) version rules rights text (Err fault) next =
    AnswersClientFinal (server_against version rules rights challenge stored) text (Err fault)
    × (next ≡ ServerFirstSent challenge stored)
ConcludesFrom state version rules rights text (Ok message) next = ⊥
ConcludesFrom state version rules rights text (Err fault) next = (fault ≡ IllegalAuthenticatorState) × (next ≡ state)

-- a server in this state allocates for its answer to a client-final message (RFC 5802, section 5): with an open
-- challenge it does if it reaches a base64 text, and otherwise never
abbrev pub ReachesBase64In : ServerState → ServerRules → List ℕ → Type 0
ReachesBase64In (ServerFirstSent challenge stored) rules text =
    ReachesBase64 (expected_header rules.channels challenge.header) challenge.nonce text
ReachesBase64In state rules text = ⊥

-- the HMAC values of a server's answer to a client-final message (RFC 5802, section 3), as a meter shows them before
-- and after the call: those of the proof and the signature if a challenge is open, and otherwise none
abbrev pub FinalCostsFrom : {A : Type 0} → ServerState → ScramVersion → ServerRules → Rights → List ℕ
    → Result A ServerScramErrorKind → ℕ → ℕ → Type 0
FinalCostsFrom (ServerFirstSent challenge stored) version rules rights text result before after =
    FinalCosts (server_against version rules rights challenge stored) text result before after
FinalCostsFrom state version rules rights text result before after = after ≡ before

-- the state that the code's state is
abbrev pub server_state_of : ScramAuthenticatorState → ServerState
server_state_of CodeInitial = Initial
server_state_of (CodeServerFirstSent exchange) = ServerFirstSent exchange.challenge exchange.stored
server_state_of (CodeServerFinalSent user acts_for) = ServerFinalSent (string_bytes user) (option_map string_bytes acts_for)

-- the challenge with these plain texts
abbrev pub challenge_kept : OpenChallenge → ServerChallenge
challenge_kept kept = record {
  user = kept.username.now;
  header = record { flag = kept.header; acts_for = option_map (λ name. name.now) kept.acts_for };
  bare = kept.client_first_message_bare.now;
  first = kept.server_first_message.now;
  nonce = kept.client_server_nonce.now;
}

-- the message and the exchange of a value
abbrev pub opened_by : Vec ℕ Global × OpenExchange → List ℕ × OpenExchange
opened_by made = (made.0.items, made.1)

-- lent settings of mock authentication
abbrev pub lent_mock : MockUsers → MockSettings
lent_mock users = record {
  version = users.scram_version;
  secret = users.secret.now;
  salt_len = users.salt_len;
  count = users.iterations;
}

-- the store that a server holds
abbrev pub provider_in : {C : Type 0} → ScramAuthenticator C → C
provider_in authenticator = authenticator.credentials

-- what a server accepts in a client's messages (RFC 5802, sections 6 and 7)
abbrev pub rules_in : {C : Type 0} → ScramAuthenticator C → ServerRules
rules_in authenticator = authenticator.rules

-- a server's settings of mock authentication, if it has them
abbrev pub mock_in : {C : Type 0} → ScramAuthenticator C → Option MockSettings
mock_in authenticator = authenticator.mock

-- who may act as whom at a server
abbrev pub rights_in : {C : Type 0} → ScramAuthenticator C → Rights
rights_in authenticator = authenticator.rights

-- the provider that a server answers by, for this meaning of its store
abbrev pub served_by : {C : Type 0} → (C → Store) → ScramAuthenticator C → Provider
served_by meaning authenticator = with_rights (rights_in authenticator)
    (mocking (mock_in authenticator) (serving (rules_in authenticator) (meaning (provider_in authenticator))))

-- the state of a server
abbrev pub state_in : {C : Type 0} → ScramAuthenticator C → ServerState
state_in authenticator = server_state_of authenticator.state
