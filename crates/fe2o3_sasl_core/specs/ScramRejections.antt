-- Why a server of SCRAM rejects a message, for its log (RFC 5802, sections 5.1, 6 and 7). The reason of a failed login
-- depends on the records that the server has. The replies and the HMAC values of a server depend on its state only, which
-- does not tell a mock record from another one.
use Rattle.std.specs.Prelude.{◌≡◌, ◌⊎◌, ◌++◌, ◌&&◌, ◌||◌, ℕ, Bool, not, is_some, if◌then◌else◌, nat_eq, Option, Some, None, List, [], codes, Ok, Err}
use Rattle.std.specs.List.{list_any, starts_with}
use Rattle.fe2o3_scram.specs.declared.channel_binding.ChannelBindings.{ChannelBindings}
use Rattle.fe2o3_scram.specs.declared.channel_binding.ChannelData.{ChannelData}
use Rattle.fe2o3_scram.specs.declared.channel_binding.ChannelKind.{ChannelKind}
use Rattle.fe2o3_scram.specs.declared.channel_binding.ChannelKind.TheVariants.{TlsUnique, TlsServerEndPoint, TlsExporter}
use Rattle.fe2o3_scram.specs.declared.scram_messages.channel_binding_flag.ChannelBindingFlag.TheVariants.{Required}
use Rattle.fe2o3_scram.specs.declared.scram_messages.error.ServerScramErrorKind.{ServerScramErrorKind}
use Rattle.fe2o3_scram.specs.declared.scram_messages.error.ServerScramErrorKind.TheVariants.{AuthenticationFailed, CannotParseGs2Header, IllegalAuthenticatorState, InvalidChannelBinding}
use Rattle.fe2o3_scram.specs.declared.scram_messages.server_rules.ServerRules.{ServerRules}
use Rattle.fe2o3_scram.specs.ActingRights.{Rights, may_act}
use Rattle.fe2o3_scram.specs.ChannelBinding.{flag_text}
use Rattle.fe2o3_scram.specs.ClientFinal.{ReadsClientFinal}
use Rattle.fe2o3_scram.specs.ClientFirst.{ClientFirst, ReadsClientFirst}
use Rattle.fe2o3_scram.specs.Credentials.{Provider, Records, Store, record_at}
use Rattle.fe2o3_scram.specs.ScramServer.{ServerState, ServerFirstSent, open_challenge, server_against}
use Rattle.fe2o3_scram.specs.ServerFirst.{ServerChallenge}
use Rattle.fe2o3_sasl_core.specs.declared.rejection.Rejection.{Rejection}
use Rattle.fe2o3_sasl_core.specs.declared.rejection.Rejection.TheVariants as reasons

-- ---- the user

-- what a server of SCRAM knows of users beside its state: the records for its hash, without mock records, and the records
-- for each hash that the server has records for, if they are known
pub record KnownUsers : Type 0 where
  pub own : Records
  pub all : List Records

-- what a server over this store knows: of other hashes nothing
abbrev pub known_by : Store → KnownUsers
known_by store = record { own = store.records; all = [] }

-- whether a user has a record
abbrev pub has_record : Records → List ℕ → Bool
has_record records name = is_some (record_at records name)

-- the reason for a user without a record for the hash of the exchange: it has one for another hash, or none at all
abbrev pub reason_of_unknown : List Records → List ℕ → Rejection
reason_of_unknown all name =
    if list_any (λ (records : Records). has_record records name) all then reasons.NoRecordForHash else reasons.UnknownUser

-- the reason of a failed login: the user has no record for the hash, so that the challenge was made with a mock record; or
-- the user may not act for the identity, whatever the proof is; or otherwise the proof is wrong
abbrev pub reason_of_failure : KnownUsers → Rights → ServerChallenge → Rejection
reason_of_failure known rights challenge = if has_record known.own challenge.user
    then if may_act rights challenge.user challenge.header.acts_for then reasons.WrongProof else reasons.NoRight
    else reason_of_unknown known.all challenge.user

-- ---- the channel

-- whether a text begins with these characters
abbrev pub begins : List ℕ → List ℕ → Bool
begins text prefix = starts_with nat_eq text prefix

-- whether a text begins with a flag of channel binding, of any kind (RFC 5802, section 7, `gs2-cbind-flag`)
abbrev pub has_flag : List ℕ → Bool
has_flag text = begins text (codes "n,") || (begins text (codes "y,") || begins text (codes "p="))

-- whether a text begins with this kind of channel binding, of which the server has data
abbrev pub has_flag_of : List ℕ → ChannelKind → Option ChannelData → Bool
has_flag_of text kind known = is_some known && begins text (flag_text (Required kind) ++ codes ",")

-- whether a text begins with a flag that a server accepts (RFC 5802, section 6; `AcceptsFlag`)
abbrev pub has_accepted_flag : Option ChannelBindings → Bool → List ℕ → Bool
has_accepted_flag None accept_y text = begins text (codes "n,") || (accept_y && begins text (codes "y,"))
has_accepted_flag (Some channels) accept_y text = has_flag_of text TlsUnique channels.tls_unique
    || (has_flag_of text TlsServerEndPoint channels.tls_server_end_point
    || has_flag_of text TlsExporter channels.tls_exporter)

-- whether a client-first message begins with a flag that the server does not accept
abbrev pub has_other_flag : ServerRules → List ℕ → Bool
has_other_flag rules text = has_flag text && not (has_accepted_flag rules.channels rules.accept_cbind_flag_y text)

-- ---- the messages

-- the reason for the error of a client-first message: a fault of the header is one of the channel if the server does not
-- accept the flag
abbrev pub reason_of_first : ServerRules → List ℕ → ServerScramErrorKind → Rejection
reason_of_first rules text CannotParseGs2Header =
    if has_other_flag rules text then reasons.Channel else reasons.Scram CannotParseGs2Header
reason_of_first rules text kind = reasons.Scram kind

-- SCRAM rejects a client-first message (RFC 5802, section 5.1) for the first error that applies, or for a user without
-- a record
abbrev pub FirstRejected : List Records → Provider → List ℕ → Rejection → Type 0
FirstRejected all provider text reason =
    ((kind : ServerScramErrorKind) × ReadsClientFirst provider.rules text (Err kind)
    × (reason ≡ reason_of_first provider.rules text kind))
    ⊎ ((client : ClientFirst) × ReadsClientFirst provider.rules text (Ok client)
    × (provider.records client.user ≡ None) × (reason ≡ reason_of_unknown all client.user))

-- the reason of a failed login by the challenge that is open; without one no login fails by its proof
abbrev pub reason_of_open : KnownUsers → Rights → Option ServerChallenge → Rejection
reason_of_open known rights None = reasons.Scram AuthenticationFailed
reason_of_open known rights (Some challenge) = reason_of_failure known rights challenge

-- the reason for the error of a client-final message (RFC 5802, section 5.1): a failed login has its own reason, and other
-- data than those of the channel, or another GS2 header, are a fault of the channel
abbrev pub reason_of_final : KnownUsers → Rights → ServerState → ServerScramErrorKind → Rejection
reason_of_final known rights state AuthenticationFailed = reason_of_open known rights (open_challenge state)
reason_of_final known rights state InvalidChannelBinding = reasons.Channel
reason_of_final known rights state kind = reasons.Scram kind

-- SCRAM rejects a client-final message for the first error that applies (RFC 5802, section 5.1), and every message if
-- no challenge is open
abbrev pub FinalFault : ServerState → Provider → List ℕ → ServerScramErrorKind → Type 0
FinalFault (ServerFirstSent challenge stored) provider text kind =
    ReadsClientFinal (server_against provider.version provider.rules provider.rights challenge stored) text (Err kind)
FinalFault state provider text kind = kind ≡ IllegalAuthenticatorState

-- why SCRAM rejects a client-final message
abbrev pub FinalRejected : KnownUsers → Provider → ServerState → List ℕ → Rejection → Type 0
FinalRejected known provider state text reason = (kind : ServerScramErrorKind) × FinalFault state provider text kind
    × (reason ≡ reason_of_final known provider.rights state kind)
