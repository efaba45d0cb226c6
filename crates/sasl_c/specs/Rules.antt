-- What a SCRAM server accepts, as a struct of C (RFC 5802, sections 6 and 7).
use Rattle.std.specs.Prelude.{◌≡◌, ◌≢◌, ◌<◌, ◌⊎◌, ℕ, true, nat_eq, if◌then◌else◌, List, take, Option, Some, None, Result, Ok, Err}
use Rattle.fe2o3_scram.specs.declared.channel_binding.ChannelBindings.{ChannelBindings}
use Rattle.fe2o3_scram.specs.declared.channel_binding.ChannelData.{ChannelData}
use Rattle.fe2o3_scram.specs.declared.scram_messages.server_rules.ServerRules.{ServerRules}
use Rattle.fe2o3_scram.specs.Hmac.{zero_filled}
use Rattle.sasl_c.specs.declared.rules.ScramRules.{ScramRules}
use Rattle.sasl_c.specs.declared.rules.ServerChannels.{ServerChannels}
use Rattle.sasl_c.specs.declared.status.Status.{Status}
use Rattle.sasl_c.specs.declared.status.Status.TheVariants as statuses
use Rattle.sasl_c.specs.declared.status.WriteError.{WriteError}
use Rattle.sasl_c.specs.declared.status.WriteError.TheVariants.{Other}
use Rattle.sasl_c.specs.Client.{is_set}

-- the data of a kind of channel: the first bytes of an array, or no data if there are none
abbrev pub data_in : ℕ → List ℕ → Option ChannelData
data_in len array = if nat_eq len 0 then None
    else Some (record { bytes = zero_filled 64 (take len array); len = len })

-- the data of each kind, by a struct; a kind without data is not accepted
abbrev pub channels_in : ServerChannels → ChannelBindings
channels_in channels = record {
  tls_unique = data_in channels.tls_unique_len channels.tls_unique;
  tls_server_end_point = data_in channels.tls_server_end_point_len channels.tls_server_end_point;
  tls_exporter = data_in channels.tls_exporter_len channels.tls_exporter;
}

-- the channels of a struct, if the server binds any; a server that binds channels does even if it has no data of any kind,
-- and then it accepts no client by a mechanism with -PLUS
abbrev pub channels_of : ServerChannels → Option ChannelBindings
channels_of channels = if is_set channels.binds_channel then Some (channels_in channels) else None

-- the rules that a struct means
abbrev pub rules_of : ScramRules → ServerRules
rules_of rules = record {
  accept_cbind_flag_y = is_set rules.accept_cbind_flag_y;
  strict = is_set rules.strict;
  reject_misplaced = is_set rules.reject_misplaced;
  channels = channels_of rules.channels;
  accept_authzid = is_set rules.accept_authzid;
}

-- data of a kind have more bytes than the library takes
abbrev pub HasLongKind : ServerChannels → Type 0
HasLongKind channels = (64 < channels.tls_unique_len) ⊎ (64 < channels.tls_server_end_point_len)
    ⊎ (64 < channels.tls_exporter_len)

-- the server binds channels, and data of a kind are too long
abbrev pub HasLongData : ServerChannels → Type 0
HasLongData channels = (channels.binds_channel ≢ 0) × HasLongKind channels

-- the struct means these channels, or it has data that are too long
abbrev pub ShowsChannels : ServerChannels → Result (Option ChannelBindings) Status → Type 0
ShowsChannels channels (Ok shown) = (shown ≡ channels_of channels) × ¬ HasLongData channels
ShowsChannels channels (Err status) = (status ≡ statuses.ChannelDataLength) × HasLongData channels

-- the struct means these rules, or it has data that are too long
abbrev pub ShowsRules : ScramRules → Result ServerRules Status → Type 0
ShowsRules rules (Ok shown) = (shown ≡ rules_of rules) × ¬ HasLongData rules.channels
ShowsRules rules (Err status) = (status ≡ statuses.ChannelDataLength) × HasLongData rules.channels

-- what a call does by the rules of a struct: if data are too long, it returns that before any other error, and changes
-- nothing; otherwise it does what is due by the rules that the struct means
abbrev pub ByRules : ScramRules → Type 0 → (ServerRules → Result (Unit {0}) WriteError → Type 0)
    → Result (Unit {0}) WriteError → Type 0
ByRules rules Stays Due answer =
    (HasLongData rules.channels × (answer ≡ Err (Other statuses.ChannelDataLength)) × Stays)
    ⊎ (¬ HasLongData rules.channels × Due (rules_of rules) answer)

-- these rules, but with the GS2 header `y,,` accepted if no channel is bound
abbrev pub with_cbind_flag_y : ServerRules → ServerRules
with_cbind_flag_y rules = record rules { accept_cbind_flag_y = true }
