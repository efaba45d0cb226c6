-- Channel binding (RFC 5056; RFC 5802, section 6): what a client says of the channel under an exchange, and what a server
-- expects of it.
use Rattle.std.specs.Prelude.{ℕ, List, [], ◌++◌, ◌≡◌, codes, take, replicate, Bool, true, false, ◌||◌, is_some, T, Option, Some, None, if◌then◌else◌}
use Rattle.base64.specs.GeneralPurpose.{IsBytes}
use Rattle.fe2o3_scram.specs.declared.channel_binding.ChannelBindings.{ChannelBindings}
use Rattle.fe2o3_scram.specs.declared.channel_binding.ChannelData.{ChannelData}
use Rattle.fe2o3_scram.specs.declared.channel_binding.ChannelKind.{ChannelKind}
use Rattle.fe2o3_scram.specs.declared.channel_binding.ChannelKind.TheVariants.{TlsUnique, TlsServerEndPoint, TlsExporter}
use Rattle.fe2o3_scram.specs.declared.scram_messages.client_channel.ClientChannel.{ClientChannel}
use Rattle.fe2o3_scram.specs.declared.scram_messages.client_channel.ClientChannel.TheVariants.{Absent, NotOffered, Bound}
use Rattle.fe2o3_scram.specs.declared.hmac.ScramVersion.{ScramVersion}
use Rattle.fe2o3_scram.specs.declared.scram_messages.channel_binding_flag.ChannelBindingFlag.{ChannelBindingFlag}
use Rattle.fe2o3_scram.specs.declared.scram_messages.channel_binding_flag.ChannelBindingFlag.TheVariants.{NotSupported, ClientSupports, Required}
use Rattle.fe2o3_scram.specs.declared.scram_messages.server_rules.ServerRules.{ServerRules}
use Rattle.fe2o3_scram.specs.Escape.{escaped}
use Rattle.fe2o3_scram.specs.Grammar.{is_value}
use Rattle.fe2o3_scram.specs.Hmac.{mechanism_name}

-- the registered name of a kind of channel binding (RFC 5929, sections 3 and 4; RFC 9266, section 2)
abbrev pub kind_name : ChannelKind → List ℕ
kind_name TlsUnique = codes "tls-unique"
kind_name TlsServerEndPoint = codes "tls-server-end-point"
kind_name TlsExporter = codes "tls-exporter"

-- the bytes of a channel's data
abbrev pub data_bytes : ChannelData → List ℕ
data_bytes known = take known.len known.bytes

-- what a GS2 header says of channel binding (RFC 5802, sections 6 and 7, `gs2-cbind-flag`): the client does not support it,
-- or it does and assumes that the server does not, or it requires it, by this kind
abbrev pub flag_text : ChannelBindingFlag → List ℕ
flag_text NotSupported = codes "n"
flag_text ClientSupports = codes "y"
flag_text (Required TlsUnique) = codes "p=tls-unique"
flag_text (Required TlsServerEndPoint) = codes "p=tls-server-end-point"
flag_text (Required TlsExporter) = codes "p=tls-exporter"

-- whom a GS2 header names as the one to act for (RFC 5802, section 7, `authzid`), if the client does not act for itself
abbrev pub authzid_text : Option (List ℕ) → List ℕ
authzid_text None = []
authzid_text (Some name) = codes "a=" ++ escaped name

-- what a GS2 header says (RFC 5802, section 7): the flag of channel binding, and whom the client acts for, or none if it
-- acts for itself
pub record Gs2Header : Type 0 where
  pub flag : ChannelBindingFlag
  pub acts_for : Option (List ℕ)

-- the GS2 header (RFC 5802, section 7, `gs2-header`)
abbrev pub header_text : Gs2Header → List ℕ
header_text header = flag_text header.flag ++ (codes "," ++ (authzid_text header.acts_for ++ codes ","))

-- the header of a client that acts for itself
abbrev pub own_header : ChannelBindingFlag → Gs2Header
own_header flag = record { flag = flag; acts_for = None }

-- ---- the client

-- the flag that a client sends (RFC 5802, section 6)
abbrev pub flag_of : ClientChannel → ChannelBindingFlag
flag_of Absent = NotSupported
flag_of NotOffered = ClientSupports
flag_of (Bound binding) = Required binding.kind

-- whether a client binds a channel
abbrev pub is_bound : ClientChannel → Bool
is_bound Absent = false
is_bound NotOffered = false
is_bound (Bound binding) = true

-- whether a client has a channel, whether it binds it or not
abbrev pub has_channel : ClientChannel → Bool
has_channel Absent = false
has_channel NotOffered = true
has_channel (Bound binding) = true

-- cbind-data (RFC 5802, section 7), which is empty if no channel is bound
abbrev pub cbind_data : ClientChannel → List ℕ
cbind_data Absent = []
cbind_data NotOffered = []
cbind_data (Bound binding) = data_bytes binding.cbind_data

-- what a client puts before its name, and repeats under its proof (RFC 5802, section 6): what it says of its channel, with
-- the channel's data, and whom it acts for
pub record ClientHeader : Type 0 where
  pub channel : ClientChannel
  pub acts_for : Option (List ℕ)

-- a client that binds no channel and acts for itself
abbrev pub plain_header : ClientHeader
plain_header = record { channel = Absent; acts_for = None }

-- the GS2 header of a client
abbrev pub header_of : ClientHeader → Gs2Header
header_of client = record { flag = flag_of client.channel; acts_for = client.acts_for }

-- cbind-input (RFC 5802, section 7): the GS2 header, and the data of the channel
abbrev pub cbind_input : ClientHeader → List ℕ
cbind_input client = header_text (header_of client) ++ cbind_data client.channel

-- a side has to be strict whose header says that the client has a channel, bound or not, or names an identity, since someone
-- on the way can move all that a header says from one message to another if neither side is strict
abbrev pub needs_strict : ClientHeader → Bool
needs_strict client = has_channel client.channel || is_some client.acts_for

-- whether cbind-input has more than the flag: the data of a channel, or an identity
abbrev pub has_more_than_flag : ClientHeader → Bool
has_more_than_flag client = is_bound client.channel || is_some client.acts_for

-- what the code holds of a header: the data of the channel and the identity are bytes
abbrev pub HoldsHeaderBytes : ClientHeader → Type 0
HoldsHeaderBytes client = IsBytes (cbind_data client.channel) × IsBytes (authzid_text client.acts_for)

-- the client requires channel binding (RFC 5802, section 7: the flag `p=`)
abbrev pub is_required : ChannelBindingFlag → Bool
is_required NotSupported = false
is_required ClientSupports = false
is_required (Required kind) = true

-- the mechanism with channel binding (RFC 5802, section 4)
abbrev pub plus_name : ScramVersion → List ℕ
plus_name version = mechanism_name version ++ codes "-PLUS"

-- the mechanism that a client selects (RFC 5802, section 6): the one with channel binding if it binds a channel
abbrev pub mechanism_of : ScramVersion → Bool → List ℕ
mechanism_of version bound = if bound then plus_name version else mechanism_name version

-- ---- the server

-- no data, which no channel has (RFC 5802, section 7: `cbind-data = 1*OCTET`)
abbrev pub no_data : ChannelData
no_data = record { bytes = replicate 64 0; len = 0 }

-- the data that a server has of a kind of channel binding
abbrev pub data_of_kind : ChannelBindings → ChannelKind → Option ChannelData
data_of_kind channels TlsUnique = channels.tls_unique
data_of_kind channels TlsServerEndPoint = channels.tls_server_end_point
data_of_kind channels TlsExporter = channels.tls_exporter

-- what a server without channel binding accepts (RFC 5802, section 6): `y,,` only if it is set to
abbrev pub TakesUnbound : Bool → ChannelBindingFlag → Type 0
TakesUnbound accept_y NotSupported = Unit {0}
TakesUnbound accept_y ClientSupports = T accept_y
TakesUnbound accept_y (Required kind) = ⊥

-- what a server of the mechanism with channel binding accepts (RFC 5802, section 6): a kind of which it has the data
abbrev pub TakesBound : ChannelBindings → ChannelBindingFlag → Type 0
TakesBound channels NotSupported = ⊥
TakesBound channels ClientSupports = ⊥
TakesBound channels (Required kind) = (known : ChannelData) × (data_of_kind channels kind ≡ Some known)

-- a server that binds these channels, or none, accepts the flag
abbrev pub TakesFlag : Option ChannelBindings → Bool → ChannelBindingFlag → Type 0
TakesFlag None accept_y flag = TakesUnbound accept_y flag
TakesFlag (Some channels) accept_y flag = TakesBound channels flag

-- a server accepts what the header says of channel binding
abbrev pub AcceptsFlag : ServerRules → ChannelBindingFlag → Type 0
AcceptsFlag rules flag = TakesFlag rules.channels rules.accept_cbind_flag_y flag

-- whom a server lets a client name (RFC 5802, section 7, `authzid`): no one, or if it accepts identities, also one of one or
-- more characters, none of which is NUL (`saslname`)
abbrev pub TakesIdentity : Bool → Option (List ℕ) → Type 0
TakesIdentity accept None = Unit {0}
TakesIdentity accept (Some name) = T accept × (is_value name ≡ true)

-- a server accepts the header
abbrev pub TakesHeader : ServerRules → Gs2Header → Type 0
TakesHeader rules header = AcceptsFlag rules header.flag × TakesIdentity rules.accept_authzid header.acts_for

-- the data of a kind that a server has, if it binds channels
abbrev pub data_of_server : Option ChannelBindings → ChannelKind → Option ChannelData
data_of_server None kind = None
data_of_server (Some channels) kind = data_of_kind channels kind

-- the data that a server expects of a channel: its own, or no data if it has none
abbrev pub known_data : Option ChannelData → ChannelData
known_data None = no_data
known_data (Some known) = known

-- the channel that a server expects after a client's flag (RFC 5802, section 6)
abbrev pub expected_channel : Option ChannelBindings → ChannelBindingFlag → ClientChannel
expected_channel channels NotSupported = Absent
expected_channel channels ClientSupports = NotOffered
expected_channel channels (Required kind) =
    Bound (record { kind = kind; cbind_data = known_data (data_of_server channels kind) })

-- what a server expects of a client with this header: its channel, and whom it acts for
abbrev pub expected_header : Option ChannelBindings → Gs2Header → ClientHeader
expected_header channels header =
    record { channel = expected_channel channels header.flag; acts_for = header.acts_for }

-- a server rejects what is no extension in the place of one if it binds a channel, accepts identities, or is set to
abbrev pub is_strict : ServerRules → Bool
is_strict rules = is_some rules.channels || (rules.accept_authzid || (rules.reject_misplaced || rules.strict))

-- the mechanism of a server (RFC 5802, section 6): the one with channel binding if it binds channels
abbrev pub server_mechanism : ScramVersion → ServerRules → List ℕ
server_mechanism version rules = mechanism_of version (is_some rules.channels)
