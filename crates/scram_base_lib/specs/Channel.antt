-- The channel of an argument KIND:HEX (RFC 5802, section 6; RFC 5929; RFC 9266): the project's own spelling.
use Rattle.std.specs.Prelude.{ℕ, List, Bool, true, false, Option, Some, None, Ok, ◌≡◌, ◌≢◌, ◌⊎◌, ◌≤◌, ◌<◌, ◌==◌, length}
use Rattle.std.specs.List.{before_first, after_first}
use Rattle.hex.specs.Hex.{decode_of}
use Rattle.fe2o3_scram.specs.declared.channel_binding.ChannelBinding.{ChannelBinding}
use Rattle.fe2o3_scram.specs.declared.channel_binding.ChannelBindings.{ChannelBindings}
use Rattle.fe2o3_scram.specs.declared.channel_binding.ChannelData.{ChannelData}
use Rattle.fe2o3_scram.specs.declared.channel_binding.ChannelKind.{ChannelKind}
use Rattle.fe2o3_scram.specs.declared.channel_binding.ChannelKind.TheVariants.{TlsUnique, TlsServerEndPoint, TlsExporter}
use Rattle.fe2o3_scram.specs.declared.scram_messages.client_channel.ClientChannel.{ClientChannel}
use Rattle.fe2o3_scram.specs.declared.scram_messages.client_channel.ClientChannel.TheVariants.{Absent, NotOffered, Bound}
use Rattle.fe2o3_scram.specs.ChannelBinding.{data_bytes, kind_name}
use Rattle.scram_base_lib.specs.declared.stop.Stop.{Stop}
use Rattle.scram_base_lib.specs.declared.stop.Stop.TheVariants as stops

-- the text before the first colon (58), which is all of it if there is none
abbrev pub name_in : List ℕ → List ℕ
name_in word = before_first (λ b. b == 58) word

-- the text after the first colon, which is empty if there is none
abbrev pub digits_in : List ℕ → List ℕ
digits_in word = after_first (λ b. b == 58) word

-- how many bytes the data of a channel can have
abbrev pub HasLength : List ℕ → Type 0
HasLength bytes = (1 ≤ length bytes) × (length bytes ≤ 64)

-- the word spells this channel: the name of its kind, and its data in hexadecimal, of 1 to 64 bytes
abbrev pub SpellsChannel : List ℕ → ChannelBinding → Type 0
SpellsChannel word binding = (kind_name binding.kind ≡ name_in word)
    × (decode_of (digits_in word) ≡ Ok (data_bytes binding.cbind_data)) × HasLength (data_bytes binding.cbind_data)

-- the word names a kind
abbrev pub NamesKind : List ℕ → Type 0
NamesKind word = (kind : ChannelKind) × (kind_name kind ≡ name_in word)

-- why a word spells no channel, in this order: no kind has the name; the data are not hexadecimal; the data are empty, or
-- have more than 64 bytes. Memory can run out for any word
abbrev pub RejectsChannel : List ℕ → Stop → Type 0
RejectsChannel word stops.WrongChannelKind = (kind : ChannelKind) → kind_name kind ≢ name_in word
RejectsChannel word stops.WrongChannelData = NamesKind word × ((bytes : List ℕ) → decode_of (digits_in word) ≢ Ok bytes)
RejectsChannel word stops.WrongChannelLength = NamesKind word
    × ((bytes : List ℕ) × (decode_of (digits_in word) ≡ Ok bytes) × ((length bytes ≡ 0) ⊎ (64 < length bytes)))
RejectsChannel word stops.OutOfMemory = Unit {0}
RejectsChannel word stop = ⊥

-- what a client says of its channel, by its arguments
abbrev pub SaysChannel : Option (List ℕ) → Bool → ClientChannel → Type 0
SaysChannel (Some word) not_offered channel = (binding : ChannelBinding) × SpellsChannel word binding × (channel ≡ Bound binding)
SaysChannel None true channel = channel ≡ NotOffered
SaysChannel None false channel = channel ≡ Absent

-- the channel as a server knows it that has the data of one kind only
abbrev pub only_data : ChannelKind → ChannelData → ChannelBindings
only_data TlsUnique known = record { tls_unique = Some known; tls_server_end_point = None; tls_exporter = None }
only_data TlsServerEndPoint known = record { tls_unique = None; tls_server_end_point = Some known; tls_exporter = None }
only_data TlsExporter known = record { tls_unique = None; tls_server_end_point = None; tls_exporter = Some known }

-- what a server binds, by its argument: the data of one kind, or nothing
abbrev pub BindsOnly : Option (List ℕ) → Option ChannelBindings → Type 0
BindsOnly (Some word) channels = (binding : ChannelBinding) × SpellsChannel word binding
    × (channels ≡ Some (only_data binding.kind binding.cbind_data))
BindsOnly None channels = channels ≡ None
