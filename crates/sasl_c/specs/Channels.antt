-- What a client says of its channel, as C passes it (RFC 5802, section 6).
use Rattle.std.specs.Prelude.{◌≡◌, ◌≢◌, ◌<◌, ◌≤◌, ◌⊎◌, ℕ, List, [], ◌∷◌, take, nat_eq, if◌then◌else◌}
use Rattle.fe2o3_scram.specs.ChannelBinding.{data_bytes}
use Rattle.fe2o3_scram.specs.declared.channel_binding.ChannelKind.{ChannelKind}
use Rattle.fe2o3_scram.specs.declared.channel_binding.ChannelKind.TheVariants.{TlsUnique, TlsServerEndPoint, TlsExporter}
use Rattle.fe2o3_scram.specs.declared.scram_messages.client_channel.ClientChannel.{ClientChannel}
use Rattle.fe2o3_scram.specs.declared.scram_messages.client_channel.ClientChannel.TheVariants.{Absent, NotOffered, Bound}
use Rattle.sasl_c.specs.declared.status.Status.{Status}
use Rattle.sasl_c.specs.declared.status.Status.TheVariants as statuses

-- the number of a kind of channel binding
abbrev pub kind_number : ChannelKind → ℕ
kind_number TlsUnique = 1
kind_number TlsServerEndPoint = 2
kind_number TlsExporter = 3

-- what this number, this number of a kind and the first bytes of an array say of a channel: 0 that the client has none, 1
-- that it has one and was offered no mechanism with -PLUS, and 2 that it binds the channel of this kind and these data, of
-- 1 to 64 bytes
abbrev pub IsChannel : ℕ → ℕ → ℕ → List ℕ → ClientChannel → Type 0
IsChannel number kind len array Absent = number ≡ 0
IsChannel number kind len array NotOffered = number ≡ 1
IsChannel number kind len array (Bound binding) = (number ≡ 2) × (kind ≡ kind_number binding.kind)
    × (data_bytes binding.cbind_data ≡ take len array) × (1 ≤ len) × (len ≤ 64)

-- they say nothing of a channel: the first number is none of these, or is that of a channel of an unknown kind
abbrev pub NamesNoChannel : ℕ → ℕ → Type 0
NamesNoChannel number kind = (2 < number) ⊎ ((number ≡ 2) × ((known : ChannelKind) → kind ≢ kind_number known))

-- the data of a bound channel are empty or have more than 64 bytes (RFC 5802, section 7)
abbrev pub HasNoChannelData : ℕ → ℕ → Type 0
HasNoChannelData number len = (number ≡ 2) × ((len ≡ 0) ⊎ (64 < len))

-- the tests of a channel, in their order
abbrev pub channel_tests : ℕ → ℕ → ℕ → List (Status × Type 0)
channel_tests number kind len = (statuses.NoSuchChannel, NamesNoChannel number kind)
    ∷ (statuses.ChannelDataLength, HasNoChannelData number len) ∷ []

-- how many bytes more than the server-first message its answer may have: more where a channel is bound
abbrev pub channel_more : ℕ → ℕ
channel_more number = if nat_eq number 2 then 256 else 128

-- and more where an identity is named
abbrev pub identity_more : List ℕ → ℕ
identity_more [] = 0
identity_more (byte ∷ name) = 1024
