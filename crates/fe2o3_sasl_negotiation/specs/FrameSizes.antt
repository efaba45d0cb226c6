-- Which frames of a login fit in 512 bytes, by the lengths of the texts that they carry (AMQP 1.0, part 5, section
-- 5.3.1). Each is the contract of a clause of `frame_sizes::frame_sizes`.
use Rattle.std.specs.Prelude.{◌≡◌, ◌≤◌, ◌+◌, ℕ, Option, Some, None, List, length}
use Rattle.fe2o3_sasl_wire.specs.declared.amqp_types.SaslCode.{SaslCode}
use Rattle.fe2o3_sasl_wire.specs.SaslFrames.{SaslFrame, canonical}
use Rattle.fe2o3_sasl_wire.specs.SaslFrames as frames
use Rattle.fe2o3_scram.specs.declared.scram_messages.client_channel.ClientChannel.{ClientChannel}
use Rattle.fe2o3_scram.specs.declared.scram_messages.client_channel.ClientChannel.TheVariants.{Absent, NotOffered, Bound}
use Rattle.fe2o3_scram.specs.declared.hmac.ScramVersion.{ScramVersion}
use Rattle.fe2o3_scram.specs.ChannelBinding.{is_bound, kind_name, mechanism_of, ClientHeader, header_of, authzid_text}
use Rattle.fe2o3_scram.specs.ClientFirst.{client_first_with}
use Rattle.fe2o3_scram.specs.Escape.{escaped}

-- a frame is sent: it has a canonical body, and at most 512 bytes with its size
abbrev pub CanBeSent : SaslFrame → Type 0
CanBeSent frame = (body : List ℕ) × (canonical frame ≡ Some body) × (length body + 4 ≤ 512)

-- the length of an optional text
abbrev pub length_of : Option (List ℕ) → ℕ
length_of None = 0
length_of (Some text) = length text

-- an init whose mechanism, response and hostname have at most 477 bytes together
abbrev pub InitsFit : Type 0
InitsFit = (mechanism : List ℕ) (response hostname : Option (List ℕ))
    → length mechanism + length_of response + length_of hostname ≤ 477
    → CanBeSent (frames.Init mechanism response hostname)

-- how many bytes more an init has if the client binds a channel (RFC 5802, sections 4 and 7): those of "-PLUS", and
-- those that "p=", the name of the kind and ",," have more than "n,,"
abbrev pub bytes_for_channel : ClientChannel → ℕ
bytes_for_channel Absent = 0
bytes_for_channel NotOffered = 0
bytes_for_channel (Bound binding) = length (kind_name binding.kind) + 6

-- how many more it has for the channel and for the identity that the client acts for
abbrev pub bytes_for : ClientHeader → ℕ
bytes_for header = bytes_for_channel header.channel + length (authzid_text header.acts_for)

-- the init of a SCRAM client whose escaped name and hostname have at most 412 bytes together, or less by those that the
-- header needs, with a nonce of at most 44 bytes, as 32 bytes have in base64 (RFC 5802, section 7)
abbrev pub ScramInitsFit : Type 0
ScramInitsFit = (version : ScramVersion) (header : ClientHeader) (user nonce : List ℕ)
    (hostname : Option (List ℕ)) → length nonce ≤ 44
    → bytes_for header + length (escaped user) + length_of hostname ≤ 412
    → CanBeSent (frames.Init (mechanism_of version (is_bound header.channel))
    (Some (client_first_with (header_of header) user nonce)) hostname)

-- a challenge and a response of at most 487 bytes
abbrev pub TextsFit : Type 0
TextsFit = (text : List ℕ) → length text ≤ 487 → CanBeSent (frames.Challenge text) × CanBeSent (frames.Response text)

-- an outcome with at most 485 bytes of data
abbrev pub OutcomesFit : Type 0
OutcomesFit = (code : SaslCode) (more : Option (List ℕ)) → length_of more ≤ 485 → CanBeSent (frames.Outcome code more)
