-- How many bytes the frames of a login have.
use Rattle.std.proofs.Common.{◌≡◌, ◌≤◌, ◌+◌, ◌^◌, ℕ, suc, Bool, true, false, true≢false, Some, None, List, [], ◌∷◌, ◌++◌, length, nat_lt, if◌then◌else◌, refl, sym, arith}
use Rattle.std.specs.Prelude.{IsSome}
use Rattle.std.proofs.lemmas.List.{length-append}
use Rattle.std.proofs.Common.{codes}
use Rattle.fe2o3_scram.specs.declared.hmac.ScramVersion.{ScramVersion}
use Rattle.fe2o3_scram.specs.declared.hmac.ScramVersion.TheVariants as versions
use Rattle.fe2o3_scram.specs.declared.channel_binding.ChannelKind.{ChannelKind}
use Rattle.fe2o3_scram.specs.declared.channel_binding.ChannelKind.TheVariants.{TlsUnique, TlsServerEndPoint, TlsExporter}
use Rattle.fe2o3_scram.specs.declared.scram_messages.client_channel.ClientChannel.{ClientChannel}
use Rattle.fe2o3_scram.specs.declared.scram_messages.client_channel.ClientChannel.TheVariants.{Absent, NotOffered, Bound}
use Rattle.fe2o3_scram.specs.declared.scram_messages.channel_binding_flag.ChannelBindingFlag.TheVariants.{Required}
use Rattle.fe2o3_scram.specs.ChannelBinding.{flag_of, header_text, is_bound, kind_name, mechanism_of, flag_text, ClientHeader, Gs2Header, header_of, authzid_text}
use Rattle.fe2o3_scram.specs.ClientFirst.{client_first_bare, client_first_with}
use Rattle.fe2o3_scram.specs.Escape.{escaped}
use Rattle.fe2o3_scram.specs.Hmac.{mechanism_name}
use Rattle.fe2o3_sasl_wire.specs.declared.sasl_frames.forms.Form.{Form}
use Rattle.fe2o3_sasl_wire.specs.declared.sasl_frames.forms.Form.TheVariants.{Eight, ThirtyTwo}
use Rattle.fe2o3_sasl_wire.specs.SaslFrames.{SaslFrame, Field, Binary, Text, Symbol, Ubyte, Null, optional, descriptor_of, number, content, canonical, canonical_field, list_body, shortest}
use Rattle.fe2o3_sasl_wire.specs.SaslFrames as frames
use Rattle.fe2o3_sasl_wire.specs.private.Writing.{width, canonical_variable, canonical_list, count_of, items_of}
use Rattle.fe2o3_sasl_wire.proofs.lemmas.writing.BodyPartsLemmas.{has_body}
use Rattle.fe2o3_sasl_wire.proofs.lemmas.writing.CanonicalSpellsLemmas.{length-content}
use Rattle.fe2o3_sasl_negotiation.specs.FrameSizes.{CanBeSent, bytes_for, bytes_for_channel, ScramInitsFit, InitsFit, TextsFit, OutcomesFit}

most_width : (form : Form) → width form ≤ 4
most_width Eight = omega arith
most_width ThirtyTwo = omega arith

length-number : (form : Form) (n : ℕ) → length (number form n) ≡ width form
length-number Eight n = refl
length-number ThirtyTwo n = refl

-- a list adds at most nine bytes to its items
short_list : (count : ℕ) (items : List ℕ) → length (canonical_list count items) ≤ length items + 9
short_list count items = go (shortest (length (list_body Eight count items)))
  where
    go : (form : Form) → suc (length (content form (list_body form count items))) ≤ length items + 9
    go form = omega (
      arith,
      length-content form (list_body form count items),
      length-append (number form count) items,
      length-number form count,
      most_width form,
    )

-- a field adds at most five to its text
short_variable : (short long : ℕ) (bytes : List ℕ) → length (canonical_variable short long bytes) ≤ length bytes + 5
short_variable short long bytes =
    omega (arith, length-content (shortest (length bytes)) bytes, most_width (shortest (length bytes)))

-- its body, where it has one
abbrev whole : SaslFrame → List ℕ
whole frame = 2 ∷ 1 ∷ 0 ∷ 0 ∷ 0 ∷ 0x53 ∷ (descriptor_of frame).0 ∷ canonical_list (count_of frame) (items_of frame)

there : (body : List ℕ) (b : Bool) → IsSome (if b then Some body else None) → length body + 4 ≤ 512
    → (other : List ℕ) × ((if b then Some body else None) ≡ Some other) × (length other + 4 ≤ 512)
there body true some small = (body, refl, small)
there body false some small = absurd (true≢false (sym some))

-- a frame of so few items is sent
sent : (frame : SaslFrame) → length (items_of frame) ≤ 492 → CanBeSent frame
unfolding canonical
sent frame few = there (whole frame) (nat_lt (length (list_body ThirtyTwo (count_of frame) (items_of frame))) (2 ^ 32))
    (has_body frame (length (items_of frame)) refl (omega (arith, few)))
    (let l = short_list (count_of frame) (items_of frame) in omega (arith, few, l))

one_text : (text : List ℕ) → length (canonical_variable 0xa0 0xb0 text ++ []) ≤ length text + 5
one_text text = omega (arith, short_variable 0xa0 0xb0 text, length-append (canonical_variable 0xa0 0xb0 text) [])

pub texts_fit : TextsFit
texts_fit text few = (
  sent (frames.Challenge text) (let l = one_text text in omega (arith, few, l)),
  sent (frames.Response text) (let l = one_text text in omega (arith, few, l)),
)

pub outcomes_fit : OutcomesFit
outcomes_fit code None few = sent (frames.Outcome code None) (omega arith)
outcomes_fit code (Some text) few =
    sent (frames.Outcome code (Some text)) (let l = one_text text in omega (arith, few, l))

pub inits_fit : InitsFit
inits_fit mechanism None None few = sent (frames.Init mechanism None None) (omega (
  arith,
  few,
  short_variable 0xa3 0xb3 mechanism,
  length-append (canonical_variable 0xa3 0xb3 mechanism) [],
))
inits_fit mechanism (Some text) None few = sent (frames.Init mechanism (Some text) None) (omega (
  arith,
  few,
  short_variable 0xa3 0xb3 mechanism,
  one_text text,
  length-append (canonical_variable 0xa3 0xb3 mechanism) (canonical_variable 0xa0 0xb0 text ++ []),
))
inits_fit mechanism None (Some host) few = sent (frames.Init mechanism None (Some host)) (omega (
  arith,
  few,
  short_variable 0xa3 0xb3 mechanism,
  short_variable 0xa1 0xb1 host,
  length-append (canonical_variable 0xa1 0xb1 host) [],
  length-append (canonical_variable 0xa3 0xb3 mechanism) (0x40 ∷ canonical_variable 0xa1 0xb1 host ++ []),
))
inits_fit mechanism (Some text) (Some host) few = sent (frames.Init mechanism (Some text) (Some host)) (omega (
  arith,
  few,
  short_variable 0xa3 0xb3 mechanism,
  short_variable 0xa0 0xb0 text,
  short_variable 0xa1 0xb1 host,
  length-append (canonical_variable 0xa1 0xb1 host) [],
  length-append (canonical_variable 0xa0 0xb0 text) (canonical_variable 0xa1 0xb1 host ++ []),
  length-append (canonical_variable 0xa3 0xb3 mechanism)
      (canonical_variable 0xa0 0xb0 text ++ (canonical_variable 0xa1 0xb1 host ++ [])),
))

short_mechanism : (version : ScramVersion) → length (mechanism_name version) ≤ 13
short_mechanism versions.Sha1 = omega arith
short_mechanism versions.Sha256 = omega arith
short_mechanism versions.Sha512 = omega arith

-- a header has two commas beside its flag and its identity
length-header : (header : Gs2Header) → length (header_text header)
    ≡ length (flag_text header.flag) + length (authzid_text header.acts_for) + 2
length-header header = omega (
  arith,
  length-append (flag_text header.flag) (codes "," ++ (authzid_text header.acts_for ++ codes ",")),
  length-append (authzid_text header.acts_for) (codes ","),
)

length-flag : (kind : ChannelKind) → length (flag_text (Required kind)) ≡ length (kind_name kind) + 2
length-flag TlsUnique = refl
length-flag TlsServerEndPoint = refl
length-flag TlsExporter = refl

-- a mechanism and its flag have at most 14 bytes, and those that the channel needs
short_flag : (version : ScramVersion) (channel : ClientChannel)
    → length (mechanism_of version (is_bound channel)) + length (flag_text (flag_of channel)) ≤ bytes_for_channel channel + 14
short_flag version Absent = omega (arith, short_mechanism version)
short_flag version NotOffered = omega (arith, short_mechanism version)
short_flag version (Bound binding) = omega (
  arith,
  short_mechanism version,
  length-append (mechanism_name version) (codes "-PLUS"),
  length-flag binding.kind,
)

-- a mechanism and its header have at most 16 bytes, and those that the header needs
short_header : (version : ScramVersion) (header : ClientHeader)
    → length (mechanism_of version (is_bound header.channel)) + length (header_text (header_of header)) ≤ bytes_for header + 16
short_header version header = omega (arith, short_flag version header.channel, length-header (header_of header))

-- a client-first message adds five bytes to its header, its name and its nonce
length-client_first : (header : Gs2Header) (user nonce : List ℕ) → length (client_first_with header user nonce)
    ≡ length (header_text header) + length (escaped user) + length nonce + 5
length-client_first header user nonce = omega (
  arith,
  length-append (header_text header) (client_first_bare user nonce),
  length-append (codes "n=" ++ escaped user) (44 ∷ (codes "r=" ++ nonce)),
  length-append (codes "n=") (escaped user),
  length-append (codes "r=") nonce,
)

pub scram_inits_fit : ScramInitsFit
scram_inits_fit version header user nonce hostname long few =
    inits_fit (mechanism_of version (is_bound header.channel)) (Some (client_first_with (header_of header) user nonce)) hostname
    (omega (
      arith,
      few,
      short_header version header,
      length-client_first (header_of header) user nonce,
      long,
    ))
