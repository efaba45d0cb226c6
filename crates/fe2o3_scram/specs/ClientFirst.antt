-- The client-first message (RFC 5802, section 7), as the client writes it and as the server reads it.
use Rattle.std.specs.Prelude.{ℕ, List, [], ◌∷◌, ◌++◌, ◌≡◌, ◌⊎◌, T, codes, Result, None, Some, true, false, option_map}
use Rattle.std.specs.Cow.{cow_str_bytes}
use Rattle.std.specs.Str.{IsUtf8}
use Rattle.fe2o3_scram.specs.declared.scram_messages.error.ServerScramErrorKind.{ServerScramErrorKind}
use Rattle.fe2o3_scram.specs.declared.scram_messages.error.ServerScramErrorKind.TheVariants.{Utf8Error, CannotParseGs2Header, CannotParseUsername, CannotParseClientNonce, MisplacedAttribute}
use Rattle.fe2o3_scram.specs.declared.scram_messages.server_rules.ServerRules.{ServerRules}
use Rattle.fe2o3_scram.specs.declared.scram_messages.client_first_reading.ClientFirst.{ClientFirst as CodeClientFirst}
use Rattle.fe2o3_scram.specs.declared.scram_messages.channel_binding_flag.ChannelBindingFlag.TheVariants.{NotSupported}
use Rattle.fe2o3_scram.specs.declared.scram_messages.channel_binding_flag.ChannelBindingFlag.{ChannelBindingFlag}
use Rattle.fe2o3_scram.specs.ChannelBinding.{AcceptsFlag, Gs2Header, TakesHeader, header_text, is_strict, own_header}
use Rattle.fe2o3_scram.specs.Escape.{escaped, NoEquals}
use Rattle.fe2o3_scram.specs.Grammar.{HasMisplacedFrom, is_nonce, is_value}
use Rattle.fe2o3_scram.specs.Readings.{Reads}
use Rattle.fe2o3_scram.specs.Texts.{joined, Part, StartsWith}

-- client-first-message-bare (RFC 5802, section 7): the user name and the client's nonce
abbrev pub client_first_bare : List ℕ → List ℕ → List ℕ
client_first_bare username nonce = joined ((codes "n=" ++ escaped username) ∷ (codes "r=" ++ nonce) ∷ [])

-- a server that accepts no `y,,` and no identity, is not strict and binds no channel
abbrev pub default_rules : ServerRules
default_rules = record {
  accept_cbind_flag_y = false;
  strict = false;
  reject_misplaced = false;
  channels = None;
  accept_authzid = false;
}

-- a reader that accepts both GS2 headers of clients that bind no channel, and is not strict
abbrev pub either_header : ServerRules
either_header = record {
  accept_cbind_flag_y = true;
  strict = false;
  reject_misplaced = false;
  channels = None;
  accept_authzid = false;
}

-- client-first-message with a GS2 header (RFC 5802, section 7)
abbrev pub client_first_with : Gs2Header → List ℕ → List ℕ → List ℕ
client_first_with header username nonce = header_text header ++ client_first_bare username nonce

-- client-first-message of a client that cannot bind a channel (RFC 5802, section 7)
abbrev pub client_first : List ℕ → List ℕ → List ℕ
client_first username nonce = client_first_with (own_header NotSupported) username nonce

-- what a client-first message names (RFC 5802, section 7): its GS2 header, the user, the client's nonce, and the
-- message without its GS2 header
pub record ClientFirst : Type 0 where
  pub header : Gs2Header
  pub user : List ℕ
  pub nonce : List ℕ
  pub bare : List ℕ

-- the values that the code's value holds
abbrev pub client_first_values : CodeClientFirst → ClientFirst
client_first_values first = record {
  header = record { flag = first.header; acts_for = option_map cow_str_bytes first.acts_for };
  user = cow_str_bytes first.username;
  nonce = first.client_nonce.now;
  bare =
      first.client_first_message_bare.now;
}

-- after a GS2 header that is accepted, the message has this part at place k (RFC 5802, section 7)
abbrev pub BarePart : ServerRules → List ℕ → ℕ → List ℕ → Type 0
BarePart rules text k part = (header : Gs2Header) × (bare : List ℕ) × TakesHeader rules header
    × (text ≡ header_text header ++ bare) × Part bare k part

-- the message names these values (RFC 5802, section 5.1)
pub record NamesClientFirst (rules : ServerRules) (text : List ℕ) (first : ClientFirst) : Type 0 where
  pub header : TakesHeader rules first.header
  pub bare : text ≡ header_text first.header ++ first.bare
  pub user : Part first.bare 0 (codes "n=" ++ escaped first.user)
  pub nonce : Part first.bare 1 (codes "r=" ++ first.nonce)

-- after a GS2 header that is accepted, the message has in the place of an extension a part that is none: after the nonce
-- (RFC 5802, section 7)
abbrev pub HasMisplacedAfterNonce : ServerRules → List ℕ → Type 0
HasMisplacedAfterNonce rules text = (header : Gs2Header) × (bare : List ℕ) × TakesHeader rules header
    × (text ≡ header_text header ++ bare) × HasMisplacedFrom 2 bare

-- the message names a user whose name is empty or has NUL (RFC 5802, section 7, `saslname`)
abbrev pub NamesNoValue : ServerRules → List ℕ → Type 0
NamesNoValue rules text = (user : List ℕ) × BarePart rules text 0 (codes "n=" ++ escaped user) × (is_value user ≡ false)

-- the message names a nonce that is empty or not printable (RFC 5802, section 7, `c-nonce`)
abbrev pub NamesNoNonce : ServerRules → List ℕ → Type 0
NamesNoNonce rules text = (nonce : List ℕ) × BarePart rules text 1 (codes "r=" ++ nonce) × (is_nonce nonce ≡ false)

-- the server's tests, in order (RFC 5802, section 5.1; UTF-8: RFC 3629, section 3); the last three are those of a strict
-- server, and the last also of one that is set to it alone, binds channels or accepts identities
abbrev pub client_first_tests : ServerRules → List ℕ → List (ServerScramErrorKind × Type 0)
client_first_tests rules text =
    (Utf8Error, ¬ IsUtf8 text)
    ∷ (CannotParseGs2Header, (header : Gs2Header) → TakesHeader rules header → ¬ StartsWith text (header_text header))
    ∷ (CannotParseUsername, (user : List ℕ) → ¬ BarePart rules text 0 (codes "n=" ++ escaped user))
    ∷ (CannotParseClientNonce, (nonce : List ℕ) → ¬ BarePart rules text 1 (codes "r=" ++ nonce))
    ∷ (CannotParseUsername, T rules.strict × NamesNoValue rules text)
    ∷ (CannotParseClientNonce, T rules.strict × NamesNoNonce rules text)
    ∷ (MisplacedAttribute, T (is_strict rules) × HasMisplacedAfterNonce rules text)
    ∷ []

-- after a flag that is accepted the message names an identity that is sent with escapes, to a server that accepts
-- identities (RFC 5802, section 5.1)
abbrev pub HasEscapedIdentity : ServerRules → List ℕ → Type 0
HasEscapedIdentity rules text = (flag : ChannelBindingFlag) × (name : List ℕ) × (bare : List ℕ) × AcceptsFlag rules flag
    × T rules.accept_authzid × (text ≡ header_text (record { flag = flag; acts_for = Some name }) ++ bare)
    × ¬ NoEquals (escaped name)

-- the server allocates for an identity or a user name that is sent with escapes (RFC 5802, section 5.1)
abbrev pub HasEscapes : ServerRules → List ℕ → Type 0
HasEscapes rules text = IsUtf8 text × (HasEscapedIdentity rules text
    ⊎ ((user : List ℕ) × BarePart rules text 0 (codes "n=" ++ escaped user) × ¬ NoEquals (escaped user)))

-- what the server reads (RFC 5802, section 5.1): the first error that applies, or the values that are named; extensions
-- are ignored
unfoldable pub ReadsClientFirst : ServerRules → List ℕ → Result ClientFirst ServerScramErrorKind → Type 0
ReadsClientFirst rules text answer = Reads (client_first_tests rules text) (NamesClientFirst rules text) answer
