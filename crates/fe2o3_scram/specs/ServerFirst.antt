-- The server-first message (RFC 5802, section 7), as the client reads it and as the server writes it.
use Rattle.std.specs.Prelude.{ℕ, List, [], ◌∷◌, ◌++◌, ◌<◌, codes, Result, ◌≡◌, ◌⊎◌, Option, Some, None, Ok, Err, Bool, false, ◌||◌, T, option_map}
use Rattle.fe2o3_scram.specs.declared.scram_messages.error.ScramErrorKind.{ScramErrorKind}
use Rattle.fe2o3_scram.specs.declared.scram_messages.error.ScramErrorKind.TheVariants.{InsufficientParts, ExtensionNotSupported, NonceNotFound, ClientNonceMismatch, SaltNotFound, Base64DecodeError, IterationCountNotFound, IterationCountParseError, IterationCountTooSmall, IterationCountTooLarge, NormalizeError, StaleKeys, MisplacedAttribute}
use Rattle.fe2o3_scram.specs.declared.scram_messages.server_first.ServerFirstMessage.{ServerFirstMessage}
use Rattle.fe2o3_scram.specs.declared.scram_messages.server_first_reading.ServerFirst.{ServerFirst as CodeServerFirst}
use Rattle.std.specs.Cow.{cow_str_bytes}
use Rattle.fe2o3_scram.specs.Texts.{base64_text, IsCount, IsPlainCount, Part, joined, HasBase64}
use Rattle.fe2o3_scram.specs.Readings.{NoneHolds, Reads}
use Rattle.fe2o3_scram.specs.Passwords.{IsNormal}
use Rattle.std.specs.Fmt.{decimal}
use Rattle.fe2o3_scram.specs.declared.scram_messages.error.ServerScramErrorKind.{ServerScramErrorKind}
use Rattle.fe2o3_scram.specs.ChannelBinding.{ClientHeader, Gs2Header, needs_strict}
use Rattle.fe2o3_scram.specs.Grammar.{HasMisplacedFrom, is_nonce}
use Rattle.fe2o3_scram.specs.ClientFirst.{ClientFirst, ReadsClientFirst, HasEscapes}
use Rattle.fe2o3_scram.specs.Credentials.{Record, Provider}
use Rattle.fe2o3_scram.specs.declared.client_secret.IterationLimits.{IterationLimits}
use Rattle.fe2o3_scram.specs.ClientKeys.{ClientKeys}
use Rattle.fe2o3_scram.specs.ClientSecret.{Secret, Password, Keys, Both}

-- what a server-first message names (RFC 5802, section 7): the nonce of both sides, the salt and the iteration count
pub record ServerFirst : Type 0 where
  pub nonce : List ℕ
  pub salt : List ℕ
  pub count : ℕ

-- the values that the code's value holds
abbrev pub server_first_values : CodeServerFirst → ServerFirst
server_first_values first = record { nonce = first.nonce.now; salt = first.salt.items; count = first.iterations }

-- the third part is this count (RFC 5802, section 5.1)
abbrev pub HasCount : List ℕ → ℕ → Type 0
HasCount text count = (digits : List ℕ) × Part text 2 (codes "i=" ++ digits) × IsCount digits count

-- the message names these values (RFC 5802, section 5.1)
pub record NamesServerFirst (text : List ℕ) (first : ServerFirst) : Type 0 where
  pub nonce : Part text 0 (codes "r=" ++ first.nonce)
  pub salt : HasBase64 text 1 (codes "s=") first.salt
  pub count : HasCount text first.count

-- the third part is this count, without a sign or leading zeros (RFC 5802, section 7, `posit-number`)
abbrev pub HasPlainCount : List ℕ → ℕ → Type 0
HasPlainCount text count = (digits : List ℕ) × Part text 2 (codes "i=" ++ digits) × IsPlainCount digits count

-- what a client knows when it reads a server-first message (RFC 5802, section 5), its header, whether it
-- rejects what is no extension in the place of one, and whether it reads by the whole grammar of section 7
pub record Client : Type 0 where
  pub nonce : List ℕ
  pub secret : Secret
  pub limits : IterationLimits
  pub header : ClientHeader
  pub strict : Bool
  pub grammar : Bool

-- a client with these values; one that is set to be strict reads by the whole grammar, and one that binds a channel or
-- names an identity rejects
-- what is no extension in any case
abbrev pub client_of : List ℕ → Secret → IterationLimits → ClientHeader → Bool → Client
client_of nonce secret limits header strict = record {
  nonce = nonce;
  secret = secret;
  limits = limits;
  header = header;
  strict = needs_strict header || strict;
  grammar = strict;
}

-- the client's tests of the nonce, in order (RFC 5802, section 5.1)
abbrev pub nonce_tests : List ℕ → List ℕ → List (ScramErrorKind × Type 0)
nonce_tests client_nonce text =
    (InsufficientParts, (part : List ℕ) → ¬ Part text 2 part)
    ∷ (ExtensionNotSupported, (rest : List ℕ) × Part text 0 (codes "m=" ++ rest))
    ∷ (NonceNotFound, (rest : List ℕ) → ¬ Part text 0 (codes "r=" ++ rest))
    ∷ (ClientNonceMismatch, (rest : List ℕ) → ¬ Part text 0 (codes "r=" ++ (client_nonce ++ rest)))
    ∷ []

-- the message names another salt or another count than that of the keys (RFC 5802, section 5.1)
abbrev pub NamesOther : ClientKeys → List ℕ → Type 0
NamesOther keys text = ¬ (HasBase64 text 1 (codes "s=") keys.salt × HasCount text keys.count)

-- the client's test of its secret: a password that is needed (RFC 4013, section 2), and keys without a password (RFC
-- 5802, section 3)
abbrev pub secret_tests : Secret → List ℕ → List (ScramErrorKind × Type 0)
secret_tests (Password password) text = (NormalizeError, ¬ IsNormal password) ∷ []
secret_tests (Keys keys) text = (StaleKeys, NamesOther keys text) ∷ []
secret_tests (Both password keys) text = (NormalizeError, NamesOther keys text × ¬ IsNormal password) ∷ []

-- what follows the client's nonce in that of both sides is empty or not printable (RFC 5802, section 7, `s-nonce`)
abbrev pub AddsNoNonce : List ℕ → List ℕ → Type 0
AddsNoNonce client_nonce text =
    (added : List ℕ) × Part text 0 (codes "r=" ++ (client_nonce ++ added)) × (is_nonce added ≡ false)

-- the client's tests of the grammar, in order (RFC 5802, section 7): of the server's part of the nonce, of how the count is
-- spelled, and of the parts after the count
abbrev pub grammar_tests : Client → List ℕ → List (ScramErrorKind × Type 0)
grammar_tests client text =
    (ClientNonceMismatch, T client.grammar × AddsNoNonce client.nonce text)
    ∷ (IterationCountParseError, T client.grammar × ((count : ℕ) → ¬ HasPlainCount text count))
    ∷ (MisplacedAttribute, T client.strict × HasMisplacedFrom 3 text)
    ∷ []

-- all tests of the client, in order: of the nonce, the salt and the iteration count (RFC 5802, section 5.1), of the
-- grammar (RFC 5802, section 7), and of its secret
abbrev pub server_first_tests : Client → List ℕ → List (ScramErrorKind × Type 0)
server_first_tests client text = nonce_tests client.nonce text ++
    ((SaltNotFound, (rest : List ℕ) → ¬ Part text 1 (codes "s=" ++ rest))
    ∷ (Base64DecodeError, (salt : List ℕ) → ¬ HasBase64 text 1 (codes "s=") salt)
    ∷ (IterationCountNotFound, (rest : List ℕ) → ¬ Part text 2 (codes "i=" ++ rest))
    ∷ (IterationCountParseError, (count : ℕ) → ¬ HasCount text count)
    ∷ (IterationCountTooSmall, (count : ℕ) × HasCount text count × (count < client.limits.min_iterations))
    ∷ (IterationCountTooLarge, (count : ℕ) × HasCount text count × (client.limits.max_iterations < count))
    ∷ (grammar_tests client text ++ secret_tests client.secret text))

-- the client reaches the salt, for which it allocates: the nonce has passed its tests, and the second part is a salt
-- (RFC 5802, section 5.1)
abbrev pub ReachesSalt : List ℕ → List ℕ → Type 0
ReachesSalt client_nonce text =
    NoneHolds (nonce_tests client_nonce text) × ((rest : List ℕ) × Part text 1 (codes "s=" ++ rest))

-- what the client reads (RFC 5802, section 5.1): the first error that applies, or the values that are named; extensions
-- after the third part are ignored
unfoldable pub ReadsServerFirst : Client → List ℕ → Result ServerFirst ScramErrorKind → Type 0
ReadsServerFirst client text answer = Reads (server_first_tests client text) (NamesServerFirst text) answer

-- server-first-message (RFC 5802, section 7): the nonce of both sides, and the salt and the count of the record, in
-- decimal without leading zeros
abbrev pub server_first_of : List ℕ → Record → List ℕ
server_first_of nonce stored =
    joined ((codes "r=" ++ nonce) ∷ (codes "s=" ++ base64_text stored.salt) ∷ (codes "i=" ++ decimal stored.count) ∷ [])

-- a challenge (RFC 5802, section 5): its user, the client's GS2 header and bare message, the server's message, and the
-- nonce of both sides
pub record ServerChallenge : Type 0 where
  pub user : List ℕ
  pub header : Gs2Header
  pub bare : List ℕ
  pub first : List ℕ
  pub nonce : List ℕ

-- an exchange that is open: its challenge, and the record that the challenge was made with
pub record OpenExchange : Type 0 where
  pub challenge : ServerChallenge
  pub stored : Record

-- the challenge that the code's value holds
abbrev pub challenge_values : ServerFirstMessage → ServerChallenge
challenge_values message = record {
  user = cow_str_bytes message.username;
  header = record { flag = message.header; acts_for = option_map cow_str_bytes message.acts_for };
  bare = message.client_first_message_bare.now;
  first = message.message;
  nonce = message.client_server_nonce;
}

-- the challenge to a parsed client-first message, with the server's nonce and the user's record
abbrev pub challenge_of : ClientFirst → List ℕ → Record → ServerChallenge
challenge_of client server_nonce stored =
    let nonce = client.nonce ++ server_nonce in
    record {
      user = client.user;
      header = client.header;
      bare = client.bare;
      first = server_first_of nonce stored;
      nonce = nonce;
    }

-- the server allocates: for an escaped identity or name, or for the challenge to a known user (RFC 5802, section 5.1)
abbrev pub ReachesChallenge : Provider → List ℕ → Type 0
ReachesChallenge provider text = HasEscapes provider.rules text
    ⊎ ((client : ClientFirst) × (stored : Record) × ReadsClientFirst provider.rules text (Ok client)
    × (provider.records client.user ≡ Some stored))

-- what the server answers to a client-first message (RFC 5802, section 5): the first error, nothing to an unknown user,
-- or the challenge
abbrev pub AnswersClientFirst : Provider → List ℕ → List ℕ → Result (Option ServerChallenge) ServerScramErrorKind → Type 0
AnswersClientFirst provider server_nonce text (Ok None) = (client : ClientFirst)
    × ReadsClientFirst provider.rules text (Ok client) × (provider.records client.user ≡ None)
AnswersClientFirst provider server_nonce text (Ok (Some challenge)) =
    (client : ClientFirst) × (stored : Record) × ReadsClientFirst provider.rules text (Ok client)
    × (provider.records client.user ≡ Some stored) × (challenge ≡ challenge_of client server_nonce stored)
AnswersClientFirst provider server_nonce text (Err fault) = ReadsClientFirst provider.rules text (Err fault)
