-- What the inits of a connection claim (AMQP 1.0, part 5, section 5.3.3.2), and a server that keeps the last claim.
use Rattle.std.specs.Prelude.{◌≡◌, ◌⊎◌, ℕ, Bool, true, false, Option, Some, None, MatchOption, option_map, List, codes, string_bytes, Ok}
use Rattle.fe2o3_sasl_wire.specs.SaslFrames as frames
use Rattle.fe2o3_sasl_wire.specs.SaslFrames.{SaslFrame}
use Rattle.fe2o3_scram.specs.ChannelBinding.{mechanism_of, no_data}
use Rattle.fe2o3_scram.specs.ClientFirst.{ClientFirst, HasEscapes, ReadsClientFirst, either_header}
use Rattle.fe2o3_scram.specs.declared.hmac.ScramVersion.{ScramVersion}
use Rattle.fe2o3_scram.specs.declared.scram_messages.server_rules.ServerRules.{ServerRules}
use Rattle.fe2o3_sasl_core.specs.PlainServer.{IsTaken, PlainParts, SpellsPlain}
use Rattle.fe2o3_sasl_core.specs.declared.login_attempts.LoginAttempt.{LoginAttempt}

-- ---- what an init claims

-- a reader that accepts the GS2 header of clients that bind a channel of any kind (RFC 5929, sections 3 and 4; RFC 9266,
-- section 2). A client-first message shows the kind and no data, so that the data do not matter. The reader is strict,
-- like every server that binds a channel (`is_strict`)
abbrev pub any_kind : ServerRules
any_kind = record {
  accept_cbind_flag_y = false;
  strict = false;
  reject_misplaced = false;
  channels =
      Some (record { tls_unique = Some no_data; tls_server_end_point = Some no_data; tls_exporter = Some no_data });
  accept_authzid = false;
}

-- the GS2 headers of a mechanism (RFC 5802, section 6): with -PLUS the client binds a channel, and without it none
abbrev pub headers_for : Bool → ServerRules
headers_for false = either_header
headers_for true = any_kind

-- those with an identity too, if it is accepted. A reader that accepts identities is strict, like every server that does
-- (`is_strict`), so that no single reader accepts each message that some server accepts
abbrev pub headers_of : Bool → Bool → ServerRules
headers_of plus accept = record (headers_for plus) { accept_authzid = accept }

-- a client-first message of SCRAM, with -PLUS or without it, names this user (RFC 5802, section 7): to a server that accepts
-- identities or to one that accepts none
abbrev pub NamesUser : Bool → List ℕ → List ℕ → Type 0
NamesUser plus text name = (accept : Bool) × (first : ClientFirst)
    × ReadsClientFirst (headers_of plus accept) text (Ok first) × (name ≡ first.user)

-- an initial response of this mechanism claims this user name: a client-first message of SCRAM, after a GS2 header of
-- the mechanism (RFC 5802, sections 4, 6 and 7), or a message of PLAIN that is accepted for a test (RFC 4616, section 2)
abbrev pub ClaimsUser : List ℕ → List ℕ → List ℕ → Type 0
ClaimsUser mechanism text name =
    ((version : ScramVersion) × (plus : Bool) × (mechanism ≡ mechanism_of version plus) × NamesUser plus text name)
    ⊎ ((mechanism ≡ codes "PLAIN") × ((parts : PlainParts) × SpellsPlain parts text × IsTaken true parts
    × (name ≡ parts.user)))

-- the user name that an initial response claims, or none if it claims none
abbrev pub ClaimOf : List ℕ → List ℕ → Option (List ℕ) → Type 0
ClaimOf mechanism text user =
    MatchOption user ((name : List ℕ) → ¬ ClaimsUser mechanism text name) (ClaimsUser mechanism text)

-- memory is requested to read a claim: the initial response claims a name, or its client-first message has a name or an
-- identity with escapes
abbrev pub ClaimAllocates : List ℕ → List ℕ → Type 0
ClaimAllocates mechanism text = ((version : ScramVersion) × (plus : Bool) × (mechanism ≡ mechanism_of version plus)
    × ((accept : Bool) × HasEscapes (headers_of plus accept) text))
    ⊎ ((name : List ℕ) × ClaimsUser mechanism text name)

-- what an init claims: its mechanism, the user name of its initial response, and its hostname
pub record Attempt : Type 0 where
  pub mechanism : List ℕ
  pub user : Option (List ℕ)
  pub hostname : Option (List ℕ)

-- the user name that an init claims by its initial response; without one it claims none
abbrev pub ClaimIn : List ℕ → Option (List ℕ) → Option (List ℕ) → Type 0
ClaimIn mechanism (Some text) user = ClaimOf mechanism text user
ClaimIn mechanism None user = user ≡ None

-- the frame is an init that claims this
abbrev pub IsAttempt : SaslFrame → Attempt → Type 0
IsAttempt (frames.Init mechanism response hostname) attempt = (attempt.mechanism ≡ mechanism)
    × ClaimIn mechanism response attempt.user × (attempt.hostname ≡ hostname)
IsAttempt frame attempt = ⊥

-- ---- a server that keeps the last claim

-- the user that an init claims, or that a late initial response claims if the init claims none
abbrev pub or_late : Option (List ℕ) → Option (List ℕ) → Option (List ℕ)
or_late (Some user) late = Some user
or_late None late = late

-- the claim of an init, with the user of a late initial response
abbrev pub with_late : Attempt → Option (List ℕ) → Attempt
with_late attempt late = record attempt { user = or_late attempt.user late }

-- the user that a response claims after an init of this mechanism that claims this user: if it claims none, the response may
-- be its initial response (RFC 4422, section 5)
abbrev pub LateClaim : Option (List ℕ) → List ℕ → List ℕ → Option (List ℕ) → Type 0
LateClaim (Some user) mechanism text late = late ≡ None
LateClaim None mechanism text late = ClaimOf mechanism text late

-- the user that a response claims after the last init, if there is one
abbrev pub LateUser : Option Attempt → List ℕ → Option (List ℕ) → Type 0
LateUser None text late = late ≡ None
LateUser (Some attempt) text late = LateClaim attempt.user attempt.mechanism text late

-- the last claim before a response and after it
abbrev pub RecordsResponse : List ℕ → Option Attempt → Option Attempt → Type 0
RecordsResponse text None after = after ≡ None
RecordsResponse text (Some attempt) after = (late : Option (List ℕ))
    × LateClaim attempt.user attempt.mechanism text late × (after ≡ Some (with_late attempt late))

-- the last claim before a frame and after it: an init replaces it, a response may add the user, and every other frame leaves
-- it
abbrev pub RecordsFrame : SaslFrame → Option Attempt → Option Attempt → Type 0
RecordsFrame (frames.Init mechanism response hostname) before after =
    (attempt : Attempt) × IsAttempt (frames.Init mechanism response hostname) attempt × (after ≡ Some attempt)
RecordsFrame (frames.Response text) before after = RecordsResponse text before after
RecordsFrame frame before after = after ≡ before

-- the frame is an init
abbrev pub IsInitFrame : SaslFrame → Type 0
IsInitFrame (frames.Init mechanism response hostname) = Unit {0}
IsInitFrame frame = ⊥

-- memory is requested to read the user that a response claims
abbrev pub LateAllocates : Option Attempt → SaslFrame → Type 0
LateAllocates (Some attempt) (frames.Response text) = (attempt.user ≡ None) × ClaimAllocates attempt.mechanism text
LateAllocates last frame = ⊥

-- ---- the code's values

-- the claim that a value is
abbrev pub attempt_of : LoginAttempt → Attempt
attempt_of attempt = record {
  mechanism = string_bytes attempt.mechanism;
  user = option_map string_bytes attempt.claimed_user;
  hostname = option_map string_bytes attempt.hostname;
}
