-- How far the login of a server has come, as a struct of a SCRAM server shows it.
use Rattle.std.proofs.Common.{arith, refl, sym, ap, inl, inr, ◌∙◌, ◌≡◌, ◌≢◌, ◌⊎◌, ◌≤◌, ◌<◌, ◌-◌, ℕ, List, length}
use Rattle.std.specs.Prelude.{true, false, Option, Some, None, replicate, take}
use Rattle.std.specs.Str.{IsUtf8}
use Rattle.std.proofs.lemmas.List.{length-take}
use Rattle.std.proofs.lemmas.Str.{IsUtf8-from_ascii}
use Rattle.std.proofs.Math.Seq.{take-append_seam}
use Rattle.fe2o3_scram.specs.Hmac.{zero_filled}
use Rattle.fe2o3_scram.specs.declared.channel_binding.ChannelKind.TheVariants.{TlsUnique, TlsServerEndPoint, TlsExporter}
use Rattle.fe2o3_scram.specs.declared.hmac.ScramVersion.{ScramVersion}
use Rattle.fe2o3_scram.specs.declared.hmac.ScramVersion.TheVariants.{Sha1, Sha256, Sha512}
use Rattle.fe2o3_scram.specs.declared.scram_messages.channel_binding_flag.ChannelBindingFlag.{ChannelBindingFlag}
use Rattle.fe2o3_scram.specs.declared.scram_messages.channel_binding_flag.ChannelBindingFlag.TheVariants.{NotSupported, ClientSupports, Required}
use Rattle.fe2o3_scram.specs.ServerFirst.{ServerChallenge}
use Rattle.fe2o3_sasl_core.proofs.lemmas.machines.ServerAnswerLemmas.{IsAscii-mechanism_symbol}
use Rattle.fe2o3_sasl_core.specs.Mechanisms.{mechanism_symbol}
use Rattle.fe2o3_sasl_core.specs.SavedServers.{KeptStage, KeptNothing, KeptOpen}
use Rattle.fe2o3_sasl_core.specs.declared.mechanism.Mechanism.{Mechanism}
use Rattle.fe2o3_sasl_core.specs.declared.mechanism.Mechanism.TheVariants as mechanisms
use Rattle.sasl_c.specs.declared.server.ScramServer.{ScramServer as ScramStruct}
use Rattle.sasl_c.specs.Server.{ChallengeHasRoom, HasAsked, HasSigned, IdentityHasRoom, IsLoggedIn, IsOpen, ShowsSigned, ShowsStage, ShowsUser, asked_struct, open_number, struct_where, named_struct, fresh_server_struct}
use Rattle.sasl_c.specs.Status.{version_number}
use Rattle.sasl_c.proofs.StatusLemmas.{carried}

-- a text that is the head of an array is no longer than the head
pub short : (n most : ℕ) (array text : List ℕ) → text ≡ take n array → n ≤ most → length text ≤ most
short n most array text same few =
    let long : length (take n array) ≤ n = omega (arith, length-take n array) in
    omega (arith, ap length same, long, few)

-- a challenge that a struct shows has room in it
open_room : (scram : ScramStruct) (challenge : ServerChallenge) → IsOpen scram challenge → ChallengeHasRoom challenge
open_room scram challenge is = let lengths = is.1 in (
  short scram.user_len 256 scram.user challenge.user (ap (λ (c : ServerChallenge). c.user) is.2) lengths.0,
  short scram.bare_len 1024 scram.bare challenge.bare (ap (λ (c : ServerChallenge). c.bare) is.2) lengths.1,
  short scram.nonce_len 512 scram.nonce challenge.nonce (ap (λ (c : ServerChallenge). c.nonce) is.2) lengths.2,
  short scram.first_len 1024 scram.first challenge.first (ap (λ (c : ServerChallenge). c.first) is.2) lengths.3,
  is.4.2,
)

-- no number of an open challenge is 0
pub never_zero : (header : ChannelBindingFlag) → 0 ≡ open_number header → ⊥
never_zero NotSupported same = omega (arith, same)
never_zero ClientSupports same = omega (arith, same)
never_zero (Required TlsUnique) same = omega (arith, same)
never_zero (Required TlsServerEndPoint) same = omega (arith, same)
never_zero (Required TlsExporter) same = omega (arith, same)

-- ---- the struct of a stage

shows_nothing : (scram : ScramStruct) → scram.state ≡ 0 → ShowsStage scram KeptNothing
shows_nothing scram fresh = (
  (λ version challenge shown. never_zero challenge.header.flag (sym fresh ∙ shown.1.0)),
  (λ user acts_for shown. absurd (omega (arith, fresh, shown.0))),
  λ mechanism nonce shown. absurd (omega (arith, fresh, shown.0)),
)

pub keeps_nothing : (scram : ScramStruct) (stage : KeptStage) → stage ≡ KeptNothing → scram.state ≡ 0
    → ShowsStage scram stage
keeps_nothing scram stage is fresh = carried (ShowsStage scram) KeptNothing stage (sym is) (shows_nothing scram fresh)

pub keeps_challenge : (scram : ScramStruct) (stage : KeptStage) (version : ScramVersion) (challenge : ServerChallenge)
    → stage ≡ KeptOpen version challenge → scram.version ≡ version_number version → IsOpen scram challenge
    → ShowsStage scram stage
keeps_challenge scram stage version challenge is hash shown =
    carried (ShowsStage scram) (KeptOpen version challenge) stage (sym is) (sym hash, shown)

pub no_challenge_room : (stage : KeptStage) (version : ScramVersion) (challenge : ServerChallenge)
    → stage ≡ KeptOpen version challenge → ¬ ChallengeHasRoom challenge → (scram : ScramStruct)
    → ¬ ShowsStage scram stage
no_challenge_room stage version challenge is wide scram shown =
    wide (open_room scram challenge (carried (ShowsStage scram) stage (KeptOpen version challenge) is shown).1)

pub ruleset of_stage = (keeps_nothing, keeps_challenge, no_challenge_room)

-- ---- the struct of a login

no_room_signed : (user : List ℕ) (acts_for : Option (List ℕ)) → (256 < length user) ⊎ ¬ IdentityHasRoom acts_for
    → (scram : ScramStruct) → ¬ HasSigned scram user acts_for
no_room_signed user acts_for (inl long) scram held =
    absurd (omega (arith, long, short scram.user_len 256 scram.user user held.2 held.1))
no_room_signed user acts_for (inr wide) scram held = wide held.4.2

no_room_for : (user : List ℕ) (acts_for : Option (List ℕ)) → (256 < length user) ⊎ ¬ IdentityHasRoom acts_for
    → (scram : ScramStruct) → ¬ IsLoggedIn scram user acts_for
no_room_for user acts_for (inl long) scram is =
    absurd (omega (arith, short scram.user_len 256 scram.user user is.0.2 is.0.1, long))
no_room_for user acts_for (inr wide) scram is = wide is.1.2

pub signs_user : (scram : ScramStruct) (user acts_for : Option (List ℕ)) (name : List ℕ) → user ≡ Some name
    → HasSigned scram name acts_for → ShowsSigned scram user acts_for
signs_user scram user acts_for name is held =
    carried (λ (u : Option (List ℕ)). ShowsSigned scram u acts_for) (Some name) user (sym is) held

pub signs_no_room : (user acts_for : Option (List ℕ)) (name : List ℕ) → user ≡ Some name
    → (256 < length name) ⊎ ¬ IdentityHasRoom acts_for → (scram : ScramStruct) → ¬ ShowsSigned scram user acts_for
signs_no_room user acts_for name is wide scram shows = no_room_signed name acts_for wide scram
    (carried (λ (u : Option (List ℕ)). ShowsSigned scram u acts_for) user (Some name) is shows)

pub signs_nobody : (user acts_for : Option (List ℕ)) → user ≡ None → (scram : ScramStruct)
    → ¬ ShowsSigned scram user acts_for
signs_nobody user acts_for is scram shows =
    carried (λ (u : Option (List ℕ)). ShowsSigned scram u acts_for) user None is shows

pub logs_user_in : (scram : ScramStruct) (user acts_for : Option (List ℕ)) (name : List ℕ) → user ≡ Some name
    → IsLoggedIn scram name acts_for → ShowsUser scram user acts_for
logs_user_in scram user acts_for name is held =
    carried (λ (u : Option (List ℕ)). ShowsUser scram u acts_for) (Some name) user (sym is) held

pub logs_no_room : (user acts_for : Option (List ℕ)) (name : List ℕ) → user ≡ Some name
    → (256 < length name) ⊎ ¬ IdentityHasRoom acts_for → (scram : ScramStruct) → ¬ ShowsUser scram user acts_for
logs_no_room user acts_for name is wide scram shows = no_room_for name acts_for wide scram
    (carried (λ (u : Option (List ℕ)). ShowsUser scram u acts_for) user (Some name) is shows)

pub logs_nobody_in : (scram : ScramStruct) (user acts_for : Option (List ℕ)) → user ≡ None → scram.state ≡ 0
    → ShowsUser scram user acts_for
logs_nobody_in scram user acts_for is fresh =
    carried (λ (u : Option (List ℕ)). ShowsUser scram u acts_for) None user (sym is) fresh

pub where_some : (scram : ScramStruct) (state : ℕ) (user acts_for : Option (List ℕ)) (name : List ℕ) → user ≡ Some name
    → scram ≡ named_struct state name acts_for → scram ≡ struct_where state user acts_for
where_some scram state user acts_for name is same =
    same ∙ sym (ap (λ (u : Option (List ℕ)). struct_where state u acts_for) is)

pub where_none : (scram : ScramStruct) (state : ℕ) (user acts_for : Option (List ℕ)) → user ≡ None
    → scram ≡ fresh_server_struct → scram ≡ struct_where state user acts_for
where_none scram state user acts_for is same =
    same ∙ sym (ap (λ (u : Option (List ℕ)). struct_where state u acts_for) is)

pub ruleset of_login = (
  signs_user,
  signs_no_room,
  signs_nobody,
  logs_user_in,
  logs_no_room,
  logs_nobody_in,
  where_some,
  where_none,
)

-- ---- the struct of an init that was asked

pub short_name : (mechanism : Mechanism) → length (mechanism_symbol mechanism) ≤ 1024
short_name (mechanisms.Scram Sha1 true) = omega arith
short_name (mechanisms.Scram Sha256 true) = omega arith
short_name (mechanisms.Scram Sha512 true) = omega arith
short_name (mechanisms.Scram Sha1 false) = omega arith
short_name (mechanisms.Scram Sha256 false) = omega arith
short_name (mechanisms.Scram Sha512 false) = omega arith
short_name mechanisms.External = omega arith
short_name mechanisms.Plain = omega arith
short_name mechanisms.Anonymous = omega arith

-- a text in a struct is the head of its array
head_of : (n : ℕ) (text : List ℕ) → text ≡ take (length text) (zero_filled n text)
head_of n text = sym (take-append_seam text (replicate (n - length text) 0))

pub asked_shows : (scram : ScramStruct) (mechanism : Mechanism) (nonce : List ℕ)
    → scram ≡ asked_struct mechanism nonce → length nonce ≡ 32 → HasAsked scram mechanism nonce
asked_shows scram mechanism nonce same sized =
    carried (λ (s : ScramStruct). HasAsked s mechanism nonce) (asked_struct mechanism nonce) scram
    (sym same) (
      refl,
      refl,
      head_of 512 nonce ∙ ap (λ n. take n (zero_filled 512 nonce)) sized,
      short_name mechanism,
      head_of 1024 (mechanism_symbol mechanism),
    )

-- a struct whose text is not UTF-8, or not the name of a mechanism, shows no init
pub not_utf8 : (scram : ScramStruct) (text : List ℕ) → text ≡ take scram.first_len scram.first → ¬ IsUtf8 text
    → (mechanism : Mechanism) (nonce : List ℕ) → ¬ HasAsked scram mechanism nonce
not_utf8 scram text same wrong mechanism nonce asked = wrong (carried IsUtf8 (mechanism_symbol mechanism) text (asked.4
    ∙ sym same)
    (IsUtf8-from_ascii (mechanism_symbol mechanism) (IsAscii-mechanism_symbol mechanism)))

pub not_named : (scram : ScramStruct) (text : List ℕ) → text ≡ take scram.first_len scram.first
    → ((mechanism : Mechanism) → mechanism_symbol mechanism ≢ text) → (mechanism : Mechanism) (nonce : List ℕ)
    → ¬ HasAsked scram mechanism nonce
not_named scram text same none mechanism nonce asked = none mechanism (asked.4 ∙ sym same)

pub named_asked : (scram : ScramStruct) (mechanism : Mechanism) (text nonce : List ℕ)
    → text ≡ take scram.first_len scram.first → mechanism_symbol mechanism ≡ text → scram.state ≡ 5 → scram.nonce_len ≡ 32
    → scram.first_len ≤ 1024 → nonce ≡ take 32 scram.nonce → HasAsked scram mechanism nonce
named_asked scram mechanism text nonce same named state sized few is =
    (state, sized, is, few, named ∙ same)

pub ruleset reads_asked = (not_utf8, not_named, named_asked)

pub ruleset asks = (short_name)
