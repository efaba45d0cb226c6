-- How far the login of a server has come, saved as plain values between two calls.
use Rattle.std.specs.Prelude.{◌≡◌, ℕ, Bool, if◌then◌else◌, Option, Some, None, List, [], Ok}
use Rattle.fe2o3_sasl_wire.specs.FrameView.{shown}
use Rattle.fe2o3_scram.specs.ActingRights.{Rights}
use Rattle.fe2o3_scram.specs.ChannelBinding.{is_required}
use Rattle.fe2o3_scram.specs.Credentials.{Record}
use Rattle.fe2o3_scram.specs.ScramServer.{ConcludesFrom, ServerFirstSent, ServerState, challenge_kept}
use Rattle.fe2o3_scram.specs.ServerFirst.{OpenExchange, ServerChallenge}
use Rattle.fe2o3_scram.specs.declared.hmac.ScramVersion.{ScramVersion}
use Rattle.fe2o3_scram.specs.declared.scram_messages.server_rules.ServerRules.{ServerRules}
use Rattle.fe2o3_sasl_wire.specs.SaslFrames.{SaslFrame}
use Rattle.fe2o3_sasl_core.specs.Servers.{ServerLogin, ServerSettings, ServerStage, ExchangeOpen, NotStarted, ResponseAsked, SignatureShown, UserAuthenticated, StageAnswers, is_offered_by, provider_by}
use Rattle.fe2o3_sasl_core.specs.declared.mechanism.Mechanism.{Mechanism}
use Rattle.fe2o3_sasl_core.specs.declared.mechanism.Mechanism.TheVariants as mechanisms
use Rattle.fe2o3_sasl_core.specs.declared.server.saved.SavedLogin.{SavedLogin}
use Rattle.fe2o3_sasl_core.specs.declared.server.saved.SavedStage.{SavedStage}
use Rattle.fe2o3_sasl_core.specs.declared.server.saved.SavedStage.TheVariants as saved

-- what is saved of how far a login has come: nothing is accepted; an init of this mechanism, with this nonce, was asked for
-- its initial response; a challenge of SCRAM is open; a signature was sent in a challenge; or a user has logged in
pub data KeptStage : Type 0 where
  KeptNothing : KeptStage
  KeptAsked : (mechanism : Mechanism) → (nonce : List ℕ) → KeptStage
  KeptOpen : (version : ScramVersion) → (challenge : ServerChallenge) → KeptStage
  KeptSignature : (login : ServerLogin) → KeptStage
  KeptLogin : (login : ServerLogin) → KeptStage

-- what is saved of a stage: all but the record of an open exchange. Whether its mechanism has -PLUS its challenge says
abbrev pub kept_stage : ServerStage → KeptStage
kept_stage NotStarted = KeptNothing
kept_stage (ResponseAsked mechanism nonce) = KeptAsked mechanism nonce
kept_stage (ExchangeOpen version plus exchange) = KeptOpen version exchange.challenge
kept_stage (SignatureShown login) = KeptSignature login
kept_stage (UserAuthenticated login) = KeptLogin login

-- a record without keys
abbrev pub no_record : Record
no_record = record { salt = []; count = 0; stored_key = []; server_key = [] }

-- no client-final message concludes a login by it, whatever the rules
unfoldable pub NoRecordIsUnmet : Type 0
NoRecordIsUnmet = (challenge : ServerChallenge) (version : ScramVersion) (rules : ServerRules) (rights : Rights)
    (text message : List ℕ) (next : ServerState)
    → ¬ ConcludesFrom (ServerFirstSent challenge no_record) version rules rights text (Ok (Some message)) next

-- a record, and in place of none one without keys
abbrev pub or_no_record : Option Record → Record
or_no_record None = no_record
or_no_record (Some stored) = stored

-- the record by which a server verifies this user: that by which it would answer the user's init now
abbrev pub record_now : ServerSettings → ScramVersion → Bool → List ℕ → Record
record_now settings version plus user = or_no_record ((provider_by settings version plus).records user)

-- the exchange of this challenge, by the record that its user has now
abbrev pub exchange_now : ServerSettings → ScramVersion → ServerChallenge → OpenExchange
exchange_now settings version challenge = record {
  challenge = challenge;
  stored = record_now settings version (is_required challenge.header.flag) challenge.user;
}

-- SCRAM by which a challenge was sent: with -PLUS if the client binds a channel (RFC 5802, section 6)
abbrev pub challenge_mechanism : ScramVersion → ServerChallenge → Mechanism
challenge_mechanism version challenge = mechanisms.Scram version (is_required challenge.header.flag)

-- the stage that is restored: an init or a challenge of a mechanism that the server does not offer is dropped
abbrev pub restored_stage : ServerSettings → KeptStage → ServerStage
restored_stage settings KeptNothing = NotStarted
restored_stage settings (KeptAsked mechanism nonce) =
    if is_offered_by settings mechanism then ResponseAsked mechanism nonce else NotStarted
restored_stage settings (KeptOpen version challenge) = if is_offered_by settings (challenge_mechanism version challenge)
    then ExchangeOpen version (is_required challenge.header.flag) (exchange_now settings version challenge)
    else NotStarted
restored_stage settings (KeptSignature login) = SignatureShown login
restored_stage settings (KeptLogin login) = UserAuthenticated login

-- how many HMAC values this takes: those of a look-up for an open challenge
abbrev pub restored_hmacs : ServerSettings → KeptStage → ℕ
restored_hmacs settings (KeptOpen version challenge) = if is_offered_by settings (challenge_mechanism version challenge)
    then (provider_by settings version (is_required challenge.header.flag)).look_up_cost else 0
restored_hmacs settings stage = 0

-- a stage is saved with texts, which are copied when it is restored
abbrev pub SavesTexts : KeptStage → Type 0
SavesTexts KeptNothing = ⊥
SavesTexts (KeptAsked mechanism nonce) = ⊥
SavesTexts stage = Unit {0}

-- a stage that is saved and restored at a server with these settings is as before
unfoldable pub IsRestored : ServerSettings → ServerStage → Type 0
IsRestored settings stage = restored_stage settings (kept_stage stage) ≡ stage

-- a server that is saved and restored between two frames is in the stage that it was in, if its settings, with the records
-- that they look up, are the same: this holds before the first frame, and after each frame if it held before it
abbrev pub RestoredStagesAreEqual : Type 0
RestoredStagesAreEqual = (settings : ServerSettings) → IsRestored settings NotStarted
    × ((stage next : ServerStage) (nonce : List ℕ) (frame reply : SaslFrame) → IsRestored settings stage
    → StageAnswers settings stage nonce frame reply next → IsRestored settings next)

-- ---- the code's values

-- who has logged in
abbrev pub saved_login : SavedLogin → ServerLogin
saved_login login = record {
  mechanism = login.mechanism;
  user = shown login.user;
  acts_for = shown login.acts_for;
}

-- what is saved that a value is
abbrev pub saved_stage : SavedStage → KeptStage
saved_stage saved.NotStarted = KeptNothing
saved_stage (saved.ResponseAsked mechanism nonce) = KeptAsked mechanism nonce
saved_stage (saved.ChallengeOpen version challenge) = KeptOpen version (challenge_kept challenge)
saved_stage (saved.SignatureSent login) = KeptSignature (saved_login login)
saved_stage (saved.Authenticated login) = KeptLogin (saved_login login)
