-- Calls of a server of SCRAM over one struct, without AMQP, which are calls of the library's server (RFC 5802, section 5). Each
-- statement is the contract of a clause of `server_laws::server_messages`.
use Rattle.std.specs.Prelude.{◌≡◌, ◌≢◌, ℕ, List, [], ◌∷◌, Some, OnErr, Ok, length}
use Rattle.fe2o3_scram.specs.ActingRights.{may_act}
use Rattle.fe2o3_scram.specs.Credentials.{Provider, VersionedRecord}
use Rattle.fe2o3_scram.specs.ScramServer.{ChallengesFrom, ConcludesFrom, Initial, ServerFinalSent, ServerFirstSent, ServerState}
use Rattle.fe2o3_scram.specs.ServerFirst.{ServerChallenge}
use Rattle.fe2o3_scram.specs.declared.scram_messages.server_rules.ServerRules.{ServerRules}
use Rattle.sasl_c.specs.declared.records.ScramRecord.{ScramRecord as Kept}
use Rattle.sasl_c.specs.declared.rules.ScramRules.{ScramRules as Rules}
use Rattle.sasl_c.specs.declared.server.ScramServer.{ScramServer as Struct}
use Rattle.sasl_c.specs.Acting.{rights_for}
use Rattle.sasl_c.specs.Records.{ShowsRecord}
use Rattle.sasl_c.specs.Rules.{ByRules, rules_of}
use Rattle.sasl_c.specs.Server.{Challenges, ClaimedUser, Concludes, FinalAsks, IsLoggedIn, IsOpen, OpensExchange, ReadsFirst, fresh_server_struct}
use Rattle.sasl_c.specs.Status.{AnswersText, AsksText, Fills, FillsWithin, Room, with_written}

-- a call that returned FE2O3_OK: `fe2o3_scram_server_first` with a nonce has answered a text by a message, or
-- `fe2o3_scram_server_final` has
pub data ServerMessage : Type 0 where
  ChallengeMessage : (nonce text message : List ℕ) → ServerMessage
  OutcomeMessage : (text message : List ℕ) → ServerMessage

-- what the contract of a call by these rules says, with this record, and with these identities for which the user may act
abbrev pub MakesMessage : ServerRules → Kept → List ℕ → ServerMessage → Struct → Struct → Type 0
MakesMessage rules kept identities (ChallengeMessage nonce text message) before after =
    Challenges rules kept nonce text (Ok message) × OpensExchange rules kept nonce text before after (Ok tt)
MakesMessage rules kept identities (OutcomeMessage text message) before after =
    Concludes rules identities kept text before after (Ok message)

-- what the library's server over this store does in the call of the same name
abbrev pub TakesMessage : Provider → ServerState → ServerMessage → ServerState → Type 0
TakesMessage provider state (ChallengeMessage nonce text message) next =
    ChallengesFrom state provider nonce text (Ok (Some message)) next
TakesMessage provider state (OutcomeMessage text message) next =
    ConcludesFrom state provider.version provider.rules provider.rights text (Ok (Some message)) next

-- the record is that of a user in the store
abbrev pub HasRecordOf : Provider → Kept → List ℕ → Type 0
HasRecordOf provider kept user = (shown : VersionedRecord) × ShowsRecord kept shown × (shown.version ≡ provider.version)
    × (provider.records user ≡ Some shown.stored)

-- a call is passed the record of the user that a client-first message claims, as `fe2o3_scram_server_claimed_user` reports; or
-- that of the user of the open challenge, with the rights that the store has
abbrev pub PassesRecord : Provider → Kept → List ℕ → ServerMessage → Struct → Type 0
PassesRecord provider kept identities (ChallengeMessage nonce text message) before =
    (user : List ℕ) → ClaimedUser provider.rules text (Ok user) → HasRecordOf provider kept user
PassesRecord provider kept identities (OutcomeMessage text message) before =
    (challenge : ServerChallenge) → IsOpen before challenge → HasRecordOf provider kept challenge.user
    × (may_act (rights_for challenge.user identities) challenge.user challenge.header.acts_for
    ≡ may_act provider.rights challenge.user challenge.header.acts_for)

-- calls over one struct that returned FE2O3_OK, each passed what this store has, and the calls of the library's server
abbrev pub CallsOverServer : Provider → Struct → List ServerMessage → Struct → Type 0
CallsOverServer provider before [] last = last ≡ before
CallsOverServer provider before (call ∷ calls) last = (kept : Kept) × (identities : List ℕ) × (after : Struct)
    × PassesRecord provider kept identities call before × MakesMessage provider.rules kept identities call before after
    × CallsOverServer provider after calls last

-- the calls of the same names of one server over this store, from this state of it to the last
abbrev pub CallsOfServer : Provider → ServerState → List ServerMessage → ServerState → Type 0
CallsOfServer provider state [] last = last ≡ state
CallsOfServer provider state (call ∷ calls) last = (next : ServerState) × TakesMessage provider state call next
    × CallsOfServer provider next calls last

-- the struct shows the state of a server: the challenge that is open, or the user who has logged in and the identity that it
-- acts for
abbrev pub ShowsServer : Struct → ServerState → Type 0
ShowsServer server Initial = server.state ≡ 0
ShowsServer server (ServerFirstSent challenge stored) = IsOpen server challenge
ShowsServer server (ServerFinalSent user acts_for) = IsLoggedIn server user acts_for

-- a call has changed neither the struct nor its room
abbrev pub Stays : Struct → Struct → Room → Room → Type 0
Stays before after room left = (after ≡ before) × (left.bytes ≡ room.bytes) × (left.len ≡ room.len)

-- the contract of each call says by the number that it returns what it has done: with 0, FE2O3_OK, it is such a call by the
-- rules that its struct of rules means, which has written its message, and with another number it has not changed the struct
abbrev pub ChallengesReturn : Type 0
ChallengesReturn = (rules : Rules) (kept : Kept) (nonce text : List ℕ) (before after : Struct) (number : ℕ) (room left : Room)
    → AnswersText number (λ answer. ByRules rules (Stays before after room left) (λ shown answer.
    Fills (Challenges shown kept nonce text) room left answer × OpensExchange shown kept nonce text before after answer
    × AsksText (ReadsFirst shown text) answer) answer)
    → (number ≡ 0 → (message : List ℕ)
    × MakesMessage (rules_of rules) kept rules.identities.now (ChallengeMessage nonce text message) before after
    × (left.bytes ≡ with_written message room.bytes) × (left.len ≡ length message)) × (number ≢ 0 → after ≡ before)

abbrev pub OutcomesReturn : Type 0
OutcomesReturn = (rules : Rules) (kept : Kept) (text : List ℕ) (before after : Struct) (number : ℕ) (room left : Room)
    → AnswersText number (λ answer. ByRules rules (Stays before after room left) (λ shown answer.
    FillsWithin 90 (Concludes shown rules.identities.now kept text before after) room left answer
    × OnErr answer (after ≡ before) × AsksText (FinalAsks shown kept text before) answer) answer)
    → (number ≡ 0 → (message : List ℕ)
    × MakesMessage (rules_of rules) kept rules.identities.now (OutcomeMessage text message) before after
    × (left.bytes ≡ with_written message room.bytes) × (left.len ≡ length message)) × (number ≢ 0 → after ≡ before)

-- calls over one struct of zeros that are passed what a store has of each user that is named are calls of the library's server
-- over this store, and the struct after them shows its state
abbrev pub MessagesAreOfServer : Type 0
MessagesAreOfServer = (provider : Provider) (last : Struct) (calls : List ServerMessage)
    → CallsOverServer provider fresh_server_struct calls last
    → (state : ServerState) × CallsOfServer provider Initial calls state × ShowsServer last state
