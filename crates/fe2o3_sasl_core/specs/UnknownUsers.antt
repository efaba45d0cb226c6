-- Unknown users of a server with mock authentication, as a law of pairs: what a stranger sees of a server that does not
-- know a name is what it sees of one that has the mock record of that name (`mock_record`). RFC 5802 leaves open what
-- a server answers to an unknown user. Each is the contract of a clause of `laws::unknown_users`.
use Rattle.std.specs.Prelude.{◌≡◌, ◌↔◌, ◌++◌, ℕ, List, Some, None, codes, take}
use Rattle.fe2o3_sasl_wire.specs.SaslFrames.{SaslFrame}
use Rattle.fe2o3_scram.specs.declared.scram_messages.server_rules.ServerRules.{ServerRules}
use Rattle.fe2o3_scram.specs.declared.hmac.ScramVersion.{ScramVersion}
use Rattle.fe2o3_scram.specs.declared.hmac.ScramVersion.TheVariants.{Sha512}
use Rattle.fe2o3_scram.specs.ActingRights.{Rights}
use Rattle.fe2o3_scram.specs.ClientFinal.{recovered_key}
use Rattle.fe2o3_scram.specs.Credentials.{Provider, Store, records_with, records_without, serving, with_rights}
use Rattle.fe2o3_scram.specs.Hmac.{digest, hmac_of}
use Rattle.fe2o3_scram.specs.MockSettings.{MockSettings, mock_record, mocking}
use Rattle.fe2o3_scram.specs.ScramServer.{ServerState}
use Rattle.fe2o3_sasl_core.specs.AnyMechanismLaws.{Machine}
use Rattle.fe2o3_sasl_core.specs.Costs.{acceptor_hmacs}
use Rattle.fe2o3_sasl_core.specs.Events.{Given, ServerSays}
use Rattle.fe2o3_sasl_core.specs.Runs.{Runs, AcceptorSteps}
use Rattle.fe2o3_sasl_core.specs.SaslAcceptor.{Acceptor, ScramAcceptor, acceptor_machine}
use Rattle.fe2o3_sasl_core.specs.ServerHistory.{Accepted, AcceptsAt, server_at}

-- a server in this state gives these replies to these events
abbrev pub GivesReplies : {S : Type 0} → Machine S → S → List Given → List ServerSays → Type 0
GivesReplies {S} machine state events replies = (last : S) × Runs (AcceptorSteps machine) state events replies last

-- the store without the records of a name
abbrev pub without_user : Store → List ℕ → Store
without_user store name = record { version = store.version; records = records_without store.records name }

-- the store with the mock record of a name in place of its record of that name
abbrev pub with_mock : Store → MockSettings → List ℕ → Store
with_mock store mock name =
    record { version = store.version; records = records_with store.records name (mock_record mock name) }

-- a server with mock authentication over a store, with these rights, in this state
abbrev pub mock_server : ServerRules → Rights → MockSettings → Store → ServerState → Acceptor
mock_server rules rights mock store state =
    ScramAcceptor (with_rights rights (mocking (Some mock) (serving rules store))) state

-- the salt of each mock record is an HMAC value (RFC 2104, section 2), cut to its length, of a text that no other
-- mechanism and no other name has: so one secret serves several mechanisms
abbrev pub SaltTextsDiffer : Type 0
SaltTextsDiffer = (text : ScramVersion → List ℕ → List ℕ)
    × ((mock : MockSettings) (name : List ℕ) → (mock_record mock name).salt
    ≡ take mock.salt_len (hmac_of Sha512 mock.secret (text mock.version name)))
    × ((version other : ScramVersion) (name other_name : List ℕ) → text version name ≡ text other other_name
    → (version ≡ other) × (name ≡ other_name))

-- two servers give the same replies to the same events
abbrev pub GivesAlike : {S : Type 0} → Machine S → S → S → Type 0
GivesAlike machine state other = (events : List Given) (replies : List ServerSays)
    → GivesReplies machine state events replies ↔ GivesReplies machine other events replies

-- an unknown user is answered like a user whose record is the mock record of the name
abbrev pub UnknownIsMock : Type 0
UnknownIsMock = (rules : ServerRules) (rights : Rights) (mock : MockSettings) (store : Store) (name : List ℕ)
    (state : ServerState) → GivesAlike acceptor_machine (mock_server rules rights mock (without_user store name) state)
    (mock_server rules rights mock (with_mock store mock name) state)

-- the answer to an unknown user takes as many HMAC values as that to a user with the mock record (RFC 5802, section 3)
abbrev pub UnknownCostsAsMock : Type 0
UnknownCostsAsMock = (rules : ServerRules) (rights : Rights) (mock : MockSettings) (store : Store) (name : List ℕ)
    (state : ServerState) (frame : SaslFrame) (n : ℕ)
    → acceptor_hmacs (mock_server rules rights mock (without_user store name) state) frame n
    ↔ acceptor_hmacs (mock_server rules rights mock (with_mock store mock name) state) frame n

-- an unknown user is accepted only by a proof whose key has the mock StoredKey as its digest, the HMAC value of the
-- name after a label
abbrev pub MockRecordIsMet : Type 0
MockRecordIsMet = (provider : Provider) (mock : MockSettings) (events : List Given) (replies : List ServerSays) (n : ℕ)
    (accepted : Accepted) → let server = mocking (Some mock) provider in
    AcceptsAt server events replies n accepted → provider.records accepted.challenge.client.user ≡ None
    → digest server.version (recovered_key (server_at server accepted.challenge) accepted.final)
    ≡ hmac_of mock.version mock.secret (codes "StoredKey:" ++ accepted.challenge.client.user)
