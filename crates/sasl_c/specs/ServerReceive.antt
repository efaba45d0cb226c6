-- What a call of `fe2o3_sasl_server_receive` makes of bytes, or that it needs the records of the user whom they claim.
use Rattle.std.specs.Prelude.{◌≡◌, ◌≤◌, ◌⊎◌, ℕ, List, true, false, length, Result, Err}
use Rattle.fe2o3_scram.specs.Readings.{NoneHolds}
use Rattle.sasl_c.specs.declared.sasl_server.SaslServerConfig.{SaslServerConfig as Config}
use Rattle.sasl_c.specs.declared.sasl_server.SaslServer.{SaslServer as Struct}
use Rattle.sasl_c.specs.declared.status.Status.{Status}
use Rattle.sasl_c.specs.declared.status.Status.TheVariants as statuses
use Rattle.sasl_c.specs.declared.status.WriteError.{WriteError}
use Rattle.sasl_c.specs.declared.status.WriteError.TheVariants.{Other}
use Rattle.sasl_c.specs.Client.{is_set}
use Rattle.sasl_c.specs.Connection.{side_tests}
use Rattle.sasl_c.specs.Peeks.{AwaitsFrame}
use Rattle.sasl_c.specs.SaslServer.{Named, NotNamed, ReceivesAsServer, config_tests}
use Rattle.sasl_c.specs.Status.{FillsWithin, Room, with_written}

-- the bytes complete a frame that claims this user, and the configuration does not have what the store has of users
abbrev pub NeedsRecords : Config → Struct → List ℕ → List ℕ → Type 0
NeedsRecords config server bytes name = (is_set config.looked_up ≡ false) × Named server bytes name

-- the configuration has what the store has of the user whom the bytes claim, or there is no such user
unfoldable pub NeedsNoRecords : Config → Struct → List ℕ → Type 0
NeedsNoRecords config server bytes = (is_set config.looked_up ≡ true) ⊎ ((why : Status) × NotNamed server bytes why)

-- a call that needs no records: what it makes of bytes
abbrev pub ReceivesKnown : Config → List ℕ → List ℕ → Struct → Struct → ℕ → Result (List ℕ) Status → Type 0
ReceivesKnown config bytes nonce before after taken result = NeedsNoRecords config before bytes
    × ReceivesAsServer config bytes nonce before after taken result

-- a call that needs the records of a user: it writes the name, and its error says so
abbrev pub AsksForRecords : Config → List ℕ → Struct → Room → Room → Result (Unit {0}) WriteError → Type 0
AsksForRecords config bytes before room left answer = (name : List ℕ) × NeedsRecords config before bytes name
    × (answer ≡ Err (Other statuses.NeedsRecords)) × (520 ≤ length room.bytes)
    × (left.bytes ≡ with_written name room.bytes) × (left.len ≡ length name) × (length name ≤ 512)

-- what a call writes and returns: where it needs no records, what is to be sent, or why there is nothing; or otherwise
-- the name of the user; or that it is out of memory, or the room too small
unfoldable pub ReceivesOrAsks : Config → List ℕ → List ℕ → Struct → Struct → ℕ → Room → Room → Result (Unit {0}) WriteError
    → Type 0
ReceivesOrAsks config bytes nonce before after taken room left answer =
    FillsWithin 520 (ReceivesKnown config bytes nonce before after taken) room left answer
    ⊎ AsksForRecords config bytes before room left answer

-- where a call requests memory: for the frame that the bytes complete, if it has to find out whose records it needs; or for
-- what it makes of bytes
abbrev pub ReceiveAsks : Config → Struct → Type 0
ReceiveAsks config server = ((is_set config.looked_up ≡ false) × AwaitsFrame server.connection)
    ⊎ (NoneHolds (side_tests server.connection) × NoneHolds (config_tests config))
