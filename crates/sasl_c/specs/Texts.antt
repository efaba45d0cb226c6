-- The texts of statuses, and the sizes of structs as C has them.
use Rattle.std.specs.Prelude.{ℕ, List, [], ◌∷◌, ◌++◌, ◌+◌, ◌*◌, codes, nat_eq, if◌then◌else◌}

-- the text of each status, by its number
abbrev pub status_texts : List (ℕ × List ℕ)
status_texts = (0, codes "Done")
    ∷ (1, codes "Out of memory")
    ∷ (2, codes "The room is too small")
    ∷ (3, codes "Not UTF-8")
    ∷ (4, codes "No such version")
    ∷ (5, codes "Too long")
    ∷ (6, codes "The password is not printable ASCII")
    ∷ (7, codes "The iteration count is 0")
    ∷ (8, codes "No such secret")
    ∷ (9, codes "No keys")
    ∷ (10, codes "The keys are of another version")
    ∷ (11, codes "The password is not that of the record")
    ∷ (12, codes "No such mechanism")
    ∷ (13, codes "The connection has ended")
    ∷ (14, codes "The struct of the connection is invalid")
    ∷ (15, codes "No user name is claimed")
    ∷ (16, codes "The records of the user are needed")
    ∷ (20, codes "Client: Invalid UTF-8")
    ∷ (21, codes "Client: InsufficientParts")
    ∷ (22, codes "Client: Extensions are not supported")
    ∷ (23, codes "Client: Cannot find Nonce in challenge")
    ∷ (24, codes "Client: Server Nonce should start with client Nonce")
    ∷ (25, codes "Client: Salt key is not found in challenge")
    ∷ (26, codes "Client: Invalid base64")
    ∷ (27, codes "Client: Iteration count is not found in challenge")
    ∷ (28, codes "Client: Cannot parse iteration count")
    ∷ (29, codes "Client: Iteration count too small")
    ∷ (30, codes "Client: Iteration count too large")
    ∷ (31, codes "Client: Error normalizing password")
    ∷ (32, codes "Client: The cached keys are for another salt or iteration count")
    ∷ (33, codes "Client: Invalid length")
    ∷ (34, codes "Client: LHS and RHS of XOR have different length")
    ∷ (35, codes "Client: Illegal SCRAM client state")
    ∷ (36, codes "Client: Server signature mismatch")
    ∷ (37, codes "Client: Attribute in the place of an extension")
    ∷ (40, codes "Server: Invalid UTF-8")
    ∷ (41, codes "Server: Cannot parse GS2-header")
    ∷ (42, codes "Server: Error parsing username field")
    ∷ (43, codes "Server: Error parsing client nonce")
    ∷ (44, codes "Server: Invalid length")
    ∷ (45, codes "Server: LHS and RHS of XOR have different length")
    ∷ (46, codes "Server: Error normalizing password")
    ∷ (47, codes "Server: Error parsing client final message")
    ∷ (48, codes "Server: Invalid channel binding")
    ∷ (49, codes "Server: Invalid base64")
    ∷ (50, codes "Server: Client final message has an incorrect nonce")
    ∷ (51, codes "Server: Client final message doesn't have a proof")
    ∷ (52, codes "Server: Authentication failed")
    ∷ (53, codes "Server: Illegal SCRAM client state")
    ∷ (54, codes "Server: Attribute in the place of an extension")
    ∷ (60, codes "Record: The record does not have five fields")
    ∷ (61, codes "Record: Unknown SCRAM mechanism")
    ∷ (62, codes "Record: Cannot parse iteration count")
    ∷ (63, codes "Record: Invalid base64")
    ∷ (64, codes "Record: Key length mismatch")
    ∷ (65, codes "Line: Line feed missing")
    ∷ (66, codes "Line: Space missing")
    ∷ (67, codes "Line: Cannot parse username")
    ∷ (68, codes "Lines: No such user")
    ∷ (69, codes "Line: The line cannot be written")
    ∷ (70, codes "Connection: The header is not that of SASL")
    ∷ (71, codes "Connection: The frame size is out of range")
    ∷ (72, codes "Connection: Unexpected frame")
    ∷ (73, codes "Connection: The reply does not fit in a frame")
    ∷ (74, codes "Connection: Decode Error")
    ∷ (75, codes "Connection: No SASL frame")
    ∷ (76, codes "Connection: Too large")
    ∷ (77, codes "Connection: Not implemented")
    ∷ (81, codes "Connection: The login was rejected")
    ∷ (82, codes "Connection: The login was rejected: system error")
    ∷ (83, codes "Connection: The login was rejected: permanent system error")
    ∷ (84, codes "Connection: The login was rejected: temporary system error")
    ∷ (85, codes "No such choice")
    ∷ (86, codes "The text holds a prohibited character")
    ∷ (87, codes "The text mixes directions")
    ∷ (88, codes "The text holds an unassigned code point")
    ∷ (89, codes "Client: The server sent an error")
    ∷ (90, codes "Connection: The other side ended the stream before the negotiation was complete")
    ∷ (91, codes "Channel binding data of a wrong length")
    ∷ (92, codes "No such channel")
    ∷ (93, codes "The password is empty") ∷ []

-- the text of a number in a table, and of every other number that of an unknown status
abbrev pub text_in : List (ℕ × List ℕ) → ℕ → List ℕ
text_in [] number = codes "Unknown status"
text_in (row ∷ rows) number = if nat_eq number row.0 then row.1 else text_in rows number

-- the text of a status, and the zero that ends a text of C
abbrev pub status_text : ℕ → List ℕ
status_text number = text_in status_texts number ++ (0 ∷ [])

-- ---- the size of each struct, in bytes: its fields one after the other, a number of 32 bits in 4 bytes, a byte in 1, and
-- a pointer, a length and what has one in 8, to a multiple of which it is filled

abbrev pub word : ℕ
word = 4

abbrev pub slice : ℕ
slice = 8 + 8

abbrev pub keys_size : ℕ
keys_size = 3 * word + 128 + 64 + 64

abbrev pub record_size : ℕ
record_size = 3 * word + 128 + 64 + 64

abbrev pub client_size : ℕ
client_size = 2 * word + 32 + 64 + keys_size

abbrev pub server_size : ℕ
server_size = 8 * word + 256 + 1024 + 512 + 1024 + 256

abbrev pub connection_size : ℕ
connection_size = 4 * word + 512 + word

abbrev pub login_size : ℕ
login_size = (5 * word + 4) + slice + slice + slice + 8 + (5 * word + 64 + 4)

abbrev pub sasl_login_size : ℕ
sasl_login_size = (word + 4) + slice + login_size

abbrev pub view_size : ℕ
view_size = 4 * word + 8 + 8 + slice + slice + slice

abbrev pub channels_size : ℕ
channels_size = 4 * word + 3 * 64

abbrev pub config_size : ℕ
config_size = 4 * word + slice + (word + 4) + slice + slice + slice + channels_size + (word + 4) + slice

abbrev pub rules_size : ℕ
rules_size = 2 * word + channels_size + 2 * word + slice

-- the sizes by the numbers of `fe2o3_size`, and 0 of every other number
abbrev pub struct_sizes : List (ℕ × ℕ)
struct_sizes = (0, login_size) ∷ (1, client_size) ∷ (2, keys_size) ∷ (3, server_size) ∷ (4, record_size)
    ∷ (5, connection_size) ∷ (6, sasl_login_size) ∷ (7, connection_size + client_size) ∷ (8, view_size)
    ∷ (9, config_size) ∷ (10, connection_size + server_size) ∷ (11, rules_size) ∷ []

abbrev pub size_in : List (ℕ × ℕ) → ℕ → ℕ
size_in [] number = 0
size_in (row ∷ rows) number = if nat_eq number row.0 then row.1 else size_in rows number
