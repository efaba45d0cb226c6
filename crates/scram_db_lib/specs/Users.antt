-- The table of users in a SQLite file: which rows it has, and which records they are. The file format is
-- https://www.sqlite.org/fileformat2.html.
use Rattle.std.specs.Prelude.{ℕ, Bool, true, false, List, [], ◌∷◌, Option, Some, None, Result, Ok, Err, ◌≡◌, map, take, find, pos, nat_lt, ◌^◌, if◌then◌else◌, ⊤, codes, ◌++◌}
use Rattle.std.specs.Ordering.{is_lt, is_eq, is_gt}
use Rattle.std.specs.declared.cmp.Ordering.TheVariants.{Less, Greater}
use Rattle.std.specs.declared.cmp.Ordering.{Ordering}
use Rattle.sqlite_value.specs.declared.value.Value.{Value}
use Rattle.sqlite_value.specs.declared.value.Value.TheVariants.{Int, Text, Blob}
use Rattle.sqlite_value.specs.Order.{Row, column}
use Rattle.sqlite_value.specs.Keys.{entry_cmp, prefix_cmp, plain}
use Rattle.sqlite_record.specs.Record.{decode}
use Rattle.sqlite_pages.specs.PageMap.{PageMap}
use Rattle.sqlite_btree.specs.Chain.{Layout}
use Rattle.sqlite_btree.specs.Stored.{IsLaidIn, IsIndex}
use Rattle.sqlite_pages.specs.declared.error.Error.{Error}
use Rattle.sqlite_pages.specs.declared.error.Error.TheVariants as pages_error
use Rattle.sqlite_pages.specs.declared.pages.Pages.{Ghosts}
use Rattle.sqlite_pages.specs.Calls.{FailsFor}
use Rattle.scram_db_lib.specs.declared.row.StoredUser.{StoredUser}
use Rattle.scram_db_lib.specs.declared.row.Columns.{Columns}
use Rattle.scram_db_lib.specs.declared.error.DatabaseError.{DatabaseError}
use Rattle.scram_db_lib.specs.declared.error.DatabaseError.TheVariants as fault

-- the order of a table without rowids whose primary key is its first two columns (section 2.4)
abbrev pub by_key : List ℕ → List ℕ → Bool
by_key x y = is_lt (entry_cmp plain (take 2 (decode x)) (take 2 (decode y)))

-- the pages from `root` on are the table with these rows, each of them a record of the index b-tree (sections 1.6, 2.4)
pub record IsTable (size : ℕ) (pages : PageMap) (root : ℕ) (rows : List Row) : Type 0 where
  pub layout : Layout
  pub laid : IsLaidIn layout pages
  pub records : List (List ℕ)
  pub index : IsIndex by_key size layout root records
  pub read : map decode records ≡ rows

-- the text of the table, by which SQLite reads it: the project's own
unfoldable pub table_text : List ℕ
table_text = codes "CREATE TABLE users (name TEXT NOT NULL, mechanism TEXT NOT NULL, salt BLOB NOT NULL, "
    ++ (codes "iterations INTEGER NOT NULL, stored_key BLOB NOT NULL, server_key BLOB NOT NULL, "
    ++ codes "PRIMARY KEY (name, mechanism)) WITHOUT ROWID")

-- the row of the schema for the table of users, which begins with the page `root` (section 2.6)
abbrev pub table_row : ℕ → Row
table_row root =
    Text (codes "table") ∷ Text (codes "users") ∷ Text (codes "users") ∷ Int (pos root) ∷ Text table_text ∷ []

-- a row of the schema is that of the table of users, at any page; its third column is not read
pub record IsUsers (row : Row) : Type 0 where
  pub kind : column row 0 ≡ Text (codes "table")
  pub name : column row 1 ≡ Text (codes "users")
  pub text : column row 4 ≡ Text table_text

-- a row of the schema is that of the table of users, which begins with the page `root`
abbrev pub IsRowOfUsers : Row → ℕ → Type 0
IsRowOfUsers row root = IsUsers row × (column row 3 ≡ Int (pos root))

-- the key of a user's row for a mechanism
abbrev pub user_key : List ℕ → List ℕ → Row
user_key name mechanism = Text name ∷ Text mechanism ∷ []

-- the first row that begins with this key
abbrev pub row_with : Row → List Row → Option Row
row_with key rows = find (λ row. is_eq (prefix_cmp plain row key)) rows

-- where a row is against a key
abbrev pub key_side : Row → List ℕ → Ordering
key_side key bytes = prefix_cmp plain (decode bytes) key

-- where a row is against the place after a key; of no columns, all rows are after it
abbrev pub side_after : Row → List ℕ → Ordering
side_after [] bytes = Greater
side_after (value ∷ key) bytes = if is_gt (prefix_cmp plain (decode bytes) (value ∷ key)) then Greater else Less

-- a search has found this row, or there is none
abbrev pub IsRowFound : List Row → Row → Row → Bool → Type 0
IsRowFound rows key row true = row_with key rows ≡ Some row
IsRowFound rows key row false = row_with key rows ≡ None

-- a record of a password (RFC 5802, section 3)
pub record Record : Type 0 where
  pub salt : List ℕ
  pub count : ℕ
  pub stored_key : List ℕ
  pub server_key : List ℕ

abbrev pub blob_in : Value → Option (List ℕ)
blob_in (Blob bytes) = Some bytes
blob_in value = None

-- a count of 32 bits
abbrev pub count_in : Value → Option ℕ
count_in (Int (pos count)) = if nat_lt count (2 ^ 32) then Some count else None
count_in value = None

abbrev pub combined : Option (List ℕ) → Option ℕ → Option (List ℕ) → Option (List ℕ) → Option Record
combined (Some salt) (Some count) (Some stored_key) (Some server_key) =
    Some (record { salt = salt; count = count; stored_key = stored_key; server_key = server_key })
combined salt count stored_key server_key = None

-- the record of a row, whose columns are name, mechanism, salt, iterations, StoredKey and ServerKey
abbrev pub row_record : Row → Option Record
row_record row = combined (blob_in (column row 2)) (count_in (column row 3)) (blob_in (column row 4)) (blob_in (column row 5))

-- the row of a user's record
abbrev pub user_row : List ℕ → List ℕ → Record → Row
user_row name mechanism stored =
    Text name ∷ Text mechanism ∷ Blob stored.salt ∷ Int (pos stored.count) ∷ Blob stored.stored_key ∷ Blob stored.server_key ∷ []

abbrev pub user_record : StoredUser → Record
user_record user = record {
  salt = user.salt.items;
  count = user.iterations;
  stored_key = user.stored_key.items;
  server_key = user.server_key.items;
}

abbrev pub lent : Columns → Record
lent found = record {
  salt = found.salt.now;
  count = found.iterations;
  stored_key = found.stored_key.now;
  server_key = found.server_key.now;
}

-- a row is read as its record, or it has none, or memory runs out
abbrev pub ReadsRow : Row → Result StoredUser DatabaseError → Type 0
ReadsRow row (Ok user) = row_record row ≡ Some (user_record user)
ReadsRow row (Err fault.WrongRow) = row_record row ≡ None
ReadsRow row (Err fault.OutOfMemory) = ⊤
ReadsRow row (Err other) = ⊥

-- the error that names an error of the pages
abbrev pub named : Error → DatabaseError
named pages_error.Corrupt = fault.Damaged
named pages_error.Io = fault.Io
named pages_error.Full = fault.Full
named pages_error.OutOfMemory = fault.OutOfMemory

-- the record that was fetched is that of the row, and there is none exactly if there is no row
abbrev pub IsFetched : Option Row → Option StoredUser → Type 0
IsFetched None None = ⊤
IsFetched (Some row) (Some user) = row_record row ≡ Some (user_record user)
IsFetched None (Some user) = ⊥
IsFetched (Some row) None = ⊥

-- why a record of a well-formed table is not fetched: the row is no record, the file fails, or memory runs out
abbrev pub FailsToFetch : {P : Type 0} → Ghosts P → P → P → Option Row → DatabaseError → Type 0
FailsToFetch g old new (Some row) fault.WrongRow = row_record row ≡ None
FailsToFetch g old new row fault.Io = FailsFor g old new ⊥ pages_error.Io
FailsToFetch g old new row fault.Full = FailsFor g old new ⊥ pages_error.Full
FailsToFetch g old new row fault.OutOfMemory = ⊤
FailsToFetch g old new row other = ⊥
