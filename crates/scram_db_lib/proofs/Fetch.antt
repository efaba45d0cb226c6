-- What a row and an error of the pages say of a fetched record.
use Rattle.std.proofs.Common.{◌≡◌, Option, Some, None, Result, Ok, Err, MatchResult}
use Rattle.sqlite_value.specs.Order.{Row}
use Rattle.sqlite_pages.specs.Calls.{FailsFor}
use Rattle.sqlite_pages.specs.declared.error.Error.{Error}
use Rattle.sqlite_pages.specs.declared.error.Error.TheVariants.{Corrupt, Io, Full, OutOfMemory}
use Rattle.sqlite_pages.specs.declared.pages.Pages.{Ghosts}
use Rattle.scram_db_lib.specs.declared.row.StoredUser.{StoredUser}
use Rattle.scram_db_lib.specs.declared.error.DatabaseError.{DatabaseError}
use Rattle.scram_db_lib.specs.declared.error.DatabaseError.TheVariants as fault
use Rattle.scram_db_lib.specs.Users.{FailsToFetch, IsFetched, ReadsRow, named}

pub fails : {P : Type 0} (g : Ghosts P) (old new : P) (row : Option Row) (e : Error) → FailsFor g old new ⊥ e
    → FailsToFetch g old new row (named e)
fails g old new None Corrupt h = absurd h
fails g old new None Io h = h
fails g old new None Full h = h
fails g old new None OutOfMemory h = tt
fails g old new (Some row) Corrupt h = absurd h
fails g old new (Some row) Io h = h
fails g old new (Some row) Full h = h
fails g old new (Some row) OutOfMemory h = tt

pub misreads : {P : Type 0} (g : Ghosts P) (old new : P) (row : Row) (e : DatabaseError) → ReadsRow row (Err e)
    → FailsToFetch g old new (Some row) e
misreads g old new row fault.Missing h = absurd h
misreads g old new row fault.DanglingLink h = absurd h
misreads g old new row fault.NotAFile h = absurd h
misreads g old new row fault.Locked h = absurd h
misreads g old new row fault.Journal h = absurd h
misreads g old new row (fault.Unopened kind) h = absurd h
misreads g old new row fault.NotADatabase h = absurd h
misreads g old new row fault.OtherSchema h = absurd h
misreads g old new row fault.Damaged h = absurd h
misreads g old new row fault.WrongRow h = h
misreads g old new row fault.Io h = absurd h
misreads g old new row fault.Full h = absurd h
misreads g old new row fault.OutOfMemory h = tt

pub given : {P : Type 0} (g : Ghosts P) (old new : P) (row : Row) (read : Result StoredUser DatabaseError)
    (out : Result (Option StoredUser) DatabaseError)
    → ReadsRow row read → MatchResult read (λ user. out ≡ Ok (Some user)) (λ e. out ≡ Err e)
    → MatchResult out (IsFetched (Some row)) (FailsToFetch g old new (Some row))
given g old new row (Ok user) out h same = rw same h
given g old new row (Err e) out h same = rw same (misreads g old new row e h)
