-- The status that the program ends with: the project's own (README, "A program for people").
use Rattle.std.specs.Prelude.{ℕ, List, [], Option, Some, None, codes}
use Rattle.scram_base_lib.specs.declared.stop.Stop.{Stop}
use Rattle.scram_base_lib.specs.declared.stop.Stop.TheVariants as stops

-- 1: the other side rejects the login or closes. 2: wrong arguments. 3: this side rejects the login, or an audit finds no
-- complete login. 4: an input that cannot be read or audited, or a file, memory, random bytes or an output that fails
abbrev pub status_of : Stop → ℕ
status_of stops.Ended = 1
status_of stops.RefusedByServer = 1
status_of stops.WrongWords = 2
status_of stops.WrongSalt = 2
status_of stops.WrongNonce = 2
status_of stops.WrongName = 2
status_of stops.OddName = 2
status_of stops.Terminal = 2
status_of (stops.NoIterations least most) = 2
status_of stops.WrongChannelKind = 2
status_of stops.WrongChannelData = 2
status_of stops.WrongChannelLength = 2
status_of stops.WrongRight = 2
status_of stops.NoSuchRecord = 3
status_of stops.NotAlike = 3
status_of stops.OtherPassword = 3
status_of (stops.Client kind) = 3
status_of (stops.Rejected reason) = 3
status_of stops.UnknownUser = 3
status_of (stops.Closed why) = 3
status_of stops.OtherHash = 3
status_of stops.MessageRefused = 3
status_of (stops.MessageRefusedAt line) = 3
status_of stops.NothingInCommon = 3
status_of stops.NotVerified = 3
status_of stops.OneProofOfTwo = 3
status_of stop = 4

-- where the reason is that a line of the input is rejected, the reason that names this line
abbrev pub at_line : Stop → ℕ → Stop
at_line stops.NotBase64 line = stops.NotBase64At line
at_line stops.NotHex line = stops.NotHexAt line
at_line stops.MessageRefused line = stops.MessageRefusedAt line
at_line stop line = stop

-- what follows the file's name in the name of the file at fault: `.new` where a change is under way, `.secret` where the
-- secret of mock records cannot be used, `.rights` where the rights cannot be read, nothing where it is the file itself; no
-- file is at fault otherwise
abbrev pub suffix_of : Stop → Option (List ℕ)
suffix_of stops.Busy = Some (codes ".new")
suffix_of (stops.Secret fault) = Some (codes ".secret")
suffix_of (stops.SecretUnreadable kind) = Some (codes ".secret")
suffix_of (stops.SecretUnwritten kind) = Some (codes ".secret")
suffix_of stops.UnreadableRights = Some (codes ".rights")
suffix_of (stops.WrongRights line) = Some (codes ".rights")
suffix_of (stops.Unreported kind) = Some []
suffix_of stops.UnreportedClosed = Some []
suffix_of (stops.Unreadable kind) = Some []
suffix_of stops.NotUtf8 = Some []
suffix_of stops.Marked = Some []
suffix_of (stops.Line fault) = Some []
suffix_of (stops.NoRecord line why) = Some []
suffix_of stops.NotRegular = Some []
suffix_of stops.HardLinks = Some []
suffix_of stops.DanglingLink = Some []
suffix_of (stops.Unwritten kind) = Some []
suffix_of (stops.OwnerLost kind) = Some []
suffix_of (stops.Unsynced kind) = Some []
suffix_of (stops.Database why) = Some []
suffix_of stops.NoSuchRecord = Some []
suffix_of stops.NotAlike = Some []
suffix_of stops.WrongKeys = Some []
suffix_of stops.OtherMechanism = Some []
suffix_of stop = None
