-- Calls that are to fail. (own)
use Rattle.std.specs.Prelude.{ℕ, ◌-◌, Bool, ◌==◌, ◌&&◌, List, map, if◌then◌else◌}
use Rattle.std.specs.List.{list_any}
use Rattle.zn_stand.specs.Calls.{Call, TellNames, TellLen, ReadFrom, WriteFrom, SetLength, CreateFile, SyncFile}
use Rattle.zn_files.specs.declared.error.FileCall.{FileCall}
use Rattle.zn_files.specs.declared.error.FileCall.TheVariants.{Names, Len, ReadAt, WriteAt, SetLen, Create, Sync}
use Rattle.zn_files.specs.declared.listed.Listed.{Listed}

-- a number for each kind of call, by which they are compared
abbrev pub number_of : FileCall → ℕ
number_of Names = 0
number_of Len = 1
number_of ReadAt = 2
number_of WriteAt = 3
number_of SetLen = 4
number_of Create = 5
number_of Sync = 6

-- the kind of a call
abbrev pub kind_of : Call → FileCall
kind_of TellNames = Names
kind_of (TellLen name) = Len
kind_of (ReadFrom name at n) = ReadAt
kind_of (WriteFrom name at bytes) = WriteAt
kind_of (SetLength name len) = SetLen
kind_of (CreateFile name) = Create
kind_of (SyncFile name) = Sync

-- the next call of this kind is the one that is to fail
abbrev pub is_next : FileCall → Listed → Bool
is_next call listed = (number_of listed.call == number_of call) && (listed.left == 1)

-- the next call of this kind is to fail
abbrev pub is_due : List Listed → FileCall → Bool
is_due listed call = list_any (is_next call) listed

-- what is listed once a call of this kind has come
abbrev pub passed_one : FileCall → Listed → Listed
passed_one call listed = record listed { left = if number_of listed.call == number_of call then listed.left - 1 else listed.left }

-- the same of all that is listed
abbrev pub passed : List Listed → FileCall → List Listed
passed listed call = map (passed_one call) listed
