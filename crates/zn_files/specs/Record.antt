-- The calls that a directory in memory keeps. (own)
use Rattle.std.specs.Prelude.{ℕ}
use Rattle.std.specs.String.{string_bytes}
use Rattle.zn_stand.specs.Calls.{Call, WriteFrom, SetLength, CreateFile, SyncFile}
use Rattle.zn_files.specs.declared.record.Change.{Change}
use Rattle.zn_files.specs.declared.record.Change.TheVariants.{Create, Write, SetLen, Sync}
use Rattle.zn_files.specs.declared.record.Recorded.{Recorded}

-- the call that was made
abbrev pub call_of : Change → Call
call_of (Create name) = CreateFile (string_bytes name)
call_of (Write name at bytes) = WriteFrom (string_bytes name) at bytes.items
call_of (SetLen name len) = SetLength (string_bytes name) len
call_of (Sync name) = SyncFile (string_bytes name)

-- how many calls there were, with this one, and the call
abbrev pub recorded_of : Recorded → ℕ × Call
recorded_of r = (r.number, call_of r.change)
