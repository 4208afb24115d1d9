-- For which names a call on a directory is refused. (own)
use Rattle.std.specs.Prelude.{Option, Some, None, is_some, if◌then◌else◌}
use Rattle.zn_stand.specs.Maps.{Name}
use Rattle.zn_stand.specs.Directory.{Directory, file_at}
use Rattle.zn_stand.specs.Calls.{Call, TellNames, TellLen, ReadFrom, WriteFrom, SetLength, CreateFile, SyncFile}
use Rattle.zn_files.specs.declared.error.FileError.{FileError}
use Rattle.zn_files.specs.declared.error.FileError.TheVariants.{Missing, Exists}

-- a call on a file is refused where the file isn't there
abbrev pub unless_there : Directory → Name → Option FileError
unless_there d name = if is_some (file_at d name) then None else Some Missing

-- a call that creates a file is refused where the file is there
abbrev pub if_there : Directory → Name → Option FileError
if_there d name = if is_some (file_at d name) then Some Exists else None

-- what refuses a call
abbrev pub refusal : Call → Directory → Option FileError
refusal TellNames d = None
refusal (TellLen name) d = unless_there d name
refusal (ReadFrom name at n) d = unless_there d name
refusal (WriteFrom name at bytes) d = unless_there d name
refusal (SetLength name len) d = unless_there d name
refusal (CreateFile name) d = if_there d name
refusal (SyncFile name) d = unless_there d name
