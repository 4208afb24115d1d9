-- The calls on a directory, and what each makes of it. (own)
use Rattle.std.specs.Prelude.{◌≡◌, ℕ, ◌+◌, ◌≤◌, List, length, Option, Some, None, is_some, ⊤, if◌then◌else◌}
use Rattle.std.specs.Option.{option_map}
use Rattle.zn_stand.specs.File.{File, AreBytes, created, written, resized, synced}
use Rattle.zn_stand.specs.Maps.{Name}
use Rattle.zn_stand.specs.Directory.{Directory, file_at, with_file}

-- A call: tell the names; tell a file's length; read so many bytes of it from a place on; write bytes from a place on;
-- set its length; create it; sync it.
pub data Call : Type 0 where
  TellNames : Call
  TellLen : Name → Call
  ReadFrom : Name → ℕ → ℕ → Call
  WriteFrom : Name → ℕ → List ℕ → Call
  SetLength : Name → ℕ → Call
  CreateFile : Name → Call
  SyncFile : Name → Call

-- the name of the file that a call is on
abbrev pub named : Call → Option Name
named TellNames = None
named (TellLen name) = Some name
named (ReadFrom name at n) = Some name
named (WriteFrom name at bytes) = Some name
named (SetLength name len) = Some name
named (CreateFile name) = Some name
named (SyncFile name) = Some name

-- the directory with the file of this name changed, if there is one
abbrev pub changed : Directory → Name → (File → File) → Directory
changed d name change = with_file d name (option_map change (file_at d name))

-- What a call makes of a directory. A call on a file that isn't there, or that creates one that is, changes nothing.
abbrev pub made : Call → Directory → Directory
made TellNames d = d
made (TellLen name) d = d
made (ReadFrom name at n) d = d
made (WriteFrom name at bytes) d = changed d name (λ f. written f at bytes)
made (SetLength name len) d = changed d name (λ f. resized f len)
made (CreateFile name) d = if is_some (file_at d name) then d else with_file d name (Some created)
made (SyncFile name) d = changed d name synced

-- The directory of which a stop inside a call leaves an image: after the call, but for a sync, which makes durable
-- what was there before.
abbrev pub during : Call → Directory → Directory
during TellNames d = d
during (TellLen name) d = d
during (ReadFrom name at n) d = d
during (WriteFrom name at bytes) d = made (WriteFrom name at bytes) d
during (SetLength name len) d = made (SetLength name len) d
during (CreateFile name) d = made (CreateFile name) d
during (SyncFile name) d = d

-- the part of a file lies within it, where the file is there
abbrev pub IsWithin : Directory → Name → ℕ → Type 0
IsWithin d name end = (f : File) → file_at d name ≡ Some f → end ≤ length f.bytes

-- what a call asks for: a read ends within its file, and a write begins there, with bytes
abbrev pub IsCallFor : Directory → Call → Type 0
IsCallFor d TellNames = ⊤
IsCallFor d (TellLen name) = ⊤
IsCallFor d (ReadFrom name at n) = IsWithin d name (at + n)
IsCallFor d (WriteFrom name at bytes) = IsWithin d name at × AreBytes bytes
IsCallFor d (SetLength name len) = ⊤
IsCallFor d (CreateFile name) = ⊤
IsCallFor d (SyncFile name) = ⊤
