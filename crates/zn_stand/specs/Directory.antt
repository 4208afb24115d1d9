-- A directory of files, and what a stop of the host may leave of it. (own)
use Rattle.std.specs.Prelude.{◌≡◌, ℕ, List, Option, Some, None, ⊤}
use Rattle.std.specs.FinMap.{get, insert}
use Rattle.zn_stand.specs.File.{File, at_rest, IsImage, IsSoundFile}
use Rattle.zn_stand.specs.Maps.{Name, NameMap, mapped}

-- the file of each name
abbrev pub Directory : Type 0
Directory = NameMap File

-- the bytes of each name
abbrev pub Contents : Type 0
Contents = NameMap (List ℕ)

-- the file of this name, if there is one
abbrev pub file_at : Directory → Name → Option File
file_at d name = get d name

-- the bytes of this name, if there are any
abbrev pub bytes_at : Contents → Name → Option (List ℕ)
bytes_at c name = get c name

-- the directory with this file in place, if one is given
abbrev pub with_file : Directory → Name → Option File → Directory
with_file d name None = d
with_file d name (Some f) = insert d name f

-- as a read gives it
abbrev pub contents : Directory → Contents
contents d = mapped (λ f. Some f.bytes) d

-- the directory of files with these bytes, all of them at rest
abbrev pub rested : Contents → Directory
rested c = mapped (λ bytes. Some (at_rest bytes)) c

-- A stop leaves each file by itself. A file that was never synced is there or isn't; one that was synced is there.
abbrev pub MayHave : Option File → Option (List ℕ) → Type 0
MayHave None None = ⊤
MayHave None (Some bytes) = ⊥
MayHave (Some f) None = f.at_sync ≡ None
MayHave (Some f) (Some bytes) = IsImage f bytes

-- what a stop may leave of a directory: an image of it
pub record IsImageOf (d : Directory) (image : Contents) : Type 0 where
  pub each : (name : Name) → MayHave (file_at d name) (bytes_at image name)

-- each file keeps to what files keep to
abbrev pub IsSoundDirectory : Directory → Type 0
IsSoundDirectory d = (name : Name) (f : File) → file_at d name ≡ Some f → IsSoundFile f
