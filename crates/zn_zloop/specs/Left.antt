-- What a stop while a zone's file is finished may leave. (own)
use Rattle.std.specs.Prelude.{◌≡◌, ◌⊎◌, ℕ, ◌-◌, ◌≤◌, List, ◌++◌, length, replicate, Option, Some, None}
use Rattle.std.specs.Option.{option_map}
use Rattle.zn_stand.specs.File.{File, resized}
use Rattle.zn_stand.specs.Maps.{Name}
use Rattle.zn_stand.specs.Directory.{Directory, Contents, file_at, bytes_at, MayHave, IsImageOf}

-- the file has the bytes that it had, or these with zeros up to the length
abbrev pub IsOldOrGrown : List ℕ → ℕ → Option (List ℕ) → Type 0
IsOldOrGrown bytes len left = (left ≡ Some bytes) ⊎ (left ≡ Some (bytes ++ replicate (len - length bytes) 0))

-- An image of the directory as it was, or one in which the file, if it isn't longer, is as it was or has grown whole.
abbrev pub LeftByFinish : Name → ℕ → Directory → Contents → Type 0
LeftByFinish name len d image = IsImageOf d image ⊎ ((f : File) → file_at d name ≡ Some f → length f.bytes ≤ len → IsOldOrGrown f.bytes len (bytes_at image name))

-- what is left of the file is what a stop may leave of it once it has this length
abbrev pub MayLeaveInResize : Name → ℕ → Option Directory → Contents → Type 0
MayLeaveInResize name len None image = ⊥
MayLeaveInResize name len (Some d) image = MayHave (option_map (λ f. resized f len) (file_at d name)) (bytes_at image name)

-- the same of a finish, where contents are told
abbrev pub MayLeaveInFinish : Name → ℕ → Option Directory → Contents → Type 0
MayLeaveInFinish name len None image = ⊥
MayLeaveInFinish name len (Some d) image = LeftByFinish name len d image
