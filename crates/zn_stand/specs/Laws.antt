-- Laws of directories and of what stops leave of them. (own)
use Rattle.std.specs.Prelude.{◌≡◌, ◌≢◌, ◌⊎◌, ◌↔◌, ℕ, ◌<◌, ◌≤◌, List, [], ◌++◌, length, slice_index, Option, Some, IsTrue, IsSome}
use Rattle.zn_stand.specs.File.{File, IsImage, is_kept, synced_bytes}
use Rattle.zn_stand.specs.Maps.{Name}
use Rattle.zn_stand.specs.Directory.{Directory, Contents, file_at, bytes_at, contents, rested, MayHave, IsImageOf, IsSoundDirectory}
use Rattle.zn_stand.specs.Calls.{Call, SyncFile, SetLength, made, during, named, IsCallFor}
use Rattle.zn_stand.specs.History.{History, moment, IsImageOfOne, MayLeave, LeftSince}

-- ---- what a stop leaves

-- what a read gives is an image
abbrev pub ReadIsImage : Type 0
ReadIsImage = (d : Directory) → IsSoundDirectory d → IsImageOf d (contents d)

-- after a sync a stop leaves of the file what a read gives
abbrev pub SyncLeavesRead : Type 0
SyncLeavesRead = (d : Directory) (name : Name) (f : File) (image : Contents) → file_at d name ≡ Some f → IsImageOf (made (SyncFile name) d) image → bytes_at image name ≡ Some f.bytes

-- a directory whose files are all at rest is left as it is
abbrev pub RestStays : Type 0
RestStays = (c image : Contents) → IsImageOf (rested c) image → image ≡ c

-- a file that was cut to nothing, and then synced, is empty in every image
abbrev pub EmptiedIsEmpty : Type 0
EmptiedIsEmpty = (d : Directory) (name : Name) (image : Contents) → IsSome (file_at d name) → IsImageOf (made (SyncFile name) (made (SetLength name 0) d)) image → bytes_at image name ≡ Some []

-- a byte of the synced contents that nothing touched is the same in every image that reaches it
abbrev pub UntouchedStays : Type 0
UntouchedStays = (f : File) (i : ℕ) (image : List ℕ) → IsTrue (is_kept f i) → IsImage f image → i < length image → slice_index image i ≡ slice_index (synced_bytes f) i

-- ---- what calls do

-- A call leaves the files of other names, and what a stop may leave of them; two calls on two files may come in any
-- order.
pub record FilesStandApart : Type 0 where
  pub other : (call : Call) (d : Directory) (name : Name) → named call ≢ Some name → file_at (made call d) name ≡ file_at d name
  pub image : (call : Call) (d : Directory) (name : Name) (left : Option (List ℕ)) → named call ≢ Some name → MayHave (file_at (made call d) name) left ↔ MayHave (file_at d name) left
  pub order : (a b : Call) (d : Directory) → named a ≢ named b → made a (made b d) ≡ made b (made a d)

-- what calls make of a directory is sound
abbrev pub CallsKeepSound : Type 0
CallsKeepSound = (call : Call) (d : Directory) → IsSoundDirectory d → IsCallFor d call → IsSoundDirectory (made call d)

-- What a stop may leave before a call, or after it, it may leave inside it.
pub record StopsInsideCalls : Type 0 where
  pub before : (call : Call) (d : Directory) (image : Contents) → IsSoundDirectory d → IsImageOf d image → IsImageOf (during call d) image
  pub after : (call : Call) (d : Directory) (image : Contents) → IsSoundDirectory d → IsImageOf (made call d) image → IsImageOf (during call d) image

-- ---- over time

-- What a stop may leave now is among what one since an earlier moment may have left. Since this moment there is
-- nothing else. What comes later adds only what stops since then may leave.
pub record TimeGoesOn : Type 0 where
  pub now : (h : History) (t : ℕ) (image : Contents) → t ≤ moment h → MayLeave h image → LeftSince h t image
  pub only_now : (h : History) (image : Contents) → LeftSince h (moment h) image → MayLeave h image
  pub later : (since h : History) (t : ℕ) (image : Contents) → t < length h → LeftSince (since ++ h) t image ↔ (IsImageOfOne since image ⊎ LeftSince h t image)
