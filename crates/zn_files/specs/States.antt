-- What callers see of a directory of files, and what a call makes of it. (own)
use Rattle.std.specs.Prelude.{◌≡◌, ℕ, Bool, List, Option, Some, None, Result, is_some, IsErrOf, IsTrue}
use Rattle.std.specs.Option.{option_map}
use Rattle.std.specs.Result.{result_err}
use Rattle.zn_stand.specs.File.{File}
use Rattle.zn_stand.specs.Maps.{Name}
use Rattle.zn_stand.specs.Directory.{Directory, Contents, file_at, contents, IsImageOf}
use Rattle.zn_stand.specs.Calls.{Call, made, during}
use Rattle.zn_stand.specs.History.{History, newest, LeavesOnly}
use Rattle.zn_files.specs.declared.error.FileError.{FileError}
use Rattle.zn_files.specs.declared.error.FileError.TheVariants.{Fault, Memory}
use Rattle.zn_files.specs.Causes.{is_answered, FilesCause}
use Rattle.zn_files.specs.Refusals.{refusal}

-- A directory of files: where its contents are told, the directories that there were, the one now first, by which it
-- is known what a stop now, or since some moment, may leave; and how many faults there were.
pub record FilesState : Type 0 where
  pub history : History
  pub faults : ℕ

-- the directory, where contents are told
abbrev pub directory : FilesState → Option Directory
directory s = newest s.history

-- whether contents are told
abbrev pub is_told : FilesState → Bool
is_told s = is_some (directory s)

-- where contents are told, and the file is there, its bytes have P
abbrev pub WhereTold : FilesState → Name → (List ℕ → Type 0) → Type 0
WhereTold s name P = (d : Directory) (f : File) → directory s ≡ Some d → file_at d name ≡ Some f → P f.bytes

-- what a stop inside a call may leave, where contents are told
abbrev pub MayLeaveInside : Call → Option Directory → Contents → Type 0
MayLeaveInside call None image = ⊥
MayLeaveInside call (Some d) image = IsImageOf (during call d) image

-- What a call owes. Where it neither fails nor lacks memory, the directory is what the call makes of it, and the call
-- is refused exactly for the names. A stop meanwhile leaves only what one inside the call may leave; a call that fails
-- leaves such contents. One that lacks memory leaves all as it was. Whether contents are told stays.
pub record Called {T : Type 0} (call : Call) (result : Result T FileError) (old new : FilesState) : Type 0 where
  pub done : IsTrue (is_answered result) → directory new ≡ option_map (made call) (directory old)
  pub answer : (d : Directory) → directory old ≡ Some d → IsTrue (is_answered result) → result_err result ≡ refusal call d
  pub stops : LeavesOnly old.history new.history (MayLeaveInside call (directory old))
  pub failed : IsErrOf result Fault → (d : Directory) → directory new ≡ Some d → MayLeaveInside call (directory old) (contents d)
  pub memory : IsErrOf result Memory → new ≡ old
  pub told : is_told new ≡ is_told old
  pub cause : FilesCause result (is_told old) old.faults new.faults
