-- What calls on a directory, one after another, make of one of its files. (own)
use Rattle.std.specs.Prelude.{◌≡◌, ◌≢◌, ℕ, ◌≤◌, Option, Some, None, Result, Ok, Err, IsErrOf, IsSome, ⊤}
use Rattle.zn_base.specs.Causes.{Rose}
use Rattle.zn_truth.specs.declared.DevError.TheVariants.{Broken, Memory as NoMemory}
use Rattle.zn_truth.specs.Orders.{Reply}
use Rattle.zn_truth.specs.Obeying.{IsAnswered}
use Rattle.zn_stand.specs.File.{File}
use Rattle.zn_stand.specs.Maps.{Name}
use Rattle.zn_stand.specs.Directory.{Directory, file_at}
use Rattle.zn_files.specs.declared.error.FileError.{FileError}
use Rattle.zn_files.specs.declared.error.FileError.TheVariants.{Fault, Missing, Exists, Memory}
use Rattle.zn_files.specs.States.{FilesState, directory, is_told}

-- what a device answers where its files answer this: any failure but want of memory is a break
abbrev pub reply_to : Result (Unit {0}) FileError → Reply
reply_to (Ok unit) = Ok tt
reply_to (Err Fault) = Err Broken
reply_to (Err Missing) = Err Broken
reply_to (Err Exists) = Err Broken
reply_to (Err Memory) = Err NoMemory

-- where contents are told, the file is there
abbrev pub IsThere : FilesState → Name → Type 0
IsThere s name = (d : Directory) → directory s ≡ Some d → IsSome (file_at d name)

-- the file of a name became what it may by R, and the others are as they were
pub record Changed (name : Name) (R : Option File → Option File → Type 0) (d e : Directory) : Type 0 where
  pub file : R (file_at d name) (file_at e name)
  pub others : (q : Name) → q ≢ name → file_at e q ≡ file_at d q

-- the same where contents are told, as they were or weren't before
abbrev pub ChangedWhereTold : Name → (Option File → Option File → Type 0) → Option Directory → Option Directory → Type 0
ChangedWhereTold name R None None = ⊤
ChangedWhereTold name R None (Some e) = ⊥
ChangedWhereTold name R (Some d) None = ⊥
ChangedWhereTold name R (Some d) (Some e) = Changed name R d e

-- A count of breaks never falls, rose where calls broke off, and stays where they were done.
pub record BreakCause (result : Reply) (before now : ℕ) : Type 0 where
  pub later : before ≤ now
  pub broken : IsErrOf result Broken → Rose before now
  pub whole : IsAnswered result → now ≡ before

-- Calls answer that all is done, `Broken` or `Memory`. Where all is done, the file is changed so.
pub record Served (name : Name) (R : Option File → Option File → Type 0) (result : Reply) (old new : FilesState) : Type 0 where
  pub done : IsAnswered result → result ≡ Ok tt
  pub changed : IsAnswered result → ChangedWhereTold name R (directory old) (directory new)
  pub told : is_told new ≡ is_told old
  pub cause : BreakCause result old.faults new.faults
