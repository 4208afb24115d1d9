-- What the calls on a directory's files leave while it is looked at. (own)
use Rattle.std.specs.Prelude.{◌≡◌, ◌≢◌, ℕ, ◌≤◌, Bool, List, [], ◌∷◌, Option, Some, None, Result, Ok, Err, IsErrOf, IfOk, IfErr, OnOk, IfSome, IsSome}
use Rattle.std.specs.Option.{option_map}
use Rattle.zn_base.specs.Causes.{Rose}
use Rattle.zn_stand.specs.Maps.{Name}
use Rattle.zn_stand.specs.Directory.{Directory, Contents, file_at, contents, rested}
use Rattle.zn_stand.specs.Calls.{SyncFile, made}
use Rattle.zn_stand.specs.AtRest.{at_rest}
use Rattle.zn_files.specs.States.{FilesState, directory, is_told}
use Rattle.zn_backing.specs.declared.error.OpenError.{OpenError}
use Rattle.zn_backing.specs.declared.error.OpenError.TheVariants.{Fault}
use Rattle.zn_backing.specs.Failures.{cause_of}

-- Files were looked at, and none was changed: a fault is answered only where the count rose, and any other answer
-- leaves the count and the directory.
pub record Steps {T : Type 0} (result : Result T OpenError) (old new : FilesState) : Type 0 where
  pub later : old.faults ≤ new.faults
  pub fault : IsErrOf result Fault → Rose old.faults new.faults
  pub kept : result ≢ Err Fault → new.faults ≡ old.faults
  pub told : is_told new ≡ is_told old
  pub same : result ≢ Err Fault → directory new ≡ directory old

-- the error is a cause that lies in the contents, the first one
abbrev pub IsCauseIn : Contents → OpenError → Type 0
IsCauseIn c e = IfSome (cause_of e) (λ cause. at_rest c ≡ Err cause)

-- Files were looked at for something. Where contents are told, what was found is so, or the cause is the first one.
pub record Sought {T : Type 0} (result : Result T OpenError) (old new : FilesState) (P : Directory → T → Type 0) : Type 0 where
  pub steps : Steps result old new
  pub found : (d : Directory) → directory old ≡ Some d → IfOk result (P d)
  pub cause : (d : Directory) → directory old ≡ Some d → IfErr result (IsCauseIn (contents d))

-- the directory with these files synced, one after another
abbrev pub all_synced : Directory → List Name → Directory
all_synced d [] = d
all_synced d (name ∷ names) = all_synced (made (SyncFile name) d) names

-- Files were synced: at Ok the directory is what the syncs make of it.
pub record Syncs {T : Type 0} (result : Result T OpenError) (change : Directory → Directory) (old new : FilesState) : Type 0 where
  pub later : old.faults ≤ new.faults
  pub fault : IsErrOf result Fault → Rose old.faults new.faults
  pub kept : OnOk result (new.faults ≡ old.faults)
  pub told : is_told new ≡ is_told old
  pub done : OnOk result (directory new ≡ option_map change (directory old))

-- the file is there, where contents are told
abbrev pub IsFileIn : FilesState → Name → Type 0
IsFileIn s name = (d : Directory) → directory s ≡ Some d → IsSome (file_at d name)
