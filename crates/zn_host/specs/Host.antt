-- A directory of the host, as its callers see it. (own)
use Rattle.std.specs.Prelude.{◌≡◌, ℕ, Bool, true, false, [], Option, Some, Result, Ok, Err, OnOk, IfErr, IsTrue}
use Rattle.zn_base.specs.Causes.{one_more}
use Rattle.zn_files.specs.declared.error.FileError.{FileError}
use Rattle.zn_files.specs.declared.error.FileError.TheVariants.{Fault, Missing, Exists, Memory}
use Rattle.zn_files.specs.States.{FilesState}

-- a directory of the host: whether its lock is held, whether it was synced since a file was created in it, whether a
-- sync failed, and how many faults there were
pub record HostState : Type 0 where
  pub is_locked : Bool
  pub is_listed : Bool
  pub is_lost : Bool
  pub faults : ℕ

-- its count of faults alone is told
abbrev pub untold_files : HostState → FilesState
untold_files s = record { history = []; faults = s.faults }

-- The count of faults after a call: one up where it failed or was refused, and the same where it is done or lacks memory.
abbrev pub counted : {T : Type 0} → Result T FileError → ℕ → ℕ
counted (Ok value) n = n
counted (Err Fault) n = one_more n
counted (Err Missing) n = one_more n
counted (Err Exists) n = one_more n
counted (Err Memory) n = n

-- refused for a name
abbrev pub is_refusal : FileError → Bool
is_refusal Fault = false
is_refusal Missing = true
is_refusal Exists = true
is_refusal Memory = false

-- What each call keeps to. It is done, or refused for a name, only while the lock is held, which is never given up. It
-- is refused in one way alone, if any. A sync that failed is never forgotten. The count of faults is told exactly.
pub record HostCalled {T : Type 0} (refusal : Option FileError) (result : Result T FileError) (old new : HostState) : Type 0 where
  pub done : OnOk result (IsTrue new.is_locked)
  pub refused : IfErr result (λ e. IsTrue (is_refusal e) → IsTrue new.is_locked)
  pub named : IfErr result (λ e. IsTrue (is_refusal e) → Some e ≡ refusal)
  pub kept : IsTrue old.is_locked → IsTrue new.is_locked
  pub lost : IsTrue old.is_lost → IsTrue new.is_lost
  pub count : new.faults ≡ counted result old.faults
