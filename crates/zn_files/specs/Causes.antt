-- Which answer of a call on a directory has which cause. (own)
use Rattle.std.specs.Prelude.{◌≡◌, ℕ, ◌≤◌, Bool, true, false, Result, Ok, Err, OnOk, IsErrOf, IsTrue}
use Rattle.zn_base.specs.Causes.{Rose}
use Rattle.zn_files.specs.declared.error.FileError.{FileError}
use Rattle.zn_files.specs.declared.error.FileError.TheVariants.{Fault, Missing, Exists, Memory}

-- any answer but that the call failed, or that memory is wanting
abbrev pub is_answered : {T : Type 0} → Result T FileError → Bool
is_answered (Ok value) = true
is_answered (Err Fault) = false
is_answered (Err Missing) = true
is_answered (Err Exists) = true
is_answered (Err Memory) = false

-- A count of faults never falls. It rose where a call failed, and, where contents aren't told, also where the call was
-- refused for a name. It stays where the call is done, and, where contents are told, where it is refused.
pub record FilesCause {T : Type 0} (result : Result T FileError) (told : Bool) (before now : ℕ) : Type 0 where
  pub later : before ≤ now
  pub fault : IsErrOf result Fault → Rose before now
  pub missing : told ≡ false → IsErrOf result Missing → Rose before now
  pub exists : told ≡ false → IsErrOf result Exists → Rose before now
  pub done : OnOk result (now ≡ before)
  pub refused : told ≡ true → IsTrue (is_answered result) → now ≡ before
