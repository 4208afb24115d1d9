-- When a device may answer a fault, and what its counts do. (own)
use Rattle.std.specs.Prelude.{◌≡◌, ℕ, ◌≤◌, Bool, true, false, Ok, Err, IsOk, IsErrOf}
use Rattle.zn_base.specs.Causes.{Rose}
use Rattle.zn_truth.specs.declared.DevError.TheVariants.{Fault, PowerLost, Broken, Memory}
use Rattle.zn_truth.specs.Orders.{Reply}
use Rattle.zn_truth.specs.Obeying.{IsAnswered}

-- The counts of a device never fall. A fault is answered only where the count of faults rose, and a break
-- only where that of breaks did; an order that is done leaves both.
pub record DeviceCause (result : Reply) (faults0 faults breaks0 breaks : ℕ) : Type 0 where
  pub later : faults0 ≤ faults
  pub fault : IsErrOf result Fault → Rose faults0 faults
  pub kept : IsOk result → faults ≡ faults0
  pub no_fewer : breaks0 ≤ breaks
  pub broken : IsErrOf result Broken → Rose breaks0 breaks
  pub whole : IsAnswered result → breaks ≡ breaks0

-- a device whose commands take no memory never answers want of it
abbrev pub IsMemoryFree : Bool → Reply → Type 0
IsMemoryFree takes_memory result = takes_memory ≡ false → IsErrOf result Memory → ⊥

-- a refusal by a zone's condition, by what it holds, or by a limit
abbrev pub is_refused : Reply → Bool
is_refused (Ok unit) = false
is_refused (Err Fault) = false
is_refused (Err PowerLost) = false
is_refused (Err Broken) = false
is_refused (Err Memory) = false
is_refused (Err error) = true
