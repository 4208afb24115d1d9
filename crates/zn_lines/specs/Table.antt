-- A session: its device, what is mounted, and the handles of a script's numbers. (own)
use Rattle.std.specs.Prelude.{ℕ, List, Option, Some, None, replicate, slice_index_or, slice_set}
use Rattle.zn_lines.specs.declared.limits.TheConstants.{MAX_NUMBERS}
use Rattle.zn_truth.specs.Truth.{Truth}
use Rattle.zn_truth.specs.World.{World, calm}
use Rattle.zn_model.specs.declared.handles.Handle.{Handle}
use Rattle.zn_model.specs.Volume.{Volume, Mounted}

-- A session: its device, what is mounted, for each number of the script its handle, and the sixteen bytes
-- from which a format without an identifier makes one.
pub record Table : Type 0 where
  pub world : World
  pub volume : Option Volume
  pub numbers : List (Option Handle)
  pub entropy : List ℕ

-- no number has a handle
abbrev pub no_numbers : List (Option Handle)
no_numbers = replicate MAX_NUMBERS None

-- a session as it begins: power, no faults, and nothing mounted
abbrev pub fresh_table : Truth → List ℕ → Table
fresh_table t entropy = record { world = calm t; volume = None; numbers = no_numbers; entropy = entropy }

-- the table with a mounted volume in place
abbrev pub with_mounted : Table → Mounted → Table
with_mounted table m = record table { world = m.world; volume = Some m.volume }

-- the handle that a number of the script stands for, if it has one
abbrev pub handle_of : Table → ℕ → Option Handle
handle_of table n = slice_index_or table.numbers n None

-- from now on the number stands for this handle
abbrev pub with_number : Table → ℕ → Handle → Table
with_number table n h = record table { numbers = slice_set table.numbers n (Some h) }

-- the number is free again
abbrev pub without_number : Table → ℕ → Table
without_number table n = record table { numbers = slice_set table.numbers n None }
