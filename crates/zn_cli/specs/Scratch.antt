-- The device in memory that a command line asks for, and the machine on it that a run begins with. (own)
use Rattle.std.specs.Prelude.{◌≡◌, ℕ, ◌+◌, List, [], length, fold, false}
use Rattle.zn_truth.specs.Fresh.{fresh_truth}
use Rattle.zn_device.specs.Memory.{calm_state}
use Rattle.zn_device.specs.States.{DeviceState}
use Rattle.zn_lines.specs.declared.words.Scratch.{Scratch}
use Rattle.zn_lines.specs.Lines.{Line}
use Rattle.zn_lines.specs.Scratch.{kinds_of, shape_of, scratch_table}
use Rattle.zn_lines.specs.Session.{line_step}
use Rattle.zn_lines.specs.Table.{Table}
use Rattle.zn_run.specs.States.{MachineState}
use Rattle.zn_session.specs.SessionState.{SessionState, table_in}

-- the new device that is asked for
abbrev pub scratch_device : Scratch → DeviceState
scratch_device s = calm_state (fresh_truth (shape_of s) (kinds_of s))

-- The machine on it: three lines are carried out, which have no reply. Its device's commands take no memory.
abbrev pub scratch_machine : Scratch → List ℕ → MachineState
scratch_machine s entropy =
    record { table = scratch_table s entropy; over = false; spoilt = false; breaks = 0; takes_memory = false; steps = 3 }

-- the table after a line, over a device that tells its bytes
abbrev pub after_line : Table → Line → Table
after_line table line = (line_step [] table line).table

-- These lines are carried out, one after another, and more may follow.
pub record CarriesOn (lines : List Line) (old new : SessionState) : Type 0 where
  pub goes_on : new.over ≡ false
  pub counted : new.steps ≡ old.steps + length lines
  pub table : table_in new ≡ fold after_line (table_in old) lines
