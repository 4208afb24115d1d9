-- When the statuses come that all commands on a directory have. (own)
use Rattle.std.specs.Prelude.{◌≡◌, ◌≢◌, ◌⊎◌}
use Rattle.zn_base.specs.States.{SinkState}
use Rattle.zn_files.specs.States.{FilesState}
use Rattle.zn_run.specs.Endings.{out_of_memory, host_fault}
use Rattle.zn_run.specs.States.{HasRisen, Added}
use Rattle.zn_run.specs.declared.status.Status.{Status}
use Rattle.zn_run.specs.declared.status.Status.TheVariants.{Done, Directory, HostFault, WriteFault, Memory}
use Rattle.zn_run.specs.declared.status.Status.TheVariants.{Usage, Script, ReadFault}

-- no call on a file and no write failed
pub record IsQuiet (old new : FilesState) (before after : SinkState) : Type 0 where
  pub no_call : ¬ HasRisen old.faults new.faults
  pub no_write : ¬ HasRisen before.faults after.faults

-- A fault comes only where a count rose; that of a file is told in line 0, outside a script. Want of memory is free. The
-- statuses of a command line and of a script never come.
pub record EndCauses (status : Status) (old new : FilesState) (before after : SinkState) : Type 0 where
  pub host : status ≡ HostFault → HasRisen old.faults new.faults
  pub host_line : status ≡ HostFault → Added (host_fault 0) before after
  pub sink : status ≡ WriteFault → HasRisen before.faults after.faults
  pub memory_line : status ≡ Memory → Added out_of_memory before after
  pub no_usage : status ≢ Usage
  pub no_script : status ≢ Script
  pub no_read_fault : status ≢ ReadFault
  -- where no call failed and memory sufficed, the command is done, or the directory doesn't fit
  pub quiet : IsQuiet old new before after → status ≢ Memory → (status ≡ Done) ⊎ (status ≡ Directory)
