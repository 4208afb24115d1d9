-- What a directory in memory is to its callers. (own)
use Rattle.std.specs.Prelude.{map}
use Rattle.zn_files.specs.declared.memory.MemFiles.{MemFiles}
use Rattle.zn_files.specs.Record.{call_of, recorded_of}
use Rattle.zn_files.specs.MemStates.{MemState, files_state}
use Rattle.zn_files.specs.States.{FilesState}

abbrev pub mem_state : MemFiles → MemState
mem_state m = record { given = map call_of m.given.items; made = map recorded_of m.made.items; listed = m.tally.listed.items; calls = m.tally.calls; faults = m.tally.faults }

abbrev pub state_of : MemFiles → FilesState
state_of m = files_state (mem_state m)
