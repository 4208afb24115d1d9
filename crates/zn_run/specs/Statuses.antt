-- How a run ended. (own)
use Rattle.std.specs.Prelude.{◌≡◌, ℕ, Option, Some, None}
use Rattle.zn_lines.specs.declared.runs.Tail.{Tail}
use Rattle.zn_lines.specs.declared.runs.Tail.TheVariants.{End, Fault}
use Rattle.zn_lines.specs.declared.runs.Ending.{Ending}
use Rattle.zn_lines.specs.declared.runs.Ending.TheVariants.{Finished, BadLine, LineTooLong, ScriptTooLong, ReadFailed, Unread}
use Rattle.zn_run.specs.declared.status.Status.{Status}
use Rattle.zn_run.specs.declared.status.Status.TheVariants.{Done, Usage, Script, Directory, HostFault, ReadFault, WriteFault, Memory}

-- the exit status
abbrev pub code_of : Status → ℕ
code_of Done = 0
code_of Usage = 2
code_of Script = 3
code_of Directory = 4
code_of HostFault = 5
code_of ReadFault = 6
code_of WriteFault = 7
code_of Memory = 8

-- the status of a run that writes all that is due and ends so; a script that was not taken whole lacked memory
abbrev pub status_of : Ending → Status
status_of Finished = Done
status_of (BadLine n column) = Script
status_of (LineTooLong n) = Script
status_of (ScriptTooLong n) = Script
status_of ReadFailed = ReadFault
status_of Unread = Memory

-- the script itself ended the run
abbrev pub IsScriptFault : Ending → Type 0
IsScriptFault Finished = ⊥
IsScriptFault (BadLine n column) = Unit {0}
IsScriptFault (LineTooLong n) = Unit {0}
IsScriptFault (ScriptTooLong n) = Unit {0}
IsScriptFault ReadFailed = ⊥
IsScriptFault Unread = ⊥

-- the number of the line that the last line of a run tells, if it tells one
abbrev pub line_of : Ending → Option ℕ
line_of Finished = None
line_of (BadLine n column) = Some n
line_of (LineTooLong n) = Some n
line_of (ScriptTooLong n) = Some n
line_of ReadFailed = None
line_of Unread = None

-- When a run that writes all that is due has this status: all was read and carried out, or the script ended the
-- run, or a read failed.
abbrev pub EndsBy : Status → Tail → Ending → Type 0
EndsBy Done tail ending = (tail ≡ End) × (ending ≡ Finished)
EndsBy Usage tail ending = ⊥
EndsBy Script tail ending = IsScriptFault ending
EndsBy Directory tail ending = ⊥
EndsBy HostFault tail ending = ⊥
EndsBy ReadFault tail ending = (tail ≡ Fault) × (ending ≡ ReadFailed)
EndsBy WriteFault tail ending = ⊥
EndsBy Memory tail ending = ⊥
