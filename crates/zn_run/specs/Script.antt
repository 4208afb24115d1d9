-- What is taken from a source as a script, piece by piece. (own)
use Rattle.std.specs.Prelude.{◌≡◌, ◌≤◌, ◌+◌, ℕ, List, length, take, drop}
use Rattle.zn_base.specs.States.{SourceState}
use Rattle.zn_base.specs.Told.{Gave, IsAtEnd}
use Rattle.zn_lines.specs.declared.limits.TheConstants.{SCRIPT_LIMIT}
use Rattle.zn_lines.specs.declared.runs.Tail.{Tail}
use Rattle.zn_lines.specs.declared.runs.Tail.TheVariants.{End, Fault, Over, More}
use Rattle.zn_run.specs.States.{HasRisen}

-- What the tail says of the source, and of the bytes that were taken: one byte beyond the limit is the last that is read.
abbrev pub TailHolds : Tail → List ℕ → SourceState → SourceState → Type 0
TailHolds End taken old new = (length taken ≤ SCRIPT_LIMIT) × IsAtEnd new.left × (new.faults ≡ old.faults)
TailHolds Fault taken old new = (length taken ≤ SCRIPT_LIMIT) × HasRisen old.faults new.faults
TailHolds Over taken old new = (length taken ≡ SCRIPT_LIMIT + 1) × (new.faults ≡ old.faults)
TailHolds More taken old new = (length taken ≤ SCRIPT_LIMIT) × (new.faults ≡ old.faults)

-- these bytes were taken, and this comes after them
pub record Taken (taken : List ℕ) (tail : Tail) (old new : SourceState) : Type 0 where
  pub gave : Gave old.left new.left taken
  pub holds : TailHolds tail taken old new

-- ---- how far reading goes

-- how many bytes were taken beyond the limit of a script
abbrev pub beyond : Tail → ℕ
beyond End = 0
beyond Fault = 0
beyond Over = 1
beyond More = 0

-- Of the script this rest begins with the line that ended the run, and the source has given at most 131,072 bytes from
-- its first byte on, the byte beyond the limit among them.
abbrev pub IsNear : Tail → List ℕ → Type 0
IsNear tail rest = length rest + beyond tail ≤ 131072

-- ---- one piece

-- This many bytes were read into a buffer, behind those that are kept there, after this many had been taken: at most
-- 65,536, and at most one beyond the limit of a script.
pub record IsPiece (count kept taken : ℕ) (buffer : List ℕ) (old new : SourceState) : Type 0 where
  pub short : count ≤ 65536
  pub limited : taken + count ≤ SCRIPT_LIMIT + 1
  pub gave : Gave old.left new.left (take count (drop kept buffer))
  pub at_end : count ≡ 0 → IsAtEnd new.left
  pub faults : new.faults ≡ old.faults

-- the read failed, and gave nothing
pub record NoPiece (old new : SourceState) : Type 0 where
  pub left : new.left ≡ old.left
  pub risen : HasRisen old.faults new.faults
