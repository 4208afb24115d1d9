-- The lines of a script that is made from a seed: steps that write, read and look at eight files in turn. (own)
use Rattle.std.specs.Prelude.{ℕ, zero, suc, ◌+◌, ◌-◌, ◌*◌, ◌/◌, ◌%◌, ◌==◌, ◌||◌, Bool, List, [], ◌∷◌, ◌++◌, map, replicate, nat_le, slice_index, slice_set, codes, if◌then◌else◌}
use Rattle.std.specs.Fmt.{decimal}
use Rattle.zn_base.specs.Runs.{run_text}
use Rattle.zn_base.specs.Texts.{◌⧺◌}
use Rattle.zn_truth.specs.declared.limits.TheConstants.{BLOCK_SIZE}
use Rattle.zn_gen.specs.declared.lines.Append.{Append}
use Rattle.zn_gen.specs.declared.lines.Line.{Line}
use Rattle.zn_gen.specs.declared.lines.Line.TheVariants.{Open, Write, Truncate, Read, Sync, Submit, Complete, Reap, Stat}
use Rattle.zn_gen.specs.declared.steps.Step.{Step}
use Rattle.zn_gen.specs.declared.script.Due.{Due}
use Rattle.zn_gen.specs.declared.script.Due.TheVariants.{NoLine, CompleteAndReap, ReapAlone}
use Rattle.zn_gen.specs.declared.script.Churn.{Churn}

-- ---- texts of lines

-- a file by its path
abbrev pub path_text : ℕ → List ℕ
path_text file = codes "seq/" ⧺ decimal file

-- the handle, the offset, and the bytes as one run
abbrev pub append_text : Append → List ℕ
append_text a =
    decimal a.file ⧺ codes " " ⧺ decimal a.offset ⧺ codes " " ⧺ run_text (record { byte = a.byte; count = a.len })

-- a line without its newline; the handle of a file is its number
abbrev pub line_text : Line → List ℕ
line_text (Open file) = codes "open " ⧺ decimal file ⧺ codes " " ⧺ path_text file ⧺ codes " rw"
line_text (Write append) = codes "write " ⧺ append_text append
line_text (Submit append) = codes "submit " ⧺ append_text append
line_text (Truncate file) = codes "truncate " ⧺ decimal file ⧺ codes " 0"
line_text (Read file len) = codes "read " ⧺ decimal file ⧺ codes " 0 " ⧺ decimal len
line_text (Sync file) = codes "sync " ⧺ decimal file
line_text Complete = codes "complete"
line_text Reap = codes "reap"
line_text (Stat file) = codes "stat " ⧺ path_text file

-- ---- steps

-- the draw behind a draw
abbrev pub draw_behind : ℕ → ℕ
draw_behind draw = (75 * draw + 74) % 65537

-- a step makes three draws: the first gives the file, the second the kind of the step and how many blocks, 1 to 4,
-- the third the byte
abbrev pub step_behind : ℕ → Step
step_behind draw =
    let first = draw_behind draw in
    let second = draw_behind first in
    let third = draw_behind second in
    record { file = first % 8; kind = second % 8; blocks = 1 + second / 8 % 4; byte = third % 256; last = third }

-- whether a file has room for more blocks behind its own: it holds 64
abbrev pub fits : ℕ → ℕ → Bool
fits size more = nat_le (size + more) 64

-- the blocks of a step behind those of its file
abbrev pub append_of : Step → ℕ → Append
append_of step size =
    record { file = step.file; offset = size * BLOCK_SIZE; byte = step.byte; len = step.blocks * BLOCK_SIZE }

-- The line of a step, or the first of its three, by how many blocks its file has. Kinds 0 to 3 write, 4 reads all of
-- the file, 5 syncs it, 6 submits, and 7 looks at it; what has no room empties the file instead.
abbrev pub line_of : Step → ℕ → Line
line_of step size =
    if nat_le step.kind 3 then (if fits size step.blocks then Write (append_of step size) else Truncate step.file)
    else if step.kind == 4 then Read step.file (size * BLOCK_SIZE)
    else if step.kind == 5 then Sync step.file
    else if step.kind == 6 then (if fits size step.blocks then Submit (append_of step size) else Truncate step.file)
    else Stat step.file

-- the lines that come with a line: a request that is submitted is completed and reaped
abbrev pub lines_with : Line → List Line
lines_with (Submit _) = Complete ∷ Reap ∷ []
lines_with _ = []

-- how many blocks the file has behind the step
abbrev pub size_behind : Step → ℕ → ℕ
size_behind step size =
    if nat_le step.kind 3 || step.kind == 6 then (if fits size step.blocks then size + step.blocks else 0) else size

-- the lines of so many steps, from the last draw and the sizes of the files on
unfoldable pub steps_from : ℕ → ℕ → List ℕ → List Line
steps_from zero draw sizes = []
steps_from (suc steps) draw sizes =
    let step = step_behind draw in
    let size = slice_index sizes step.file in
    let line = line_of step size in
    line ∷ lines_with line ++ steps_from steps step.last (slice_set sizes step.file (size_behind step size))

-- ---- the script

-- the lines that open so many files, from this one on
abbrev pub opens : ℕ → ℕ → List Line
opens zero file = []
opens (suc count) file = Open file ∷ opens count (file + 1)

-- The lines of a script: the files 1 to 7 are opened, as file 0 is from the first, and the steps follow. The seed
-- modulo 65,537 is the draw before the first, and no file has a block.
unfoldable pub churn_lines : ℕ → ℕ → List (List ℕ)
churn_lines seed steps = map line_text (opens 7 1 ++ steps_from steps (seed % 65537) (replicate 8 0))

-- ---- what is left of a script

abbrev pub due_lines : Due → List Line
due_lines NoLine = []
due_lines CompleteAndReap = Complete ∷ Reap ∷ []
due_lines ReapAlone = Reap ∷ []

-- the lines that are still to come: files that aren't open yet, what the last step has left, and the other steps
abbrev pub lines_to_come : Churn → List Line
lines_to_come churn =
    opens (8 - churn.next_open) churn.next_open
    ++ (due_lines churn.due ++ steps_from churn.steps churn.draw churn.sizes)

-- their texts
unfoldable pub lines_left : Churn → List (List ℕ)
lines_left churn = map line_text (lines_to_come churn)
