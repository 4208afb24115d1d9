-- How many lines a script has.
use Rattle.std.proofs.Common.{ℕ, zero, suc, ◌+◌, ◌*◌, ◌≤◌, ◌%◌, List, ◌++◌, length, replicate, arith}
use Rattle.std.specs.Prelude.{slice_index, slice_set}
use Rattle.std.proofs.lemmas.List.{length-append, length-map}
use Rattle.zn_gen.specs.declared.lines.Line.{Line}
use Rattle.zn_gen.specs.declared.lines.Line.TheVariants.{Open, Write, Truncate, Read, Sync, Submit, Complete, Reap, Stat}
use Rattle.zn_gen.specs.Churn.{step_behind, line_of, line_text, lines_with, size_behind, steps_from, opens, churn_lines}

at_most_two : (line : Line) → length (lines_with line) ≤ 2
at_most_two (Open file) = omega arith
at_most_two (Write append) = omega arith
at_most_two (Truncate file) = omega arith
at_most_two (Read file len) = omega arith
at_most_two (Sync file) = omega arith
at_most_two (Submit append) = omega arith
at_most_two Complete = omega arith
at_most_two Reap = omega arith
at_most_two (Stat file) = omega arith

steps_are_short : (steps draw : ℕ) (sizes : List ℕ) → length (steps_from steps draw sizes) ≤ 3 * steps
unfolding steps_from
steps_are_short zero draw sizes = omega arith
steps_are_short (suc steps) draw sizes =
    let step = step_behind draw in
    let size = slice_index sizes step.file in
    let line = line_of step size in
    let after = slice_set sizes step.file (size_behind step size) in
    omega (arith, length-append (lines_with line) (steps_from steps step.last after), at_most_two line, steps_are_short steps step.last after)

-- seven lines open files, and each step has at most three
pub scripts_are_short : (seed steps : ℕ) → length (churn_lines seed steps) ≤ 7 + 3 * steps
unfolding churn_lines
scripts_are_short seed steps =
    let rest = steps_from steps (seed % 65537) (replicate 8 0) in
    omega (arith, length-map (opens 7 1 ++ rest) line_text, length-append (opens 7 1) rest, steps_are_short steps (seed % 65537) (replicate 8 0))
