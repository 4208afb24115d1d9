-- How the lines that are left begin.
use Rattle.std.proofs.Common.{◌≡◌, ℕ, zero, suc, ◌-◌, ◌<◌, List, ◌∷◌, ◌++◌, arith}
use Rattle.std.specs.Prelude.{slice_index, slice_set}
use Rattle.zn_gen.specs.declared.lines.Line.{Line}
use Rattle.zn_gen.specs.declared.steps.Step.{Step}
use Rattle.zn_gen.specs.declared.script.Due.{Due}
use Rattle.zn_gen.specs.Churn.{step_behind, line_of, lines_with, due_lines, size_behind, steps_from}

-- steps begin with the lines of the first one, and the others follow
pub steps_first : (steps draw : ℕ) (sizes : List ℕ) (step : Step) (line : Line) (size : ℕ) (due : Due) → 0 < steps → step ≡ step_behind draw → line ≡ line_of step (slice_index sizes step.file) → size ≡ size_behind step (slice_index sizes step.file) → due_lines due ≡ lines_with line → steps_from steps draw sizes ≡ line ∷ due_lines due ++ steps_from (steps - 1) step.last (slice_set sizes step.file size)
unfolding steps_from
steps_first zero draw sizes step line size due some is_step is_line is_size is_due = absurd (omega arith)
steps_first (suc steps) draw sizes step line size due some is_step is_line is_size is_due =
    let rest : suc steps - 1 ≡ steps = omega arith in
    rw (rest, is_due, is_line, is_size, is_step)
