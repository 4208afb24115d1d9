-- What a call that only looks at a directory owes. (own)
use Rattle.std.specs.Prelude.{◌≡◌, Ok}
use Rattle.zn_truth.specs.Orders.{Reply}
use Rattle.zn_truth.specs.Obeying.{IsAnswered}
use Rattle.zn_files.specs.States.{FilesState, directory}
use Rattle.zn_zloop.specs.Served.{BreakCause}

-- It answers that it is done, `Broken` or `Memory`. Where it is done, the directory is as it was.
pub record Looked (result : Reply) (old new : FilesState) : Type 0 where
  pub done : IsAnswered result → result ≡ Ok tt
  pub same : IsAnswered result → directory new ≡ directory old
  pub cause : BreakCause result old.faults new.faults
