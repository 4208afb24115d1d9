-- What a command to a device over files owes. (own)
use Rattle.std.specs.Prelude.{◌≡◌, ℕ, List, Option, Ok, Err, IsErrOf}
use Rattle.zn_truth.specs.declared.DevError.{DevError}
use Rattle.zn_truth.specs.declared.DevError.TheVariants.{Broken}
use Rattle.zn_truth.specs.Orders.{Reply, Done}
use Rattle.zn_truth.specs.Obeying.{IsAnswered}
use Rattle.zn_zone.specs.Facts.{Facts}
use Rattle.zn_stand.specs.Directory.{Directory}
use Rattle.zn_files.specs.States.{FilesState}
use Rattle.zn_zloop.specs.declared.kept.Kept.{Kept}
use Rattle.zn_zloop.specs.Served.{BreakCause}
use Rattle.zn_zloop.specs.Seen.{truth_seen}
use Rattle.zn_zloop.specs.Holding.{IsSoundZloop}

-- Unless files fail or memory is wanting, the answer is the one that is meant, and the device tells the truth that is
-- meant, and keeps to what it keeps to.
pub record Follows (meant : Done) (result : Reply) (o : Option Directory) (f : Facts) (kepts : List Kept) (listed : List ℕ) : Type 0 where
  pub reply : IsAnswered result → result ≡ meant.reply
  pub truth : IsAnswered result → truth_seen o f kepts ≡ meant.truth
  pub device : IsAnswered result → IsSoundZloop o f kepts listed

-- Files break only where an order isn't refused, and then the count rose. A refused order touches no file.
pub record Touches (meant : Done) (result : Reply) (old new : FilesState) : Type 0 where
  pub cause : BreakCause result old.faults new.faults
  pub named : IsErrOf result Broken → meant.reply ≡ Ok tt
  pub untouched : (error : DevError) → meant.reply ≡ Err error → new ≡ old
