-- What a flush makes of the file of a zone, and of what is kept of it. (own)
use Rattle.std.specs.Prelude.{◌≡◌, ℕ, Bool, List, Option, Ok, if◌then◌else◌}
use Rattle.zn_truth.specs.Orders.{Reply, FlushAll, effect}
use Rattle.zn_truth.specs.Obeying.{IsAnswered}
use Rattle.zn_zone.specs.Facts.{Facts}
use Rattle.zn_stand.specs.Directory.{Directory}
use Rattle.zn_stand.specs.File.{File, synced}
use Rattle.zn_zloop.specs.declared.kept.Kept.{Kept}
use Rattle.zn_zloop.specs.Seen.{truth_seen}
use Rattle.zn_zloop.specs.Holding.{IsSoundZloop}

-- a file that changed is synced
abbrev pub flushed_file : Bool → File → File
flushed_file changed f = if changed then synced f else f

-- A flush of one zone of the list: the device keeps to what it keeps to with the rest of the list, and a flush of all
-- that is left makes of it what it would have made before.
pub record Flushes (result : Reply) (o e : Option Directory) (f : Facts) (old new : List Kept) (rest : List ℕ) : Type 0 where
  pub done : IsAnswered result → result ≡ Ok tt
  pub device : IsAnswered result → IsSoundZloop e f new rest
  pub same : IsAnswered result → effect (truth_seen e f new) FlushAll ≡ effect (truth_seen o f old) FlushAll
