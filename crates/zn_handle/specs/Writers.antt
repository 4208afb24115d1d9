-- How many handles are open for writing on each file. No public clause cites this module.
use Rattle.std.specs.Prelude.{◌≡◌, ℕ, ◌+◌, ◌<◌, ◌==◌, ◌&&◌, List, length, if◌then◌else◌, slice_index, drop, count_by, nat_lt}
use Rattle.zn_model.specs.declared.handles.Mode.{Mode}
use Rattle.zn_model.specs.Access.{writes}

-- the writers of each file by its number, and how many files, the first, are conventional
pub record Counts : Type 0 where
  pub counts : List ℕ
  pub cnv : ℕ

-- the files from a number on that have a writer
unfoldable pub wro_from : ℕ → List ℕ → ℕ
wro_from cnv counts = count_by (λ n. nat_lt 0 n) (drop cnv counts)

-- what a handle on a file counts for as a writer of a file f
abbrev pub as_writer : ℕ → Mode → ℕ → ℕ
as_writer file mode f = if (file == f) && writes mode then 1 else 0

-- one more handle is open on the file
pub record IsOneMore (old new : Counts) (file : ℕ) (mode : Mode) : Type 0 where
  pub files : length new.counts ≡ length old.counts
  pub cnv : new.cnv ≡ old.cnv
  pub counts : (f : ℕ) → f < length old.counts → slice_index new.counts f ≡ slice_index old.counts f + as_writer file mode f
