-- What a contract sees of the handles.
use Rattle.std.specs.Prelude.{ℕ, ◌-◌, nat_lt, count_by}
use Rattle.std.specs.List.{range_with_len}
use Rattle.zn_model.specs.Volume.{Handles, Live, writers_of}
use Rattle.zn_handle.specs.declared.handles.Open.{Open}

-- The live handles, how many files are conventional, which come first, and how many files there are.
pub record HandleState : Type 0 where
  pub handles : Handles
  pub cnv : ℕ
  pub files : ℕ

-- the file that a live handle is open on, and for what
abbrev pub open_of : Live → Open
open_of live = record { file = live.file; mode = live.mode }

-- how many sequential files have a handle open for writing
abbrev pub wro_of : HandleState → ℕ
wro_of seen = count_by (λ f. nat_lt 0 (writers_of seen.handles f)) (range_with_len seen.cnv (seen.files - seen.cnv))
