-- What the fields of the handles stand for, and what is true of them.
use Rattle.std.specs.Prelude.{◌≡◌, ℕ, ◌<◌, ◌≤◌, ◌^◌, length, slice_index, Some}
use Rattle.zn_model.specs.declared.limits.TheConstants.{MAX_HANDLES}
use Rattle.slab.specs.Slab.{get, slab_len}
use Rattle.zn_model.specs.Volume.{Handles, writers_of}
use Rattle.zn_handle.specs.declared.handles.Entry.{Entry}
use Rattle.zn_handle.specs.declared.handles.Handles.TheInside.{Inside}
use Rattle.zn_handle.specs.HandleState.{HandleState}
use Rattle.zn_handle.specs.Slots.{lives, IsApart}

-- the live handles, in the order in which they were opened
abbrev pub handles_of : Inside → Handles
handles_of a = record { live = lives a.slots.slots a.opened; opened = a.opened }

-- what contracts see of the fields
abbrev pub seen_of : Inside → HandleState
seen_of a = record { handles = handles_of a; cnv = a.writers.cnv; files = length a.writers.counts }

-- There is room for each handle, each key fits 32 bits, the conventional files are some of the files, each
-- handle's file is there, and each file's writers are counted.
pub record IsKept (a : Inside) : Type 0 where
  pub room : MAX_HANDLES ≤ a.slots.capacity
  pub keys : a.slots.capacity ≤ 2 ^ 32
  pub cnv : a.writers.cnv ≤ length a.writers.counts
  pub apart : IsApart a.slots.slots a.opened
  pub len : slab_len a.slots ≡ length (handles_of a).live
  pub limit : length (handles_of a).live ≤ MAX_HANDLES
  pub within : (k : ℕ) (e : Entry) → get a.slots k ≡ Some e → e.file < length a.writers.counts
  pub counted : (f : ℕ) → f < length a.writers.counts → slice_index a.writers.counts f ≡ writers_of (handles_of a) f
