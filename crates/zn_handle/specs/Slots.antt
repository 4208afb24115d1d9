-- The live handles that the slots of a slab stand for. No public clause cites this module.
use Rattle.std.specs.Prelude.{◌≡◌, ℕ, ◌+◌, ◌<◌, ◌==◌, List, [], ◌∷◌, Option, Some, None, if◌then◌else◌, filter_map, slice_index_or}
use Rattle.std.specs.List.{range_with_len}
use Rattle.zn_model.specs.Volume.{Live}
use Rattle.zn_handle.specs.declared.handles.Entry.{Entry}

-- the live handle that an entry under a key stands for
abbrev pub live_of : ℕ → Entry → Live
live_of key entry = record {
  handle = record { key = key; generation = entry.generation };
  file = entry.file;
  mode = entry.mode;
}

-- the live handle of a generation, among slots of which the first has this key
abbrev pub of_generation : ℕ → List (Option Entry) → ℕ → Option Live
of_generation key [] g = None
of_generation key (None ∷ rest) g = of_generation (key + 1) rest g
of_generation key (Some entry ∷ rest) g =
    if entry.generation == g then Some (live_of key entry) else of_generation (key + 1) rest g

-- what is there at the numbers below a bound, in their order
unfoldable pub told_below : {X : Type 0} → (ℕ → Option X) → ℕ → List X
told_below at n = filter_map at (range_with_len 0 n)

-- the live handles by rising generation, which is the order in which they were opened
abbrev pub lives : List (Option Entry) → ℕ → List Live
lives slots opened = told_below (of_generation 0 slots) opened

-- each entry has a generation of its own, below the bound
pub record IsApart (slots : List (Option Entry)) (opened : ℕ) : Type 0 where
  pub below : (k : ℕ) (e : Entry) → slice_index_or slots k None ≡ Some e → e.generation < opened
  pub apart : (j k : ℕ) (d e : Entry) → slice_index_or slots j None ≡ Some d → slice_index_or slots k None ≡ Some e → d.generation ≡ e.generation → j ≡ k
