-- The files of a directory in memory, by name, and what is done to one of them. (own)
use Rattle.std.specs.Prelude.{◌≡◌, ◌≢◌, ℕ, List, Option, Some, String}
use Rattle.std.specs.BTreeMap.{BTreeMap, get_by_text}
use Rattle.std.specs.Global.{Vec, Global}
use Rattle.std.specs.Option.{option_map}
use Rattle.zn_stand.specs.Maps.{Name}
use Rattle.zn_stand.specs.Directory.{Directory, file_at}

-- the bytes of each file, by its name
abbrev pub Store : Type 0
Store = BTreeMap (String Global) (Vec ℕ)

-- the bytes of the file of this name, if there is one
abbrev pub bytes_in : Store → Name → Option (List ℕ)
bytes_in files name = option_map (λ v. v.items) (get_by_text files name)

-- the file of this name is changed, if it is there, and no other
pub record ChangesStored (old new : Store) (name : Name) (change : List ℕ → List ℕ) : Type 0 where
  pub here : bytes_in new name ≡ option_map change (bytes_in old name)
  pub others : (q : Name) → q ≢ name → bytes_in new q ≡ bytes_in old q

-- a file of this name is there, with these bytes, and no other is changed
pub record AddsStored (old new : Store) (name : Name) (bytes : List ℕ) : Type 0 where
  pub here : bytes_in new name ≡ Some bytes
  pub others : (q : Name) → q ≢ name → bytes_in new q ≡ bytes_in old q

-- no file is changed
abbrev pub SameStored : Store → Store → Type 0
SameStored old new = (q : Name) → bytes_in new q ≡ bytes_in old q

-- the files are those of the directory, as a read gives them
abbrev pub HoldsFiles : Store → Directory → Type 0
HoldsFiles files d = (name : Name) → bytes_in files name ≡ option_map (λ f. f.bytes) (file_at d name)
