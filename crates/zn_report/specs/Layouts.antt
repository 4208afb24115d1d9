-- How a layout is put together, and what each of its files is. (own)
use Rattle.std.specs.Prelude.{◌≡◌, ℕ, ◌+◌, ◌<◌, ◌≤◌, Bool, true, false, List, [], ◌∷◌, ◌++◌, length, if◌then◌else◌, slice_index_or, All}
use Rattle.std.specs.List.{AllPairs}
use Rattle.zn_truth.specs.declared.limits.TheConstants.{MAX_ZONES}
use Rattle.zn_truth.specs.declared.Kind.{Kind}
use Rattle.zn_truth.specs.declared.Kind.TheVariants.{Sequential}
use Rattle.zn_truth.specs.Truth.{is_sequential}
use Rattle.zn_model.specs.declared.files.FileZones.{FileZones}
use Rattle.zn_model.specs.ZoneFiles.{Layout, layout_of, files_of, cnv_file, seq_file, kind_of}

-- neither `cnv` nor `seq` has a file
abbrev pub no_files : Layout
no_files = record { cnv = []; seq = [] }

-- the layout with one file more, behind the others of its kind
abbrev pub with_file : Layout → FileZones → Layout
with_file layout file = record {
  cnv = if file.seq then layout.cnv else layout.cnv ++ file ∷ [];
  seq = if file.seq then layout.seq ++ file ∷ [] else layout.seq;
}

-- the zone behind the last of a file
abbrev pub end_of : FileZones → ℕ
end_of file = file.first + file.zones

-- each file lies behind those before it
pub record AreInOrder (files : List FileZones) : Type 0 where
  pub pairs : AllPairs (λ a b. end_of a ≤ b.first) files

-- What is kept of files: there are fewer than a device may have zones, and those of each kind are in order.
pub record IsKept (cnv seq : List FileZones) : Type 0 where
  pub count : length cnv + length seq < MAX_ZONES
  pub cnv_order : AreInOrder cnv
  pub seq_order : AreInOrder seq

-- the file whose first zone is this one: a sequential zone is one of its own
abbrev pub file_from : Bool → List Kind → ℕ → FileZones
file_from aggr kinds z = if is_sequential (slice_index_or kinds z Sequential) then seq_file z else cnv_file aggr kinds z

-- A file of zones of these kinds: it has zones, they lie behind zone 0 and are of the file's kind, and a file of `seq`
-- has one.
pub record IsFileOf (kinds : List Kind) (file : FileZones) : Type 0 where
  pub behind : 1 ≤ file.first
  pub some : 1 ≤ file.zones
  pub inside : file.first + file.zones ≤ length kinds
  pub single : file.seq ≡ true → file.zones ≡ 1
  pub alike : (i : ℕ) → i < file.zones → slice_index_or kinds (file.first + i) Sequential ≡ kind_of file

-- What the files of a layout are: each is a file of the zones and one of its list's kind, and there are no more files
-- than zones.
pub record IsLayoutOf (kinds : List Kind) (layout : Layout) : Type 0 where
  pub files : All (IsFileOf kinds) (files_of layout)
  pub cnv : All (λ file. file.seq ≡ false) layout.cnv
  pub seq : All (λ file. file.seq ≡ true) layout.seq
  pub count : length (files_of layout) ≤ length kinds

-- the files that zones make are such
abbrev pub LayoutsAreOfZones : Type 0
LayoutsAreOfZones = (kinds : List Kind) (aggr : Bool) → IsLayoutOf kinds (layout_of kinds aggr)
