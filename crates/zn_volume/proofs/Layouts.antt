-- The files of a layout are files of the device.
use Rattle.std.proofs.Common.{◌≡◌, ℕ, ◌+◌, ◌-◌, ◌<◌, ◌≤◌, Bool, true, false, List, length, All, ap, ◌∙◌, sym, arith, length-append}
use Rattle.std.specs.Prelude.{slice_index_or}
use Rattle.std.proofs.lemmas.List.{get_or_append_left, get_or-append-add}
use Rattle.zn_truth.specs.declared.Kind.{Kind}
use Rattle.zn_truth.specs.declared.Kind.TheVariants.{Conventional, Sequential}
use Rattle.zn_truth.specs.declared.Shape.{Shape}
use Rattle.zn_truth.specs.Truth.{Geometry, room}
use Rattle.zn_truth.specs.Limits.{IsWithinLimits}
use Rattle.zn_model.specs.declared.files.FileZones.{FileZones}
use Rattle.zn_model.specs.ZoneFiles.{Layout, layout_of, files_of, kind_of}
use Rattle.zn_model.specs.Volume.{no_file}
use Rattle.zn_report.specs.Layouts.{IsFileOf}
use Rattle.zn_report.proofs.LayoutLaws.{layout_is}
use Rattle.zn_io.specs.Files.{IsFile}

some_room : (shape : Shape) (kind : Kind) → 2 ≤ shape.zone_capacity → shape.zone_capacity ≤ shape.zone_blocks → 0 < room shape kind
some_room shape Conventional some fits = omega arith
some_room shape Sequential some fits = omega arith

most_room : (shape : Shape) (kind : Kind) → shape.zone_capacity ≤ shape.zone_blocks → shape.zone_blocks ≤ 65536 → room shape kind ≤ 65536
most_room shape Conventional fits most = omega arith
most_room shape Sequential fits most = omega arith

is_file : (g : Geometry) (file : FileZones) → IsWithinLimits g → IsFileOf g.kinds file → IsFile g file
is_file g file limits is = record {
  some = omega (arith, is.some);
  inside = is.inside;
  most = limits.most;
  kinds = is.alike;
  some_room = some_room g.shape (kind_of file) limits.capacity limits.fits;
  most_room = most_room g.shape (kind_of file) limits.fits limits.size;
}

-- each file of the layout
abbrev pub file_in : Layout → ℕ → FileZones
file_in layout f = slice_index_or (files_of layout) f no_file

pub layout_file : (g : Geometry) (aggr : Bool) (f : ℕ) → IsWithinLimits g → f < length (files_of (layout_of g.kinds aggr)) → IsFile g (file_in (layout_of g.kinds aggr) f)
layout_file g aggr f limits below = is_file g (file_in (layout_of g.kinds aggr) f) limits ((layout_is g.kinds aggr).files f no_file below)

pub layout_single : (kinds : List Kind) (aggr : Bool) (f : ℕ) → f < length (files_of (layout_of kinds aggr)) → (file_in (layout_of kinds aggr) f).seq ≡ true → (file_in (layout_of kinds aggr) f).zones ≡ 1
layout_single kinds aggr f below sequential = ((layout_is kinds aggr).files f no_file below).single sequential

pub layout_inside : (kinds : List Kind) (aggr : Bool) → All (λ (file : FileZones). file.first + file.zones ≤ length kinds) (files_of (layout_of kinds aggr))
layout_inside kinds aggr = λ k d below. ((layout_is kinds aggr).files k d below).inside

-- those of `cnv` come first
pub layout_cnv : (kinds : List Kind) (aggr : Bool) (f : ℕ) → f < length (layout_of kinds aggr).cnv → (file_in (layout_of kinds aggr) f).seq ≡ false
layout_cnv kinds aggr f below =
    ap (λ (file : FileZones). file.seq) (get_or_append_left (layout_of kinds aggr).cnv (layout_of kinds aggr).seq no_file f below)
    ∙ (layout_is kinds aggr).cnv f no_file below

pub layout_seq : (kinds : List Kind) (aggr : Bool) (f : ℕ) → length (layout_of kinds aggr).cnv ≤ f → f < length (files_of (layout_of kinds aggr)) → (file_in (layout_of kinds aggr) f).seq ≡ true
layout_seq kinds aggr f from below =
    let cnv = (layout_of kinds aggr).cnv in
    let seq = (layout_of kinds aggr).seq in
    let at : length (layout_of kinds aggr).cnv + (f - length (layout_of kinds aggr).cnv) ≡ f = omega arith in
    ap (λ (k : ℕ). (file_in (layout_of kinds aggr) k).seq) (sym at)
    ∙ ap (λ (file : FileZones). file.seq) (get_or-append-add (layout_of kinds aggr).cnv (layout_of kinds aggr).seq (f - length (layout_of kinds aggr).cnv) no_file)
    ∙ (layout_is kinds aggr).seq (f - length (layout_of kinds aggr).cnv) no_file (omega (arith, length-append (layout_of kinds aggr).cnv (layout_of kinds aggr).seq))
