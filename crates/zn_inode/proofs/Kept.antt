-- What is kept beside the files and what they show: at the start, and after a change of one file.
use Rattle.std.proofs.Common.{◌≡◌, ℕ, ◌+◌, ◌<◌, ◌≤◌, Bool, true, false, cond, ltb, leb, List, length, get_or, set, Some, None, Option, refl, sym, ap, ◌∙◌, subst, arith}
use Rattle.std.specs.Prelude.{◌==◌, if◌then◌else◌, slice_index_or, All}
use Rattle.std.specs.List.{position, position_or_len}
use Rattle.std.proofs.lemmas.Bool.{and_right, le-ltb, ltb-true, ltb-false}
use Rattle.std.proofs.lemmas.Bool.Decides.{nat_tests}
use Rattle.std.proofs.lemmas.List.{length-append, length-set, get_or_past, get_or_append_left, get_or-append-add, get_or-set_same, get_or-set_other}
use Rattle.std.proofs.lemmas.List.Sums.{position_or_len_is}
use Rattle.zn_truth.specs.declared.limits.TheConstants.{MAX_ZONES}
use Rattle.zn_truth.specs.declared.Shape.{Shape}
use Rattle.zn_model.specs.declared.files.FileZones.{FileZones}
use Rattle.zn_model.specs.declared.files.Place.{Place}
use Rattle.zn_model.specs.declared.files.Place.TheVariants.{Super, Unplaced}
use Rattle.zn_model.specs.declared.files.Shown.{Shown}
use Rattle.zn_model.specs.Looks.{is_shown_active}
use Rattle.zn_model.specs.ShownStates.{showing}
use Rattle.zn_model.specs.Volume.{no_file}
use Rattle.zn_model.specs.ZoneFiles.{Layout, files_of, has_zone, seq_place, cnv_place, place_of}
use Rattle.zn_report.specs.Layouts.{end_of}
use Rattle.zn_inode.specs.Kept.{IsIndexTo, is_active_in, active_among, IsKept}
use Rattle.zn_inode.specs.Mounts.{AreInside}
use Rattle.zn_inode.proofs.Counts.{count_within, counted_in, count_changed}

-- ---- the index

-- a zone behind those of all files is of none
none_has : (z : ℕ) (files : List FileZones) → All (λ file. end_of file ≤ z) files → position (has_zone z) files ≡ None
none_has z files ends =
    let all : position_or_len (has_zone z) files ≡ length files =
    position_or_len_is (has_zone z) files (length files) no_file (omega arith)
    (λ k below. let file = get_or files k no_file in and_right (leb file.first z) (ltb z (end_of file)) (le-ltb z (end_of file) (ends k no_file below)))
    (λ more. absurd (omega arith)) in
    ap (λ (n : ℕ). cond (ltb n (length files)) (Some n) None) all ∙ ap (λ (b : Bool). cond b (Some (length files)) None) (le-ltb (length files) (length files) (omega arith))

cnv_inside : (n z : ℕ) (layout : Layout) → AreInside n layout → n ≤ z → All (λ file. end_of file ≤ z) layout.cnv
cnv_inside n z layout inside past = λ k d below.
    let at : get_or (files_of layout) k d ≡ get_or layout.cnv k d = get_or_append_left layout.cnv layout.seq d k below in
    let h : end_of (get_or layout.cnv k d) ≤ n = subst (λ (file : FileZones). end_of file ≤ n) at (inside k d (omega (arith, length-append layout.cnv layout.seq))) in
    omega arith

seq_inside : (n z : ℕ) (layout : Layout) → AreInside n layout → n ≤ z → All (λ file. end_of file ≤ z) layout.seq
seq_inside n z layout inside past = λ k d below.
    let at : get_or (files_of layout) (length layout.cnv + k) d ≡ get_or layout.seq k d = get_or-append-add layout.cnv layout.seq k d in
    let h : end_of (get_or layout.seq k d) ≤ n = subst (λ (file : FileZones). end_of file ≤ n) at (inside (length layout.cnv + k) d (omega (arith, length-append layout.cnv layout.seq))) in
    omega arith

unplaced : (n z : ℕ) (layout : Layout) → AreInside n layout → n ≤ z → 0 < z → place_of layout z ≡ Unplaced
unfolding place_of
unplaced n z layout inside past behind =
    let other : (z == 0) ≡ false = grind (arith, nat_tests) in
    ap (λ (b : Bool). if b then Super else cnv_place (position (has_zone z) layout.cnv) (position (has_zone z) layout.seq)) other
    ∙ ap (λ (o : Option ℕ). cnv_place o (position (has_zone z) layout.seq)) (none_has z layout.cnv (cnv_inside n z layout inside past))
    ∙ ap seq_place (none_has z layout.seq (seq_inside n z layout inside past))

-- zone 0 is the super block's
pub place_of_first : (layout : Layout) (z : ℕ) → z ≡ 0 → Super ≡ place_of layout z
unfolding place_of
place_of_first layout z is = rw is refl

-- the places of all zones of a device are an index of each number
index_of_all : (zones : ℕ) (layout : Layout) (places : List Place) → AreInside zones layout → IsIndexTo zones layout places → (z : ℕ) → 0 < z → slice_index_or places z Unplaced ≡ place_of layout z
index_of_all zones layout places inside index z behind =
    elim (ltb z zones) as (λ (b : Bool). ltb z zones ≡ b → slice_index_or places z Unplaced ≡ place_of layout z) [
      | true ↦ λ is. index.each z (ltb-true z zones is)
      | false ↦ λ is.
          let past : zones ≤ z = ltb-false z zones is in
          let none : length places ≤ z = omega (arith, index.count) in
          get_or_past places z Unplaced none ∙ sym (unplaced zones z layout inside past behind)
    ] refl

pub kept_start : (zones : ℕ) (layout : Layout) (shape : Shape) (shown : List Shown) (places : List Place) (active : ℕ) → AreInside zones layout → length (files_of layout) < MAX_ZONES → length shown ≡ length (files_of layout) → IsIndexTo zones layout places
    → active ≡ active_among layout shape shown → IsKept layout shape shown places active
kept_start zones layout shape shown places active inside few files index counted = record { few = few; files = files; index = index_of_all zones layout places inside index; count = counted }

-- ---- the count

-- no more files are shown active than there are
pub active_within : (layout : Layout) (shape : Shape) (shown : List Shown) → active_among layout shape shown ≤ length (files_of layout)
active_within layout shape shown = count_within (is_active_in layout shape shown) (length (files_of layout))

-- a file that is shown active is counted
pub active_counted : (layout : Layout) (shape : Shape) (shown : List Shown) (f : ℕ) → f < length (files_of layout) → is_active_in layout shape shown f ≡ true → 1 ≤ active_among layout shape shown
active_counted layout shape shown f below is =
    subst (λ (b : Bool). cond b 1 0 ≤ active_among layout shape shown) is (counted_in (is_active_in layout shape shown) (length (files_of layout)) f below)

-- one file changes, and with it the count
pub kept_set : (layout : Layout) (shape : Shape) (shown : List Shown) (places : List Place) (active recounted f : ℕ) (now : Shown) (was is : Bool) → f < length (files_of layout) → IsKept layout shape shown places active
    → was ≡ is_active_in layout shape shown f → is ≡ is_shown_active shape (slice_index_or (files_of layout) f no_file) now → recounted + (if was then 1 else 0) ≡ active + (if is then 1 else 0)
    → IsKept layout shape (set shown f now) places recounted
kept_set layout shape shown places active recounted f now was is below kept before after counted =
    let n = length (files_of layout) in
    let p = is_active_in layout shape shown in
    let q = is_active_in layout shape (set shown f now) in
    let inside : f < length shown = omega (arith, kept.files) in
    let here : is_active_in layout shape (set shown f now) f ≡ is =
    ap (is_shown_active shape (slice_index_or (files_of layout) f no_file)) (get_or-set_same shown f now (showing 0 false false false) inside) ∙ sym after in
    let changed = count_changed p q n f below (λ i within apart.
    sym (ap (is_shown_active shape (slice_index_or (files_of layout) i no_file)) (get_or-set_other shown f i now (showing 0 false false false) apart))) in
    let old : cond (is_active_in layout shape shown f) 1 0 ≡ cond was 1 0 = ap (λ (b : Bool). let k : ℕ = cond b 1 0 in k) (sym before) in
    let new : cond (is_active_in layout shape (set shown f now) f) 1 0 ≡ cond is 1 0 = ap (λ (b : Bool). let k : ℕ = cond b 1 0 in k) here in
    record { few = kept.few; files = length-set shown f now ∙ kept.files; index = kept.index; count = omega (arith, counted, changed, old, new, kept.count) }
