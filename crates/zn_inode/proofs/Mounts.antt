-- What a mount shows, where a report told what the device holds.
use Rattle.std.proofs.Common.{◌≡◌, ℕ, zero, suc, ◌+◌, ◌-◌, ◌*◌, ◌<◌, ◌≤◌, false, List, length, map, take, drop, sym, ap, ◌∙◌, arith}
use Rattle.std.specs.Prelude.{slice_index_or}
use Rattle.std.specs.List.{range_with_len}
use Rattle.std.proofs.lemmas.List.{same_lists, length-map, get_or-map}
use Rattle.std.proofs.lemmas.List.FromFn.{length-map-range_with_len, take-map-range_with_len}
use Rattle.zn_truth.specs.declared.limits.TheConstants.{BLOCK_SIZE}
use Rattle.zn_truth.specs.declared.ZoneInfo.{ZoneInfo}
use Rattle.zn_truth.specs.Truth.{Truth, info_at}
use Rattle.zn_model.specs.declared.files.FileZones.{FileZones}
use Rattle.zn_model.specs.declared.files.Shown.{Shown}
use Rattle.zn_model.specs.Looks.{all_infos}
use Rattle.zn_model.specs.Mounting.{fresh_inodes}
use Rattle.zn_model.specs.ShownStates.{infos_of, worst, holds, mounted_by, mounted_shown}
use Rattle.zn_model.specs.Volume.{Inodes, no_file}
use Rattle.zn_model.specs.ZoneFiles.{Layout, files_of}
use Rattle.zn_report.specs.Layouts.{end_of}
use Rattle.zn_inode.specs.Mounts.{AreInside, infos_in, mounted_from, mounted_inodes}

range_drop : {X : Type 0} (f : ℕ → X) (k a n : ℕ) → k ≤ n → drop k (map f (range_with_len a n)) ≡ map f (range_with_len (a + k) (n - k))
range_drop f zero a n h =
    let e : a ≡ a + 0 = omega arith in
    let m : n ≡ n - 0 = omega arith in
    ap (λ (z : ℕ). map f (range_with_len z n)) e ∙ ap (λ (k : ℕ). map f (range_with_len (a + 0) k)) m
range_drop f (suc k) a zero h = absurd (omega arith)
range_drop f (suc k) a (suc n) h =
    let e : a + 1 + k ≡ a + suc k = omega arith in
    let m : n - k ≡ suc n - suc k = omega arith in
    range_drop f k (a + 1) n (omega arith) ∙ ap (λ (z : ℕ). map f (range_with_len z (n - k))) e ∙ ap (λ (i : ℕ). map f (range_with_len (a + suc k) i)) m

-- the zones of a file in a report of all zones
infos_are : (t : Truth) (file : FileZones) → end_of file ≤ length (all_infos t) → infos_in (all_infos t) file ≡ infos_of t file
infos_are t file inside =
    let n = length t.zones in
    let count : length (all_infos t) ≡ length t.zones = length-map-range_with_len (info_at t) 0 (length t.zones) in
    let zones : end_of file - file.first ≡ file.zones = omega arith in
    let first : 0 + file.first ≡ file.first = omega arith in
    ap (λ (k : ℕ). take k (drop file.first (all_infos t))) zones
    ∙ ap (λ (l : List ZoneInfo). take file.zones l) (range_drop (info_at t) file.first 0 n (omega (arith, count, inside)))
    ∙ take-map-range_with_len (info_at t) (0 + file.first) (n - file.first) file.zones (omega (arith, count, inside))
    ∙ ap (λ (k : ℕ). map (info_at t) (range_with_len k file.zones)) first

shown_are : (t : Truth) (layout : Layout) → AreInside (length (all_infos t)) layout → map (mounted_from (all_infos t)) (files_of layout) ≡ map (mounted_shown t) (files_of layout)
shown_are t layout inside =
    let files = files_of layout in
    let count : length (map (mounted_from (all_infos t)) (files_of layout)) ≡ length (files_of layout) = length-map (files_of layout) (mounted_from (all_infos t)) in
    same_lists (map (mounted_from (all_infos t)) files) (map (mounted_shown t) files) (count ∙ sym (length-map files (mounted_shown t))) (λ k d below.
    let known : k < length (files_of layout) = omega (arith, below, count) in
    get_or-map (mounted_from (all_infos t)) files k no_file d known
    ∙ ap (λ (l : List ZoneInfo). mounted_by (worst l) (BLOCK_SIZE * holds l)) (infos_are t (slice_index_or files k no_file) (inside k no_file known))
    ∙ sym (get_or-map (mounted_shown t) files k no_file d known))

-- after a report of what a device holds files are as the definition's mount leaves them
pub mounted_fresh : (t : Truth) (layout : Layout) → AreInside (length (all_infos t)) layout → mounted_inodes layout t.shape (all_infos t) ≡ fresh_inodes t layout
mounted_fresh t layout inside =
    ap (λ (shown : List Shown). let inodes : Inodes = record { layout = layout; shape = t.shape; shown = shown; read_only = false } in inodes) (shown_are t layout inside)
