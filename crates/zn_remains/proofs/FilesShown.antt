-- Each sequential file is one zone, and a mount shows what that holds.
use Rattle.std.proofs.Common.{◌≡◌, inl, inr, ℕ, ◌+◌, ◌*◌, Bool, true, false, List, [], ◌∷◌, length, get_or, Some, Result, Ok, Err, sym, ap, ◌∙◌, subst, arith}
use Rattle.std.specs.Prelude.{if◌then◌else◌, IfOk}
use Rattle.std.proofs.lemmas.Bool.{cases_lt, true≢false}
use Rattle.std.proofs.lemmas.List.{get_or-map, get_or_past}
use Rattle.std.proofs.lemmas.List.Sums.{sum_by-cons}
use Rattle.zn_truth.specs.declared.Cond.{Cond}
use Rattle.zn_truth.specs.declared.Cond.TheVariants.{Good}
use Rattle.zn_truth.specs.declared.Kind.TheVariants.{Conventional, Sequential}
use Rattle.zn_truth.specs.declared.ZoneInfo.{ZoneInfo}
use Rattle.zn_truth.specs.Truth.{Geometry, Truth, geometry, zone_at, info_at, kind_at}
use Rattle.zn_truth.specs.Orders.{ReadAt, Reply}
use Rattle.zn_truth.specs.OrderLists.{issue_all}
use Rattle.zn_truth.specs.World.{World, Outcome, issue, geometry_of}
use Rattle.zn_model.specs.declared.answers.SuperError.{SuperError}
use Rattle.zn_model.specs.declared.answers.Why.TheVariants.{Zone0NotFull}
use Rattle.zn_model.specs.declared.files.FileZones.{FileZones}
use Rattle.zn_model.specs.declared.files.MountOpts.{MountOpts}
use Rattle.zn_model.specs.declared.files.Shown.{Shown}
use Rattle.zn_model.specs.Given.{copies_in}
use Rattle.zn_model.specs.Looks.{report_all}
use Rattle.zn_model.specs.Mounting.{MountAnswer, is_zone0_unfull, super_block_of, closes, fresh_inodes, fresh_volume, not_formatted, mount_closed, mount_decoded, mount_read, mount_reported, mount_call}
use Rattle.zn_model.specs.ShownStates.{showing, worse, holds, mounted_by, mounted_shown}
use Rattle.zn_model.specs.SuperBlock.{SuperBlock}
use Rattle.zn_model.specs.Volume.{Volume, no_file, file_at, shown_at}
use Rattle.zn_model.specs.ZoneFiles.{layout_of, files_of}
use Rattle.zn_report.proofs.LayoutLaws.{layout_is}
use Rattle.zn_lines.specs.Table.{Table}
use Rattle.zn_remains.specs.Files.{IsOneZone, ShowsZone, FilesAreZones}
use Rattle.zn_remains.specs.Laws.{IsSession}
use Rattle.zn_remains.proofs.Lines.{AgreesIf}
use Rattle.zn_remains.proofs.Mounts.{zones_in, kind_in}
use Rattle.zn_remains.proofs.Recovering.{VolumeAgrees}
use Rattle.zn_remains.proofs.Scripts.{session_sits}
use Rattle.zn_remains.proofs.Standing.{Stands}

-- ---- a mounted volume

one_zone : (g : Geometry) (w : World) (v : Volume) (f : ℕ) → Stands g w → VolumeAgrees g v → (file_at v.inodes f).seq ≡ true → IsOneZone w.truth v f
one_zone g w v f stands agrees seq =
    let file = file_at v.inodes f in
    let is = agrees.files f in
    let one = is.single seq in
    let here : file.first + 0 ≡ file.first = omega arith in
    let kind : kind_at g file.first ≡ Sequential = ap (kind_at g) (sym here) ∙ is.kinds 0 (omega (arith, one)) ∙ ap (λ (b : Bool). if b then Sequential else Conventional) seq in
    record { one = one; zone = record { below = omega (arith, is.inside, one, zones_in g w stands); kind = sym (kind_in g w file.first stands) ∙ kind } }

mounted_zone : (table : Table) (v : Volume) (f : ℕ) → IsSession table → table.volume ≡ Some v → (file_at v.inodes f).seq ≡ true → IsOneZone table.world.truth v f
mounted_zone table v f session is seq =
    let sits = session_sits table session in
    one_zone (geometry_of session.begun.world) table.world v f sits.stands (subst (AgreesIf (geometry_of session.begun.world)) is sits.agrees) seq

-- ---- what a mount shows

-- of one good zone
shown_one : (t : Truth) (first zones : ℕ) (seq : Bool) → zones ≡ 1 → (zone_at t first).cond ≡ Good → (mounted_shown t (record { first = first; zones = zones; seq = seq })).size ≡ 4096 * (zone_at t first).held
shown_one t first zones seq one good =
    ap (λ (n : ℕ). (mounted_shown t (record { first = first; zones = n; seq = seq })).size) one
    ∙ by_cond (zone_at t first).cond good
  where
    by_cond : (cond : Cond) → cond ≡ Good → (mounted_by (worse cond Good) (4096 * holds (info_at t first ∷ []))).size ≡ 4096 * (zone_at t first).held
    by_cond cond is = ap (λ (c : Cond). (mounted_by (worse c Good) (4096 * holds (info_at t first ∷ []))).size) is ∙ (let sum : holds (info_at t first ∷ []) ≡ (info_at t first).held + 0 = sum_by-cons (λ (info : ZoneInfo). info.held) (info_at t first) [] in omega (arith, sum))

-- of a file of the layout, or of none, which isn't sequential
fresh_shows : (t : Truth) (aggr : Bool) (f : ℕ) → let inodes = fresh_inodes t (layout_of (geometry t).kinds aggr) in (file_at inodes f).seq ≡ true → (zone_at t (file_at inodes f).first).cond ≡ Good
    → (shown_at inodes f).size ≡ 4096 * (zone_at t (file_at inodes f).first).held
fresh_shows t aggr f seq good =
    let files = files_of (layout_of (geometry t).kinds aggr) in
    elim (cases_lt f (length files)) [
      | inl below ↦ ap (λ (s : Shown). s.size) (get_or-map (mounted_shown t) files f no_file (showing 0 false false false) below)
          ∙ shown_one t (get_or files f no_file).first (get_or files f no_file).zones (get_or files f no_file).seq (((layout_is (geometry t).kinds aggr).files f no_file below).single seq) good
      | inr past ↦ absurd (true≢false (sym seq ∙ ap (λ (file : FileZones). file.seq) (get_or_past files f no_file past)))
    ]

-- what a mount's answer shows, if it is a volume
abbrev Shows : Truth → MountAnswer → Type 0
Shows t answer = IfOk answer.reply (λ v. (f : ℕ) → (file_at v.inodes f).seq ≡ true → ShowsZone t v f)

closed_shows : (closed : Outcome) (reply : Reply) (t : Truth) (super_block : SuperBlock) (opts : MountOpts) → Shows t (mount_closed closed reply (fresh_volume t super_block opts))
unfolding fresh_volume
closed_shows closed (Ok unit) t super_block opts = fresh_shows t super_block.aggr_cnv
closed_shows closed (Err error) t super_block opts = tt

decoded_shows : (found : Result SuperBlock SuperError) (w : World) (t : Truth) (opts : MountOpts) → Shows t (mount_decoded found w t opts)
decoded_shows (Err error) w t opts = tt
decoded_shows (Ok super_block) w t opts = closed_shows (issue_all w (closes t)) (issue_all w (closes t)).reply t super_block opts

copies_shows : (given : List ℕ) (copies : Outcome) (reply : Reply) (t : Truth) (opts : MountOpts) → Shows t (mount_read given copies reply t opts)
copies_shows given copies (Ok unit) t opts = decoded_shows (super_block_of (copies_in t given)) copies.world t opts
copies_shows given copies (Err error) t opts = tt

chosen_shows : (t : Truth) (b : Bool) (one other : MountAnswer) → Shows t one → Shows t other → Shows t (if b then one else other)
chosen_shows t true one other here there = here
chosen_shows t false one other here there = there

reported_shows : (given : List ℕ) (reported : Outcome) (reply : Reply) (t : Truth) (opts : MountOpts) → Shows t (mount_reported given reported reply t opts)
reported_shows given reported (Err error) t opts = tt
reported_shows given reported (Ok unit) t opts =
    let copies = issue reported.world (ReadAt 0 0 2) in
    chosen_shows t (is_zone0_unfull t) (not_formatted Zone0NotFull reported.world) (mount_read given copies copies.reply t opts) tt (copies_shows given copies copies.reply t opts)

mount_shows : (given : List ℕ) (w : World) (opts : MountOpts) → Shows w.truth (mount_call given w opts)
unfolding mount_call
mount_shows given w opts = let reported = issue w (report_all w.truth) in reported_shows given reported reported.reply w.truth opts

pub files_are_zones : FilesAreZones
files_are_zones = record { mounted = mounted_zone; shown = mount_shows }
