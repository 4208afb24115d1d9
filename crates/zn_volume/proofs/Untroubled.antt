-- The commands of a call on a file that nothing stands against.
use Rattle.std.proofs.Common.{◌≡◌, ◌⊎◌, ℕ, ◌+◌, ◌-◌, ◌*◌, ◌/◌, ◌<◌, ◌≤◌, Bool, true, false, List, [], ◌∷◌, length, Some, None, Err, refl, sym, ◌∙◌, subst, inl, inr, arith}
use Rattle.std.specs.Prelude.{if◌then◌else◌}
use Rattle.std.proofs.lemmas.Bool.{false≢true, cases_lt, lt-ltb, le-ltb}
use Rattle.std.proofs.lemmas.Option.{same_Some}
use Rattle.zn_truth.specs.declared.Cond.{Cond}
use Rattle.zn_truth.specs.declared.Cond.TheVariants.{Good, ReadOnly as read_only_zone, Offline as offline_zone}
use Rattle.zn_truth.specs.declared.DevError.{DevError}
use Rattle.zn_truth.specs.declared.DevError.TheVariants.{ReadOnly, Offline, Unaligned, TooManyActive, TooManyOpen, BeyondWp}
use Rattle.zn_truth.specs.declared.ZoneOp.{ZoneOp}
use Rattle.zn_truth.specs.declared.ZoneOp.TheVariants.{Open, Close}
use Rattle.zn_truth.specs.FailureLaws.{FailsAt, IsNamedBy, HasNamedCondition, IsInRange}
use Rattle.zn_truth.specs.Truth.{Truth, zone_at, is_good, IsSound}
use Rattle.zn_truth.specs.Orders.{Order, ReadAt, Manage, FlushAll, refusal, reading, changing}
use Rattle.zn_truth.specs.OrderLists.{issue_all}
use Rattle.zn_truth.specs.World.{World, issue, geometry_of}
use Rattle.zn_truth.proofs.Failures.{failure_named, failure_has_order, each_is_in_range}
use Rattle.zn_truth.proofs.Issuing.{is_refusal}
use Rattle.zn_model.specs.declared.files.FileZones.{FileZones}
use Rattle.zn_model.specs.declared.files.Shown.{Shown}
use Rattle.zn_model.specs.OpenClose.{is_limit}
use Rattle.zn_model.specs.Pieces.{piece, read_in, write_in, reads, writes, zone_from, zone_to, Touched}
use Rattle.zn_model.specs.Reading.{read_end, read_area, read_orders}
use Rattle.zn_model.specs.Truncating.{truncate_orders}
use Rattle.zn_model.specs.Writing.{area_of}
use Rattle.zn_model.specs.ZoneFiles.{zone_room_of, capacity_of}
use Rattle.zn_io.specs.Files.{IsFile, IsWritable, shape_of}
use Rattle.zn_io.proofs.Places.{zones_inside, touched, area_lies, read_lies}
use Rattle.zn_volume.specs.IoErrors.{HasBadZone, HoldsOther}
use Rattle.zn_volume.specs.Untroubled.{IsUnstruck, HasGoodZones}
use Rattle.zn_volume.proofs.IoErrors.{lain, first_bad, write_bad, write_unaligned, read_bad, read_beyond, truncate_order}
use Rattle.zn_volume.proofs.Unstruck.{one_refused, refused_there, refuses_so}

-- ---- what a file that is untroubled can't have

-- a sequential file shows what its zone holds
abbrev ShowsAll : Truth → FileZones → Shown → Type 0
ShowsAll t file shown = file.seq ≡ true → 4096 * (zone_at t file.first).held ≡ shown.size

no_bad_zone : (t : Truth) (file : FileZones) → HasGoodZones t file → HasBadZone t file → ⊥
no_bad_zone t file zones h = false≢true (sym h.bad ∙ zones.good h.zone h.inside)

no_other : (t : Truth) (file : FileZones) (shown : Shown) → ShowsAll t file shown → HoldsOther t file shown → ⊥
no_other t file shown shows h = h.other (shows h.sequential)

-- ---- reads

reading_says : (c : Cond) (past : Bool) (error : DevError) → reading c (if past then Some BeyondWp else None) ≡ Some error → (error ≡ Offline) ⊎ (error ≡ BeyondWp)
reading_says Good true error h = inr (sym (same_Some BeyondWp error h))
reading_says Good false error h = absurd (cc)
reading_says read_only_zone true error h = inr (sym (same_Some BeyondWp error h))
reading_says read_only_zone false error h = absurd (cc)
reading_says offline_zone past error h = inl (sym (same_Some Offline error h))

-- a read's order fails for an offline zone, or past what the zone holds
read_says : (t : Truth) (z at n : ℕ) (order : Order) (error : DevError) → order ≡ ReadAt z at n → refusal t order ≡ Some error → (error ≡ Offline) ⊎ (error ≡ BeyondWp)
read_says t z at n order error is h =
    reading_says (zone_at t z).cond _ error (subst (λ (o : Order). refusal t o ≡ Some error) is h)

-- a read of blocks of the file
blocks_read : (w : World) (file : FileZones) (shown : Shown) (from blocks : ℕ) → IsSound w.truth → IsFile (geometry_of w) file → (file.seq ≡ true → file.zones ≡ 1)
    → zone_to (lain (shape_of w) file from blocks) ≤ file.zones → ((i : ℕ) → zone_from (lain (shape_of w) file from blocks) ≤ i → i < zone_to (lain (shape_of w) file from blocks) → Touched (lain (shape_of w) file from blocks) i)
    → ((k : ℕ) → k < from + blocks → 4096 * k < shown.size) → IsUnstruck w (reads (lain (shape_of w) file from blocks)) → HasGoodZones w.truth file → ShowsAll w.truth file shown
    → (error : DevError) → (issue_all w (reads (lain (shape_of w) file from blocks))).reply ≡ Err error → ⊥
blocks_read w file shown from blocks sound is single within touched size unstruck zones shows error failed =
    let a = lain (shape_of w) file from blocks in
    let fails : FailsAt w (reads (lain (shape_of w) file from blocks)) error = failure_has_order w (reads a) error failed in
    let at : IsInRange (read_in (lain (shape_of w) file from blocks)) (zone_from (lain (shape_of w) file from blocks)) (zone_to (lain (shape_of w) file from blocks)) fails.order =
    each_is_in_range (read_in a) (zone_from a) (zone_to a) fails.before fails.order fails.after fails.parts in
    elim (read_says _ (piece a at.index).zone (piece a at.index).at (piece a at.index).blocks fails.order error at.is (refused_there w (reads a) error unstruck fails)) [
      | inl off ↦ no_bad_zone w.truth file zones (read_bad w file from blocks Offline offline_zone within refl (λ z at n has. has)
          (subst (λ (e : DevError). FailsAt w (reads (lain (shape_of w) file from blocks)) e) off fails))
      | inr past ↦ elim (read_beyond w file shown from blocks sound is single within touched size (subst (λ (e : DevError). FailsAt w (reads (lain (shape_of w) file from blocks)) e) past fails)) [
        | inl bad ↦ no_bad_zone w.truth file zones bad
        | inr other ↦ no_other w.truth file shown shows other
      ]
    ]

-- a read of bytes of the file
pub bytes_read : (w : World) (file : FileZones) (shown : Shown) (offset len : ℕ) → IsSound w.truth → IsFile (geometry_of w) file → (file.seq ≡ true → file.zones ≡ 1)
    → shown.size ≤ capacity_of (shape_of w) file → IsUnstruck w (read_orders (shape_of w) file offset (read_end shown offset len)) → HasGoodZones w.truth file → ShowsAll w.truth file shown
    → (error : DevError) → (issue_all w (read_orders (shape_of w) file offset (read_end shown offset len))).reply ≡ Err error → ⊥
bytes_read w file shown offset len sound is single size unstruck zones shows error failed = elim (cases_lt offset (read_end shown offset len)) [
  | inl some ↦
      let end = read_end shown offset len in
      let lies = read_lies (geometry_of w) file offset end is some (omega (arith, size)) in
      let blocks = (end + 4095) / 4096 - offset / 4096 in
      let within = zones_inside (offset / 4096 + blocks) file.zones (zone_room_of (shape_of w) file) lies.room (omega (arith, lies.some)) lies.inside in
      blocks_read w file shown (offset / 4096) blocks sound is single (omega (arith, within))
      (λ i above below. touched (read_area (shape_of w) file offset end) i lies.room lies.some above below)
      (λ k below. omega (arith, below, some))
      (subst (λ (b : Bool). IsUnstruck w (if b then reads (read_area (shape_of w) file offset end) else [])) (lt-ltb offset end some) unstruck) zones shows error
      (subst (λ (b : Bool). (issue_all w (if b then reads (read_area (shape_of w) file offset end) else [])).reply ≡ Err error) (lt-ltb offset end some) failed)
  | inr none ↦ nothing (subst (λ (b : Bool). (issue_all w (if b then reads (read_area (shape_of w) file offset (read_end shown offset len)) else [])).reply ≡ Err error) (le-ltb offset (read_end shown offset len) none) failed)
]
  where
    nothing : (issue_all w []).reply ≡ Err error → ⊥
    nothing h = cc

-- ---- zone commands

-- a command that manages a good zone of the file fails for a limit alone
manage_limits : (w : World) (op : ZoneOp) (file : FileZones) (error : DevError) → 0 < file.zones → HasGoodZones w.truth file → IsUnstruck w (Manage file.first op ∷ [])
    → (issue w (Manage file.first op)).reply ≡ Err error → is_limit error ≡ true
manage_limits w op file error some zones unstruck failed = by_error error (refuses_so w.truth (Manage file.first op) error (one_refused w (Manage file.first op) error unstruck failed)) (failure_named w (Manage file.first op) error failed).means
  where
    by_error : (error : DevError) → is_refusal error ≡ true → IsNamedBy error (Manage file.first op) w.truth → is_limit error ≡ true
    by_error ReadOnly so named = absurd (no_bad_zone w.truth file zones (first_bad w.truth file read_only_zone some named refl))
    by_error Offline so named = absurd (no_bad_zone w.truth file zones (first_bad w.truth file offline_zone some named refl))
    by_error Unaligned so named = absurd named
    by_error BeyondWp so named = absurd named
    by_error TooManyActive so named = refl
    by_error TooManyOpen so named = refl
    by_error _ so named = absurd (false≢true so)

pub open_limits : (w : World) (file : FileZones) (error : DevError) → 0 < file.zones → HasGoodZones w.truth file → IsUnstruck w (Manage file.first Open ∷ [])
    → (issue w (Manage file.first Open)).reply ≡ Err error → is_limit error ≡ true
open_limits w file error some zones unstruck failed = manage_limits w Open file error some zones unstruck failed

-- no limit refuses a close
closing_says : (c : Cond) (error : DevError) → changing c None ≡ Some error → is_good c ≡ false
closing_says Good error h = absurd (cc)
closing_says read_only_zone error h = refl
closing_says offline_zone error h = refl

pub zone_closes : (w : World) (file : FileZones) (error : DevError) → 0 < file.zones → HasGoodZones w.truth file → IsUnstruck w (Manage file.first Close ∷ [])
    → (issue w (Manage file.first Close)).reply ≡ Err error → ⊥
zone_closes w file error some zones unstruck failed =
    no_bad_zone w.truth file zones (first_bad w.truth file (zone_at w.truth file.first).cond some refl
    (closing_says (zone_at w.truth file.first).cond error (one_refused w (Manage file.first Close) error unstruck failed)))

-- the commands of a truncation fail for a limit alone
pub truncate_limits : (w : World) (file : FileZones) (shown : Shown) (size : ℕ) (error : DevError) → 0 < file.zones → HasGoodZones w.truth file → IsUnstruck w (truncate_orders file shown size)
    → (issue_all w (truncate_orders file shown size)).reply ≡ Err error → is_limit error ≡ true
truncate_limits w file shown size error some zones unstruck failed =
    let fails = failure_has_order w (truncate_orders file shown size) error failed in
    let is = (truncate_order w file shown size error fails).is in
    by_error (truncate_order w file shown size error fails).op (issue_all w fails.before).world.truth error (refuses_so (issue_all w fails.before).world.truth fails.order error (refused_there w (truncate_orders file shown size) error unstruck fails))
    (subst (λ (o : Order). IsNamedBy error o (issue_all w fails.before).world.truth) is fails.named.means)
    (subst (λ (o : Order). HasNamedCondition error o w.truth) is fails.condition)
  where
    by_error : (op : ZoneOp) (t : Truth) (error : DevError) → is_refusal error ≡ true → IsNamedBy error (Manage file.first op) t → HasNamedCondition error (Manage file.first op) w.truth → is_limit error ≡ true
    by_error op t ReadOnly so named had = absurd (no_bad_zone w.truth file zones (first_bad w.truth file read_only_zone some had refl))
    by_error op t Offline so named had = absurd (no_bad_zone w.truth file zones (first_bad w.truth file offline_zone some had refl))
    by_error op t Unaligned so named had = absurd named
    by_error op t BeyondWp so named had = absurd named
    by_error op t TooManyActive so named had = refl
    by_error op t TooManyOpen so named had = refl
    by_error op t _ so named had = absurd (false≢true so)

-- ---- flushes

-- nothing refuses a flush
pub flush_done : (w : World) (error : DevError) → IsUnstruck w (FlushAll ∷ []) → (issue w FlushAll).reply ≡ Err error → ⊥
flush_done w error unstruck failed = none (one_refused w FlushAll error unstruck failed)
  where
    none : refusal w.truth FlushAll ≡ Some error → ⊥
    none h = cc

-- ---- writes

-- a write of bytes to the file fails for a limit alone
pub write_limits : (w : World) (file : FileZones) (shown : Shown) (offset : ℕ) (bytes : List ℕ) (error : DevError) → IsFile (geometry_of w) file → (file.seq ≡ true → file.zones ≡ 1)
    → IsWritable (shape_of w) file shown offset (length bytes) → (file.seq ≡ true → offset ≡ shown.size) → HasGoodZones w.truth file → ShowsAll w.truth file shown
    → IsUnstruck w (writes (area_of (shape_of w) file offset (length bytes)) bytes) → (issue_all w (writes (area_of (shape_of w) file offset (length bytes)) bytes)).reply ≡ Err error → is_limit error ≡ true
write_limits w file shown offset bytes error is single writable at_end zones shows unstruck failed =
    let lies = area_lies (geometry_of w) file shown offset (length bytes) is writable in
    let within = zones_inside (offset / 4096 + length bytes / 4096) file.zones (zone_room_of (shape_of w) file) lies.room (omega (arith, lies.some)) lies.inside in
    let a = area_of (shape_of w) file offset (length bytes) in
    let fails : FailsAt w (writes (area_of (shape_of w) file offset (length bytes)) bytes) error = failure_has_order w (writes a bytes) error failed in
    let at : IsInRange (write_in (area_of (shape_of w) file offset (length bytes)) bytes) (zone_from (area_of (shape_of w) file offset (length bytes))) (zone_to (area_of (shape_of w) file offset (length bytes))) fails.order =
    each_is_in_range (write_in a bytes) (zone_from a) (zone_to a) fails.before fails.order fails.after fails.parts in
    by_error at.index (issue_all w fails.before).world.truth error fails (omega (arith, within)) (λ sequential. omega (arith, at_end sequential, writable.aligned))
    (refuses_so (issue_all w fails.before).world.truth fails.order error (refused_there w (writes a bytes) error unstruck fails))
    (subst (λ (o : Order). IsNamedBy error o (issue_all w fails.before).world.truth) at.is fails.named.means)
  where
    by_error : (i : ℕ) (t : Truth) (error : DevError) → FailsAt w (writes (area_of (shape_of w) file offset (length bytes)) bytes) error
        → zone_to (lain (shape_of w) file (offset / 4096) (length bytes / 4096)) ≤ file.zones → (file.seq ≡ true → shown.size ≡ 4096 * (offset / 4096))
        → is_refusal error ≡ true → IsNamedBy error (write_in (area_of (shape_of w) file offset (length bytes)) bytes i) t → is_limit error ≡ true
    by_error i t ReadOnly fails within size so named =
        absurd (no_bad_zone w.truth file zones (write_bad w file (offset / 4096) (length bytes / 4096) bytes ReadOnly read_only_zone within refl (λ z at part has. has) fails))
    by_error i t Offline fails within size so named =
        absurd (no_bad_zone w.truth file zones (write_bad w file (offset / 4096) (length bytes / 4096) bytes Offline offline_zone within refl (λ z at part has. has) fails))
    by_error i t Unaligned fails within size so named =
        absurd (no_other w.truth file shown shows (write_unaligned w file shown (offset / 4096) (length bytes / 4096) bytes is single within size fails))
    by_error i t BeyondWp fails within size so named = absurd named
    by_error i t TooManyActive fails within size so named = refl
    by_error i t TooManyOpen fails within size so named = refl
    by_error i t _ fails within size so named = absurd (false≢true so)
