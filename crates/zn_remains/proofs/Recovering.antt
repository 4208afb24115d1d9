-- What follows a failed command reaches its device by a report, and leaves a volume that agrees with it.
use Rattle.std.proofs.Common.{◌≡◌, ℕ, zero, suc, ◌+◌, ◌*◌, ◌<◌, ◌≤◌, Bool, true, false, List, ◌∷◌, length, map, Option, Some, None, Ok, Err, refl, sym, ap, ◌∙◌, subst, arith, add-zero}
use Rattle.std.specs.Prelude.{if◌then◌else◌, not, ◌==◌, ◌&&◌, ◌||◌, IfSome, IfOk}
use Rattle.std.specs.List.{range_with_len}
use Rattle.std.proofs.Math.Nat.{suc-mul}
use Rattle.std.proofs.lemmas.Bool.{and_parts}
use Rattle.std.proofs.lemmas.List.Elements.{All-filter}
use Rattle.std.proofs.lemmas.List.Sums.{sum_by-cons}
use Rattle.zn_truth.specs.declared.Cond.{Cond}
use Rattle.zn_truth.specs.declared.Cond.TheVariants.{Good, ReadOnly, Offline}
use Rattle.zn_truth.specs.declared.DevError.{DevError}
use Rattle.zn_truth.specs.declared.Kind.{Kind}
use Rattle.zn_truth.specs.declared.Shape.{Shape}
use Rattle.zn_truth.specs.declared.ZoneInfo.{ZoneInfo}
use Rattle.zn_truth.specs.Truth.{Geometry, Truth, zone_at, info_at, room, kind_at, is_good}
use Rattle.zn_truth.specs.Orders.{Reply}
use Rattle.zn_truth.specs.World.{World, issue, geometry_of}
use Rattle.zn_truth.proofs.Issuing.{kind_is, kinds-length}
use Rattle.zn_model.specs.declared.answers.Refusal.{Refusal}
use Rattle.zn_model.specs.declared.files.FileZones.{FileZones}
use Rattle.zn_model.specs.declared.files.Found.{Found}
use Rattle.zn_model.specs.declared.files.Policy.{Policy}
use Rattle.zn_model.specs.declared.files.Policy.TheVariants.{RemountRo, ZoneRo, ZoneOffline, Repair}
use Rattle.zn_model.specs.declared.files.Shown.{Shown}
use Rattle.zn_model.specs.Recovery.{report_of, Finding, found_by, is_passed_on, refusal_of, recovered_shown, recovered_inodes, agrees as shows_found, applied, volume_after, finding_of, recovered, failed_by, after_failure}
use Rattle.zn_model.specs.ShownStates.{infos_of, holds, policy_row, makes_read_only}
use Rattle.zn_model.specs.Volume.{Request, Volume, Mounted, file_at, capacity_at, shown_at}
use Rattle.zn_model.specs.ZoneFiles.{room_of, zone_room_of}
use Rattle.zn_remains.specs.Events.{Event, Ordered}
use Rattle.zn_remains.proofs.Agreement.{Agrees, IsRequestFor, agrees_changed, others, others_fewer, others_none}
use Rattle.zn_remains.proofs.Areas.{IsFileIn}
use Rattle.zn_remains.proofs.Reached.{Reached, reached_none, reached_one, reached_both}
use Rattle.zn_remains.proofs.Standing.{Stands}

-- ---- what a file's zones hold

holds_range : (t : Truth) (most first n : ℕ) → ((i : ℕ) → i < n → (info_at t (first + i)).held ≤ most) → holds (map (info_at t) (range_with_len first n)) ≤ n * most
holds_range t most first zero each = omega arith
holds_range t most first (suc n) each =
    let here : (info_at t first).held ≤ most = subst (λ (z : ℕ). (info_at t z).held ≤ most) (add-zero first) (each 0 (omega arith)) in
    let rest : holds (map (info_at t) (range_with_len (first + 1) n)) ≤ n * most =
    holds_range t most (first + 1) n (λ i below. let e : first + (i + 1) ≡ first + 1 + i = omega arith in subst (λ (z : ℕ). (info_at t z).held ≤ most) e (each (i + 1) (omega arith))) in
    let parts : holds (info_at t first ∷ map (info_at t) (range_with_len (first + 1) n)) ≡ (info_at t first).held + holds (map (info_at t) (range_with_len (first + 1) n)) =
    sum_by-cons (λ (info : ZoneInfo). info.held) (info_at t first) (map (info_at t) (range_with_len (first + 1) n)) in
    let more : suc n * most ≡ n * most + most = suc-mul n most in
    omega (arith, here, rest, parts, more)

pub shape_is : (g : Geometry) (w : World) → Stands g w → w.truth.shape ≡ g.shape
unfolding geometry_of
shape_is g w stands = ap (λ (h : Geometry). h.shape) stands.geometry

-- no more than the file has room for
pub holds_file : (g : Geometry) (w : World) (file : FileZones) → Stands g w → IsFileIn g file → holds (infos_of w.truth file) ≤ room_of g.shape file
holds_file g w file stands is = holds_range w.truth (zone_room_of g.shape file) file.first file.zones (λ i below.
    let kinds : length g.kinds ≡ length w.truth.zones = sym (ap (λ (h : Geometry). length h.kinds) stands.geometry) ∙ kinds-length w in
    let there : file.first + i < length w.truth.zones = omega (arith, is.inside, below, kinds) in
    let most = (stands.sound.zones (file.first + i) there).held in
    let kind : (zone_at w.truth (file.first + i)).kind ≡ kind_at g (file.first + i) = sym (kind_is w (file.first + i)) ∙ ap (λ (h : Geometry). kind_at h (file.first + i)) stands.geometry in
    let same : room w.truth.shape (zone_at w.truth (file.first + i)).kind ≡ zone_room_of g.shape file =
    ap (λ (s : Shape). room s (zone_at w.truth (file.first + i)).kind) (shape_is g w stands) ∙ ap (λ (k : Kind). room g.shape k) (kind ∙ is.kinds i below) in
    omega (arith, most, same))

-- ---- what is found

failed_within : (passed_on : Bool) (error : DevError) (most : ℕ) → IfOk {T = Found} (if passed_on then Err error else Ok (record { cond = Offline; held = 0 })) (λ found. found.held ≤ most)
failed_within true error most = tt
failed_within false error most = omega arith

found_within : (reply : Reply) (infos : List ZoneInfo) (most : ℕ) → holds infos ≤ most → IfOk (found_by reply infos) (λ found. found.held ≤ most)
found_within (Ok unit) infos most within = within
found_within (Err error) infos most within = failed_within (is_passed_on error) error most

chosen_within : (b : Bool) (found : Found) (most : ℕ) → found.held ≤ most → IfSome (if b then None else Some found) (λ found. found.held ≤ most)
chosen_within true found most within = tt
chosen_within false found most within = within

applied_within : (after_read : Bool) (finding : Finding) (shown : Shown) (most : ℕ) → IfOk finding (λ found. found.held ≤ most) → IfSome (applied after_read finding shown) (λ found. found.held ≤ most)
applied_within after_read (Ok found) shown most within = chosen_within (after_read && shows_found found shown) found most within
applied_within after_read (Err error) shown most within = tt

-- ---- what becomes of the file

row_size : (policy : Policy) (cond : Cond) (held size most : ℕ) (stays_open : Bool) → held ≤ most → size ≤ most → (policy_row policy cond held size stays_open).size ≤ most
row_size RemountRo Good held size most stays_open h k = h
row_size RemountRo ReadOnly held size most stays_open h k = k
row_size RemountRo Offline held size most stays_open h k = omega arith
row_size ZoneRo Good held size most stays_open h k = h
row_size ZoneRo ReadOnly held size most stays_open h k = k
row_size ZoneRo Offline held size most stays_open h k = omega arith
row_size ZoneOffline Good held size most stays_open h k = omega arith
row_size ZoneOffline ReadOnly held size most stays_open h k = omega arith
row_size ZoneOffline Offline held size most stays_open h k = omega arith
row_size Repair Good held size most stays_open h k = h
row_size Repair ReadOnly held size most stays_open h k = k
row_size Repair Offline held size most stays_open h k = omega arith

row_open : (policy : Policy) (cond : Cond) (held size : ℕ) (stays_open : Bool) → (policy_row policy cond held size stays_open).held_open ≡ stays_open
row_open RemountRo Good held size stays_open = refl
row_open RemountRo ReadOnly held size stays_open = refl
row_open RemountRo Offline held size stays_open = refl
row_open ZoneRo Good held size stays_open = refl
row_open ZoneRo ReadOnly held size stays_open = refl
row_open ZoneRo Offline held size stays_open = refl
row_open ZoneOffline Good held size stays_open = refl
row_open ZoneOffline ReadOnly held size stays_open = refl
row_open ZoneOffline Offline held size stays_open = refl
row_open Repair Good held size stays_open = refl
row_open Repair ReadOnly held size stays_open = refl
row_open Repair Offline held size stays_open = refl

-- the volume's files and requests agree with the device
abbrev pub VolumeAgrees : Geometry → Volume → Type 0
VolumeAgrees g v = Agrees g v.inodes v.queue.queued

-- a recovery of one file: its state by the policy's row, and its requests ended
recovered_agrees : (g : Geometry) (v : Volume) (found : Found) (f : ℕ) → VolumeAgrees g v → found.held ≤ room_of g.shape (file_at v.inodes f) → VolumeAgrees g (volume_after (Some found) v f)
unfolding recovered_inodes
recovered_agrees g v found f agrees within =
    let inodes = v.inodes in
    let file = file_at v.inodes f in
    let shown = recovered_shown v.policy found inodes.shape file (shown_at inodes f) in
    let stays_open = (shown_at inodes f).held_open && is_good found.cond && not (found.held == room_of inodes.shape file) in
    let held : 4096 * found.held ≤ capacity_at inodes f = let room : room_of inodes.shape file ≡ room_of g.shape file = ap (λ (s : Shape). room_of s file) agrees.shape in omega (arith, within, room) in
    let size : shown.size ≤ capacity_at inodes f = row_size v.policy found.cond (4096 * found.held) (shown_at inodes f).size (capacity_at inodes f) stays_open held (agrees.sizes f) in
    agrees_changed g inodes v.queue.queued (others f v.queue.queued) f shown (inodes.read_only || makes_read_only v.policy) agrees size
    (λ seq. omega (arith, size, others_none f v.queue.queued))
    (λ is. let was : stays_open ≡ true = sym (row_open v.policy found.cond (4096 * found.held) (shown_at inodes f).size stays_open) ∙ is in
    agrees.held f (and_parts (shown_at inodes f).held_open (is_good found.cond) (and_parts ((shown_at inodes f).held_open && is_good found.cond) (not (found.held == room_of inodes.shape file)) was).0).0)
    (others_fewer f v.queue.queued)
    (All-filter (λ (request : Request). not (request.file == f)) (IsRequestFor inodes) v.queue.queued agrees.waiting)

after_agrees : (g : Geometry) (v : Volume) (found : Option Found) (f : ℕ) → VolumeAgrees g v → IfSome found (λ found. found.held ≤ room_of g.shape (file_at v.inodes f)) → VolumeAgrees g (volume_after found v f)
after_agrees g v None f agrees within = agrees
after_agrees g v (Some found) f agrees within = recovered_agrees g v found f agrees within

-- ---- after a failure

-- a device that events lead to, and a volume that agrees with it
pub record Went (g : Geometry) (P : Event → Type 0) (w : World) (after : Mounted) : Type 0 where
  pub reached : Reached P w after.world
  pub agrees : VolumeAgrees g after.volume

module _ (g : Geometry) (P : Event → Type 0) where
  pub went_nowhere : (m : Mounted) → VolumeAgrees g m.volume → Went g P m.world m
  went_nowhere m agrees = record { reached = reached_none P m.world; agrees = agrees }

  pub went_further : (w u : World) (after : Mounted) → Reached P w u → Went g P u after → Went g P w after
  went_further w u after first went = record { reached = reached_both P w u after.world first went.reached; agrees = went.agrees }

module _ (g : Geometry) (P : Event → Type 0) (reports : (file : FileZones) → IsFileIn g file → P (Ordered (report_of file))) where
  pub recovered_went : (after_read : Bool) (m : Mounted) (f : ℕ) → Stands g m.world → VolumeAgrees g m.volume → Went g P m.world (recovered after_read m f)
  unfolding recovered
  recovered_went after_read m f stands agrees =
      let file = file_at m.volume.inodes f in
      record {
        reached = reached_one P m.world (Ordered (report_of file)) (reports file (agrees.files f));
        agrees = after_agrees g m.volume (applied after_read (finding_of m f) (shown_at m.volume.inodes f)) f agrees
            (applied_within after_read (finding_of m f) (shown_at m.volume.inodes f) (room_of g.shape file)
            (found_within (issue m.world (report_of file)).reply (infos_of m.world.truth file) (room_of g.shape file) (holds_file g m.world file stands (agrees.files f))));
      }

  failed_by_went : (passed_on after_read : Bool) (refusal : Refusal) (m : Mounted) (f : ℕ) → Stands g m.world → VolumeAgrees g m.volume → Went g P m.world (failed_by passed_on after_read refusal m f).mounted
  failed_by_went true after_read refusal m f stands agrees = went_nowhere g P m agrees
  failed_by_went false after_read refusal m f stands agrees = recovered_went after_read m f stands agrees

  pub failure_went : (after_read : Bool) (error : DevError) (m : Mounted) (f : ℕ) → Stands g m.world → VolumeAgrees g m.volume → Went g P m.world (after_failure after_read error m f).mounted
  unfolding after_failure
  failure_went after_read error m f stands agrees = failed_by_went (is_passed_on error) after_read (refusal_of error) m f stands agrees
