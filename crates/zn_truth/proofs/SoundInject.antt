-- Scripted faults, turns of condition and losses of power keep a device sound, and its geometry.
use Rattle.std.proofs.Common.{◌≡◌, ℕ, ◌<◌, Bool, true, false, ◌||◌, not, length, Some, nat_le, Err, refl, sym, ◌∙◌, arith}
use Rattle.std.specs.Prelude.{◌&&◌, is_some}
use Rattle.std.specs.List.{list_any}
use Rattle.std.proofs.lemmas.Grind.{common_steps}
use Rattle.std.proofs.lemmas.Bool.Decides.{nat_tests}
use Rattle.std.proofs.lemmas.Bool.{true≢false, false≢true, ltb-true, leb-false, not-false}
use Rattle.zn_truth.specs.declared.Cond.{Cond}
use Rattle.zn_truth.specs.declared.Cond.TheVariants.{Good, ReadOnly, Offline}
use Rattle.zn_truth.specs.declared.Shape.{Shape}
use Rattle.zn_truth.specs.declared.LossSpec.{LossSpec}
use Rattle.zn_truth.specs.declared.Armed.{Armed}
use Rattle.zn_truth.specs.declared.InjectError.TheVariants.{PowerLost}
use Rattle.zn_truth.specs.Truth.{Truth, Zone, zone_at, seen, geometry, is_good, is_active, IsSound, IsSoundZone}
use Rattle.zn_truth.specs.Loss.{turned_by, turned}
use Rattle.zn_truth.specs.Power.{lost}
use Rattle.zn_truth.specs.World.{World, geometry_of}
use Rattle.zn_truth.specs.Inject.{Injected, unless_bad, is_zone, severity, is_misplaced, are_bad_cuts, is_outside, is_done_or_not, turn, lose_power, arm_loss}
use Rattle.zn_truth.specs.SoundLaws.{LeavesTruth}
use Rattle.zn_truth.proofs.SoundLoss.{lost_sound, lost-geometry}
use Rattle.zn_truth.proofs.Sound.{with_zone_sound, with_zone-geometry}
use Rattle.zn_truth.proofs.SoundIssue.{if_keeps}

-- what holds of a device as it was, and as it is where nothing refuses
unless_bad_keeps : (P : World → Type 0) (bad : Bool) (w new : World) → P w → (bad ≡ false → P new) → P (unless_bad bad w new).world
unless_bad_keeps P true w new old then = old
unless_bad_keeps P false w new old then = then refl

-- ---- turns of condition

read_only_sound : (told : Bool) (shape : Shape) (zone : Zone) → IsSoundZone told shape zone → is_good zone.cond ≡ true → IsSoundZone told shape (seen told (turned_by ReadOnly zone))
read_only_sound told shape zone sound good = grind (arith, nat_tests, common_steps)

offline_sound : (told : Bool) (shape : Shape) (zone : Zone) → IsSoundZone told shape zone → IsSoundZone told shape (seen told (turned_by Offline zone))
offline_sound told shape zone sound = grind (arith, nat_tests, common_steps)

good_if_milder : (cond : Cond) → severity cond < 1 → is_good cond ≡ true
good_if_milder Good milder = refl
good_if_milder ReadOnly milder = absurd (omega arith)
good_if_milder Offline milder = absurd (omega arith)

pub turned_zone_sound : (told : Bool) (shape : Shape) (zone : Zone) (to : Cond) → IsSoundZone told shape zone → severity zone.cond < severity to → IsSoundZone told shape (seen told (turned_by to zone))
turned_zone_sound told shape zone Good sound worse = absurd (omega arith)
turned_zone_sound told shape zone ReadOnly sound worse = read_only_sound told shape zone sound (good_if_milder zone.cond worse)
turned_zone_sound told shape zone Offline sound worse = offline_sound told shape zone sound

-- a turned zone is closed, and not active
turned_inactive : (shape : Shape) (zone : Zone) (to : Cond) → 0 < severity to → is_active shape (turned_by to zone) ≡ false
turned_inactive shape zone Good worse = absurd (omega arith)
turned_inactive shape zone ReadOnly worse = grind (arith, nat_tests)
turned_inactive shape zone Offline worse = grind (arith, nat_tests)

turned_closed : (zone : Zone) (to : Cond) → (turned_by to zone).explicit ≡ false
turned_closed zone Good = refl
turned_closed zone ReadOnly = refl
turned_closed zone Offline = refl

turned_by-kind : (zone : Zone) (to : Cond) → (turned_by to zone).kind ≡ zone.kind
turned_by-kind zone Good = refl
turned_by-kind zone ReadOnly = refl
turned_by-kind zone Offline = refl

-- a truth in which one zone turns to a worse condition
pub turned_sound : (t : Truth) (z : ℕ) (to : Cond) → IsSound t → z < length t.zones → severity (zone_at t z).cond < severity to → IsSound (turned t z to)
unfolding turned
turned_sound t z to sound below worse = with_zone_sound t z (turned_by to (zone_at t z)) sound below
    (turned_zone_sound t.told t.shape (zone_at t z) to (sound.zones z below) worse)
    (λ is. absurd (false≢true (sym (turned_inactive t.shape (zone_at t z) to (omega arith)) ∙ is)))
    (λ is. absurd (false≢true (sym (turned_closed (zone_at t z) to) ∙ is)))

pub turned-geometry : (t : Truth) (z : ℕ) (to : Cond) → geometry (turned t z to) ≡ geometry t
unfolding turned
turned-geometry t z to = with_zone-geometry t z (turned_by to (zone_at t z)) (turned_by-kind (zone_at t z) to)

or_false : (a b : Bool) → (a || b) ≡ false → (a ≡ false) × (b ≡ false)
or_false false b h = (refl, h)
or_false true b h = absurd (true≢false h)

pub turn_keeps : (P : World → Type 0) (w : World) (z : ℕ) (to : Cond) → P w → (z < length w.truth.zones → severity (zone_at w.truth z).cond < severity to → P (record w { truth = turned w.truth z to })) → P (turn w z to).world
unfolding turn
turn_keeps P w z to old then =
    if_keeps (λ (i : Injected). P i.world) (not w.powered) (record { reply = Err PowerLost; world = w }) (unless_bad (not (is_zone w.truth z) || nat_le (severity to) (severity (zone_at w.truth z).cond)) w (record w { truth = turned w.truth z to })) old
    (unless_bad_keeps P (not (is_zone w.truth z) || nat_le (severity to) (severity (zone_at w.truth z).cond)) w (record w { truth = turned w.truth z to }) old (λ none.
    let parts = or_false (not (is_zone w.truth z)) (nat_le (severity to) (severity (zone_at w.truth z).cond)) none in
    then (ltb-true z (length w.truth.zones) (not-false (is_zone w.truth z) parts.0)) (leb-false (severity to) (severity (zone_at w.truth z).cond) parts.1)))

pub turn_sound : (w : World) (z : ℕ) (to : Cond) → IsSound w.truth → IsSound (turn w z to).world.truth
turn_sound w z to sound = turn_keeps (λ v. IsSound v.truth) w z to sound (λ below worse. turned_sound w.truth z to sound below worse)

pub turn-geometry : (w : World) (z : ℕ) (to : Cond) → geometry_of (turn w z to).world ≡ geometry_of w
unfolding geometry_of
turn-geometry w z to = turn_keeps (λ v. geometry_of v ≡ geometry_of w) w z to refl (λ below worse. turned-geometry w.truth z to)

-- ---- losses of power

pub lose_power_keeps : (P : World → Type 0) (w : World) (loss : LossSpec) → P w → P (record w { truth = lost w.truth loss; powered = false }) → P (lose_power w loss).world
unfolding lose_power
lose_power_keeps P w loss old new =
    if_keeps (λ (i : Injected). P i.world) (not w.powered) (record { reply = Err PowerLost; world = w }) (unless_bad (are_bad_cuts w.truth loss.cuts || list_any (is_outside w.truth) loss.cuts) w (record w { truth = lost w.truth loss; powered = false })) old
    (unless_bad_keeps P (are_bad_cuts w.truth loss.cuts || list_any (is_outside w.truth) loss.cuts) w (record w { truth = lost w.truth loss; powered = false }) old (λ none. new))

pub lose_power_sound : (w : World) (loss : LossSpec) → IsSound w.truth → IsSound (lose_power w loss).world.truth
lose_power_sound w loss sound = lose_power_keeps (λ v. IsSound v.truth) w loss sound (lost_sound w.truth loss sound)

pub lose_power-geometry : (w : World) (loss : LossSpec) → geometry_of (lose_power w loss).world ≡ geometry_of w
unfolding geometry_of
lose_power-geometry w loss = lose_power_keeps (λ v. geometry_of v ≡ geometry_of w) w loss refl (lost-geometry w.truth loss)

-- ---- what only waits

pub arm_loss_leaves : (w : World) (armed : Armed) → LeavesTruth w (arm_loss w armed).world
unfolding arm_loss
arm_loss_leaves w armed = unless_bad_keeps (LeavesTruth w) (is_misplaced w.truth armed.zone.0 armed.command || are_bad_cuts w.truth armed.loss.cuts || (armed.carried_out && not (is_done_or_not armed.command)) || is_some w.armed)
    w (record w { armed = Some armed }) (record { truth = refl; powered = refl }) (λ none. record { truth = refl; powered = refl })

pub ruleset Geometries = (turn-geometry, lose_power-geometry)
