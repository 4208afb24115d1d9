-- A device without faults of its own that is asked, and harmed.
use Rattle.std.proofs.Common.{◌≡◌, ℕ, Bool, true, false, length, None, Ok, refl, sym, ap, ◌∙◌, subst, arith}
use Rattle.std.specs.Prelude.{◌&&◌, nat_lt}
use Rattle.std.proofs.lemmas.Bool.Decides.{nat_tests}
use Rattle.std.proofs.lemmas.List.{get_or_past}
use Rattle.zn_base.specs.Causes.{Rose}
use Rattle.zn_truth.specs.declared.Kind.{Kind}
use Rattle.zn_truth.specs.declared.Kind.TheVariants.{Conventional, Sequential}
use Rattle.zn_truth.specs.Truth.{Truth, Zone, zone_at, with_zone, no_zone, kind_at, is_sequential, is_good}
use Rattle.zn_truth.specs.Orders.{ReportFrom, Reply, done}
use Rattle.zn_truth.specs.Power.{settled, clamped}
use Rattle.zn_truth.specs.World.{World, Outcome, geometry_of, issue, calm, settled_by_flush}
use Rattle.zn_truth.proofs.Issuing.{calm_done, kinds-length, kind_is, not_settled, is_settled}
use Rattle.zn_device.specs.States.{DeviceState, Caused, Commanded}
use Rattle.zn_device.specs.Harms.{Harmed}

-- how many zones the geometry tells
pub zones_known : (w : World) → length (geometry_of w).kinds ≡ length w.truth.zones
zones_known w = kinds-length w

-- ---- a device that isn't harmed

-- a device that does nothing is harmed by nothing
pub unharmed : (s : DeviceState) → s.spoilt ≡ false → Harmed s.world.truth (Ok tt) s s
unharmed s unspoilt = record {
  done = λ answered. refl;
  world = λ answered. refl;
  geometry = refl;
  caused = record {
    spoilt = unspoilt;
    cause = record {
      later = omega arith;
      fault = λ is. absurd (cc);
      kept = λ ok. refl;
      no_fewer = omega arith;
      broken = λ is. absurd (cc);
      whole = λ answered. refl;
    };
    memory = λ none is. cc;
    same = refl;
    keeps = refl;
    powered = λ is. absurd (cc);
    still_powered = λ is. absurd (cc);
    no_fault = λ answered pending. refl;
  };
}

calm_reported : (w : World) (first n : ℕ) → w ≡ calm w.truth → issue w (ReportFrom first n) ≡ record { reply = Ok tt; world = w }
unfolding done
calm_reported w first n is_calm =
    ap (λ v. issue v (ReportFrom first n)) is_calm ∙ calm_done w.truth (ReportFrom first n)
    ∙ sym (ap (λ (v : World). let o : Outcome = record { reply = Ok tt; world = v } in o) is_calm)

-- a report leaves a calm device as it was
pub report_harmed : (first n : ℕ) (result : Reply) (old new : DeviceState) → Commanded (ReportFrom first n) result old new → old.world ≡ calm old.world.truth → Harmed old.world.truth result old new
report_harmed first n result old new h is_calm =
    let same : _ = calm_reported old.world first n is_calm in
    record {
      done = λ answered. h.obeys.reply answered ∙ ap (λ (o : Outcome). o.reply) same;
      world = λ answered. h.obeys.world answered ∙ ap (λ (o : Outcome). o.world) same;
      geometry = h.obeys.geometry;
      caused = h.caused;
    }

-- ---- one harm after another

-- causes one after another, where the first is a success that leaves the power and what waits
pub then_caused : (result : Reply) (old middle new : DeviceState) → Caused (Ok tt) old middle → Caused result middle new → middle.world.powered ≡ old.world.powered → middle.world.pending ≡ old.world.pending → Caused result old new
then_caused result old middle new first second powered pending = record {
  spoilt = second.spoilt;
  cause = record {
    later = omega (arith, first.cause.later, second.cause.later);
    fault = λ is. subst (λ n. Rose n new.faults) (first.cause.kept refl) (second.cause.fault is);
    kept = λ ok. second.cause.kept ok ∙ first.cause.kept refl;
    no_fewer = omega (arith, first.cause.no_fewer, second.cause.no_fewer);
    broken = λ is. subst (λ n. Rose n new.breaks) (first.cause.whole refl) (second.cause.broken is);
    whole = λ answered. second.cause.whole answered ∙ first.cause.whole refl;
  };
  memory = λ none. second.memory (first.same ∙ none);
  same = second.same ∙ first.same;
  keeps = second.keeps ∙ first.keeps;
  powered = λ is. sym powered ∙ second.powered is;
  still_powered = second.still_powered;
  no_fault = λ answered same. second.no_fault answered (same ∙ sym pending) ∙ first.cause.kept refl;
}

-- a device that was harmed, and then again
pub then_harmed : (before truth : Truth) (result : Reply) (old middle new : DeviceState) → Harmed before (Ok tt) old middle → Harmed truth result middle new → Harmed truth result old new
then_harmed before truth result old middle new first second =
    let world : middle.world ≡ record old.world { truth = before } = first.world refl in
    record {
      done = second.done;
      world = λ answered. second.world answered ∙ ap (λ (w : World). let v : World = record w { truth = truth } in v) world;
      geometry = second.geometry ∙ first.geometry;
      caused = then_caused result old middle new first.caused second.caused (ap (λ (w : World). w.powered) world) (ap (λ (w : World). w.pending) world);
    }

-- what the device held in between
pub truth_between : {before : Truth} {old middle : DeviceState} → Harmed before (Ok tt) old middle → middle.world.truth ≡ before
truth_between first = ap (λ (w : World). w.truth) (first.world refl)

-- a device that was asked twice
pub asked_again : (result : Reply) (old middle new : DeviceState) → Harmed old.world.truth (Ok tt) old middle → Harmed middle.world.truth result middle new → Harmed old.world.truth result old new
asked_again result old middle new first second =
    then_harmed old.world.truth old.world.truth result old middle new first (subst (λ (t : Truth). Harmed t result middle new) (truth_between first) second)

-- ---- a zone that a flush settles

-- past the last zone there is none
past_zones : (t : Truth) (z : ℕ) → nat_lt z (length t.zones) ≡ false → zone_at t z ≡ no_zone
past_zones t z past = get_or_past t.zones z no_zone (grind (arith, nat_tests))

pub unsettled_past : (t : Truth) (z keep : ℕ) → nat_lt z (length t.zones) ≡ false → settled_by_flush t z keep ≡ t
unsettled_past t z keep past = not_settled t z keep (ap (λ (zone : Zone). is_sequential zone.kind && is_good zone.cond) (past_zones t z past))

-- a zone that isn't there
pub past_unharmed : (s : DeviceState) (z keep : ℕ) → nat_lt z (length s.world.truth.zones) ≡ false → s.spoilt ≡ false → Harmed (settled_by_flush s.world.truth z keep) (Ok tt) s s
past_unharmed s z keep past unspoilt =
    subst (λ (t : Truth). Harmed t (Ok tt) s s) (sym (unsettled_past s.world.truth z keep past)) (unharmed s unspoilt)

and_false : (b : Bool) → (b && false) ≡ false
and_false true = refl
and_false false = refl

-- a zone that isn't sequential
pub conventional_unharmed : (s : DeviceState) (z keep : ℕ) → kind_at (geometry_of s.world) z ≡ Conventional → s.spoilt ≡ false → Harmed (settled_by_flush s.world.truth z keep) (Ok tt) s s
conventional_unharmed s z keep conventional unspoilt =
    let kind : (zone_at s.world.truth z).kind ≡ Conventional = sym (kind_is s.world z) ∙ conventional in
    subst (λ (t : Truth). Harmed t (Ok tt) s s)
    (sym (not_settled s.world.truth z keep (ap (λ (k : Kind). is_sequential k && is_good (zone_at s.world.truth z).cond) kind)))
    (unharmed s unspoilt)

-- a zone that isn't good
pub bad_unharmed : (old new : DeviceState) (z keep : ℕ) → is_good (zone_at old.world.truth z).cond ≡ false → Harmed old.world.truth (Ok tt) old new → Harmed (settled_by_flush old.world.truth z keep) (Ok tt) old new
bad_unharmed old new z keep bad h =
    subst (λ (t : Truth). Harmed t (Ok tt) old new)
    (sym (not_settled old.world.truth z keep (ap (λ b. is_sequential (zone_at old.world.truth z).kind && b) bad ∙ and_false (is_sequential (zone_at old.world.truth z).kind)))) h

-- a zone that is sequential and good
pub settle_harmed : (old middle new : DeviceState) (z keep len : ℕ) (result : Reply) → kind_at (geometry_of old.world) z ≡ Sequential → is_good (zone_at old.world.truth z).cond ≡ true
    → len ≡ clamped (zone_at middle.world.truth z) keep → Harmed old.world.truth (Ok tt) old middle
    → Harmed (with_zone middle.world.truth z (settled (zone_at middle.world.truth z) len len None)) result middle new
    → Harmed (settled_by_flush old.world.truth z keep) result old new
settle_harmed old middle new z keep len result sequential good is_len asked h =
    let both : (is_sequential (zone_at old.world.truth z).kind && is_good (zone_at old.world.truth z).cond) ≡ true =
    ap (λ (k : Kind). is_sequential k && is_good (zone_at old.world.truth z).cond) (sym (kind_is old.world z) ∙ sequential) ∙ good in
    let truth : middle.world.truth ≡ old.world.truth = ap (λ (w : World). w.truth) (asked.world refl) in
    let same : with_zone middle.world.truth z (settled (zone_at middle.world.truth z) len len None) ≡ settled_by_flush old.world.truth z keep =
    ap (λ n. with_zone middle.world.truth z (settled (zone_at middle.world.truth z) n n None)) is_len
    ∙ ap (λ (t : Truth). with_zone t z (settled (zone_at t z) (clamped (zone_at t z) keep) (clamped (zone_at t z) keep) None)) truth
    ∙ sym (is_settled old.world.truth z keep both) in
    then_harmed old.world.truth (settled_by_flush old.world.truth z keep) result old middle new asked (subst (λ (t : Truth). Harmed t result middle new) same h)
