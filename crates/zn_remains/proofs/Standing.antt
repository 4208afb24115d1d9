-- Events that fit a device leave it sound, and of its geometry.
use Rattle.std.proofs.Common.{◌≡◌, ℕ, List, [], ◌∷◌, ◌++◌, refl, sym, ap, ◌∙◌, subst, arith}
use Rattle.std.specs.List.{All}
use Rattle.std.proofs.lemmas.List.Elements.{All-head, All-tail}
use Rattle.zn_truth.specs.declared.FaultSpec.{FaultSpec}
use Rattle.zn_truth.specs.Truth.{Geometry, geometry, IsSound}
use Rattle.zn_truth.specs.World.{World, geometry_of}
use Rattle.zn_truth.specs.Inject.{inject}
use Rattle.zn_truth.proofs.Issuing.{same_kind, same_count}
use Rattle.zn_truth.proofs.SoundIssue.{issue_sound, issue-geometry}
use Rattle.zn_truth.proofs.SoundInject.{turn_sound, turn-geometry, lose_power_sound, lose_power-geometry, arm_loss_leaves}
use Rattle.zn_remains.specs.Events.{Event, Ordered, FaultAsked, Turned, PowerLost, LossArmed, PowerBack, after_event, after_events, FitsIn}
use Rattle.zn_remains.specs.Remaining.{IsSequentialZone}
use Rattle.zn_remains.proofs.Powers.{asked_leaves, back_truth}

-- a sound device of this geometry
pub record Stands (g : Geometry) (w : World) : Type 0 where
  pub sound : IsSound w.truth
  pub geometry : geometry_of w ≡ g

-- ---- one event

same_sound : (w v : World) → v.truth ≡ w.truth → IsSound w.truth → IsSound v.truth
same_sound w v same sound = subst IsSound (sym same) sound

truth-geometry : (w v : World) → v.truth ≡ w.truth → geometry_of v ≡ geometry_of w
unfolding geometry_of
truth-geometry w v same = ap geometry same

asked_truth : (w : World) (fault : FaultSpec) → (inject w fault).world.truth ≡ w.truth
asked_truth w fault = asked_leaves w fault (λ v. v.truth ≡ w.truth) refl (λ pending. refl)

event_sound : (w : World) (event : Event) → IsSound w.truth → FitsIn (geometry_of w) event → IsSound (after_event w event).truth
event_sound w (Ordered order) sound fits = issue_sound w order sound fits
event_sound w (FaultAsked fault) sound fits = same_sound w (after_event w (FaultAsked fault)) (asked_truth w fault) sound
event_sound w (Turned z to) sound fits = turn_sound w z to sound
event_sound w (PowerLost loss) sound fits = lose_power_sound w loss sound
event_sound w (LossArmed armed) sound fits = same_sound w (after_event w (LossArmed armed)) (arm_loss_leaves w armed).truth sound
event_sound w PowerBack sound fits = same_sound w (after_event w PowerBack) (back_truth w) sound

event-geometry : (w : World) (event : Event) → geometry_of (after_event w event) ≡ geometry_of w
event-geometry w (Ordered order) = issue-geometry w order
event-geometry w (FaultAsked fault) = truth-geometry w (after_event w (FaultAsked fault)) (asked_truth w fault)
event-geometry w (Turned z to) = turn-geometry w z to
event-geometry w (PowerLost loss) = lose_power-geometry w loss
event-geometry w (LossArmed armed) = truth-geometry w (after_event w (LossArmed armed)) (arm_loss_leaves w armed).truth
event-geometry w PowerBack = truth-geometry w (after_event w PowerBack) (back_truth w)

pub stands_event : (g : Geometry) (w : World) (event : Event) → Stands g w → FitsIn g event → Stands g (after_event w event)
stands_event g w event stands fits = record {
  sound = event_sound w event stands.sound (subst (λ (h : Geometry). FitsIn h event) (sym stands.geometry) fits);
  geometry = event-geometry w event ∙ stands.geometry;
}

-- ---- events one after another

pub stands_events : (g : Geometry) (w : World) (events : List Event) → Stands g w → All (FitsIn g) events → Stands g (after_events w events)
stands_events g w [] stands fit = stands
stands_events g w (event ∷ events) stands fit =
    stands_events g (after_event w event) events (stands_event g w event stands (All-head (FitsIn g) event events fit)) (All-tail (FitsIn g) event events fit)

pub after-append : (w : World) (first second : List Event) → after_events w (first ++ second) ≡ after_events (after_events w first) second
after-append w [] second = refl
after-append w (event ∷ first) second = after-append (after_event w event) first second

-- a sequential zone is one whatever comes
pub sequential_later : (g : Geometry) (w v : World) (z : ℕ) → Stands g w → Stands g v → IsSequentialZone w.truth z → IsSequentialZone v.truth z
unfolding geometry_of
sequential_later g w v z first second is =
    let same : geometry v.truth ≡ geometry w.truth = second.geometry ∙ sym first.geometry in
    record { below = omega (arith, is.below, same_count w.truth v.truth same); kind = same_kind w.truth v.truth z same ∙ is.kind }
