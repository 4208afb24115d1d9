-- Devices that events lead to, one after another.
use Rattle.std.proofs.Common.{◌≡◌, List, [], ◌∷◌, ◌++◌, Ok, Err, refl, sym, ap, ◌∙◌, subst}
use Rattle.std.specs.List.{All}
use Rattle.std.proofs.lemmas.List.Elements.{All-nil, All-cons, All-head, All-tail, All-append, All-weaker}
use Rattle.zn_truth.specs.Truth.{Geometry}
use Rattle.zn_truth.specs.Orders.{Order, Reply}
use Rattle.zn_truth.specs.OrderLists.{first_failure, issue_all}
use Rattle.zn_truth.specs.World.{World, Outcome, issue}
use Rattle.zn_remains.specs.Events.{Event, Ordered, after_event, after_events, FitsIn}
use Rattle.zn_remains.proofs.Standing.{Stands, stands_events, after-append}

-- one device is what such events make of another
pub record Reached (P : Event → Type 0) (w v : World) : Type 0 where
  pub events : List Event
  pub each : All P events
  pub world : v ≡ after_events w events

module _ (P : Event → Type 0) where
  pub reached_none : (w : World) → Reached P w w
  reached_none w = record { events = []; each = All-nil P; world = refl }

  pub reached_one : (w : World) (event : Event) → P event → Reached P w (after_event w event)
  reached_one w event is = record { events = event ∷ []; each = All-cons P event [] is (All-nil P); world = refl }

  pub reached_both : (w u v : World) → Reached P w u → Reached P u v → Reached P w v
  reached_both w u v first second = record {
    events = first.events ++ second.events;
    each = All-append P first.events second.events first.each second.each;
    world = second.world ∙ ap (λ (x : World). after_events x second.events) first.world ∙ sym (after-append w first.events second.events);
  }

  first_reached : (w : World) (order : Order) (reply : Reply) (rest : Outcome) → P (Ordered order) → Reached P (issue w order).world rest.world → Reached P w (first_failure reply (issue w order) rest).world
  first_reached w order (Ok unit) rest is more = reached_both w (issue w order).world rest.world (reached_one w (Ordered order) is) more
  first_reached w order (Err error) rest is more = reached_one w (Ordered order) is

  -- orders one after another, up to the first that fails
  pub reached_all : (w : World) (orders : List Order) → All (λ order. P (Ordered order)) orders → Reached P w (issue_all w orders).world
  reached_all w [] each = reached_none w
  reached_all w (order ∷ orders) each =
      let Q : Order → Type 0 = λ (o : Order). P (Ordered o) in
      first_reached w order (issue w order).reply (issue_all (issue w order).world orders) (All-head Q order orders each) (reached_all (issue w order).world orders (All-tail Q order orders each))

  -- the device that is reached is sound
  pub reached_stands : (g : Geometry) (w v : World) → ((event : Event) → P event → FitsIn g event) → Stands g w → Reached P w v → Stands g v
  reached_stands g w v fits stands reached = subst (Stands g) (sym reached.world) (stands_events g w reached.events stands (All-weaker P (FitsIn g) fits reached.events reached.each))

  -- by events of another kind too
  pub reached_by : (Q : Event → Type 0) (w v : World) → ((event : Event) → P event → Q event) → Reached P w v → Reached Q w v
  reached_by Q w v gives reached = record { events = reached.events; each = All-weaker P Q gives reached.events reached.each; world = reached.world }
