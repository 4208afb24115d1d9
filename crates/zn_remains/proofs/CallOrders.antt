-- Calls that reach a device by orders of their own alone.
use Rattle.std.proofs.Common.{ℕ, Bool, List}
use Rattle.std.specs.Prelude.{IsTrue, ◌==◌}
use Rattle.std.specs.List.{All, list_any}
use Rattle.zn_truth.specs.declared.Command.{Command}
use Rattle.zn_truth.specs.declared.Command.TheVariants.{Report}
use Rattle.zn_truth.specs.declared.DevError.{DevError}
use Rattle.zn_truth.specs.Truth.{Geometry}
use Rattle.zn_truth.specs.Orders.{Order}
use Rattle.zn_truth.specs.OrderLists.{issue_all}
use Rattle.zn_truth.specs.World.{World, issue, code_of}
use Rattle.zn_model.specs.declared.files.FileZones.{FileZones}
use Rattle.zn_model.specs.Recovery.{report_of, after_failure, recovered}
use Rattle.zn_model.specs.Volume.{Mounted}
use Rattle.zn_remains.specs.Events.{Event, Ordered, FaultAsked, Turned, PowerLost, LossArmed, PowerBack, FitsIn}
use Rattle.zn_remains.specs.LineEvents.{IsOrderOf}
use Rattle.zn_remains.proofs.Areas.{IsFileIn}
use Rattle.zn_remains.proofs.Reached.{reached_one, reached_all, reached_stands}
use Rattle.zn_remains.proofs.Recovering.{Went, VolumeAgrees, went_further, failure_went, recovered_went}
use Rattle.zn_remains.proofs.Standing.{Stands, stands_event}

-- the event is an order of these commands on these zones
abbrev pub OrdersOf : Geometry → List Command → (ℕ → Bool) → Event → Type 0
OrdersOf g commands zones (Ordered order) = IsOrderOf g commands zones order
OrdersOf g commands zones event = ⊥

-- the command is one of these
abbrev pub Has : List Command → Command → Type 0
Has commands command = IsTrue (list_any (λ (c : Command). code_of c == code_of command) commands)

module _ (g : Geometry) (commands : List Command) (zones : ℕ → Bool) where
  pub orders_fit : (event : Event) → OrdersOf g commands zones event → FitsIn g event
  orders_fit (Ordered order) is = is.fits
  orders_fit (FaultAsked fault) is = absurd is
  orders_fit (Turned z to) is = absurd is
  orders_fit (PowerLost loss) is = absurd is
  orders_fit (LossArmed armed) is = absurd is
  orders_fit PowerBack is = absurd is

  pub report_is : (file : FileZones) → Has commands Report → IsFileIn g file → IsOrderOf g commands zones (report_of file)
  report_is file has is = record { fits = is.inside; command = has; zone = tt }

  -- an order, and what follows it
  pub one_went : (w : World) (order : Order) (after : Mounted) → Stands g w → IsOrderOf g commands zones order
      → (Stands g (issue w order).world → Went g (OrdersOf g commands zones) (issue w order).world after) → Went g (OrdersOf g commands zones) w after
  one_went w order after stands is follows = went_further g (OrdersOf g commands zones) w (issue w order).world after (reached_one (OrdersOf g commands zones) w (Ordered order) is)
      (follows (stands_event g w (Ordered order) stands is.fits))

  -- orders one after another, and what follows them
  pub all_went : (w : World) (orders : List Order) (after : Mounted) → Stands g w → All (IsOrderOf g commands zones) orders
      → (Stands g (issue_all w orders).world → Went g (OrdersOf g commands zones) (issue_all w orders).world after) → Went g (OrdersOf g commands zones) w after
  all_went w orders after stands each follows =
      let reached = reached_all (OrdersOf g commands zones) w orders each in
      went_further g (OrdersOf g commands zones) w (issue_all w orders).world after reached (follows (reached_stands (OrdersOf g commands zones) g w (issue_all w orders).world orders_fit stands reached))

  -- what follows a failed command
  pub failed_went : (after_read : Bool) (error : DevError) (m : Mounted) (f : ℕ) → Has commands Report → Stands g m.world → VolumeAgrees g m.volume → Went g (OrdersOf g commands zones) m.world (after_failure after_read error m f).mounted
  failed_went after_read error m f has stands agrees = failure_went g (OrdersOf g commands zones) (λ file is. report_is file has is) after_read error m f stands agrees

  pub ended_went : (after_read : Bool) (m : Mounted) (f : ℕ) → Has commands Report → Stands g m.world → VolumeAgrees g m.volume → Went g (OrdersOf g commands zones) m.world (recovered after_read m f)
  ended_went after_read m f has stands agrees = recovered_went g (OrdersOf g commands zones) (λ file is. report_is file has is) after_read m f stands agrees
