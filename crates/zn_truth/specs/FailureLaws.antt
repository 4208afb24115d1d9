-- Laws of what a refused order tells of the zone that it names, and of what no order changes of a zone.
use Rattle.std.specs.Prelude.{◌≡◌, ◌≢◌, ℕ, ◌+◌, ◌<◌, ◌≤◌, List, ◌∷◌, ◌++◌, Ok, Err}
use Rattle.zn_truth.specs.declared.Kind.TheVariants.{Sequential}
use Rattle.zn_truth.specs.declared.Cond.{Cond}
use Rattle.zn_truth.specs.declared.Cond.TheVariants.{ReadOnly as read_only_zone, Offline as offline_zone}
use Rattle.zn_truth.specs.declared.DevError.{DevError}
use Rattle.zn_truth.specs.declared.DevError.TheVariants.{ReadOnly, Offline, Unaligned, BeyondWp}
use Rattle.zn_truth.specs.Truth.{Truth, zone_at}
use Rattle.zn_truth.specs.Orders.{Order, ReadAt, WriteAt, Manage, FlushAll, ReportFrom}
use Rattle.zn_truth.specs.World.{World, issue}
use Rattle.zn_truth.specs.OrderLists.{issue_all, each_zone}

-- ---- what no order changes of a zone

-- each zone has the condition and the kind that it had
pub record KeepsZones (old new : World) : Type 0 where
  pub conditions : (z : ℕ) → (zone_at new.truth z).cond ≡ (zone_at old.truth z).cond
  pub kinds : (z : ℕ) → (zone_at new.truth z).kind ≡ (zone_at old.truth z).kind

-- no order changes a zone's condition or kind, whether it is done, refused, met by a fault, or struck by the armed loss
abbrev pub IssueKeepsZones : Type 0
IssueKeepsZones = (w : World) (order : Order) → KeepsZones w (issue w order).world

-- the same of orders one after another
abbrev pub IssueAllKeepsZones : Type 0
IssueAllKeepsZones = (w : World) (orders : List Order) → KeepsZones w (issue_all w orders).world

-- ---- what a refusal tells

-- the zone that the order reads, writes or manages has this condition
abbrev pub HasCondition : Cond → Order → Truth → Type 0
HasCondition cond (ReadAt z at n) t = (zone_at t z).cond ≡ cond
HasCondition cond (WriteAt z at bytes) t = (zone_at t z).cond ≡ cond
HasCondition cond (Manage z op) t = (zone_at t z).cond ≡ cond
HasCondition cond FlushAll t = ⊥
HasCondition cond (ReportFrom first n) t = ⊥

-- What an unaligned write tells: the zone is sequential, and holds another number of blocks than lie before the write.
pub record HoldsAnother (t : Truth) (z at : ℕ) : Type 0 where
  pub kind : (zone_at t z).kind ≡ Sequential
  pub held : (zone_at t z).held ≢ at

-- the order is a write that doesn't begin where what its sequential zone holds ends
abbrev pub IsUnaligned : Order → Truth → Type 0
IsUnaligned (ReadAt z at n) t = ⊥
IsUnaligned (WriteAt z at bytes) t = HoldsAnother t z at
IsUnaligned (Manage z op) t = ⊥
IsUnaligned FlushAll t = ⊥
IsUnaligned (ReportFrom first n) t = ⊥

-- the order is a read that ends past the blocks held
abbrev pub IsBeyond : Order → Truth → Type 0
IsBeyond (ReadAt z at n) t = (zone_at t z).held < at + n
IsBeyond (WriteAt z at bytes) t = ⊥
IsBeyond (Manage z op) t = ⊥
IsBeyond FlushAll t = ⊥
IsBeyond (ReportFrom first n) t = ⊥

-- a refusal by condition says that the order's zone has that condition; no other error says so
abbrev pub HasNamedCondition : DevError → Order → Truth → Type 0
HasNamedCondition ReadOnly order t = HasCondition read_only_zone order t
HasNamedCondition Offline order t = HasCondition offline_zone order t
HasNamedCondition error order t = Unit {0}

-- what the error says of the order's zone: its condition, or where it ends; errors that name neither say nothing
abbrev pub IsNamedBy : DevError → Order → Truth → Type 0
IsNamedBy ReadOnly order t = HasCondition read_only_zone order t
IsNamedBy Offline order t = HasCondition offline_zone order t
IsNamedBy Unaligned order t = IsUnaligned order t
IsNamedBy BeyondWp order t = IsBeyond order t
IsNamedBy error order t = Unit {0}

-- the same as a fact of its own
pub record IsNamed (error : DevError) (order : Order) (t : Truth) : Type 0 where
  pub means : IsNamedBy error order t

-- what an order is refused for holds of its zone
abbrev pub FailureIsNamed : Type 0
FailureIsNamed = (w : World) (order : Order) (error : DevError) → (issue w order).reply ≡ Err error → IsNamed error order w.truth

-- Where orders one after another failed: all before is done, the failed order's error holds of its zone as those left
-- it, and a condition that the error names was there from the start.
pub record FailsAt (w : World) (orders : List Order) (error : DevError) : Type 0 where
  pub before : List Order
  pub order : Order
  pub after : List Order
  pub parts : orders ≡ before ++ order ∷ after
  pub done : (issue_all w before).reply ≡ Ok tt
  pub failed : (issue (issue_all w before).world order).reply ≡ Err error
  pub named : IsNamed error order (issue_all w before).world.truth
  pub condition : HasNamedCondition error order w.truth

-- orders one after another that fail do so at one of them
abbrev pub FailureHasOrder : Type 0
FailureHasOrder = (w : World) (orders : List Order) (error : DevError) → (issue_all w orders).reply ≡ Err error → FailsAt w orders error

-- ---- which order of a range it is

-- the order is the one of an index of the range
pub record IsInRange (order : ℕ → Order) (from to : ℕ) (given : Order) : Type 0 where
  pub index : ℕ
  pub least : from ≤ index
  pub below : index < to
  pub is : given ≡ order index

-- an order among those of a range is that of one of its indices
abbrev pub EachIsInRange : Type 0
EachIsInRange = (order : ℕ → Order) (from to : ℕ) (before : List Order) (given : Order) (after : List Order)
    → each_zone order from to ≡ before ++ given ∷ after → IsInRange order from to given
