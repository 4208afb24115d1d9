-- Laws of orders one after another.
use Rattle.std.specs.Prelude.{◌≡◌, ℕ, ◌+◌, ◌<◌, ◌≤◌, Bool, true, false, List, [], ◌∷◌, ◌++◌, Ok, Err, IsTrue}
use Rattle.std.specs.List.{list_all}
use Rattle.zn_truth.specs.declared.DevError.{DevError}
use Rattle.zn_truth.specs.declared.DevError.TheVariants.{PowerLost}
use Rattle.zn_truth.specs.Orders.{Order, ReadAt, WriteAt, Manage, FlushAll, ReportFrom, Reply}
use Rattle.zn_truth.specs.World.{World, issue}
use Rattle.zn_truth.specs.OrderLists.{first_failure, issue_all, each_zone}
use Rattle.zn_truth.specs.Obeying.{Obeys, ObeysAll}

-- ---- lists

-- the first order that fails is the last
abbrev pub FailureEnds : Type 0
FailureEnds = (w : World) (order : Order) (orders : List Order) (error : DevError) → (issue w order).reply ≡ Err error → issue_all w (order ∷ orders) ≡ issue w order

-- after an order that is done come the others
abbrev pub DoneGoesOn : Type 0
DoneGoesOn = (w : World) (order : Order) (orders : List Order) → (issue w order).reply ≡ Ok tt → issue_all w (order ∷ orders) ≡ issue_all (issue w order).world orders

-- two lists one after the other are their orders one after another
abbrev pub ListsAppend : Type 0
ListsAppend = (w : World) (first second : List Order) → issue_all w (first ++ second) ≡ first_failure (issue_all w first).reply (issue_all w first) (issue_all (issue_all w first).world second)

-- ---- orders that only look

-- a read or a report
abbrev pub is_look : Order → Bool
is_look (ReadAt z at n) = true
is_look (WriteAt z at bytes) = false
is_look (Manage z op) = false
is_look FlushAll = false
is_look (ReportFrom first n) = true

-- a read that is done leaves the truth
abbrev pub ReadLeavesTruth : Type 0
ReadLeavesTruth = (w : World) (z at n : ℕ) → (issue w (ReadAt z at n)).reply ≡ Ok tt → (issue w (ReadAt z at n)).world.truth ≡ w.truth

-- and so does a report
abbrev pub ReportLeavesTruth : Type 0
ReportLeavesTruth = (w : World) (first n : ℕ) → (issue w (ReportFrom first n)).reply ≡ Ok tt → (issue w (ReportFrom first n)).world.truth ≡ w.truth

-- and so do reads and reports one after another
abbrev pub LooksLeaveTruth : Type 0
LooksLeaveTruth = (w : World) (orders : List Order) → IsTrue (list_all is_look orders) → (issue_all w orders).reply ≡ Ok tt → (issue_all w orders).world.truth ≡ w.truth

-- ---- one order for each zone of a range

-- an empty range has none
abbrev pub EachOfNone : Type 0
EachOfNone = (order : ℕ → Order) (from to : ℕ) → to ≤ from → each_zone order from to ≡ []

-- the order of one index more comes last
abbrev pub EachOneMore : Type 0
EachOneMore = (order : ℕ → Order) (from to : ℕ) → from ≤ to → each_zone order from (to + 1) ≡ each_zone order from to ++ order to ∷ []

-- the order of the first index comes first
abbrev pub EachFirst : Type 0
EachFirst = (order : ℕ → Order) (from to : ℕ) → from < to → each_zone order from to ≡ order from ∷ each_zone order (from + 1) to

-- a range that is cut in two
abbrev pub EachInTwo : Type 0
EachInTwo = (order : ℕ → Order) (from middle to : ℕ) → from ≤ middle → middle ≤ to → each_zone order from to ≡ each_zone order from middle ++ each_zone order middle to

-- ---- obeying one order after another

-- no order is obeyed by doing nothing
abbrev pub ObeysNone : Type 0
ObeysNone = (w : World) → ObeysAll [] (Ok tt) w w

-- one order more
abbrev pub ObeysOneMore : Type 0
ObeysOneMore = (order : ℕ → Order) (from i : ℕ) (reply : Reply) (old middle new : World) → from ≤ i → ObeysAll (each_zone order from i) (Ok tt) old middle → Obeys (order i) reply middle new
    → ObeysAll (each_zone order from (i + 1)) reply old new

-- an order that fails ends them all
abbrev pub ObeysFailure : Type 0
ObeysFailure = (order : ℕ → Order) (from i to : ℕ) (error : DevError) (old middle new : World) → from ≤ i → i < to → ObeysAll (each_zone order from i) (Ok tt) old middle → Obeys (order i) (Err error) middle new
    → ObeysAll (each_zone order from to) (Err error) old new

-- ---- without power

-- every order is told that the power is gone, and nothing changes
abbrev pub NoPower : Type 0
NoPower = (w : World) (order : Order) → w.powered ≡ false → issue w order ≡ record { reply = Err PowerLost; world = w }

-- and so are orders one after another, if there are any
abbrev pub NoPowerInAll : Type 0
NoPowerInAll = (w : World) (order : Order) (orders : List Order) → w.powered ≡ false → issue_all w (order ∷ orders) ≡ record { reply = Err PowerLost; world = w }
