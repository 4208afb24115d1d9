-- Orders one after another. (own)
use Rattle.std.specs.Prelude.{ℕ, ◌-◌, List, [], ◌∷◌, map, Ok, Err}
use Rattle.std.specs.List.{range_with_len}
use Rattle.zn_truth.specs.Orders.{Order, Reply}
use Rattle.zn_truth.specs.World.{World, Outcome, issue}

-- the first outcome if it failed, or else the second
abbrev pub first_failure : Reply → Outcome → Outcome → Outcome
first_failure (Ok unit) first second = second
first_failure (Err error) first second = first

-- orders one after another, up to the first that fails
abbrev pub issue_all : World → List Order → Outcome
issue_all w [] = record { reply = Ok tt; world = w }
issue_all w (order ∷ orders) = first_failure (issue w order).reply (issue w order) (issue_all (issue w order).world orders)

-- the orders for the zones of a range of indices, from one to before another
unfoldable pub each_zone : (ℕ → Order) → ℕ → ℕ → List Order
each_zone order from to = map order (range_with_len from (to - from))
