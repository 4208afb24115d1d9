-- Which orders a device takes, and what a function that gives a device orders owes. (own)
use Rattle.std.specs.Prelude.{◌≡◌, ℕ, ◌+◌, ◌*◌, ◌/◌, ◌<◌, ◌≤◌, Bool, true, false, List, length, Ok, Err, IsTrue}
use Rattle.zn_truth.specs.declared.limits.TheConstants.{BLOCK_SIZE}
use Rattle.zn_truth.specs.declared.DevError.TheVariants.{Broken, Memory}
use Rattle.zn_truth.specs.declared.Kind.TheVariants.{Sequential}
use Rattle.zn_truth.specs.Truth.{Geometry, room, kind_at}
use Rattle.zn_truth.specs.Orders.{Order, ReadAt, WriteAt, Manage, FlushAll, ReportFrom, Reply}
use Rattle.zn_truth.specs.World.{World, issue, geometry_of}
use Rattle.zn_truth.specs.OrderLists.{issue_all}

-- ---- which orders a device takes

-- bytes in whole blocks, and not none
pub record IsWhole (bytes : List ℕ) : Type 0 where
  pub whole : BLOCK_SIZE * (length bytes / BLOCK_SIZE) ≡ length bytes
  pub some : 0 < length bytes

-- blocks of a zone
pub record Fits (g : Geometry) (z at blocks : ℕ) : Type 0 where
  pub zone : z < length g.kinds
  pub room : at + blocks ≤ room g.shape (kind_at g z)

-- a sequential zone
pub record IsZoneToManage (g : Geometry) (z : ℕ) : Type 0 where
  pub zone : z < length g.kinds
  pub kind : kind_at g z ≡ Sequential

-- ---- what a device answers

-- neither broken nor out of memory
abbrev pub is_answered : Reply → Bool
is_answered (Ok unit) = true
is_answered (Err Broken) = false
is_answered (Err Memory) = false
is_answered (Err error) = true

-- the reply tells neither a break nor want of memory
abbrev pub IsAnswered : Reply → Type 0
IsAnswered reply = IsTrue (is_answered reply)

-- A device that answers an order answers as `issue` says, and is then what `issue` makes of it.
pub record Obeys (order : Order) (result : Reply) (old new : World) : Type 0 where
  pub reply : IsAnswered result → result ≡ (issue old order).reply
  pub world : IsAnswered result → new ≡ (issue old order).world
  pub geometry : geometry_of new ≡ geometry_of old

-- the same of orders one after another
pub record ObeysAll (orders : List Order) (result : Reply) (old new : World) : Type 0 where
  pub reply : IsAnswered result → result ≡ (issue_all old orders).reply
  pub world : IsAnswered result → new ≡ (issue_all old orders).world
  pub geometry : geometry_of new ≡ geometry_of old

-- an order that a device of this geometry takes: its zones are there, its blocks have room, and only a
-- sequential zone is managed
abbrev pub IsOrderFor : Geometry → Order → Type 0
IsOrderFor g (ReadAt z at n) = Fits g z at n
IsOrderFor g (WriteAt z at bytes) = IsWhole bytes × Fits g z at (length bytes / BLOCK_SIZE)
IsOrderFor g (Manage z op) = IsZoneToManage g z
IsOrderFor g FlushAll = Unit {0}
IsOrderFor g (ReportFrom first n) = first + n ≤ length g.kinds
