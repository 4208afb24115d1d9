-- Small devices, worked through.
use Rattle.std.specs.Prelude.{◌≡◌, ℕ, ◌*◌, Bool, true, false, List, [], ◌∷◌, ◌++◌, map, replicate, Option, Some, None, Ok, Err}
use Rattle.zn_truth.specs.declared.Kind.TheVariants.{Sequential}
use Rattle.zn_truth.specs.declared.Cond.{Cond}
use Rattle.zn_truth.specs.declared.Cond.TheVariants.{Good, ReadOnly, Offline}
use Rattle.zn_truth.specs.declared.ZoneOp.TheVariants.{Open, Close, Reset, Finish}
use Rattle.zn_truth.specs.declared.Command.TheVariants.{Write, Flush}
use Rattle.zn_truth.specs.declared.DevError.TheVariants.{ReadOnly as read_only, Offline as offline, Unaligned, TooManyActive, TooManyOpen, Fault, PowerLost}
use Rattle.zn_truth.specs.declared.FaultSpec.{FaultSpec}
use Rattle.zn_truth.specs.declared.Armed.{Armed}
use Rattle.zn_truth.specs.Truth.{Zone, Truth, zone_at}
use Rattle.zn_truth.specs.Orders.{Order, WriteAt, Manage, FlushAll, Reply, Done, done}
use Rattle.zn_truth.specs.World.{World, issue, calm}

-- ---- devices

-- a sequential zone of such a condition: the blocks that it holds, the durable ones, and whether it is
-- explicitly open; its bytes are not told
abbrev pub sequential : Cond → ℕ → ℕ → Bool → Zone
sequential cond held durable explicit = record { kind = Sequential; cond = cond; held = held; bytes = []; durable = durable; unflushed = []; explicit = explicit }

-- a good one that is not explicitly open
abbrev pub good : ℕ → ℕ → Zone
good held durable = sequential Good held durable false

-- zones of four blocks, with no limits, and bytes that are not told
abbrev pub device : List Zone → Truth
device zones = record { told = false; shape = record { zone_blocks = 4; zone_capacity = 4; max_open = 0; max_active = 0 }; zones = zones }

-- zeros, in so many blocks
abbrev pub zeros : ℕ → List ℕ
zeros blocks = replicate (4096 * blocks) 0

-- a device that holds this, with a fault that waits
abbrev pub with_fault : Truth → FaultSpec → World
with_fault t fault = record (calm t) { pending = fault ∷ [] }

-- a device that holds this, with a loss that waits
abbrev pub with_loss : Truth → Armed → World
with_loss t armed = record (calm t) { armed = Some armed }

-- a device without power
abbrev pub dark : Truth → World
dark t = record (calm t) { powered = false }

-- ---- faults

-- A fault keeps one of a write's two blocks, and is used up.
abbrev pub PartialWrite : Type 0
PartialWrite =
    issue (with_fault (device (good 1 0 ∷ [])) (record { zone = record { 0 = 0 }; command = Write; keep = Some 1 })) (WriteAt 0 1 (zeros 2))
    ≡ record { reply = Err Fault; world = calm (device (good 2 0 ∷ [])) }

-- A fault in a flush cuts zone 2 to its durable blocks, and no other zone becomes durable.
abbrev pub PartialFlush : Type 0
PartialFlush =
    issue (with_fault (device (good 1 0 ∷ good 3 1 ∷ good 2 1 ∷ [])) (record { zone = record { 0 = 2 }; command = Flush; keep = Some 0 })) FlushAll
    ≡ record { reply = Err Fault; world = calm (device (good 1 0 ∷ good 3 1 ∷ good 1 1 ∷ [])) }

-- ---- losses

-- a loss in a write to zone 0 that cuts it to two blocks, and gives bytes that were not durable this value
abbrev pub cut_to_two : Option ℕ → Armed
cut_to_two fill = record { zone = record { 0 = 0 }; command = Write; carried_out = false; loss = record { cuts = (record { 0 = 0 }, 2) ∷ []; fill = fill } }

-- Zone 0 holds one block, and two are written: the first of them stays. Zone 1 loses what isn't durable.
abbrev pub LossInWrite : Type 0
LossInWrite =
    issue (with_loss (device (good 1 0 ∷ sequential Good 3 1 true ∷ [])) (cut_to_two None)) (WriteAt 0 1 (zeros 2))
    ≡ record { reply = Err PowerLost; world = dark (device (good 2 2 ∷ good 1 1 ∷ [])) }

-- A write that the device would refuse leaves nothing of it, and the block that was held stays.
abbrev pub LossInRefusal : Type 0
LossInRefusal =
    issue (with_loss (device (good 1 0 ∷ [])) (cut_to_two None)) (WriteAt 0 3 (zeros 1))
    ≡ record { reply = Err PowerLost; world = dark (device (good 1 1 ∷ [])) }

-- one zone, whose bytes are told
abbrev pub told_device : ℕ → ℕ → List ℕ → Truth
told_device held durable bytes = record {
  told = true;
  shape = record { zone_blocks = 4; zone_capacity = 4; max_open = 0; max_active = 0 };
  zones = record (good held durable) { bytes = bytes } ∷ [];
}

-- Of the bytes the first block is as it was, and the second as it was written.
abbrev pub BytesAfterLoss : Type 0
BytesAfterLoss =
    issue (with_loss (told_device 1 0 (replicate 4096 97)) (cut_to_two None)) (WriteAt 0 1 (replicate 8192 98))
    ≡ record { reply = Err PowerLost; world = dark (told_device 2 2 (replicate 4096 97 ++ replicate 4096 98)) }

-- No byte of either was durable, so each may be another.
abbrev pub FillAfterLoss : Type 0
FillAfterLoss =
    issue (with_loss (told_device 1 0 (replicate 4096 97)) (cut_to_two (Some 255))) (WriteAt 0 1 (replicate 8192 98))
    ≡ record { reply = Err PowerLost; world = dark (told_device 2 2 (replicate 8192 255)) }

-- A durable block is never another.
abbrev pub DurableAfterLoss : Type 0
DurableAfterLoss =
    issue (with_loss (told_device 1 1 (replicate 4096 97)) (cut_to_two (Some 255))) (WriteAt 0 1 (replicate 8192 98))
    ≡ record { reply = Err PowerLost; world = dark (told_device 2 2 (replicate 4096 97 ++ replicate 4096 255)) }

-- ---- limits

-- the reply to each of the orders, whatever was answered before
abbrev pub replies : World → List Order → List Reply
replies w [] = []
replies w (order ∷ orders) = (issue w order).reply ∷ replies (issue w order).world orders

-- four empty zones of two blocks, of which one may be open and two active
abbrev pub limited : Truth
limited = record { told = false; shape = record { zone_blocks = 2; zone_capacity = 2; max_open = 1; max_active = 2 }; zones = replicate 4 (good 0 0) }

-- A third zone is one active zone too many. With zone 1 explicitly open, a write to zone 0 is one open zone
-- too many. Once zone 0 is full, a third zone may be written.
abbrev pub Limits : Type 0
Limits =
    replies (calm limited) (WriteAt 0 0 (zeros 1)
    ∷ WriteAt 1 0 (zeros 1)
    ∷ WriteAt 2 0 (zeros 1)
    ∷ Manage 1 Open
    ∷ WriteAt 0 1 (zeros 1)
    ∷ Manage 1 Close
    ∷ WriteAt 0 1 (zeros 1)
    ∷ WriteAt 2 0 (zeros 1)
    ∷ [])
    ≡ Ok tt
    ∷ Ok tt
    ∷ Err TooManyActive
    ∷ Ok tt
    ∷ Err TooManyOpen
    ∷ Ok tt
    ∷ Ok tt
    ∷ Ok tt
    ∷ []

-- ---- the states of a zone

-- a zone that is empty, one partly written, one explicitly open, one full, one read-only, and one offline
abbrev pub states : List Zone
states = good 0 0 ∷ good 2 1 ∷ sequential Good 2 1 true ∷ good 4 4 ∷ sequential ReadOnly 2 2 false ∷ sequential Offline 0 0 false ∷ []

-- the reply, and what the zone then holds, what of it is durable, and whether it is explicitly open
abbrev pub row : Done → Reply × ℕ × ℕ × Bool
row d = (d.reply, (zone_at d.truth 0).held, (zone_at d.truth 0).durable, (zone_at d.truth 0).explicit)

-- a row for each state
abbrev pub rows : Order → List (Reply × ℕ × ℕ × Bool)
rows order = map (λ z. row (done (device (z ∷ [])) order)) states

-- a block written at block 2
abbrev pub Written : Type 0
Written = rows (WriteAt 0 2 (zeros 1)) ≡ (Err Unaligned, 0, 0, false)
    ∷ (Ok tt, 3, 1, false)
    ∷ (Ok tt, 3, 1, true)
    ∷ (Err Unaligned, 4, 4, false)
    ∷ (Err read_only, 2, 2, false)
    ∷ (Err offline, 0, 0, false)
    ∷ []

-- two blocks written at block 2, which fill the zone
abbrev pub WrittenFull : Type 0
WrittenFull = rows (WriteAt 0 2 (zeros 2)) ≡ (Err Unaligned, 0, 0, false)
    ∷ (Ok tt, 4, 4, false)
    ∷ (Ok tt, 4, 4, false)
    ∷ (Err Unaligned, 4, 4, false)
    ∷ (Err read_only, 2, 2, false)
    ∷ (Err offline, 0, 0, false)
    ∷ []

-- a block written at block 0
abbrev pub WrittenFirst : Type 0
WrittenFirst = rows (WriteAt 0 0 (zeros 1)) ≡ (Ok tt, 1, 0, false)
    ∷ (Err Unaligned, 2, 1, false)
    ∷ (Err Unaligned, 2, 1, true)
    ∷ (Err Unaligned, 4, 4, false)
    ∷ (Err read_only, 2, 2, false)
    ∷ (Err offline, 0, 0, false)
    ∷ []

-- an open: what is held stays, and a full zone does not become explicitly open
abbrev pub Opened : Type 0
Opened = rows (Manage 0 Open) ≡ (Ok tt, 0, 0, true)
    ∷ (Ok tt, 2, 1, true)
    ∷ (Ok tt, 2, 1, true)
    ∷ (Ok tt, 4, 4, false)
    ∷ (Err read_only, 2, 2, false)
    ∷ (Err offline, 0, 0, false)
    ∷ []

-- a close: what is held stays, and no zone is explicitly open
abbrev pub Closed : Type 0
Closed = rows (Manage 0 Close) ≡ (Ok tt, 0, 0, false)
    ∷ (Ok tt, 2, 1, false)
    ∷ (Ok tt, 2, 1, false)
    ∷ (Ok tt, 4, 4, false)
    ∷ (Err read_only, 2, 2, false)
    ∷ (Err offline, 0, 0, false)
    ∷ []

-- a reset: each good zone then holds nothing, and is not explicitly open
abbrev pub Emptied : Type 0
Emptied = rows (Manage 0 Reset) ≡ (Ok tt, 0, 0, false)
    ∷ (Ok tt, 0, 0, false)
    ∷ (Ok tt, 0, 0, false)
    ∷ (Ok tt, 0, 0, false)
    ∷ (Err read_only, 2, 2, false)
    ∷ (Err offline, 0, 0, false)
    ∷ []

-- a finish: each good zone is then full, and durable as a whole
abbrev pub Finished : Type 0
Finished = rows (Manage 0 Finish) ≡ (Ok tt, 4, 4, false)
    ∷ (Ok tt, 4, 4, false)
    ∷ (Ok tt, 4, 4, false)
    ∷ (Ok tt, 4, 4, false)
    ∷ (Err read_only, 2, 2, false)
    ∷ (Err offline, 0, 0, false)
    ∷ []
