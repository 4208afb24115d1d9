-- What a formatted device is, and the call that formats one. (own; "mkzonefs" has the super block first on
-- the device, and finishes its zone where that is sequential)
use Rattle.std.specs.Prelude.{◌≡◌, ℕ, Bool, true, false, ◌&&◌, ◌||◌, not, ◌==◌, nat_lt, List, [], ◌∷◌, ◌++◌, length, map, filter, replicate, if◌then◌else◌, is_ok, Result, Ok, Err, IsTrue, ◌<◌}
use Rattle.std.specs.List.{range_with_len}
use Rattle.zn_truth.specs.declared.limits.TheConstants.{BLOCK_SIZE}
use Rattle.zn_truth.specs.declared.Cond.{Cond}
use Rattle.zn_truth.specs.declared.Cond.TheVariants.{Good}
use Rattle.zn_truth.specs.declared.DevError.{DevError}
use Rattle.zn_truth.specs.declared.DevError.TheVariants.{PowerLost, Broken, Memory}
use Rattle.zn_truth.specs.declared.ZoneOp.TheVariants.{Reset, Finish}
use Rattle.zn_truth.specs.Truth.{Truth, zone_at, bytes_at, is_sequential, is_good}
use Rattle.zn_truth.specs.Orders.{Order, ReadAt, WriteAt, Manage, FlushAll, Reply}
use Rattle.zn_truth.specs.OrderLists.{issue_all}
use Rattle.zn_truth.specs.World.{World, Outcome, issue}
use Rattle.zn_model.specs.declared.answers.FormatError.{FormatError}
use Rattle.zn_model.specs.declared.answers.FormatError.TheVariants.{AlreadyFormatted, BadZone0, IoError, PowerLost as no_power, Broken as is_broken, Memory as no_memory}
use Rattle.zn_model.specs.declared.files.FormatOpts.{FormatOpts}
use Rattle.zn_model.specs.SuperBlock.{SuperBlock, encoded}
use Rattle.zn_model.specs.Given.{copies_in}
use Rattle.zn_model.specs.Looks.{report_all}
use Rattle.zn_model.specs.Mounting.{super_block_of}

-- A formatted device: zone 0 is good and begins with two copies of the super block, where it tells its bytes; it is
-- full where it is sequential; each other good sequential zone is empty.
pub record IsFormatted (t : Truth) (s : SuperBlock) : Type 0 where
  pub good : IsTrue (is_good (zone_at t 0).cond)
  pub copies : t.told ≡ true → bytes_at t 0 0 2 ≡ encoded s ++ encoded s
  pub full : IsTrue (is_sequential (zone_at t 0).kind) → (zone_at t 0).held ≡ t.shape.zone_capacity
  pub empty : (z : ℕ) → 0 < z → z < length t.zones → IsTrue (is_sequential (zone_at t z).kind && is_good (zone_at t z).cond) → (zone_at t z).held ≡ 0

-- the super block of a label and an identifier, with aggregation, owner and permissions as a format is asked for
abbrev pub super_block_by : List ℕ → List ℕ → FormatOpts → SuperBlock
super_block_by label uuid opts =
    record { label = label; uuid = uuid; aggr_cnv = opts.aggr_cnv; uid = opts.uid; gid = opts.gid; perm = opts.perm }

-- ---- the orders

-- the bytes of a block, all 0
abbrev pub zero_block : List ℕ
zero_block = replicate BLOCK_SIZE 0

-- block 0 is emptied, or the zone is
abbrev pub empties : Bool → List Order
empties true = Manage 0 Reset ∷ []
empties false = WriteAt 0 0 zero_block ∷ FlushAll ∷ []

-- each other sequential zone that is good is reset, in rising order
abbrev pub resets : Truth → List Order
resets t =
    map (λ z. Manage z Reset) (filter (λ z. nat_lt 0 z && is_sequential (zone_at t z).kind && is_good (zone_at t z).cond) (range_with_len 0 (length t.zones)))

-- the copies are written: of a conventional zone block 1 first, so that block 0 is the gate; a sequential
-- zone is finished, so that its being full is the gate
abbrev pub copies : Bool → List ℕ → List Order
copies true block = WriteAt 0 0 block ∷ FlushAll ∷ WriteAt 0 1 block ∷ FlushAll ∷ Manage 0 Finish ∷ []
copies false block = WriteAt 0 1 block ∷ FlushAll ∷ WriteAt 0 0 block ∷ FlushAll ∷ []

-- what a format writes, once it has looked
abbrev pub format_orders : Truth → SuperBlock → List Order
format_orders t s = empties (is_sequential (zone_at t 0).kind) ++ resets t ++ copies (is_sequential (zone_at t 0).kind) (encoded s)

-- ---- the call

-- what a format answers, and the device that it leaves
pub record FormatAnswer : Type 0 where
  pub reply : Result (Unit {0}) FormatError
  pub world : World

-- a failure of the device, as a format tells it
abbrev pub format_error_of : DevError → FormatError
format_error_of PowerLost = no_power
format_error_of Broken = is_broken
format_error_of Memory = no_memory
format_error_of error = IoError

-- an error, and the device that is left
abbrev pub format_refused : FormatError → World → FormatAnswer
format_refused error w = record { reply = Err error; world = w }

-- after the orders: done, or the failure of the one that failed
abbrev pub format_ends : Outcome → Reply → FormatAnswer
format_ends outcome (Ok unit) = record { reply = Ok tt; world = outcome.world }
format_ends outcome (Err error) = format_refused (format_error_of error) outcome.world

-- the orders, one after another, up to the first that fails
abbrev pub format_writes : World → Truth → SuperBlock → FormatAnswer
format_writes w t s = format_ends (issue_all w (format_orders t s)) (issue_all w (format_orders t s)).reply

-- blocks 0 and 1 may hold a super block: the zone is conventional, or sequential and full
abbrev pub may_hold_copies : Truth → Bool
may_hold_copies t = not (is_sequential (zone_at t 0).kind) || ((zone_at t 0).held == t.shape.zone_capacity)

-- after the read of the copies
abbrev pub format_read : List ℕ → Outcome → Reply → Truth → SuperBlock → Bool → FormatAnswer
format_read given found (Err error) t s force = format_refused (format_error_of error) found.world
format_read given found (Ok unit) t s force =
    if is_ok (super_block_of (copies_in t given)) && not force then format_refused AlreadyFormatted found.world
    else format_writes found.world t s

-- zone 0 is good: where blocks 0 and 1 may hold a super block they are read before anything is written
abbrev pub format_good : List ℕ → World → Truth → SuperBlock → Bool → FormatAnswer
format_good given w t s force =
    if may_hold_copies t then format_read given (issue w (ReadAt 0 0 2)) (issue w (ReadAt 0 0 2)).reply t s force
    else format_writes w t s

-- a zone 0 that is read-only or offline is refused, with its condition
abbrev pub format_by : List ℕ → Cond → World → Truth → SuperBlock → Bool → FormatAnswer
format_by given Good w t s force = format_good given w t s force
format_by given cond w t s force = format_refused (BadZone0 cond) w

-- after the report
abbrev pub format_reported : List ℕ → Outcome → Reply → Truth → SuperBlock → Bool → FormatAnswer
format_reported given reported (Err error) t s force = format_refused (format_error_of error) reported.world
format_reported given reported (Ok unit) t s force = format_by given (zone_at t 0).cond reported.world t s force

-- Formats: a report of all zones; a read of blocks 0 and 1 of zone 0 where they may hold a super block, which
-- isn't overwritten unless forced; then the orders above. The first failure ends it. `given` is what the read gave,
-- and counts only where the device doesn't tell its bytes.
unfoldable pub format_call : List ℕ → World → SuperBlock → Bool → FormatAnswer
format_call given w s force = format_reported given (issue w (report_all w.truth)) (issue w (report_all w.truth)).reply w.truth s force
