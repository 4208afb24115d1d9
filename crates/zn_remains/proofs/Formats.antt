-- A format reaches its device by its orders.
use Rattle.std.proofs.Common.{◌≡◌, ℕ, ◌/◌, ◌<◌, ◌≤◌, Bool, true, false, List, [], ◌∷◌, ◌++◌, length, Ok, Err, refl, sym, ap, subst, All, arith}
use Rattle.std.specs.Prelude.{if◌then◌else◌, not, ◌&&◌, nat_lt, is_ok}
use Rattle.std.proofs.lemmas.Bool.{and_parts}
use Rattle.std.proofs.lemmas.List.Elements.{All-nil, All-cons, All-append}
use Rattle.zn_truth.specs.declared.Command.{Command}
use Rattle.zn_truth.specs.declared.Command.TheVariants.{Read, Write, Reset, Finish, Flush, Report}
use Rattle.zn_truth.specs.declared.Cond.{Cond}
use Rattle.zn_truth.specs.declared.Cond.TheVariants.{Good, ReadOnly, Offline}
use Rattle.zn_truth.specs.declared.ZoneOp.TheVariants.{Reset as do_reset, Finish as do_finish}
use Rattle.zn_truth.specs.Limits.{IsWithinLimits}
use Rattle.zn_truth.specs.Truth.{Geometry, zone_at, is_sequential, is_good}
use Rattle.zn_truth.specs.Orders.{Order, ReadAt, WriteAt, Manage, FlushAll, Reply}
use Rattle.zn_truth.specs.OrderLists.{issue_all}
use Rattle.zn_truth.specs.World.{World, Outcome, issue}
use Rattle.zn_truth.specs.Obeying.{IsWhole, Fits}
use Rattle.zn_model.specs.declared.answers.FormatError.TheVariants.{AlreadyFormatted}
use Rattle.zn_model.specs.Formatting.{FormatAnswer, zero_block, empties, resets, copies, format_orders, format_refused, format_ends, format_writes, may_hold_copies, format_read, format_good, format_by, format_reported, format_call}
use Rattle.zn_model.specs.Given.{copies_in}
use Rattle.zn_model.specs.Looks.{report_all}
use Rattle.zn_model.specs.Mounting.{super_block_of}
use Rattle.zn_model.specs.SuperBlock.{SuperBlock, encoded}
use Rattle.zn_remains.specs.Events.{Ordered}
use Rattle.zn_remains.specs.LineEvents.{IsOrderOf}
use Rattle.zn_remains.proofs.Blocks.{HasSizes, length-encoded, length-zero_block}
use Rattle.zn_remains.proofs.CallOrders.{OrdersOf}
use Rattle.zn_remains.proofs.Mounts.{any_zone, copies_fit, read_copies_is, report_all_is, manage_is, chosen_zones, zones_in}
use Rattle.zn_remains.proofs.Reached.{Reached, reached_none, reached_one, reached_both, reached_all}
use Rattle.zn_remains.proofs.Standing.{Stands}

abbrev pub format_commands : List Command
format_commands = Report ∷ Read ∷ Write ∷ Flush ∷ Reset ∷ Finish ∷ []

module _ (g : Geometry) (limits : IsWithinLimits g) (before : World) (stands : Stands g before) (s : SuperBlock) (sizes : HasSizes s) where
  abbrev Is : Order → Type 0
  Is order = IsOrderOf g format_commands any_zone order

  abbrev ByFormat : World → World → Type 0
  ByFormat w v = Reached (OrdersOf g format_commands any_zone) w v

  -- ---- the orders

  -- a block is written to block 0 or block 1 of zone 0
  write_is : (at : ℕ) (block : List ℕ) → at ≤ 1 → length block ≡ 4096 → Is (WriteAt 0 at block)
  write_is at block low size =
      let one : length block / 4096 ≡ 1 = ap (λ (n : ℕ). n / 4096) size in
      let whole : IsWhole block = record { whole = omega (arith, size); some = omega (arith, size) } in
      record { fits = (whole, subst (λ (n : ℕ). Fits g 0 at n) (sym one) (copies_fit g at 1 limits (omega (arith, low)))); command = refl; zone = refl }

  flush_is : Is FlushAll
  flush_is = record { fits = tt; command = refl; zone = tt }

  first_zone : 0 < length before.truth.zones
  first_zone = omega (arith, limits.some, zones_in g before stands)

  empties_are : (seq : Bool) → is_sequential (zone_at before.truth 0).kind ≡ seq → All Is (empties seq)
  empties_are true is = All-cons Is (Manage 0 do_reset) [] (manage_is g before format_commands 0 do_reset stands first_zone is refl) (All-nil Is)
  empties_are false is = All-cons Is (WriteAt 0 0 zero_block) (FlushAll ∷ []) (write_is 0 zero_block (omega arith) length-zero_block) (All-cons Is FlushAll [] flush_is (All-nil Is))

  resets_are : All Is (resets before.truth)
  resets_are = chosen_zones Is (λ z. Manage z do_reset) (λ z. nat_lt 0 z && is_sequential (zone_at before.truth z).kind && is_good (zone_at before.truth z).cond) (length before.truth.zones) (λ z passes below.
      let seq = (and_parts (nat_lt 0 z) (is_sequential (zone_at before.truth z).kind) (and_parts (nat_lt 0 z && is_sequential (zone_at before.truth z).kind) (is_good (zone_at before.truth z).cond) passes).0).1 in
      manage_is g before format_commands z do_reset stands below seq refl)

  copies_are : (seq : Bool) → is_sequential (zone_at before.truth 0).kind ≡ seq → All Is (copies seq (encoded s))
  copies_are true is =
      let block = encoded s in
      let size = length-encoded s sizes in
      All-cons Is (WriteAt 0 0 block) (FlushAll ∷ WriteAt 0 1 block ∷ FlushAll ∷ Manage 0 do_finish ∷ []) (write_is 0 block (omega arith) size)
      (All-cons Is FlushAll (WriteAt 0 1 block ∷ FlushAll ∷ Manage 0 do_finish ∷ []) flush_is
      (All-cons Is (WriteAt 0 1 block) (FlushAll ∷ Manage 0 do_finish ∷ []) (write_is 1 block (omega arith) size)
      (All-cons Is FlushAll (Manage 0 do_finish ∷ []) flush_is
      (All-cons Is (Manage 0 do_finish) [] (manage_is g before format_commands 0 do_finish stands first_zone is refl) (All-nil Is)))))
  copies_are false is =
      let block = encoded s in
      let size = length-encoded s sizes in
      All-cons Is (WriteAt 0 1 block) (FlushAll ∷ WriteAt 0 0 block ∷ FlushAll ∷ []) (write_is 1 block (omega arith) size)
      (All-cons Is FlushAll (WriteAt 0 0 block ∷ FlushAll ∷ []) flush_is
      (All-cons Is (WriteAt 0 0 block) (FlushAll ∷ []) (write_is 0 block (omega arith) size)
      (All-cons Is FlushAll [] flush_is (All-nil Is))))

  orders_are : All Is (format_orders before.truth s)
  orders_are =
      let seq = is_sequential (zone_at before.truth 0).kind in
      All-append Is (empties seq ++ resets before.truth) (copies seq (encoded s)) (All-append Is (empties seq) (resets before.truth) (empties_are seq refl) resets_are) (copies_are seq refl)

  -- ---- the call

  format_later : (w v : World) (answer : FormatAnswer) → ByFormat w v → ByFormat v answer.world → ByFormat w answer.world
  format_later w v answer first rest = reached_both (OrdersOf g format_commands any_zone) w v answer.world first rest

  nothing_more : (w : World) → ByFormat w w
  nothing_more w = reached_none (OrdersOf g format_commands any_zone) w

  ends_went : (outcome : Outcome) (reply : Reply) → ByFormat outcome.world (format_ends outcome reply).world
  ends_went outcome (Ok unit) = nothing_more outcome.world
  ends_went outcome (Err error) = nothing_more outcome.world

  writes_went : (w : World) → ByFormat w (format_writes w before.truth s).world
  writes_went w =
      let outcome = issue_all w (format_orders before.truth s) in
      format_later w outcome.world (format_writes w before.truth s) (reached_all (OrdersOf g format_commands any_zone) w (format_orders before.truth s) orders_are) (ends_went outcome outcome.reply)

  chosen_format : (w : World) (b : Bool) (one other : FormatAnswer) → ByFormat w one.world → ByFormat w other.world → ByFormat w (if b then one else other).world
  chosen_format w true one other here there = here
  chosen_format w false one other here there = there

  read_went : (given : List ℕ) (found : Outcome) (reply : Reply) (force : Bool) → ByFormat found.world (format_read given found reply before.truth s force).world
  read_went given found (Err error) force = nothing_more found.world
  read_went given found (Ok unit) force =
      chosen_format found.world (is_ok (super_block_of (copies_in before.truth given)) && not force) (format_refused AlreadyFormatted found.world) (format_writes found.world before.truth s) (nothing_more found.world) (writes_went found.world)

  good_went : (given : List ℕ) (w : World) (force : Bool) → ByFormat w (format_good given w before.truth s force).world
  good_went given w force =
      let found = issue w (ReadAt 0 0 2) in
      chosen_format w (may_hold_copies before.truth) (format_read given found found.reply before.truth s force) (format_writes w before.truth s)
      (format_later w found.world (format_read given found found.reply before.truth s force) (reached_one (OrdersOf g format_commands any_zone) w (Ordered (ReadAt 0 0 2)) (read_copies_is g format_commands limits refl)) (read_went given found found.reply force))
      (writes_went w)

  by_went : (given : List ℕ) (cond : Cond) (w : World) (force : Bool) → ByFormat w (format_by given cond w before.truth s force).world
  by_went given Good w force = good_went given w force
  by_went given ReadOnly w force = nothing_more w
  by_went given Offline w force = nothing_more w

  reported_went : (given : List ℕ) (reported : Outcome) (reply : Reply) (force : Bool) → ByFormat reported.world (format_reported given reported reply before.truth s force).world
  reported_went given reported (Err error) force = nothing_more reported.world
  reported_went given reported (Ok unit) force = by_went given (zone_at before.truth 0).cond reported.world force

  pub format_went : (given : List ℕ) (force : Bool) → ByFormat before (format_call given before s force).world
  unfolding format_call
  format_went given force =
      let reported = issue before (report_all before.truth) in
      format_later before reported.world (format_reported given reported reported.reply before.truth s force)
      (reached_one (OrdersOf g format_commands any_zone) before (Ordered (report_all before.truth)) (report_all_is g before format_commands any_zone stands refl)) (reported_went given reported reported.reply force)
