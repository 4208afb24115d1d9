-- What the lines that harm the device do to a session.
use Rattle.std.proofs.Common.{◌≡◌, ◌≤◌, ◌<◌, ◌^◌, ℕ, Bool, true, false, List, [], ◌∷◌, ◌++◌, length, Option, Some, None, Ok, Err, refl, sym, ap, ◌∙◌, subst, inl, inr, arith}
use Rattle.std.specs.Prelude.{IsErrOf, ◌&&◌, ◌||◌, not, nat_le, is_some, option_map, if◌then◌else◌}
use Rattle.std.specs.List.{list_any}
use Rattle.std.proofs.lemmas.Bool.{false≢true, le-ltb, leb-true}
use Rattle.std.proofs.lemmas.List.{length-map}
use Rattle.zn_truth.specs.declared.limits.TheConstants.{MAX_FAULTS}
use Rattle.zn_truth.specs.declared.Command.{Command}
use Rattle.zn_truth.specs.declared.Cond.{Cond}
use Rattle.zn_truth.specs.declared.Armed.{Armed}
use Rattle.zn_truth.specs.declared.FaultSpec.{FaultSpec}
use Rattle.zn_truth.specs.declared.LossSpec.{LossSpec}
use Rattle.zn_truth.specs.declared.ZoneNo.{ZoneNo}
use Rattle.zn_truth.specs.declared.InjectError.TheVariants.{BadFault, TooManyFaults, PowerLost, Broken as inject_broken, Memory as inject_starved}
use Rattle.zn_truth.specs.Inject.{InjectReply, Injected, unless_bad, is_zone, is_misplaced, is_bad_cut, are_bad_cuts, is_done_or_not, is_bad_fault, inject, turn, lose_power, arm_loss, power_on}
use Rattle.zn_truth.specs.Limits.{IsWithinLimits}
use Rattle.zn_truth.specs.Truth.{Truth, Zone}
use Rattle.zn_truth.specs.World.{World, geometry_of}
use Rattle.zn_device.specs.Harms.{Injecting, is_told}
use Rattle.zn_device.specs.States.{DeviceState}
use Rattle.zn_model.specs.declared.answers.Refusal.TheVariants.{Broken as HasBroken, Memory as Starved}
use Rattle.zn_model.specs.declared.handles.Handle.{Handle}
use Rattle.zn_model.specs.Keys.{unkeyed_volume}
use Rattle.zn_model.specs.Volume.{Volume}
use Rattle.zn_lines.specs.Lines.{Line, FaultOn, TurnTo, PowerLoss, PowerLossIn, PowerOn}
use Rattle.zn_lines.specs.Memory.{takes_itself}
use Rattle.zn_lines.specs.ReplyTexts.{reply_text, plain, inject_error_name}
use Rattle.zn_lines.specs.Session.{line_now, says, injects}
use Rattle.zn_lines.specs.Table.{Table}
use Rattle.zn_script.specs.Cuts.{is_beyond}
use Rattle.zn_volume.specs.VolumeState.{VolumeState}
use Rattle.zn_volume.proofs.Keeping.{injected_geometry}
use Rattle.zn_volume.proofs.Powering.{armed_geometry, powered_geometry}
use Rattle.zn_session.specs.Replies.{Kept, text_of, inject_reply, IsWritable}
use Rattle.zn_session.specs.SessionState.{HeldState, bare_held, mounted_held, table_by, unkeyed_numbers, numbered_on, AreNumbered, used_on}
use Rattle.zn_session.specs.Steps.{told_by, ends, LineCause, Harms, Means}
use Rattle.zn_session.specs.declared.replies.Reply.TheVariants.{InjectRefused, Done}
use Rattle.zn_session.proofs.LineCauses.{flag_cases}
use Rattle.zn_session.proofs.Meanings.{leaves_all}

-- ---- zones

-- a number that is not below that of a device's zones names none
pub names_none : (w : World) (zones z : ℕ) → zones ≡ length (geometry_of w).kinds → zones ≤ z → is_zone w.truth z ≡ false
unfolding geometry_of
names_none w zones z counted beyond = le-ltb z (length w.truth.zones) (omega (arith, counted, beyond, length-map w.truth.zones (λ (zone : Zone). zone.kind)))

-- a device has as many zones as its geometry has kinds
pub as_many : (w : World) (zones : ℕ) → zones ≡ length (geometry_of w).kinds → zones < 2 ^ 32 → length w.truth.zones < 2 ^ 32
unfolding geometry_of
as_many w zones counted few = omega (arith, counted, few, length-map w.truth.zones (λ (zone : Zone). zone.kind))

-- a device within the limits has fewer zones than numbers of 32 bits
pub fewer_zones : (d e : DeviceState) → d ≡ e → IsWithinLimits (geometry_of d.world) → length e.world.truth.zones < 2 ^ 32
unfolding geometry_of
fewer_zones d e same within =
    let most = within.most in
    subst (λ (s : DeviceState). length s.world.truth.zones < 2 ^ 32) same (omega (arith, most, length-map d.world.truth.zones (λ (zone : Zone). zone.kind)))

-- ---- causes

broken_told : (result : InjectReply) → IsErrOf (told_by (inject_reply result)) HasBroken → IsErrOf result inject_broken
broken_told (Ok unit) told = absurd cc
broken_told (Err inject_broken) told = refl
broken_told (Err inject_starved) told = absurd cc
broken_told (Err _) told = absurd cc

starved_told : (result : InjectReply) → IsErrOf (told_by (inject_reply result)) Starved → IsErrOf result inject_starved
starved_told (Ok unit) told = absurd cc
starved_told (Err inject_broken) told = absurd cc
starved_told (Err inject_starved) told = refl
starved_told (Err _) told = absurd cc

-- an answer that goes on is told
goes_told : (result : InjectReply) → ends (inject_reply result) ≡ false → is_told result ≡ true
goes_told (Ok unit) goes = refl
goes_told (Err inject_broken) goes = absurd (false≢true (sym goes))
goes_told (Err inject_starved) goes = absurd (false≢true (sym goes))
goes_told (Err _) goes = refl

takes_some : {meant : Injected} {result : InjectReply} {old new : DeviceState} → Injecting meant result old new → IsErrOf (told_by (inject_reply result)) Starved → old.takes_memory ≡ true
takes_some {result = result} {old = old} harm told = flag_cases old.takes_memory (λ is. is) (λ none. absurd (harm.memory none (starved_told result told)))

harm_causes : (itself : Bool) {meant : Injected} {result : InjectReply} {old new : DeviceState} → Injecting meant result old new → LineCause itself (told_by (inject_reply result)) old new
harm_causes itself {result = result} harm = record {
  unspoilt = λ goes. harm.spoilt ∙ ap not (goes_told result goes);
  memory = harm.same;
  starved = λ told. inr (takes_some harm told);
  takes = λ told. inl (takes_some harm told);
  no_fewer = harm.no_fewer;
  broken = λ told. harm.broken (broken_told result told);
  whole = λ goes. harm.whole (goes_told result goes);
  powered = λ told. harm.powered (ap is_told (broken_told result told));
  still_powered = λ told. harm.still_powered (ap is_told (broken_told result told));
  geometry = harm.geometry;
}

-- ---- lines

reply_says : (result : InjectReply) (kept : Kept) → text_of (inject_reply result) kept ≡ reply_text plain inject_error_name result
reply_says (Ok unit) kept = refl
reply_says (Err error) kept = refl

reply_writable : (result : InjectReply) (kept : Kept) → IsWritable (inject_reply result) kept
reply_writable (Ok unit) kept = tt
reply_writable (Err error) kept = tt

-- the numbers are those of the volume's handles, whatever its device is
pub moved_numbers : (volume : Option Volume) (before after : DeviceState) (numbers : List (Option Handle)) → numbered_on volume before numbers → numbered_on volume after numbers
moved_numbers None before after numbers numbered = numbered
moved_numbers (Some volume) before after numbers numbered =
    record { count = numbered.count; once = numbered.once; live = numbered.live; apart = numbered.apart }

-- a line that harms the device
harmed : (line : Line) (meant : Injected) (result : InjectReply) (kept : Kept) (entropy : List ℕ) (old new : HeldState) (numbers : List (Option Handle))
    → line_now [] (table_by entropy old numbers) line ≡ injects (table_by entropy old numbers) meant → Harms meant result old new → AreNumbered old numbers
    → Means line_now line (inject_reply result) kept entropy old new numbers numbers
harmed line meant result kept entropy old new numbers does harms numbered = record {
  given = [];
  writable = reply_writable result kept;
  step = λ goes.
      let told = goes_told result goes in
      let table : World → Option Volume → Table = λ w v. record { world = w; volume = option_map unkeyed_volume v; numbers = unkeyed_numbers numbers; entropy = entropy } in
      does ∙ ap (λ (r : InjectReply). says (reply_text plain inject_error_name r) (table meant.world old.volume)) (sym (harms.device.reply told))
      ∙ ap (λ text. says text (table meant.world old.volume)) (sym (reply_says result kept))
      ∙ ap (λ (w : World). says (text_of (inject_reply result) kept) (table w old.volume)) (sym (harms.device.world told))
      ∙ ap (λ (v : Option Volume). says (text_of (inject_reply result) kept) (table new.device.world v)) (sym harms.volume);
  numbered = λ goes. subst (λ (v : Option Volume). numbered_on v new.device numbers) (sym harms.volume) (moved_numbers old.volume old.device new.device numbers numbered);
  used = λ goes. omega (arith, ap used_on harms.volume);
  cause = harm_causes (takes_itself line) harms.device;
}

-- ---- faults

fault_now : (table : Table) (z : ℕ) (command : Command) (keep : Option ℕ) → line_now [] table (FaultOn z command keep) ≡ injects table (inject table.world (record { zone = record { 0 = z }; command = command; keep = keep }))
unfolding line_now
fault_now table z command keep = refl

-- no fault is answered by a break, or by want of memory
fault_told : (w : World) (fault : FaultSpec) → is_told (inject w fault).reply ≡ true
unfolding inject
fault_told w fault = by_tests (is_bad_fault w.truth fault) (nat_le MAX_FAULTS (length w.pending))
  where
    by_tests : (bad full : Bool) → let injected : Injected = if bad then record { reply = Err BadFault; world = w }
        else if full then record { reply = Err TooManyFaults; world = w }
        else record { reply = Ok tt; world = record w { pending = w.pending ++ fault ∷ [] } } in
        is_told injected.reply ≡ true
    by_tests true full = refl
    by_tests false true = refl
    by_tests false false = refl

-- what is answered and done at once, without a command
at_once : (meant : Injected) (result : InjectReply) (old new : DeviceState) → is_told meant.reply ≡ true → geometry_of meant.world ≡ geometry_of old.world → old.spoilt ≡ false → result ≡ meant.reply → new ≡ record old { world = meant.world }
    → Injecting meant result old new
at_once meant result old new answers stays unspoilt reply waits =
    let told : is_told result ≡ true = ap is_told reply ∙ answers in
    record {
      reply = λ _. reply;
      world = λ _. ap (λ (d : DeviceState). d.world) waits;
      spoilt = ap (λ (d : DeviceState). d.spoilt) waits ∙ unspoilt ∙ ap not (sym told);
      faults = ap (λ (d : DeviceState). d.faults) waits;
      no_fewer = omega (arith, ap (λ (d : DeviceState). d.breaks) waits);
      broken = λ is. absurd (false≢true (sym (ap is_told is) ∙ told));
      whole = λ _. ap (λ (d : DeviceState). d.breaks) waits;
      powered = λ untold. absurd (false≢true (sym untold ∙ told));
      still_powered = λ untold. absurd (false≢true (sym untold ∙ told));
      memory = λ none is. absurd (false≢true (sym (ap is_told is) ∙ told));
      same = ap (λ (d : DeviceState). d.takes_memory) waits;
      keeps = ap (λ (d : DeviceState). d.keeps_conditions) waits;
      geometry = ap (λ (d : DeviceState). geometry_of d.world) waits ∙ stays;
    }

module _ (meant : Injected) (result : InjectReply) (answers : is_told meant.reply ≡ true) where
  -- on a device without a volume
  at_once_bare : (old new : DeviceState) → geometry_of meant.world ≡ geometry_of old.world → old.spoilt ≡ false → result ≡ meant.reply → new ≡ record old { world = meant.world } → Harms meant result (bare_held old) (bare_held new)
  at_once_bare old new stays unspoilt reply waits = record { device = at_once meant result old new answers stays unspoilt reply waits; volume = refl }

  -- on a device with one
  at_once_mounted : (old new : VolumeState) → geometry_of meant.world ≡ geometry_of old.device.world → old.device.spoilt ≡ false → result ≡ meant.reply → new ≡ record old { device = record old.device { world = meant.world } }
      → Harms meant result (mounted_held old) (mounted_held new)
  at_once_mounted old new stays unspoilt reply waits = record {
    device = at_once meant result old.device new.device answers stays unspoilt reply (ap (λ (v : VolumeState). v.device) waits);
    volume = ap (λ (v : VolumeState). Some v.volume) waits;
  }

-- a fault on a device without a volume
pub fault_bare : (fault : FaultSpec) (result : InjectReply) (old new : DeviceState) → old.spoilt ≡ false → result ≡ (inject old.world fault).reply → new ≡ record old { world = (inject old.world fault).world }
    → Harms (inject old.world fault) result (bare_held old) (bare_held new)
fault_bare fault result old new unspoilt reply waits = at_once_bare (inject old.world fault) result (fault_told old.world fault) old new (injected_geometry old.world fault) unspoilt reply waits

-- a fault on a device with one
pub fault_mounted : (fault : FaultSpec) (result : InjectReply) (old new : VolumeState) → old.device.spoilt ≡ false → result ≡ (inject old.device.world fault).reply
    → new ≡ record old { device = record old.device { world = (inject old.device.world fault).world } }
    → Harms (inject old.device.world fault) result (mounted_held old) (mounted_held new)
fault_mounted fault result old new unspoilt reply waits =
    at_once_mounted (inject old.device.world fault) result (fault_told old.device.world fault) old new (injected_geometry old.device.world fault) unspoilt reply waits

-- a fault on a zone of the device
pub fault_means : (zone : ℕ) (command : Command) (keep : Option ℕ) (result : InjectReply) (kept : Kept) (entropy : List ℕ) (old new : HeldState) (numbers : List (Option Handle))
    → Harms (inject old.device.world (record { zone = record { 0 = zone }; command = command; keep = keep })) result old new → AreNumbered old numbers
    → Means line_now (FaultOn zone command keep) (inject_reply result) kept entropy old new numbers numbers
fault_means zone command keep result kept entropy old new numbers harms numbered =
    harmed (FaultOn zone command keep) _ result kept entropy old new numbers (fault_now _ zone command keep) harms numbered

missing_fault : (w : World) (z : ℕ) (command : Command) (keep : Option ℕ) → is_zone w.truth z ≡ false → inject w (record { zone = record { 0 = z }; command = command; keep = keep }) ≡ record { reply = Err BadFault; world = w }
unfolding inject
missing_fault w z command keep missing = rw missing refl

-- a fault on a zone that isn't there
pub fault_missing : (zone : ℕ) (command : Command) (keep : Option ℕ) (kept : Kept) (entropy : List ℕ) (held : HeldState) (numbers : List (Option Handle)) → is_zone held.device.world.truth zone ≡ false → AreNumbered held numbers → held.device.spoilt ≡ false
    → Means line_now (FaultOn zone command keep) (InjectRefused BadFault) kept entropy held held numbers numbers
fault_missing zone command keep kept entropy held numbers missing numbered unspoilt =
    let table = table_by entropy held numbers in
    leaves_all (FaultOn zone command keep) (InjectRefused BadFault) kept entropy held numbers tt refl
    (fault_now table zone command keep ∙ ap (λ (i : Injected). injects table i) (missing_fault held.device.world zone command keep missing)) numbered unspoilt

-- ---- turns

turn_now : (table : Table) (z : ℕ) (to : Cond) → line_now [] table (TurnTo z to) ≡ injects table (turn table.world z to)
unfolding line_now
turn_now table z to = refl

-- a turn of a zone of the device
pub turn_means : (zone : ℕ) (to : Cond) (result : InjectReply) (kept : Kept) (entropy : List ℕ) (old new : HeldState) (numbers : List (Option Handle))
    → Harms (turn old.device.world zone to) result old new → AreNumbered old numbers
    → Means line_now (TurnTo zone to) (inject_reply result) kept entropy old new numbers numbers
turn_means zone to result kept entropy old new numbers harms numbered =
    harmed (TurnTo zone to) _ result kept entropy old new numbers (turn_now _ zone to) harms numbered

missing_turn : (w : World) (z : ℕ) (to : Cond) → is_zone w.truth z ≡ false → w.powered ≡ true → turn w z to ≡ record { reply = Err BadFault; world = w }
unfolding turn
missing_turn w z to missing powered = rw (powered, missing) refl

unpowered_turn : (w : World) (z : ℕ) (to : Cond) → w.powered ≡ false → turn w z to ≡ record { reply = Err PowerLost; world = w }
unfolding turn
unpowered_turn w z to lost = rw lost refl

module _ (zone : ℕ) (to : Cond) (kept : Kept) (entropy : List ℕ) (held : HeldState) (numbers : List (Option Handle)) (numbered : AreNumbered held numbers) (unspoilt : held.device.spoilt ≡ false) where
  -- a turn of a zone that isn't there
  pub turn_missing : is_zone held.device.world.truth zone ≡ false → held.device.world.powered ≡ true → Means line_now (TurnTo zone to) (InjectRefused BadFault) kept entropy held held numbers numbers
  turn_missing missing powered =
      let table = table_by entropy held numbers in
      leaves_all (TurnTo zone to) (InjectRefused BadFault) kept entropy held numbers tt refl
      (turn_now table zone to ∙ ap (λ (i : Injected). injects table i) (missing_turn held.device.world zone to missing powered)) numbered unspoilt

  -- a turn without power
  pub turn_unpowered : held.device.world.powered ≡ false → Means line_now (TurnTo zone to) (InjectRefused PowerLost) kept entropy held held numbers numbers
  turn_unpowered lost =
      let table = table_by entropy held numbers in
      leaves_all (TurnTo zone to) (InjectRefused PowerLost) kept entropy held numbers tt refl
      (turn_now table zone to ∙ ap (λ (i : Injected). injects table i) (unpowered_turn held.device.world zone to lost)) numbered unspoilt

-- ---- losses of power

loss_now : (table : Table) (fill : Option ℕ) (cuts : List (ZoneNo × ℕ)) → line_now [] table (PowerLoss fill cuts) ≡ injects table (lose_power table.world (record { cuts = cuts; fill = fill }))
unfolding line_now
loss_now table fill cuts = refl

-- a loss of power whose zones may be there
pub loss_means : (fill : Option ℕ) (cuts : List (ZoneNo × ℕ)) (result : InjectReply) (kept : Kept) (entropy : List ℕ) (old new : HeldState) (numbers : List (Option Handle))
    → Harms (lose_power old.device.world (record { cuts = cuts; fill = fill })) result old new → AreNumbered old numbers
    → Means line_now (PowerLoss fill cuts) (inject_reply result) kept entropy old new numbers numbers
loss_means fill cuts result kept entropy old new numbers harms numbered =
    harmed (PowerLoss fill cuts) _ result kept entropy old new numbers (loss_now _ fill cuts) harms numbered

-- a zone of more than 32 bits isn't there, where there are fewer
beyond_missing : (t : Truth) (cut : ZoneNo × ℕ) → length t.zones < 2 ^ 32 → is_beyond cut ≡ true → is_bad_cut t cut ≡ true
beyond_missing t cut few beyond =
    let missing : is_zone t cut.0.0 ≡ false = le-ltb cut.0.0 (length t.zones) (omega (arith, few, leb-true 4294967296 cut.0.0 beyond)) in
    rw missing refl

beyond_bad : (t : Truth) (cuts : List (ZoneNo × ℕ)) → length t.zones < 2 ^ 32 → list_any is_beyond cuts ≡ true → list_any (is_bad_cut t) cuts ≡ true
beyond_bad t [] few beyond = absurd (false≢true beyond)
beyond_bad t (cut ∷ cuts) few beyond = flag_cases (is_beyond cut)
    (λ first. rw (beyond_missing t cut few first) refl)
    (λ other. rw (beyond_bad t cuts few (rw other at beyond)) (or-true (is_bad_cut t cut)))
  where
    or-true : (b : Bool) → (b || true) ≡ true
    or-true true = refl
    or-true false = refl

bad_cuts : (t : Truth) (cuts : List (ZoneNo × ℕ)) → length t.zones < 2 ^ 32 → list_any is_beyond cuts ≡ true → are_bad_cuts t cuts ≡ true
bad_cuts t cuts few beyond = rw (beyond_bad t cuts few beyond) refl

missing_loss : (w : World) (loss : LossSpec) → are_bad_cuts w.truth loss.cuts ≡ true → w.powered ≡ true → lose_power w loss ≡ record { reply = Err BadFault; world = w }
unfolding lose_power
missing_loss w loss bad powered = rw (powered, bad) refl

unpowered_loss : (w : World) (loss : LossSpec) → w.powered ≡ false → lose_power w loss ≡ record { reply = Err PowerLost; world = w }
unfolding lose_power
unpowered_loss w loss lost = rw lost refl

module _ (fill : Option ℕ) (cuts : List (ZoneNo × ℕ)) (kept : Kept) (entropy : List ℕ) (held : HeldState) (numbers : List (Option Handle)) (numbered : AreNumbered held numbers) (unspoilt : held.device.spoilt ≡ false) where
  -- a loss of power without power
  pub loss_unpowered : held.device.world.powered ≡ false → Means line_now (PowerLoss fill cuts) (InjectRefused PowerLost) kept entropy held held numbers numbers
  loss_unpowered lost =
      let table = table_by entropy held numbers in
      leaves_all (PowerLoss fill cuts) (InjectRefused PowerLost) kept entropy held numbers tt refl
      (loss_now table fill cuts ∙ ap (λ (i : Injected). injects table i) (unpowered_loss held.device.world (record { cuts = cuts; fill = fill }) lost)) numbered unspoilt

  module _ (few : length held.device.world.truth.zones < 2 ^ 32) (beyond : list_any is_beyond cuts ≡ true) where
    -- a loss of power that cuts a zone of more than 32 bits
    pub loss_beyond : held.device.world.powered ≡ true → Means line_now (PowerLoss fill cuts) (InjectRefused BadFault) kept entropy held held numbers numbers
    loss_beyond powered =
        let table = table_by entropy held numbers in
        leaves_all (PowerLoss fill cuts) (InjectRefused BadFault) kept entropy held numbers tt refl
        (loss_now table fill cuts ∙ ap (λ (i : Injected). injects table i) (missing_loss held.device.world (record { cuts = cuts; fill = fill }) (bad_cuts held.device.world.truth cuts few beyond) powered)) numbered unspoilt

-- ---- losses that wait

armed_now : (table : Table) (z : ℕ) (command : Command) (carried_out : Bool) (fill : Option ℕ) (cuts : List (ZoneNo × ℕ))
    → line_now [] table (PowerLossIn z command carried_out fill cuts) ≡ injects table (arm_loss table.world (record { zone = record { 0 = z }; command = command; carried_out = carried_out; loss = record { cuts = cuts; fill = fill } }))
unfolding line_now
armed_now table z command carried_out fill cuts = refl

-- no loss that waits is answered by a break, or by want of memory
armed_told : (w : World) (armed : Armed) → is_told (arm_loss w armed).reply ≡ true
unfolding arm_loss
armed_told w armed =
    by_test (is_misplaced w.truth armed.zone.0 armed.command || are_bad_cuts w.truth armed.loss.cuts || (armed.carried_out && not (is_done_or_not armed.command)) || is_some w.armed)
  where
    by_test : (bad : Bool) → is_told (unless_bad bad w (record w { armed = Some armed })).reply ≡ true
    by_test true = refl
    by_test false = refl

-- a loss that waits on a device without a volume
pub armed_bare : (armed : Armed) (result : InjectReply) (old new : DeviceState) → old.spoilt ≡ false → result ≡ (arm_loss old.world armed).reply → new ≡ record old { world = (arm_loss old.world armed).world }
    → Harms (arm_loss old.world armed) result (bare_held old) (bare_held new)
armed_bare armed result old new unspoilt reply waits = at_once_bare (arm_loss old.world armed) result (armed_told old.world armed) old new (armed_geometry old.world armed) unspoilt reply waits

-- a loss that waits on a device with one
pub armed_mounted : (armed : Armed) (result : InjectReply) (old new : VolumeState) → old.device.spoilt ≡ false → result ≡ (arm_loss old.device.world armed).reply
    → new ≡ record old { device = record old.device { world = (arm_loss old.device.world armed).world } }
    → Harms (arm_loss old.device.world armed) result (mounted_held old) (mounted_held new)
armed_mounted armed result old new unspoilt reply waits =
    at_once_mounted (arm_loss old.device.world armed) result (armed_told old.device.world armed) old new (armed_geometry old.device.world armed) unspoilt reply waits

-- a loss that waits on a zone of the device, and whose zones may be there
pub armed_means : (zone : ℕ) (command : Command) (carried_out : Bool) (fill : Option ℕ) (cuts : List (ZoneNo × ℕ)) (result : InjectReply) (kept : Kept) (entropy : List ℕ) (old new : HeldState) (numbers : List (Option Handle))
    → Harms (arm_loss old.device.world (record { zone = record { 0 = zone }; command = command; carried_out = carried_out; loss = record { cuts = cuts; fill = fill } })) result old new → AreNumbered old numbers
    → Means line_now (PowerLossIn zone command carried_out fill cuts) (inject_reply result) kept entropy old new numbers numbers
armed_means zone command carried_out fill cuts result kept entropy old new numbers harms numbered =
    harmed (PowerLossIn zone command carried_out fill cuts) _ result kept entropy old new numbers (armed_now _ zone command carried_out fill cuts) harms numbered

bad_armed : (w : World) (armed : Armed) → (is_misplaced w.truth armed.zone.0 armed.command || are_bad_cuts w.truth armed.loss.cuts) ≡ true → arm_loss w armed ≡ record { reply = Err BadFault; world = w }
unfolding arm_loss
bad_armed w armed bad = rw bad refl

module _ (zone : ℕ) (command : Command) (carried_out : Bool) (fill : Option ℕ) (cuts : List (ZoneNo × ℕ)) (kept : Kept) (entropy : List ℕ) (held : HeldState) (numbers : List (Option Handle)) (numbered : AreNumbered held numbers) (unspoilt : held.device.spoilt ≡ false) where
  abbrev waiting : Armed
  waiting = record { zone = record { 0 = zone }; command = command; carried_out = carried_out; loss = record { cuts = cuts; fill = fill } }

  armed_refused : (is_misplaced held.device.world.truth zone command || are_bad_cuts held.device.world.truth cuts) ≡ true → Means line_now (PowerLossIn zone command carried_out fill cuts) (InjectRefused BadFault) kept entropy held held numbers numbers
  armed_refused bad =
      let table = table_by entropy held numbers in
      leaves_all (PowerLossIn zone command carried_out fill cuts) (InjectRefused BadFault) kept entropy held numbers tt refl
      (armed_now table zone command carried_out fill cuts ∙ ap (λ (i : Injected). injects table i) (bad_armed held.device.world waiting bad)) numbered unspoilt

  -- a loss that waits on a zone that isn't there
  pub armed_missing : is_zone held.device.world.truth zone ≡ false → Means line_now (PowerLossIn zone command carried_out fill cuts) (InjectRefused BadFault) kept entropy held held numbers numbers
  armed_missing missing = armed_refused (rw missing refl)

  -- one that cuts a zone of more than 32 bits
  pub armed_beyond : length held.device.world.truth.zones < 2 ^ 32 → list_any is_beyond cuts ≡ true → Means line_now (PowerLossIn zone command carried_out fill cuts) (InjectRefused BadFault) kept entropy held held numbers numbers
  armed_beyond few beyond = armed_refused (rw (bad_cuts held.device.world.truth cuts few beyond) (or-true (is_misplaced held.device.world.truth zone command)))
    where
      or-true : (b : Bool) → (b || true) ≡ true
      or-true true = refl
      or-true false = refl

-- ---- power that comes back

-- what becomes of it
abbrev restored : World → Injected
restored w = record { reply = Ok tt; world = power_on w }

pub restored_bare : (old new : DeviceState) → old.spoilt ≡ false → new ≡ record old { world = power_on old.world } → Harms (restored old.world) (Ok tt) (bare_held old) (bare_held new)
restored_bare old new unspoilt same = at_once_bare (restored old.world) (Ok tt) refl old new (powered_geometry old.world) unspoilt refl same

pub restored_mounted : (old new : VolumeState) → old.device.spoilt ≡ false → new ≡ record old { device = record old.device { world = power_on old.device.world } } → Harms (restored old.device.world) (Ok tt) (mounted_held old) (mounted_held new)
restored_mounted old new unspoilt same = at_once_mounted (restored old.device.world) (Ok tt) refl old new (powered_geometry old.device.world) unspoilt refl same

restored_now : (table : Table) → line_now [] table PowerOn ≡ injects table (restored table.world)
unfolding line_now
restored_now table = refl

pub restored_means : (kept : Kept) (entropy : List ℕ) (old new : HeldState) (numbers : List (Option Handle)) → Harms (record { reply = Ok tt; world = power_on old.device.world }) (Ok tt) old new → AreNumbered old numbers
    → Means line_now PowerOn Done kept entropy old new numbers numbers
restored_means kept entropy old new numbers harms numbered = harmed PowerOn _ (Ok tt) kept entropy old new numbers (restored_now _) harms numbered
