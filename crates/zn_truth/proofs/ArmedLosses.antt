-- A loss of power that waits for an order, and strikes inside it.
use Rattle.std.proofs.Common.{◌≡◌, inl, inr, ℕ, ◌+◌, ◌-◌, ◌*◌, ◌/◌, ◌<◌, ◌≤◌, Bool, true, false, List, [], ◌∷◌, ◌++◌, length, take, drop, replicate, Option, Some, None, Ok, Err, refl, sym, ap, ◌∙◌, subst, arith, length-append, length-take, length-drop, IsTrue}
use Rattle.std.specs.Prelude.{if◌then◌else◌, not}
use Rattle.std.proofs.lemmas.Bool.{false≢true}
use Rattle.std.proofs.lemmas.List.{length-replicate, length-map, get_or-map}
use Rattle.zn_truth.specs.declared.Kind.{Kind}
use Rattle.zn_truth.specs.declared.Kind.TheVariants.{Conventional, Sequential}
use Rattle.zn_truth.specs.declared.Cond.{Cond}
use Rattle.zn_truth.specs.declared.Cond.TheVariants.{Good, ReadOnly, Offline}
use Rattle.zn_truth.specs.declared.DevError.{DevError}
use Rattle.zn_truth.specs.declared.DevError.TheVariants.{PowerLost}
use Rattle.zn_truth.specs.declared.Armed.{Armed}
use Rattle.zn_truth.specs.declared.InjectError.TheVariants.{PowerLost as no_power}
use Rattle.zn_truth.specs.declared.Shape.{Shape}
use Rattle.zn_truth.specs.declared.ZoneOp.TheVariants.{Open, Close, Reset, Finish}
use Rattle.zn_truth.specs.declared.LossSpec.{LossSpec}
use Rattle.zn_truth.specs.Truth.{geometry, kind_at, room, Zone, Truth, zone_at, no_zone, with_zone, seen, is_sequential, is_offline, IsSound, IsSoundZone}
use Rattle.zn_truth.specs.Orders.{Order, ReadAt, WriteAt, Manage, FlushAll, ReportFrom, refusal, effect, changing, placed, written, managed, done, done_unless}
use Rattle.zn_truth.specs.Power.{write_during, during, lost}
use Rattle.zn_truth.specs.Loss.{IsLossOf, IsLossOfOne, stages, stages_unless, IsLossInside}
use Rattle.zn_truth.specs.Obeying.{IsOrderFor, Fits, IsZoneToManage}
use Rattle.zn_truth.specs.World.{World, Outcome, issue, issue_armed, unarmed, powered_off, geometry_of, meets, command_of, zones_of}
use Rattle.zn_truth.specs.Inject.{Injected, lose_power, unless_bad}
use Rattle.zn_truth.proofs.Losses.{IsFit, AreFit, fit_of_sound, fit_if_sound, sequential_flags, conventional_flags, fit_lost, lost_is_loss}
use Rattle.zn_truth.proofs.LossesInside.{fit_with}
use Rattle.zn_truth.proofs.CutWrites.{cut_write_inside}
use Rattle.zn_truth.proofs.LossReplies.{tells_loss, unarmed_loss, no_loss_told}

-- ---- zones of a geometry

pub zone_below : (t : Truth) (z : ℕ) → z < length (geometry t).kinds → z < length t.zones
zone_below t z h = omega (arith, length-map t.zones (λ (zone : Zone). zone.kind))

pub kind_at-geometry : (t : Truth) (z : ℕ) → z < length t.zones → kind_at (geometry t) z ≡ (zone_at t z).kind
kind_at-geometry t z h = get_or-map (λ (zone : Zone). zone.kind) t.zones z no_zone Sequential h

-- ---- zones that a loss may strike

-- a zone that is emptied
reset_fit : (told : Bool) (shape : Shape) (zone : Zone) → zone.kind ≡ Sequential → IsFit told zone → IsFit told (seen told (managed Reset shape zone))
reset_fit told shape zone kind fit = record {
  bytes = none told;
  durable = omega arith;
  whole = λ no. refl;
  flags = sequential_flags told zone kind fit ∙ ap (λ (k : Kind). if is_sequential k then 0 else 0) (sym kind);
}
  where
    none : (told : Bool) → length (if told then (let nothing : List ℕ = [] in nothing) else []) ≡ (if told then 4096 * 0 else 0)
    none true = refl
    none false = refl

finished_size : (told : Bool) (held capacity : ℕ) (bytes : List ℕ) → held ≤ capacity → length bytes ≡ (if told then 4096 * held else 0)
    → length (if told then bytes ++ replicate (4096 * (capacity - held)) 0 else []) ≡ (if told then 4096 * capacity else 0)
finished_size true held capacity bytes le h = omega (arith, length-append bytes (replicate (4096 * (capacity - held)) 0), length-replicate {A = ℕ} (4096 * (capacity - held)) 0)
finished_size false held capacity bytes le h = refl

-- a zone that is finished
finish_fit : (told : Bool) (shape : Shape) (zone : Zone) → zone.kind ≡ Sequential → zone.held ≤ shape.zone_capacity → IsFit told zone → IsFit told (seen told (managed Finish shape zone))
finish_fit told shape zone kind le fit = record {
  bytes = finished_size told zone.held shape.zone_capacity zone.bytes le fit.bytes;
  durable = omega arith;
  whole = λ no. refl;
  flags = sequential_flags told zone kind fit ∙ ap (λ (k : Kind). if is_sequential k then 0 else shape.zone_capacity) (sym kind);
}

replaced_size : {X : Type 0} (old new : List X) (at n : ℕ) → n ≡ length new → at + n ≤ length old → length (take at old ++ new ++ drop (at + n) old) ≡ length old
replaced_size old new at n is fits =
    omega (arith, length-append (take at old ++ new) (drop (at + n) old), length-append (take at old) new, length-take at old, length-drop (at + n) old)

placed_size : (told : Bool) (held at : ℕ) (bytes new : List ℕ) → length bytes ≡ (if told then 4096 * held else 0) → 4096 * (length new / 4096) ≡ length new → at + length new / 4096 ≤ held
    → length (if told then take (4096 * at) bytes ++ new ++ drop (4096 * at + length new) bytes else []) ≡ (if told then 4096 * held else 0)
placed_size true held at bytes new h whole fits = replaced_size bytes new (4096 * at) (length new) refl (omega arith) ∙ h
placed_size false held at bytes new h whole fits = refl

-- a zone that is written in place
placed_fit : (told : Bool) (zone : Zone) (at : ℕ) (new : List ℕ) → zone.kind ≡ Conventional → 4096 * (length new / 4096) ≡ length new → at + length new / 4096 ≤ zone.held → IsFit told zone
    → IsFit told (seen told (placed Conventional zone at new))
placed_fit told zone at new kind whole fits fit = record {
  bytes = placed_size told zone.held at zone.bytes new fit.bytes whole fits;
  durable = fit.durable;
  whole = fit.whole;
  flags = replaced_size zone.unflushed (replicate (length new / 4096) true) at (length new / 4096) (sym (length-replicate (length new / 4096) true)) (omega (arith, conventional_flags told zone kind fit)) ∙ fit.flags;
}

changing_none : (cond : Cond) (next : Option DevError) → changing cond next ≡ None → is_offline cond ≡ false
changing_none Good next h = refl
changing_none ReadOnly next h = absurd (cc)
changing_none Offline next h = absurd (cc)

-- a conventional zone that may be written holds its size
conventional_held : (t : Truth) (zone : Zone) (next : Option DevError) → IsSoundZone t.told t.shape zone → zone.kind ≡ Conventional → changing zone.cond next ≡ None → zone.held ≡ t.shape.zone_blocks
conventional_held t zone next sound kind none =
    sound.conventional
    (λ yes. let no : is_sequential Conventional ≡ true = ap is_sequential (sym kind) ∙ yes in absurd (false≢true no))
    (λ yes. absurd (false≢true (sym (changing_none zone.cond next none) ∙ yes)))

-- ---- each order

-- nothing but what was before it is struck
only_before : (t new : Truth) (order : Order) (r : Option DevError) → stages t order ≡ t ∷ [] → IsLossOf t new → IsLossOfOne (stages_unless r t order) new
only_before t new order None is loss = subst (λ (stages : List Truth). IsLossOfOne stages new) (sym is) loss
only_before t new order (Some error) is loss = loss

-- an order that is done or not done
done_or_not : (t : Truth) (order : Order) (carried_out : Bool) (loss : LossSpec) (r : Option DevError) → stages t order ≡ t ∷ effect t order ∷ [] → AreFit t → AreFit (effect t order)
    → IsLossOfOne (stages_unless r t order) (lost (if carried_out then (done_unless r t order).truth else t) loss)
done_or_not t order true loss None is fit after = subst (λ (stages : List Truth). IsLossOfOne stages (lost (effect t order) loss)) (sym is) (inr (fit_lost (effect t order) loss after))
done_or_not t order false loss None is fit after = subst (λ (stages : List Truth). IsLossOfOne stages (lost t loss)) (sym is) (inl (fit_lost t loss fit))
done_or_not t order true loss (Some error) is fit after = fit_lost t loss fit
done_or_not t order false loss (Some error) is fit after = fit_lost t loss fit

-- a write in place is whole
in_place : (t : Truth) (z at : ℕ) (bytes : List ℕ) (loss : LossSpec) (r : Option DevError) → (zone_at t z).kind ≡ Conventional → AreFit t → (r ≡ None → AreFit (with_zone t z (placed Conventional (zone_at t z) at bytes)))
    → IsLossOfOne (stages_unless r t (WriteAt z at bytes)) (lost (done_unless r t (WriteAt z at bytes)).truth loss)
in_place t z at bytes loss None kind fit after =
    subst (λ (k : Kind). IsLossOf (with_zone t z (placed k (zone_at t z) at bytes)) (lost (with_zone t z (written k t.shape (zone_at t z) at bytes)) loss)) (sym kind)
    (fit_lost (with_zone t z (placed Conventional (zone_at t z) at bytes)) loss (after refl))
in_place t z at bytes loss (Some error) kind fit after = fit_lost t loss fit

in_place_fit : (t : Truth) (z at : ℕ) (bytes : List ℕ) → IsSound t → z < length t.zones → (zone_at t z).kind ≡ Conventional → 4096 * (length bytes / 4096) ≡ length bytes → at + length bytes / 4096 ≤ t.shape.zone_blocks
    → refusal t (WriteAt z at bytes) ≡ None → AreFit (with_zone t z (placed Conventional (zone_at t z) at bytes))
in_place_fit t z at bytes sound h kind whole fits none =
    let held = conventional_held t (zone_at t z) _ (sound.zones z h) kind none in
    fit_with t z _ (fit_if_sound t sound) h (placed_fit t.told (zone_at t z) at bytes kind whole (omega arith) (fit_of_sound t.told t.shape (zone_at t z) (sound.zones z h)))

write_inside : (t : Truth) (z at : ℕ) (bytes : List ℕ) (loss : LossSpec) (kind : Kind) → (zone_at t z).kind ≡ kind → IsSound t → z < length t.zones → 4096 * (length bytes / 4096) ≡ length bytes → at + length bytes / 4096 ≤ room t.shape kind
    → IsLossInside t (WriteAt z at bytes) (lost (write_during (is_sequential kind) t z at bytes loss) loss)
unfolding done
write_inside t z at bytes loss Sequential is sound h whole fits = cut_write_inside t z at bytes loss (fit_if_sound t sound) h is whole
write_inside t z at bytes loss Conventional is sound h whole fits =
    in_place t z at bytes loss (refusal t (WriteAt z at bytes)) is (fit_if_sound t sound) (in_place_fit t z at bytes sound h is whole fits)

write_fits : (t : Truth) (z at n : ℕ) → Fits (geometry t) z at n → at + n ≤ room t.shape (zone_at t z).kind
write_fits t z at n fits = subst (λ (k : Kind). at + n ≤ room t.shape k) (kind_at-geometry t z (zone_below t z fits.zone)) fits.room

managed_kind : (t : Truth) (z : ℕ) → IsZoneToManage (geometry t) z → (zone_at t z).kind ≡ Sequential
managed_kind t z zone = sym (kind_at-geometry t z (zone_below t z zone.zone)) ∙ zone.kind

below_capacity : (t : Truth) (zone : Zone) → IsSoundZone t.told t.shape zone → zone.kind ≡ Sequential → zone.held ≤ t.shape.zone_capacity
below_capacity t zone sound kind = subst (λ (k : Kind). zone.held ≤ room t.shape k) kind sound.held

-- A scripted loss inside an order is one that may strike there.
pub loss_inside : (t : Truth) (order : Order) (carried_out : Bool) (loss : LossSpec) → IsSound t → IsOrderFor (geometry t) order → IsLossInside t order (lost (during t order carried_out loss) loss)
unfolding during done
loss_inside t (ReadAt z at n) carried_out loss sound for = only_before t (lost t loss) (ReadAt z at n) (refusal t (ReadAt z at n)) refl (fit_lost t loss (fit_if_sound t sound))
loss_inside t (WriteAt z at bytes) carried_out loss sound for =
    write_inside t z at bytes loss (zone_at t z).kind refl sound (zone_below t z for.1.zone) for.0.whole (write_fits t z at (length bytes / 4096) for.1)
loss_inside t (Manage z Open) carried_out loss sound for = only_before t (lost t loss) (Manage z Open) (refusal t (Manage z Open)) refl (fit_lost t loss (fit_if_sound t sound))
loss_inside t (Manage z Close) carried_out loss sound for = only_before t (lost t loss) (Manage z Close) (refusal t (Manage z Close)) refl (fit_lost t loss (fit_if_sound t sound))
loss_inside t (Manage z Reset) carried_out loss sound for =
    let below = zone_below t z for.zone in
    done_or_not t (Manage z Reset) carried_out loss (refusal t (Manage z Reset)) refl (fit_if_sound t sound)
    (fit_with t z _ (fit_if_sound t sound) below (reset_fit t.told t.shape (zone_at t z) (managed_kind t z for) (fit_of_sound t.told t.shape (zone_at t z) (sound.zones z below))))
loss_inside t (Manage z Finish) carried_out loss sound for =
    let below = zone_below t z for.zone in
    let kind = managed_kind t z for in
    done_or_not t (Manage z Finish) carried_out loss (refusal t (Manage z Finish)) refl (fit_if_sound t sound)
    (fit_with t z _ (fit_if_sound t sound) below (finish_fit t.told t.shape (zone_at t z) kind (below_capacity t (zone_at t z) (sound.zones z below) kind) (fit_of_sound t.told t.shape (zone_at t z) (sound.zones z below))))
loss_inside t FlushAll carried_out loss sound for = fit_lost t loss (fit_if_sound t sound)
loss_inside t (ReportFrom first n) carried_out loss sound for = fit_lost t loss (fit_if_sound t sound)

-- ---- losses of a world

taken : (bad : Bool) (w new : World) → (unless_bad bad w new).reply ≡ Ok tt → (unless_bad bad w new).world ≡ new
taken true w new ok = absurd (cc)
taken false w new ok = refl

if_taken : (b : Bool) (w : World) (i : Injected) (P : World → Type 0) → (i.reply ≡ Ok tt → P i.world)
    → (if b then (let refused : Injected = record { reply = Err no_power; world = w } in refused) else i).reply ≡ Ok tt → P (if b then (let refused : Injected = record { reply = Err no_power; world = w } in refused) else i).world
if_taken true w i P h ok = absurd (cc)
if_taken false w i P h ok = h ok

pub lose_power_is_loss : (w : World) (loss : LossSpec) → IsSound w.truth → (lose_power w loss).reply ≡ Ok tt → IsLossOf w.truth (lose_power w loss).world.truth
unfolding lose_power
lose_power_is_loss w loss sound ok = if_taken (not w.powered) w (unless_bad _ w _) (λ (v : World). IsLossOf w.truth v.truth)
    (λ given. subst (λ (v : World). IsLossOf w.truth v.truth) (sym (taken _ w _ given)) (lost_is_loss w.truth loss sound)) ok

-- what an order makes of a world in which a loss waits for it
pub armed_strikes : (w : World) (order : Order) (armed : Armed) → w.powered ≡ true → w.armed ≡ Some armed → IsTrue (meets (command_of order) (zones_of order) armed.command armed.zone.0) → issue w order ≡ powered_off w.truth w.pending armed order
unfolding issue
armed_strikes w order armed on is meet =
    ap (λ (b : Bool). if b then issue_armed w order w.armed else (record { reply = Err PowerLost; world = w })) on
    ∙ ap (issue_armed w order) is
    ∙ ap (λ (b : Bool). if b then powered_off w.truth w.pending armed order else unarmed w order (Some armed)) meet

pub armed_reply : (w : World) (order : Order) (armed : Armed) → w.powered ≡ true → w.armed ≡ Some armed → IsTrue (meets (command_of order) (zones_of order) armed.command armed.zone.0) → (issue w order).reply ≡ Err PowerLost
armed_reply w order armed on is meet = ap (λ (o : Outcome). o.reply) (armed_strikes w order armed on is meet)

pub armed_inside : (w : World) (order : Order) (armed : Armed) → IsSound w.truth → IsOrderFor (geometry_of w) order → w.powered ≡ true → w.armed ≡ Some armed
    → IsTrue (meets (command_of order) (zones_of order) armed.command armed.zone.0) → IsLossInside w.truth order (issue w order).world.truth
unfolding geometry_of
armed_inside w order armed sound for on is meet =
    subst (λ (o : Outcome). IsLossInside w.truth order o.world.truth) (sym (armed_strikes w order armed on is meet)) (loss_inside w.truth order armed.carried_out armed.loss sound for)

by_meeting : (b : Bool) (t : Truth) (order : Order) (x y : Outcome) → IsLossInside t order x.world.truth → tells_loss y.reply ≡ false → (if b then x else y).reply ≡ Err PowerLost → IsLossInside t order (if b then x else y).world.truth
by_meeting true t order x y inside none is = inside
by_meeting false t order x y inside none is = absurd (no_loss_told y.reply none is)

by_armed : (w : World) (order : Order) (o : Option Armed) → IsSound w.truth → IsOrderFor (geometry w.truth) order → (issue_armed w order o).reply ≡ Err PowerLost → IsLossInside w.truth order (issue_armed w order o).world.truth
by_armed w order None sound for is = absurd (no_loss_told (unarmed w order None).reply (unarmed_loss w order None) is)
by_armed w order (Some armed) sound for is =
    by_meeting (meets (command_of order) (zones_of order) armed.command armed.zone.0) w.truth order (powered_off w.truth w.pending armed order) (unarmed w order (Some armed))
    (loss_inside w.truth order armed.carried_out armed.loss sound for) (unarmed_loss w order (Some armed)) is

-- a device with power that tells of a loss lost its power inside the order
pub power_lost_inside : (w : World) (order : Order) → IsSound w.truth → IsOrderFor (geometry_of w) order → w.powered ≡ true → (issue w order).reply ≡ Err PowerLost → IsLossInside w.truth order (issue w order).world.truth
unfolding issue geometry_of
power_lost_inside w order sound for on is =
    let e : issue w order ≡ issue_armed w order w.armed = ap (λ (b : Bool). if b then issue_armed w order w.armed else (record { reply = Err PowerLost; world = w })) on in
    subst (λ (o : Outcome). IsLossInside w.truth order o.world.truth) (sym e) (by_armed w order w.armed sound for (sym (ap (λ (o : Outcome). o.reply) e) ∙ is))
