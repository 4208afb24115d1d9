-- Without its bytes a device does the same.
use Rattle.std.proofs.Common.{◌≡◌, ℕ, ◌+◌, ◌*◌, ◌-◌, ◌/◌, min, Bool, true, false, List, [], ◌∷◌, length, take, map, Option, Some, None, Ok, Err, refl, sym, ap, subst, ◌∙◌, nat_lt, nat_le, ◌≤◌, arith}
use Rattle.std.specs.Prelude.{unwrap_or, ◌==◌, ◌&&◌, ◌||◌, not, slice_set, if◌then◌else◌}
use Rattle.std.proofs.Math.ListN.{get_or-map}
use Rattle.std.proofs.lemmas.List.{map-set, length-map}
use Rattle.zn_truth.proofs.Sound.{count_by-map}
use Rattle.zn_truth.specs.declared.Kind.{Kind}
use Rattle.zn_truth.specs.declared.Kind.TheVariants.{Conventional, Sequential}
use Rattle.zn_truth.specs.declared.ZoneOp.{ZoneOp}
use Rattle.zn_truth.specs.declared.ZoneOp.TheVariants.{Open, Close, Reset, Finish}
use Rattle.zn_truth.specs.declared.limits.TheConstants.{MAX_FAULTS}
use Rattle.zn_truth.specs.declared.Cond.{Cond}
use Rattle.zn_truth.specs.declared.Cond.TheVariants.{Good, ReadOnly, Offline}
use Rattle.zn_truth.specs.declared.DevError.{DevError}
use Rattle.zn_truth.specs.declared.DevError.TheVariants.{Fault, PowerLost}
use Rattle.zn_truth.specs.declared.FaultSpec.{FaultSpec}
use Rattle.zn_truth.specs.declared.LossSpec.{LossSpec}
use Rattle.zn_truth.specs.declared.Armed.{Armed}
use Rattle.zn_truth.specs.declared.Shape.{Shape}
use Rattle.zn_truth.specs.Truth.{Zone, Truth, zone_at, no_zone, with_zone, seen, is_active, active, explicit, is_good, is_sequential, Geometry, info_at, IsSound, IsSoundZone}
use Rattle.zn_truth.specs.declared.ZoneInfo.{ZoneInfo}
use Rattle.zn_truth.specs.Limits.{IsWithinLimits}
use Rattle.zn_truth.specs.Obeying.{Obeys}
use Rattle.zn_truth.specs.Orders.{Order, ReadAt, WriteAt, Manage, FlushAll, ReportFrom, Reply, Done, refusal, effect, done, done_unless, written, managed, flushed, opening, writing, managing, changing}
use Rattle.zn_truth.specs.Power.{settled, clamped, cut_of, stored, zone_lost, zones_lost, lost, cut_write, write_during, during}
use Rattle.zn_truth.specs.World.{World, Outcome, met, unmet, meets, command_of, zones_of, settled_by_flush, faulted, struck, unarmed, powered_off, issue_armed, issue, outcome, broken_off, geometry_of}
use Rattle.zn_truth.specs.Inject.{Injected, is_zone, is_bad_fault, severity, unless_bad, inject, turn}
use Rattle.zn_truth.specs.Loss.{turned_by, turned}
use Rattle.zn_truth.specs.Hush.{hushed_zone, hushed, hushed_world, hushed_outcome}

-- ---- zones

at_hushed : (t : Truth) (z : ℕ) → zone_at (hushed t) z ≡ hushed_zone (zone_at t z)
at_hushed t z = get_or-map hushed_zone t.zones z no_zone

-- a zone in place of another, which is the same without its bytes
with_hushed : (t : Truth) (z : ℕ) (zone other : Zone) → hushed_zone other ≡ hushed_zone zone → with_zone (hushed t) z other ≡ hushed (with_zone t z zone)
with_hushed t z zone other same =
    ap (λ (x : Zone). let u : Truth = record (hushed t) { zones = slice_set (map hushed_zone t.zones) z x } in u) same
    ∙ ap (λ (zones : List Zone). let u : Truth = record (hushed t) { zones = zones } in u) (sym (map-set hushed_zone t.zones z (seen t.told zone)))

active_hushed : (t : Truth) → active (hushed t) ≡ active t
active_hushed t = count_by-map (is_active t.shape) hushed_zone t.zones

explicit_hushed : (t : Truth) → explicit (hushed t) ≡ explicit t
explicit_hushed t = count_by-map (λ (zone : Zone). zone.explicit) hushed_zone t.zones

-- ---- refusals

opening_hushed : (t : Truth) (zone : Zone) → opening (hushed t) (hushed_zone zone) ≡ opening t zone
opening_hushed t zone = rw (active_hushed t, explicit_hushed t) refl

writing_hushed : (kind : Kind) (t : Truth) (zone : Zone) (at : ℕ) → writing kind (hushed t) (hushed_zone zone) at ≡ writing kind t zone at
writing_hushed Conventional t zone at = refl
writing_hushed Sequential t zone at = rw (opening_hushed t zone) refl

managing_hushed : (op : ZoneOp) (t : Truth) (zone : Zone) → managing op (hushed t) (hushed_zone zone) ≡ managing op t zone
managing_hushed Open t zone = opening_hushed t zone
managing_hushed Close t zone = refl
managing_hushed Reset t zone = refl
managing_hushed Finish t zone = refl

refusal_hushed : (t : Truth) (order : Order) → refusal (hushed t) order ≡ refusal t order
refusal_hushed t (ReadAt z at n) = rw (at_hushed t z) refl
refusal_hushed t (WriteAt z at bytes) = rw (at_hushed t z) (ap (changing (zone_at t z).cond) (writing_hushed (zone_at t z).kind t (zone_at t z) at))
refusal_hushed t (Manage z op) = rw (at_hushed t z) (ap (changing (zone_at t z).cond) (managing_hushed op t (zone_at t z)))
refusal_hushed t FlushAll = refl
refusal_hushed t (ReportFrom first n) = refl

-- ---- effects

written_hushed : (kind : Kind) (shape : Shape) (zone : Zone) (at : ℕ) (new : List ℕ) → hushed_zone (written kind shape (hushed_zone zone) at new) ≡ hushed_zone (written kind shape zone at new)
written_hushed Conventional shape zone at new = refl
written_hushed Sequential shape zone at new = refl

managed_hushed : (op : ZoneOp) (shape : Shape) (zone : Zone) → hushed_zone (managed op shape (hushed_zone zone)) ≡ hushed_zone (managed op shape zone)
managed_hushed Open shape zone = refl
managed_hushed Close shape zone = refl
managed_hushed Reset shape zone = refl
managed_hushed Finish shape zone = refl

flushed_hushed : (zones : List Zone) → map flushed (map hushed_zone zones) ≡ map hushed_zone (map flushed zones)
flushed_hushed [] = refl
flushed_hushed (zone ∷ zones) = ap (λ (all : List Zone). hushed_zone (flushed zone) ∷ all) (flushed_hushed zones)

effect_hushed : (t : Truth) (order : Order) → effect (hushed t) order ≡ hushed (effect t order)
effect_hushed t (ReadAt z at n) = refl
effect_hushed t (WriteAt z at bytes) = rw (at_hushed t z) (with_hushed t z (written (zone_at t z).kind t.shape (zone_at t z) at bytes) (written (zone_at t z).kind t.shape (hushed_zone (zone_at t z)) at bytes) (written_hushed (zone_at t z).kind t.shape (zone_at t z) at bytes))
effect_hushed t (Manage z op) = rw (at_hushed t z) (with_hushed t z (managed op t.shape (zone_at t z)) (managed op t.shape (hushed_zone (zone_at t z))) (managed_hushed op t.shape (zone_at t z)))
effect_hushed t FlushAll = ap (λ (zones : List Zone). let u : Truth = record (hushed t) { zones = zones } in u) (flushed_hushed t.zones)
effect_hushed t (ReportFrom first n) = refl

-- the same reply, and the truth without its bytes
abbrev hushed_done : Done → Done
hushed_done d = record { reply = d.reply; truth = hushed d.truth }

unless_hushed : (r : Option DevError) (t : Truth) (order : Order) → done_unless r (hushed t) order ≡ hushed_done (done_unless r t order)
unless_hushed None t order = ap (λ (u : Truth). let d : Done = record { reply = Ok tt; truth = u } in d) (effect_hushed t order)
unless_hushed (Some error) t order = refl

pub done_hushed : (t : Truth) (order : Order) → done (hushed t) order ≡ hushed_done (done t order)
unfolding done
done_hushed t order = ap (λ (r : Option DevError). done_unless r (hushed t) order) (refusal_hushed t order) ∙ unless_hushed (refusal t order) t order

-- ---- faults

if_hushed : (b : Bool) (one other : Truth) (one' other' : Truth) → one' ≡ hushed one → other' ≡ hushed other → (if b then one' else other') ≡ hushed (if b then one else other)
if_hushed true one other one' other' same same' = same
if_hushed false one other one' other' same same' = same'

flush_hushed : (t : Truth) (z keep : ℕ) → settled_by_flush (hushed t) z keep ≡ hushed (settled_by_flush t z keep)
unfolding settled_by_flush
flush_hushed t z keep = rw (at_hushed t z)
    (if_hushed (is_sequential (zone_at t z).kind && is_good (zone_at t z).cond) (with_zone t z (settled (zone_at t z) (clamped (zone_at t z) keep) (clamped (zone_at t z) keep) None)) t _ (hushed t)
    (with_hushed t z (settled (zone_at t z) (clamped (zone_at t z) keep) (clamped (zone_at t z) keep) None) (settled (hushed_zone (zone_at t z)) (clamped (zone_at t z) keep) (clamped (zone_at t z) keep) None) refl) refl)

if_done : (b : Bool) (one other one' other' : Done) → one' ≡ hushed_done one → other' ≡ hushed_done other → (if b then one' else other') ≡ hushed_done (if b then one else other)
if_done true one other one' other' same same' = same
if_done false one other one' other' same same' = same'

faulted_hushed : (t : Truth) (order : Order) (fault : FaultSpec) → faulted (hushed t) order fault ≡ hushed_done (faulted t order fault)
unfolding faulted
faulted_hushed t (WriteAt z at bytes) fault =
    let part = take (4096 * min (unwrap_or fault.keep 0) (length bytes / 4096)) bytes in
    if_done (min (unwrap_or fault.keep 0) (length bytes / 4096) == 0) (record { reply = Err Fault; truth = t }) (broken_off (done t (WriteAt z at part))) (record { reply = Err Fault; truth = hushed t }) (broken_off (done (hushed t) (WriteAt z at part)))
    refl (ap broken_off (done_hushed t (WriteAt z at part)))
faulted_hushed t FlushAll fault = ap (λ (u : Truth). let d : Done = record { reply = Err Fault; truth = u } in d) (flush_hushed t fault.zone.0 (unwrap_or fault.keep 0))
faulted_hushed t (ReadAt z at n) fault = refl
faulted_hushed t (Manage z op) fault = refl
faulted_hushed t (ReportFrom first n) fault = refl

-- ---- losses

lost_zone_hushed : (kind : Kind) (zone : Zone) (z : ℕ) (loss : LossSpec) → hushed_zone (zone_lost kind (hushed_zone zone) z loss) ≡ hushed_zone (zone_lost kind zone z loss)
lost_zone_hushed Conventional zone z loss = refl
lost_zone_hushed Sequential zone z loss = refl

zones_lost_hushed : (told : Bool) (z : ℕ) (zones : List Zone) (loss : LossSpec) → zones_lost false z (map hushed_zone zones) loss ≡ map hushed_zone (zones_lost told z zones loss)
zones_lost_hushed told z [] loss = refl
zones_lost_hushed told z (zone ∷ zones) loss =
    ap (λ (x : Zone). x ∷ zones_lost false (z + 1) (map hushed_zone zones) loss) (lost_zone_hushed zone.kind zone z loss)
    ∙ ap (λ (all : List Zone). hushed_zone (zone_lost zone.kind zone z loss) ∷ all) (zones_lost_hushed told (z + 1) zones loss)

lost_hushed : (t : Truth) (loss : LossSpec) → lost (hushed t) loss ≡ hushed (lost t loss)
unfolding lost
lost_hushed t loss = ap (λ (zones : List Zone). let u : Truth = record (hushed t) { zones = zones } in u) (zones_lost_hushed t.told 0 t.zones loss)

done_truth_hushed : (t : Truth) (order : Order) → (done (hushed t) order).truth ≡ hushed (done t order).truth
done_truth_hushed t order = ap (λ (d : Done). d.truth) (done_hushed t order)

after_hushed : (t u : Truth) (z at : ℕ) (bytes : List ℕ) → u ≡ hushed t
    → (let after = (done u (WriteAt z at bytes)).truth in with_zone after z (settled (zone_at after z) (zone_at after z).held (zone_at after z).held None))
    ≡ hushed (let after = (done t (WriteAt z at bytes)).truth in with_zone after z (settled (zone_at after z) (zone_at after z).held (zone_at after z).held None))
after_hushed t u z at bytes same =
    let after = (done t (WriteAt z at bytes)).truth in
    ap (λ (v : Truth). with_zone v z (settled (zone_at v z) (zone_at v z).held (zone_at v z).held None)) (ap (λ (v : Truth). (done v (WriteAt z at bytes)).truth) same ∙ done_truth_hushed t (WriteAt z at bytes))
    ∙ rw (at_hushed after z) (with_hushed after z (settled (zone_at after z) (zone_at after z).held (zone_at after z).held None) (settled (hushed_zone (zone_at after z)) (zone_at after z).held (zone_at after z).held None) refl)

cut_write_hushed : (t : Truth) (z at : ℕ) (bytes : List ℕ) (loss : LossSpec) → cut_write (hushed t) z at bytes loss ≡ hushed (cut_write t z at bytes loss)
cut_write_hushed t z at bytes loss =
    let cut = unwrap_or (cut_of loss.cuts z) (zone_at t z).durable in
    let zone = settled (zone_at t z) (zone_at t z).durable (clamped (zone_at t z) cut) loss.fill in
    let zone' = settled (hushed_zone (zone_at t z)) (zone_at t z).durable (clamped (zone_at t z) cut) loss.fill in
    let before = with_zone t z zone in
    let before' = with_zone (hushed t) z zone' in
    let same : before' ≡ hushed before = with_hushed t z zone zone' refl in
    rw (at_hushed t z) (if_hushed (nat_lt (zone_at t z).held cut) _ before _ before' (after_hushed before before' z at (stored loss.fill (take (4096 * (cut - (zone_at t z).held)) bytes)) same) same)

during_write_hushed : (sequential : Bool) (t : Truth) (z at : ℕ) (bytes : List ℕ) (loss : LossSpec) → write_during sequential (hushed t) z at bytes loss ≡ hushed (write_during sequential t z at bytes loss)
during_write_hushed true t z at bytes loss = cut_write_hushed t z at bytes loss
during_write_hushed false t z at bytes loss = done_truth_hushed t (WriteAt z at bytes)

during_hushed : (t : Truth) (order : Order) (carried_out : Bool) (loss : LossSpec) → during (hushed t) order carried_out loss ≡ hushed (during t order carried_out loss)
unfolding during
during_hushed t (WriteAt z at bytes) carried_out loss = ap (λ (zone : Zone). write_during (is_sequential zone.kind) (hushed t) z at bytes loss) (at_hushed t z) ∙ during_write_hushed (is_sequential (zone_at t z).kind) t z at bytes loss
during_hushed t (Manage z Reset) carried_out loss = if_hushed carried_out (done t (Manage z Reset)).truth t (done (hushed t) (Manage z Reset)).truth (hushed t) (done_truth_hushed t (Manage z Reset)) refl
during_hushed t (Manage z Finish) carried_out loss = if_hushed carried_out (done t (Manage z Finish)).truth t (done (hushed t) (Manage z Finish)).truth (hushed t) (done_truth_hushed t (Manage z Finish)) refl
during_hushed t (Manage z Open) carried_out loss = refl
during_hushed t (Manage z Close) carried_out loss = refl
during_hushed t (ReadAt z at n) carried_out loss = refl
during_hushed t FlushAll carried_out loss = refl
during_hushed t (ReportFrom first n) carried_out loss = refl

-- ---- orders

off_hushed : (t : Truth) (pending : List FaultSpec) (armed : Armed) (order : Order) → powered_off (hushed t) pending armed order ≡ hushed_outcome (powered_off t pending armed order)
off_hushed t pending armed order =
    ap (λ (u : Truth). let o : Outcome = record { reply = Err PowerLost; world = record { truth = u; powered = false; pending = pending; armed = None } } in o)
    (ap (λ (u : Truth). lost u armed.loss) (during_hushed t order armed.carried_out armed.loss) ∙ lost_hushed (during t order armed.carried_out armed.loss) armed.loss)

struck_hushed : (t : Truth) (pending rest : List FaultSpec) (armed : Option Armed) (order : Order) (fault : Option FaultSpec) → struck (hushed t) pending rest armed order fault ≡ hushed_outcome (struck t pending rest armed order fault)
struck_hushed t pending rest armed order None = ap (λ (d : Done). outcome d pending armed) (done_hushed t order)
struck_hushed t pending rest armed order (Some fault) = ap (λ (d : Done). outcome d rest armed) (faulted_hushed t order fault)

if_outcome : (b : Bool) (one other one' other' : Outcome) → one' ≡ hushed_outcome one → other' ≡ hushed_outcome other → (if b then one' else other') ≡ hushed_outcome (if b then one else other)
if_outcome true one other one' other' same same' = same
if_outcome false one other one' other' same same' = same'

unarmed_hushed : (w : World) (order : Order) (armed : Option Armed) → unarmed (hushed_world w) order armed ≡ hushed_outcome (unarmed w order armed)
unarmed_hushed w order armed = struck_hushed w.truth w.pending (unmet (command_of order) (zones_of order) w.pending) armed order (met (command_of order) (zones_of order) w.pending)

armed_hushed : (w : World) (order : Order) (armed : Option Armed) → issue_armed (hushed_world w) order armed ≡ hushed_outcome (issue_armed w order armed)
armed_hushed w order None = unarmed_hushed w order None
armed_hushed w order (Some armed) =
    if_outcome (meets (command_of order) (zones_of order) armed.command armed.zone.0) (powered_off w.truth w.pending armed order) (unarmed w order (Some armed)) (powered_off (hushed w.truth) w.pending armed order) (unarmed (hushed_world w) order (Some armed))
    (off_hushed w.truth w.pending armed order) (unarmed_hushed w order (Some armed))

pub issue_hushed : (w : World) (order : Order) → issue (hushed_world w) order ≡ hushed_outcome (issue w order)
unfolding issue
issue_hushed w order =
    if_outcome w.powered (issue_armed w order w.armed) (record { reply = Err PowerLost; world = w }) (issue_armed (hushed_world w) order w.armed) (record { reply = Err PowerLost; world = hushed_world w })
    (armed_hushed w order w.armed) refl

-- ---- faults and turns that a script asks for

-- the same reply, and the world without its bytes
abbrev pub hushed_injected : Injected → Injected
hushed_injected i = record { reply = i.reply; world = hushed_world i.world }

if_injected : (b : Bool) (one other one' other' : Injected) → one' ≡ hushed_injected one → other' ≡ hushed_injected other → (if b then one' else other') ≡ hushed_injected (if b then one else other)
if_injected true one other one' other' same same' = same
if_injected false one other one' other' same same' = same'

is_zone_hushed : (t : Truth) (z : ℕ) → is_zone (hushed t) z ≡ is_zone t z
is_zone_hushed t z = ap (nat_lt z) (length-map t.zones hushed_zone)

bad_fault_hushed : (t : Truth) (fault : FaultSpec) → is_bad_fault (hushed t) fault ≡ is_bad_fault t fault
bad_fault_hushed t fault = rw (is_zone_hushed t fault.zone.0, at_hushed t fault.zone.0) refl

pub inject_hushed : (w : World) (fault : FaultSpec) → inject (hushed_world w) fault ≡ hushed_injected (inject w fault)
unfolding inject
inject_hushed w fault = rw (bad_fault_hushed w.truth fault)
    (if_injected (is_bad_fault w.truth fault) _ _ _ _ refl (if_injected (nat_le MAX_FAULTS (length w.pending)) _ _ _ _ refl refl))

turned_by_hushed : (to : Cond) (zone : Zone) → hushed_zone (turned_by to (hushed_zone zone)) ≡ hushed_zone (turned_by to zone)
turned_by_hushed Good zone = refl
turned_by_hushed ReadOnly zone = refl
turned_by_hushed Offline zone = refl

turned_hushed : (t : Truth) (z : ℕ) (to : Cond) → turned (hushed t) z to ≡ hushed (turned t z to)
unfolding turned
turned_hushed t z to = rw (at_hushed t z) (with_hushed t z (turned_by to (zone_at t z)) (turned_by to (hushed_zone (zone_at t z))) (turned_by_hushed to (zone_at t z)))

no_worse_hushed : (t : Truth) (z : ℕ) (to : Cond) → nat_le (severity to) (severity (zone_at (hushed t) z).cond) ≡ nat_le (severity to) (severity (zone_at t z).cond)
no_worse_hushed t z to = rw (at_hushed t z) refl

pub turn_hushed : (w : World) (z : ℕ) (to : Cond) → turn (hushed_world w) z to ≡ hushed_injected (turn w z to)
unfolding turn
turn_hushed w z to =
    let bad : Truth → Bool = λ t. not (is_zone t z) || nat_le (severity to) (severity (zone_at t z).cond) in
    let after : Truth → World = λ t. record (hushed_world w) { truth = t } in
    let same : bad (hushed w.truth) ≡ bad w.truth =
    ap (λ b. not b || nat_le (severity to) (severity (zone_at (hushed w.truth) z).cond)) (is_zone_hushed w.truth z)
    ∙ ap (λ b. not (is_zone w.truth z) || b) (no_worse_hushed w.truth z to) in
    if_injected (not w.powered) _ _ _ _ refl
    (ap (λ b. unless_bad b (hushed_world w) (after (turned (hushed w.truth) z to))) same
    ∙ ap (λ (t : Truth). unless_bad (bad w.truth) (hushed_world w) (after t)) (turned_hushed w.truth z to)
    ∙ if_injected (bad w.truth) _ _ _ _ refl refl)

-- ---- what every device keeps to

zone_sound_hushed : (told : Bool) (shape : Shape) (zone : Zone) → IsSoundZone told shape zone → IsSoundZone false shape (hushed_zone zone)
zone_sound_hushed told shape zone sound = record {
  held = sound.held;
  bytes = refl;
  durable = sound.durable;
  full = sound.full;
  offline = sound.offline;
  settled = sound.settled;
  flushed = sound.flushed;
  conventional = sound.conventional;
  whole = sound.whole;
  flags = sound.flags;
  explicit = sound.explicit;
}

pub sound_hushed : (t : Truth) → IsSound t → IsSound (hushed t)
sound_hushed t sound = record {
  zones = λ z below. subst (λ (zone : Zone). IsSoundZone false t.shape zone) (sym (at_hushed t z)) (zone_sound_hushed t.told t.shape (zone_at t z) (sound.zones z (omega (arith, length-map t.zones hushed_zone))));
  active = λ on. subst (λ (n : ℕ). n ≤ t.shape.max_active) (sym (active_hushed t)) (sound.active on);
  explicit = λ on. subst (λ (n : ℕ). n ≤ t.shape.max_open) (sym (explicit_hushed t)) (sound.explicit on);
}

kinds_hushed : (zones : List Zone) → map (λ (zone : Zone). zone.kind) (map hushed_zone zones) ≡ map (λ (zone : Zone). zone.kind) zones
kinds_hushed [] = refl
kinds_hushed (zone ∷ zones) = ap (λ (kinds : List Kind). zone.kind ∷ kinds) (kinds_hushed zones)

pub geometry_hushed : (w : World) → geometry_of (hushed_world w) ≡ geometry_of w
unfolding geometry_of
geometry_hushed w = ap (λ (kinds : List Kind). let g : Geometry = record { shape = w.truth.shape; kinds = kinds } in g) (kinds_hushed w.truth.zones)

infos_in : (t : Truth) (zs : List ℕ) → map (info_at (hushed t)) zs ≡ map (info_at t) zs
infos_in t [] = refl
infos_in t (z ∷ zs) =
    ap (λ (zone : Zone). let info : ZoneInfo = record { cond = zone.cond; held = zone.held; explicit = zone.explicit } in info ∷ map (info_at (hushed t)) zs) (at_hushed t z)
    ∙ ap (λ (infos : List ZoneInfo). info_at t z ∷ infos) (infos_in t zs)

pub infos_hushed : (t : Truth) (zs : List ℕ) (infos : List ZoneInfo) → infos ≡ map (info_at t) zs → infos ≡ map (info_at (hushed t)) zs
infos_hushed t zs infos is = is ∙ sym (infos_in t zs)

pub obeys_hushed : (order : Order) (reply : Reply) (old new : World) → Obeys order reply old new → Obeys order reply (hushed_world old) (hushed_world new)
obeys_hushed order reply old new step = record {
  reply = λ yes. step.reply yes ∙ sym (ap (λ (o : Outcome). o.reply) (issue_hushed old order));
  world = λ yes. ap hushed_world (step.world yes) ∙ sym (ap (λ (o : Outcome). o.world) (issue_hushed old order));
  geometry = geometry_hushed new ∙ step.geometry ∙ sym (geometry_hushed old);
}

pub within_hushed : (w : World) → IsWithinLimits (geometry_of w) → IsWithinLimits (geometry_of (hushed_world w))
within_hushed w within = subst (λ (g : Geometry). IsWithinLimits g) (sym (geometry_hushed w)) within
