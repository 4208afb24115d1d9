-- Every order keeps a truth sound, and its geometry: done, met by a fault, or struck by a loss of power.
use Rattle.std.proofs.Common.{◌≡◌, ℕ, ◌+◌, ◌-◌, ◌*◌, ◌/◌, ◌<◌, ◌≤◌, min, Bool, true, false, cond, List, [], ◌∷◌, length, take, Option, Some, None, Ok, Err, refl, sym, ap, ◌∙◌, subst, inl, inr, ⊎_elim, nat_lt, arith}
use Rattle.std.specs.Prelude.{unwrap_or, ◌==◌, ◌&&◌}
use Rattle.std.proofs.lemmas.List.{length-take, length-replicate, get_or_past}
use Rattle.std.specs.List.{All}
use Rattle.std.proofs.lemmas.List.Elements.{All-head, All-tail}
use Rattle.std.proofs.lemmas.Bool.{cases_Bool, cases_lt, false≢true}
use Rattle.zn_truth.specs.declared.Kind.{Kind}
use Rattle.zn_truth.specs.declared.Kind.TheVariants.{Conventional, Sequential}
use Rattle.zn_truth.specs.declared.ZoneOp.TheVariants.{Open, Close, Reset, Finish}
use Rattle.zn_truth.specs.declared.FaultSpec.{FaultSpec}
use Rattle.zn_truth.specs.declared.LossSpec.{LossSpec}
use Rattle.zn_truth.specs.declared.Armed.{Armed}
use Rattle.zn_truth.specs.Truth.{Geometry, geometry, room, Zone, Truth, zone_at, no_zone, with_zone, is_good, is_sequential, IsSound}
use Rattle.zn_truth.specs.Orders.{Order, ReadAt, WriteAt, Manage, FlushAll, ReportFrom, Reply, Done, done}
use Rattle.zn_truth.specs.Power.{settled, clamped, cut_of, stored, lost, cut_write, write_during, during}
use Rattle.zn_truth.specs.World.{World, Outcome, geometry_of, met, meets, command_of, zones_of, settled_by_flush, faulted, struck, issue_armed, issue}
use Rattle.zn_truth.specs.OrderLists.{first_failure, issue_all}
use Rattle.zn_truth.specs.Obeying.{IsOrderFor}
use Rattle.zn_truth.proofs.Issuing.{kind-in_geometry, zones-in_geometry, same_kind, same_count, is_settled, not_settled}
use Rattle.zn_truth.proofs.Sound.{with_zone_sound, write_sound, done_sound, with_zone-geometry, done-geometry}
use Rattle.zn_truth.proofs.SoundLoss.{clamped-least, clamped-most, settled_sound, settled_active, lost_sound, lost-geometry}

-- what holds of both holds of the one that is chosen
pub if_keeps : {X : Type 0} (P : X → Type 0) (b : Bool) (x y : X) → P x → P y → P (cond b x y)
if_keeps P true x y hx hy = hx
if_keeps P false x y hx hy = hy

-- ---- a zone that is cut

-- a truth in which one sequential zone is cut to a length at which no durable block is lost
pub settle_sound : (t : Truth) (z from len : ℕ) (fill : Option ℕ) → IsSound t → z < length t.zones → (zone_at t z).kind ≡ Sequential → (zone_at t z).durable ≤ len → len ≤ (zone_at t z).held
    → IsSound (with_zone t z (settled (zone_at t z) from len fill))
settle_sound t z from len fill sound h kind least most = with_zone_sound t z _ sound h
    (settled_sound t.told t.shape (zone_at t z) from len fill (sound.zones z h) kind least most)
    (λ is. inl (settled_active t.told t.shape (zone_at t z) from len fill (sound.zones z h) kind least most is))
    inl

pub settle-geometry : (t : Truth) (z from len : ℕ) (fill : Option ℕ) → geometry (with_zone t z (settled (zone_at t z) from len fill)) ≡ geometry t
settle-geometry t z from len fill = with_zone-geometry t z _ refl

-- a zone that is good is one of the device's
good_zone_below : (t : Truth) (z : ℕ) → is_good (zone_at t z).cond ≡ true → z < length t.zones
good_zone_below t z good = elim (cases_lt z (length t.zones)) [
  | inl below ↦ below
  | inr past ↦ absurd (false≢true (sym (ap (λ (zone : Zone). is_good zone.cond) (get_or_past t.zones z no_zone past)) ∙ good))
]

sequential_from_test : (kind : Kind) (good : Bool) → (is_sequential kind && good) ≡ true → (kind ≡ Sequential) × (good ≡ true)
sequential_from_test Sequential good h = (refl, h)
sequential_from_test Conventional good h = absurd (false≢true h)

-- a flush that a fault meets
pub settled_by_flush_sound : (t : Truth) (z keep : ℕ) → IsSound t → IsSound (settled_by_flush t z keep)
settled_by_flush_sound t z keep sound = ⊎_elim
    (λ yes. let zone = sequential_from_test (zone_at t z).kind (is_good (zone_at t z).cond) yes in
    let below = good_zone_below t z zone.1 in
    subst IsSound (sym (is_settled t z keep yes)) (settle_sound t z (clamped (zone_at t z) keep) (clamped (zone_at t z) keep) None sound below zone.0
    (clamped-least (zone_at t z) keep (sound.zones z below).durable) (clamped-most (zone_at t z) keep)))
    (λ no. subst IsSound (sym (not_settled t z keep no)) sound)
    (cases_Bool (is_sequential (zone_at t z).kind && is_good (zone_at t z).cond))

pub settled_by_flush-geometry : (t : Truth) (z keep : ℕ) → geometry (settled_by_flush t z keep) ≡ geometry t
settled_by_flush-geometry t z keep = ⊎_elim
    (λ yes. ap geometry (is_settled t z keep yes) ∙ settle-geometry t z (clamped (zone_at t z) keep) (clamped (zone_at t z) keep) None)
    (λ no. ap geometry (not_settled t z keep no))
    (cases_Bool (is_sequential (zone_at t z).kind && is_good (zone_at t z).cond))

-- ---- the first blocks of a write

pub length-part : (k : ℕ) (bytes : List ℕ) → 4096 * (length bytes / 4096) ≡ length bytes → 4096 * (length (take (4096 * k) bytes) / 4096) ≡ length (take (4096 * k) bytes)
length-part k bytes whole = omega (arith, length-take (4096 * k) bytes)

pub part-le : (k : ℕ) (bytes : List ℕ) → length (take (4096 * k) bytes) / 4096 ≤ length bytes / 4096
part-le k bytes = omega (arith, length-take (4096 * k) bytes)

pub length-stored : (fill : Option ℕ) (bytes : List ℕ) → length (stored fill bytes) ≡ length bytes
length-stored None bytes = refl
length-stored (Some byte) bytes = length-replicate (length bytes) byte

-- a part of a write that fits is sound
pub part_sound : (t : Truth) (z at k : ℕ) (fill : Option ℕ) (bytes : List ℕ) → IsSound t → z < length t.zones → 4096 * (length bytes / 4096) ≡ length bytes
    → at + length bytes / 4096 ≤ room t.shape (zone_at t z).kind → IsSound (done t (WriteAt z at (stored fill (take (4096 * k) bytes)))).truth
part_sound t z at k fill bytes sound below whole fits =
    let same = length-stored fill (take (4096 * k) bytes) in
    write_sound t z at (stored fill (take (4096 * k) bytes)) sound below
    (ap (λ n. 4096 * (n / 4096)) same ∙ length-part k bytes whole ∙ sym same)
    (omega (arith, part-le k bytes, ap (λ n. n / 4096) same))

-- ---- a write that a fault or a loss of power cuts short

-- a part of a write, and then the zone durable as a whole
part_settled_sound : (t : Truth) (z at k : ℕ) (fill : Option ℕ) (bytes : List ℕ) → IsSound t → z < length t.zones → (zone_at t z).kind ≡ Sequential → 4096 * (length bytes / 4096) ≡ length bytes
    → at + length bytes / 4096 ≤ room t.shape (zone_at t z).kind
    → let after = (done t (WriteAt z at (stored fill (take (4096 * k) bytes)))).truth in IsSound (with_zone after z (settled (zone_at after z) (zone_at after z).held (zone_at after z).held None))
part_settled_sound t z at k fill bytes sound below kind whole fits =
    let order = WriteAt z at (stored fill (take (4096 * k) bytes)) in
    let after = (done t order).truth in
    let is_sound = part_sound t z at k fill bytes sound below whole fits in
    let same = done-geometry t order in
    let is_below : z < length after.zones = omega (arith, same_count t after same) in
    settle_sound after z (zone_at after z).held (zone_at after z).held None is_sound is_below (same_kind t after z same ∙ kind) (is_sound.zones z is_below).durable (omega arith)

pub cut_write_sound : (t : Truth) (z at : ℕ) (bytes : List ℕ) (loss : LossSpec) → IsSound t → z < length t.zones → (zone_at t z).kind ≡ Sequential → 4096 * (length bytes / 4096) ≡ length bytes
    → at + length bytes / 4096 ≤ room t.shape (zone_at t z).kind → IsSound (cut_write t z at bytes loss)
cut_write_sound t z at bytes loss sound below kind whole fits =
    let cut = unwrap_or (cut_of loss.cuts z) (zone_at t z).durable in
    let before = with_zone t z (settled (zone_at t z) (zone_at t z).durable (clamped (zone_at t z) cut) loss.fill) in
    let is_sound = settle_sound t z (zone_at t z).durable (clamped (zone_at t z) cut) loss.fill sound below kind (clamped-least (zone_at t z) cut (sound.zones z below).durable) (clamped-most (zone_at t z) cut) in
    let same = settle-geometry t z (zone_at t z).durable (clamped (zone_at t z) cut) loss.fill in
    let is_below : z < length before.zones = omega (arith, same_count t before same) in
    let is_kind = same_kind t before z same in
    if_keeps IsSound (nat_lt (zone_at t z).held cut) _ before
    (part_settled_sound before z at (cut - (zone_at t z).held) loss.fill bytes is_sound is_below (is_kind ∙ kind) whole (subst (λ (k : Kind). at + length bytes / 4096 ≤ room t.shape k) (sym is_kind) fits))
    is_sound

pub cut_write-geometry : (t : Truth) (z at : ℕ) (bytes : List ℕ) (loss : LossSpec) → geometry (cut_write t z at bytes loss) ≡ geometry t
cut_write-geometry t z at bytes loss =
    let cut = unwrap_or (cut_of loss.cuts z) (zone_at t z).durable in
    let before = with_zone t z (settled (zone_at t z) (zone_at t z).durable (clamped (zone_at t z) cut) loss.fill) in
    let same = settle-geometry t z (zone_at t z).durable (clamped (zone_at t z) cut) loss.fill in
    let order = WriteAt z at (stored loss.fill (take (4096 * (cut - (zone_at t z).held)) bytes)) in
    let after = (done before order).truth in
    if_keeps (λ u. geometry u ≡ geometry t) (nat_lt (zone_at t z).held cut) _ before
    (settle-geometry after z (zone_at after z).held (zone_at after z).held None ∙ done-geometry before order ∙ same)
    same

-- ---- an order inside which the power goes

write_during_sound : (t : Truth) (z at : ℕ) (bytes : List ℕ) (loss : LossSpec) (kind : Kind) → (zone_at t z).kind ≡ kind → IsSound t → z < length t.zones → 4096 * (length bytes / 4096) ≡ length bytes
    → at + length bytes / 4096 ≤ room t.shape (zone_at t z).kind → IsSound (write_during (is_sequential kind) t z at bytes loss)
write_during_sound t z at bytes loss Sequential kind sound below whole fits = cut_write_sound t z at bytes loss sound below kind whole fits
write_during_sound t z at bytes loss Conventional kind sound below whole fits = write_sound t z at bytes sound below whole fits

write_during-geometry : (t : Truth) (z at : ℕ) (bytes : List ℕ) (loss : LossSpec) (sequential : Bool) → geometry (write_during sequential t z at bytes loss) ≡ geometry t
write_during-geometry t z at bytes loss true = cut_write-geometry t z at bytes loss
write_during-geometry t z at bytes loss false = done-geometry t (WriteAt z at bytes)

pub during_sound : (t : Truth) (order : Order) (carried_out : Bool) (loss : LossSpec) → IsSound t → IsOrderFor (geometry t) order → IsSound (during t order carried_out loss)
unfolding during
during_sound t (WriteAt z at bytes) carried_out loss sound fits =
    write_during_sound t z at bytes loss (zone_at t z).kind refl sound (omega (arith, fits.1.zone, zones-in_geometry t)) fits.0.whole
    (subst (λ (k : Kind). at + length bytes / 4096 ≤ room t.shape k) (kind-in_geometry t z) fits.1.room)
during_sound t (Manage z Reset) carried_out loss sound fits = if_keeps IsSound carried_out (done t (Manage z Reset)).truth t (done_sound t (Manage z Reset) sound fits) sound
during_sound t (Manage z Finish) carried_out loss sound fits = if_keeps IsSound carried_out (done t (Manage z Finish)).truth t (done_sound t (Manage z Finish) sound fits) sound
during_sound t (Manage z Open) carried_out loss sound fits = sound
during_sound t (Manage z Close) carried_out loss sound fits = sound
during_sound t (ReadAt z at n) carried_out loss sound fits = sound
during_sound t FlushAll carried_out loss sound fits = sound
during_sound t (ReportFrom first n) carried_out loss sound fits = sound

pub during-geometry : (t : Truth) (order : Order) (carried_out : Bool) (loss : LossSpec) → geometry (during t order carried_out loss) ≡ geometry t
unfolding during
during-geometry t (WriteAt z at bytes) carried_out loss = write_during-geometry t z at bytes loss (is_sequential (zone_at t z).kind)
during-geometry t (Manage z Reset) carried_out loss = if_keeps (λ u. geometry u ≡ geometry t) carried_out (done t (Manage z Reset)).truth t (done-geometry t (Manage z Reset)) refl
during-geometry t (Manage z Finish) carried_out loss = if_keeps (λ u. geometry u ≡ geometry t) carried_out (done t (Manage z Finish)).truth t (done-geometry t (Manage z Finish)) refl
during-geometry t (Manage z Open) carried_out loss = refl
during-geometry t (Manage z Close) carried_out loss = refl
during-geometry t (ReadAt z at n) carried_out loss = refl
during-geometry t FlushAll carried_out loss = refl
during-geometry t (ReportFrom first n) carried_out loss = refl

-- ---- an order that a fault meets

pub faulted_sound : (t : Truth) (order : Order) (fault : FaultSpec) → IsSound t → IsOrderFor (geometry t) order → IsSound (faulted t order fault).truth
unfolding faulted
faulted_sound t (WriteAt z at bytes) fault sound fits = if_keeps (λ (d : Done). IsSound d.truth) (min (unwrap_or fault.keep 0) (length bytes / 4096) == 0) _ _ sound
    (part_sound t z at (min (unwrap_or fault.keep 0) (length bytes / 4096)) None bytes sound (omega (arith, fits.1.zone, zones-in_geometry t)) fits.0.whole
    (subst (λ (k : Kind). at + length bytes / 4096 ≤ room t.shape k) (kind-in_geometry t z) fits.1.room))
faulted_sound t FlushAll fault sound fits = settled_by_flush_sound t fault.zone.0 (unwrap_or fault.keep 0) sound
faulted_sound t (ReadAt z at n) fault sound fits = sound
faulted_sound t (Manage z op) fault sound fits = sound
faulted_sound t (ReportFrom first n) fault sound fits = sound

pub faulted-geometry : (t : Truth) (order : Order) (fault : FaultSpec) → geometry (faulted t order fault).truth ≡ geometry t
unfolding faulted
faulted-geometry t (WriteAt z at bytes) fault = if_keeps (λ (d : Done). geometry d.truth ≡ geometry t) (min (unwrap_or fault.keep 0) (length bytes / 4096) == 0) _ _ refl
    (done-geometry t (WriteAt z at (take (4096 * min (unwrap_or fault.keep 0) (length bytes / 4096)) bytes)))
faulted-geometry t FlushAll fault = settled_by_flush-geometry t fault.zone.0 (unwrap_or fault.keep 0)
faulted-geometry t (ReadAt z at n) fault = refl
faulted-geometry t (Manage z op) fault = refl
faulted-geometry t (ReportFrom first n) fault = refl

-- ---- an order to a device with power that may go and faults that wait

-- what holds of a truth and of each truth that an order may leave, holds of what becomes of it
pub issue_keeps : (P : Truth → Type 0) (w : World) (order : Order) → P w.truth → P (done w.truth order).truth → ((fault : FaultSpec) → P (faulted w.truth order fault).truth)
    → ((carried_out : Bool) (loss : LossSpec) → P (lost (during w.truth order carried_out loss) loss)) → P (issue w order).world.truth
unfolding issue
issue_keeps P w order rest is_done is_faulted is_lost = if_keeps (λ (o : Outcome). P o.world.truth) w.powered _ _ (by_armed w.armed) rest
  where
    by_fault : (pending rest : List FaultSpec) (armed : Option Armed) (fault : Option FaultSpec) → P (struck w.truth pending rest armed order fault).world.truth
    by_fault pending rest armed None = is_done
    by_fault pending rest armed (Some fault) = is_faulted fault

    by_armed : (armed : Option Armed) → P (issue_armed w order armed).world.truth
    by_armed None = by_fault w.pending _ None (met (command_of order) (zones_of order) w.pending)
    by_armed (Some armed) = if_keeps (λ (o : Outcome). P o.world.truth) (meets (command_of order) (zones_of order) armed.command armed.zone.0) _ _ (is_lost armed.carried_out armed.loss)
        (by_fault w.pending _ (Some armed) (met (command_of order) (zones_of order) w.pending))

pub issue_sound : (w : World) (order : Order) → IsSound w.truth → IsOrderFor (geometry_of w) order → IsSound (issue w order).world.truth
unfolding geometry_of
issue_sound w order sound fits = issue_keeps IsSound w order sound (done_sound w.truth order sound fits) (λ fault. faulted_sound w.truth order fault sound fits)
    (λ carried_out loss. lost_sound (during w.truth order carried_out loss) loss (during_sound w.truth order carried_out loss sound fits))

pub issue-geometry : (w : World) (order : Order) → geometry_of (issue w order).world ≡ geometry_of w
unfolding geometry_of
issue-geometry w order = issue_keeps (λ t. geometry t ≡ geometry w.truth) w order refl (done-geometry w.truth order) (λ fault. faulted-geometry w.truth order fault)
    (λ carried_out loss. lost-geometry (during w.truth order carried_out loss) loss ∙ during-geometry w.truth order carried_out loss)

-- ---- orders one after another

pub first_failure_keeps : (P : World → Type 0) (reply : Reply) (first second : Outcome) → P first.world → P second.world → P (first_failure reply first second).world
first_failure_keeps P (Ok unit) first second one two = two
first_failure_keeps P (Err error) first second one two = one

pub issue_all-geometry : (w : World) (orders : List Order) → geometry_of (issue_all w orders).world ≡ geometry_of w
issue_all-geometry w [] = refl
issue_all-geometry w (order ∷ orders) = first_failure_keeps (λ v. geometry_of v ≡ geometry_of w) (issue w order).reply (issue w order) (issue_all (issue w order).world orders)
    (issue-geometry w order) (issue_all-geometry (issue w order).world orders ∙ issue-geometry w order)

pub issue_all_sound : (w : World) (orders : List Order) → IsSound w.truth → All (IsOrderFor (geometry_of w)) orders → IsSound (issue_all w orders).world.truth
issue_all_sound w [] sound fit = sound
issue_all_sound w (order ∷ orders) sound fit =
    let here = issue_sound w order sound (All-head (IsOrderFor (geometry_of w)) order orders fit) in
    first_failure_keeps (λ v. IsSound v.truth) (issue w order).reply (issue w order) (issue_all (issue w order).world orders) here
    (issue_all_sound (issue w order).world orders here
    (subst (λ (g : Geometry). All (IsOrderFor g) orders) (sym (issue-geometry w order)) (All-tail (IsOrderFor (geometry_of w)) order orders fit)))

pub ruleset Geometries = (issue-geometry, issue_all-geometry)
