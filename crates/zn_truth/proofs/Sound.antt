-- What keeps a truth sound.
use Rattle.std.proofs.Common.{◌≡◌, ℕ, ◌+◌, ◌*◌, ◌/◌, ◌<◌, ◌≤◌, ◌⊎◌, inl, Bool, true, cond, List, [], ◌∷◌, length, map, Option, Some, None, refl, sym, ap, ◌∙◌, subst, get_or, arith, set, ⊎_elim}
use Rattle.std.specs.Prelude.{count_by}
use Rattle.std.proofs.lemmas.List.{length-map, get_or-map, length-set, get_or-set_same, get_or-set_other}
use Rattle.std.proofs.lemmas.List.Sums.{sum_by-set, sum_by-cons}
use Rattle.std.proofs.Math.Seq.{map-set_same}
use Rattle.zn_truth.specs.World.{World, geometry_of, calm}
use Rattle.zn_truth.specs.Obeying.{IsWhole, Fits, IsOrderFor, Obeys}
use Rattle.zn_truth.proofs.Issuing.{kind-in_geometry, zones-in_geometry, read-truth, report-truth, calm_reply, calm_world}
use Rattle.std.proofs.lemmas.Grind.{common_steps}
use Rattle.std.proofs.lemmas.Bool.Decides.{nat_tests}
use Rattle.std.proofs.lemmas.Bool.{cases_Bool, cases_eq, false≢true}
use Rattle.zn_truth.specs.declared.Kind.{Kind}
use Rattle.zn_truth.specs.declared.Kind.TheVariants.{Conventional, Sequential}
use Rattle.zn_truth.specs.declared.Cond.{Cond}
use Rattle.zn_truth.specs.declared.Cond.TheVariants.{Good, ReadOnly, Offline}
use Rattle.zn_truth.specs.declared.ZoneOp.{ZoneOp}
use Rattle.zn_truth.specs.declared.ZoneOp.TheVariants.{Open, Close, Reset, Finish}
use Rattle.zn_truth.specs.declared.DevError.{DevError}
use Rattle.zn_truth.specs.declared.Shape.{Shape}
use Rattle.zn_truth.specs.Truth.{Geometry, geometry, room, Zone, Truth, zone_at, no_zone, with_zone, seen, is_active, active, explicit, IsSound, IsSoundZone, is_good}
use Rattle.zn_truth.specs.Orders.{Reply, Order, ReadAt, ReportFrom, WriteAt, Manage, FlushAll, written, managed, flushed, changing, managing, writing, opening, refusal, effect, done, done_unless}

-- a count that one element changes, where the new one counts only if the old one did
count_kept : {X : Type 0} (p : X → Bool) (xs : List X) (i : ℕ) (y d : X) → i < length xs → (p y ≡ true → p (get_or xs i d) ≡ true) → count_by p (set xs i y) ≤ count_by p xs
count_kept p xs i y d h keeps = grind (arith, sum_by-set (λ x. cond (p x) 1 0) xs i y d h)

-- and otherwise it rises by one at most
count_rises : {X : Type 0} (p : X → Bool) (xs : List X) (i : ℕ) (y d : X) → i < length xs → count_by p (set xs i y) ≤ count_by p xs + 1
count_rises p xs i y d h = grind (arith, sum_by-set (λ x. cond (p x) 1 0) xs i y d h)

-- a limit that is kept
limit_kept : {X : Type 0} (p : X → Bool) (xs : List X) (i : ℕ) (y d : X) (limit : ℕ) → i < length xs → (0 < limit → count_by p xs ≤ limit)
    → (p y ≡ true → (p (get_or xs i d) ≡ true) ⊎ (0 < limit → count_by p xs < limit)) → 0 < limit → count_by p (set xs i y) ≤ limit
limit_kept p xs i y d limit h before why on =
    ⊎_elim (λ yes. ⊎_elim
    (λ was. let k : count_by p (set xs i y) ≤ count_by p xs = count_kept p xs i y d h (λ u. was) in let b : count_by p xs ≤ limit = before on in omega arith)
    (λ free. let k : count_by p (set xs i y) ≤ count_by p xs + 1 = count_rises p xs i y d h in let b : count_by p xs < limit = free on in omega arith)
    (why yes))
    (λ no. let k : count_by p (set xs i y) ≤ count_by p xs = count_kept p xs i y d h (λ u. absurd (false≢true (sym no ∙ u))) in let b : count_by p xs ≤ limit = before on in omega arith)
    (cases_Bool (p y))

-- a zone that is sound in place of one, which is active or explicitly open only if that was or there is room
pub with_zone_sound : (t : Truth) (z : ℕ) (new : Zone) → IsSound t → z < length t.zones → IsSoundZone t.told t.shape (seen t.told new)
    → (is_active t.shape new ≡ true → (is_active t.shape (zone_at t z) ≡ true) ⊎ (0 < t.shape.max_active → active t < t.shape.max_active))
    → (new.explicit ≡ true → ((zone_at t z).explicit ≡ true) ⊎ (0 < t.shape.max_open → explicit t < t.shape.max_open))
    → IsSound (with_zone t z new)
with_zone_sound t z new sound h zone act exp = record {
  zones = λ k below. ⊎_elim
      (λ same. subst (λ v. IsSoundZone t.told t.shape (get_or (set t.zones z (seen t.told new)) v no_zone)) (sym same) (rw (get_or-set_same t.zones z (seen t.told new) no_zone h) zone))
      (λ other. rw (get_or-set_other t.zones z k (seen t.told new) no_zone other) (sound.zones k (rw (length-set {A = Zone}) at below)))
      (cases_eq k z);
  active = limit_kept (is_active t.shape) t.zones z (seen t.told new) no_zone t.shape.max_active h sound.active act;
  explicit = limit_kept (λ zone. zone.explicit) t.zones z (seen t.told new) no_zone t.shape.max_open h sound.explicit exp;
}

-- a zone after a write at its end
pub appended_sound : (told : Bool) (shape : Shape) (zone : Zone) (at : ℕ) (new : List ℕ) → IsSoundZone told shape zone → zone.kind ≡ Sequential → is_good zone.cond ≡ true
    → 4096 * (length new / 4096) ≡ length new → zone.held + length new / 4096 ≤ shape.zone_capacity → IsSoundZone told shape (seen told (written Sequential shape zone at new))
appended_sound told shape zone at new sound kind good whole room = grind (arith, nat_tests, common_steps)

-- a zone after a write anywhere
pub replaced_sound : (told : Bool) (shape : Shape) (zone : Zone) (at : ℕ) (new : List ℕ) → IsSoundZone told shape zone → zone.kind ≡ Conventional → is_good zone.cond ≡ true
    → 4096 * (length new / 4096) ≡ length new → at + length new / 4096 ≤ shape.zone_blocks → IsSoundZone told shape (seen told (written Conventional shape zone at new))
replaced_sound told shape zone at new sound kind good whole room = grind (arith, nat_tests, common_steps)

-- a zone after each order to manage it
pub open_sound : (told : Bool) (shape : Shape) (zone : Zone) → IsSoundZone told shape zone → zone.kind ≡ Sequential → is_good zone.cond ≡ true → IsSoundZone told shape (seen told (managed Open shape zone))
open_sound told shape zone sound kind good = grind (arith, nat_tests, common_steps)

pub close_sound : (told : Bool) (shape : Shape) (zone : Zone) → IsSoundZone told shape zone → zone.kind ≡ Sequential → is_good zone.cond ≡ true → IsSoundZone told shape (seen told (managed Close shape zone))
close_sound told shape zone sound kind good = grind (arith, nat_tests, common_steps)

pub reset_sound : (told : Bool) (shape : Shape) (zone : Zone) → IsSoundZone told shape zone → zone.kind ≡ Sequential → is_good zone.cond ≡ true → IsSoundZone told shape (seen told (managed Reset shape zone))
reset_sound told shape zone sound kind good = grind (arith, nat_tests, common_steps)

pub finish_sound : (told : Bool) (shape : Shape) (zone : Zone) → IsSoundZone told shape zone → zone.kind ≡ Sequential → is_good zone.cond ≡ true → IsSoundZone told shape (seen told (managed Finish shape zone))
finish_sound told shape zone sound kind good = grind (arith, nat_tests, common_steps)

-- a zone after a flush
pub flushed_sound : (told : Bool) (shape : Shape) (zone : Zone) → IsSoundZone told shape zone → IsSoundZone told shape (flushed zone)
flushed_sound told shape zone sound = grind (arith, nat_tests, common_steps)

-- ---- whole commands

unless_refused : (t : Truth) (order : Order) (r : Option DevError) → IsSound t → (r ≡ None → IsSound (effect t order)) → IsSound (done_unless r t order).truth
unless_refused t order None sound h = h refl
unless_refused t order (Some error) sound h = sound

changing_none : (cond : Cond) (next : Option DevError) → changing cond next ≡ None → (is_good cond ≡ true) × (next ≡ None)
changing_none Good next h = (refl, h)
changing_none ReadOnly next h = absurd (cc)
changing_none Offline next h = absurd (cc)

writing_none : (t : Truth) (zone : Zone) (at : ℕ) → writing Sequential t zone at ≡ None → (zone.held ≡ at) × (opening t zone ≡ None)
writing_none t zone at h = grind (arith, nat_tests)

opening_active : (t : Truth) (zone : Zone) → opening t zone ≡ None → (zone.explicit ≡ true) ⊎ ((0 < zone.held) ⊎ (0 < t.shape.max_active → active t < t.shape.max_active))
opening_active t zone h = grind (arith, nat_tests)

-- an active zone is one after an accepted write only if it was or there is room
active_why : (t : Truth) (zone : Zone) (at : ℕ) (new : List ℕ) → zone.kind ≡ Sequential → is_good zone.cond ≡ true → opening t zone ≡ None
    → is_active t.shape (written Sequential t.shape zone at new) ≡ true → (is_active t.shape zone ≡ true) ⊎ (0 < t.shape.max_active → active t < t.shape.max_active)
active_why t zone at new kind good h is = grind (arith, nat_tests, opening_active)

pub write_sound_at : (t : Truth) (z at : ℕ) (bytes : List ℕ) (kind : Kind) → (zone_at t z).kind ≡ kind → IsSound t → z < length t.zones → 4096 * (length bytes / 4096) ≡ length bytes
    → at + length bytes / 4096 ≤ room t.shape kind → is_good (zone_at t z).cond ≡ true → writing kind t (zone_at t z) at ≡ None → IsSound (with_zone t z (written kind t.shape (zone_at t z) at bytes))
write_sound_at t z at bytes Sequential kind sound h whole fits good none = with_zone_sound t z _ sound h
    (appended_sound t.told t.shape (zone_at t z) at bytes (sound.zones z h) kind good whole (omega (arith, (writing_none t (zone_at t z) at none).0)))
    (active_why t (zone_at t z) at bytes kind good (writing_none t (zone_at t z) at none).1)
    (λ yes. inl (grind (arith, nat_tests)))
write_sound_at t z at bytes Conventional kind sound h whole fits good none = with_zone_sound t z _ sound h
    (replaced_sound t.told t.shape (zone_at t z) at bytes (sound.zones z h) kind good whole fits)
    inl
    inl

pub write_sound : (t : Truth) (z at : ℕ) (bytes : List ℕ) → IsSound t → z < length t.zones → 4096 * (length bytes / 4096) ≡ length bytes
    → at + length bytes / 4096 ≤ room t.shape (zone_at t z).kind → IsSound (done t (WriteAt z at bytes)).truth
unfolding done
write_sound t z at bytes sound h whole fits = unless_refused t (WriteAt z at bytes) (refusal t (WriteAt z at bytes)) sound (λ none.
    let c = changing_none (zone_at t z).cond _ none in
    write_sound_at t z at bytes (zone_at t z).kind refl sound h whole fits c.0 c.1)

-- a zone opened is explicitly open only if it was or there is room
open_why : (t : Truth) (zone : Zone) → opening t zone ≡ None → (managed Open t.shape zone).explicit ≡ true → (zone.explicit ≡ true) ⊎ (0 < t.shape.max_open → explicit t < t.shape.max_open)
open_why t zone none is = grind (arith, nat_tests)

open_active_why : (t : Truth) (zone : Zone) → IsSoundZone t.told t.shape zone → zone.kind ≡ Sequential → is_good zone.cond ≡ true → opening t zone ≡ None
    → is_active t.shape (managed Open t.shape zone) ≡ true → (is_active t.shape zone ≡ true) ⊎ (0 < t.shape.max_active → active t < t.shape.max_active)
open_active_why t zone sound kind good none is = grind (arith, nat_tests, opening_active)

managed_sound_at : (t : Truth) (z : ℕ) (op : ZoneOp) → IsSound t → z < length t.zones → (zone_at t z).kind ≡ Sequential → is_good (zone_at t z).cond ≡ true → managing op t (zone_at t z) ≡ None
    → IsSound (with_zone t z (managed op t.shape (zone_at t z)))
managed_sound_at t z Open sound h kind good none = with_zone_sound t z _ sound h (open_sound t.told t.shape (zone_at t z) (sound.zones z h) kind good)
    (open_active_why t (zone_at t z) (sound.zones z h) kind good none) (open_why t (zone_at t z) none)
managed_sound_at t z Close sound h kind good none = with_zone_sound t z _ sound h (close_sound t.told t.shape (zone_at t z) (sound.zones z h) kind good) (λ yes. inl (grind (arith, nat_tests))) (λ yes. grind (arith, nat_tests))
managed_sound_at t z Reset sound h kind good none = with_zone_sound t z _ sound h (reset_sound t.told t.shape (zone_at t z) (sound.zones z h) kind good) (λ yes. grind (arith, nat_tests)) (λ yes. grind (arith, nat_tests))
managed_sound_at t z Finish sound h kind good none = with_zone_sound t z _ sound h (finish_sound t.told t.shape (zone_at t z) (sound.zones z h) kind good) (λ yes. grind (arith, nat_tests)) (λ yes. grind (arith, nat_tests))

pub manage_sound : (t : Truth) (z : ℕ) (op : ZoneOp) → IsSound t → z < length t.zones → (zone_at t z).kind ≡ Sequential → IsSound (done t (Manage z op)).truth
unfolding done
manage_sound t z op sound h kind = unless_refused t (Manage z op) (refusal t (Manage z op)) sound (λ none.
    let c = changing_none (zone_at t z).cond _ none in
    managed_sound_at t z op sound h kind c.0 c.1)

-- a flush changes no count
flush_zones : (t : Truth) (zones : List Zone) → (k : ℕ) → k < length zones → get_or (map flushed zones) k no_zone ≡ flushed (get_or zones k no_zone)
flush_zones t zones k below = get_or-map flushed zones k no_zone no_zone below

-- a count over a mapped list
pub count_by-map : {X Y : Type 0} (p : Y → Bool) (f : X → Y) (xs : List X) → count_by p (map f xs) ≡ count_by (λ x. p (f x)) xs
count_by-map p f [] = refl
count_by-map p f (x ∷ xs) = sum_by-cons (λ y. cond (p y) 1 0) (f x) (map f xs) ∙ ap (λ n. cond (p (f x)) 1 0 + n) (count_by-map p f xs) ∙ sym (sum_by-cons (λ y. cond (p (f y)) 1 0) x xs)

pub flush_sound : (t : Truth) → IsSound t → IsSound (done t FlushAll).truth
unfolding done
flush_sound t sound = record {
  zones = λ k below. let b : k < length t.zones = rw (length-map t.zones flushed) at below in rw (flush_zones t t.zones k b) (flushed_sound t.told t.shape (zone_at t k) (sound.zones k b));
  active = λ on. rw (count_by-map (is_active t.shape) flushed t.zones) (sound.active on);
  explicit = λ on. rw (count_by-map (λ zone. zone.explicit) flushed t.zones) (sound.explicit on);
}

-- ---- no command changes the geometry

written-kind : (k : Kind) (shape : Shape) (zone : Zone) (at : ℕ) (new : List ℕ) → (written k shape zone at new).kind ≡ zone.kind
written-kind Conventional shape zone at new = refl
written-kind Sequential shape zone at new = refl

managed-kind : (op : ZoneOp) (shape : Shape) (zone : Zone) → (managed op shape zone).kind ≡ zone.kind
managed-kind Open shape zone = refl
managed-kind Close shape zone = refl
managed-kind Reset shape zone = refl
managed-kind Finish shape zone = refl

flushed-kinds : (zones : List Zone) → map (λ (zone : Zone). zone.kind) (map flushed zones) ≡ map (λ (zone : Zone). zone.kind) zones
flushed-kinds [] = refl
flushed-kinds (zone ∷ zones) = ap (λ kinds. zone.kind ∷ kinds) (flushed-kinds zones)

pub with_zone-geometry : (t : Truth) (z : ℕ) (zone : Zone) → zone.kind ≡ (zone_at t z).kind → geometry (with_zone t z zone) ≡ geometry t
with_zone-geometry t z zone h = ap (λ (kinds : List Kind). let g : Geometry = record { shape = t.shape; kinds = kinds } in g) (map-set_same (λ (zone : Zone). zone.kind) t.zones z (seen t.told zone) no_zone h)

effect-geometry : (t : Truth) (order : Order) → geometry (effect t order) ≡ geometry t
effect-geometry t (ReadAt z at n) = refl
effect-geometry t (WriteAt z at bytes) = with_zone-geometry t z _ (written-kind (zone_at t z).kind t.shape (zone_at t z) at bytes)
effect-geometry t (Manage z op) = with_zone-geometry t z _ (managed-kind op t.shape (zone_at t z))
effect-geometry t FlushAll = ap (λ (kinds : List Kind). let g : Geometry = record { shape = t.shape; kinds = kinds } in g) (flushed-kinds t.zones)
effect-geometry t (ReportFrom first n) = refl

unless-geometry : (t : Truth) (order : Order) (r : Option DevError) → geometry (done_unless r t order).truth ≡ geometry t
unless-geometry t order None = effect-geometry t order
unless-geometry t order (Some error) = refl

pub done-geometry : (t : Truth) (order : Order) → geometry (done t order).truth ≡ geometry t
unfolding done
done-geometry t order = unless-geometry t order (refusal t order)

-- what a calm device becomes keeps its geometry
pub same_geometry : (t u : Truth) (order : Order) → u ≡ (done t order).truth → geometry_of (calm u) ≡ geometry_of (calm t)
unfolding geometry_of
same_geometry t u order h = ap geometry h ∙ done-geometry t order

-- ---- an order that the device takes

pub done_sound : (t : Truth) (order : Order) → IsSound t → IsOrderFor (geometry t) order → IsSound (done t order).truth
done_sound t (ReadAt z at n) sound fits = subst IsSound (sym (read-truth t z at n)) sound
done_sound t (WriteAt z at bytes) sound fits = write_sound t z at bytes sound (omega (arith, fits.1.zone, zones-in_geometry t)) fits.0.whole
    (subst (λ (k : Kind). at + length bytes / 4096 ≤ room t.shape k) (kind-in_geometry t z) fits.1.room)
done_sound t (Manage z op) sound fits = manage_sound t z op sound (omega (arith, fits.zone, zones-in_geometry t)) (sym (kind-in_geometry t z) ∙ fits.kind)
done_sound t FlushAll sound fits = flush_sound t sound
done_sound t (ReportFrom first n) sound fits = subst IsSound (sym (report-truth t first n)) sound

pub write_keeps : (w : World) (z at : ℕ) (bytes : List ℕ) → IsSound w.truth → IsWhole bytes → Fits (geometry_of w) z at (length bytes / 4096) → IsSound (done w.truth (WriteAt z at bytes)).truth
unfolding geometry_of
write_keeps w z at bytes sound whole fits = done_sound w.truth (WriteAt z at bytes) sound (whole, fits)

-- a calm device that does what it is told owes no more
pub calm_obeys : (t u : Truth) (r : Reply) (order : Order) → r ≡ (done t order).reply → u ≡ (done t order).truth → Obeys order r (calm t) (calm u)
calm_obeys t u r order reply truth = record {
  reply = λ h. calm_reply t r order reply;
  world = λ h. calm_world t u order truth;
  geometry = same_geometry t u order truth;
}
