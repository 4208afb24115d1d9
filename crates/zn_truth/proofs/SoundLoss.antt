-- A loss of power keeps a truth sound.
use Rattle.std.proofs.Common.{◌≡◌, ℕ, ◌+◌, ◌-◌, ◌*◌, ◌<◌, ◌≤◌, min, Bool, true, false, cond, List, [], ◌∷◌, length, take, drop, replicate, Option, Some, None, refl, sym, ap, ◌∙◌, get_or, arith, map, zero, suc, add-zero}
use Rattle.std.specs.Prelude.{count_by, unwrap_or}
use Rattle.std.proofs.lemmas.List.{length-take, length-drop, length-append, length-replicate}
use Rattle.std.proofs.lemmas.List.Sums.{sum_by-cons}
use Rattle.std.proofs.lemmas.Grind.{common_steps}
use Rattle.std.proofs.lemmas.Bool.Decides.{nat_tests}
use Rattle.zn_truth.specs.declared.Kind.{Kind}
use Rattle.zn_truth.specs.declared.Kind.TheVariants.{Conventional, Sequential}
use Rattle.zn_truth.specs.declared.Shape.{Shape}
use Rattle.zn_truth.specs.declared.LossSpec.{LossSpec}
use Rattle.zn_truth.specs.Truth.{Geometry, geometry, Zone, Truth, zone_at, no_zone, seen, cleared, is_active, active, IsSound, IsSoundZone}
use Rattle.zn_truth.specs.Power.{with_fill, settled, clamped, cut_of, with_filled_blocks, with_fill_unflushed, zone_lost, zones_lost, lost}

-- ---- a fill keeps the length

pub length-with_fill : (fill : Option ℕ) (from : ℕ) (bytes : List ℕ) → length (with_fill fill from bytes) ≡ length bytes
length-with_fill None from bytes = refl
length-with_fill (Some byte) from bytes =
    length-append (take (4096 * from) bytes) (replicate (length bytes - 4096 * from) byte)
    ∙ omega (arith, length-take (4096 * from) bytes, length-replicate (length bytes - 4096 * from) byte)

length-filled_block : (flag : Bool) (byte : ℕ) (bytes : List ℕ) → length (cond flag (replicate (min 4096 (length bytes)) byte) (take 4096 bytes)) ≡ min 4096 (length bytes)
length-filled_block true byte bytes = length-replicate (min 4096 (length bytes)) byte
length-filled_block false byte bytes = length-take 4096 bytes

pub length-with_filled_blocks : (byte : ℕ) (flags : List Bool) (bytes : List ℕ) → length (with_filled_blocks byte flags bytes) ≡ length bytes
length-with_filled_blocks byte [] bytes = refl
length-with_filled_blocks byte (flag ∷ flags) bytes =
    length-append (cond flag (replicate (min 4096 (length bytes)) byte) (take 4096 bytes)) (with_filled_blocks byte flags (drop 4096 bytes))
    ∙ omega (arith, length-filled_block flag byte bytes, length-with_filled_blocks byte flags (drop 4096 bytes), length-drop 4096 bytes)

pub length-with_fill_unflushed : (fill : Option ℕ) (flags : List Bool) (bytes : List ℕ) → length (with_fill_unflushed fill flags bytes) ≡ length bytes
length-with_fill_unflushed None flags bytes = refl
length-with_fill_unflushed (Some byte) flags bytes = length-with_filled_blocks byte flags bytes

-- ---- a zone after the power went

-- a length is clamped between what is durable and what is held
pub clamped-least : (zone : Zone) (len : ℕ) → zone.durable ≤ zone.held → zone.durable ≤ clamped zone len
clamped-least zone len h = omega arith

pub clamped-most : (zone : Zone) (len : ℕ) → clamped zone len ≤ zone.held
clamped-most zone len = omega arith

-- a sequential zone that is cut to a length at which no durable block is lost
pub settled_sound : (told : Bool) (shape : Shape) (zone : Zone) (from len : ℕ) (fill : Option ℕ) → IsSoundZone told shape zone → zone.kind ≡ Sequential → zone.durable ≤ len → len ≤ zone.held
    → IsSoundZone told shape (seen told (settled zone from len fill))
settled_sound told shape zone from len fill sound kind least most =
    let filled = length-with_fill fill from (take (4096 * len) zone.bytes) in
    let cut = length-take (4096 * len) zone.bytes in
    grind (arith, nat_tests, common_steps)

-- it is active only if it was
pub settled_active : (told : Bool) (shape : Shape) (zone : Zone) (from len : ℕ) (fill : Option ℕ) → IsSoundZone told shape zone → zone.kind ≡ Sequential → zone.durable ≤ len → len ≤ zone.held
    → is_active shape (settled zone from len fill) ≡ true → is_active shape zone ≡ true
settled_active told shape zone from len fill sound kind least most is =
    let full = sound.full in
    grind (arith, nat_tests)

-- a sequential zone is sound after the power went
lost_sequential : (told : Bool) (shape : Shape) (zone : Zone) (len : ℕ) (fill : Option ℕ) → IsSoundZone told shape zone → zone.kind ≡ Sequential
    → IsSoundZone told shape (seen told (record (settled zone zone.durable (clamped zone len) fill) { explicit = false }))
lost_sequential told shape zone len fill sound kind =
    let cut = settled_sound told shape zone zone.durable (clamped zone len) fill sound kind (clamped-least zone len sound.durable) (clamped-most zone len) in
    grind (arith, nat_tests, common_steps)

-- a conventional zone is sound after the power went
lost_conventional : (told : Bool) (shape : Shape) (zone : Zone) (fill : Option ℕ) → IsSoundZone told shape zone → zone.kind ≡ Conventional
    → IsSoundZone told shape (seen told (record zone { bytes = with_fill_unflushed fill zone.unflushed zone.bytes; unflushed = cleared zone.unflushed; explicit = false }))
lost_conventional told shape zone fill sound kind =
    let filled = length-with_fill_unflushed fill zone.unflushed zone.bytes in
    grind (arith, nat_tests, common_steps)

pub zone_lost_sound : (told : Bool) (shape : Shape) (kind : Kind) (zone : Zone) (z : ℕ) (loss : LossSpec) → zone.kind ≡ kind → IsSoundZone told shape zone
    → IsSoundZone told shape (seen told (zone_lost kind zone z loss))
zone_lost_sound told shape Sequential zone z loss kind sound = lost_sequential told shape zone (unwrap_or (cut_of loss.cuts z) zone.durable) loss.fill sound kind
zone_lost_sound told shape Conventional zone z loss kind sound = lost_conventional told shape zone loss.fill sound kind

-- and active only if it was
pub zone_lost_active : (told : Bool) (shape : Shape) (kind : Kind) (zone : Zone) (z : ℕ) (loss : LossSpec) → zone.kind ≡ kind → IsSoundZone told shape zone
    → is_active shape (zone_lost kind zone z loss) ≡ true → is_active shape zone ≡ true
zone_lost_active told shape Sequential zone z loss kind sound is =
    settled_active told shape zone zone.durable (clamped zone (unwrap_or (cut_of loss.cuts z) zone.durable)) loss.fill sound kind (clamped-least zone _ sound.durable) (clamped-most zone _) (grind (arith, nat_tests))
zone_lost_active told shape Conventional zone z loss kind sound is = absurd (grind (arith, nat_tests))

pub zone_lost_closed : (kind : Kind) (zone : Zone) (z : ℕ) (loss : LossSpec) → (zone_lost kind zone z loss).explicit ≡ false
zone_lost_closed Sequential zone z loss = refl
zone_lost_closed Conventional zone z loss = refl

pub zone_lost-kind : (kind : Kind) (zone : Zone) (z : ℕ) (loss : LossSpec) → (zone_lost kind zone z loss).kind ≡ zone.kind
zone_lost-kind Sequential zone z loss = refl
zone_lost-kind Conventional zone z loss = refl

-- ---- all zones after the power went

pub length-zones_lost : (told : Bool) (z : ℕ) (zones : List Zone) (loss : LossSpec) → length (zones_lost told z zones loss) ≡ length zones
length-zones_lost told z [] loss = refl
length-zones_lost told z (zone ∷ zones) loss = ap (λ n. suc n) (length-zones_lost told (z + 1) zones loss)

pub get_or-zones_lost : (told : Bool) (z : ℕ) (zones : List Zone) (loss : LossSpec) (k : ℕ) → k < length zones
    → get_or (zones_lost told z zones loss) k no_zone ≡ seen told (zone_lost (get_or zones k no_zone).kind (get_or zones k no_zone) (z + k) loss)
get_or-zones_lost told z [] loss k below = absurd (omega arith)
get_or-zones_lost told z (zone ∷ zones) loss zero below = ap (λ n. seen told (zone_lost zone.kind zone n loss)) (sym (add-zero z))
get_or-zones_lost told z (zone ∷ zones) loss (suc k) below =
    get_or-zones_lost told (z + 1) zones loss k (omega arith)
    ∙ ap (λ n. seen told (zone_lost (get_or zones k no_zone).kind (get_or zones k no_zone) n loss)) (omega arith)

pub zones_lost-kinds : (told : Bool) (z : ℕ) (zones : List Zone) (loss : LossSpec) → map (λ (zone : Zone). zone.kind) (zones_lost told z zones loss) ≡ map (λ (zone : Zone). zone.kind) zones
zones_lost-kinds told z [] loss = refl
zones_lost-kinds told z (zone ∷ zones) loss =
    ap (λ kind. kind ∷ map (λ (zone : Zone). zone.kind) (zones_lost told (z + 1) zones loss)) (zone_lost-kind zone.kind zone z loss)
    ∙ ap (λ kinds. zone.kind ∷ kinds) (zones_lost-kinds told (z + 1) zones loss)

-- a count over a list each of whose elements counts only if another's does
pub count_by-le : {X : Type 0} (p : X → Bool) (d : X) (xs ys : List X) → length ys ≡ length xs → ((k : ℕ) → k < length xs → p (get_or ys k d) ≡ true → p (get_or xs k d) ≡ true) → count_by p ys ≤ count_by p xs
count_by-le p d [] [] same h = omega arith
count_by-le p d [] (y ∷ ys) same h = absurd (omega arith)
count_by-le p d (x ∷ xs) [] same h = absurd (omega arith)
count_by-le p d (x ∷ xs) (y ∷ ys) same h =
    let rest = count_by-le p d xs ys (omega arith) (λ k below. h (suc k) (omega arith)) in
    let here = one_le (p x) (p y) (h 0 (omega arith)) in
    omega (arith, sum_by-cons (λ v. cond (p v) 1 0) x xs, sum_by-cons (λ v. cond (p v) 1 0) y ys)
  where
    one_le : (a b : Bool) → (b ≡ true → a ≡ true) → cond b 1 0 ≤ cond a 1 0
    one_le a false h = omega arith
    one_le true true h = omega arith
    one_le false true h = absurd (cc (h refl))

pub count_by-none : {X : Type 0} (p : X → Bool) (d : X) (xs : List X) → ((k : ℕ) → k < length xs → p (get_or xs k d) ≡ false) → count_by p xs ≡ 0
count_by-none p d [] h = refl
count_by-none p d (x ∷ xs) h =
    sum_by-cons (λ v. cond (p v) 1 0) x xs
    ∙ ap (λ b. cond b 1 0 + count_by p xs) (h 0 (omega arith))
    ∙ omega (arith, count_by-none p d xs (λ k below. h (suc k) (omega arith)))

-- what a loss leaves of a sound truth is sound
pub lost_sound : (t : Truth) (loss : LossSpec) → IsSound t → IsSound (lost t loss)
unfolding lost
lost_sound t loss sound =
    let same = length-zones_lost t.told 0 t.zones loss in
    record {
      zones = λ k below. let b : k < length t.zones = omega (arith, same) in
          rw (get_or-zones_lost t.told 0 t.zones loss k b) (zone_lost_sound t.told t.shape (zone_at t k).kind (zone_at t k) (0 + k) loss refl (sound.zones k b));
      active = λ on. let fewer = count_by-le (is_active t.shape) no_zone t.zones (zones_lost t.told 0 t.zones loss) same (λ k b is.
          zone_lost_active t.told t.shape (zone_at t k).kind (zone_at t k) (0 + k) loss refl (sound.zones k b) (ap (is_active t.shape) (sym (get_or-zones_lost t.told 0 t.zones loss k b)) ∙ is)) in
          let before : active t ≤ t.shape.max_active = sound.active on in omega arith;
      explicit = λ on. let none = count_by-none (λ (zone : Zone). zone.explicit) no_zone (zones_lost t.told 0 t.zones loss) (λ k below.
          let b : k < length t.zones = omega (arith, same) in
          ap (λ (zone : Zone). zone.explicit) (get_or-zones_lost t.told 0 t.zones loss k b) ∙ zone_lost_closed (zone_at t k).kind (zone_at t k) (0 + k) loss) in
          omega (arith, none);
    }

pub lost-geometry : (t : Truth) (loss : LossSpec) → geometry (lost t loss) ≡ geometry t
unfolding lost
lost-geometry t loss = ap (λ (kinds : List Kind). let g : Geometry = record { shape = t.shape; kinds = kinds } in g) (zones_lost-kinds t.told 0 t.zones loss)
