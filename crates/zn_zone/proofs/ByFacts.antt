-- Refusals and effects of a truth depend on its facts alone.
use Rattle.std.proofs.Common.{◌≡◌, ℕ, ◌+◌, ◌*◌, ◌/◌, false, List, [], ◌∷◌, length, map, set, replicate, Option, Some, None, refl, sym, ap, ◌∙◌, zero-add, lit<}
use Rattle.std.proofs.Math.ListN.{get_or-map}
use Rattle.std.proofs.Math.Nat.{mul-div_cancel_left}
use Rattle.std.proofs.lemmas.List.{map-set, length-replicate}
use Rattle.zn_truth.specs.declared.Kind.{Kind}
use Rattle.zn_truth.specs.declared.Kind.TheVariants.{Conventional, Sequential}
use Rattle.zn_truth.specs.declared.Shape.{Shape}
use Rattle.zn_truth.specs.declared.ZoneOp.{ZoneOp}
use Rattle.zn_truth.specs.declared.ZoneOp.TheVariants.{Open, Close, Reset, Finish}
use Rattle.zn_truth.specs.declared.DevError.{DevError}
use Rattle.zn_truth.specs.Truth.{Zone, Truth, no_zone, zone_at, with_zone, seen, is_active, active, explicit}
use Rattle.zn_truth.specs.Orders.{Order, ReadAt, WriteAt, Manage, FlushAll, ReportFrom, opening, writing, managing, refusal, written, managed, flushed, effect, done_unless, done}
use Rattle.zn_truth.proofs.Sound.{count_by-map}
use Rattle.zn_zone.specs.Facts.{Facts, zone_facts, facts_of, bare_zone, bare, with_facts, outline, refusal_by, after}

-- ---- lists

pub map-same : {X : Type 0} (f : X → X) (xs : List X) → ((x : X) → f x ≡ x) → map f xs ≡ xs
map-same f [] h = refl
map-same f (x ∷ xs) h = ap (λ y. y ∷ map f xs) (h x) ∙ ap (λ ys. x ∷ ys) (map-same f xs h)

pub map-map : {X Y Z : Type 0} (g : Y → Z) (f : X → Y) (xs : List X) → map g (map f xs) ≡ map (λ x. g (f x)) xs
map-map g f [] = refl
map-map g f (x ∷ xs) = ap (λ ys. g (f x) ∷ ys) (map-map g f xs)

-- ---- a truth that tells no more than facts

-- it has these facts
pub facts_of-bare : (f : Facts) → facts_of (bare f) ≡ f
facts_of-bare f = ap (λ zones. let g : Facts = record { shape = f.shape; zones = zones } in g) (map-map zone_facts bare_zone f.zones ∙ map-same (λ zone. zone_facts (bare_zone zone)) f.zones (λ zone. refl))

pub zone_at-bare : (t : Truth) (z : ℕ) → zone_at (bare (facts_of t)) z ≡ bare_zone (zone_facts (zone_at t z))
zone_at-bare t z = get_or-map bare_zone (map zone_facts t.zones) z (zone_facts no_zone) ∙ ap bare_zone (get_or-map zone_facts t.zones z no_zone)

pub active-bare : (t : Truth) → active (bare (facts_of t)) ≡ active t
active-bare t = count_by-map (is_active t.shape) bare_zone (map zone_facts t.zones) ∙ count_by-map (λ zone. is_active t.shape (bare_zone zone)) zone_facts t.zones

pub explicit-bare : (t : Truth) → explicit (bare (facts_of t)) ≡ explicit t
explicit-bare t = count_by-map (λ zone. zone.explicit) bare_zone (map zone_facts t.zones) ∙ count_by-map (λ zone. zone.explicit) zone_facts t.zones

-- ---- refusals

opening-bare : (t : Truth) (zone : Zone) → opening (bare (facts_of t)) (bare_zone (zone_facts zone)) ≡ opening t zone
opening-bare t zone = rw (active-bare t, explicit-bare t) refl

writing-bare : (kind : Kind) (t : Truth) (zone : Zone) (at : ℕ) → writing kind (bare (facts_of t)) (bare_zone (zone_facts zone)) at ≡ writing kind t zone at
writing-bare Conventional t zone at = refl
writing-bare Sequential t zone at = rw (opening-bare t zone) refl

managing-bare : (op : ZoneOp) (t : Truth) (zone : Zone) → managing op (bare (facts_of t)) (bare_zone (zone_facts zone)) ≡ managing op t zone
managing-bare Open t zone = opening-bare t zone
managing-bare Close t zone = refl
managing-bare Reset t zone = refl
managing-bare Finish t zone = refl

pub refusal-bare : (t : Truth) (order : Order) → refusal t order ≡ refusal_by (facts_of t) (outline order)
unfolding refusal_by
refusal-bare t (ReadAt z at n) = rw (zone_at-bare t z, zero-add (at + n)) refl
refusal-bare t (WriteAt z at bytes) = rw (zone_at-bare t z, writing-bare (zone_at t z).kind t (zone_at t z) at) refl
refusal-bare t (Manage z op) = rw (zone_at-bare t z, managing-bare op t (zone_at t z)) refl
refusal-bare t FlushAll = refl
refusal-bare t (ReportFrom first n) = refl

-- ---- effects

pub blocks-zeros : (n : ℕ) → length {A = ℕ} (replicate (4096 * n) 0) / 4096 ≡ n
blocks-zeros n = ap (λ m. m / 4096) (length-replicate (4096 * n) 0) ∙ mul-div_cancel_left n (lit< tt)

-- what is put in place of a zone changes its facts alone
pub facts_of-with_zone : (t u : Truth) (z : ℕ) (new other : Zone) → facts_of u ≡ facts_of t → zone_facts other ≡ zone_facts new → facts_of (with_zone t z new) ≡ facts_of (with_zone u z other)
facts_of-with_zone t u z new other same by =
    ap (λ zones. let f : Facts = record { shape = t.shape; zones = zones } in f) (map-set zone_facts t.zones z (seen t.told new))
    ∙ ap (λ zone. let f : Facts = record { shape = t.shape; zones = set (map zone_facts t.zones) z zone } in f) (sym by)
    ∙ ap (λ (f : Facts). let g : Facts = record { shape = f.shape; zones = set f.zones z (zone_facts other) } in g) (sym same)
    ∙ sym (ap (λ zones. let f : Facts = record { shape = u.shape; zones = zones } in f) (map-set zone_facts u.zones z (seen u.told other)))

written-bare : (kind : Kind) (shape : Shape) (zone : Zone) (at : ℕ) (bytes : List ℕ)
    → zone_facts (written kind shape (bare_zone (zone_facts zone)) at (replicate (4096 * (length bytes / 4096)) 0)) ≡ zone_facts (written kind shape zone at bytes)
written-bare Conventional shape zone at bytes = refl
written-bare Sequential shape zone at bytes = rw (blocks-zeros (length bytes / 4096)) refl

managed-bare : (op : ZoneOp) (shape : Shape) (zone : Zone) → zone_facts (managed op shape (bare_zone (zone_facts zone))) ≡ zone_facts (managed op shape zone)
managed-bare Open shape zone = refl
managed-bare Close shape zone = refl
managed-bare Reset shape zone = refl
managed-bare Finish shape zone = refl

map-flushed : (zones : List Zone) → map zone_facts (map flushed zones) ≡ map zone_facts zones
map-flushed zones = map-map zone_facts flushed zones

zeros : List ℕ → List ℕ
zeros bytes = replicate (4096 * (length bytes / 4096)) 0

effect-bare : (t : Truth) (order : Order) → facts_of (effect t order) ≡ facts_of (effect (bare (facts_of t)) (outline order))
unfolding zeros
effect-bare t (ReadAt z at n) = sym (facts_of-bare (facts_of t))
effect-bare t (WriteAt z at bytes) =
    facts_of-with_zone t (bare (facts_of t)) z
    (written (zone_at t z).kind t.shape (zone_at t z) at bytes)
    (written (zone_at (bare (facts_of t)) z).kind t.shape (zone_at (bare (facts_of t)) z) at (zeros bytes))
    (facts_of-bare (facts_of t))
    (ap (λ (zone : Zone). zone_facts (written zone.kind t.shape zone at (zeros bytes))) (zone_at-bare t z) ∙ written-bare (zone_at t z).kind t.shape (zone_at t z) at bytes)
effect-bare t (Manage z op) =
    facts_of-with_zone t (bare (facts_of t)) z
    (managed op t.shape (zone_at t z))
    (managed op t.shape (zone_at (bare (facts_of t)) z))
    (facts_of-bare (facts_of t))
    (ap (λ (zone : Zone). zone_facts (managed op t.shape zone)) (zone_at-bare t z) ∙ managed-bare op t.shape (zone_at t z))
effect-bare t FlushAll =
    ap (λ zones. let f : Facts = record { shape = t.shape; zones = zones } in f)
    (map-flushed t.zones ∙ sym (map-flushed (map bare_zone (map zone_facts t.zones)) ∙ ap (λ (f : Facts). f.zones) (facts_of-bare (facts_of t))))
effect-bare t (ReportFrom first n) = sym (facts_of-bare (facts_of t))

unless-bare : (r : Option DevError) (t : Truth) (order : Order) → facts_of (done_unless r t order).truth ≡ facts_of (done_unless r (bare (facts_of t)) (outline order)).truth
unless-bare None t order = effect-bare t order
unless-bare (Some error) t order = sym (facts_of-bare (facts_of t))

pub after-bare : (t : Truth) (order : Order) → facts_of (done t order).truth ≡ after (facts_of t) (outline order)
unfolding refusal_by after done
after-bare t order =
    unless-bare (refusal t order) t order
    ∙ ap (λ (r : Option DevError). facts_of (done_unless r (bare (facts_of t)) (outline order)).truth) (refusal-bare t order)

-- ---- what an order makes of the facts

pub facts_of-with_zone_bare : (f : Facts) (z : ℕ) (new : Zone) → facts_of (with_zone (bare f) z new) ≡ with_facts f z (zone_facts new)
facts_of-with_zone_bare f z new =
    ap (λ zones. let g : Facts = record { shape = f.shape; zones = zones } in g) (map-set zone_facts (map bare_zone f.zones) z (seen false new))
    ∙ ap (λ (g : Facts). with_facts g z (zone_facts new)) (facts_of-bare f)

pub after-none : (f : Facts) (order : Order) → refusal_by f order ≡ None → after f order ≡ facts_of (effect (bare f) order)
unfolding refusal_by after done
after-none f order none = ap (λ (r : Option DevError). facts_of (done_unless r (bare f) order).truth) none

pub after-some : (f : Facts) (order : Order) (error : DevError) → refusal_by f order ≡ Some error → after f order ≡ f
unfolding refusal_by after done
after-some f order error some = ap (λ (r : Option DevError). facts_of (done_unless r (bare f) order).truth) some ∙ facts_of-bare f
