-- The machine refuses what its facts do.
use Rattle.std.proofs.Common.{◌≡◌, ℕ, ◌<◌, Bool, true, false, not, List, length, map, Option, Some, None, Result, refl, sym, ap, ◌∙◌, subst, arith, zero-add}
use Rattle.std.specs.Prelude.{◌&&◌, ◌==◌, nat_lt, IsTrue, if◌then◌else◌}
use Rattle.std.proofs.Math.ListN.{get_or-map}
use Rattle.std.proofs.lemmas.Bool.{false≢true}
use Rattle.std.proofs.lemmas.Bool.Decides.{nat_tests}
use Rattle.zn_truth.specs.declared.Kind.{Kind}
use Rattle.zn_truth.specs.declared.Kind.TheVariants.{Conventional, Sequential}
use Rattle.zn_truth.specs.declared.Cond.{Cond}
use Rattle.zn_truth.specs.declared.Cond.TheVariants.{Good, ReadOnly as read_only, Offline as offline}
use Rattle.zn_truth.specs.declared.Shape.{Shape}
use Rattle.zn_truth.specs.declared.ZoneOp.{ZoneOp}
use Rattle.zn_truth.specs.declared.ZoneOp.TheVariants.{Open as do_open, Close as do_close, Reset as do_reset, Finish as do_finish}
use Rattle.zn_truth.specs.declared.DevError.{DevError}
use Rattle.zn_truth.specs.declared.DevError.TheVariants.{BeyondWp as dev_beyond_wp, TooManyActive as dev_too_many_active, TooManyOpen as dev_too_many_open, Unaligned as dev_unaligned}
use Rattle.zn_truth.specs.Truth.{Zone, zone_at, active, is_reached, explicit}
use Rattle.zn_truth.specs.Orders.{ReadAt, Manage, changing as truth_changing, reading as truth_reading, opening, writing, managing}
use Rattle.zn_zone.specs.declared.ZoneError.{ZoneError}
use Rattle.zn_zone.specs.declared.ZoneError.TheVariants.{BeyondWp, Unaligned, TooManyOpen}
use Rattle.zn_zone.specs.declared.Raw.{Raw}
use Rattle.zn_zone.specs.declared.Raw.TheVariants.{NotWp, Empty, ImplicitOpen, ExplicitOpen, Closed, Full, ReadOnly, Offline}
use Rattle.zn_zone.specs.declared.table.Step.TheVariants.{Write, Open, Close, Reset, Finish}
use Rattle.zn_zone.specs.declared.state.State.{State}
use Rattle.zn_zone.specs.Facts.{bare_zone, bare, write_of, refusal_by}
use Rattle.zn_zone.specs.Table.{is_implicit, is_explicit, cond_of, needs}
use Rattle.zn_zone.specs.Machine.{Machine, no_state, state_at, facts_in, facts, active_in, no_open_place, no_places, unless, refusal_in, changing, appending, reading, write_refusal, manage_refusal, read_refusal, step_of, fits, IsSoundMachine}
use Rattle.zn_zone.proofs.Counts.{active-facts, explicit_in, explicit-facts, no_open_place-explicit, not_reached-implicit}

-- the zone that the facts tell of
pub zone_at-facts : (m : Machine) (z : ℕ) → zone_at (bare (facts m)) z ≡ bare_zone (facts_in (state_at m z))
zone_at-facts m z = get_or-map bare_zone (map facts_in m.zones) z (facts_in no_state) ∙ ap bare_zone (get_or-map facts_in m.zones z no_state)

-- what refuses to open a zone, by the counts
opening_by : Shape → Raw → ℕ → ℕ → ℕ → Option DevError
opening_by shape raw held active explicit =
    if is_explicit raw then None
    else if (held == 0) && is_reached shape.max_active active then Some dev_too_many_active
    else if not (held == shape.zone_capacity) && is_reached shape.max_open explicit then Some dev_too_many_open
    else None

opening_raw : (shape : Shape) (zones : List State) (raw : Raw) (held explicit : ℕ) → IsTrue (fits shape Sequential raw held) → cond_of raw ≡ Good → 0 < shape.zone_capacity
    → no_open_place shape zones ≡ (if is_reached shape.max_open explicit then Some TooManyOpen else None) → (is_implicit raw ≡ true → is_reached shape.max_open explicit ≡ false)
    → refusal_in (unless (no_places shape zones (needs raw Open))) ≡ opening_by shape raw held (active_in zones) explicit
unfolding opening_by
opening_raw shape zones NotWp held explicit fit good some place free = absurd (false≢true fit)
opening_raw shape zones Empty held explicit fit good some place free = rw place (grind (arith, nat_tests))
opening_raw shape zones ImplicitOpen held explicit fit good some place free = let f = free refl in grind (arith, nat_tests)
opening_raw shape zones ExplicitOpen held explicit fit good some place free = refl
opening_raw shape zones Closed held explicit fit good some place free = rw place (grind (arith, nat_tests))
opening_raw shape zones Full held explicit fit good some place free = grind (arith, nat_tests)
opening_raw shape zones ReadOnly held explicit fit good some place free = cc
opening_raw shape zones Offline held explicit fit good some place free = cc

-- a zone is opened or not as its facts say
opening-facts : (m : Machine) (z : ℕ) → IsSoundMachine m → z < length m.zones → (state_at m z).kind ≡ Sequential → cond_of (state_at m z).raw ≡ Good
    → refusal_in (unless (no_places m.shape m.zones (needs (state_at m z).raw Open))) ≡ opening (bare (facts m)) (bare_zone (facts_in (state_at m z)))
unfolding opening_by
opening-facts m z sound below kind good =
    opening_raw m.shape m.zones (state_at m z).raw (state_at m z).held (explicit_in m.zones)
    (subst (λ (k : Kind). IsTrue (fits m.shape k (state_at m z).raw (state_at m z).held)) kind (sound.zones z below))
    good
    sound.capacity
    (no_open_place-explicit m.shape m.zones sound.opened)
    (λ h. not_reached-implicit m.shape m.zones z sound.opened below h)
    ∙ ap (λ n. opening_by m.shape (state_at m z).raw (state_at m z).held n (explicit_in m.zones)) (sym (active-facts m sound.zones))
    ∙ ap (λ n. opening_by m.shape (state_at m z).raw (state_at m z).held (active (bare (facts m))) n) (sym (explicit-facts m))

needs-write : (raw : Raw) → needs raw (Write false) ≡ needs raw Open
needs-write NotWp = refl
needs-write Empty = refl
needs-write ImplicitOpen = refl
needs-write ExplicitOpen = refl
needs-write Closed = refl
needs-write Full = refl
needs-write ReadOnly = refl
needs-write Offline = refl

-- what needs no place is not refused
closing-needs : (shape : Shape) (zones : List State) (raw : Raw) (written : Bool) → no_places shape zones (needs raw (Close written)) ≡ None
closing-needs shape zones NotWp written = refl
closing-needs shape zones Empty written = refl
closing-needs shape zones ImplicitOpen written = refl
closing-needs shape zones ExplicitOpen written = refl
closing-needs shape zones Closed written = refl
closing-needs shape zones Full written = refl
closing-needs shape zones ReadOnly written = refl
closing-needs shape zones Offline written = refl

reset-needs : (shape : Shape) (zones : List State) (raw : Raw) → no_places shape zones (needs raw Reset) ≡ None
reset-needs shape zones NotWp = refl
reset-needs shape zones Empty = refl
reset-needs shape zones ImplicitOpen = refl
reset-needs shape zones ExplicitOpen = refl
reset-needs shape zones Closed = refl
reset-needs shape zones Full = refl
reset-needs shape zones ReadOnly = refl
reset-needs shape zones Offline = refl

finish-needs : (shape : Shape) (zones : List State) (raw : Raw) → no_places shape zones (needs raw Finish) ≡ None
finish-needs shape zones NotWp = refl
finish-needs shape zones Empty = refl
finish-needs shape zones ImplicitOpen = refl
finish-needs shape zones ExplicitOpen = refl
finish-needs shape zones Closed = refl
finish-needs shape zones Full = refl
finish-needs shape zones ReadOnly = refl
finish-needs shape zones Offline = refl

changing-same : (c : Cond) (mine : Option ZoneError) (theirs : Option DevError) → (c ≡ Good → refusal_in (unless mine) ≡ theirs) → refusal_in (unless (changing c mine)) ≡ truth_changing c theirs
changing-same Good mine theirs h = h refl
changing-same read_only mine theirs h = refl
changing-same offline mine theirs h = refl

managing-same : (op : ZoneOp) (m : Machine) (z : ℕ) → IsSoundMachine m → z < length m.zones → (state_at m z).kind ≡ Sequential → cond_of (state_at m z).raw ≡ Good
    → refusal_in (unless (no_places m.shape m.zones (needs (state_at m z).raw (step_of op (state_at m z).held)))) ≡ managing op (bare (facts m)) (bare_zone (facts_in (state_at m z)))
managing-same do_open m z sound below kind good = opening-facts m z sound below kind good
managing-same do_close m z sound below kind good = ap (λ (r : Option ZoneError). refusal_in (unless r)) (closing-needs m.shape m.zones (state_at m z).raw (nat_lt 0 (state_at m z).held))
managing-same do_reset m z sound below kind good = ap (λ (r : Option ZoneError). refusal_in (unless r)) (reset-needs m.shape m.zones (state_at m z).raw)
managing-same do_finish m z sound below kind good = ap (λ (r : Option ZoneError). refusal_in (unless r)) (finish-needs m.shape m.zones (state_at m z).raw)

-- a command that manages a zone is refused as the facts say
pub manage_refused : (m : Machine) (z : ℕ) (op : ZoneOp) → IsSoundMachine m → z < length m.zones → (state_at m z).kind ≡ Sequential
    → refusal_in (unless (manage_refusal m z op)) ≡ refusal_by (facts m) (Manage z op)
unfolding refusal_by
manage_refused m z op sound below kind =
    changing-same (cond_of (state_at m z).raw) _ _ (λ good. managing-same op m z sound below kind good)
    ∙ ap (λ (zone : Zone). truth_changing zone.cond (managing op (bare (facts m)) zone)) (sym (zone_at-facts m z))

appending-same : (kind : Kind) (m : Machine) (z at : ℕ) → (kind ≡ Sequential → refusal_in (unless (no_places m.shape m.zones (needs (state_at m z).raw Open))) ≡ opening (bare (facts m)) (bare_zone (facts_in (state_at m z))))
    → refusal_in (unless (appending kind m.shape m.zones z at)) ≡ writing kind (bare (facts m)) (bare_zone (facts_in (state_at m z))) at
appending-same Conventional m z at h = refl
appending-same Sequential m z at h = by_place ((state_at m z).held == at) (h refl)
  where
    by_place : (b : Bool) → refusal_in (unless (no_places m.shape m.zones (needs (state_at m z).raw Open))) ≡ opening (bare (facts m)) (bare_zone (facts_in (state_at m z)))
        → refusal_in (unless (if b then no_places m.shape m.zones (needs (state_at m z).raw (Write false)) else Some Unaligned)) ≡ (if b then opening (bare (facts m)) (bare_zone (facts_in (state_at m z))) else Some dev_unaligned)
    by_place true k = rw (needs-write (state_at m z).raw) k
    by_place false k = refl

-- a write is refused as the facts say
pub write_refused : (m : Machine) (z at blocks : ℕ) → IsSoundMachine m → z < length m.zones → refusal_in (unless (write_refusal m z at)) ≡ refusal_by (facts m) (write_of z at blocks)
unfolding refusal_by
write_refused m z at blocks sound below =
    changing-same (cond_of (state_at m z).raw) _ _ (λ good. appending-same (state_at m z).kind m z at (λ kind. opening-facts m z sound below kind good))
    ∙ ap (λ (zone : Zone). truth_changing zone.cond (writing zone.kind (bare (facts m)) zone at)) (sym (zone_at-facts m z))

reading-same : (c : Cond) (beyond : Bool) → refusal_in (unless (reading c (if beyond then Some BeyondWp else None))) ≡ truth_reading c (if beyond then Some dev_beyond_wp else None)
reading-same Good true = refl
reading-same Good false = refl
reading-same read_only true = refl
reading-same read_only false = refl
reading-same offline beyond = refl

-- a read is refused as the facts say
pub read_refused : (m : Machine) (z end : ℕ) → refusal_in (unless (read_refusal m z end)) ≡ refusal_by (facts m) (ReadAt z 0 end)
unfolding refusal_by
read_refused m z end =
    reading-same (cond_of (state_at m z).raw) (nat_lt (state_at m z).held end)
    ∙ ap (λ (zone : Zone). truth_reading zone.cond (if nat_lt zone.held end then Some dev_beyond_wp else None)) (sym (zone_at-facts m z))
    ∙ ap (λ n. truth_reading (zone_at (bare (facts m)) z).cond (if nat_lt (zone_at (bare (facts m)) z).held n then Some dev_beyond_wp else None)) (sym (zero-add end))

pub read_answered : (m seen : Machine) (z end : ℕ) (result : Result (Unit {0}) ZoneError) → result ≡ unless (read_refusal m z end) → m ≡ seen → refusal_in result ≡ refusal_by (facts seen) (ReadAt z 0 end)
read_answered m seen z end result is same = ap refusal_in is ∙ read_refused m z end ∙ ap (λ (n : Machine). refusal_by (facts n) (ReadAt z 0 end)) same
