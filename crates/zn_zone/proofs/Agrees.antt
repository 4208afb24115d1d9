-- The machine and its facts.
use Rattle.std.proofs.Common.{length, ◌≡◌, ◌<◌, ◌≤◌, map, ap, ◌∙◌, arith, Option, Result, sym}
use Rattle.zn_truth.specs.Truth.{Truth, Geometry, geometry, active, explicit}
use Rattle.zn_truth.specs.declared.DevError.{DevError}
use Rattle.zn_truth.specs.Orders.{Order, done_unless, done}
use Rattle.zn_zone.specs.declared.ZoneError.{ZoneError}
use Rattle.std.proofs.lemmas.List.{length-map}
use Rattle.zn_zone.specs.declared.state.State.{State}
use Rattle.zn_zone.specs.Facts.{Facts, facts_of, bare_zone, bare, outline, refusal_by}
use Rattle.zn_zone.specs.Machine.{Machine, refusal_in, facts_in, facts, geometry_in, active_in, IsSoundMachine}
use Rattle.zn_zone.proofs.ByFacts.{map-map, refusal-bare}
use Rattle.zn_zone.proofs.Counts.{active-facts, explicit-facts, explicit_le_open}

pub geometry-facts : (m : Machine) → geometry (bare (facts m)) ≡ geometry_in m
geometry-facts m =
    ap (λ kinds. let g : Geometry = record { shape = m.shape; kinds = kinds } in g)
    (map-map (λ zone. zone.kind) bare_zone (map facts_in m.zones) ∙ map-map (λ zone. (bare_zone zone).kind) facts_in m.zones)

pub active-sound : (m : Machine) → IsSoundMachine m → active (bare (facts m)) ≡ active_in m.zones
active-sound m sound = active-facts m sound.zones

pub explicit-within : (m : Machine) → IsSoundMachine m → 0 < m.shape.max_open → explicit (bare (facts m)) ≤ m.shape.max_open
explicit-within m sound on = omega (arith, sound.opened on, explicit-facts m, explicit_le_open m.zones)

-- ---- answers

pub answers-done : (t : Truth) (order : Order) (m : Machine) (result : Result (Unit {0}) ZoneError) → facts_of t ≡ facts m → refusal_in result ≡ refusal_by (facts m) (outline order)
    → done t order ≡ done_unless (refusal_in result) t order
unfolding done
answers-done t order m result same refused =
    ap (λ (r : Option DevError). done_unless r t order) (refusal-bare t order ∙ ap (λ (f : Facts). refusal_by f (outline order)) same ∙ sym refused)

pub count-geometry : (m n : Machine) → geometry_in m ≡ geometry_in n → length m.zones ≡ length n.zones
count-geometry m n same =
    sym (length-map m.zones (λ (zone : State). zone.kind)) ∙ ap (λ (g : Geometry). length g.kinds) same ∙ length-map n.zones (λ (zone : State). zone.kind)
