-- What a device in memory owes its callers.
use Rattle.std.proofs.Common.{◌≡◌, ℕ, ◌≤◌, true, false, List, [], ◌∷◌, length, map, Ok, Err, refl, sym, ap, ◌∙◌, subst, arith}
use Rattle.std.specs.Prelude.{not}
use Rattle.std.specs.List.{range_with_len}
use Rattle.std.proofs.lemmas.Bool.{false≢true}
use Rattle.std.proofs.Math.ListN.{get_or-map}
use Rattle.zn_truth.specs.declared.DevError.TheVariants.{Broken, Memory}
use Rattle.zn_truth.specs.Truth.{Truth, Geometry, no_zone, kind_at, info_at, geometry, IsSound}
use Rattle.zn_truth.specs.Limits.{IsWithinLimits}
use Rattle.zn_truth.specs.Orders.{Reply, Order, FlushAll, ReportFrom, done}
use Rattle.zn_truth.specs.World.{calm, geometry_of}
use Rattle.zn_truth.specs.Obeying.{IsOrderFor, is_answered}
use Rattle.zn_truth.proofs.Issuing.{done_answers, done_no_fault}
use Rattle.zn_truth.proofs.Sound.{done_sound, done-geometry, calm_obeys}
use Rattle.zn_zone.proofs.Within.{is_within}
use Rattle.zn_zone.specs.Facts.{Facts, zone_facts, facts_at, info_of}
use Rattle.zn_device.specs.declared.store.Store.{Store}
use Rattle.zn_device.specs.States.{Commanded}
use Rattle.zn_device.specs.Memory.{calm_state}
use Rattle.zn_device.specs.Stores.{truth_of, HasStores, IsSoundDevice}
use Rattle.zn_zone.specs.Machine.{Machine, state_at, facts}
use Rattle.zn_device.proofs.Places.{zones_in, kind_in}
use Rattle.zn_device.proofs.Stores.{facts_of-truth_of}

-- what is answered is neither broken nor out of memory
answered_apart : (r e : Reply) → is_answered r ≡ true → is_answered e ≡ false → r ≡ e → ⊥
answered_apart r e is_answer is_none is = false≢true (sym is_none ∙ ap is_answered (sym is) ∙ is_answer)

-- a command to a device that has power and never fails
pub calm_commanded : (t u : Truth) (r : Reply) (order : Order) → r ≡ (done t order).reply → u ≡ (done t order).truth → Commanded order r (calm_state t) (calm_state u)
calm_commanded t u r order reply truth = record {
  obeys = calm_obeys t u r order reply truth;
  caused = record {
    spoilt = ap not (sym (done_answers t order r reply));
    cause = record {
      later = omega arith;
      fault = λ is. absurd (done_no_fault t order r reply is);
      kept = λ ok. refl;
      no_fewer = omega arith;
      broken = λ is. absurd (answered_apart r (Err Broken) (done_answers t order r reply) refl is);
      whole = λ answered. refl;
    };
    memory = λ none is. answered_apart r (Err Memory) (done_answers t order r reply) refl is;
    same = refl;
    keeps = refl;
    powered = λ is. refl;
    still_powered = λ is. refl;
    no_fault = λ answered pending. refl;
  };
  named = λ keeps refused is. answered_apart r (Err Broken) (done_answers t order r reply) refl is;
}

-- a device after an order
pub device_after : (f g : Facts) (stores new : List Store) (order : Order) → IsSoundDevice f stores → IsOrderFor (geometry_of (calm (truth_of f stores))) order → HasStores g new
    → truth_of g new ≡ (done (truth_of f stores) order).truth → IsSoundDevice g new
unfolding geometry_of
device_after f g stores new order sound fits stored is = record {
  stored = stored;
  sound = subst IsSound (sym is) (done_sound (truth_of f stores) order sound.sound fits);
  within = subst (λ (h : Geometry). ∥ IsWithinLimits h ∥₁) (sym (ap geometry is ∙ done-geometry (truth_of f stores) order)) sound.within;
}

-- ---- what it tells

pub zones_told : (m : Machine) (stores : List Store) → IsSoundDevice (facts m) stores → length (geometry_of (calm (truth_of (facts m) stores))).kinds ≡ length m.zones
unfolding geometry_of
zones_told m stores sound = zones_in m stores sound

pub zones_few : (m : Machine) (stores : List Store) → IsSoundDevice (facts m) stores → length m.zones ≤ 4096
zones_few m stores sound = let within = is_within (geometry (truth_of (facts m) stores)) sound.within in omega (arith, within.most, zones_in m stores sound)

pub kind_told : (m : Machine) (stores : List Store) (z : ℕ) → IsSoundDevice (facts m) stores → (state_at m z).kind ≡ kind_at (geometry_of (calm (truth_of (facts m) stores))) z
unfolding geometry_of
kind_told m stores z sound = sym (kind_in m stores z sound)

pub report_reply : (f : Facts) (stores : List Store) (first n : ℕ) → Ok tt ≡ (done (truth_of f stores) (ReportFrom first n)).reply
unfolding done
report_reply f stores first n = refl

pub flush_reply : (f : Facts) (stores : List Store) → Ok tt ≡ (done (truth_of f stores) FlushAll).reply
unfolding done
flush_reply f stores = refl

pub info-truth_of : (f : Facts) (stores : List Store) (z : ℕ) → length stores ≡ length f.zones → info_of (facts_at f z) ≡ info_at (truth_of f stores) z
info-truth_of f stores z count =
    ap (λ g. info_of (facts_at g z)) (sym (facts_of-truth_of f stores count)) ∙ ap info_of (get_or-map zone_facts (truth_of f stores).zones z no_zone)

map_same : {X : Type 0} (f g : ℕ → X) (xs : List ℕ) → ((x : ℕ) → f x ≡ g x) → map f xs ≡ map g xs
map_same f g [] h = refl
map_same f g (x ∷ xs) h = ap (λ y. y ∷ map f xs) (h x) ∙ ap (λ ys. g x ∷ ys) (map_same f g xs h)

pub infos-truth_of : (f : Facts) (stores : List Store) (first n : ℕ) → length stores ≡ length f.zones
    → map (λ z. info_of (facts_at f z)) (range_with_len first n) ≡ map (info_at (truth_of f stores)) (range_with_len first n)
infos-truth_of f stores first n count = map_same _ _ (range_with_len first n) (λ z. info-truth_of f stores z count)
