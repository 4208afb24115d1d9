-- A device to which nothing was written.
use Rattle.std.proofs.Common.{◌≡◌, ℕ, ◌<◌, ◌≤◌, true, false, List, [], ◌∷◌, ◌++◌, length, map, get_or, refl, sym, ap, ◌∙◌, subst, arith, ⊎_elim}
use Rattle.std.specs.List.{zip}
use Rattle.std.proofs.Math.ListN.{get_or-map as map_get_or}
use Rattle.std.proofs.lemmas.Bool.{cases_lt}
use Rattle.std.proofs.lemmas.Bool.Decides.{nat_tests}
use Rattle.std.proofs.lemmas.Grind.{merely, common_steps}
use Rattle.std.proofs.lemmas.List.{length-map, ext_get_or, get_or-map, get_or_append_left, get_or_push, length_push}
use Rattle.zn_truth.specs.declared.Kind.{Kind}
use Rattle.zn_truth.specs.declared.Kind.TheVariants.{Conventional, Sequential}
use Rattle.zn_truth.specs.declared.Shape.{Shape}
use Rattle.zn_truth.specs.declared.ZoneInfo.{ZoneInfo}
use Rattle.zn_truth.specs.Truth.{Zone, Truth, Geometry, no_zone, zone_at, is_active, active, explicit, geometry, IsSoundZone, IsSound}
use Rattle.zn_truth.specs.Limits.{IsWithinLimits}
use Rattle.zn_truth.proofs.SoundLoss.{count_by-none}
use Rattle.zn_zone.specs.Facts.{ZoneFacts, Facts, zone_facts, facts_of, facts_at, info_of, reported_zone, reported, IsStartZone, IsStart}
use Rattle.zn_zone.proofs.ByFacts.{active-bare}
use Rattle.zn_device.specs.declared.store.Store.{Store}
use Rattle.zn_truth.specs.Fresh.{fresh_zone}
use Rattle.zn_device.specs.Fresh.{fresh}
use Rattle.zn_device.specs.Stores.{zone_of, info_in, zones_of, truth_of, Keeps, HasBuffer, HasStores, AreFresh, IsSoundDevice}
use Rattle.zn_device.proofs.Stores.{length-zones_of, get_or-zones_of}

-- ---- the truth

fresh-kind : (shape : Shape) (kind : Kind) → (fresh_zone shape kind).kind ≡ kind
fresh-kind shape Conventional = refl
fresh-kind shape Sequential = refl

fresh_zone_sound : (shape : Shape) (kind : Kind) → 2 ≤ shape.zone_capacity → IsSoundZone true shape (fresh_zone shape kind)
fresh_zone_sound shape Conventional some = grind (arith, nat_tests, common_steps)
fresh_zone_sound shape Sequential some = grind (arith, nat_tests, common_steps)

fresh_inactive : (shape : Shape) (kind : Kind) → is_active shape (fresh_zone shape kind) ≡ false
fresh_inactive shape Conventional = refl
fresh_inactive shape Sequential = refl

fresh_closed : (shape : Shape) (kind : Kind) → (fresh_zone shape kind).explicit ≡ false
fresh_closed shape Conventional = refl
fresh_closed shape Sequential = refl

fresh-at : (shape : Shape) (kinds : List Kind) (z : ℕ) → z < length kinds → zone_at (fresh shape kinds) z ≡ fresh_zone shape (get_or kinds z Sequential)
fresh-at shape kinds z below = get_or-map (fresh_zone shape) kinds z Sequential no_zone below

fresh_active : (shape : Shape) (kinds : List Kind) → active (fresh shape kinds) ≡ 0
fresh_active shape kinds = count_by-none (is_active shape) no_zone (map (fresh_zone shape) kinds) (λ z below.
    ap (is_active shape) (fresh-at shape kinds z (omega (arith, below, length-map kinds (fresh_zone shape)))) ∙ fresh_inactive shape (get_or kinds z Sequential))

fresh_explicit : (shape : Shape) (kinds : List Kind) → explicit (fresh shape kinds) ≡ 0
fresh_explicit shape kinds = count_by-none (λ (zone : Zone). zone.explicit) no_zone (map (fresh_zone shape) kinds) (λ z below.
    ap (λ (zone : Zone). zone.explicit) (fresh-at shape kinds z (omega (arith, below, length-map kinds (fresh_zone shape)))) ∙ fresh_closed shape (get_or kinds z Sequential))

pub fresh_sound : (shape : Shape) (kinds : List Kind) → 2 ≤ shape.zone_capacity → IsSound (fresh shape kinds)
fresh_sound shape kinds some = record {
  zones = λ z below. subst (IsSoundZone true shape) (sym (fresh-at shape kinds z (omega (arith, below, length-map kinds (fresh_zone shape))))) (fresh_zone_sound shape (get_or kinds z Sequential) some);
  active = λ on. omega (arith, fresh_active shape kinds);
  explicit = λ on. omega (arith, fresh_explicit shape kinds);
}

fresh-kinds : (shape : Shape) (kinds : List Kind) → map (λ (zone : Zone). zone.kind) (map (fresh_zone shape) kinds) ≡ kinds
fresh-kinds shape [] = refl
fresh-kinds shape (kind ∷ kinds) = ap (λ k. k ∷ map (λ (zone : Zone). zone.kind) (map (fresh_zone shape) kinds)) (fresh-kind shape kind) ∙ ap (λ ks. kind ∷ ks) (fresh-kinds shape kinds)

pub geometry-fresh : (shape : Shape) (kinds : List Kind) → geometry (fresh shape kinds) ≡ record { shape = shape; kinds = kinds }
geometry-fresh shape kinds = ap (λ ks. let g : Geometry = record { shape = shape; kinds = ks } in g) (fresh-kinds shape kinds)

-- ---- the stores

pub are_fresh_none : (shape : Shape) (kinds : List Kind) (stores : List Store) → length kinds ≡ 0 → length stores ≡ 0 → AreFresh shape kinds stores
are_fresh_none shape kinds stores no_kinds no_stores = record {
  count = no_stores ∙ sym no_kinds;
  kept = λ z other below. absurd (omega arith);
  buffers = λ z other below. absurd (omega arith);
}

pub are_fresh_more : (shape : Shape) (kinds : List Kind) (stores : List Store) (kind : Kind) (store : Store) → AreFresh shape kinds stores → Keeps store (fresh_zone shape kind) → HasBuffer shape kind store
    → AreFresh shape (kinds ++ kind ∷ []) (stores ++ store ∷ [])
are_fresh_more shape kinds stores kind store fresh keeps buffer = record {
  count = omega (arith, fresh.count, length_push stores store, length_push kinds kind);
  kept = λ z other below. ⊎_elim
      (λ inside. rw (get_or_append_left stores (store ∷ []) other z inside, get_or_append_left kinds (kind ∷ []) Sequential z (omega (arith, fresh.count))) (fresh.kept z other inside))
      (λ past. rw (get_or_push stores store other z (omega (arith, below, length_push stores store)), get_or_push kinds kind Sequential z (omega (arith, below, fresh.count, length_push stores store))) keeps)
      (cases_lt z (length stores));
  buffers = λ z other below. ⊎_elim
      (λ inside. rw (get_or_append_left stores (store ∷ []) other z inside, get_or_append_left kinds (kind ∷ []) Sequential z (omega (arith, fresh.count))) (fresh.buffers z other inside))
      (λ past. rw (get_or_push stores store other z (omega (arith, below, length_push stores store)), get_or_push kinds kind Sequential z (omega (arith, below, fresh.count, length_push stores store))) buffer)
      (cases_lt z (length stores));
}

-- each zone, with its store
fresh_zone_at : (shape : Shape) (kinds : List Kind) (stores : List Store) (other : Store) → AreFresh shape kinds stores → (z : ℕ) → z < length kinds
    → get_or (zones_of (map zone_facts (map (fresh_zone shape) kinds)) stores) z no_zone ≡ get_or (map (fresh_zone shape) kinds) z no_zone
fresh_zone_at shape kinds stores other are z below =
    let zones = map (fresh_zone shape) kinds in
    let there : get_or zones z no_zone ≡ fresh_zone shape (get_or kinds z Sequential) = fresh-at shape kinds z below in
    get_or-zones_of (map zone_facts zones) stores z (zone_facts no_zone) other no_zone
    (omega (arith, are.count, length-map zones zone_facts, length-map kinds (fresh_zone shape))) (omega (arith, length-map zones zone_facts, length-map kinds (fresh_zone shape)))
    ∙ ap (λ (f : ZoneFacts). zone_of f.kind (info_of f) (get_or stores z other)) (map_get_or zone_facts zones z no_zone)
    ∙ ap (λ (zone : Zone). zone_of zone.kind (info_in zone) (get_or stores z other)) there
    ∙ are.kept z other (omega (arith, are.count)) ∙ sym there

fresh_zones_with : (shape : Shape) (kinds : List Kind) (stores : List Store) (other : Store) → AreFresh shape kinds stores → zones_of (map zone_facts (map (fresh_zone shape) kinds)) stores ≡ map (fresh_zone shape) kinds
fresh_zones_with shape kinds stores other are =
    let zones = map (fresh_zone shape) kinds in
    let long : length (zones_of (map zone_facts zones) stores) ≡ length zones =
    length-zones_of (map zone_facts zones) stores (omega (arith, are.count, length-map zones zone_facts, length-map kinds (fresh_zone shape))) ∙ length-map zones zone_facts in
    ext_get_or no_zone (zones_of (map zone_facts zones) stores) zones long
    (λ z below. fresh_zone_at shape kinds stores other are z (omega (arith, long, length-map kinds (fresh_zone shape))))

fresh_zones : (shape : Shape) (kinds : List Kind) (stores : List Store) → AreFresh shape kinds stores → zones_of (map zone_facts (map (fresh_zone shape) kinds)) stores ≡ map (fresh_zone shape) kinds
fresh_zones shape [] stores are = refl
fresh_zones shape (kind ∷ kinds) [] are = let count = are.count in absurd (omega arith)
fresh_zones shape (kind ∷ kinds) (store ∷ stores) are = fresh_zones_with shape (kind ∷ kinds) (store ∷ stores) store are

-- ---- the facts

fresh_reported : (shape : Shape) (kind : Kind) → reported_zone (kind, info_in (fresh_zone shape kind)) ≡ zone_facts (fresh_zone shape kind)
fresh_reported shape Conventional = refl
fresh_reported shape Sequential = refl

fresh_facts_in : (shape : Shape) (kinds : List Kind) → map reported_zone (zip kinds (map (λ kind. info_in (fresh_zone shape kind)) kinds)) ≡ map zone_facts (map (fresh_zone shape) kinds)
fresh_facts_in shape [] = refl
fresh_facts_in shape (kind ∷ kinds) =
    ap (λ zone. zone ∷ map reported_zone (zip kinds (map (λ k. info_in (fresh_zone shape k)) kinds))) (fresh_reported shape kind)
    ∙ ap (λ zones. zone_facts (fresh_zone shape kind) ∷ zones) (fresh_facts_in shape kinds)

pub fresh_facts : (shape : Shape) (kinds : List Kind) (infos : List ZoneInfo) → infos ≡ map (λ kind. info_in (fresh_zone shape kind)) kinds → reported shape kinds infos ≡ facts_of (fresh shape kinds)
fresh_facts shape kinds infos is =
    ap (reported shape kinds) is ∙ ap (λ zones. let f : Facts = record { shape = shape; zones = zones } in f) (fresh_facts_in shape kinds)

fresh_start_zone : (shape : Shape) (kind : Kind) → IsStartZone shape (zone_facts (fresh_zone shape kind))
fresh_start_zone shape Conventional = grind (arith, nat_tests)
fresh_start_zone shape Sequential = grind (arith, nat_tests)

pub fresh_start : (shape : Shape) (kinds : List Kind) (infos : List ZoneInfo) → infos ≡ map (λ kind. info_in (fresh_zone shape kind)) kinds → IsStart (reported shape kinds infos)
fresh_start shape kinds infos is = subst IsStart (sym (fresh_facts shape kinds infos is)) (record {
  zones = λ z below.
      let inside : z < length kinds = omega (arith, below, length-map (map (fresh_zone shape) kinds) zone_facts, length-map kinds (fresh_zone shape)) in
      subst (IsStartZone shape) (sym (map_get_or zone_facts (map (fresh_zone shape) kinds) z no_zone ∙ ap zone_facts (fresh-at shape kinds z inside))) (fresh_start_zone shape (get_or kinds z Sequential));
  active = λ on. omega (arith, active-bare (fresh shape kinds), fresh_active shape kinds);
})

-- ---- the device

pub fresh_truth : (f : Facts) (shape : Shape) (kinds : List Kind) (stores : List Store) → f ≡ facts_of (fresh shape kinds) → AreFresh shape kinds stores → truth_of f stores ≡ fresh shape kinds
fresh_truth f shape kinds stores is are =
    ap (λ g. truth_of g stores) is ∙ ap (λ zones. let t : Truth = record { told = true; shape = shape; zones = zones } in t) (fresh_zones shape kinds stores are)

fresh_stored : (shape : Shape) (kinds : List Kind) (stores : List Store) → AreFresh shape kinds stores → HasStores (facts_of (fresh shape kinds)) stores
fresh_stored shape kinds stores are = record {
  count = omega (arith, are.count, length-map (map (fresh_zone shape) kinds) zone_facts, length-map kinds (fresh_zone shape));
  buffers = λ z other below.
      let kind : (facts_at (facts_of (fresh shape kinds)) z).kind ≡ get_or kinds z Sequential =
      ap (λ (zone : ZoneFacts). zone.kind) (map_get_or zone_facts (map (fresh_zone shape) kinds) z no_zone) ∙ ap (λ (zone : Zone). zone.kind) (fresh-at shape kinds z (omega (arith, are.count)))
      ∙ fresh-kind shape (get_or kinds z Sequential) in
      subst (λ k. HasBuffer shape k (get_or stores z other)) (sym kind) (are.buffers z other below);
}

pub fresh_device : (f : Facts) (shape : Shape) (kinds : List Kind) (stores : List Store) → IsWithinLimits (record { shape = shape; kinds = kinds }) → f ≡ facts_of (fresh shape kinds) → AreFresh shape kinds stores
    → IsSoundDevice f stores
fresh_device f shape kinds stores within is are =
    let truth : truth_of f stores ≡ fresh shape kinds = fresh_truth f shape kinds stores is are in
    record {
      stored = subst (λ g. HasStores g stores) (sym is) (fresh_stored shape kinds stores are);
      sound = subst IsSound (sym truth) (fresh_sound shape kinds within.capacity);
      within = merely (subst IsWithinLimits (sym (ap geometry truth ∙ geometry-fresh shape kinds)) within);
    }
