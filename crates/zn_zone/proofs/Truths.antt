-- A truth by its facts and its stores.
use Rattle.std.proofs.Common.{Some, None, ◌≡◌, ℕ, Bool, List, [], ◌∷◌, length, map, set, Option, refl, sym, ap, ◌∙◌}
use Rattle.std.specs.List.{zip}
use Rattle.std.proofs.lemmas.List.{map-set}
use Rattle.std.proofs.lemmas.Slice.Zip.{firsts-zip, seconds-zip}
use Rattle.std.proofs.Math.ListN.{get_or-map}
use Rattle.zn_truth.specs.declared.Cond.{Cond}
use Rattle.zn_truth.specs.declared.Cond.TheVariants.{Good, ReadOnly, Offline}
use Rattle.zn_truth.specs.Truth.{Zone, Truth, no_zone, zone_at, with_zone, seen, info_at}
use Rattle.zn_truth.specs.Loss.{turned, turned_by}
use Rattle.zn_truth.specs.Power.{settled}
use Rattle.zn_truth.specs.declared.DevError.{DevError}
use Rattle.zn_truth.specs.Orders.{Order, ReadAt, WriteAt, Manage, FlushAll, ReportFrom, refusal, effect, done_unless, done}
use Rattle.zn_zone.specs.Facts.{after, outline, ZoneFacts, Facts, zone_facts, facts_of, facts_at, with_facts, with_held, info_of, bare_zone, bare}
use Rattle.zn_zone.specs.Joined.{Store, store_of, stores_of, joined_zone, joined}
use Rattle.zn_zone.proofs.ByFacts.{after-bare, map-map, map-same, zone_at-bare, facts_of-bare, facts_of-with_zone}

pub facts_at-zone : (t : Truth) (z : ℕ) → facts_at (facts_of t) z ≡ zone_facts (zone_at t z)
facts_at-zone t z = get_or-map zone_facts t.zones z no_zone

pub info_at-facts : (t : Truth) (z : ℕ) → info_at t z ≡ info_of (facts_at (facts_of t) z)
info_at-facts t z = sym (ap info_of (facts_at-zone t z))

-- ---- turns and cuts

turned-bare : (to : Cond) (zone : Zone) → zone_facts (turned_by to (bare_zone (zone_facts zone))) ≡ zone_facts (turned_by to zone)
turned-bare Good zone = refl
turned-bare ReadOnly zone = refl
turned-bare Offline zone = refl

pub turned-facts : (t : Truth) (z : ℕ) (to : Cond) → facts_of (turned t z to) ≡ facts_of (turned (bare (facts_of t)) z to)
unfolding turned
turned-facts t z to =
    facts_of-with_zone t (bare (facts_of t)) z (turned_by to (zone_at t z)) (turned_by to (zone_at (bare (facts_of t)) z)) (facts_of-bare (facts_of t))
    (ap (λ (zone : Zone). zone_facts (turned_by to zone)) (zone_at-bare t z) ∙ turned-bare to (zone_at t z))

pub settled-facts : (t : Truth) (z from len : ℕ) (fill : Option ℕ) → facts_of (with_zone t z (settled (zone_at t z) from len fill)) ≡ with_held (facts_of t) z len
settled-facts t z from len fill =
    ap (λ zones. let f : Facts = record { shape = t.shape; zones = zones } in f) (map-set zone_facts t.zones z (seen t.told (settled (zone_at t z) from len fill)))
    ∙ ap (λ (zone : ZoneFacts). with_facts (facts_of t) z (record zone { held = len })) (sym (facts_at-zone t z))

-- ---- stores

zip-maps : {X Y Z : Type 0} (f : X → Y) (g : X → Z) (xs : List X) → zip (map f xs) (map g xs) ≡ map (λ x. (f x, g x)) xs
zip-maps f g [] = refl
zip-maps f g (x ∷ xs) = ap (λ ys. (f x, g x) ∷ ys) (zip-maps f g xs)

pub joined-parts : (t : Truth) → joined t.told (facts_of t) (stores_of t) ≡ t
joined-parts t =
    ap (λ zones. let u : Truth = record { told = t.told; shape = t.shape; zones = zones } in u)
    (ap (map joined_zone) (zip-maps zone_facts store_of t.zones)
    ∙ map-map joined_zone (λ zone. let p : ZoneFacts × Store = (zone_facts zone, store_of zone) in p) t.zones
    ∙ map-same (λ zone. joined_zone (zone_facts zone, store_of zone)) t.zones (λ zone. refl))

pub facts_of-joined : (told : Bool) (f : Facts) (stores : List Store) → length stores ≡ length f.zones → facts_of (joined told f stores) ≡ f
facts_of-joined told f stores h =
    ap (λ zones. let g : Facts = record { shape = f.shape; zones = zones } in g) (map-map zone_facts joined_zone (zip f.zones stores) ∙ firsts-zip f.zones stores h)

pub stores_of-joined : (told : Bool) (f : Facts) (stores : List Store) → length stores ≡ length f.zones → stores_of (joined told f stores) ≡ stores
stores_of-joined told f stores h = map-map store_of joined_zone (zip f.zones stores) ∙ seconds-zip f.zones stores h

pub stores_of-with_zone : (t : Truth) (z : ℕ) (zone : Zone) → stores_of (with_zone t z zone) ≡ set (stores_of t) z (store_of (seen t.told zone))
stores_of-with_zone t z zone = map-set store_of t.zones z (seen t.told zone)

-- ---- orders

effect-told : (t : Truth) (order : Order) → (effect t order).told ≡ t.told
effect-told t (ReadAt z at n) = refl
effect-told t (WriteAt z at bytes) = refl
effect-told t (Manage z op) = refl
effect-told t FlushAll = refl
effect-told t (ReportFrom first n) = refl

done-told : (t : Truth) (order : Order) → (done t order).truth.told ≡ t.told
unfolding done
done-told t order = by_refusal (refusal t order)
  where
    by_refusal : (r : Option DevError) → (done_unless r t order).truth.told ≡ t.told
    by_refusal None = effect-told t order
    by_refusal (Some error) = refl

pub done-joined : (t u : Truth) (order : Order) → u.told ≡ t.told → facts_of u ≡ after (facts_of t) (outline order) → stores_of u ≡ stores_of (done t order).truth → u ≡ (done t order).truth
done-joined t u order told facts stores =
    sym (joined-parts u)
    ∙ ap (λ b. joined b (facts_of u) (stores_of u)) (told ∙ sym (done-told t order))
    ∙ ap (λ f. joined (done t order).truth.told f (stores_of u)) (facts ∙ sym (after-bare t order))
    ∙ ap (joined (done t order).truth.told (facts_of (done t order).truth)) stores
    ∙ joined-parts (done t order).truth
