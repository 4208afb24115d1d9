-- The truth that a device over files tells.
use Rattle.std.proofs.Common.{◌≡◌, inl, inr, ℕ, zero, suc, ◌+◌, ◌<◌, List, [], ◌∷◌, length, map, set, get_or, Option, Some, None, Ok, Err, refl, sym, ap, ◌∙◌, arith, add-zero}
use Rattle.std.specs.Prelude.{is_some, ◌≢◌}
use Rattle.std.proofs.lemmas.Bool.{cases_eq}
use Rattle.std.proofs.lemmas.List.{ext_get_or, length-map, length-set, get_or-set_same, get_or-set_other, map-set}
use Rattle.std.proofs.Math.ListN.{get_or-map}
use Rattle.zn_truth.specs.declared.DevError.{DevError}
use Rattle.zn_truth.specs.Truth.{Zone, Truth, Geometry, zone_at, with_zone, no_zone, seen, kind_at, geometry}
use Rattle.zn_truth.specs.Orders.{Order, refusal, effect, done, done_unless}
use Rattle.zn_zone.specs.Facts.{ZoneFacts, Facts, zone_facts, facts_of, facts_at, with_facts, outline, refusal_by, after}
use Rattle.zn_zone.specs.Machine.{Machine, state_at, no_state, facts_in, facts, geometry_in}
use Rattle.zn_zone.proofs.ByFacts.{refusal-bare, after-bare, map-map}
use Rattle.zn_zone.specs.declared.state.State.{State}
use Rattle.zn_stand.specs.Directory.{Directory}
use Rattle.zn_zloop.specs.declared.kept.Kept.{Kept}
use Rattle.zn_zloop.specs.Seen.{bytes_seen, zone_seen, zones_seen, truth_seen}

-- ---- zones

pub length-zones_seen : (o : Option Directory) (z : ℕ) (zones : List ZoneFacts) (kepts : List Kept) → length kepts ≡ length zones → length (zones_seen o z zones kepts) ≡ length zones
length-zones_seen o z [] kepts h = refl
length-zones_seen o z (zone ∷ zones) [] h = absurd (omega arith)
length-zones_seen o z (zone ∷ zones) (kept ∷ kepts) h = ap suc (length-zones_seen o (z + 1) zones kepts (omega arith))

zones_seen-at : (o : Option Directory) (z k : ℕ) (zones : List ZoneFacts) (kepts : List Kept) (zone : ZoneFacts) (kept : Kept) (other : Zone) → length kepts ≡ length zones → k < length zones
    → get_or (zones_seen o z zones kepts) k other ≡ zone_seen o (z + k) (get_or zones k zone) (get_or kepts k kept)
zones_seen-at o z k [] kepts zone kept other h below = absurd (omega arith)
zones_seen-at o z k (first ∷ zones) [] zone kept other h below = absurd (omega arith)
zones_seen-at o z zero (first ∷ zones) (own ∷ kepts) zone kept other h below = ap (λ n. zone_seen o n first own) (sym (add-zero z))
zones_seen-at o z (suc k) (first ∷ zones) (own ∷ kepts) zone kept other h below =
    let same : (z + 1) + k ≡ z + suc k = omega arith in
    zones_seen-at o (z + 1) k zones kepts zone kept other (omega arith) (omega arith) ∙ ap (λ n. zone_seen o n (get_or zones k zone) (get_or kepts k kept)) same

pub seen_at : (o : Option Directory) (f : Facts) (kepts : List Kept) (z : ℕ) (kept : Kept) → length kepts ≡ length f.zones → z < length f.zones
    → zone_at (truth_seen o f kepts) z ≡ zone_seen o z (facts_at f z) (get_or kepts z kept)
seen_at o f kepts z kept count below = zones_seen-at o 0 z f.zones kepts (zone_facts no_zone) kept no_zone count below ∙ ap (λ n. zone_seen o n (facts_at f z) (get_or kepts z kept)) (omega arith)

facts-zones_seen : (o : Option Directory) (z : ℕ) (zones : List ZoneFacts) (kepts : List Kept) → length kepts ≡ length zones → map zone_facts (zones_seen o z zones kepts) ≡ zones
facts-zones_seen o z [] kepts h = refl
facts-zones_seen o z (zone ∷ zones) [] h = absurd (omega arith)
facts-zones_seen o z (zone ∷ zones) (kept ∷ kepts) h = ap (λ zs. zone ∷ zs) (facts-zones_seen o (z + 1) zones kepts (omega arith))

pub facts_of-seen : (o : Option Directory) (f : Facts) (kepts : List Kept) → length kepts ≡ length f.zones → facts_of (truth_seen o f kepts) ≡ f
facts_of-seen o f kepts h = ap (λ zones. let g : Facts = record { shape = f.shape; zones = zones } in g) (facts-zones_seen o 0 f.zones kepts h)

pub zones-seen : (o : Option Directory) (f : Facts) (kepts : List Kept) → length kepts ≡ length f.zones → length (truth_seen o f kepts).zones ≡ length f.zones
zones-seen o f kepts h = length-zones_seen o 0 f.zones kepts h

pub zones-facts : (m : Machine) → length (facts m).zones ≡ length m.zones
zones-facts m = length-map m.zones facts_in

pub facts_at-facts : (m : Machine) (z : ℕ) → facts_at (facts m) z ≡ facts_in (state_at m z)
facts_at-facts m z = get_or-map facts_in m.zones z no_state

-- ---- the geometry

kinds-facts : (zones : List Zone) → map (λ (zone : ZoneFacts). zone.kind) (map zone_facts zones) ≡ map (λ (zone : Zone). zone.kind) zones
kinds-facts [] = refl
kinds-facts (zone ∷ zones) = ap (λ kinds. zone.kind ∷ kinds) (kinds-facts zones)

-- the geometry that is told is the machine's
pub seen-geometry : (o : Option Directory) (m : Machine) (kepts : List Kept) → length kepts ≡ length (facts m).zones → geometry (truth_seen o (facts m) kepts) ≡ geometry_in m
seen-geometry o m kepts count =
    ap (λ kinds. let g : Geometry = record { shape = m.shape; kinds = kinds } in g)
    (sym (kinds-facts (truth_seen o (facts m) kepts).zones) ∙ ap (map (λ (zone : ZoneFacts). zone.kind)) (facts-zones_seen o 0 (facts m).zones kepts count) ∙ map-map (λ (zone : ZoneFacts). zone.kind) facts_in m.zones)

pub kind_in : (m : Machine) (z : ℕ) → kind_at (geometry_in m) z ≡ (state_at m z).kind
kind_in m z = get_or-map (λ (zone : State). zone.kind) m.zones z no_state

-- ---- one zone changes, with its file

pub seen_put : (o e : Option Directory) (f : Facts) (kepts : List Kept) (z : ℕ) (zf : ZoneFacts) (kept : Kept) (zone : Zone) → length kepts ≡ length f.zones → z < length f.zones → is_some e ≡ is_some o
    → ((k : ℕ) (other : ZoneFacts) → k < length f.zones → k ≢ z → other ≡ facts_at f k → bytes_seen e other k ≡ bytes_seen o other k) → zone_seen e z zf kept ≡ seen (is_some o) zone
    → truth_seen e (with_facts f z zf) (set kepts z kept) ≡ with_zone (truth_seen o f kepts) z zone
seen_put o e f kepts z zf kept zone count below told others is = λ i. record { told = told i; shape = f.shape; zones = zones i }
  where
    long : length (set kepts z kept) ≡ length (set f.zones z zf)
    long = length-set kepts z kept ∙ count ∙ sym (length-set f.zones z zf)

    size : length (zones_seen e 0 (set f.zones z zf) (set kepts z kept)) ≡ length (set (zones_seen o 0 f.zones kepts) z (seen (is_some o) zone))
    size = length-zones_seen e 0 (set f.zones z zf) (set kepts z kept) long ∙ length-set f.zones z zf ∙ sym (length-zones_seen o 0 f.zones kepts count) ∙ sym (length-set (zones_seen o 0 f.zones kepts) z (seen (is_some o) zone))

    zone_other : (k : ℕ) (x : ZoneFacts) (own : Kept) → bytes_seen e x k ≡ bytes_seen o x k → zone_seen e k x own ≡ zone_seen o k x own
    zone_other k x own same = ap (λ (b : List ℕ). let y : Zone = record { kind = x.kind; cond = x.cond; held = x.held; bytes = b; durable = own.durable; unflushed = own.unflushed.items; explicit = x.explicit } in y) same

    zones : zones_seen e 0 (set f.zones z zf) (set kepts z kept) ≡ set (zones_seen o 0 f.zones kepts) z (seen (is_some o) zone)
    zones = ext_get_or no_zone _ _ size (λ k h.
        let h2 : k < length (set f.zones z zf) = omega (arith, length-zones_seen e 0 (set f.zones z zf) (set kepts z kept) long) in
        let h3 : k < length f.zones = omega (arith, length-set f.zones z zf) in
        let new = seen_at e (with_facts f z zf) (set kepts z kept) k kept long h2 in
        elim (cases_eq k z) [
          | inl same ↦
              new ∙ ap (λ (n : ℕ). zone_seen e n (get_or (set f.zones z zf) n (zone_facts no_zone)) (get_or (set kepts z kept) n kept)) same
              ∙ ap (λ (x : ZoneFacts). zone_seen e z x (get_or (set kepts z kept) z kept)) (get_or-set_same f.zones z zf (zone_facts no_zone) below)
              ∙ ap (zone_seen e z zf) (get_or-set_same kepts z kept kept (omega arith)) ∙ is
              ∙ sym (ap (λ (n : ℕ). get_or (set (zones_seen o 0 f.zones kepts) z (seen (is_some o) zone)) n no_zone) same ∙ get_or-set_same (zones_seen o 0 f.zones kepts) z (seen (is_some o) zone) no_zone (omega (arith, length-zones_seen o 0 f.zones kepts count)))
          | inr apart ↦
              new ∙ ap (λ (x : ZoneFacts). zone_seen e k x (get_or (set kepts z kept) k kept)) (get_or-set_other f.zones z k zf (zone_facts no_zone) apart)
              ∙ ap (zone_seen e k (facts_at f k)) (get_or-set_other kepts z k kept kept apart)
              ∙ zone_other k (facts_at f k) (get_or kepts k kept) (others k (facts_at f k) h3 apart refl)
              ∙ sym (get_or-set_other (zones_seen o 0 f.zones kepts) z k (seen (is_some o) zone) no_zone apart ∙ seen_at o f kepts k kept count h3)
        ])

-- ---- orders

done_none : (t : Truth) (order : Order) → refusal t order ≡ None → (done t order).truth ≡ effect t order
unfolding done
done_none t order none = ap (λ v. (done_unless v t order).truth) none

pub facts_of-with_zone : (t : Truth) (z : ℕ) (zone : Zone) → facts_of (with_zone t z zone) ≡ with_facts (facts_of t) z (zone_facts zone)
facts_of-with_zone t z zone = ap (λ zones. let g : Facts = record { shape = t.shape; zones = zones } in g) (map-set zone_facts t.zones z _)

-- an order that is refused
pub refused_reply : (o : Option Directory) (f : Facts) (kepts : List Kept) (order : Order) (error : DevError) → length kepts ≡ length f.zones → refusal_by f (outline order) ≡ Some error
    → (done (truth_seen o f kepts) order).reply ≡ Err error
unfolding done
refused_reply o f kepts order error count is =
    ap (λ v. (done_unless v (truth_seen o f kepts) order).reply) (refusal-bare (truth_seen o f kepts) order ∙ ap (λ g. refusal_by g (outline order)) (facts_of-seen o f kepts count) ∙ is)

pub refused_truth : (o : Option Directory) (f : Facts) (kepts : List Kept) (order : Order) (error : DevError) → length kepts ≡ length f.zones → refusal_by f (outline order) ≡ Some error
    → (done (truth_seen o f kepts) order).truth ≡ truth_seen o f kepts
unfolding done
refused_truth o f kepts order error count is =
    ap (λ v. (done_unless v (truth_seen o f kepts) order).truth) (refusal-bare (truth_seen o f kepts) order ∙ ap (λ g. refusal_by g (outline order)) (facts_of-seen o f kepts count) ∙ is)

-- an order that isn't
pub done_reply : (o : Option Directory) (f : Facts) (kepts : List Kept) (order : Order) → length kepts ≡ length f.zones → refusal_by f (outline order) ≡ None
    → (done (truth_seen o f kepts) order).reply ≡ Ok tt
unfolding done
done_reply o f kepts order count is =
    ap (λ v. (done_unless v (truth_seen o f kepts) order).reply) (refusal-bare (truth_seen o f kepts) order ∙ ap (λ g. refusal_by g (outline order)) (facts_of-seen o f kepts count) ∙ is)

-- what an order that isn't refused makes of the facts, where it changes one zone
pub order_put : (o : Option Directory) (f : Facts) (kepts : List Kept) (order : Order) (z : ℕ) (zone : Zone) → length kepts ≡ length f.zones → effect (truth_seen o f kepts) order ≡ with_zone (truth_seen o f kepts) z zone
    → refusal_by f (outline order) ≡ None → (done (truth_seen o f kepts) order).truth ≡ with_zone (truth_seen o f kepts) z zone
order_put o f kepts order z zone count by none =
    let t = truth_seen o f kepts in
    done_none t order (refusal-bare t order ∙ ap (λ h. refusal_by h (outline order)) (facts_of-seen o f kepts count) ∙ none) ∙ by

pub facts_put : (o : Option Directory) (f g : Facts) (kepts : List Kept) (order : Order) (z : ℕ) (zone : Zone) → length kepts ≡ length f.zones → effect (truth_seen o f kepts) order ≡ with_zone (truth_seen o f kepts) z zone
    → refusal_by f (outline order) ≡ None → g ≡ after f (outline order) → g ≡ with_facts f z (zone_facts zone)
facts_put o f g kepts order z zone count by none is =
    let t = truth_seen o f kepts in
    let same : facts_of t ≡ f = facts_of-seen o f kepts count in
    is ∙ ap (λ h. after h (outline order)) (sym same) ∙ sym (after-bare t order) ∙ ap facts_of (order_put o f kepts order z zone count by none) ∙ facts_of-with_zone t z zone ∙ ap (λ h. with_facts h z (zone_facts zone)) same
