-- The truth of a device in memory, by its parts.
use Rattle.std.proofs.Common.{◌≡◌, ℕ, zero, suc, true, ◌*◌, ◌<◌, ◌≤◌, ◌+◌, ◌++◌, take, drop, List, [], ◌∷◌, length, map, set, get_or, Option, Some, None, Ok, Err, refl, sym, ap, ◌∙◌, arith}
use Rattle.std.proofs.lemmas.List.{map-set, length-map, set-get_or, drop_all, take_all, append-nil}
use Rattle.std.proofs.lemmas.List.Edits.{map_over_more}
use Rattle.std.proofs.lemmas.Bool.Decides.{nat_tests}
use Rattle.std.proofs.Math.ListN.{get_or-map}
use Rattle.zn_truth.specs.declared.Kind.{Kind}
use Rattle.zn_truth.specs.declared.Kind.TheVariants.{Conventional, Sequential}
use Rattle.zn_truth.specs.declared.Cond.{Cond}
use Rattle.zn_truth.specs.declared.Cond.TheVariants.{Good, ReadOnly, Offline}
use Rattle.zn_truth.specs.declared.ZoneInfo.{ZoneInfo}
use Rattle.zn_truth.specs.declared.ZoneOp.{ZoneOp}
use Rattle.zn_truth.specs.declared.DevError.{DevError}
use Rattle.zn_truth.specs.Truth.{Zone, Truth, no_zone, zone_at, with_zone, is_good, bytes_at}
use Rattle.zn_truth.specs.Orders.{Order, WriteAt, Manage, changing, writing, refusal, written, managed, flushed, FlushAll, effect, done, done_unless}
use Rattle.zn_zone.specs.Facts.{ZoneFacts, Facts, zone_facts, facts_of, facts_at, with_facts, info_of, bare_zone, bare, outline, refusal_by, after}
use Rattle.zn_zone.specs.Machine.{Machine, no_state, state_at, facts_in, facts}
use Rattle.zn_zone.proofs.ByFacts.{refusal-bare, after-bare}
use Rattle.zn_device.specs.declared.store.Store.{Store}
use Rattle.zn_device.specs.Stores.{zone_of, Keeps, zones_of, truth_of}

-- ---- zones

pub length-zones_of : (zones : List ZoneFacts) (stores : List Store) → length stores ≡ length zones → length (zones_of zones stores) ≡ length zones
length-zones_of [] stores h = refl
length-zones_of (zone ∷ zones) [] h = h
length-zones_of (zone ∷ zones) (store ∷ stores) h = let e : length stores ≡ length zones = omega arith in omega (arith, length-zones_of zones stores e)

pub get_or-zones_of : (zones : List ZoneFacts) (stores : List Store) (z : ℕ) (zone : ZoneFacts) (store : Store) (other : Zone) → length stores ≡ length zones → z < length zones
    → get_or (zones_of zones stores) z other ≡ zone_of (get_or zones z zone).kind (info_of (get_or zones z zone)) (get_or stores z store)
get_or-zones_of [] stores z zone store other h below = absurd (omega arith)
get_or-zones_of (first ∷ zones) [] z zone store other h below = absurd (omega arith)
get_or-zones_of (first ∷ zones) (kept ∷ stores) zero zone store other h below = refl
get_or-zones_of (first ∷ zones) (kept ∷ stores) (suc z) zone store other h below = get_or-zones_of zones stores z zone store other (omega arith) (omega arith)

pub zones_of-set : (zones : List ZoneFacts) (stores : List Store) (z : ℕ) (zone : ZoneFacts) (store : Store)
    → zones_of (set zones z zone) (set stores z store) ≡ set (zones_of zones stores) z (zone_of zone.kind (info_of zone) store)
zones_of-set [] stores z zone store = refl
zones_of-set (first ∷ zones) [] zero zone store = refl
zones_of-set (first ∷ zones) [] (suc z) zone store = refl
zones_of-set (first ∷ zones) (other ∷ stores) zero zone store = refl
zones_of-set (first ∷ zones) (other ∷ stores) (suc z) zone store = ap (λ zs. zone_of first.kind (info_of first) other ∷ zs) (zones_of-set zones stores z zone store)

facts-zones_of : (zones : List ZoneFacts) (stores : List Store) → length stores ≡ length zones → map zone_facts (zones_of zones stores) ≡ zones
facts-zones_of [] stores h = refl
facts-zones_of (zone ∷ zones) [] h = absurd (omega arith)
facts-zones_of (zone ∷ zones) (store ∷ stores) h = ap (λ zs. zone ∷ zs) (facts-zones_of zones stores (omega arith))

-- ---- the truth

pub facts_of-truth_of : (f : Facts) (stores : List Store) → length stores ≡ length f.zones → facts_of (truth_of f stores) ≡ f
facts_of-truth_of f stores h = ap (λ zones. let g : Facts = record { shape = f.shape; zones = zones } in g) (facts-zones_of f.zones stores h)

-- a zone in the place of another
pub truth_of-put : (f : Facts) (stores : List Store) (z : ℕ) (zone : Zone) (store : Store) → Keeps store zone
    → truth_of (with_facts f z (zone_facts zone)) (set stores z store) ≡ with_zone (truth_of f stores) z zone
truth_of-put f stores z zone store keeps =
    ap (λ zones. let t : Truth = record { told = true; shape = f.shape; zones = zones } in t)
    (zones_of-set f.zones stores z (zone_facts zone) store ∙ ap (set (zones_of f.zones stores) z) keeps)

pub facts_of-with_zone : (t : Truth) (z : ℕ) (zone : Zone) → facts_of (with_zone t z zone) ≡ with_facts (facts_of t) z (zone_facts zone)
facts_of-with_zone t z zone = ap (λ zones. let g : Facts = record { shape = t.shape; zones = zones } in g) (map-set zone_facts t.zones z _)

-- ---- orders

done_none : (t : Truth) (order : Order) → refusal t order ≡ None → (done t order).truth ≡ effect t order
unfolding done
done_none t order none = ap (λ v. (done_unless v t order).truth) none

-- an order that is refused
pub refused_reply : (f : Facts) (stores : List Store) (order : Order) (error : DevError) → length stores ≡ length f.zones → refusal_by f (outline order) ≡ Some error
    → (done (truth_of f stores) order).reply ≡ Err error
unfolding done
refused_reply f stores order error count is =
    ap (λ v. (done_unless v (truth_of f stores) order).reply) (refusal-bare (truth_of f stores) order ∙ ap (λ g. refusal_by g (outline order)) (facts_of-truth_of f stores count) ∙ is)

pub refused_truth : (f : Facts) (stores : List Store) (order : Order) (error : DevError) → length stores ≡ length f.zones → refusal_by f (outline order) ≡ Some error
    → (done (truth_of f stores) order).truth ≡ truth_of f stores
unfolding done
refused_truth f stores order error count is =
    ap (λ v. (done_unless v (truth_of f stores) order).truth) (refusal-bare (truth_of f stores) order ∙ ap (λ g. refusal_by g (outline order)) (facts_of-truth_of f stores count) ∙ is)

-- an order that is done
pub done_reply : (f : Facts) (stores : List Store) (order : Order) → length stores ≡ length f.zones → refusal_by f (outline order) ≡ None
    → (done (truth_of f stores) order).reply ≡ Ok tt
unfolding done
done_reply f stores order count is =
    ap (λ v. (done_unless v (truth_of f stores) order).reply) (refusal-bare (truth_of f stores) order ∙ ap (λ g. refusal_by g (outline order)) (facts_of-truth_of f stores count) ∙ is)

put_truth : (f : Facts) (stores : List Store) (order : Order) (z : ℕ) (zone : Zone) (store : Store) → length stores ≡ length f.zones
    → effect (truth_of f stores) order ≡ with_zone (truth_of f stores) z zone → refusal_by f (outline order) ≡ None → Keeps store zone
    → truth_of (after f (outline order)) (set stores z store) ≡ (done (truth_of f stores) order).truth
put_truth f stores order z zone store count by none keeps =
    let t = truth_of f stores in
    let same : facts_of t ≡ f = facts_of-truth_of f stores count in
    let is : (done t order).truth ≡ with_zone t z zone = done_none t order (refusal-bare t order ∙ ap (λ g. refusal_by g (outline order)) same ∙ none) ∙ by in
    ap (λ g. truth_of g (set stores z store))
    (ap (λ g. after g (outline order)) (sym same) ∙ sym (after-bare t order) ∙ ap facts_of is ∙ facts_of-with_zone t z zone ∙ ap (λ g. with_facts g z (zone_facts zone)) same)
    ∙ truth_of-put f stores z zone store keeps ∙ sym is

-- the zone at a place
pub zone_at-truth_of : (f : Facts) (stores : List Store) (z : ℕ) (store : Store) → length stores ≡ length f.zones → z < length f.zones → store ≡ get_or stores z store
    → zone_at (truth_of f stores) z ≡ zone_of (facts_at f z).kind (info_of (facts_at f z)) store
zone_at-truth_of f stores z store count below is =
    get_or-zones_of f.zones stores z (zone_facts no_zone) store no_zone count below ∙ ap (λ s. zone_of (facts_at f z).kind (info_of (facts_at f z)) s) (sym is)

pub write_truth : (f g : Facts) (stores : List Store) (z at : ℕ) (bytes : List ℕ) (kind : Kind) (info : ZoneInfo) (store new : Store) → g ≡ after f (outline (WriteAt z at bytes))
    → length stores ≡ length f.zones → z < length f.zones → store ≡ get_or stores z store → kind ≡ (facts_at f z).kind → info ≡ info_of (facts_at f z)
    → refusal_by f (outline (WriteAt z at bytes)) ≡ None → Keeps new (written kind f.shape (zone_of kind info store) at bytes)
    → truth_of g (set stores z new) ≡ (done (truth_of f stores) (WriteAt z at bytes)).truth
write_truth f g stores z at bytes kind info store new after_is count below is kind_is info_is none keeps =
    ap (λ h. truth_of h (set stores z new)) after_is
    ∙ put_truth f stores (WriteAt z at bytes) z (written kind f.shape (zone_of kind info store) at bytes) new count
    (ap (λ zone. with_zone (truth_of f stores) z (written zone.kind f.shape zone at bytes))
    (zone_at-truth_of f stores z store count below is ∙ ap (λ k. zone_of k (info_of (facts_at f z)) store) (sym kind_is) ∙ ap (λ i. zone_of kind i store) (sym info_is)))
    none keeps

pub manage_truth : (f g : Facts) (stores : List Store) (z : ℕ) (op : ZoneOp) (info : ZoneInfo) (store new : Store) → g ≡ after f (Manage z op)
    → length stores ≡ length f.zones → z < length f.zones → store ≡ get_or stores z store → Sequential ≡ (facts_at f z).kind → info ≡ info_of (facts_at f z)
    → refusal_by f (Manage z op) ≡ None → Keeps new (managed op f.shape (zone_of Sequential info store))
    → truth_of g (set stores z new) ≡ (done (truth_of f stores) (Manage z op)).truth
manage_truth f g stores z op info store new after_is count below is kind_is info_is none keeps =
    ap (λ h. truth_of h (set stores z new)) after_is
    ∙ put_truth f stores (Manage z op) z (managed op f.shape (zone_of Sequential info store)) new count
    (ap (λ zone. with_zone (truth_of f stores) z (managed op f.shape zone))
    (zone_at-truth_of f stores z store count below is ∙ ap (λ k. zone_of k (info_of (facts_at f z)) store) (sym kind_is) ∙ ap (λ i. zone_of Sequential i store) (sym info_is)))
    none keeps

-- ---- what an accepted write found

changing_none : (cond : Cond) (next : Option DevError) → changing cond next ≡ None → (is_good cond ≡ true) × (next ≡ None)
changing_none Good next h = (refl, h)
changing_none ReadOnly next h = absurd (cc)
changing_none Offline next h = absurd (cc)

writing_none : (kind : Kind) (t : Truth) (zone : Zone) (at : ℕ) → writing kind t zone at ≡ None → kind ≡ Sequential → zone.held ≡ at
writing_none Conventional t zone at h is = absurd (cc)
writing_none Sequential t zone at h is = grind (arith, nat_tests)

pub write_found : (f : Facts) (z at : ℕ) (bytes : List ℕ) → refusal_by f (outline (WriteAt z at bytes)) ≡ None
    → (is_good (facts_at f z).cond ≡ true) × ((facts_at f z).kind ≡ Sequential → (facts_at f z).held ≡ at)
unfolding refusal_by
write_found f z at bytes none =
    let same : zone_at (bare f) z ≡ bare_zone (facts_at f z) = get_or-map bare_zone f.zones z (zone_facts no_zone) in
    let found : changing (facts_at f z).cond (writing (facts_at f z).kind (bare f) (bare_zone (facts_at f z)) at) ≡ None =
    ap (λ (zone : Zone). changing zone.cond (writing zone.kind (bare f) zone at)) (sym same) ∙ none in
    let good = changing_none (facts_at f z).cond _ found in
    (good.0, λ is. writing_none (facts_at f z).kind (bare f) (bare_zone (facts_at f z)) at good.1 is)

-- ---- the machine

pub facts_at-facts : (m : Machine) (z : ℕ) → facts_at (facts m) z ≡ facts_in (state_at m z)
facts_at-facts m z = get_or-map facts_in m.zones z no_state

pub zones-facts : (m : Machine) → length (facts m).zones ≡ length m.zones
zones-facts m = length-map m.zones facts_in

-- ---- what a read gives

pub read_bytes : (f : Facts) (stores : List Store) (z at n : ℕ) (store : Store) (out : List ℕ) (len : ℕ) → length stores ≡ length f.zones → z < length f.zones → store ≡ get_or stores z store
    → 4096 * n ≡ len → out ≡ take len (drop (4096 * at) store.buffer.items) → out ≡ bytes_at (truth_of f stores) z at n
read_bytes f stores z at n store out len count below is whole out_is =
    out_is ∙ ap (λ k. take k (drop (4096 * at) store.buffer.items)) (sym whole)
    ∙ sym (ap (λ (zone : Zone). take (4096 * n) (drop (4096 * at) zone.bytes)) (zone_at-truth_of f stores z store count below is))

-- ---- a flush

pub flush_more : (zs : List Zone) (f : Facts) (stores : List Store) (i : ℕ) (info : ZoneInfo) (old new : Store) → length stores ≡ length f.zones → i < length f.zones → length zs ≡ length f.zones
    → old ≡ get_or stores i old → info ≡ info_of (facts_at f i) → ((kind : Kind) → Keeps new (flushed (zone_of kind info old)))
    → zones_of f.zones stores ≡ map flushed (take i zs) ++ drop i zs → zones_of f.zones (set stores i new) ≡ map flushed (take (i + 1) zs) ++ drop (i + 1) zs
flush_more zs f stores i info old new count below long is info_is keeps before =
    let zone = zone_of (facts_at f i).kind info old in
    let there : zone ≡ get_or (zones_of f.zones stores) i zone =
    ap (λ s. zone_of (facts_at f i).kind info s) is ∙ ap (λ v. zone_of (facts_at f i).kind v (get_or stores i old)) info_is
    ∙ sym (get_or-zones_of f.zones stores i (zone_facts no_zone) old zone count below) in
    ap (λ zones. zones_of zones (set stores i new)) (sym (set-get_or f.zones i (zone_facts no_zone)))
    ∙ zones_of-set f.zones stores i (facts_at f i) new
    ∙ ap (λ v. set (zones_of f.zones stores) i (zone_of (facts_at f i).kind v new)) (sym info_is)
    ∙ ap (set (zones_of f.zones stores) i) (keeps (facts_at f i).kind)
    ∙ map_over_more flushed zs (zones_of f.zones stores) i zone (omega arith) before there

pub flush_truth : (f : Facts) (stores new : List Store) (i : ℕ) → length stores ≡ length f.zones → length f.zones ≤ i
    → zones_of f.zones new ≡ map flushed (take i (zones_of f.zones stores)) ++ drop i (zones_of f.zones stores) → truth_of f new ≡ (done (truth_of f stores) FlushAll).truth
unfolding done
flush_truth f stores new i count past is =
    let zs = zones_of f.zones stores in
    let most : length zs ≤ i = omega (arith, length-zones_of f.zones stores count) in
    ap (λ zones. let t : Truth = record { told = true; shape = f.shape; zones = zones } in t)
    (is ∙ ap (λ rest. map flushed (take i zs) ++ rest) (drop_all i zs most) ∙ append-nil (map flushed (take i zs)) ∙ ap (map flushed) (take_all i zs most))
