-- What a device over files owes where it is harmed.
use Rattle.std.proofs.Common.{◌≡◌, ℕ, ◌<◌, Bool, true, false, List, length, Option, Ok, sym, ap, ◌∙◌, subst, arith}
use Rattle.std.specs.Prelude.{not}
use Rattle.std.proofs.lemmas.List.{length-map, get_or-map}
use Rattle.std.proofs.Math.ListN.{get_or-map as map_get_or}
use Rattle.zn_truth.specs.declared.Kind.{Kind}
use Rattle.zn_truth.specs.declared.Kind.TheVariants.{Sequential}
use Rattle.zn_truth.specs.Truth.{Zone, Truth, Geometry, no_zone, zone_at, kind_at}
use Rattle.zn_truth.specs.Orders.{Reply}
use Rattle.zn_truth.specs.Hush.{hushed_zone}
use Rattle.zn_truth.specs.Fresh.{fresh_zone}
use Rattle.zn_truth.specs.Limits.{IsWithinLimits}
use Rattle.zn_truth.specs.World.{calm, geometry_of}
use Rattle.zn_truth.specs.Obeying.{is_answered}
use Rattle.zn_zone.specs.declared.state.State.{State}
use Rattle.zn_zone.specs.Machine.{Machine, state_at, facts, geometry_in}
use Rattle.zn_zone.proofs.Within.{is_within}
use Rattle.zn_device.specs.Fresh.{fresh}
use Rattle.zn_device.specs.Harms.{Harmed, rested}
use Rattle.zn_device.specs.States.{DeviceState}
use Rattle.zn_stand.specs.Directory.{Directory}
use Rattle.zn_files.specs.States.{FilesState, directory}
use Rattle.zn_zloop.specs.declared.kept.Kept.{Kept}
use Rattle.zn_zloop.specs.Seen.{truth_seen}
use Rattle.zn_zloop.specs.Holding.{IsSoundZloop}
use Rattle.zn_zloop.specs.Following.{Follows, Touches}
use Rattle.zn_zloop.specs.Telling.{truth_told, state_told, IsZloop}
use Rattle.zn_zloop.proofs.Sight.{kind_in}
use Rattle.zn_zloop.proofs.Commanding.{told_when, told_of, zloop_holds, harmed_as}

-- ---- what the trait asks for, of what the device keeps

pub inside_told : (spoilt : Bool) (o : Option Directory) (m : Machine) (kepts : List Kept) (listed : List ℕ) (z : ℕ) → IsZloop spoilt o m kepts listed → z < length (geometry_of (calm (truth_told spoilt o m kepts))).kinds → z < length (geometry_in m).kinds
inside_told spoilt o m kepts listed z holds inside = subst (λ (g : Geometry). z < length g.kinds) (told_of spoilt o m kepts listed holds) inside

pub kind_told_at : (spoilt : Bool) (o : Option Directory) (m : Machine) (kepts : List Kept) (listed : List ℕ) (z : ℕ) (kind : Kind) → IsZloop spoilt o m kepts listed → kind_at (geometry_of (calm (truth_told spoilt o m kepts))) z ≡ kind → kind_at (geometry_in m) z ≡ kind
kind_told_at spoilt o m kepts listed z kind holds is = sym (ap (λ (g : Geometry). kind_at g z) (told_of spoilt o m kepts listed holds)) ∙ is

-- what is said of the truth that is told is said of the one that is seen
pub told_has : (P : Truth → Type 0) (spoilt : Bool) (o : Option Directory) (m : Machine) (kepts : List Kept) → spoilt ≡ false → P (truth_told spoilt o m kepts) → P (truth_seen o (facts m) kepts)
told_has P spoilt o m kepts clear is = subst P (told_when spoilt o m kepts clear) is

-- ---- what a harm owes

pub harmed_told : (harm : Truth → Truth) (r : Reply) (before spoilt : Bool) (s t : FilesState) (m n : Machine) (kepts new : List Kept) (listed more : List ℕ) → IsZloop before (directory s) m kepts listed → before ≡ false → spoilt ≡ not (is_answered r)
    → geometry_in n ≡ geometry_in m → Follows (record { reply = Ok tt; truth = harm (truth_seen (directory s) (facts m) kepts) }) r (directory t) (facts n) new more → Touches (record { reply = Ok tt; truth = harm (truth_seen (directory s) (facts m) kepts) }) r s t
    → Harmed (harm (truth_told before (directory s) m kepts)) r (state_told before s m kepts) (state_told spoilt t n new)
harmed_told harm r before spoilt s t m n kepts new listed more holds clear is same follows touches =
    subst (λ (u : Truth). Harmed (harm u) r (state_told before s m kepts) (state_told spoilt t n new)) (sym (told_when before (directory s) m kepts clear))
    (harmed_as (harm (truth_seen (directory s) (facts m) kepts)) r before spoilt s t m n kepts new listed more holds clear is same follows touches)

-- ---- the durable length

pub durable_seen : (spoilt : Bool) (o : Option Directory) (m : Machine) (kepts : List Kept) (z durable : ℕ) → spoilt ≡ false → durable ≡ (zone_at (truth_seen o (facts m) kepts) z).durable → durable ≡ (zone_at (truth_told spoilt o m kepts) z).durable
durable_seen spoilt o m kepts z durable clear is = is ∙ ap (λ (t : Truth). (zone_at t z).durable) (sym (told_when spoilt o m kepts clear))

-- a spoilt device counts as new
pub durable_new : (spoilt : Bool) (o : Option Directory) (m : Machine) (kepts : List Kept) (z : ℕ) → spoilt ≡ true → z < length m.zones → (fresh_zone m.shape (state_at m z).kind).durable ≡ (zone_at (truth_told spoilt o m kepts) z).durable
durable_new spoilt o m kepts z is below =
    let g = geometry_in m in
    let inside : z < length g.kinds = omega (arith, length-map m.zones (λ (zone : State). zone.kind)) in
    let at : zone_at (fresh g.shape g.kinds) z ≡ fresh_zone g.shape (kind_at g z) = get_or-map (fresh_zone g.shape) g.kinds z Sequential no_zone inside in
    sym (ap (λ (b : Bool). (zone_at (truth_told b o m kepts) z).durable) is
    ∙ ap (λ (zone : Zone). zone.durable) (map_get_or hushed_zone (fresh g.shape g.kinds).zones z no_zone)
    ∙ ap (λ (zone : Zone). zone.durable) at
    ∙ ap (λ (k : Kind). (fresh_zone m.shape k).durable) (kind_in m z))

-- ---- a rest

pub rest_holds : (spoilt : Bool) (o : Option Directory) (m n : Machine) (kepts : List Kept) (listed : List ℕ) → IsZloop spoilt o m kepts listed → geometry_in n ≡ geometry_in m → (IsSoundZloop o (facts m) kepts listed → IsSoundZloop o (facts n) kepts listed) → IsZloop spoilt o n kepts listed
rest_holds spoilt o m n kepts listed holds same device =
    zloop_holds spoilt o n kepts listed (is_within (geometry_in n) (subst (λ (g : Geometry). ∥ IsWithinLimits g ∥₁) (sym same) holds.limits)) (λ clear. device (holds.device clear))

pub rest_told : (spoilt : Bool) (s : FilesState) (m n : Machine) (kepts : List Kept) → spoilt ≡ false → truth_seen (directory s) (facts n) kepts ≡ rested (truth_seen (directory s) (facts m) kepts)
    → state_told spoilt s n kepts ≡ record (state_told spoilt s m kepts) { world = record (state_told spoilt s m kepts).world { truth = rested (truth_told spoilt (directory s) m kepts) } }
rest_told spoilt s m n kepts clear is =
    ap (λ (t : Truth). let d : DeviceState = record { world = calm t; spoilt = spoilt; faults = 0; breaks = s.faults; takes_memory = true; keeps_conditions = true } in d)
    (told_when spoilt (directory s) n kepts clear ∙ is ∙ ap rested (sym (told_when spoilt (directory s) m kepts clear)))
