-- What a device over files owes its callers.
use Rattle.std.proofs.Common.{◌≡◌, ℕ, ◌≤◌, Bool, true, false, List, [], ◌∷◌, length, map, Option, Ok, refl, sym, ap, ◌∙◌, subst, arith}
use Rattle.std.specs.Prelude.{not, IsErrOf}
use Rattle.std.proofs.lemmas.Bool.{false≢true}
use Rattle.std.proofs.lemmas.Grind.{merely}
use Rattle.zn_truth.specs.declared.DevError.TheVariants.{Fault}
use Rattle.zn_truth.specs.Truth.{Zone, Truth, Geometry, geometry, kind_at, info_at, bytes_at, IsSound}
use Rattle.std.specs.List.{range_with_len}
use Rattle.std.proofs.lemmas.List.{length-map}
use Rattle.zn_truth.specs.declared.ZoneInfo.{ZoneInfo}
use Rattle.zn_zone.specs.declared.state.State.{State}
use Rattle.zn_zone.specs.Facts.{facts_at, info_of}
use Rattle.zn_truth.specs.Limits.{IsWithinLimits}
use Rattle.zn_truth.specs.Hush.{hushed_zone}
use Rattle.zn_truth.specs.Orders.{Reply, Done, Order, done}
use Rattle.zn_truth.specs.World.{calm, geometry_of}
use Rattle.zn_truth.specs.Obeying.{is_answered, IsAnswered, Fits, IsZoneToManage}
use Rattle.zn_truth.proofs.Issuing.{calm_world, calm_reply, done_no_fault}
use Rattle.zn_truth.proofs.Hushed.{sound_hushed}
use Rattle.zn_zone.proofs.Within.{is_within}
use Rattle.zn_zone.specs.Machine.{Machine, state_at, facts, geometry_in}
use Rattle.zn_device.specs.Fresh.{fresh}
use Rattle.zn_device.specs.Causes.{is_refused}
use Rattle.zn_device.specs.States.{Caused, Commanded}
use Rattle.zn_device.specs.Harms.{Harmed}
use Rattle.zn_device.proofs.Begins.{fresh_sound, geometry-fresh}
use Rattle.zn_stand.specs.Directory.{Directory}
use Rattle.zn_files.specs.States.{FilesState, directory, is_told}
use Rattle.zn_zloop.specs.declared.kept.Kept.{Kept}
use Rattle.zn_zloop.specs.Seen.{truth_seen}
use Rattle.zn_zloop.specs.Served.{BreakCause}
use Rattle.zn_zloop.specs.Holding.{IsSoundZloop}
use Rattle.zn_zloop.specs.Following.{Follows, Touches}
use Rattle.zn_zloop.specs.Telling.{unknown, truth_told, state_told, IsZloop}
use Rattle.zn_zloop.proofs.Sight.{kind_in, seen-geometry}
use Rattle.zn_zloop.proofs.Looking.{infos_seen}

-- ---- what it keeps to

hushed-kinds : (zones : List Zone) → map (λ (zone : Zone). zone.kind) (map hushed_zone zones) ≡ map (λ (zone : Zone). zone.kind) zones
hushed-kinds [] = refl
hushed-kinds (zone ∷ zones) = ap (λ kinds. zone.kind ∷ kinds) (hushed-kinds zones)

unknown-geometry : (g : Geometry) → geometry (unknown g) ≡ g
unknown-geometry g = ap (λ kinds. let h : Geometry = record { shape = g.shape; kinds = kinds } in h) (hushed-kinds (fresh g.shape g.kinds).zones) ∙ geometry-fresh g.shape g.kinds

-- the geometry that is told is the machine's
pub told-geometry : (spoilt : Bool) (o : Option Directory) (m : Machine) (kepts : List Kept) (listed : List ℕ) → (spoilt ≡ false → IsSoundZloop o (facts m) kepts listed) → geometry (truth_told spoilt o m kepts) ≡ geometry_in m
told-geometry true o m kepts listed device = unknown-geometry (geometry_in m)
told-geometry false o m kepts listed device = seen-geometry o m kepts (device refl).kept.count

told_sound : (spoilt : Bool) (o : Option Directory) (m : Machine) (kepts : List Kept) (listed : List ℕ) → IsWithinLimits (geometry_in m) → (spoilt ≡ false → IsSoundZloop o (facts m) kepts listed) → IsSound (truth_told spoilt o m kepts)
told_sound true o m kepts listed within device = sound_hushed (fresh m.shape (geometry_in m).kinds) (fresh_sound m.shape (geometry_in m).kinds within.capacity)
told_sound false o m kepts listed within device = (device refl).sound

pub zloop_holds : (spoilt : Bool) (o : Option Directory) (m : Machine) (kepts : List Kept) (listed : List ℕ) → IsWithinLimits (geometry_in m) → (spoilt ≡ false → IsSoundZloop o (facts m) kepts listed) → IsZloop spoilt o m kepts listed
zloop_holds spoilt o m kepts listed within device = record {
  limits = merely within;
  within = merely (subst IsWithinLimits (sym (told-geometry spoilt o m kepts listed device)) within);
  sound = told_sound spoilt o m kepts listed within device;
  device = device;
}

answered_flag : (r : Reply) (spoilt : Bool) → spoilt ≡ not (is_answered r) → spoilt ≡ false → IsAnswered r
answered_flag r spoilt is clear = answer (is_answered r) (sym is ∙ clear)
  where
    answer : (b : Bool) → not b ≡ false → b ≡ true
    answer true h = refl
    answer false h = absurd (cc)

flag_answered : (r : Reply) (spoilt : Bool) → spoilt ≡ not (is_answered r) → IsAnswered r → spoilt ≡ false
flag_answered r spoilt is answered = is ∙ ap not answered

-- after a command
pub zloop_after : (meant : Done) (r : Reply) (spoilt : Bool) (o e : Option Directory) (m n : Machine) (kepts new : List Kept) (listed more : List ℕ) → IsZloop false o m kepts listed → spoilt ≡ not (is_answered r) → geometry_in n ≡ geometry_in m
    → Follows meant r e (facts n) new more → IsZloop spoilt e n new more
zloop_after meant r spoilt o e m n kepts new listed more zloop is same follows =
    zloop_holds spoilt e n new more (subst IsWithinLimits (sym same) (is_within (geometry_in m) zloop.limits)) (λ clear. follows.device (answered_flag r spoilt is clear))

-- ---- what a command owes

answered_apart : (r e : Reply) → is_answered r ≡ true → is_answered e ≡ false → r ≡ e → ⊥
answered_apart r e is_answer is_none is = false≢true (sym is_none ∙ ap is_answered (sym is) ∙ is_answer)

caused_by : (r : Reply) (spoilt : Bool) (s t : FilesState) (m n : Machine) (kepts new : List Kept) → spoilt ≡ not (is_answered r) → (IsErrOf r Fault → ⊥) → BreakCause r s.faults t.faults → Caused r (state_told false s m kepts) (state_told spoilt t n new)
caused_by r spoilt s t m n kepts new is no_fault cause = record {
  spoilt = is;
  cause = record {
    later = omega arith;
    fault = λ fault. absurd (no_fault fault);
    kept = λ ok. refl;
    no_fewer = cause.later;
    broken = cause.broken;
    whole = cause.whole;
  };
  memory = λ none. absurd (false≢true (sym none));
  same = refl;
  keeps = refl;
  powered = λ broken. refl;
  still_powered = λ broken. refl;
  no_fault = λ answered pending. refl;
}

pub told_when : (spoilt : Bool) (o : Option Directory) (m : Machine) (kepts : List Kept) → spoilt ≡ false → truth_told spoilt o m kepts ≡ truth_seen o (facts m) kepts
told_when spoilt o m kepts clear = ap (λ b. truth_told b o m kepts) clear

pub zloop_commanded : (order : Order) (r : Reply) (spoilt : Bool) (s t : FilesState) (m n : Machine) (kepts new : List Kept) (listed more : List ℕ) → IsZloop false (directory s) m kepts listed → spoilt ≡ not (is_answered r) → geometry_in n ≡ geometry_in m
    → Follows (done (truth_seen (directory s) (facts m) kepts) order) r (directory t) (facts n) new more → Touches (done (truth_seen (directory s) (facts m) kepts) order) r s t
    → Commanded order r (state_told false s m kepts) (state_told spoilt t n new)
unfolding geometry_of
zloop_commanded order r spoilt s t m n kepts new listed more zloop is same follows touches =
    let old = truth_seen (directory s) (facts m) kepts in
    record {
      obeys = record {
        reply = λ answered. calm_reply old r order (follows.reply answered);
        world = λ answered. ap calm (told_when spoilt (directory t) n new (flag_answered r spoilt is answered) ∙ follows.truth answered) ∙ calm_world old (done old order).truth order refl;
        geometry = told-geometry spoilt (directory t) n new more (λ clear. follows.device (answered_flag r spoilt is clear)) ∙ same ∙ sym (seen-geometry (directory s) m kepts (zloop.device refl).kept.count);
      };
      caused = caused_by r spoilt s t m n kepts new is (λ fault. done_no_fault old order r (follows.reply (fault_answers r fault)) fault) touches.cause;
      named = λ keeps refused broken. absurd (not_refused (sym (calm_reply old (Ok tt) order (sym (touches.named broken)))) refused);
    }
  where
    fault_answers : (r : Reply) → IsErrOf r Fault → IsAnswered r
    fault_answers r fault = ap is_answered fault

    not_refused : {reply : Reply} → reply ≡ Ok tt → is_refused reply ≡ true → ⊥
    not_refused ok refused = false≢true (sym (ap is_refused ok) ∙ refused)

-- what a harm owes
pub zloop_harmed : (truth : Truth) (r : Reply) (spoilt : Bool) (s t : FilesState) (m n : Machine) (kepts new : List Kept) (listed more : List ℕ) → IsZloop false (directory s) m kepts listed → spoilt ≡ not (is_answered r) → geometry_in n ≡ geometry_in m
    → Follows (record { reply = Ok tt; truth = truth }) r (directory t) (facts n) new more → Touches (record { reply = Ok tt; truth = truth }) r s t → Harmed truth r (state_told false s m kepts) (state_told spoilt t n new)
unfolding geometry_of
zloop_harmed truth r spoilt s t m n kepts new listed more zloop is same follows touches = record {
  done = follows.reply;
  world = λ answered. ap calm (told_when spoilt (directory t) n new (flag_answered r spoilt is answered) ∙ follows.truth answered);
  geometry = told-geometry spoilt (directory t) n new more (λ clear. follows.device (answered_flag r spoilt is clear)) ∙ same ∙ sym (seen-geometry (directory s) m kepts (zloop.device refl).kept.count);
  caused = caused_by r spoilt s t m n kepts new is (λ fault. no_fault (follows.reply (ap is_answered fault)) fault) touches.cause;
}
  where
    no_fault : r ≡ Ok tt → IsErrOf r Fault → ⊥
    no_fault ok fault = cc

-- ---- as the device has it

pub unspoilt_holds : (spoilt : Bool) (o : Option Directory) (m : Machine) (kepts : List Kept) (listed : List ℕ) → IsZloop spoilt o m kepts listed → spoilt ≡ false → IsZloop false o m kepts listed
unspoilt_holds spoilt o m kepts listed holds clear = subst (λ b. IsZloop b o m kepts listed) clear holds

pub told_of : (spoilt : Bool) (o : Option Directory) (m : Machine) (kepts : List Kept) (listed : List ℕ) → IsZloop spoilt o m kepts listed → geometry_of (calm (truth_told spoilt o m kepts)) ≡ geometry_in m
unfolding geometry_of
told_of spoilt o m kepts listed holds = told-geometry spoilt o m kepts listed holds.device

pub kinds_told : (spoilt : Bool) (o : Option Directory) (m : Machine) (kepts : List Kept) (listed : List ℕ) → IsZloop spoilt o m kepts listed → length (geometry_of (calm (truth_told spoilt o m kepts))).kinds ≡ length m.zones
kinds_told spoilt o m kepts listed holds = ap (λ (g : Geometry). length g.kinds) (told_of spoilt o m kepts listed holds) ∙ length-map m.zones (λ (zone : State). zone.kind)

pub kind_told : (spoilt : Bool) (o : Option Directory) (m : Machine) (kepts : List Kept) (listed : List ℕ) (z : ℕ) → IsZloop spoilt o m kepts listed → (state_at m z).kind ≡ kind_at (geometry_of (calm (truth_told spoilt o m kepts))) z
kind_told spoilt o m kepts listed z holds = sym (ap (λ (g : Geometry). kind_at g z) (told_of spoilt o m kepts listed holds) ∙ kind_in m z)

pub fits_told : (spoilt : Bool) (o : Option Directory) (m : Machine) (kepts : List Kept) (listed : List ℕ) (z at n : ℕ) → IsZloop spoilt o m kepts listed → Fits (geometry_of (calm (truth_told spoilt o m kepts))) z at n → Fits (geometry_in m) z at n
fits_told spoilt o m kepts listed z at n holds fits = subst (λ (g : Geometry). Fits g z at n) (told_of spoilt o m kepts listed holds) fits

pub zone_told : (spoilt : Bool) (o : Option Directory) (m : Machine) (kepts : List Kept) (listed : List ℕ) (z : ℕ) → IsZloop spoilt o m kepts listed → IsZoneToManage (geometry_of (calm (truth_told spoilt o m kepts))) z → IsZoneToManage (geometry_in m) z
zone_told spoilt o m kepts listed z holds zone = subst (λ (g : Geometry). IsZoneToManage g z) (told_of spoilt o m kepts listed holds) zone

pub few_told : (spoilt : Bool) (o : Option Directory) (m : Machine) (kepts : List Kept) (listed : List ℕ) → IsZloop spoilt o m kepts listed → length m.zones ≤ 4096
few_told spoilt o m kepts listed holds = let within = is_within (geometry_in m) holds.limits in omega (arith, within.most, length-map m.zones (λ (zone : State). zone.kind))

pub commanded_as : (order : Order) (r : Reply) (before spoilt : Bool) (s t : FilesState) (m n : Machine) (kepts new : List Kept) (listed more : List ℕ) → IsZloop before (directory s) m kepts listed → before ≡ false → spoilt ≡ not (is_answered r)
    → geometry_in n ≡ geometry_in m → Follows (done (truth_seen (directory s) (facts m) kepts) order) r (directory t) (facts n) new more → Touches (done (truth_seen (directory s) (facts m) kepts) order) r s t
    → Commanded order r (state_told before s m kepts) (state_told spoilt t n new)
commanded_as order r before spoilt s t m n kepts new listed more holds clear is same follows touches =
    subst (λ (b : Bool). Commanded order r (state_told b s m kepts) (state_told spoilt t n new)) (sym clear)
    (zloop_commanded order r spoilt s t m n kepts new listed more (unspoilt_holds before (directory s) m kepts listed holds clear) is same follows touches)

pub harmed_as : (truth : Truth) (r : Reply) (before spoilt : Bool) (s t : FilesState) (m n : Machine) (kepts new : List Kept) (listed more : List ℕ) → IsZloop before (directory s) m kepts listed → before ≡ false → spoilt ≡ not (is_answered r)
    → geometry_in n ≡ geometry_in m → Follows (record { reply = Ok tt; truth = truth }) r (directory t) (facts n) new more → Touches (record { reply = Ok tt; truth = truth }) r s t → Harmed truth r (state_told before s m kepts) (state_told spoilt t n new)
harmed_as truth r before spoilt s t m n kepts new listed more holds clear is same follows touches =
    subst (λ (b : Bool). Harmed truth r (state_told b s m kepts) (state_told spoilt t n new)) (sym clear)
    (zloop_harmed truth r spoilt s t m n kepts new listed more (unspoilt_holds before (directory s) m kepts listed holds clear) is same follows touches)

pub holds_after : (meant : Done) (r : Reply) (before spoilt : Bool) (o e : Option Directory) (m n : Machine) (kepts new : List Kept) (listed more : List ℕ) → IsZloop before o m kepts listed → before ≡ false → spoilt ≡ not (is_answered r) → geometry_in n ≡ geometry_in m
    → Follows meant r e (facts n) new more → IsZloop spoilt e n new more
holds_after meant r before spoilt o e m n kepts new listed more holds clear is same follows =
    zloop_after meant r spoilt o e m n kepts new listed more (unspoilt_holds before o m kepts listed holds clear) is same follows

pub bytes_told : (spoilt : Bool) (s : FilesState) (m : Machine) (kepts : List Kept) (z at n : ℕ) (out : List ℕ) → spoilt ≡ false → (is_told s ≡ true → out ≡ bytes_at (truth_seen (directory s) (facts m) kepts) z at n)
    → (truth_told spoilt (directory s) m kepts).told ≡ true → out ≡ bytes_at (truth_told spoilt (directory s) m kepts) z at n
bytes_told spoilt s m kepts z at n out clear read told =
    let is = told_when spoilt (directory s) m kepts clear in
    read (ap (λ (t : Truth). t.told) (sym is) ∙ told) ∙ ap (λ (t : Truth). bytes_at t z at n) (sym is)

pub infos_told : (spoilt : Bool) (o : Option Directory) (m : Machine) (kepts : List Kept) (listed : List ℕ) (first n : ℕ) (out : List ZoneInfo) → IsZloop spoilt o m kepts listed → spoilt ≡ false
    → out ≡ map (λ z. info_of (facts_at (facts m) z)) (range_with_len first n) → out ≡ map (info_at (truth_told spoilt o m kepts)) (range_with_len first n)
infos_told spoilt o m kepts listed first n out holds clear is =
    is ∙ infos_seen o (facts m) kepts first n (holds.device clear).kept.count ∙ ap (λ (t : Truth). map (info_at t) (range_with_len first n)) (sym (told_when spoilt o m kepts clear))
