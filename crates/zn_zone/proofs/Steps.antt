-- What becomes of the zones where one gives its open place, and where one takes a step.
use Rattle.std.proofs.Common.{◌≡◌, ◌⊎◌, inl, inr, ⊎_elim, ℕ, ◌+◌, ◌<◌, ◌≤◌, Bool, true, false, cond, List, length, map, set, get_or, Option, Some, None, refl, sym, ap, ◌∙◌, subst, arith}
use Rattle.std.specs.Prelude.{count_by, ◌&&◌, IsTrue, if◌then◌else◌, is_none}
use Rattle.std.proofs.lemmas.Bool.{false≢true, cases_Bool, cases_eq}
use Rattle.std.proofs.lemmas.Bool.Decides.{nat_tests}
use Rattle.std.proofs.lemmas.List.{map-set, length-set, set-get_or, get_or-set_same, get_or-set_other}
use Rattle.std.proofs.lemmas.List.Sums.{sum_by-set}
use Rattle.zn_truth.specs.declared.Shape.{Shape}
use Rattle.zn_truth.specs.Truth.{Geometry, is_reached}
use Rattle.zn_zone.specs.declared.ZoneError.TheVariants.{TooManyActive, TooManyOpen}
use Rattle.zn_zone.specs.declared.Raw.{Raw}
use Rattle.zn_zone.specs.declared.Raw.TheVariants.{NotWp, Empty, ImplicitOpen, ExplicitOpen, Closed, Full, ReadOnly, Offline}
use Rattle.zn_zone.specs.declared.table.Step.{Step}
use Rattle.zn_zone.specs.declared.table.Step.TheVariants.{Write, Open, Close, Reset, Finish}
use Rattle.zn_zone.specs.declared.table.Places.{Places}
use Rattle.zn_zone.specs.declared.table.Places.TheVariants.{NoPlace, OpenPlace, BothPlaces}
use Rattle.zn_zone.specs.declared.state.State.{State}
use Rattle.zn_zone.specs.Facts.{ZoneFacts}
use Rattle.zn_zone.specs.Table.{is_implicit, is_explicit, is_open, is_active, cond_of, next, needs}
use Rattle.zn_zone.specs.Machine.{Machine, no_state, state_in, state_at, facts_in, geometry_in, active_in, open_in, first_implicit, closed, closed_at, with_open_place, no_open_place, with_places, no_places, stepped, fits, IsSoundMachine}
use Rattle.zn_zone.proofs.Counts.{first_is_implicit}

-- ---- counts

-- a count where one element takes the place of one that counts like it
pub count_by-set_same : {X : Type 0} (p : X → Bool) (xs : List X) (i : ℕ) (y d : X) → i < length xs → p y ≡ p (get_or xs i d) → count_by p (set xs i y) ≡ count_by p xs
count_by-set_same p xs i y d below same =
    omega (arith, sum_by-set (λ x. cond (p x) 1 0) xs i y d below, ap (λ (b : Bool). let n : ℕ = cond b 1 0 in n) same)

-- a count that one element changes, where the new one counts only if the old one did
pub count_kept : {X : Type 0} (p : X → Bool) (xs : List X) (i : ℕ) (y d : X) → i < length xs → (p y ≡ true → p (get_or xs i d) ≡ true) → count_by p (set xs i y) ≤ count_by p xs
count_kept p xs i y d below keeps = grind (arith, sum_by-set (λ x. cond (p x) 1 0) xs i y d below)

-- and otherwise it rises by one at most
pub count_rises : {X : Type 0} (p : X → Bool) (xs : List X) (i : ℕ) (y d : X) → i < length xs → count_by p (set xs i y) ≤ count_by p xs + 1
count_rises p xs i y d below = grind (arith, sum_by-set (λ x. cond (p x) 1 0) xs i y d below)

-- and where the old one counts and the new one doesn't, it falls
pub count_falls : {X : Type 0} (p : X → Bool) (xs : List X) (i : ℕ) (y d : X) → i < length xs → p (get_or xs i d) ≡ true → p y ≡ false → count_by p (set xs i y) + 1 ≡ count_by p xs
count_falls p xs i y d below was isnt = grind (arith, sum_by-set (λ x. cond (p x) 1 0) xs i y d below)

-- ---- the zone that is closed

implicit_is : (raw : Raw) → is_implicit raw ≡ true → raw ≡ ImplicitOpen
implicit_is NotWp h = absurd (false≢true h)
implicit_is Empty h = absurd (false≢true h)
implicit_is ImplicitOpen h = refl
implicit_is ExplicitOpen h = absurd (false≢true h)
implicit_is Closed h = absurd (false≢true h)
implicit_is Full h = absurd (false≢true h)
implicit_is ReadOnly h = absurd (false≢true h)
implicit_is Offline h = absurd (false≢true h)

-- what is the same of a zone that is closed
closed_keeps : {A : Type 0} (f : State → A) (zones : List State) (i : ℕ) → f (closed (state_in zones i)) ≡ f (state_in zones i) → map f (set zones i (closed (state_in zones i))) ≡ map f zones
closed_keeps f zones i same =
    map-set f zones i (closed (state_in zones i)) ∙ ap (set (map f zones) i) same ∙ sym (map-set f zones i (state_in zones i)) ∙ ap (map f) (set-get_or zones i no_state)

facts_closed : (zone : State) → is_implicit zone.raw ≡ true → facts_in (closed zone) ≡ facts_in zone
facts_closed zone h = ap (λ (raw : Raw). let f : ZoneFacts = record { kind = zone.kind; cond = cond_of raw; held = zone.held; explicit = is_explicit raw } in f) (sym (implicit_is zone.raw h))

active_closed : (zone : State) → is_implicit zone.raw ≡ true → is_active (closed zone).raw ≡ is_active zone.raw
active_closed zone h = ap is_active (sym (implicit_is zone.raw h))

fits_closed : (shape : Shape) (zone : State) → is_implicit zone.raw ≡ true → fits shape zone.kind (closed zone).raw zone.held ≡ fits shape zone.kind zone.raw zone.held
fits_closed shape zone h = ap (λ (raw : Raw). fits shape zone.kind raw zone.held) (sym (implicit_is zone.raw h))

-- ---- the zones where a place is given up

-- What is the same of a zone that is closed is the same at each place.
kept_at : {A : Type 0} (f : State → A) (zones : List State) (o : Option ℕ) (k : ℕ) → first_implicit zones ≡ o → ((zone : State) → is_implicit zone.raw ≡ true → f (closed zone) ≡ f zone)
    → f (state_in (closed_at zones o) k) ≡ f (state_in zones k)
kept_at f zones None k h keeps = refl
kept_at f zones (Some i) k h keeps =
    let p = first_is_implicit zones i h in
    ⊎_elim
    (λ same. ap (λ n. f (get_or (set zones i (closed (state_in zones i))) n no_state)) same ∙ ap f (get_or-set_same zones i (closed (state_in zones i)) no_state p.0) ∙ keeps (state_in zones i) p.1 ∙ ap (λ n. f (state_in zones n)) (sym same))
    (λ other. ap f (get_or-set_other zones i k (closed (state_in zones i)) no_state other))
    (cases_eq k i)

kept_all : {A : Type 0} (f : State → A) (zones : List State) (o : Option ℕ) → first_implicit zones ≡ o → ((zone : State) → is_implicit zone.raw ≡ true → f (closed zone) ≡ f zone) → map f (closed_at zones o) ≡ map f zones
kept_all f zones None h keeps = refl
kept_all f zones (Some i) h keeps = closed_keeps f zones i (keeps (state_in zones i) (first_is_implicit zones i h).1)

kept_count : (p : State → Bool) (zones : List State) (o : Option ℕ) → first_implicit zones ≡ o → ((zone : State) → is_implicit zone.raw ≡ true → p (closed zone) ≡ p zone) → count_by p (closed_at zones o) ≡ count_by p zones
kept_count p zones None h keeps = refl
kept_count p zones (Some i) h keeps =
    let q = first_is_implicit zones i h in
    count_by-set_same p zones i (closed (state_in zones i)) no_state q.0 (keeps (state_in zones i) q.1)

kept_length : (zones : List State) (o : Option ℕ) → length (closed_at zones o) ≡ length zones
kept_length zones None = refl
kept_length zones (Some i) = length-set zones i (closed (state_in zones i))

-- the same where a zone is closed or not
by_limit : {A : Type 0} (f : List State → A) (shape : Shape) (zones : List State) → f (closed_at zones (first_implicit zones)) ≡ f zones → f (with_open_place shape zones) ≡ f zones
by_limit f shape zones h = by_test (is_reached shape.max_open (open_in zones))
  where
    by_test : (b : Bool) → f (if b then closed_at zones (first_implicit zones) else zones) ≡ f zones
    by_test true = h
    by_test false = refl

by_places : {A : Type 0} (f : List State → A) (shape : Shape) (zones : List State) (places : Places) → f (closed_at zones (first_implicit zones)) ≡ f zones → f (with_places shape zones places) ≡ f zones
by_places f shape zones NoPlace h = refl
by_places f shape zones OpenPlace h = by_limit f shape zones h
by_places f shape zones BothPlaces h = by_limit f shape zones h

-- the facts stay
pub facts-with_places : (shape : Shape) (zones : List State) (places : Places) → map facts_in (with_places shape zones places) ≡ map facts_in zones
facts-with_places shape zones places = by_places (map facts_in) shape zones places (kept_all facts_in zones (first_implicit zones) refl facts_closed)

kinds-with_places : (shape : Shape) (zones : List State) (places : Places) → map (λ (zone : State). zone.kind) (with_places shape zones places) ≡ map (λ (zone : State). zone.kind) zones
kinds-with_places shape zones places = by_places (map (λ (zone : State). zone.kind)) shape zones places (kept_all (λ zone. zone.kind) zones (first_implicit zones) refl (λ zone h. refl))

pub active-with_places : (shape : Shape) (zones : List State) (places : Places) → active_in (with_places shape zones places) ≡ active_in zones
active-with_places shape zones places = by_places active_in shape zones places (kept_count (λ zone. is_active zone.raw) zones (first_implicit zones) refl active_closed)

pub length-with_places : (shape : Shape) (zones : List State) (places : Places) → length (with_places shape zones places) ≡ length zones
length-with_places shape zones places = by_places length shape zones places (kept_length zones (first_implicit zones))

active_at-with_places : (shape : Shape) (zones : List State) (places : Places) (k : ℕ) → is_active (state_in (with_places shape zones places) k).raw ≡ is_active (state_in zones k).raw
active_at-with_places shape zones places k =
    by_places (λ zs. is_active (state_in zs k).raw) shape zones places (kept_at (λ zone. is_active zone.raw) zones (first_implicit zones) k refl active_closed)

fits_at-with_places : (shape : Shape) (zones : List State) (places : Places) (k : ℕ)
    → fits shape (state_in (with_places shape zones places) k).kind (state_in (with_places shape zones places) k).raw (state_in (with_places shape zones places) k).held
    ≡ fits shape (state_in zones k).kind (state_in zones k).raw (state_in zones k).held
fits_at-with_places shape zones places k =
    by_places (λ zs. fits shape (state_in zs k).kind (state_in zs k).raw (state_in zs k).held) shape zones places
    (kept_at (λ zone. fits shape zone.kind zone.raw zone.held) zones (first_implicit zones) k refl (fits_closed shape))

-- ---- a step of a zone

-- a zone becomes active only where it was, or takes a place
active_needs : (raw : Raw) (step : Step) → is_active (next raw step) ≡ true → (is_active raw ≡ true) ⊎ (needs raw step ≡ BothPlaces)
active_needs Empty (Write fills) h = inr refl
active_needs Empty Open h = inr refl
active_needs Empty (Close written) h = absurd (false≢true h)
active_needs Empty Reset h = absurd (false≢true h)
active_needs Empty Finish h = absurd (false≢true h)
active_needs ImplicitOpen step h = inl refl
active_needs ExplicitOpen step h = inl refl
active_needs Closed step h = inl refl
active_needs Full (Write fills) h = absurd (false≢true h)
active_needs Full Open h = absurd (false≢true h)
active_needs Full (Close written) h = absurd (false≢true h)
active_needs Full Reset h = absurd (false≢true h)
active_needs Full Finish h = absurd (false≢true h)
active_needs NotWp step h = absurd (false≢true h)
active_needs ReadOnly step h = absurd (false≢true h)
active_needs Offline step h = absurd (false≢true h)

-- a zone becomes open only where it was, or takes a place
open_needs : (raw : Raw) (step : Step) → needs raw step ≡ NoPlace → is_open (next raw step) ≡ true → is_open raw ≡ true
open_needs Empty (Write fills) none h = cc
open_needs Empty Open none h = cc
open_needs Empty (Close written) none h = h
open_needs Empty Reset none h = h
open_needs Empty Finish none h = h
open_needs ImplicitOpen step none h = refl
open_needs ExplicitOpen step none h = refl
open_needs Closed (Write fills) none h = cc
open_needs Closed Open none h = cc
open_needs Closed (Close written) none h = h
open_needs Closed Reset none h = h
open_needs Closed Finish none h = h
open_needs Full (Write fills) none h = h
open_needs Full Open none h = h
open_needs Full (Close written) none h = h
open_needs Full Reset none h = h
open_needs Full Finish none h = h
open_needs NotWp step none h = h
open_needs ReadOnly step none h = h
open_needs Offline step none h = h

-- where a place isn't refused, there is one
open_place : (shape : Shape) (zones : List State) → (0 < shape.max_open → open_in zones ≤ shape.max_open) → no_open_place shape zones ≡ None → 0 < shape.max_open → open_in (with_open_place shape zones) < shape.max_open
open_place shape zones within free on = by_test (is_reached shape.max_open (open_in zones)) refl
  where
    by_first : (o : Option ℕ) → first_implicit zones ≡ o → (if true && is_none o then Some TooManyOpen else None) ≡ None → open_in (closed_at zones o) < shape.max_open
    by_first None h none = cc
    by_first (Some i) h none =
        let p = first_is_implicit zones i h in
        let falls = count_falls (λ (s : State). is_open s.raw) zones i (closed (state_in zones i)) no_state p.0 (ap is_open (implicit_is (state_in zones i).raw p.1)) refl in
        let w : open_in zones ≤ shape.max_open = within on in
        omega (arith, falls)

    by_test : (b : Bool) → is_reached shape.max_open (open_in zones) ≡ b → open_in (if b then closed_at zones (first_implicit zones) else zones) < shape.max_open
    by_test true h = by_first (first_implicit zones) refl (sym (ap (λ b. if b && is_none (first_implicit zones) then Some TooManyOpen else None) h) ∙ free)
    by_test false h = grind (arith, nat_tests)

active_place : (shape : Shape) (zones : List State) → no_places shape zones BothPlaces ≡ None → 0 < shape.max_active → active_in zones < shape.max_active
active_place shape zones free on = by_test (is_reached shape.max_active (active_in zones)) refl
  where
    by_test : (b : Bool) → is_reached shape.max_active (active_in zones) ≡ b → active_in zones < shape.max_active
    by_test true h = absurd (let e : Some TooManyActive ≡ None = sym (ap (λ b. if b then Some TooManyActive else no_open_place shape zones) h) ∙ free in cc)
    by_test false h = grind (arith, nat_tests)

open_free : (shape : Shape) (zones : List State) (places : Places) → (places ≡ NoPlace → ⊥) → no_places shape zones places ≡ None → (no_open_place shape zones ≡ None) × (with_places shape zones places ≡ with_open_place shape zones)
open_free shape zones NoPlace some free = absurd (some refl)
open_free shape zones OpenPlace some free = (free, refl)
open_free shape zones BothPlaces some free = (by_test (is_reached shape.max_active (active_in zones)) free, refl)
  where
    by_test : (b : Bool) → (if b then Some TooManyActive else no_open_place shape zones) ≡ None → no_open_place shape zones ≡ None
    by_test true h = cc
    by_test false h = h

-- the zone after the step
taken : State → Step → ℕ → State
taken zone step held = record zone { raw = next zone.raw step; held = held }

is_no_place : (places : Places) → (places ≡ NoPlace) ⊎ (places ≡ NoPlace → ⊥)
is_no_place NoPlace = inl refl
is_no_place OpenPlace = inr (λ e. cc)
is_no_place BothPlaces = inr (λ e. cc)

-- the open zones stay within the limit
open_within : (shape : Shape) (zones : List State) (z : ℕ) (step : Step) (held : ℕ) → (0 < shape.max_open → open_in zones ≤ shape.max_open) → z < length zones
    → no_places shape zones (needs (state_in zones z).raw step) ≡ None → 0 < shape.max_open → open_in (stepped shape zones z step held) ≤ shape.max_open
unfolding taken
open_within shape zones z step held within below free on =
    let places = needs (state_in zones z).raw step in
    let there : z < length (with_places shape zones places) = omega (arith, length-with_places shape zones places) in
    ⊎_elim
    (λ none.
    let same : with_places shape zones places ≡ zones = ap (with_places shape zones) none in
    let k = count_kept (λ (s : State). is_open s.raw) zones z (taken (state_in zones z) step held) no_state below (open_needs (state_in zones z).raw step none) in
    let w : open_in zones ≤ shape.max_open = within on in
    let e = ap (λ zs. open_in (set zs z (taken (state_in zones z) step held))) same in
    omega (arith, k, w, e))
    (λ some.
    let f = open_free shape zones places some free in
    let p = open_place shape zones within f.0 on in
    let r = count_rises (λ (s : State). is_open s.raw) (with_places shape zones places) z (taken (state_in zones z) step held) no_state there in
    omega (arith, p, r, ap open_in f.1))
    (is_no_place places)

-- the active zones stay within the limit
active_within : (shape : Shape) (zones : List State) (z : ℕ) (step : Step) (held : ℕ) → (0 < shape.max_active → active_in zones ≤ shape.max_active) → z < length zones
    → no_places shape zones (needs (state_in zones z).raw step) ≡ None → 0 < shape.max_active → active_in (stepped shape zones z step held) ≤ shape.max_active
unfolding taken
active_within shape zones z step held within below free on =
    let places = needs (state_in zones z).raw step in
    let there : z < length (with_places shape zones places) = omega (arith, length-with_places shape zones places) in
    let was = active_at-with_places shape zones places z in
    let same = active-with_places shape zones places in
    let w : active_in zones ≤ shape.max_active = within on in
    ⊎_elim
    (λ is. ⊎_elim
    (λ before.
    let k = count_kept (λ (s : State). is_active s.raw) (with_places shape zones places) z (taken (state_in zones z) step held) no_state there (λ _. was ∙ before) in
    omega (arith, k, same, w))
    (λ both.
    let r = count_rises (λ (s : State). is_active s.raw) (with_places shape zones places) z (taken (state_in zones z) step held) no_state there in
    let p = active_place shape zones (subst (λ (q : Places). no_places shape zones q ≡ None) both free) on in
    omega (arith, r, same, p))
    (active_needs (state_in zones z).raw step is))
    (λ isnt.
    let k = count_kept (λ (s : State). is_active s.raw) (with_places shape zones places) z (taken (state_in zones z) step held) no_state there (λ yes. absurd (false≢true (sym isnt ∙ yes))) in
    omega (arith, k, same, w))
    (cases_Bool (is_active (next (state_in zones z).raw step)))

-- A step that isn't refused keeps the machine sound, where the zone fits afterwards.
pub step_sound : (m : Machine) (z : ℕ) (step : Step) (held : ℕ) → IsSoundMachine m → z < length m.zones → no_places m.shape m.zones (needs (state_at m z).raw step) ≡ None
    → IsTrue (fits m.shape (state_at m z).kind (next (state_at m z).raw step) held) → IsSoundMachine (record m { zones = stepped m.shape m.zones z step held })
unfolding taken
step_sound m z step held sound below free fit =
    let places = needs (state_at m z).raw step in
    let there : z < length (with_places m.shape m.zones places) = omega (arith, length-with_places m.shape m.zones places) in
    let new = taken (state_at m z) step held in
    record {
      capacity = sound.capacity;
      count = omega (arith, sound.count, length-set (with_places m.shape m.zones places) z new, length-with_places m.shape m.zones places);
      zones = λ k inside. ⊎_elim
          (λ same. subst (λ (zone : State). IsTrue (fits m.shape zone.kind zone.raw zone.held))
          (sym (ap (λ n. get_or (set (with_places m.shape m.zones places) z new) n no_state) same ∙ get_or-set_same (with_places m.shape m.zones places) z new no_state there)) fit)
          (λ other. subst (λ (zone : State). IsTrue (fits m.shape zone.kind zone.raw zone.held))
          (sym (get_or-set_other (with_places m.shape m.zones places) z k new no_state other))
          (fits_at-with_places m.shape m.zones places k ∙ sound.zones k (omega (arith, inside, length-set (with_places m.shape m.zones places) z new, length-with_places m.shape m.zones places))))
          (cases_eq k z);
      active = active_within m.shape m.zones z step held sound.active below free;
      opened = open_within m.shape m.zones z step held sound.opened below free;
    }

-- a zone in the place of one of its kind
pub kinds-set : (zones all : List State) (z : ℕ) (new : State) → map (λ (zone : State). zone.kind) zones ≡ map (λ (zone : State). zone.kind) all → new.kind ≡ (state_in all z).kind
    → map (λ (zone : State). zone.kind) (set zones z new) ≡ map (λ (zone : State). zone.kind) all
kinds-set zones all z new same kind =
    map-set (λ (zone : State). zone.kind) zones z new
    ∙ ap (λ ks. set ks z new.kind) same
    ∙ ap (set (map (λ (zone : State). zone.kind) all) z) kind
    ∙ sym (map-set (λ (zone : State). zone.kind) all z (state_in all z))
    ∙ ap (map (λ (zone : State). zone.kind)) (set-get_or all z no_state)

-- A step changes no kind.
pub geometry-stepped : (m : Machine) (z : ℕ) (step : Step) (held : ℕ) → geometry_in (record m { zones = stepped m.shape m.zones z step held }) ≡ geometry_in m
geometry-stepped m z step held =
    ap (λ kinds. let g : Geometry = record { shape = m.shape; kinds = kinds } in g)
    (kinds-set (with_places m.shape m.zones (needs (state_at m z).raw step)) m.zones z (record (state_at m z) { raw = next (state_at m z).raw step; held = held })
    (kinds-with_places m.shape m.zones (needs (state_at m z).raw step)) refl)
