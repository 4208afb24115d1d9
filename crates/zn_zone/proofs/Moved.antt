-- Turns of condition, cuts and rests: the machine stays sound, and what becomes of its facts.
use Rattle.std.proofs.Common.{◌≡◌, ◌≢◌, ◌⊎◌, inl, inr, ⊎_elim, ℕ, ◌<◌, ◌≤◌, Bool, true, false, cond, List, [], ◌∷◌, length, map, set, get_or, refl, sym, ap, ◌∙◌, subst, arith}
use Rattle.std.specs.Prelude.{count_by, ◌&&◌, ◌==◌, nat_lt, IsTrue, if◌then◌else◌}
use Rattle.std.proofs.lemmas.Bool.{false≢true, cases_Bool, cases_eq}
use Rattle.std.proofs.lemmas.Bool.Decides.{nat_tests}
use Rattle.std.proofs.lemmas.List.{map-set, length-set, length-map, get_or-set_same, get_or-set_other}
use Rattle.std.proofs.lemmas.List.Sums.{sum_by-le-sum_by}
use Rattle.std.proofs.Math.ListN.{get_or-map}
use Rattle.zn_truth.specs.declared.Kind.{Kind}
use Rattle.zn_truth.specs.declared.Kind.TheVariants.{Conventional, Sequential}
use Rattle.zn_truth.specs.declared.Cond.{Cond}
use Rattle.zn_truth.specs.declared.Cond.TheVariants.{Good, ReadOnly as read_only, Offline as offline}
use Rattle.zn_truth.specs.declared.Shape.{Shape}
use Rattle.zn_truth.specs.Truth.{Geometry, Zone, zone_at}
use Rattle.zn_truth.specs.Loss.{turned, turned_by}
use Rattle.zn_truth.specs.Inject.{severity}
use Rattle.zn_zone.specs.declared.Raw.{Raw}
use Rattle.zn_zone.specs.declared.Raw.TheVariants.{NotWp, Empty, ImplicitOpen, ExplicitOpen, Closed, Full, ReadOnly, Offline}
use Rattle.zn_zone.specs.declared.state.State.{State}
use Rattle.zn_zone.specs.Facts.{ZoneFacts, Facts, zone_facts, facts_of, bare_zone, bare, with_facts, with_held, rested}
use Rattle.zn_zone.specs.Table.{is_explicit, is_open, is_active, cond_of}
use Rattle.zn_zone.specs.Machine.{Machine, no_state, state_in, state_at, with_state, facts_in, facts, geometry_in, active_in, open_in, turned_to, resting, raw_cut, cut_to, raw_at_rest, at_rest, fits, HasActivePlace, IsSoundMachine}
use Rattle.zn_truth.proofs.Sound.{count_by-map}
use Rattle.zn_zone.proofs.ByFacts.{map-map, facts_of-with_zone_bare}
use Rattle.zn_zone.proofs.Refusals.{zone_at-facts}
use Rattle.zn_zone.proofs.Steps.{count_kept, count_rises, kinds-set}

-- ---- a zone in the place of another

-- A count stays within a limit, where the new zone counts only if the old one did or there is room.
limit_kept : (p : State → Bool) (zones : List State) (z : ℕ) (new : State) (limit : ℕ) → z < length zones → (0 < limit → count_by p zones ≤ limit)
    → (p new ≡ true → (p (state_in zones z) ≡ true) ⊎ (0 < limit → count_by p zones < limit)) → 0 < limit → count_by p (set zones z new) ≤ limit
limit_kept p zones z new limit below within why on =
    let w : count_by p zones ≤ limit = within on in
    ⊎_elim
    (λ yes. ⊎_elim
    (λ was. let k = count_kept p zones z new no_state below (λ _. was) in omega (arith, k, w))
    (λ free. let k = count_rises p zones z new no_state below in let f : count_by p zones < limit = free on in omega (arith, k, f))
    (why yes))
    (λ no. let k = count_kept p zones z new no_state below (λ yes. absurd (false≢true (sym no ∙ yes))) in omega (arith, k, w))
    (cases_Bool (p new))

with_state_sound : (m : Machine) (z : ℕ) (new : State) → IsSoundMachine m → z < length m.zones → IsTrue (fits m.shape new.kind new.raw new.held)
    → (is_active new.raw ≡ true → (is_active (state_at m z).raw ≡ true) ⊎ (0 < m.shape.max_active → active_in m.zones < m.shape.max_active))
    → (is_open new.raw ≡ true → is_open (state_at m z).raw ≡ true) → IsSoundMachine (with_state m z new)
with_state_sound m z new sound below fit act opened = record {
  capacity = sound.capacity;
  count = omega (arith, sound.count, length-set m.zones z new);
  zones = λ k inside. ⊎_elim
      (λ same. subst (λ (zone : State). IsTrue (fits m.shape zone.kind zone.raw zone.held)) (sym (ap (λ n. get_or (set m.zones z new) n no_state) same ∙ get_or-set_same m.zones z new no_state below)) fit)
      (λ other. subst (λ (zone : State). IsTrue (fits m.shape zone.kind zone.raw zone.held)) (sym (get_or-set_other m.zones z k new no_state other)) (sound.zones k (omega (arith, inside, length-set m.zones z new))))
      (cases_eq k z);
  active = limit_kept (λ zone. is_active zone.raw) m.zones z new m.shape.max_active below sound.active act;
  opened = limit_kept (λ zone. is_open zone.raw) m.zones z new m.shape.max_open below sound.opened (λ h. inl (opened h));
}

facts-with_state : (m : Machine) (z : ℕ) (new : State) → facts (with_state m z new) ≡ with_facts (facts m) z (facts_in new)
facts-with_state m z new = ap (λ zs. let f : Facts = record { shape = m.shape; zones = zs } in f) (map-set facts_in m.zones z new)

-- ---- turns

fits_read_only : (shape : Shape) (kind : Kind) (raw : Raw) (held : ℕ) → IsTrue (fits shape kind raw held) → cond_of raw ≡ Good → IsTrue (fits shape kind ReadOnly held)
fits_read_only shape Conventional NotWp held fit good = fit
fits_read_only shape Conventional Empty held fit good = absurd (false≢true fit)
fits_read_only shape Conventional ImplicitOpen held fit good = absurd (false≢true fit)
fits_read_only shape Conventional ExplicitOpen held fit good = absurd (false≢true fit)
fits_read_only shape Conventional Closed held fit good = absurd (false≢true fit)
fits_read_only shape Conventional Full held fit good = absurd (false≢true fit)
fits_read_only shape Conventional ReadOnly held fit good = fit
fits_read_only shape Conventional Offline held fit good = cc
fits_read_only shape Sequential NotWp held fit good = absurd (false≢true fit)
fits_read_only shape Sequential Empty held fit good = grind (arith, nat_tests)
fits_read_only shape Sequential ImplicitOpen held fit good = grind (arith, nat_tests)
fits_read_only shape Sequential ExplicitOpen held fit good = grind (arith, nat_tests)
fits_read_only shape Sequential Closed held fit good = grind (arith, nat_tests)
fits_read_only shape Sequential Full held fit good = grind (arith, nat_tests)
fits_read_only shape Sequential ReadOnly held fit good = fit
fits_read_only shape Sequential Offline held fit good = cc

was_good : (c : Cond) → severity c < severity read_only → c ≡ Good
was_good Good h = refl
was_good read_only h = absurd (omega arith)
was_good offline h = absurd (omega arith)

not_good : (c : Cond) → severity c < severity Good → ⊥
not_good Good h = omega arith
not_good read_only h = omega arith
not_good offline h = omega arith

-- A zone that turns to a worse condition leaves the machine sound.
pub turned_sound : (to : Cond) (m : Machine) (z : ℕ) → IsSoundMachine m → z < length m.zones → severity (cond_of (state_at m z).raw) < severity to → IsSoundMachine (with_state m z (turned_to to (state_at m z)))
turned_sound Good m z sound below worse = absurd (not_good (cond_of (state_at m z).raw) worse)
turned_sound read_only m z sound below worse =
    with_state_sound m z (turned_to read_only (state_at m z)) sound below
    (fits_read_only m.shape (state_at m z).kind (state_at m z).raw (state_at m z).held (sound.zones z below) (was_good (cond_of (state_at m z).raw) worse))
    (λ h. absurd (false≢true h)) (λ h. absurd (false≢true h))
turned_sound offline m z sound below worse =
    with_state_sound m z (turned_to offline (state_at m z)) sound below refl (λ h. absurd (false≢true h)) (λ h. absurd (false≢true h))

turned_zone : (to : Cond) (zone : State) → (to ≡ Good → ⊥) → facts_in (turned_to to zone) ≡ zone_facts (turned_by to (bare_zone (facts_in zone)))
turned_zone Good zone h = absurd (h refl)
turned_zone read_only zone h = refl
turned_zone offline zone h = refl

-- Its facts are those of the truth's turn.
pub turned_facts : (to : Cond) (m : Machine) (z : ℕ) → severity (cond_of (state_at m z).raw) < severity to → facts (with_state m z (turned_to to (state_at m z))) ≡ facts_of (turned (bare (facts m)) z to)
unfolding turned
turned_facts to m z worse =
    facts-with_state m z (turned_to to (state_at m z))
    ∙ ap (with_facts (facts m) z) (turned_zone to (state_at m z) (λ e. not_good (cond_of (state_at m z).raw) (subst (λ c. severity (cond_of (state_at m z).raw) < severity c) e worse)))
    ∙ ap (λ (zone : Zone). with_facts (facts m) z (zone_facts (turned_by to zone))) (sym (zone_at-facts m z))
    ∙ sym (facts_of-with_zone_bare (facts m) z (turned_by to (zone_at (bare (facts m)) z)))

-- ---- cuts

pub fits_resting : (shape : Shape) (len : ℕ) → len ≤ shape.zone_capacity → IsTrue (fits shape Sequential (resting shape len) len)
fits_resting shape len within = by_zero (len == 0) refl
  where
    by_full : (b : Bool) → (len == 0) ≡ false → (len == shape.zone_capacity) ≡ b → IsTrue (fits shape Sequential (if b then Full else Closed) len)
    by_full true some h = h
    by_full false some h = grind (arith, nat_tests)

    by_zero : (b : Bool) → (len == 0) ≡ b → IsTrue (fits shape Sequential (if b then Empty else if len == shape.zone_capacity then Full else Closed) len)
    by_zero true h = h
    by_zero false h = by_full (len == shape.zone_capacity) h refl

fits_cut_open : (shape : Shape) (raw : Raw) (held len : ℕ) → nat_lt 0 held && nat_lt held shape.zone_capacity ≡ true → len ≤ held → fits shape Sequential raw len ≡ (nat_lt 0 len && nat_lt len shape.zone_capacity)
    → IsTrue (fits shape Sequential (if len == 0 then Empty else raw) len)
fits_cut_open shape raw held len fit within as_open = by_zero (len == 0) refl
  where
    by_zero : (b : Bool) → (len == 0) ≡ b → IsTrue (fits shape Sequential (if b then Empty else raw) len)
    by_zero true h = h
    by_zero false h = as_open ∙ grind (arith, nat_tests)

fits_cut : (shape : Shape) (raw : Raw) (held len : ℕ) → IsTrue (fits shape Sequential raw held) → len ≤ held → IsTrue (fits shape Sequential (raw_cut shape raw len) len)
fits_cut shape NotWp held len fit within = absurd (false≢true fit)
fits_cut shape Empty held len fit within = grind (arith, nat_tests)
fits_cut shape ImplicitOpen held len fit within = fits_cut_open shape ImplicitOpen held len fit within refl
fits_cut shape ExplicitOpen held len fit within = grind (arith, nat_tests)
fits_cut shape Closed held len fit within = fits_cut_open shape Closed held len fit within refl
fits_cut shape Full held len fit within = fits_resting shape len (grind (arith, nat_tests))
fits_cut shape ReadOnly held len fit within = grind (arith, nat_tests)
fits_cut shape Offline held len fit within = grind (arith, nat_tests)

-- only a full zone can become active by a cut, where something is left of it
active_cut : (shape : Shape) (raw : Raw) (len : ℕ) → is_active (raw_cut shape raw len) ≡ true → (is_active raw ≡ true) ⊎ ((raw ≡ Full) × (len ≢ 0) × (len ≢ shape.zone_capacity))
active_cut shape NotWp len h = absurd (false≢true h)
active_cut shape Empty len h = absurd (false≢true h)
active_cut shape ImplicitOpen len h = inl refl
active_cut shape ExplicitOpen len h = inl refl
active_cut shape Closed len h = inl refl
active_cut shape Full len h = inr (refl, by_zero (len == 0) refl h, by_full (len == 0) (len == shape.zone_capacity) refl h)
  where
    by_zero : (b : Bool) → (len == 0) ≡ b → is_active (if b then Empty else if len == shape.zone_capacity then Full else Closed) ≡ true → len ≢ 0
    by_zero true is k = absurd (false≢true k)
    by_zero false is k = grind (arith, nat_tests)

    by_full : (z b : Bool) → (len == shape.zone_capacity) ≡ b → is_active (if z then Empty else if b then Full else Closed) ≡ true → len ≢ shape.zone_capacity
    by_full true b is k = absurd (false≢true k)
    by_full false true is k = absurd (false≢true k)
    by_full false false is k = grind (arith, nat_tests)
active_cut shape ReadOnly len h = absurd (false≢true h)
active_cut shape Offline len h = absurd (false≢true h)

pub resting_rests : (shape : Shape) (len : ℕ) → (is_open (resting shape len) ≡ false) × (is_explicit (resting shape len) ≡ false) × (cond_of (resting shape len) ≡ Good)
resting_rests shape len = by_tests (len == 0) (len == shape.zone_capacity)
  where
    by_tests : (z b : Bool) → (is_open (if z then Empty else if b then Full else Closed) ≡ false) × (is_explicit (if z then Empty else if b then Full else Closed) ≡ false) × (cond_of (if z then Empty else if b then Full else Closed) ≡ Good)
    by_tests true b = (refl, refl, refl)
    by_tests false true = (refl, refl, refl)
    by_tests false false = (refl, refl, refl)

open_cut : (shape : Shape) (raw : Raw) (len : ℕ) → is_open (raw_cut shape raw len) ≡ true → is_open raw ≡ true
open_cut shape NotWp len h = h
open_cut shape Empty len h = h
open_cut shape ImplicitOpen len h = refl
open_cut shape ExplicitOpen len h = refl
open_cut shape Closed len h = by_zero (len == 0) h
  where
    by_zero : (b : Bool) → is_open (if b then Empty else Closed) ≡ true → false ≡ true
    by_zero true k = k
    by_zero false k = k
open_cut shape Full len h = absurd (false≢true (sym (resting_rests shape len).0 ∙ h))
open_cut shape ReadOnly len h = h
open_cut shape Offline len h = h

-- A cut leaves the machine sound.
pub cut_sound : (m : Machine) (z len : ℕ) → IsSoundMachine m → z < length m.zones → (state_at m z).kind ≡ Sequential → len ≤ (state_at m z).held
    → ((state_at m z).raw ≡ Full → len ≢ 0 → len ≢ m.shape.zone_capacity → 0 < m.shape.max_active → active_in m.zones < m.shape.max_active) → IsSoundMachine (with_state m z (cut_to m.shape (state_at m z) len))
cut_sound m z len sound below kind within place =
    with_state_sound m z (cut_to m.shape (state_at m z) len) sound below
    (subst (λ (k : Kind). IsTrue (fits m.shape k (raw_cut m.shape (state_at m z).raw len) len)) (sym kind)
    (fits_cut m.shape (state_at m z).raw (state_at m z).held len (subst (λ (k : Kind). IsTrue (fits m.shape k (state_at m z).raw (state_at m z).held)) kind (sound.zones z below)) within))
    (λ h. ⊎_elim (λ was. inl was) (λ full. inr (place full.0 full.1 full.2)) (active_cut m.shape (state_at m z).raw len h))
    (open_cut m.shape (state_at m z).raw len)

cut_zone : (shape : Shape) (kind : Kind) (raw : Raw) (held len : ℕ)
    → facts_in (record { kind = kind; raw = raw_cut shape raw len; held = len }) ≡ record { kind = kind; cond = cond_of raw; held = len; explicit = is_explicit raw }
cut_zone shape kind NotWp held len = refl
cut_zone shape kind Empty held len = refl
cut_zone shape kind ImplicitOpen held len = by_zero (len == 0)
  where
    by_zero : (b : Bool) → facts_in (record { kind = kind; raw = if b then Empty else ImplicitOpen; held = len }) ≡ record { kind = kind; cond = Good; held = len; explicit = false }
    by_zero true = refl
    by_zero false = refl
cut_zone shape kind ExplicitOpen held len = refl
cut_zone shape kind Closed held len = by_zero (len == 0)
  where
    by_zero : (b : Bool) → facts_in (record { kind = kind; raw = if b then Empty else Closed; held = len }) ≡ record { kind = kind; cond = Good; held = len; explicit = false }
    by_zero true = refl
    by_zero false = refl
cut_zone shape kind Full held len =
    let r = resting_rests shape len in
    ap (λ (c : Cond). let f : ZoneFacts = record { kind = kind; cond = c; held = len; explicit = is_explicit (resting shape len) } in f) r.2
    ∙ ap (λ (b : Bool). let f : ZoneFacts = record { kind = kind; cond = Good; held = len; explicit = b } in f) r.1
cut_zone shape kind ReadOnly held len = refl
cut_zone shape kind Offline held len = refl

-- Of its facts a cut changes the blocks held alone.
pub cut_facts : (m : Machine) (z len : ℕ) → facts (with_state m z (cut_to m.shape (state_at m z) len)) ≡ with_held (facts m) z len
cut_facts m z len =
    facts-with_state m z (cut_to m.shape (state_at m z) len)
    ∙ ap (with_facts (facts m) z) (cut_zone m.shape (state_at m z).kind (state_at m z).raw (state_at m z).held len)
    ∙ ap (λ (zone : ZoneFacts). with_facts (facts m) z (record zone { held = len })) (sym (get_or-map facts_in m.zones z no_state))

-- ---- rests

count_by-less : {X : Type 0} (p q : X → Bool) (xs : List X) → ((x : X) → p x ≡ true → q x ≡ true) → count_by p xs ≤ count_by q xs
count_by-less p q xs h = sum_by-le-sum_by (λ x. cond (p x) 1 0) (λ x. cond (q x) 1 0) xs (λ x. by_test (p x) (q x) (h x))
  where
    by_test : (a b : Bool) → (a ≡ true → b ≡ true) → cond a 1 0 ≤ cond b 1 0
    by_test true b k = grind arith
    by_test false b k = grind arith

fits_rest : (shape : Shape) (kind : Kind) (raw : Raw) (held : ℕ) → IsTrue (fits shape kind raw held) → IsTrue (fits shape kind (raw_at_rest raw held) held)
fits_rest shape kind NotWp held fit = fit
fits_rest shape kind Empty held fit = fit
fits_rest shape kind ImplicitOpen held fit = fit
fits_rest shape Conventional ExplicitOpen held fit = absurd (false≢true fit)
fits_rest shape Sequential ExplicitOpen held fit = by_zero (held == 0) refl
  where
    by_zero : (b : Bool) → (held == 0) ≡ b → IsTrue (fits shape Sequential (if b then Empty else Closed) held)
    by_zero true h = h
    by_zero false h = grind (arith, nat_tests)
fits_rest shape kind Closed held fit = fit
fits_rest shape kind Full held fit = fit
fits_rest shape kind ReadOnly held fit = fit
fits_rest shape kind Offline held fit = fit

-- no zone is open, and none becomes active
rest_raw : (raw : Raw) (held : ℕ) → (is_open (raw_at_rest raw held) ≡ true → is_open raw ≡ true) × (is_active (raw_at_rest raw held) ≡ true → is_active raw ≡ true)
rest_raw NotWp held = (λ h. h, λ h. h)
rest_raw Empty held = (λ h. h, λ h. h)
rest_raw ImplicitOpen held = (λ h. refl, λ h. refl)
rest_raw ExplicitOpen held = (λ h. refl, λ h. refl)
rest_raw Closed held = (λ h. h, λ h. h)
rest_raw Full held = (λ h. h, λ h. h)
rest_raw ReadOnly held = (λ h. h, λ h. h)
rest_raw Offline held = (λ h. h, λ h. h)

count-rest : (p : State → Bool) (zones : List State) → ((zone : State) → p (at_rest zone) ≡ true → p zone ≡ true) → count_by p (map at_rest zones) ≤ count_by p zones
count-rest p zones h = omega (arith, count_by-map p at_rest zones, count_by-less (λ zone. p (at_rest zone)) p zones h)

-- A rest leaves the machine sound.
pub rest_sound : (m : Machine) → IsSoundMachine m → IsSoundMachine (record m { zones = map at_rest m.zones })
rest_sound m sound = record {
  capacity = sound.capacity;
  count = omega (arith, sound.count, length-map m.zones at_rest);
  zones = λ k inside. subst (λ (zone : State). IsTrue (fits m.shape zone.kind zone.raw zone.held)) (sym (get_or-map at_rest m.zones k no_state))
      (fits_rest m.shape (state_at m k).kind (state_at m k).raw (state_at m k).held (sound.zones k (omega (arith, inside, length-map m.zones at_rest))));
  active = λ on. let w : active_in m.zones ≤ m.shape.max_active = sound.active on in omega (arith, w, count-rest (λ zone. is_active zone.raw) m.zones (λ zone. (rest_raw zone.raw zone.held).1));
  opened = λ on. let w : open_in m.zones ≤ m.shape.max_open = sound.opened on in omega (arith, w, count-rest (λ zone. is_open zone.raw) m.zones (λ zone. (rest_raw zone.raw zone.held).0));
}

rest_zone : (kind : Kind) (raw : Raw) (held : ℕ) → facts_in (at_rest (record { kind = kind; raw = raw; held = held })) ≡ record { kind = kind; cond = cond_of raw; held = held; explicit = false }
rest_zone kind NotWp held = refl
rest_zone kind Empty held = refl
rest_zone kind ImplicitOpen held = refl
rest_zone kind ExplicitOpen held = by_zero (held == 0)
  where
    by_zero : (b : Bool) → facts_in (record { kind = kind; raw = if b then Empty else Closed; held = held }) ≡ record { kind = kind; cond = Good; held = held; explicit = false }
    by_zero true = refl
    by_zero false = refl
rest_zone kind Closed held = refl
rest_zone kind Full held = refl
rest_zone kind ReadOnly held = refl
rest_zone kind Offline held = refl

-- Of its facts a rest changes alone that no zone is explicitly open.
pub rest_facts : (m : Machine) → facts (record m { zones = map at_rest m.zones }) ≡ rested (facts m)
rest_facts m = ap (λ zs. let f : Facts = record { shape = m.shape; zones = zs } in f) (zones m.zones)
  where
    zones : (states : List State) → map facts_in (map at_rest states) ≡ map (λ (zone : ZoneFacts). record zone { explicit = false }) (map facts_in states)
    zones [] = refl
    zones (zone ∷ states) =
        ap (λ (f : ZoneFacts). f ∷ map facts_in (map at_rest states)) (rest_zone zone.kind zone.raw zone.held)
        ∙ ap (λ (fs : List ZoneFacts). record { kind = zone.kind; cond = cond_of zone.raw; held = zone.held; explicit = false } ∷ fs) (zones states)

-- ---- kinds

geometry-with_state : (m : Machine) (z : ℕ) (new : State) → new.kind ≡ (state_at m z).kind → geometry_in (with_state m z new) ≡ geometry_in m
geometry-with_state m z new kind = ap (λ kinds. let g : Geometry = record { shape = m.shape; kinds = kinds } in g) (kinds-set m.zones m.zones z new refl kind)

turned_kind : (to : Cond) (zone : State) → (turned_to to zone).kind ≡ zone.kind
turned_kind Good zone = refl
turned_kind read_only zone = refl
turned_kind offline zone = refl

geometry-rest : (m : Machine) → geometry_in (record m { zones = map at_rest m.zones }) ≡ geometry_in m
geometry-rest m = ap (λ kinds. let g : Geometry = record { shape = m.shape; kinds = kinds } in g) (map-map (λ (zone : State). zone.kind) at_rest m.zones)

-- ---- what the machine becomes

pub record IsMoved (old new : Machine) (told : Facts) : Type 0 where
  pub facts : facts new ≡ told
  pub geometry : geometry_in new ≡ geometry_in old
  pub sound : IsSoundMachine new

pub turned_moved : (m old new : Machine) (z : ℕ) (to : Cond) → m ≡ old → IsSoundMachine m → z < length old.zones → severity (cond_of (state_at old z).raw) < severity to
    → new ≡ with_state m z (turned_to to (state_at m z)) → IsMoved old new (facts_of (turned (bare (facts old)) z to))
turned_moved m old new z to same sound below worse is =
    let moved : new ≡ with_state old z (turned_to to (state_at old z)) = is ∙ ap (λ (v : Machine). with_state v z (turned_to to (state_at v z))) same in
    record {
      facts = ap facts moved ∙ turned_facts to old z worse;
      geometry = ap geometry_in moved ∙ geometry-with_state old z (turned_to to (state_at old z)) (turned_kind to (state_at old z));
      sound = subst IsSoundMachine (sym moved) (turned_sound to old z (subst IsSoundMachine same sound) below worse);
    }

pub cut_moved : (m old new : Machine) (z len : ℕ) → m ≡ old → IsSoundMachine m → z < length old.zones → (state_at old z).kind ≡ Sequential → len ≤ (state_at old z).held
    → ((state_at old z).raw ≡ Full → len ≢ 0 → len ≢ old.shape.zone_capacity → HasActivePlace old) → new ≡ with_state m z (cut_to m.shape (state_at m z) len) → IsMoved old new (with_held (facts old) z len)
cut_moved m old new z len same sound below kind within place is =
    let moved : new ≡ with_state old z (cut_to old.shape (state_at old z) len) = is ∙ ap (λ (v : Machine). with_state v z (cut_to v.shape (state_at v z) len)) same in
    record {
      facts = ap facts moved ∙ cut_facts old z len;
      geometry = ap geometry_in moved ∙ geometry-with_state old z (cut_to old.shape (state_at old z) len) refl;
      sound = subst IsSoundMachine (sym moved) (cut_sound old z len (subst IsSoundMachine same sound) below kind within place);
    }

pub rest_moved : (m old new : Machine) → m ≡ old → IsSoundMachine m → new ≡ record m { zones = map at_rest m.zones } → IsMoved old new (rested (facts old))
rest_moved m old new same sound is =
    let moved : new ≡ record old { zones = map at_rest old.zones } = is ∙ ap (λ (v : Machine). let w : Machine = record v { zones = map at_rest v.zones } in w) same in
    record { facts = ap facts moved ∙ rest_facts old; geometry = ap geometry_in moved ∙ geometry-rest old; sound = subst IsSoundMachine (sym moved) (rest_sound old (subst IsSoundMachine same sound)) }
