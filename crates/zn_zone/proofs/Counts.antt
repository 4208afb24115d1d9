-- What is counted over the machine's zones.
use Rattle.std.proofs.Common.{◌≡◌, ℕ, ◌+◌, ◌<◌, ◌≤◌, Bool, true, false, cond, List, [], ◌∷◌, length, map, get_or, Option, Some, None, refl, sym, ap, ◌∙◌, suc, arith}
use Rattle.std.specs.Prelude.{count_by, ◌&&◌, ◌||◌, nat_lt, IsTrue, if◌then◌else◌}
use Rattle.std.proofs.lemmas.Bool.{false≢true}
use Rattle.std.proofs.lemmas.Bool.Decides.{nat_tests}
use Rattle.std.proofs.lemmas.List.Sums.{sum_by-cons, get_or-le-sum_by, fails_before_first}
use Rattle.std.proofs.lemmas.List.Quantifiers.{position-Some}
use Rattle.zn_truth.specs.declared.Kind.{Kind}
use Rattle.zn_truth.specs.declared.Kind.TheVariants.{Conventional, Sequential}
use Rattle.zn_truth.specs.declared.Shape.{Shape}
use Rattle.zn_truth.specs.Truth.{is_active as is_active_zone, active, explicit, is_sequential, is_good, is_reached}
use Rattle.zn_zone.specs.declared.ZoneError.TheVariants.{TooManyOpen}
use Rattle.zn_zone.specs.declared.Raw.{Raw}
use Rattle.zn_zone.specs.declared.Raw.TheVariants.{NotWp, Empty, ImplicitOpen, ExplicitOpen, Closed, Full, ReadOnly, Offline}
use Rattle.zn_zone.specs.declared.state.State.{State}
use Rattle.zn_zone.specs.Facts.{bare_zone, bare}
use Rattle.zn_zone.specs.Table.{is_implicit, is_explicit, is_open, is_active, cond_of}
use Rattle.zn_zone.specs.Machine.{Machine, no_state, state_in, state_at, facts_in, facts, active_in, open_in, first_implicit, no_open_place, fits}
use Rattle.zn_truth.proofs.Sound.{count_by-map}

-- two tests that agree at each place count alike
pub count_by-same : {X : Type 0} (p q : X → Bool) (xs : List X) (d : X) → ((k : ℕ) → k < length xs → p (get_or xs k d) ≡ q (get_or xs k d)) → count_by p xs ≡ count_by q xs
count_by-same p q [] d h = refl
count_by-same p q (x ∷ xs) d h =
    sum_by-cons (λ y. cond (p y) 1 0) x xs
    ∙ ap (λ b. cond b 1 0 + count_by p xs) (h 0 (omega arith))
    ∙ ap (λ n. cond (q x) 1 0 + n) (count_by-same p q xs d (λ k below. h (suc k) (omega arith)))
    ∙ sym (sum_by-cons (λ y. cond (q y) 1 0) x xs)

-- a condition that fits is active exactly where the facts say so
pub active_fits : (shape : Shape) (kind : Kind) (raw : Raw) (held : ℕ) → IsTrue (fits shape kind raw held)
    → (is_sequential kind && is_good (cond_of raw) && (is_explicit raw || (nat_lt 0 held && nat_lt held shape.zone_capacity))) ≡ is_active raw
active_fits shape Conventional NotWp held h = refl
active_fits shape Conventional Empty held h = absurd (false≢true h)
active_fits shape Conventional ImplicitOpen held h = absurd (false≢true h)
active_fits shape Conventional ExplicitOpen held h = absurd (false≢true h)
active_fits shape Conventional Closed held h = absurd (false≢true h)
active_fits shape Conventional Full held h = absurd (false≢true h)
active_fits shape Conventional ReadOnly held h = refl
active_fits shape Conventional Offline held h = refl
active_fits shape Sequential NotWp held h = absurd (false≢true h)
active_fits shape Sequential Empty held h = grind (arith, nat_tests)
active_fits shape Sequential ImplicitOpen held h = grind (arith, nat_tests)
active_fits shape Sequential ExplicitOpen held h = refl
active_fits shape Sequential Closed held h = grind (arith, nat_tests)
active_fits shape Sequential Full held h = grind (arith, nat_tests)
active_fits shape Sequential ReadOnly held h = refl
active_fits shape Sequential Offline held h = refl

-- the machine's active zones are those of its facts
pub active-facts : (m : Machine) → ((z : ℕ) → z < length m.zones → IsTrue (fits m.shape (state_at m z).kind (state_at m z).raw (state_at m z).held)) → active (bare (facts m)) ≡ active_in m.zones
active-facts m fit =
    count_by-map (is_active_zone m.shape) bare_zone (map facts_in m.zones)
    ∙ count_by-map (λ zone. is_active_zone m.shape (bare_zone zone)) facts_in m.zones
    ∙ count_by-same (λ (zone : State). is_active_zone m.shape (bare_zone (facts_in zone))) (λ (zone : State). is_active zone.raw) m.zones no_state
    (λ k below. active_fits m.shape (state_at m k).kind (state_at m k).raw (state_at m k).held (fit k below))

-- the explicitly open zones
pub explicit_in : List State → ℕ
explicit_in zones = count_by (λ zone. is_explicit zone.raw) zones

implicit_in : List State → ℕ
implicit_in zones = count_by (λ zone. is_implicit zone.raw) zones

pub explicit-facts : (m : Machine) → explicit (bare (facts m)) ≡ explicit_in m.zones
unfolding explicit_in
explicit-facts m =
    count_by-map (λ zone. zone.explicit) bare_zone (map facts_in m.zones) ∙ count_by-map (λ zone. zone.explicit) facts_in m.zones

-- ---- open zones

open_raw : (raw : Raw) → cond (is_open raw) 1 0 ≡ cond (is_explicit raw) 1 0 + cond (is_implicit raw) 1 0
open_raw NotWp = refl
open_raw Empty = refl
open_raw ImplicitOpen = refl
open_raw ExplicitOpen = refl
open_raw Closed = refl
open_raw Full = refl
open_raw ReadOnly = refl
open_raw Offline = refl

-- an open zone is explicitly or implicitly open
open_is_sum : (zones : List State) → open_in zones ≡ explicit_in zones + implicit_in zones
unfolding explicit_in implicit_in
open_is_sum [] = refl
open_is_sum (zone ∷ zones) =
    omega (
      arith,
      open_raw zone.raw,
      open_is_sum zones,
      sum_by-cons (λ (s : State). cond (is_open s.raw) 1 0) zone zones,
      sum_by-cons (λ (s : State). cond (is_explicit s.raw) 1 0) zone zones,
      sum_by-cons (λ (s : State). cond (is_implicit s.raw) 1 0) zone zones,
    )

pub count_none : {X : Type 0} (xs : List X) → count_by (λ _. false) xs ≡ 0
count_none [] = refl
count_none (x ∷ xs) = sum_by-cons (λ _. 0) x xs ∙ ap (λ n. 0 + n) (count_none xs)

-- where no zone is implicitly open, none is counted
implicit_none : (zones : List State) → first_implicit zones ≡ None → implicit_in zones ≡ 0
unfolding implicit_in
implicit_none zones h =
    count_by-same (λ (s : State). is_implicit s.raw) (λ _. false) zones no_state
    (λ k below. fails_before_first (λ (s : State). is_implicit s.raw) zones k no_state (grind (arith, nat_tests)))
    ∙ count_none zones

-- where one is, it is counted
implicit_some : (zones : List State) (i : ℕ) → i < length zones → is_implicit (state_in zones i).raw ≡ true → 1 ≤ implicit_in zones
unfolding implicit_in
implicit_some zones i below h =
    let k = get_or-le-sum_by (λ (s : State). cond (is_implicit s.raw) 1 0) zones i no_state below in
    omega (arith, k, ap (λ (b : Bool). let n : ℕ = cond b 1 0 in n) h)

pub first_is_implicit : (zones : List State) (i : ℕ) → first_implicit zones ≡ Some i → (i < length zones) × (is_implicit (state_in zones i).raw ≡ true)
first_is_implicit zones i h = let p = position-Some (λ (s : State). is_implicit s.raw) zones i no_state h in (p.0, p.1)

reached_same : (limit o e i : ℕ) → o ≡ e + i → i ≡ 0 → is_reached limit o ≡ is_reached limit e
reached_same limit o e i sum none = ap (is_reached limit) (omega arith)

not_reached : (limit o e i : ℕ) → o ≡ e + i → 1 ≤ i → (0 < limit → o ≤ limit) → is_reached limit e ≡ false
not_reached limit o e i sum some within = grind (arith, nat_tests)

-- No open place can be had exactly where the explicitly open zones are as many as may be open.
pub no_open_place-explicit : (shape : Shape) (zones : List State) → (0 < shape.max_open → open_in zones ≤ shape.max_open)
    → no_open_place shape zones ≡ (if is_reached shape.max_open (explicit_in zones) then Some TooManyOpen else None)
no_open_place-explicit shape zones within = by_first (first_implicit zones) refl
  where
    by_first : (o : Option ℕ) → first_implicit zones ≡ o → no_open_place shape zones ≡ (if is_reached shape.max_open (explicit_in zones) then Some TooManyOpen else None)
    by_first None h = rw (h, reached_same shape.max_open (open_in zones) (explicit_in zones) (implicit_in zones) (open_is_sum zones) (implicit_none zones h)) (grind arith)
    by_first (Some i) h =
        let f = first_is_implicit zones i h in
        rw (h, not_reached shape.max_open (open_in zones) (explicit_in zones) (implicit_in zones) (open_is_sum zones) (implicit_some zones i f.0 f.1) within) (grind arith)

-- where a zone is implicitly open, the explicitly open ones are fewer than may be open
pub not_reached-implicit : (shape : Shape) (zones : List State) (z : ℕ) → (0 < shape.max_open → open_in zones ≤ shape.max_open) → z < length zones → is_implicit (state_in zones z).raw ≡ true
    → is_reached shape.max_open (explicit_in zones) ≡ false
not_reached-implicit shape zones z within below h = not_reached shape.max_open (open_in zones) (explicit_in zones) (implicit_in zones) (open_is_sum zones) (implicit_some zones z below h) within

pub explicit_le_open : (zones : List State) → explicit_in zones ≤ open_in zones
explicit_le_open zones = omega (arith, open_is_sum zones)
