-- What is kept beside the zones, where one takes the place of another.
use Rattle.std.proofs.Common.{◌≡◌, ℕ, ◌+◌, ◌<◌, ◌≤◌, Bool, false, cond, List, [], ◌∷◌, length, map, set, replicate}
use Rattle.std.proofs.Common.{get_or, refl, sym, ap, ◌∙◌, arith}
use Rattle.std.specs.Prelude.{count_by, if◌then◌else◌, position}
use Rattle.std.specs.List.{position_or_len}
use Rattle.std.proofs.lemmas.List.{ext_get_or, get_or-map, get_or-replicate, length-map, length-replicate}
use Rattle.std.proofs.lemmas.List.{length-set, map-set}
use Rattle.std.proofs.lemmas.List.Sums.{sum_by-set, get_or-le-sum_by}
use Rattle.zn_zone.specs.declared.state.State.{State}
use Rattle.zn_zone.specs.declared.Raw.{Raw}
use Rattle.zn_zone.specs.declared.Raw.TheVariants.{NotWp, Empty, ImplicitOpen, ExplicitOpen, Closed, Full, ReadOnly}
use Rattle.zn_zone.specs.declared.Raw.TheVariants.{Offline}
use Rattle.zn_zone.specs.Table.{is_implicit, is_open, is_active}
use Rattle.zn_zone.specs.Kept.{implicit_in, IsKept}
use Rattle.zn_zone.specs.Machine.{no_state, state_in, active_in, open_in, first_implicit}

-- the first of the tests that passes is the first element that passes
first_test : {X : Type 0} (p : X → Bool) (xs : List X) → position_or_len (λ b. b) (map p xs) ≡ position_or_len p xs
first_test p [] = refl
first_test p (x ∷ xs) = rw (first_test p xs) refl

-- The first mark is on the lowest-numbered implicitly open zone.
pub first_mark : (zones : List State) (marks : List Bool) → marks ≡ implicit_in zones
    → position (λ is_marked. is_marked) marks ≡ first_implicit zones
first_mark zones marks same =
    ap (position (λ is_marked. is_marked)) same
    ∙ rw (
      first_test (λ (zone : State). is_implicit zone.raw) zones,
      length-map zones (λ
          (zone : State). is_implicit zone.raw),
    ) refl

-- where no zone is open, none is implicitly open
closed_raw : (raw : Raw) → (let n : ℕ = cond (is_open raw) 1 0 in n) ≡ 0 → is_implicit raw ≡ false
closed_raw NotWp h = refl
closed_raw Empty h = refl
closed_raw ImplicitOpen h = absurd (omega (arith, h))
closed_raw ExplicitOpen h = refl
closed_raw Closed h = refl
closed_raw Full h = refl
closed_raw ReadOnly h = refl
closed_raw Offline h = refl

none_implicit : (zones : List State) → open_in zones ≡ 0 → replicate (length zones) false ≡ implicit_in zones
none_implicit zones closed =
    let test = λ (zone : State). is_implicit zone.raw in
    ext_get_or false (replicate (length zones) false) (implicit_in zones)
    (length-replicate (length zones) false ∙ sym (length-map zones test))
    (λ k inside.
    let below : k < length zones = omega (arith, inside, length-replicate (length zones) false) in
    let least = get_or-le-sum_by (λ (zone : State). cond (is_open zone.raw) 1 0) zones k no_state below in
    get_or-replicate (length zones) k false false below
    ∙ sym (get_or-map test zones k no_state false below
    ∙ closed_raw (state_in zones k).raw (omega (arith, least, closed))))

-- What is kept of zones of which none is open.
pub kept_start : (zones : List State) (actives : ℕ) (marks : List Bool) → length zones ≤ 4096 → open_in zones ≡ 0
    → actives ≡ active_in zones → marks ≡ replicate (length zones) false → IsKept zones actives 0 marks
kept_start zones actives marks few closed active none = record { few = few; active = active; opened = sym closed; implicit = none ∙ none_implicit zones closed }

-- a count where one element takes the place of another
recounts : {X : Type 0} (p : X → Bool) (xs : List X) (i n : ℕ) (y d : X) → i < length xs
    → n + (if p (get_or xs i d) then 1 else 0) ≡ count_by p xs + (if p y then 1 else 0) → n ≡ count_by p (set xs i y)
recounts p xs i n y d below is = omega (arith, sum_by-set (λ x. cond (p x) 1 0) xs i y d below)

-- All that is kept is that of the new zones.
pub kept_put : (zones : List State) (z : ℕ) (was zone : State) (active opened actives opens : ℕ)
    (marks after : List Bool) → z < length zones → was ≡ get_or zones z was
    → IsKept zones active opened marks
    → actives + (if is_active was.raw then 1 else 0) ≡ active + (if is_active zone.raw then 1 else 0)
    → opens + (if is_open was.raw then 1 else 0) ≡ opened + (if is_open zone.raw then 1 else 0)
    → after ≡ set marks z (is_implicit zone.raw) → IsKept (set zones z zone) actives opens after
kept_put zones z was zone active opened actives opens marks after below read kept count_active count_open put =
    record {
      few = omega (arith, kept.few, length-set zones z zone);
      active = recounts (λ (s : State). is_active s.raw) zones z actives zone was below
          (ap (λ (s : State). actives + (if is_active s.raw then 1 else 0)) (sym read) ∙ count_active
          ∙ ap (λ n. n + (if is_active zone.raw then 1 else 0)) kept.active);
      opened = recounts (λ (s : State). is_open s.raw) zones z opens zone was below
          (ap (λ (s : State). opens + (if is_open s.raw then 1 else 0)) (sym read) ∙ count_open
          ∙ ap (λ n. n + (if is_open zone.raw then 1 else 0)) kept.opened);
      implicit = put ∙ ap (λ ms. set ms z (is_implicit zone.raw)) kept.implicit
          ∙ sym (map-set (λ (s : State). is_implicit s.raw) zones z zone);
    }
