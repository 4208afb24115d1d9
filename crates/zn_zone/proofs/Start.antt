-- The machine as it begins.
use Rattle.std.proofs.Common.{◌≡◌, ℕ, ◌<◌, Bool, false, List, [], ◌∷◌, length, map, get_or, refl, sym, ap, ◌∙◌, subst, suc, arith}
use Rattle.std.specs.Prelude.{IsTrue}
use Rattle.std.specs.List.{zip}
use Rattle.std.proofs.lemmas.Bool.Decides.{nat_tests}
use Rattle.std.proofs.lemmas.List.{length-map}
use Rattle.std.proofs.lemmas.Slice.Zip.{length-zip, firsts-zip}
use Rattle.std.proofs.Math.ListN.{get_or-map}
use Rattle.zn_truth.specs.declared.Kind.{Kind}
use Rattle.zn_truth.specs.declared.Kind.TheVariants.{Conventional, Sequential}
use Rattle.zn_truth.specs.declared.Cond.{Cond}
use Rattle.zn_truth.specs.declared.Cond.TheVariants.{Good, ReadOnly as read_only, Offline as offline}
use Rattle.zn_truth.specs.declared.Shape.{Shape}
use Rattle.zn_truth.specs.declared.ZoneInfo.{ZoneInfo}
use Rattle.zn_truth.specs.Truth.{Geometry, active}
use Rattle.zn_truth.specs.Limits.{IsWithinLimits}
use Rattle.zn_zone.specs.declared.state.State.{State}
use Rattle.zn_zone.specs.Facts.{ZoneFacts, Facts, bare, reported_zone, reported, facts_at, IsStartZone, IsStart}
use Rattle.zn_zone.specs.Table.{is_explicit, is_open, cond_of}
use Rattle.zn_zone.specs.Machine.{state_at, facts_in, facts, geometry_in, open_in, raw_at_start, state_at_start, started, fits, IsSoundMachine}
use Rattle.zn_truth.proofs.Sound.{count_by-map}
use Rattle.zn_zone.proofs.ByFacts.{map-map}
use Rattle.zn_zone.proofs.Counts.{active-facts, count_by-same, count_none}
use Rattle.zn_zone.proofs.Moved.{fits_resting, resting_rests}

-- a zone that no device has
nothing : Kind × ZoneInfo
nothing = (Sequential, record { cond = offline; held = 0; explicit = false })

-- maps that agree at each place
map-same_at : {X Y : Type 0} (f g : X → Y) (xs : List X) (d : X) → ((k : ℕ) → k < length xs → f (get_or xs k d) ≡ g (get_or xs k d)) → map f xs ≡ map g xs
map-same_at f g [] d h = refl
map-same_at f g (x ∷ xs) d h = ap (λ y. y ∷ map f xs) (h 0 (omega arith)) ∙ ap (λ ys. g x ∷ ys) (map-same_at f g xs d (λ k below. h (suc k) (omega arith)))

-- ---- a zone

start_raw : (kind : Kind) (cond : Cond) (shape : Shape) (held : ℕ) → (cond_of (raw_at_start cond kind shape held) ≡ cond) × (is_explicit (raw_at_start cond kind shape held) ≡ false) × (is_open (raw_at_start cond kind shape held) ≡ false)
start_raw Conventional Good shape held = (refl, refl, refl)
start_raw Sequential Good shape held = let r = resting_rests shape held in (r.2, r.1, r.0)
start_raw kind read_only shape held = (refl, refl, refl)
start_raw kind offline shape held = (refl, refl, refl)

start_zone_facts : (shape : Shape) (kind : Kind) (info : ZoneInfo) → info.explicit ≡ false → facts_in (state_at_start shape (kind, info)) ≡ reported_zone (kind, info)
start_zone_facts shape kind info closed =
    let r = start_raw kind info.cond shape info.held in
    ap (λ (c : Cond). let f : ZoneFacts = record { kind = kind; cond = c; held = info.held; explicit = is_explicit (raw_at_start info.cond kind shape info.held) } in f) r.0
    ∙ ap (λ (b : Bool). let f : ZoneFacts = record { kind = kind; cond = info.cond; held = info.held; explicit = b } in f) (r.1 ∙ sym closed)

fits_start : (shape : Shape) (kind : Kind) (cond : Cond) (held : ℕ) (explicit : Bool) → IsStartZone shape (record { kind = kind; cond = cond; held = held; explicit = explicit })
    → IsTrue (fits shape kind (raw_at_start cond kind shape held) held)
fits_start shape Conventional Good held explicit start = let size = start.conventional (λ e. cc) (λ e. cc) in grind (arith, nat_tests)
fits_start shape Conventional read_only held explicit start = let size = start.conventional (λ e. cc) (λ e. cc) in grind (arith, nat_tests)
fits_start shape Conventional offline held explicit start = let none = start.offline refl in grind (arith, nat_tests)
fits_start shape Sequential Good held explicit start = fits_resting shape held (start.sequential refl)
fits_start shape Sequential read_only held explicit start = let within = start.sequential refl in grind (arith, nat_tests)
fits_start shape Sequential offline held explicit start = let none = start.offline refl in grind (arith, nat_tests)

-- ---- the zones

start_at : (shape : Shape) (kinds : List Kind) (infos : List ZoneInfo) (k : ℕ) → state_at (started shape kinds infos) k ≡ state_at_start shape (get_or (zip kinds infos) k nothing)
unfolding nothing
start_at shape kinds infos k = get_or-map (state_at_start shape) (zip kinds infos) k nothing

reported_at : (shape : Shape) (kinds : List Kind) (infos : List ZoneInfo) (k : ℕ) → facts_at (reported shape kinds infos) k ≡ reported_zone (get_or (zip kinds infos) k nothing)
unfolding nothing
reported_at shape kinds infos k = get_or-map reported_zone (zip kinds infos) k nothing

start_at_facts : (shape : Shape) (kinds : List Kind) (infos : List ZoneInfo) → IsStart (reported shape kinds infos) → (k : ℕ) → k < length (zip kinds infos)
    → facts_in (state_at_start shape (get_or (zip kinds infos) k nothing)) ≡ reported_zone (get_or (zip kinds infos) k nothing)
start_at_facts shape kinds infos start k below =
    let p = get_or (zip kinds infos) k nothing in
    start_zone_facts shape p.0 p.1
    (subst (λ (zone : ZoneFacts). zone.explicit ≡ false) (reported_at shape kinds infos k) (start.zones k (omega (arith, length-map (zip kinds infos) reported_zone))).closed)

-- The machine begins with the facts that are reported.
pub start_facts : (shape : Shape) (kinds : List Kind) (infos : List ZoneInfo) → IsStart (reported shape kinds infos) → facts (started shape kinds infos) ≡ reported shape kinds infos
start_facts shape kinds infos start =
    ap (λ zs. let f : Facts = record { shape = shape; zones = zs } in f)
    (map-map facts_in (state_at_start shape) (zip kinds infos)
    ∙ map-same_at (λ (p : Kind × ZoneInfo). facts_in (state_at_start shape p)) reported_zone (zip kinds infos) nothing (start_at_facts shape kinds infos start))

start_fits : (shape : Shape) (kinds : List Kind) (infos : List ZoneInfo) → IsStart (reported shape kinds infos) → (k : ℕ) → k < length (started shape kinds infos).zones
    → IsTrue (fits shape (state_at (started shape kinds infos) k).kind (state_at (started shape kinds infos) k).raw (state_at (started shape kinds infos) k).held)
start_fits shape kinds infos start k below =
    let p = get_or (zip kinds infos) k nothing in
    let inside : k < length (zip kinds infos) = omega (arith, below, length-map (zip kinds infos) (state_at_start shape)) in
    subst (λ (zone : State). IsTrue (fits shape zone.kind zone.raw zone.held)) (sym (start_at shape kinds infos k))
    (fits_start shape p.0 p.1.cond p.1.held p.1.explicit
    (subst (λ (zone : ZoneFacts). IsStartZone shape zone) (reported_at shape kinds infos k) (start.zones k (omega (arith, inside, length-map (zip kinds infos) reported_zone)))))

-- No zone is open.
pub start_none_open : (shape : Shape) (ps : List (Kind × ZoneInfo)) → open_in (map (state_at_start shape) ps) ≡ 0
start_none_open shape ps =
    count_by-map (λ (zone : State). is_open zone.raw) (state_at_start shape) ps
    ∙ count_by-same (λ (p : Kind × ZoneInfo). is_open (state_at_start shape p).raw) (λ _. false) ps nothing
    (λ k below. let p = get_or ps k nothing in (start_raw p.0 p.1.cond shape p.1.held).2)
    ∙ count_none ps

-- It is sound.
pub start_sound : (shape : Shape) (kinds : List Kind) (infos : List ZoneInfo) → IsWithinLimits (record { shape = shape; kinds = kinds }) → IsStart (reported shape kinds infos) → IsSoundMachine (started shape kinds infos)
start_sound shape kinds infos limits start = record {
  capacity = omega (arith, limits.capacity);
  count = omega (arith, limits.most, length-map (zip kinds infos) (state_at_start shape), length-zip kinds infos);
  zones = start_fits shape kinds infos start;
  active = λ on. omega (arith, start.active on, active-facts (started shape kinds infos) (start_fits shape kinds infos start), ap (λ (f : Facts). active (bare f)) (start_facts shape kinds infos start));
  opened = λ on. omega (arith, start_none_open shape (zip kinds infos));
}

-- Its geometry is the given one.
pub start_geometry : (shape : Shape) (kinds : List Kind) (infos : List ZoneInfo) → length infos ≡ length kinds → geometry_in (started shape kinds infos) ≡ record { shape = shape; kinds = kinds }
start_geometry shape kinds infos lengths =
    ap (λ ks. let g : Geometry = record { shape = shape; kinds = ks } in g)
    (map-map (λ (zone : State). zone.kind) (state_at_start shape) (zip kinds infos) ∙ firsts-zip kinds infos lengths)
