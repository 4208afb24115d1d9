-- Active zones, counted.
use Rattle.std.proofs.Common.{◌≡◌, ◌⊎◌, ◌≢◌, inl, inr, ℕ, zero, suc, ◌+◌, ◌-◌, ◌*◌, ◌/◌, ◌<◌, ◌≤◌, Bool, true, false, cond, ltb, List, [], ◌∷◌, ◌++◌, length, map, take, drop, get_or, Option, Some, None, Result, Ok, Err, refl, sym, ap, ◌∙◌, subst, arith}
use Rattle.std.specs.Prelude.{count_by, unwrap_or, IsTrue}
use Rattle.std.specs.List.{range_with_len, zip}
use Rattle.std.proofs.Math.Seq.{drop-cons}
use Rattle.std.proofs.lemmas.List.Sums.{sum_by-cons}
use Rattle.zn_truth.specs.declared.limits.TheConstants.{BLOCK_SIZE}
use Rattle.zn_truth.specs.declared.Kind.{Kind}
use Rattle.zn_truth.specs.declared.Cond.{Cond}
use Rattle.zn_truth.specs.declared.Cond.TheVariants.{Good, ReadOnly, Offline}
use Rattle.zn_truth.specs.declared.Shape.{Shape}
use Rattle.zn_truth.specs.declared.ZoneInfo.{ZoneInfo}
use Rattle.zn_truth.specs.Truth.{Truth, Zone, is_active, active, no_zone}
use Rattle.zn_zone.specs.Facts.{ZoneFacts, Facts, reported_zone, bare_zone, bare, reported, zone_facts, facts_at, IsStartZone, IsStart}
use Rattle.zn_stand.specs.declared.numbers.Geometry.{Geometry}
use Rattle.zn_stand.specs.Maps.{Name}
use Rattle.zn_stand.specs.ZoneNames.{kind_of, zone_numbers, kinds_of}
use Rattle.zn_stand.specs.AtRest.{Lookup, cond_in, zone_bytes, bytes_left, durable_zone, zone_in, truth_in}
use Rattle.zn_backing.specs.Looks.{info_with, info_in, started_zone, no_info, AreStarted}
use Rattle.zn_backing.specs.Actives.{is_partly, active_from, AreCounted}

counted_from : (geo : Geometry) (infos : List ZoneInfo) (z count : ℕ) (d : ZoneInfo) → z < length infos → count + active_from geo z (drop z infos) ≡ active_from geo 0 infos
    → (count + cond (is_partly geo z (get_or infos z d)) 1 0) + active_from geo (z + 1) (drop (z + 1) infos) ≡ active_from geo 0 infos
counted_from geo infos z count d within all =
    let next : suc z ≡ z + 1 = omega arith in
    let split : drop z infos ≡ get_or infos z d ∷ drop (z + 1) infos = drop-cons infos z d within ∙ ap (λ n. get_or infos z d ∷ drop n infos) next in
    let part : active_from geo z (drop z infos) ≡ cond (is_partly geo z (get_or infos z d)) 1 0 + active_from geo (z + 1) (drop (z + 1) infos) = ap (active_from geo z) split in
    omega (arith, all, part)

pub counted_one : (geo : Geometry) (infos : List ZoneInfo) (z count : ℕ) (d : ZoneInfo) → AreCounted geo infos z count → z < length infos → is_partly geo z (get_or infos z d) ≡ true → AreCounted geo infos (z + 1) (count + 1)
counted_one geo infos z count d before within is = record {
  all = ap (λ b. (count + cond b 1 0) + active_from geo (z + 1) (drop (z + 1) infos)) (sym is) ∙ counted_from geo infos z count d within before.all;
  most = omega (arith, before.most);
}

pub counted_none : (geo : Geometry) (infos : List ZoneInfo) (z count : ℕ) (d : ZoneInfo) → AreCounted geo infos z count → z < length infos → is_partly geo z (get_or infos z d) ≡ false → AreCounted geo infos (z + 1) count
counted_none geo infos z count d before within is =
    let same : (count + 0) + active_from geo (z + 1) (drop (z + 1) infos) ≡ active_from geo 0 infos = ap (λ b. (count + cond b 1 0) + active_from geo (z + 1) (drop (z + 1) infos)) (sym is) ∙ counted_from geo infos z count d within before.all in
    record { all = omega (arith, same); most = omega (arith, before.most) }

-- ---- the same count of a report

reported_from : (geo : Geometry) (a : ℕ) (infos : List ZoneInfo) → count_by (is_active geo.shape) (map bare_zone (map reported_zone (zip (map (kind_of geo) (range_with_len a (length infos))) infos))) ≡ active_from geo a infos
reported_from geo a [] = refl
reported_from geo a (info ∷ infos) =
    sum_by-cons (λ (zone : Zone). cond (is_active geo.shape zone) 1 0) (bare_zone (started_zone geo a info)) (map bare_zone (map reported_zone (zip (map (kind_of geo) (range_with_len (a + 1) (length infos))) infos)))
    ∙ ap (λ n. cond (is_partly geo a info) 1 0 + n) (reported_from geo (a + 1) infos)

pub active-reported : (geo : Geometry) (infos : List ZoneInfo) → length infos ≡ geo.zones → active (bare (reported geo.shape (kinds_of geo) infos)) ≡ active_from geo 0 infos
active-reported geo infos count = ap (λ n. count_by (is_active geo.shape) (map bare_zone (map reported_zone (zip (map (kind_of geo) (range_with_len 0 n)) infos)))) (sym count) ∙ reported_from geo 0 infos

-- ---- and of the device that a directory holds

active_zone : (shape : Shape) (kind : Kind) (cond : Cond) (bytes : List ℕ) → is_active shape (durable_zone kind cond (bytes_left cond bytes)) ≡ is_active shape (bare_zone (reported_zone (kind, info_with cond (length bytes))))
active_zone shape kind Good bytes = refl
active_zone shape kind ReadOnly bytes = refl
active_zone shape kind Offline bytes = refl

held_from : (held : Lookup) (geo : Geometry) (zs : List ℕ) (a : ℕ) → zs ≡ range_with_len a (length zs) → count_by (is_active geo.shape) (map (zone_in held geo) zs) ≡ active_from geo a (map (info_in held geo) zs)
held_from held geo [] a is = refl
held_from held geo (z ∷ zs) a is =
    let first : z ≡ a = ap (λ (l : List ℕ). get_or l 0 z) is in
    let rest : zs ≡ range_with_len (a + 1) (length zs) = ap (drop 1) is in
    sum_by-cons (λ (zone : Zone). cond (is_active geo.shape zone) 1 0) (zone_in held geo z) (map (zone_in held geo) zs)
    ∙ ap (λ b. cond b 1 0 + count_by (is_active geo.shape) (map (zone_in held geo) zs)) (active_zone geo.shape (kind_of geo z) (cond_in held geo z) (zone_bytes held geo z) ∙ ap (λ n. is_partly geo n (info_in held geo z)) first)
    ∙ ap (λ n. cond (is_partly geo a (info_in held geo z)) 1 0 + n) (held_from held geo zs (a + 1) rest)

length_range : (a n : ℕ) → length (range_with_len a n) ≡ n
length_range a zero = refl
length_range a (suc n) = let rest : length (range_with_len (a + 1) n) ≡ n = length_range (a + 1) n in omega arith

pub active-truth_in : (held : Lookup) (geo : Geometry) → active (truth_in held geo) ≡ active_from geo 0 (map (info_in held geo) (zone_numbers geo))
active-truth_in held geo = held_from held geo (zone_numbers geo) 0 (ap (range_with_len 0) (sym (length_range 0 geo.zones)))

-- ---- where a machine may begin

facts_from : (geo : Geometry) (a : ℕ) (infos : List ZoneInfo) (i : ℕ) → i < length infos → get_or (map reported_zone (zip (map (kind_of geo) (range_with_len a (length infos))) infos)) i (zone_facts no_zone) ≡ started_zone geo (a + i) (get_or infos i no_info)
facts_from geo a [] i within = absurd (omega arith)
facts_from geo a (info ∷ infos) zero within = let at : a ≡ a + 0 = omega arith in ap (λ n. started_zone geo n info) at
facts_from geo a (info ∷ infos) (suc i) within = let at : a + 1 + i ≡ a + suc i = omega arith in facts_from geo (a + 1) infos i (omega arith) ∙ ap (λ n. started_zone geo n (get_or infos i no_info)) at

count_from : (geo : Geometry) (a : ℕ) (infos : List ZoneInfo) → length (map reported_zone (zip (map (kind_of geo) (range_with_len a (length infos))) infos)) ≡ length infos
count_from geo a [] = refl
count_from geo a (info ∷ infos) = let rest : length (map reported_zone (zip (map (kind_of geo) (range_with_len (a + 1) (length infos))) infos)) ≡ length infos = count_from geo (a + 1) infos in omega arith

pub starts : (geo : Geometry) (infos : List ZoneInfo) → AreStarted geo geo.zones infos → (0 < geo.shape.max_active → active_from geo 0 infos ≤ geo.shape.max_active) → IsStart (reported geo.shape (kinds_of geo) infos)
starts geo infos are few =
    subst (λ n. IsStart (record { shape = geo.shape; zones = map reported_zone (zip (map (kind_of geo) (range_with_len 0 n)) infos) })) are.count (record {
      zones = λ z there.
          let inside : z < length infos = omega (arith, count_from geo 0 infos) in
          let number : 0 + z ≡ z = omega arith in
          subst (λ (f : ZoneFacts). IsStartZone geo.shape f) (sym (facts_from geo 0 infos z inside ∙ ap (λ n. started_zone geo n (get_or infos z no_info)) number)) (are.each z (omega (arith, are.count)));
      active = λ some. let count : count_by (is_active geo.shape) (map bare_zone (map reported_zone (zip (map (kind_of geo) (range_with_len 0 (length infos))) infos))) ≡ active_from geo 0 infos = reported_from geo 0 infos in
          omega (arith, count, few some);
    })
