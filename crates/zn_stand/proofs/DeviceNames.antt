-- The names of a device's files, and its limits.
use Rattle.std.proofs.Common.{◌≡◌, ◌⊎◌, inl, inr, ℕ, ◌+◌, ◌-◌, ◌*◌, ◌/◌, ◌%◌, ◌<◌, ◌≤◌, Bool, true, ltb, leb, ◌&&◌, ◌||◌, ◌==◌, List, length, map, get_or, refl, sym, ap, ◌∙◌, subst, arith}
use Rattle.std.specs.Prelude.{IsTrue, ◌↔◌}
use Rattle.std.specs.Str.{bytes_eq}
use Rattle.std.proofs.lemmas.Bool.{and_parts, and_from, or_cases, or_left, or_right, eqb-true, eq-eqb, leb-true, le-leb, lt-ltb, ltb-true}
use Rattle.std.proofs.lemmas.Bool.Decides.{nat_tests}
use Rattle.std.proofs.lemmas.List.{length-map}
use Rattle.std.proofs.Math.ListN.{get_or-map}
use Rattle.std.proofs.lemmas.List.FromFn.{length-map-range_with_len, get_or-map-range_with_len}
use Rattle.std.proofs.lemmas.Slice.Eq.{bytes_eq-Decides}
use Rattle.zn_truth.specs.declared.limits.TheConstants.{MAX_BLOCKS, MAX_ZONES}
use Rattle.zn_truth.specs.declared.Kind.{Kind}
use Rattle.zn_truth.specs.declared.Kind.TheVariants.{Conventional, Sequential}
use Rattle.zn_truth.specs.Truth.{Truth, Zone, Geometry as TruthGeometry, geometry, zone_at, no_zone}
use Rattle.zn_truth.specs.Limits.{IsWithinLimits}
use Rattle.zn_stand.specs.declared.numbers.Geometry.{Geometry}
use Rattle.zn_stand.specs.Maps.{Name}
use Rattle.zn_stand.specs.ZoneNames.{kind_of, kinds_of, geometry_of_device, six_digits, device_name, zone_name, read_only_name, offline_name, number_in_name, is_marker, is_zone_file, is_marker_of, is_name_of}
use Rattle.zn_stand.specs.DeviceText.{is_within}
use Rattle.zn_stand.specs.Standing.{IsNameOf}

-- ---- the limits

pub count_kinds : (geo : Geometry) → length (kinds_of geo) ≡ geo.zones
count_kinds geo = length-map-range_with_len (kind_of geo) 0 geo.zones

abbrev is_ordered : ℕ → ℕ → Bool
is_ordered most_open most_active = most_open == 0 || (most_active == 0 || leb most_open most_active)

ordered_is : (opens actives : ℕ) → is_ordered opens actives ≡ true → (opens ≡ 0) ⊎ ((actives ≡ 0) ⊎ (opens ≤ actives))
ordered_is opens actives h = elim (or_cases (opens == 0) (actives == 0 || leb opens actives) h) [
  | inl none ↦ inl (eqb-true opens 0 none)
  | inr some ↦ elim (or_cases (actives == 0) (leb opens actives) some) [
    | inl none ↦ inr (inl (eqb-true actives 0 none))
    | inr fits ↦ inr (inr (leb-true opens actives fits))
  ]
]

is_ordered_from : (opens actives : ℕ) → (opens ≡ 0) ⊎ ((actives ≡ 0) ⊎ (opens ≤ actives)) → is_ordered opens actives ≡ true
is_ordered_from opens actives (inl none) = or_left (opens == 0) _ (eq-eqb opens 0 none)
is_ordered_from opens actives (inr (inl none)) = or_right (opens == 0) _ (or_left (actives == 0) _ (eq-eqb actives 0 none))
is_ordered_from opens actives (inr (inr fits)) = or_right (opens == 0) _ (or_right (actives == 0) _ (le-leb opens actives fits))

pub within_limits : (geo : Geometry) → IsTrue (is_within geo) → (geo.conv ≤ geo.zones) × IsWithinLimits (geometry_of_device geo)
unfolding is_within
within_limits geo within =
    let all = and_parts _ (is_ordered geo.shape.max_open geo.shape.max_active) within in
    let count : length (kinds_of geo) ≡ geo.zones = count_kinds geo in (
      grind (arith, nat_tests, within),
      record {
        some = grind (arith, nat_tests, within, count);
        most = grind (arith, nat_tests, within, count);
        capacity = grind (arith, nat_tests, within);
        fits = grind (arith, nat_tests, within);
        size = grind (arith, nat_tests, within);
        open_zones = grind (arith, nat_tests, within);
        active_zones = grind (arith, nat_tests, within);
        ordered = ordered_is geo.shape.max_open geo.shape.max_active all.1;
      },
    )

pub limits_within : (geo : Geometry) → (geo.conv ≤ geo.zones) × IsWithinLimits (geometry_of_device geo) → IsTrue (is_within geo)
unfolding is_within
limits_within geo limits =
    let count : length (kinds_of geo) ≡ geo.zones = count_kinds geo in
    let within : IsWithinLimits (geometry_of_device geo) = limits.1 in
    and_from _ _ (and_from _ _ (and_from _ _ (and_from _ _ (and_from _ _ (and_from _ _ (and_from _ _ (and_from _ _
    (le-leb 1 geo.zones (omega (arith, within.some))) (le-leb geo.zones MAX_ZONES (omega (arith, within.most)))) (le-leb geo.conv geo.zones limits.0))
    (le-leb 2 geo.shape.zone_capacity within.capacity)) (le-leb geo.shape.zone_capacity geo.shape.zone_blocks within.fits)) (le-leb geo.shape.zone_blocks MAX_BLOCKS within.size))
    (le-leb geo.shape.max_open MAX_ZONES within.open_zones)) (le-leb geo.shape.max_active MAX_ZONES within.active_zones)) (is_ordered_from geo.shape.max_open geo.shape.max_active within.ordered)

-- ---- the kinds of zones

-- what the same geometry tells of the zones
pub record HasKinds (t : Truth) (geo : Geometry) : Type 0 where
  pub count : length t.zones ≡ geo.zones
  pub shape : t.shape ≡ geo.shape
  pub kind : (z : ℕ) → z < geo.zones → (zone_at t z).kind ≡ kind_of geo z

kind_map : (zones : List Zone) (z : ℕ) → get_or (map (λ zone. zone.kind) zones) z Sequential ≡ (get_or zones z no_zone).kind
kind_map zones z = get_or-map (λ (zone : Zone). zone.kind) zones z no_zone

pub has_kinds : (t : Truth) (geo : Geometry) → geometry t ≡ geometry_of_device geo → HasKinds t geo
has_kinds t geo same = record {
  count = sym (length-map t.zones (λ (zone : Zone). zone.kind)) ∙ ap (λ (g : TruthGeometry). length g.kinds) same ∙ count_kinds geo;
  shape = ap (λ (g : TruthGeometry). g.shape) same;
  kind = λ z h. sym (kind_map t.zones z) ∙ ap (λ (g : TruthGeometry). get_or g.kinds z Sequential) same ∙ get_or-map-range_with_len (kind_of geo) 0 geo.zones z z Sequential h (omega arith);
}

-- ---- the number in a name

six : (z : ℕ) → z < 1000000 → ((48 + z / 100000 % 10) - 48) * 100000 + ((48 + z / 10000 % 10) - 48) * 10000 + ((48 + z / 1000 % 10) - 48) * 1000 + ((48 + z / 100 % 10) - 48) * 100 + ((48 + z / 10 % 10) - 48) * 10 + ((48 + z % 10) - 48) * 1 ≡ z
six z small =
    let b : z / 100 ≡ z / 10 / 10 = omega arith in
    let c : z / 1000 ≡ z / 100 / 10 = omega arith in
    let d : z / 10000 ≡ z / 1000 / 10 = omega arith in
    let e : z / 100000 ≡ z / 10000 / 10 = omega arith in
    let top : z / 100000 < 10 = omega arith in
    omega arith

pub number_in_zone : (kind : Kind) (z : ℕ) → z < 1000000 → number_in_name (zone_name kind z) ≡ z
unfolding number_in_name zone_name six_digits
number_in_zone Conventional z small = six z small
number_in_zone Sequential z small = six z small

pub number_in_read_only : (kind : Kind) (z : ℕ) → z < 1000000 → number_in_name (read_only_name kind z) ≡ z
unfolding number_in_name read_only_name zone_name six_digits
number_in_read_only Conventional z small = six z small
number_in_read_only Sequential z small = six z small

pub number_in_offline : (kind : Kind) (z : ℕ) → z < 1000000 → number_in_name (offline_name kind z) ≡ z
unfolding number_in_name offline_name zone_name six_digits
number_in_offline Conventional z small = six z small
number_in_offline Sequential z small = six z small

-- ---- which names are a device's

equal_names : (a b : Name) → a ≡ b → bytes_eq a b ≡ true
equal_names a b same = (bytes_eq-Decides a b).1 same

zone_file_name : (kind : Kind) (z : ℕ) (name : Name) → is_zone_file kind z name ≡ true → (name ≡ zone_name kind z) ⊎ ((name ≡ read_only_name kind z) ⊎ (name ≡ offline_name kind z))
zone_file_name kind z name h = elim (or_cases (bytes_eq name (zone_name kind z)) (is_marker kind z name) h) [
  | inl is ↦ inl ((bytes_eq-Decides name (zone_name kind z)).0 is)
  | inr marker ↦ elim (or_cases (bytes_eq name (read_only_name kind z)) (bytes_eq name (offline_name kind z)) marker) [
    | inl is ↦ inr (inl ((bytes_eq-Decides name (read_only_name kind z)).0 is))
    | inr is ↦ inr (inr ((bytes_eq-Decides name (offline_name kind z)).0 is))
  ]
]

is_zone_file_from : (kind : Kind) (z : ℕ) (name : Name) → (name ≡ zone_name kind z) ⊎ ((name ≡ read_only_name kind z) ⊎ (name ≡ offline_name kind z)) → is_zone_file kind z name ≡ true
is_zone_file_from kind z name (inl is) = or_left _ _ (equal_names name (zone_name kind z) is)
is_zone_file_from kind z name (inr (inl is)) = or_right _ _ (or_left _ _ (equal_names name (read_only_name kind z) is))
is_zone_file_from kind z name (inr (inr is)) = or_right _ _ (or_right _ _ (equal_names name (offline_name kind z) is))

pub number_in_file : (kind : Kind) (z : ℕ) (name : Name) → z < 1000000 → (name ≡ zone_name kind z) ⊎ ((name ≡ read_only_name kind z) ⊎ (name ≡ offline_name kind z)) → number_in_name name ≡ z
number_in_file kind z name small (inl is) = ap number_in_name is ∙ number_in_zone kind z small
number_in_file kind z name small (inr (inl is)) = ap number_in_name is ∙ number_in_read_only kind z small
number_in_file kind z name small (inr (inr is)) = ap number_in_name is ∙ number_in_offline kind z small

-- a file of a zone of the device is one of its names
pub zone_file_tested : (geo : Geometry) (z : ℕ) (name : Name) → IsTrue (is_within geo) → z < geo.zones → (name ≡ zone_name (kind_of geo z) z) ⊎ ((name ≡ read_only_name (kind_of geo z) z) ⊎ (name ≡ offline_name (kind_of geo z) z)) → is_name_of geo name ≡ true
unfolding is_name_of
zone_file_tested geo z name within there is =
    let limits = within_limits geo within in
    let small : z < 1000000 = omega (arith, limits.1.most, count_kinds geo) in
    let number : number_in_name name ≡ z = number_in_file (kind_of geo z) z name small is in
    or_right (bytes_eq name device_name) _ (subst (λ n. (ltb n geo.zones && is_zone_file (kind_of geo n) n name) ≡ true) (sym number) (and_from _ _ (lt-ltb z geo.zones there) (is_zone_file_from (kind_of geo z) z name is)))

pub name_tested : (t : Truth) (geo : Geometry) (name : Name) → HasKinds t geo → IsTrue (is_within geo) → IsNameOf t name → is_name_of geo name ≡ true
unfolding is_name_of
name_tested t geo name has within (inl is) = or_left (bytes_eq name device_name) _ (equal_names name device_name is)
name_tested t geo name has within (inr zone) =
    let there : zone.z < geo.zones = omega (arith, zone.there, has.count) in
    zone_file_tested geo zone.z name within there (subst (λ kind. (name ≡ zone_name kind zone.z) ⊎ ((name ≡ read_only_name kind zone.z) ⊎ (name ≡ offline_name kind zone.z))) (has.kind zone.z there) zone.is)

-- a name of the device is `device`, or a file of the zone whose number it has
pub name_found : (geo : Geometry) (name : Name) → is_name_of geo name ≡ true → (name ≡ device_name) ⊎ ((number_in_name name < geo.zones) × (is_zone_file (kind_of geo (number_in_name name)) (number_in_name name) name ≡ true))
unfolding is_name_of
name_found geo name h = elim (or_cases (bytes_eq name device_name) (ltb (number_in_name name) geo.zones && is_zone_file (kind_of geo (number_in_name name)) (number_in_name name) name) h) [
  | inl is ↦ inl ((bytes_eq-Decides name device_name).0 is)
  | inr zone ↦ let parts = and_parts (ltb (number_in_name name) geo.zones) (is_zone_file (kind_of geo (number_in_name name)) (number_in_name name) name) zone in
      inr (ltb-true (number_in_name name) geo.zones parts.0, parts.1)
]

pub name_is : (t : Truth) (geo : Geometry) (name : Name) → HasKinds t geo → is_name_of geo name ≡ true → IsNameOf t name
name_is t geo name has h = elim (name_found geo name h) [
  | inl is ↦ inl is
  | inr zone ↦ inr (record {
    z = number_in_name name;
    there = omega (arith, zone.0, has.count);
    is = subst (λ kind. (name ≡ zone_name kind (number_in_name name)) ⊎ ((name ≡ read_only_name kind (number_in_name name)) ⊎ (name ≡ offline_name kind (number_in_name name)))) (sym (has.kind (number_in_name name) zone.0)) (zone_file_name (kind_of geo (number_in_name name)) (number_in_name name) name zone.1);
  })
]

pub names_tested : (t : Truth) (geo : Geometry) (name : Name) → geometry t ≡ geometry_of_device geo → IsTrue (is_within geo) → IsTrue (is_name_of geo name) ↔ IsNameOf t name
names_tested t geo name same within = (name_is t geo name (has_kinds t geo same), name_tested t geo name (has_kinds t geo same) within)

-- ---- markers

-- a marker of a zone of the device is one
pub marker_tested : (geo : Geometry) (z : ℕ) (name : Name) → IsTrue (is_within geo) → z < geo.zones → (name ≡ read_only_name (kind_of geo z) z) ⊎ (name ≡ offline_name (kind_of geo z) z) → is_marker_of geo name ≡ true
unfolding is_marker_of
marker_tested geo z name within there is =
    let limits = within_limits geo within in
    let small : z < 1000000 = omega (arith, limits.1.most, count_kinds geo) in
    let number : number_in_name name ≡ z = number_in_file (kind_of geo z) z name small (inr is) in
    subst (λ n. is_marker (kind_of geo n) n name ≡ true) (sym number) (marker is)
  where
    marker : (name ≡ read_only_name (kind_of geo z) z) ⊎ (name ≡ offline_name (kind_of geo z) z) → is_marker (kind_of geo z) z name ≡ true
    marker (inl is) = or_left _ _ (equal_names name (read_only_name (kind_of geo z) z) is)
    marker (inr is) = or_right _ _ (equal_names name (offline_name (kind_of geo z) z) is)

-- and each is that of a zone
pub marker_found : (geo : Geometry) (name : Name) → is_marker_of geo name ≡ true → (name ≡ read_only_name (kind_of geo (number_in_name name)) (number_in_name name)) ⊎ (name ≡ offline_name (kind_of geo (number_in_name name)) (number_in_name name))
unfolding is_marker_of
marker_found geo name h = elim (or_cases (bytes_eq name (read_only_name (kind_of geo (number_in_name name)) (number_in_name name))) (bytes_eq name (offline_name (kind_of geo (number_in_name name)) (number_in_name name))) h) [
  | inl is ↦ inl ((bytes_eq-Decides name (read_only_name (kind_of geo (number_in_name name)) (number_in_name name))).0 is)
  | inr is ↦ inr ((bytes_eq-Decides name (offline_name (kind_of geo (number_in_name name)) (number_in_name name))).0 is)
]

length_read_only : (kind : Kind) (z : ℕ) → length (read_only_name kind z) ≡ 13
unfolding read_only_name zone_name six_digits
length_read_only Conventional z = refl
length_read_only Sequential z = refl

length_offline : (kind : Kind) (z : ℕ) → length (offline_name kind z) ≡ 14
unfolding offline_name zone_name six_digits
length_offline Conventional z = refl
length_offline Sequential z = refl

length_device : length device_name ≡ 6
unfolding device_name
length_device = refl

-- `device` is no marker
pub device_no_marker : (geo : Geometry) → is_marker_of geo device_name ≡ true → ⊥
device_no_marker geo h = elim (marker_found geo device_name h) [
  | inl is ↦ omega (arith, length_device, length_read_only (kind_of geo (number_in_name device_name)) (number_in_name device_name), ap length is)
  | inr is ↦ omega (arith, length_device, length_offline (kind_of geo (number_in_name device_name)) (number_in_name device_name), ap length is)
]
