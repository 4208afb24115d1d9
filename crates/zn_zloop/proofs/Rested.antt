-- A directory at rest holds the device that it stands for.
use Rattle.std.proofs.Common.{◌≡◌, inl, inr, ℕ, zero, suc, ◌+◌, ◌<◌, ◌≤◌, Bool, true, false, cond, not, ltb, List, [], length, map, Option, Some, None, refl, sym, ap, ◌∙◌, subst, arith, add-zero}
use Rattle.std.specs.Prelude.{IsTrue, IsSome, count_by}
use Rattle.std.specs.List.{range_with_len}
use Rattle.std.specs.Option.{option_map}
use Rattle.std.proofs.lemmas.Bool.{cases_Bool, ltb-true, ltb-false}
use Rattle.std.proofs.lemmas.List.{length-map}
use Rattle.std.proofs.lemmas.List.Sums.{sum_by-cons}
use Rattle.std.proofs.lemmas.Option.{same_Some}
use Rattle.zn_truth.specs.declared.Kind.{Kind}
use Rattle.zn_truth.specs.declared.Kind.TheVariants.{Conventional, Sequential}
use Rattle.zn_truth.specs.declared.Cond.{Cond}
use Rattle.zn_truth.specs.declared.Cond.TheVariants.{Good, ReadOnly, Offline}
use Rattle.zn_truth.specs.declared.Shape.{Shape}
use Rattle.zn_truth.specs.Truth.{Zone, Truth, Geometry as TruthGeometry, zone_at, is_sequential, is_good, is_offline, IsSoundZone}
use Rattle.zn_truth.specs.Limits.{IsWithinLimits}
use Rattle.zn_truth.proofs.Sound.{count_by-map}
use Rattle.zn_zone.specs.Facts.{ZoneFacts, zone_facts, facts_of}
use Rattle.zn_zone.proofs.ByFacts.{map-map}
use Rattle.zn_zone.proofs.Truths.{facts_at-zone}
use Rattle.zn_stand.specs.declared.numbers.Geometry.{Geometry}
use Rattle.zn_stand.specs.File.{File, at_rest}
use Rattle.zn_stand.specs.Directory.{Contents, file_at, bytes_at, rested}
use Rattle.zn_stand.specs.ZoneNames.{kind_of, kinds_of, geometry_of_device, device_name, zone_name, read_only_name, offline_name, is_name_of}
use Rattle.zn_stand.specs.DeviceText.{device_text}
use Rattle.zn_stand.specs.Standing.{is_file_length, IsZoneFile, IsReadOnlyMarker, IsOfflineMarker, StandsFor}
use Rattle.zn_stand.specs.AtRest.{IsRestedZone, IsDeviceAtRest}
use Rattle.zn_stand.proofs.Directories.{file-rested}
use Rattle.zn_stand.proofs.DeviceNames.{count_kinds, limits_within, has_kinds, name_tested}
use Rattle.zn_zloop.specs.Backing.{IsFileAt}
use Rattle.zn_zloop.specs.Framing.{Label, label_of, labels_of, label_at, numbers_of, IsReadOnlyAt, IsOfflineAt, IsLengthAt, Frames}
use Rattle.zn_zloop.specs.Holding.{Holds}
use Rattle.zn_zloop.proofs.Frames.{label_is}
use Rattle.zn_zloop.proofs.Backs.{rest_file}

-- ---- the numbers

-- how many of so many zones from one on are conventional
abbrev conv_in : Geometry → ℕ → ℕ → ℕ
conv_in geo a n = count_by (λ (kind : Kind). not (is_sequential kind)) (map (kind_of geo) (range_with_len a n))

counts_one : (b : Bool) → ◌≡◌ {A = ℕ} (cond (not (is_sequential (cond b Conventional Sequential))) 1 0) (cond b 1 0)
counts_one true = refl
counts_one false = refl

conv_more : (geo : Geometry) (a n : ℕ) → conv_in geo a (suc n) ≡ cond (ltb a geo.conv) 1 0 + conv_in geo (a + 1) n
conv_more geo a n =
    sum_by-cons (λ (kind : Kind). cond (not (is_sequential kind)) 1 0) (kind_of geo a) (map (kind_of geo) (range_with_len (a + 1) n))
    ∙ ap (λ m. m + conv_in geo (a + 1) n) (counts_one (ltb a geo.conv))

conv_none : (geo : Geometry) (a n : ℕ) → geo.conv ≤ a → conv_in geo a n ≡ 0
conv_none geo a zero past = refl
conv_none geo a (suc n) past = elim (cases_Bool (ltb a geo.conv)) [
  | inl before ↦ absurd (omega (arith, ltb-true a geo.conv before))
  | inr none ↦
      let step : conv_in geo a (suc n) ≡ 0 + conv_in geo (a + 1) n = conv_more geo a n ∙ ap (λ b. cond b 1 0 + conv_in geo (a + 1) n) none in
      let rest : conv_in geo (a + 1) n ≡ 0 = conv_none geo (a + 1) n (omega arith) in
      step ∙ omega (arith, rest)
]

conv_all : (geo : Geometry) (a n : ℕ) → a ≤ geo.conv → geo.conv ≤ a + n → conv_in geo a n + a ≡ geo.conv
conv_all geo a zero low high = let none : conv_in geo a 0 ≡ 0 = refl in omega (arith, none)
conv_all geo a (suc n) low high = elim (cases_Bool (ltb a geo.conv)) [
  | inl before ↦
      let step : conv_in geo a (suc n) ≡ 1 + conv_in geo (a + 1) n = conv_more geo a n ∙ ap (λ b. cond b 1 0 + conv_in geo (a + 1) n) before in
      let rest : conv_in geo (a + 1) n + (a + 1) ≡ geo.conv = conv_all geo (a + 1) n (omega (arith, ltb-true a geo.conv before)) (omega arith) in
      omega (arith, step, rest)
  | inr none ↦
      let past : geo.conv ≤ a = ltb-false a geo.conv none in
      let all : conv_in geo a (suc n) ≡ 0 = conv_none geo a (suc n) past in
      omega (arith, all, past)
]

-- labels of these kinds have these numbers
numbers_is : (shape : Shape) (labels : List Label) (geo : Geometry) → map (λ (label : Label). label.kind) labels ≡ kinds_of geo → shape ≡ geo.shape → geo.conv ≤ geo.zones → numbers_of shape labels ≡ geo
numbers_is shape labels geo kinds same few =
    let zones : length labels ≡ geo.zones = sym (length-map labels (λ (label : Label). label.kind)) ∙ ap length kinds ∙ count_kinds geo in
    let all : conv_in geo 0 geo.zones ≡ geo.conv = sym (add-zero (conv_in geo 0 geo.zones)) ∙ conv_all geo 0 geo.zones (omega arith) (omega arith) in
    let conv : count_by (λ (label : Label). not (is_sequential label.kind)) labels ≡ geo.conv =
    sym (count_by-map (λ (kind : Kind). not (is_sequential kind)) (λ (label : Label). label.kind) labels)
    ∙ ap (count_by (λ (kind : Kind). not (is_sequential kind))) kinds ∙ all in
    λ i. record { zones = zones i; conv = conv i; shape = same i }

-- ---- the files

read_only_at : (at : Cond) (o : Option (List ℕ)) → IsReadOnlyMarker at o → IsReadOnlyAt at (option_map at_rest o)
read_only_at Good o is = ap (option_map at_rest) is
read_only_at ReadOnly o is = ap (option_map at_rest) is
read_only_at Offline None is = λ f there. absurd (cc)
read_only_at Offline (Some bytes) (inl none) = λ f there. absurd (cc)
read_only_at Offline (Some bytes) (inr some) = λ f there. sym (same_Some (at_rest bytes) f there) ∙ ap at_rest (same_Some bytes [] some)

offline_at : (at : Cond) (o : Option (List ℕ)) → IsOfflineMarker at o → IsOfflineAt at (option_map at_rest o)
offline_at Good o is = ap (option_map at_rest) is
offline_at ReadOnly o is = ap (option_map at_rest) is
offline_at Offline o is = ap (option_map at_rest) is

length_at : (shape : Shape) (zone : Zone) (o : Option (List ℕ)) → IsZoneFile shape zone o → IsLengthAt shape (record { kind = zone.kind; cond = zone.cond }) (option_map at_rest o)
length_at shape zone None has = absurd (cc (has.there))
length_at shape zone (Some bytes) has = λ off f there.
    subst (λ (g : File). IsTrue (is_file_length shape zone.kind (length g.bytes))) (same_Some (at_rest bytes) f there) (has.len bytes off refl)

on_where_good : (at : Cond) → IsTrue (is_good at) → ¬ IsTrue (is_offline at)
on_where_good Good good off = absurd (cc)
on_where_good ReadOnly good off = absurd (cc)
on_where_good Offline good off = absurd (cc)

file_rest : (shape : Shape) (zone : Zone) (o : Option (List ℕ)) → IsSoundZone true shape zone → IsRestedZone zone → IsZoneFile shape zone o → IsFileAt zone (option_map at_rest o)
file_rest shape zone None sound rest has = absurd (cc (has.there))
file_rest shape zone (Some bytes) sound rest has =
    rest_file zone (at_rest bytes) refl (λ on. same_Some bytes zone.bytes (has.bytes on)) (on_where_good zone.cond) (inl sound.bytes) rest.durable

some_rest : (o : Option (List ℕ)) → IsSome (option_map at_rest o) → IsSome o
some_rest None some = some
some_rest (Some bytes) some = refl

-- ---- the directory

pub holds_rest : (c : Contents) (t : Truth) → StandsFor c t → IsDeviceAtRest t → Holds (rested c) t
holds_rest c t stands rest = record {
  zones = λ z h. subst (IsFileAt (zone_at t z)) (sym (file-rested c (zone_name (zone_at t z).kind z)))
      (file_rest t.shape (zone_at t z) (bytes_at c (zone_name (zone_at t z).kind z)) (subst (λ told. IsSoundZone told t.shape (zone_at t z)) stands.told (rest.sound.zones z h)) (rest.zones z h) (stands.zones z h));
}

kinds_labelled : (t : Truth) → map (λ (label : Label). label.kind) (labels_of (facts_of t)) ≡ map (λ (zone : Zone). zone.kind) t.zones
kinds_labelled t = map-map (λ (label : Label). label.kind) label_of (map zone_facts t.zones) ∙ map-map (λ (zone : ZoneFacts). zone.kind) zone_facts t.zones

pub frames_rest : (c : Contents) (t : Truth) → StandsFor c t → IsDeviceAtRest t → Frames t.shape (labels_of (facts_of t)) (rested c)
frames_rest c t stands rest =
    let labels : List Label = labels_of (facts_of t) in
    let same : numbers_of t.shape labels ≡ stands.geo =
    numbers_is t.shape labels stands.geo (kinds_labelled t ∙ ap (λ (g : TruthGeometry). g.kinds) stands.numbers) (ap (λ (g : TruthGeometry). g.shape) stands.numbers) stands.conv in
    let label_zone : (z : ℕ) → label_at labels z ≡ record { kind = (zone_at t z).kind; cond = (zone_at t z).cond } = λ z. label_is (facts_of t) z ∙ ap label_of (facts_at-zone t z) in
    let inside : (z : ℕ) → z < length labels → z < length t.zones = λ z h. omega (arith, length-map (facts_of t).zones label_of, length-map t.zones zone_facts) in
    record {
      numbers = ap (λ (kinds : List Kind). let g : TruthGeometry = record { shape = t.shape; kinds = kinds } in g) (kinds_labelled t) ∙ stands.numbers ∙ ap geometry_of_device (sym same);
      conv = subst (λ (g : Geometry). g.conv ≤ g.zones) (sym same) stands.conv;
      device = file-rested c device_name ∙ ap (option_map at_rest) stands.device ∙ ap (λ (g : Geometry). Some (at_rest (device_text g))) (sym same);
      read_only = λ z h. subst (λ (x : Label). IsReadOnlyAt x.cond (file_at (rested c) (read_only_name x.kind z))) (sym (label_zone z))
          (subst (IsReadOnlyAt (zone_at t z).cond) (sym (file-rested c (read_only_name (zone_at t z).kind z)))
          (read_only_at (zone_at t z).cond (bytes_at c (read_only_name (zone_at t z).kind z)) (stands.read_only z (inside z h))));
      offline = λ z h. subst (λ (x : Label). IsOfflineAt x.cond (file_at (rested c) (offline_name x.kind z))) (sym (label_zone z))
          (subst (IsOfflineAt (zone_at t z).cond) (sym (file-rested c (offline_name (zone_at t z).kind z)))
          (offline_at (zone_at t z).cond (bytes_at c (offline_name (zone_at t z).kind z)) (stands.offline z (inside z h))));
      lengths = λ z h. subst (λ (x : Label). IsLengthAt t.shape x (file_at (rested c) (zone_name x.kind z))) (sym (label_zone z))
          (subst (IsLengthAt t.shape (record { kind = (zone_at t z).kind; cond = (zone_at t z).cond })) (sym (file-rested c (zone_name (zone_at t z).kind z)))
          (length_at t.shape (zone_at t z) (bytes_at c (zone_name (zone_at t z).kind z)) (stands.zones z (inside z h))));
      others = λ name some. subst (λ (g : Geometry). IsTrue (is_name_of g name)) (sym same)
          (name_tested t stands.geo name (has_kinds t stands.geo stands.numbers) (limits_within stands.geo (stands.conv, subst IsWithinLimits stands.numbers rest.within))
          (stands.others name (some_rest (bytes_at c name) (subst IsSome (file-rested c name) some))));
    }
