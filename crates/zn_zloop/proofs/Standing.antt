-- The directory stands for what the device tells.
use Rattle.std.proofs.Common.{◌≡◌, inl, inr, ℕ, ◌<◌, Bool, false, List, [], length, map, Option, Some, None, refl, sym, ap, ◌∙◌, subst, arith}
use Rattle.std.specs.Prelude.{IsTrue, IsSome}
use Rattle.std.specs.Option.{option_map}
use Rattle.std.proofs.lemmas.List.{length-map}
use Rattle.std.proofs.lemmas.Option.{same_Some}
use Rattle.zn_truth.specs.declared.Kind.{Kind}
use Rattle.zn_truth.specs.declared.Cond.{Cond}
use Rattle.zn_truth.specs.declared.Cond.TheVariants.{Good, ReadOnly, Offline}
use Rattle.zn_truth.specs.declared.Shape.{Shape}
use Rattle.zn_truth.specs.Truth.{Zone, Geometry, zone_at, geometry, is_offline}
use Rattle.zn_zone.specs.Facts.{ZoneFacts, Facts, zone_facts, facts_of, facts_at}
use Rattle.zn_zone.specs.Machine.{Machine, facts}
use Rattle.zn_zone.proofs.ByFacts.{map-map}
use Rattle.zn_zone.proofs.Truths.{facts_at-zone}
use Rattle.zn_stand.specs.File.{File, at_rest}
use Rattle.zn_stand.specs.Directory.{Directory, file_at, contents}
use Rattle.zn_stand.specs.ZoneNames.{geometry_of_device, device_name, zone_name, read_only_name, offline_name}
use Rattle.zn_stand.specs.Standing.{is_file_length, IsZoneFile, IsReadOnlyMarker, IsOfflineMarker, StandsFor}
use Rattle.zn_stand.proofs.Directories.{bytes-contents}
use Rattle.zn_stand.proofs.DeviceNames.{has_kinds, name_is}
use Rattle.zn_zloop.specs.declared.kept.Kept.{Kept}
use Rattle.zn_zloop.specs.Backing.{IsFileAt}
use Rattle.zn_zloop.specs.Seen.{truth_seen}
use Rattle.zn_zloop.specs.Framing.{Label, label_of, labels_of, label_at, numbers_of, IsReadOnlyAt, IsOfflineAt, IsLengthAt}
use Rattle.zn_zloop.specs.Holding.{IsSoundZloop}
use Rattle.zn_zloop.specs.Telling.{truth_told, IsZloop}
use Rattle.zn_zloop.proofs.Sight.{facts_of-seen, zones-seen}
use Rattle.zn_zloop.proofs.Frames.{label_is}

abbrev bytes_of : Option File → Option (List ℕ)
bytes_of o = option_map (λ f. f.bytes) o

none_of : (o : Option File) → o ≡ None → bytes_of o ≡ None
none_of o is = ap bytes_of is

empty_of : (o : Option File) → o ≡ Some (at_rest []) → bytes_of o ≡ Some []
empty_of o is = ap bytes_of is

read_only_marker : (cond : Cond) (o : Option File) → IsReadOnlyAt cond o → IsReadOnlyMarker cond (bytes_of o)
read_only_marker Good o is = none_of o is
read_only_marker ReadOnly o is = empty_of o is
read_only_marker Offline None is = inl refl
read_only_marker Offline (Some f) is = inr (ap (λ (g : File). Some g.bytes) (is f refl))

offline_marker : (cond : Cond) (o : Option File) → IsOfflineAt cond o → IsOfflineMarker cond (bytes_of o)
offline_marker Good o is = none_of o is
offline_marker ReadOnly o is = none_of o is
offline_marker Offline o is = empty_of o is

zone_file : (shape : Shape) (zone : Zone) (label : Label) (o : Option File) → label ≡ record { kind = zone.kind; cond = zone.cond } → IsFileAt zone o → IsLengthAt shape label o → IsZoneFile shape zone (bytes_of o)
zone_file shape zone label None is file len = absurd file
zone_file shape zone label (Some f) is file len = record {
  there = refl;
  bytes = λ on. ap Some (file.bytes on);
  len = λ bytes off there.
      let long = len (subst (λ c. IsTrue (is_offline c)) (sym (ap (λ (x : Label). x.cond) is)) off) f refl in
      subst (λ (b : List ℕ). IsTrue (is_file_length shape zone.kind (length b))) (same_Some f.bytes bytes there) (subst (λ k. IsTrue (is_file_length shape k (length f.bytes))) (ap (λ (x : Label). x.kind) is) long);
}

some_of : (o : Option File) → IsSome (bytes_of o) → IsSome o
some_of None some = some
some_of (Some f) some = refl

kinds_of_labels : (zones : List ZoneFacts) → map (λ (label : Label). label.kind) (map label_of zones) ≡ map (λ (zone : ZoneFacts). zone.kind) zones
kinds_of_labels zones = map-map (λ (label : Label). label.kind) label_of zones

kinds_of_zones : (zones : List Zone) → map (λ (zone : ZoneFacts). zone.kind) (map zone_facts zones) ≡ map (λ (zone : Zone). zone.kind) zones
kinds_of_zones zones = map-map (λ (zone : ZoneFacts). zone.kind) zone_facts zones

-- the geometry that is told is that of the text
pub numbers_seen : (o : Option Directory) (f : Facts) (kepts : List Kept) → length kepts ≡ length f.zones → record { shape = f.shape; kinds = map (λ (label : Label). label.kind) (labels_of f) } ≡ geometry_of_device (numbers_of f.shape (labels_of f))
    → geometry (truth_seen o f kepts) ≡ geometry_of_device (numbers_of f.shape (labels_of f))
numbers_seen o f kepts count numbers =
    let t = truth_seen o f kepts in
    ap (λ kinds. let g : Geometry = record { shape = f.shape; kinds = kinds } in g)
    (sym (kinds_of_zones t.zones) ∙ ap (λ (g : Facts). map (λ (zone : ZoneFacts). zone.kind) g.zones) (facts_of-seen o f kepts count) ∙ sym (kinds_of_labels f.zones))
    ∙ numbers

pub stands_seen : (d : Directory) (f : Facts) (kepts : List Kept) (listed : List ℕ) → IsSoundZloop (Some d) f kepts listed → StandsFor (contents d) (truth_seen (Some d) f kepts)
stands_seen d f kepts listed device =
    let t = truth_seen (Some d) f kepts in
    let labels = labels_of f in
    let same : facts_of t ≡ f = facts_of-seen (Some d) f kepts device.kept.count in
    let label_zone : (z : ℕ) → label_at labels z ≡ record { kind = (zone_at t z).kind; cond = (zone_at t z).cond } =
    λ z. label_is f z ∙ ap (λ (g : Facts). label_of (facts_at g z)) (sym same) ∙ ap label_of (facts_at-zone t z) in
    let numbers = numbers_seen (Some d) f kepts device.kept.count device.frames.numbers in
    let below : (z : ℕ) → z < length t.zones → z < length labels = λ z h. omega (arith, zones-seen (Some d) f kepts device.kept.count, length-map f.zones label_of) in
    record {
      told = refl;
      geo = numbers_of f.shape labels;
      numbers = numbers;
      conv = device.frames.conv;
      device = bytes-contents d device_name ∙ ap bytes_of device.frames.device;
      zones = λ z h. subst (IsZoneFile f.shape (zone_at t z)) (sym (bytes-contents d (zone_name (zone_at t z).kind z)))
          (zone_file f.shape (zone_at t z) (label_at labels z) (file_at d (zone_name (zone_at t z).kind z)) (label_zone z) (device.holds.zones z h)
          (subst (λ (k : Kind). IsLengthAt f.shape (label_at labels z) (file_at d (zone_name k z))) (ap (λ (x : Label). x.kind) (label_zone z)) (device.frames.lengths z (below z h))));
      read_only = λ z h. subst (IsReadOnlyMarker (zone_at t z).cond) (sym (bytes-contents d (read_only_name (zone_at t z).kind z)))
          (read_only_marker (zone_at t z).cond (file_at d (read_only_name (zone_at t z).kind z))
          (subst (λ (x : Label). IsReadOnlyAt x.cond (file_at d (read_only_name x.kind z))) (label_zone z) (device.frames.read_only z (below z h))));
      offline = λ z h. subst (IsOfflineMarker (zone_at t z).cond) (sym (bytes-contents d (offline_name (zone_at t z).kind z)))
          (offline_marker (zone_at t z).cond (file_at d (offline_name (zone_at t z).kind z))
          (subst (λ (x : Label). IsOfflineAt x.cond (file_at d (offline_name x.kind z))) (label_zone z) (device.frames.offline z (below z h))));
      others = λ name some. name_is t (numbers_of f.shape labels) name (has_kinds t (numbers_of f.shape labels) numbers)
          (device.frames.others name (some_of (file_at d name) (subst IsSome (bytes-contents d name) some)));
    }

-- unless the device is spoilt
pub stands_told : (spoilt : Bool) (o : Option Directory) (m : Machine) (kepts : List Kept) (listed : List ℕ) (d : Directory) → IsZloop spoilt o m kepts listed → spoilt ≡ false → o ≡ Some d → StandsFor (contents d) (truth_told spoilt o m kepts)
stands_told spoilt o m kepts listed d holds clear told =
    subst (λ (b : Bool). StandsFor (contents d) (truth_told b o m kepts)) (sym clear)
    (subst (λ (x : Option Directory). StandsFor (contents d) (truth_seen x (facts m) kepts)) (sym told)
    (stands_seen d (facts m) kepts listed (subst (λ (x : Option Directory). IsSoundZloop x (facts m) kepts listed) told (holds.device clear))))
