-- What a directory holds besides the bytes of zones stays where only a zone's file changes.
use Rattle.std.proofs.Common.{◌≡◌, inl, inr, ℕ, ◌<◌, ◌≤◌, List, length, map, set, Option, Some, None, refl, sym, ap, ◌∙◌, subst, arith}
use Rattle.std.specs.Prelude.{◌≢◌, IsTrue, IsSome}
use Rattle.std.proofs.lemmas.List.{map-set, set-get_or}
use Rattle.std.proofs.lemmas.Bool.{cases_eq}
use Rattle.std.proofs.Math.ListN.{get_or-map}
use Rattle.zn_truth.specs.declared.Kind.{Kind}
use Rattle.zn_truth.specs.declared.Kind.TheVariants.{Conventional, Sequential}
use Rattle.zn_truth.specs.declared.Shape.{Shape}
use Rattle.zn_truth.specs.Truth.{is_offline, no_zone}
use Rattle.zn_zone.specs.Facts.{ZoneFacts, Facts, zone_facts, facts_at, with_facts}
use Rattle.zn_stand.specs.File.{File}
use Rattle.zn_stand.specs.Maps.{Name}
use Rattle.zn_stand.specs.Directory.{Directory, file_at}
use Rattle.zn_stand.specs.ZoneNames.{device_name, zone_name, six_digits, read_only_name, offline_name}
use Rattle.zn_stand.specs.Standing.{is_file_length}
use Rattle.zn_stand.proofs.NameMaps.{same_name}
use Rattle.zn_zloop.specs.Served.{Changed}
use Rattle.zn_zloop.specs.Seen.{bytes_in}
use Rattle.zn_zloop.specs.Framing.{Label, label_of, labels_of, label_at, IsReadOnlyAt, IsOfflineAt, IsLengthAt, Frames}
use Rattle.zn_zloop.proofs.ZoneNaming.{names_apart}

-- ---- names

zone_long : (kind : Kind) (z : ℕ) → length (zone_name kind z) ≡ 10
unfolding zone_name six_digits
zone_long Conventional z = refl
zone_long Sequential z = refl

pub read_only_long : (kind : Kind) (z : ℕ) → length (read_only_name kind z) ≡ 13
unfolding read_only_name zone_name six_digits
read_only_long Conventional z = refl
read_only_long Sequential z = refl

pub offline_long : (kind : Kind) (z : ℕ) → length (offline_name kind z) ≡ 14
unfolding offline_name zone_name six_digits
offline_long Conventional z = refl
offline_long Sequential z = refl

pub device_long : length device_name ≡ 6
unfolding device_name
device_long = refl

pub device_apart : (kind : Kind) (z : ℕ) → device_name ≢ zone_name kind z
device_apart kind z same = omega (arith, ap length same, device_long, zone_long kind z)

pub read_only_apart : (a b : Kind) (k z : ℕ) → read_only_name a k ≢ zone_name b z
read_only_apart a b k z same = omega (arith, ap length same, read_only_long a k, zone_long b z)

pub offline_apart : (a b : Kind) (k z : ℕ) → offline_name a k ≢ zone_name b z
offline_apart a b k z same = omega (arith, ap length same, offline_long a k, zone_long b z)

-- ---- labels

pub labels_stay : (f : Facts) (z : ℕ) (zone : ZoneFacts) → zone.kind ≡ (facts_at f z).kind → zone.cond ≡ (facts_at f z).cond → labels_of (with_facts f z zone) ≡ labels_of f
labels_stay f z zone kind cond =
    map-set label_of f.zones z zone
    ∙ ap (set (map label_of f.zones) z) (label_same ∙ sym (get_or-map label_of f.zones z (zone_facts no_zone)))
    ∙ set-get_or (map label_of f.zones) z (label_of (zone_facts no_zone))
  where
    label_same : label_of zone ≡ label_of (facts_at f z)
    label_same = λ i. record { kind = kind i; cond = cond i }

pub label_is : (f : Facts) (z : ℕ) → label_at (labels_of f) z ≡ label_of (facts_at f z)
label_is f z = get_or-map label_of f.zones z (zone_facts no_zone)

-- ---- a file of a zone changes

same_length : (shape : Shape) (label : Label) (o p : Option File) → (IsTrue (is_offline label.cond) → bytes_in p ≡ bytes_in o) → IsSome o → IsLengthAt shape label o → IsLengthAt shape label p
same_length shape label None p same some len = absurd (cc)
same_length shape label (Some f) p same some len = λ off g is.
    subst (λ (b : List ℕ). IsTrue (is_file_length shape label.kind (length b))) (sym (same off) ∙ ap bytes_in is) (len off f refl)

pub frame_put : (R : Option File → Option File → Type 0) (shape : Shape) (labels : List Label) (kind : Kind) (d e : Directory) (z : ℕ) → Frames shape labels d → z < length labels → length labels ≤ 1000000 → kind ≡ (label_at labels z).kind
    → Changed (zone_name kind z) R d e → IsSome (file_at d (zone_name kind z)) → (IsTrue (is_offline (label_at labels z).cond) → bytes_in (file_at e (zone_name kind z)) ≡ bytes_in (file_at d (zone_name kind z))) → Frames shape labels e
frame_put R shape labels kind d e z frames below few kind_is changed there same = record {
  numbers = frames.numbers;
  conv = frames.conv;
  device = changed.others device_name (device_apart kind z) ∙ frames.device;
  read_only = λ k h. subst (IsReadOnlyAt (label_at labels k).cond) (sym (changed.others (read_only_name (label_at labels k).kind k) (read_only_apart (label_at labels k).kind kind k z))) (frames.read_only k h);
  offline = λ k h. subst (IsOfflineAt (label_at labels k).cond) (sym (changed.others (offline_name (label_at labels k).kind k) (offline_apart (label_at labels k).kind kind k z))) (frames.offline k h);
  lengths = λ k h. elim (cases_eq k z) [
    | inl is ↦ subst (λ (n : ℕ). IsLengthAt shape (label_at labels n) (file_at e (zone_name (label_at labels n).kind n))) (sym is)
        (subst (λ (x : Kind). IsLengthAt shape (label_at labels z) (file_at e (zone_name x z))) kind_is
        (same_length shape (label_at labels z) (file_at d (zone_name kind z)) (file_at e (zone_name kind z)) same there (subst (λ (x : Kind). IsLengthAt shape (label_at labels z) (file_at d (zone_name x z))) (sym kind_is) (frames.lengths z below))))
    | inr apart ↦ subst (IsLengthAt shape (label_at labels k)) (sym (changed.others (zone_name (label_at labels k).kind k) (names_apart (label_at labels k).kind kind k z (omega arith) (omega arith) apart))) (frames.lengths k h)
  ];
  others = λ name some. elim (same_name name (zone_name kind z)) [
    | inl is ↦ frames.others name (subst (λ (x : Name). IsSome (file_at d x)) (sym is.0) there)
    | inr apart ↦ frames.others name (subst IsSome (changed.others name apart.0) some)
  ];
}
