-- A marker of a zone is made.
use Rattle.std.proofs.Common.{◌≡◌, ◌⊎◌, inl, inr, ℕ, ◌+◌, ◌<◌, ◌≤◌, cond, List, [], ◌∷◌, length, map, set, get_or, Option, Some, None, Ok, true, refl, sym, ap, ◌∙◌, subst, arith}
use Rattle.std.specs.Prelude.{◌≢◌, IsTrue, IsSome, is_some, Result, not, count_by, if◌then◌else◌}
use Rattle.std.specs.Option.{option_map}
use Rattle.std.proofs.lemmas.Bool.{cases_eq}
use Rattle.std.proofs.lemmas.Option.{same_Some}
use Rattle.std.proofs.lemmas.List.{length-set, map-set, set-get_or, get_or-set_same, get_or-set_other}
use Rattle.std.proofs.lemmas.List.Sums.{sum_by-cons}
use Rattle.std.proofs.lemmas.List.FromFn.{get_or-map-range_with_len}
use Rattle.std.proofs.Math.ListN.{get_or-map}
use Rattle.zn_truth.specs.declared.Kind.{Kind}
use Rattle.zn_truth.specs.declared.Kind.TheVariants.{Sequential}
use Rattle.zn_truth.specs.declared.Cond.{Cond}
use Rattle.zn_truth.specs.declared.Cond.TheVariants.{Good, ReadOnly, Offline}
use Rattle.zn_truth.specs.declared.Shape.{Shape}
use Rattle.zn_truth.specs.Truth.{Geometry, is_sequential}
use Rattle.zn_truth.specs.Limits.{IsWithinLimits}
use Rattle.zn_truth.specs.Inject.{severity}
use Rattle.zn_truth.specs.Orders.{Reply}
use Rattle.zn_stand.specs.declared.numbers.Geometry.{Geometry as Numbers}
use Rattle.zn_stand.specs.File.{File, created, at_rest, synced}
use Rattle.zn_stand.specs.Maps.{Name}
use Rattle.zn_stand.specs.Directory.{Directory, file_at, with_file}
use Rattle.zn_stand.specs.Calls.{CreateFile, made}
use Rattle.zn_stand.specs.ZoneNames.{kind_of, geometry_of_device, device_name, zone_name, read_only_name, offline_name, number_in_name, is_name_of}
use Rattle.zn_stand.specs.DeviceText.{device_text, is_within}
use Rattle.zn_stand.specs.Standing.{is_file_length}
use Rattle.zn_stand.proofs.NameMaps.{same_name, at_same, at_other}
use Rattle.zn_stand.proofs.DeviceNames.{number_in_read_only, number_in_offline, limits_within, zone_file_tested}
use Rattle.zn_files.specs.declared.error.FileError.{FileError}
use Rattle.zn_files.specs.declared.error.FileError.TheVariants.{Exists}
use Rattle.zn_files.specs.States.{FilesState, directory, Called}
use Rattle.zn_zloop.specs.Served.{reply_to, IsThere, Changed, ChangedWhereTold, Served}
use Rattle.zn_zloop.specs.Framing.{Label, label_at, numbers_of, IsReadOnlyAt, IsOfflineAt, IsLengthAt, Frames}
use Rattle.zn_zloop.specs.Turned.{IsMissing, marker_name, IsSyncedFrom, IsEmptyFile}
use Rattle.zn_zloop.proofs.Serving.{called_served, served_then}
use Rattle.zn_zloop.proofs.Frames.{read_only_long, offline_long, device_long, read_only_apart, offline_apart}

-- ---- the calls

none_there : (o : Option File) → o ≡ None → (if is_some o then Some Exists else None) ≡ None
none_there o none = ap (λ (x : Option File). if is_some x then Some Exists else None) none

file_made : (d : Directory) (name : Name) → file_at d name ≡ None → Changed name (λ o p. p ≡ Some created) d (made (CreateFile name) d)
file_made d name none =
    let is : made (CreateFile name) d ≡ with_file d name (Some created) = ap (λ (o : Option File). if is_some o then d else with_file d name (Some created)) none in
    subst (λ (e : Directory). Changed name (λ o p. p ≡ Some created) d e) (sym is) (record { file = at_same d name created; others = λ q apart. at_other d name created q apart })

pub create_served : (name : Name) (r : Result (Unit {0}) FileError) (old new : FilesState) → IsMissing old name → Called (CreateFile name) r old new → Served name (λ o p. p ≡ Some created) (reply_to r) old new
create_served name r old new missing called = called_served name (λ o p. p ≡ Some created) (CreateFile name) r old new called (λ d told. none_there (file_at d name) (missing d told)) (λ d told. file_made d name (missing d told))

made_at : (name : Name) (f : File) (o p : Option Directory) (d : Directory) → ChangedWhereTold name (λ a b. b ≡ Some f) o p → p ≡ Some d → IsSome (file_at d name)
made_at name f o None d changed is = absurd (cc)
made_at name f None (Some e) d changed is = absurd changed
made_at name f (Some c) (Some e) d changed is = subst (λ (x : Directory). IsSome (file_at x name)) (same_Some e d is) (ap is_some changed.file)

-- a file that was made is there
pub made_there : (name : Name) (f : File) (s m : FilesState) → Served name (λ o p. p ≡ Some f) (Ok tt) s m → IsThere m name
made_there name f s m h = λ d told. made_at name f (directory s) (directory m) d (h.changed refl) told

pub made_then : (name : Name) (reply : Reply) (s m t : FilesState) → Served name (λ o p. p ≡ Some created) (Ok tt) s m → Served name IsSyncedFrom reply m t → Served name IsEmptyFile reply s t
made_then name reply s m t h k = served_then name (λ o p. p ≡ Some created) IsSyncedFrom IsEmptyFile reply s m t (λ o p q a b. b ∙ ap (option_map synced) a) h k

-- ---- names

-- a marker is no zone's file
pub marker_apart : (to : Cond) (a b : Kind) (z k : ℕ) → marker_name to a z ≢ zone_name b k
marker_apart Good a b z k = read_only_apart a b z k
marker_apart ReadOnly a b z k = read_only_apart a b z k
marker_apart Offline a b z k = offline_apart a b z k

device_no_marker : (to : Cond) (kind : Kind) (z : ℕ) → device_name ≢ marker_name to kind z
device_no_marker Good kind z same = omega (arith, ap length same, device_long, read_only_long kind z)
device_no_marker ReadOnly kind z same = omega (arith, ap length same, device_long, read_only_long kind z)
device_no_marker Offline kind z same = omega (arith, ap length same, device_long, offline_long kind z)

markers_apart : (a b : Kind) (k z : ℕ) → read_only_name a k ≢ offline_name b z
markers_apart a b k z same = omega (arith, ap length same, read_only_long a k, offline_long b z)

read_only_names_apart : (a b : Kind) (k z : ℕ) → k < 1000000 → z < 1000000 → k ≢ z → read_only_name a k ≢ read_only_name b z
read_only_names_apart a b k z low small apart same = apart (sym (number_in_read_only a k low) ∙ ap number_in_name same ∙ number_in_read_only b z small)

offline_names_apart : (a b : Kind) (k z : ℕ) → k < 1000000 → z < 1000000 → k ≢ z → offline_name a k ≢ offline_name b z
offline_names_apart a b k z low small apart same = apart (sym (number_in_offline a k low) ∙ ap number_in_name same ∙ number_in_offline b z small)

-- markers of two zones have two names
other_read_only : (to : Cond) (a b : Kind) (k z : ℕ) → k < 1000000 → z < 1000000 → k ≢ z → read_only_name a k ≢ marker_name to b z
other_read_only Good a b k z low small apart = read_only_names_apart a b k z low small apart
other_read_only ReadOnly a b k z low small apart = read_only_names_apart a b k z low small apart
other_read_only Offline a b k z low small apart = markers_apart a b k z

other_offline : (to : Cond) (a b : Kind) (k z : ℕ) → k < 1000000 → z < 1000000 → k ≢ z → offline_name a k ≢ marker_name to b z
other_offline Good a b k z low small apart = λ same. markers_apart b a z k (sym same)
other_offline ReadOnly a b k z low small apart = λ same. markers_apart b a z k (sym same)
other_offline Offline a b k z low small apart = offline_names_apart a b k z low small apart

-- ---- markers

was_good : (cond : Cond) (o : Option File) → severity cond < 1 → IsReadOnlyAt cond o → o ≡ None
was_good Good o milder is = is
was_good ReadOnly o milder is = absurd (omega arith)
was_good Offline o milder is = absurd (omega arith)

was_on : (cond : Cond) (o : Option File) → severity cond < 2 → IsOfflineAt cond o → o ≡ None
was_on Good o milder is = is
was_on ReadOnly o milder is = is
was_on Offline o milder is = absurd (omega arith)

was_empty : (cond : Cond) (o : Option File) → IsReadOnlyAt cond o → (f : File) → o ≡ Some f → f ≡ at_rest []
was_empty Good o is f some = absurd (cc)
was_empty ReadOnly o is f some = same_Some f (at_rest []) (sym some ∙ is)
was_empty Offline o is f some = is f some

-- the marker isn't there yet
pub marker_missing : (to cond : Cond) (kind : Kind) (z : ℕ) (d : Directory) → severity cond < severity to → IsReadOnlyAt cond (file_at d (read_only_name kind z)) → IsOfflineAt cond (file_at d (offline_name kind z)) → file_at d (marker_name to kind z) ≡ None
marker_missing Good cond kind z d worse read_only offline = absurd (omega arith)
marker_missing ReadOnly cond kind z d worse read_only offline = was_good cond (file_at d (read_only_name kind z)) worse read_only
marker_missing Offline cond kind z d worse read_only offline = was_on cond (file_at d (offline_name kind z)) worse offline

-- once it is made, the markers are those of the condition
own_read_only : (to cond : Cond) (kind : Kind) (z : ℕ) (d e : Directory) → severity cond < severity to → IsReadOnlyAt cond (file_at d (read_only_name kind z)) → Changed (marker_name to kind z) IsEmptyFile d e → IsReadOnlyAt to (file_at e (read_only_name kind z))
own_read_only Good cond kind z d e worse is changed = absurd (omega arith)
own_read_only ReadOnly cond kind z d e worse is changed = changed.file
own_read_only Offline cond kind z d e worse is changed =
    λ f some. was_empty cond (file_at d (read_only_name kind z)) is f (sym (changed.others (read_only_name kind z) (markers_apart kind kind z z)) ∙ some)

own_offline : (to cond : Cond) (kind : Kind) (z : ℕ) (d e : Directory) → severity cond < severity to → IsOfflineAt cond (file_at d (offline_name kind z)) → Changed (marker_name to kind z) IsEmptyFile d e → IsOfflineAt to (file_at e (offline_name kind z))
own_offline Good cond kind z d e worse is changed = absurd (omega arith)
own_offline ReadOnly cond kind z d e worse is changed =
    changed.others (offline_name kind z) (λ same. markers_apart kind kind z z (sym same)) ∙ was_on cond (file_at d (offline_name kind z)) (omega arith) is
own_offline Offline cond kind z d e worse is changed = changed.file

-- ---- labels

abbrev no_label : Label
no_label = record { kind = Sequential; cond = Offline }

abbrev label_kind : Label → Kind
label_kind label = label.kind

own_label : (labels : List Label) (z : ℕ) (label : Label) → z < length labels → label_at (set labels z label) z ≡ label
own_label labels z label below = get_or-set_same labels z label no_label below

other_label : (labels : List Label) (z k : ℕ) (label : Label) → k ≢ z → label_at (set labels z label) k ≡ label_at labels k
other_label labels z k label apart = get_or-set_other labels z k label no_label apart

kinds_stay : (labels : List Label) (z : ℕ) (label : Label) → label.kind ≡ (label_at labels z).kind → map label_kind (set labels z label) ≡ map label_kind labels
kinds_stay labels z label kind =
    map-set label_kind labels z label
    ∙ ap (set (map label_kind labels) z) (kind ∙ sym (get_or-map label_kind labels z no_label))
    ∙ set-get_or (map label_kind labels) z Sequential

count_kinds : (labels : List Label) → count_by (λ (kind : Kind). not (is_sequential kind)) (map label_kind labels) ≡ count_by (λ (label : Label). not (is_sequential label.kind)) labels
count_kinds [] = refl
count_kinds (label ∷ labels) =
    sum_by-cons (λ (kind : Kind). cond (not (is_sequential kind)) 1 0) label.kind (map label_kind labels)
    ∙ ap (λ (n : ℕ). cond (not (is_sequential label.kind)) 1 0 + n) (count_kinds labels)
    ∙ sym (sum_by-cons (λ (l : Label). cond (not (is_sequential l.kind)) 1 0) label labels)

-- a new condition leaves the numbers of the device
numbers_stay : (shape : Shape) (labels : List Label) (z : ℕ) (label : Label) → label.kind ≡ (label_at labels z).kind → numbers_of shape (set labels z label) ≡ numbers_of shape labels
numbers_stay shape labels z label kind =
    let zones : length (set labels z label) ≡ length labels = length-set labels z label in
    let conv : count_by (λ (l : Label). not (is_sequential l.kind)) (set labels z label) ≡ count_by (λ (l : Label). not (is_sequential l.kind)) labels =
    sym (count_kinds (set labels z label)) ∙ ap (count_by (λ (k : Kind). not (is_sequential k))) (kinds_stay labels z label kind) ∙ count_kinds labels in
    λ i. record { zones = zones i; conv = conv i; shape = shape }

kind_in_numbers : (shape : Shape) (labels : List Label) (z : ℕ) (d : Directory) → Frames shape labels d → z < length labels → (label_at labels z).kind ≡ kind_of (numbers_of shape labels) z
kind_in_numbers shape labels z d frames below =
    sym (get_or-map label_kind labels z no_label) ∙ ap (λ (g : Geometry). get_or g.kinds z Sequential) frames.numbers
    ∙ get_or-map-range_with_len (kind_of (numbers_of shape labels)) 0 (length labels) z z Sequential below (omega arith)

any_marker : (to : Cond) (kind : Kind) (z : ℕ) → (marker_name to kind z ≡ zone_name kind z) ⊎ ((marker_name to kind z ≡ read_only_name kind z) ⊎ (marker_name to kind z ≡ offline_name kind z))
any_marker Good kind z = inr (inl refl)
any_marker ReadOnly kind z = inr (inl refl)
any_marker Offline kind z = inr (inr refl)

-- its name is one of the device's
marker_named : (shape : Shape) (labels : List Label) (z : ℕ) (to : Cond) (kind : Kind) (d : Directory) → Frames shape labels d → z < length labels → kind ≡ (label_at labels z).kind → IsWithinLimits (record { shape = shape; kinds = map label_kind labels })
    → is_name_of (numbers_of shape labels) (marker_name to kind z) ≡ true
marker_named shape labels z to kind d frames below kind_is within =
    let geo = numbers_of shape labels in
    let limits : IsTrue (is_within geo) = limits_within geo (frames.conv, subst IsWithinLimits frames.numbers within) in
    let same : kind_of geo z ≡ kind = sym (kind_is ∙ kind_in_numbers shape labels z d frames below) in
    zone_file_tested geo z (marker_name to kind z) limits below
    (subst (λ (k : Kind). (marker_name to kind z ≡ zone_name k z) ⊎ ((marker_name to kind z ≡ read_only_name k z) ⊎ (marker_name to kind z ≡ offline_name k z))) (sym same) (any_marker to kind z))

-- ---- what the directory holds besides the bytes of zones

pub frame_marked : (shape : Shape) (labels : List Label) (label : Label) (d e : Directory) (z : ℕ) → Frames shape labels d → z < length labels → length labels ≤ 1000000 → label.kind ≡ (label_at labels z).kind → severity (label_at labels z).cond < severity label.cond
    → IsWithinLimits (record { shape = shape; kinds = map label_kind labels }) → Changed (marker_name label.cond label.kind z) IsEmptyFile d e
    → ((f : File) → file_at d (zone_name label.kind z) ≡ Some f → IsTrue (is_file_length shape label.kind (length f.bytes))) → Frames shape (set labels z label) e
frame_marked shape labels label d e z frames below few kind_is worse within changed long = record {
  numbers = ap (λ (kinds : List Kind). let g : Geometry = record { shape = shape; kinds = kinds } in g) (kinds_stay labels z label kind_is) ∙ frames.numbers ∙ ap geometry_of_device (sym numbers);
  conv = subst (λ (g : Numbers). g.conv ≤ g.zones) (sym numbers) frames.conv;
  device = changed.others device_name (device_no_marker label.cond label.kind z) ∙ frames.device ∙ ap (λ (g : Numbers). Some (at_rest (device_text g))) (sym numbers);
  read_only = λ k h. elim (cases_eq k z) [
    | inl is ↦ subst (λ (n : ℕ). IsReadOnlyAt (label_at new n).cond (file_at e (read_only_name (label_at new n).kind n))) (sym is)
        (subst (λ (x : Label). IsReadOnlyAt x.cond (file_at e (read_only_name x.kind z))) (sym own)
        (own_read_only label.cond (label_at labels z).cond label.kind z d e worse (subst (λ (x : Kind). IsReadOnlyAt (label_at labels z).cond (file_at d (read_only_name x z))) (sym kind_is) (frames.read_only z below)) changed))
    | inr apart ↦ subst (λ (x : Label). IsReadOnlyAt x.cond (file_at e (read_only_name x.kind k))) (sym (other_label labels z k label apart))
        (subst (IsReadOnlyAt (label_at labels k).cond) (sym (changed.others (read_only_name (label_at labels k).kind k) (other_read_only label.cond (label_at labels k).kind label.kind k z (omega (arith, inside k h)) (omega arith) apart))) (frames.read_only k (inside k h)))
  ];
  offline = λ k h. elim (cases_eq k z) [
    | inl is ↦ subst (λ (n : ℕ). IsOfflineAt (label_at new n).cond (file_at e (offline_name (label_at new n).kind n))) (sym is)
        (subst (λ (x : Label). IsOfflineAt x.cond (file_at e (offline_name x.kind z))) (sym own)
        (own_offline label.cond (label_at labels z).cond label.kind z d e worse (subst (λ (x : Kind). IsOfflineAt (label_at labels z).cond (file_at d (offline_name x z))) (sym kind_is) (frames.offline z below)) changed))
    | inr apart ↦ subst (λ (x : Label). IsOfflineAt x.cond (file_at e (offline_name x.kind k))) (sym (other_label labels z k label apart))
        (subst (IsOfflineAt (label_at labels k).cond) (sym (changed.others (offline_name (label_at labels k).kind k) (other_offline label.cond (label_at labels k).kind label.kind k z (omega (arith, inside k h)) (omega arith) apart))) (frames.offline k (inside k h)))
  ];
  lengths = λ k h. elim (cases_eq k z) [
    | inl is ↦ subst (λ (n : ℕ). IsLengthAt shape (label_at new n) (file_at e (zone_name (label_at new n).kind n))) (sym is)
        (subst (λ (x : Label). IsLengthAt shape x (file_at e (zone_name x.kind z))) (sym own)
        (λ off f some. long f (sym (changed.others (zone_name label.kind z) (λ same. marker_apart label.cond label.kind label.kind z z (sym same))) ∙ some)))
    | inr apart ↦ subst (λ (x : Label). IsLengthAt shape x (file_at e (zone_name x.kind k))) (sym (other_label labels z k label apart))
        (subst (IsLengthAt shape (label_at labels k)) (sym (changed.others (zone_name (label_at labels k).kind k) (λ same. marker_apart label.cond label.kind (label_at labels k).kind z k (sym same)))) (frames.lengths k (inside k h)))
  ];
  others = λ name some. subst (λ (g : Numbers). IsTrue (is_name_of g name)) (sym numbers) (elim (same_name name (marker_name label.cond label.kind z)) [
    | inl is ↦ subst (λ (x : Name). IsTrue (is_name_of (numbers_of shape labels) x)) (sym is.0) (marker_named shape labels z label.cond label.kind d frames below kind_is within)
    | inr apart ↦ frames.others name (subst IsSome (changed.others name apart.0) some)
  ]);
}
  where
    new : List Label
    new = set labels z label

    numbers : numbers_of shape (set labels z label) ≡ numbers_of shape labels
    numbers = numbers_stay shape labels z label kind_is

    own : label_at (set labels z label) z ≡ label
    own = own_label labels z label below

    inside : (k : ℕ) → k < length (set labels z label) → k < length labels
    inside k h = omega (arith, length-set labels z label)
