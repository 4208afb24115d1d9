-- A new device in an empty directory.
use Rattle.std.proofs.Common.{◌≡◌, ◌⊎◌, ◌≢◌, inl, inr, ℕ, zero, suc, ◌+◌, ◌-◌, ◌*◌, ◌<◌, ◌≤◌, Bool, true, false, List, [], ◌∷◌, length, map, replicate, get_or, Option, Some, None, Result, Ok, Err, refl, sym, ap, ◌∙◌, subst, arith}
use Rattle.std.specs.Prelude.{IsErrOf, IfErr, OnOk, IsTrue, IsSome, is_some, slice_get}
use Rattle.std.specs.FinMap.{keys, contains_key-keys}
use Rattle.std.specs.Option.{option_map}
use Rattle.std.proofs.lemmas.Bool.{cases_eq, both_ways}
use Rattle.std.proofs.lemmas.List.{length-map, length-replicate, get_or-map, nil_from_length}
use Rattle.std.proofs.lemmas.List.FromFn.{get_or-map-range_with_len}
use Rattle.std.proofs.lemmas.Option.{same_Some}
use Rattle.zn_truth.specs.declared.limits.TheConstants.{BLOCK_SIZE}
use Rattle.zn_truth.specs.declared.Kind.{Kind}
use Rattle.zn_truth.specs.declared.Kind.TheVariants.{Conventional, Sequential}
use Rattle.zn_truth.specs.declared.Shape.{Shape}
use Rattle.zn_truth.specs.Truth.{Truth, Zone, zone_at, no_zone, geometry, cleared}
use Rattle.zn_truth.specs.Limits.{IsWithinLimits}
use Rattle.zn_truth.specs.Fresh.{fresh_zone}
use Rattle.zn_device.specs.Fresh.{fresh}
use Rattle.zn_device.proofs.Begins.{fresh_sound, geometry-fresh}
use Rattle.zn_stand.specs.declared.numbers.Geometry.{Geometry}
use Rattle.zn_stand.specs.File.{File, at_rest as file_at_rest, IsImage}
use Rattle.zn_stand.specs.Maps.{Name}
use Rattle.zn_stand.specs.Directory.{Directory, Contents, file_at, bytes_at, contents, rested, MayHave, IsImageOf}
use Rattle.zn_stand.specs.Calls.{TellNames, made}
use Rattle.zn_stand.specs.ZoneNames.{kind_of, kinds_of, zone_numbers, geometry_of_device, device_name, zone_name, read_only_name, offline_name, six_digits, number_in_name}
use Rattle.zn_stand.specs.DeviceText.{device_text, is_within}
use Rattle.zn_stand.specs.Standing.{IsZoneFile, IsReadOnlyMarker, IsOfflineMarker, IsZoneName, IsNameOf, StandsFor}
use Rattle.zn_stand.specs.AtRest.{at_rest, IsRestedZone, IsDeviceAtRest}
use Rattle.zn_stand.specs.History.{LeavesOnly}
use Rattle.zn_stand.proofs.NameMaps.{same_name, maps_same}
use Rattle.zn_stand.proofs.Files.{rest_only}
use Rattle.zn_stand.proofs.Directories.{bytes-contents, file-rested}
use Rattle.zn_stand.proofs.DeviceNames.{within_limits, count_kinds, number_in_zone}
use Rattle.zn_stand.proofs.DeviceRest.{only}
use Rattle.zn_stand.proofs.Histories.{leaves_nothing, leaves_more, leaves_also}
use Rattle.zn_files.specs.States.{FilesState, directory, is_told, MayLeaveInside, Called}
use Rattle.zn_files.specs.declared.error.FileError.{FileError}
use Rattle.zn_backing.specs.declared.error.CreateError.{CreateError}
use Rattle.zn_backing.specs.declared.error.CreateError.TheVariants.{BadGeometry, Exists, Fault, Memory}
use Rattle.zn_backing.specs.Failures.{not_made}
use Rattle.zn_backing.specs.Making.{is_failure, IsCaused, Holds, IsChanged, LeavesOthers, MakesFile, rested_file, new_length, new_bytes, IsZoneBefore, HasZonesBefore, HasDeviceLast, MakesFiles}
use Rattle.zn_backing.specs.Creating.{IsNew, HasNewDevice, RefusesNames, Creates}
use Rattle.zn_backing.proofs.Making.{told_then, caused_none, caused_then, caused_done, caused_failed, call_stays, failure_is}

-- ---- names

zone_long : (kind : Kind) (z : ℕ) → length (zone_name kind z) ≡ 10
unfolding zone_name six_digits
zone_long Conventional z = refl
zone_long Sequential z = refl

read_only_long : (kind : Kind) (z : ℕ) → length (read_only_name kind z) ≡ 13
unfolding read_only_name zone_name six_digits
read_only_long Conventional z = refl
read_only_long Sequential z = refl

offline_long : (kind : Kind) (z : ℕ) → length (offline_name kind z) ≡ 14
unfolding offline_name zone_name six_digits
offline_long Conventional z = refl
offline_long Sequential z = refl

device_long : length device_name ≡ 6
unfolding device_name
device_long = refl

zone_apart : (kind : Kind) (z : ℕ) → zone_name kind z ≢ device_name
zone_apart kind z same = omega (arith, ap length same, device_long, zone_long kind z)

-- two zones have two names
zones_apart : (a b : Kind) (k z : ℕ) → k < 1000000 → z < 1000000 → k ≢ z → zone_name a k ≢ zone_name b z
zones_apart a b k z low small apart same = apart (sym (number_in_zone a k low) ∙ ap number_in_name same ∙ number_in_zone b z small)

few_zones : (geo : Geometry) → IsTrue (is_within geo) → geo.zones ≤ 4096
few_zones geo within = omega (arith, (within_limits geo within).1.most, count_kinds geo)

-- a name of another length is no name of a zone's file or of the file `device`
no_zone_before : (geo : Geometry) (z : ℕ) (name : Name) → length name ≢ 10 → IsZoneBefore geo z name → ⊥
no_zone_before geo z name long zone = long (ap length zone.is ∙ zone_long (kind_of geo zone.k) zone.k)

no_file : (d : Directory) (name : Name) → (IsSome (file_at d name) → ⊥) → file_at d name ≡ None
no_file d name none = at (file_at d name) none
  where
    at : (o : Option File) → (IsSome o → ⊥) → o ≡ None
    at None none = refl
    at (Some f) none = absurd (none refl)

no_device : (geo : Geometry) (z : ℕ) (d : Directory) → HasZonesBefore geo z d → file_at d device_name ≡ None
no_device geo z d has = no_file d device_name (λ some. no_zone_before geo z device_name (λ same. omega (arith, same, device_long)) (has.others device_name some))

-- the file of the next zone isn't there
no_next : (geo : Geometry) (z : ℕ) (d : Directory) → IsTrue (is_within geo) → z < geo.zones → HasZonesBefore geo z d → file_at d (zone_name (kind_of geo z) z) ≡ None
no_next geo z d within there has = no_file d (zone_name (kind_of geo z) z) (λ some. apart (has.others (zone_name (kind_of geo z) z) some))
  where
    apart : IsZoneBefore geo z (zone_name (kind_of geo z) z) → ⊥
    apart zone =
        let few : geo.zones ≤ 4096 = few_zones geo within in
        let before : zone.k < z = zone.before in
        zones_apart (kind_of geo z) (kind_of geo zone.k) z zone.k (omega arith) (omega arith) (λ same. omega (arith, same)) zone.is

-- an empty directory has no files of zones
pub none_before : (geo : Geometry) (d : Directory) → keys d ≡ [] → HasZonesBefore geo 0 d
none_before geo d empty = record {
  zones = λ k before. absurd (omega arith);
  others = λ name some. absurd (none name some);
}
  where
    none : (name : Name) → IsSome (file_at d name) → ⊥
    none name some = absurd (cc (some, contains_key-keys d name, empty))

-- ---- what a stop leaves

none_left : (o : Option File) (left : Option (List ℕ)) → o ≡ None → MayHave o left → IsSome left → ⊥
none_left None None is may some = absurd (cc)
none_left None (Some bytes) is may some = may
none_left (Some f) left is may some = absurd (cc)

rest_left : (o : Option File) (bytes : List ℕ) (left : Option (List ℕ)) → o ≡ Some (file_at_rest bytes) → MayHave o left → left ≡ Some bytes
rest_left None bytes left is may = absurd (cc)
rest_left (Some f) bytes left is may = at left (subst (λ (f : File). MayHave (Some f) left) (same_Some f (file_at_rest bytes) is) may)
  where
    at : (left : Option (List ℕ)) → MayHave (Some (file_at_rest bytes)) left → left ≡ Some bytes
    at None may = absurd (cc)
    at (Some image) may = ap Some (rest_only bytes image may)

-- where there is no file `device`
unmade_last : (geo : Geometry) (d : Directory) (image : Contents) → file_at d device_name ≡ None → MayHave (file_at d device_name) (bytes_at image device_name) → HasDeviceLast geo image
unmade_last geo d image none may = record { zones = λ some. absurd (none_left (file_at d device_name) (bytes_at image device_name) none may some) }

zone_left : (geo : Geometry) (z : ℕ) (name : Name) (s : FilesState) (image : Contents) → Holds s (HasZonesBefore geo z) → name ≢ device_name → LeavesOthers name s image → HasDeviceLast geo image
zone_left geo z name s image has apart left = unmade_last geo left.d image (no_device geo z left.d (has left.d left.told)) (left.others device_name (λ same. apart (sym same)))

device_left : (geo : Geometry) (s : FilesState) (image : Contents) → Holds s (HasZonesBefore geo geo.zones) → LeavesOthers device_name s image → HasDeviceLast geo image
device_left geo s image has left = record {
  zones = λ some z there. rest_left (file_at left.d (zone_name (kind_of geo z) z)) (new_bytes geo z) (bytes_at image (zone_name (kind_of geo z) z)) ((has left.d left.told).zones z there)
      (left.others (zone_name (kind_of geo z) z) (zone_apart (kind_of geo z) z));
}

-- ---- the files of zones

new_zeros : (shape : Shape) (kind : Kind) → replicate (new_length shape kind) 0 ≡ (fresh_zone shape kind).bytes
new_zeros shape Conventional = refl
new_zeros shape Sequential = refl

zones_more : (geo : Geometry) (z : ℕ) (d e : Directory) → IsTrue (is_within geo) → z < geo.zones → HasZonesBefore geo z d → IsChanged (zone_name (kind_of geo z) z) (rested_file (new_bytes geo z)) d e → HasZonesBefore geo (z + 1) e
zones_more geo z d e within there has changed =
    let few : geo.zones ≤ 4096 = few_zones geo within in
    record {
      zones = λ k before. elim (cases_eq k z) [
        | inl same ↦ subst (λ k. file_at e (zone_name (kind_of geo k) k) ≡ Some (file_at_rest (new_bytes geo k))) (sym same) changed.file
        | inr apart ↦ changed.others (zone_name (kind_of geo k) k) (zones_apart (kind_of geo k) (kind_of geo z) k z (omega arith) (omega arith) apart) ∙ has.zones k (omega (arith, apart))
      ];
      others = λ name some. elim (same_name name (zone_name (kind_of geo z) z)) [
        | inl same ↦ record { k = z; before = omega arith; is = same.0 }
        | inr apart ↦ let zone = has.others name (subst (λ (o : Option File). IsSome o) (changed.others name apart.0) some) in record { k = zone.k; before = omega (arith, zone.before); is = zone.is }
      ];
    }

-- ---- files one after another

pub files_failed : (geo : Geometry) (e : CreateError) (old new : FilesState) (P Q : Directory → Type 0) → MakesFiles geo (Err e) old new P → MakesFiles geo (Err e) old new Q
files_failed geo e old new P Q makes = record { cause = makes.cause; plain = makes.plain; done = tt; stops = makes.stops }

pub files_none : (geo : Geometry) (s : FilesState) (P : Directory → Type 0) → Holds s P → MakesFiles geo (Ok tt) s s P
files_none geo s P holds = record { cause = caused_none {T = Unit {0}} (Ok tt) s (λ is. absurd (cc)); plain = tt; done = holds; stops = leaves_nothing s.history (HasDeviceLast geo) }

pub files_unwritten : (geo : Geometry) (s : FilesState) (P : Directory → Type 0) → MakesFiles geo (Err Memory) s s P
files_unwritten geo s P = record { cause = caused_none {T = Unit {0}} (Err Memory) s (λ is. absurd (cc)); plain = refl; done = tt; stops = leaves_nothing s.history (HasDeviceLast geo) }

pub files_then : (geo : Geometry) (r : Result (Unit {0}) CreateError) (s m t : FilesState) (P Q : Directory → Type 0) → MakesFiles geo (Ok tt) s m P → MakesFiles geo r m t Q → MakesFiles geo r s t Q
files_then geo (Ok unit) s m t P Q first then_more = record {
  cause = caused_then tt (Ok unit) s m t first.cause then_more.cause;
  plain = tt;
  done = then_more.done;
  stops = leaves_more s.history m.history t.history (HasDeviceLast geo) first.stops then_more.stops;
}
files_then geo (Err e) s m t P Q first then_more = record {
  cause = caused_then tt (Err e) s m t first.cause then_more.cause;
  plain = then_more.plain;
  done = tt;
  stops = leaves_more s.history m.history t.history (HasDeviceLast geo) first.stops then_more.stops;
}

-- one file makes of a directory what it is to be
file_makes : (geo : Geometry) (name : Name) (change : Option File → Option File) (r : Result (Unit {0}) CreateError) (old new : FilesState) (P : Directory → Type 0) → ((d e : Directory) → directory old ≡ Some d → IsChanged name change d e → P e)
    → ((image : Contents) → LeavesOthers name old image → HasDeviceLast geo image) → MakesFile name change r old new → MakesFiles geo r old new P
file_makes geo name change (Ok unit) old new P makes_it leaves_it makes = record {
  cause = makes.cause;
  plain = tt;
  done = λ e now. let before = told_then new old e (sym makes.cause.told) now in makes_it before.0 e before.1 (makes.done before.0 e before.1 now);
  stops = leaves_also old.history new.history (LeavesOthers name old) (HasDeviceLast geo) leaves_it makes.stops;
}
file_makes geo name change (Err e) old new P makes_it leaves_it makes = record {
  cause = makes.cause;
  plain = makes.plain;
  done = tt;
  stops = leaves_also old.history new.history (LeavesOthers name old) (HasDeviceLast geo) leaves_it makes.stops;
}

pub zone_absent : (geo : Geometry) (z : ℕ) (kind : Kind) (name : Name) (s : FilesState) → IsTrue (is_within geo) → z < geo.zones → Holds s (HasZonesBefore geo z) → kind ≡ kind_of geo z → name ≡ zone_name kind z → Holds s (λ d. file_at d name ≡ None)
zone_absent geo z kind name s within there has kind_is name_is d told =
    subst (λ (n : Name). file_at d n ≡ None) (sym (name_is ∙ ap (λ (k : Kind). zone_name k z) kind_is)) (no_next geo z d within there (has d told))

pub zone_makes : (geo : Geometry) (z len : ℕ) (kind : Kind) (name : Name) (r : Result (Unit {0}) CreateError) (old new : FilesState) → IsTrue (is_within geo) → z < geo.zones → Holds old (HasZonesBefore geo z) → kind ≡ kind_of geo z → name ≡ zone_name kind z
    → len ≡ new_length geo.shape kind → MakesFile name (rested_file (replicate len 0)) r old new → MakesFiles geo r old new (HasZonesBefore geo (z + 1))
zone_makes geo z len kind name r old new within there has kind_is name_is len_is makes =
    let named : name ≡ zone_name (kind_of geo z) z = name_is ∙ ap (λ (k : Kind). zone_name k z) kind_is in
    let filled : replicate len 0 ≡ new_bytes geo z = ap (λ n. replicate n 0) (len_is ∙ ap (new_length geo.shape) kind_is) ∙ new_zeros geo.shape (kind_of geo z) in
    file_makes geo (zone_name (kind_of geo z) z) (rested_file (new_bytes geo z)) r old new (HasZonesBefore geo (z + 1))
    (λ d e told changed. zones_more geo z d e within there (has d told) changed)
    (λ image left. zone_left geo z (zone_name (kind_of geo z) z) old image has (zone_apart (kind_of geo z) z) left)
    (subst (λ (n : Name). MakesFile n (rested_file (new_bytes geo z)) r old new) named (subst (λ (b : List ℕ). MakesFile name (rested_file b) r old new) filled makes))

-- ---- the device

-- all files of a new device, and no other
record HasAll (geo : Geometry) (d : Directory) : Type 0 where
  zones : (z : ℕ) → z < geo.zones → file_at d (zone_name (kind_of geo z) z) ≡ Some (file_at_rest (new_bytes geo z))
  device : file_at d device_name ≡ Some (file_at_rest (device_text geo))
  others : (name : Name) → IsSome (file_at d name) → (name ≡ device_name) ⊎ IsZoneBefore geo geo.zones name

all_files : (geo : Geometry) (d e : Directory) → HasZonesBefore geo geo.zones d → IsChanged device_name (rested_file (device_text geo)) d e → HasAll geo e
all_files geo d e has changed = record {
  zones = λ z there. changed.others (zone_name (kind_of geo z) z) (zone_apart (kind_of geo z) z) ∙ has.zones z there;
  device = changed.file;
  others = λ name some. elim (same_name name device_name) [
    | inl same ↦ inl same.0
    | inr apart ↦ inr (has.others name (subst (λ (o : Option File). IsSome o) (changed.others name apart.0) some))
  ];
}

-- each file is at rest
rest_again : (o : Option File) (bytes : List ℕ) → o ≡ Some (file_at_rest bytes) → o ≡ option_map file_at_rest (option_map (λ f. f.bytes) o)
rest_again None bytes is = refl
rest_again (Some f) bytes is = let same : f ≡ file_at_rest bytes = same_Some f (file_at_rest bytes) is in ap Some (same ∙ ap (λ (f : File). file_at_rest f.bytes) (sym same))

file_rests : (geo : Geometry) (d : Directory) → HasAll geo d → (name : Name) → file_at d name ≡ option_map file_at_rest (option_map (λ f. f.bytes) (file_at d name))
file_rests geo d all name = at (file_at d name) refl
  where
    held : (name ≡ device_name) ⊎ IsZoneBefore geo geo.zones name → file_at d name ≡ option_map file_at_rest (option_map (λ f. f.bytes) (file_at d name))
    held (inl device) = rest_again (file_at d name) (device_text geo) (ap (file_at d) device ∙ all.device)
    held (inr zone) = rest_again (file_at d name) (new_bytes geo zone.k) (ap (file_at d) zone.is ∙ all.zones zone.k zone.before)

    at : (o : Option File) → file_at d name ≡ o → file_at d name ≡ option_map file_at_rest (option_map (λ f. f.bytes) (file_at d name))
    at None is = subst (λ (o : Option File). o ≡ option_map file_at_rest (option_map (λ f. f.bytes) o)) (sym is) refl
    at (Some f) is = held (all.others name (ap is_some is))

all_rested : (geo : Geometry) (d : Directory) → HasAll geo d → d ≡ rested (contents d)
all_rested geo d all = maps_same d (rested (contents d)) (λ name. file_rests geo d all name ∙ ap (option_map file_at_rest) (sym (bytes-contents d name)) ∙ sym (file-rested (contents d) name))

-- what it holds
bytes_of : (d : Directory) (name : Name) (bytes : List ℕ) → file_at d name ≡ Some (file_at_rest bytes) → bytes_at (contents d) name ≡ Some bytes
bytes_of d name bytes is = bytes-contents d name ∙ ap (option_map (λ f. f.bytes)) is

map_there : (o : Option File) → is_some (option_map (λ (f : File). f.bytes) o) ≡ is_some o
map_there None = refl
map_there (Some f) = refl

held_there : (d : Directory) (name : Name) → IsSome (bytes_at (contents d) name) → IsSome (file_at d name)
held_there d name some = sym (map_there (file_at d name)) ∙ ap is_some (sym (bytes-contents d name)) ∙ some

none_of : (o : Option (List ℕ)) → (IsSome o → ⊥) → o ≡ None
none_of None none = refl
none_of (Some bytes) none = absurd (none refl)

-- a marker isn't there
no_marker : (geo : Geometry) (d : Directory) (name : Name) → HasAll geo d → length name ≢ 10 → length name ≢ 6 → bytes_at (contents d) name ≡ None
no_marker geo d name all long short = none_of (bytes_at (contents d) name) (λ some. elim (all.others name (held_there d name some)) [
  | inl device ↦ short (ap length device ∙ device_long)
  | inr zone ↦ no_zone_before geo geo.zones name long zone
])

-- the new device
abbrev new_truth : Geometry → Truth
new_truth geo = fresh geo.shape (kinds_of geo)

count_zones : (geo : Geometry) → length (new_truth geo).zones ≡ geo.zones
count_zones geo = length-map (kinds_of geo) (fresh_zone geo.shape) ∙ count_kinds geo

zone-new : (geo : Geometry) (z : ℕ) → z < geo.zones → zone_at (new_truth geo) z ≡ fresh_zone geo.shape (kind_of geo z)
zone-new geo z there =
    get_or-map (fresh_zone geo.shape) (kinds_of geo) z Sequential no_zone (omega (arith, count_kinds geo))
    ∙ ap (fresh_zone geo.shape) (get_or-map-range_with_len (kind_of geo) 0 geo.zones z z Sequential there (omega arith))

fresh_kind : (shape : Shape) (kind : Kind) → (fresh_zone shape kind).kind ≡ kind
fresh_kind shape Conventional = refl
fresh_kind shape Sequential = refl

-- what a directory holds for a new zone
record HasZone (c : Contents) (shape : Shape) (zone : Zone) (z : ℕ) : Type 0 where
  file : IsZoneFile shape zone (bytes_at c (zone_name zone.kind z))
  read_only : IsReadOnlyMarker zone.cond (bytes_at c (read_only_name zone.kind z))
  offline : IsOfflineMarker zone.cond (bytes_at c (offline_name zone.kind z))
  rest : IsRestedZone zone

flags_cleared : (n : ℕ) → replicate n false ≡ cleared (replicate n false)
flags_cleared n = ap (λ m. replicate m false) (sym (length-replicate n false))

fresh_held : (c : Contents) (shape : Shape) (kind : Kind) (z : ℕ) → bytes_at c (zone_name kind z) ≡ Some (fresh_zone shape kind).bytes → bytes_at c (read_only_name kind z) ≡ None → bytes_at c (offline_name kind z) ≡ None → HasZone c shape (fresh_zone shape kind) z
fresh_held c shape Conventional z file read_only offline = record {
  file = record { there = ap is_some file; bytes = λ on. file; len = λ bytes off is. absurd (cc) };
  read_only = read_only;
  offline = offline;
  rest = record { durable = refl; flushed = flags_cleared shape.zone_blocks; closed = refl };
}
fresh_held c shape Sequential z file read_only offline = record {
  file = record { there = ap is_some file; bytes = λ on. file; len = λ bytes off is. absurd (cc) };
  read_only = read_only;
  offline = offline;
  rest = record { durable = refl; flushed = refl; closed = refl };
}

zone_held : (geo : Geometry) (d : Directory) → HasAll geo d → (z : ℕ) → z < length (new_truth geo).zones → HasZone (contents d) geo.shape (zone_at (new_truth geo) z) z
zone_held geo d all z below =
    let there : z < geo.zones = omega (arith, count_zones geo) in
    subst (λ (zone : Zone). HasZone (contents d) geo.shape zone z) (sym (zone-new geo z there))
    (fresh_held (contents d) geo.shape (kind_of geo z) z
    (bytes_of d (zone_name (kind_of geo z) z) (new_bytes geo z) (all.zones z there))
    (no_marker geo d (read_only_name (kind_of geo z) z) all (λ same. omega (arith, same, read_only_long (kind_of geo z) z)) (λ same. omega (arith, same, read_only_long (kind_of geo z) z)))
    (no_marker geo d (offline_name (kind_of geo z) z) all (λ same. omega (arith, same, offline_long (kind_of geo z) z)) (λ same. omega (arith, same, offline_long (kind_of geo z) z))))

name_of : (geo : Geometry) (name : Name) → (name ≡ device_name) ⊎ IsZoneBefore geo geo.zones name → IsNameOf (new_truth geo) name
name_of geo name (inl device) = inl device
name_of geo name (inr zone) =
    let kind : (zone_at (new_truth geo) zone.k).kind ≡ kind_of geo zone.k = ap (λ (zone : Zone). zone.kind) (zone-new geo zone.k zone.before) ∙ fresh_kind geo.shape (kind_of geo zone.k) in
    inr (record { z = zone.k; there = omega (arith, count_zones geo, zone.before); is = inl (zone.is ∙ ap (λ (k : Kind). zone_name k zone.k) (sym kind)) })

new_stands : (geo : Geometry) (d : Directory) → IsTrue (is_within geo) → HasAll geo d → StandsFor (contents d) (new_truth geo)
new_stands geo d within all = record {
  told = refl;
  geo = geo;
  numbers = geometry-fresh geo.shape (kinds_of geo);
  conv = (within_limits geo within).0;
  device = bytes_of d device_name (device_text geo) all.device;
  zones = λ z below. (zone_held geo d all z below).file;
  read_only = λ z below. (zone_held geo d all z below).read_only;
  offline = λ z below. (zone_held geo d all z below).offline;
  others = λ name some. name_of geo name (all.others name (held_there d name some));
}

new_rests : (geo : Geometry) (d : Directory) → IsTrue (is_within geo) → HasAll geo d → IsDeviceAtRest (new_truth geo)
new_rests geo d within all =
    let limits : IsWithinLimits (geometry_of_device geo) = (within_limits geo within).1 in
    record {
      sound = fresh_sound geo.shape (kinds_of geo) limits.capacity;
      within = subst IsWithinLimits (sym (geometry-fresh geo.shape (kinds_of geo))) limits;
      zones = λ z below. (zone_held geo d all z below).rest;
    }

is_new : (geo : Geometry) (d : Directory) → IsTrue (is_within geo) → HasAll geo d → IsNew geo d
is_new geo d within all = record {
  rested = all_rested geo d all;
  device = only (contents d) (new_truth geo) (new_stands geo d within all) (new_rests geo d within all);
}

pub device_absent : (geo : Geometry) (s : FilesState) → Holds s (HasZonesBefore geo geo.zones) → Holds s (λ d. file_at d device_name ≡ None)
device_absent geo s has d told = no_device geo geo.zones d (has d told)

pub device_makes : (geo : Geometry) (text : List ℕ) (r : Result (Unit {0}) CreateError) (old new : FilesState) → IsTrue (is_within geo) → text ≡ device_text geo → Holds old (HasZonesBefore geo geo.zones) → MakesFile device_name (rested_file text) r old new
    → MakesFiles geo r old new (IsNew geo)
device_makes geo text r old new within is has makes =
    file_makes geo device_name (rested_file (device_text geo)) r old new (IsNew geo)
    (λ d e told changed. is_new geo e within (all_files geo d e (has d told) changed))
    (λ image left. device_left geo old image has left)
    (subst (λ (b : List ℕ). MakesFile device_name (rested_file b) r old new) is makes)

-- ---- the whole

-- an error that lies in a call is no other
no_failure : {U : Type 0} (e other : CreateError) → is_failure e ≡ true → is_failure other ≡ false → ◌≢◌ {A = Result U CreateError} (Err e) (Err other)
no_failure e other fails apart is = let same : e ≡ other = cc in absurd (cc (fails, apart, ap is_failure same))

-- a broken limit
pub creates_limited : (geo : Geometry) (s : FilesState) → is_within geo ≡ false → Creates geo (Err BadGeometry) s s
creates_limited geo s broken = record {
  later = omega arith;
  fault = λ is. absurd (cc);
  kept = λ apart. refl;
  told = refl;
  geometry = (λ is. broken, λ is. refl);
  untouched = λ is. refl;
  first = λ name d is told. absurd (cc);
  refused = λ name d is told. absurd (cc);
  none = λ d told. tt;
  made = λ d told. tt;
  stops = λ d told empty. leaves_nothing s.history (HasDeviceLast geo);
}

-- what a stop leaves of an empty directory
names_left : (geo : Geometry) (old new : FilesState) (d : Directory) → directory old ≡ Some d → keys d ≡ [] → LeavesOnly old.history new.history (MayLeaveInside TellNames (directory old)) → LeavesOnly old.history new.history (HasDeviceLast geo)
names_left geo old new d told empty stops = leaves_also old.history new.history (MayLeaveInside TellNames (directory old)) (HasDeviceLast geo)
    (λ image may. let is : IsImageOf d image = subst (λ (o : Option Directory). MayLeaveInside TellNames o image) told may in unmade_last geo d image (no_device geo 0 d (none_before geo d empty)) (is.each device_name)) stops

-- a name, or a call that isn't done
pub creates_refused : (geo : Geometry) (e : CreateError) (old new : FilesState) → is_within geo ≡ true → RefusesNames (Err e) old new → Creates geo (Err e) old new
creates_refused geo e old new within refuses = record {
  later = refuses.cause.later;
  fault = refuses.cause.fault;
  kept = refuses.cause.kept;
  told = refuses.cause.told;
  geometry = (λ is. absurd (refuses.plain is), λ broken. absurd (both_ways (is_within geo) broken within));
  untouched = λ is. absurd (refuses.plain is);
  first = refuses.first;
  refused = λ name d is told. refuses.same (λ fault. apart name is fault) ∙ told;
  none = λ d told. tt;
  made = λ d told. tt;
  stops = λ d told empty. names_left geo old new d told empty refuses.stops;
}
  where
    apart : (name : Name) → ◌≡◌ {A = Result (Unit {0}) CreateError} (Err e) (Err (Exists name)) → ◌≡◌ {A = Result (Unit {0}) CreateError} (Err e) (Err Fault) → ⊥
    apart name is fault = absurd (cc)

-- the directory is empty, and stays so
pub empty_then : (geo : Geometry) (old new : FilesState) → RefusesNames (Ok tt) old new → Holds new (HasZonesBefore geo 0)
empty_then geo old new refuses e told =
    none_before geo e (refuses.none e (sym (refuses.same (λ is. absurd (cc))) ∙ told))

creates_stops : (geo : Geometry) (s m t : FilesState) (d : Directory) → directory s ≡ Some d → RefusesNames (Ok tt) s m → LeavesOnly m.history t.history (HasDeviceLast geo) → LeavesOnly s.history t.history (HasDeviceLast geo)
creates_stops geo s m t d told refuses stops = leaves_more s.history m.history t.history (HasDeviceLast geo) (names_left geo s m d told (refuses.none d told) refuses.stops) stops

new_device : (geo : Geometry) (s t : FilesState) (d : Directory) → is_told t ≡ is_told s → directory s ≡ Some d → Holds t (IsNew geo) → HasNewDevice geo t
new_device geo s t d told is holds = let now = told_then s t d told is in record { d = now.0; told = now.1; is = holds now.0 now.1 }

-- files are made
pub creates_made : (geo : Geometry) (r : Result (Unit {0}) CreateError) (s m t : FilesState) → is_within geo ≡ true → RefusesNames (Ok tt) s m → MakesFiles geo r m t (IsNew geo) → Creates geo r s t
creates_made geo (Ok unit) s m t within refuses makes =
    let cause : IsCaused (Ok unit) s t = caused_then tt (Ok unit) s m t refuses.cause makes.cause in
    record {
      later = cause.later;
      fault = cause.fault;
      kept = cause.kept;
      told = cause.told;
      geometry = (λ is. absurd (cc), λ broken. absurd (both_ways (is_within geo) broken within));
      untouched = λ is. absurd (cc);
      first = λ name d is told. absurd (cc);
      refused = λ name d is told. absurd (cc);
      none = λ d told. refuses.none d told;
      made = λ d told. new_device geo s t d cause.told told makes.done;
      stops = λ d told empty. creates_stops geo s m t d told refuses makes.stops;
    }
creates_made geo (Err e) s m t within refuses makes =
    let cause : IsCaused {T = Unit {0}} (Err e) s t = caused_then tt (Err e) s m t refuses.cause makes.cause in
    record {
      later = cause.later;
      fault = cause.fault;
      kept = cause.kept;
      told = cause.told;
      geometry = (λ is. absurd (no_failure e BadGeometry makes.plain refl is), λ broken. absurd (both_ways (is_within geo) broken within));
      untouched = λ is. absurd (no_failure e BadGeometry makes.plain refl is);
      first = λ name d is told. absurd (no_failure e (Exists name) makes.plain refl is);
      refused = λ name d is told. absurd (no_failure e (Exists name) makes.plain refl is);
      none = λ d told. tt;
      made = λ d told. tt;
      stops = λ d told empty. creates_stops geo s m t d told refuses makes.stops;
    }
