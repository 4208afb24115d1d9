-- What is found of each zone.
use Rattle.std.proofs.Common.{◌≡◌, ◌⊎◌, ◌≢◌, inl, inr, ℕ, zero, suc, ◌+◌, ◌-◌, ◌*◌, ◌/◌, ◌<◌, ◌≤◌, Bool, true, false, cond, ltb, eqb, List, [], ◌∷◌, ◌++◌, length, map, take, get_or, Option, Some, None, Result, Ok, Err, refl, sym, ap, ◌∙◌, subst, arith, length-append}
use Rattle.std.specs.Prelude.{IsSome, is_some, IsTrue, unwrap_or}
use Rattle.std.specs.List.{range_with_len}
use Rattle.std.specs.Option.{option_map, option_or}
use Rattle.std.specs.FinMap.{keys, contains_key-keys}
use Rattle.std.proofs.lemmas.Bool.{cases_eq}
use Rattle.std.proofs.lemmas.List.{get_or_push, places}
use Rattle.std.proofs.lemmas.Option.{same_Some}
use Rattle.zn_truth.specs.declared.limits.TheConstants.{BLOCK_SIZE}
use Rattle.zn_truth.specs.declared.Kind.{Kind}
use Rattle.zn_truth.specs.declared.Kind.TheVariants.{Conventional, Sequential}
use Rattle.zn_truth.specs.declared.Cond.{Cond}
use Rattle.zn_truth.specs.declared.Cond.TheVariants.{Good, ReadOnly, Offline}
use Rattle.zn_truth.specs.declared.Shape.{Shape}
use Rattle.zn_truth.specs.declared.ZoneInfo.{ZoneInfo}
use Rattle.zn_truth.specs.Truth.{is_offline, is_sequential, room}
use Rattle.zn_zone.specs.Facts.{reported_zone, IsStartZone}
use Rattle.zn_stand.specs.declared.numbers.Geometry.{Geometry}
use Rattle.zn_stand.specs.File.{File}
use Rattle.zn_stand.specs.Maps.{Name}
use Rattle.zn_stand.specs.Directory.{Directory, Contents, file_at, bytes_at, contents}
use Rattle.zn_stand.specs.ZoneNames.{kind_of, zone_name, read_only_name, offline_name}
use Rattle.zn_stand.specs.Standing.{is_file_length}
use Rattle.zn_stand.specs.AtRest.{Cause, MissingFile as NoFile, BadZoneFile as WrongFile, marked, cond_in, zone_fault, file_fault, first_fault}
use Rattle.zn_stand.proofs.Directories.{bytes-contents}
use Rattle.zn_stand.specs.ZoneNames.{zone_numbers, device_name}
use Rattle.zn_stand.specs.DeviceText.{text_read}
use Rattle.zn_stand.specs.AtRest.{at_rest, text_at_rest, geometry_at_rest, device_at_rest, first_extra, truth_in, unless_fault}
use Rattle.zn_stand.proofs.DeviceRest.{whole_blocks, all_blocks, faults_none}
use Rattle.zn_files.specs.States.{FilesState, directory}
use Rattle.zn_backing.specs.declared.error.OpenError.{OpenError}
use Rattle.zn_backing.specs.Listing.{is_among}
use Rattle.std.specs.Prelude.{IfSome}
use Rattle.zn_backing.specs.Failures.{cause_of}
use Rattle.zn_backing.specs.Steps.{Steps, Sought, IsCauseIn}
use Rattle.zn_backing.specs.Looks.{cond_listed, info_with, info_in, started_zone, no_info, Lists, HasGeometry, IsFaultOf, IsZoneFound, HasZones, AreStarted, AreLooked}
use Rattle.zn_backing.proofs.Listings.{listed_there}
use Rattle.zn_backing.proofs.Stepping.{steps_then, steps_handed}

-- ---- what is listed

there_map : (o : Option File) → is_some (option_map (λ (f : File). f.bytes) o) ≡ is_some o
there_map None = refl
there_map (Some f) = refl

pub listed_is : (d : Directory) (names : List Name) (name : Name) → names ≡ keys d → is_among names name ≡ is_some (bytes_at (contents d) name)
listed_is d names name same = ap (λ ns. is_among ns name) same ∙ sym (contains_key-keys d name) ∙ sym (there_map (file_at d name)) ∙ ap is_some (sym (bytes-contents d name))

pub listed_file : (names : List Name) (name : Name) (s : FilesState) → Lists names s → true ≡ is_among names name → (d : Directory) → directory s ≡ Some d → IsSome (file_at d name)
listed_file names name s lists among d told = listed_there d name (ap (λ ns. is_among ns name) (sym (lists d told)) ∙ sym among)

cond_is : (d : Directory) (names : List Name) (geo : Geometry) (z : ℕ) → names ≡ keys d → cond_listed names (kind_of geo z) z ≡ cond_in (bytes_at (contents d)) geo z
cond_is d names geo z same =
    ap (λ b. marked b (is_among names (read_only_name (kind_of geo z) z))) (listed_is d names (offline_name (kind_of geo z) z) same)
    ∙ ap (marked (is_some (bytes_at (contents d) (offline_name (kind_of geo z) z)))) (listed_is d names (read_only_name (kind_of geo z) z) same)

-- ---- a zone

none_held : (o : Option (List ℕ)) → is_some o ≡ false → o ≡ None
none_held None is = refl
none_held (Some bytes) is = absurd (cc)

pub zone_missing : (d : Directory) (names : List Name) (geo : Geometry) (z : ℕ) → names ≡ keys d → is_among names (zone_name (kind_of geo z) z) ≡ false → zone_fault (bytes_at (contents d)) geo z ≡ Some (NoFile (kind_of geo z) z)
zone_missing d names geo z same among = ap (file_fault geo.shape (kind_of geo z) z) (none_held (bytes_at (contents d) (zone_name (kind_of geo z) z)) (sym (listed_is d names (zone_name (kind_of geo z) z) same) ∙ among))

pub held_file : (d : Directory) (name : Name) (len : ℕ) → IsSome (file_at d name) → ((f : File) → file_at d name ≡ Some f → len ≡ length f.bytes) → (bytes : List ℕ) × (bytes_at (contents d) name ≡ Some bytes) × (len ≡ length bytes)
held_file d name len some is = at (file_at d name) refl some
  where
    at : (o : Option File) → file_at d name ≡ o → IsSome o → (bytes : List ℕ) × (bytes_at (contents d) name ≡ Some bytes) × (len ≡ length bytes)
    at None there some = absurd (cc)
    at (Some f) there some = (f.bytes, bytes-contents d name ∙ ap (option_map (λ (f : File). f.bytes)) there, is f there)

pub zone_bad : (d : Directory) (geo : Geometry) (z len : ℕ) → IsSome (file_at d (zone_name (kind_of geo z) z)) → ((f : File) → file_at d (zone_name (kind_of geo z) z) ≡ Some f → len ≡ length f.bytes) → is_file_length geo.shape (kind_of geo z) len ≡ false → zone_fault (bytes_at (contents d)) geo z ≡ Some (WrongFile (kind_of geo z) z len)
zone_bad d geo z len some is bad =
    let held = held_file d (zone_name (kind_of geo z) z) len some is in
    ap (file_fault geo.shape (kind_of geo z) z) held.1 ∙ ap (λ n. cond (is_file_length geo.shape (kind_of geo z) n) None (Some (WrongFile (kind_of geo z) z n))) (sym held.2) ∙ ap (λ b. cond b None (Some (WrongFile (kind_of geo z) z len))) bad

pub zone_found : (d : Directory) (names : List Name) (geo : Geometry) (z len : ℕ) → names ≡ keys d → IsSome (file_at d (zone_name (kind_of geo z) z)) → ((f : File) → file_at d (zone_name (kind_of geo z) z) ≡ Some f → len ≡ length f.bytes)
    → is_file_length geo.shape (kind_of geo z) len ≡ true → IsZoneFound (contents d) geo z (info_with (cond_listed names (kind_of geo z) z) len)
zone_found d names geo z len same some is fits =
    let held = held_file d (zone_name (kind_of geo z) z) len some is in
    record {
      fault = ap (file_fault geo.shape (kind_of geo z) z) held.1 ∙ ap (λ n. cond (is_file_length geo.shape (kind_of geo z) n) None (Some (WrongFile (kind_of geo z) z n))) (sym held.2) ∙ ap (λ b. cond b None (Some (WrongFile (kind_of geo z) z len))) fits;
      told = ap (λ (c : Cond). info_with c len) (cond_is d names geo z same) ∙ ap (info_with (cond_in (bytes_at (contents d)) geo z)) (held.2 ∙ ap (λ o. length (unwrap_or o [])) (sym held.1));
    }

-- the blocks that a file holds fit
pub blocks_fit : (shape : Shape) (kind : Kind) (len : ℕ) → is_file_length shape kind len ≡ true → len / BLOCK_SIZE ≤ room shape kind
blocks_fit shape kind len fits = (whole_blocks shape kind len fits).1

-- a zone may start so
pub may_start : (shape : Shape) (kind : Kind) (cond : Cond) (len : ℕ) → is_file_length shape kind len ≡ true → IsStartZone shape (reported_zone (kind, info_with cond len))
may_start shape Conventional Good len fits = record { closed = refl; conventional = λ _ _. all_blocks shape len fits; sequential = λ is. absurd (cc); offline = λ is. absurd (cc) }
may_start shape Conventional ReadOnly len fits = record { closed = refl; conventional = λ _ _. all_blocks shape len fits; sequential = λ is. absurd (cc); offline = λ is. absurd (cc) }
may_start shape Conventional Offline len fits = record { closed = refl; conventional = λ _ on. absurd (on refl); sequential = λ is. absurd (cc); offline = λ _. refl }
may_start shape Sequential Good len fits = record { closed = refl; conventional = λ apart _. absurd (apart refl); sequential = λ _. (whole_blocks shape Sequential len fits).1; offline = λ is. absurd (cc) }
may_start shape Sequential ReadOnly len fits = record { closed = refl; conventional = λ apart _. absurd (apart refl); sequential = λ _. (whole_blocks shape Sequential len fits).1; offline = λ is. absurd (cc) }
may_start shape Sequential Offline len fits = record { closed = refl; conventional = λ apart _. absurd (apart refl); sequential = λ _. omega arith; offline = λ _. refl }

-- ---- zones one after another

range_more : (a n : ℕ) → range_with_len a (n + 1) ≡ range_with_len a n ++ (a + n) ∷ []
range_more a zero = ap (λ m. m ∷ []) (omega arith)
range_more a (suc n) =
    let count : suc n + 1 ≡ suc (n + 1) = omega arith in
    let last : a + 1 + n ≡ a + suc n = omega arith in
    ap (range_with_len a) count ∙ ap (λ (l : List ℕ). a ∷ l) (range_more (a + 1) n ∙ ap (λ m. range_with_len (a + 1) n ++ m ∷ []) last)

faults_more : (held : Name → Option (List ℕ)) (geo : Geometry) (zs : List ℕ) (z : ℕ) → first_fault held geo (zs ++ z ∷ []) ≡ option_or (first_fault held geo zs) (zone_fault held geo z)
faults_more held geo [] z = one (zone_fault held geo z)
  where
    one : (o : Option Cause) → option_or o None ≡ o
    one None = refl
    one (Some cause) = refl
faults_more held geo (first ∷ zs) z = ap (option_or (zone_fault held geo first)) (faults_more held geo zs z) ∙ regroup (zone_fault held geo first) (first_fault held geo zs) (zone_fault held geo z)
  where
    regroup : (a b c : Option Cause) → option_or a (option_or b c) ≡ option_or (option_or a b) c
    regroup None b c = refl
    regroup (Some cause) b c = refl

map_more : (f : ℕ → ZoneInfo) (zs : List ℕ) (z : ℕ) → map f (zs ++ z ∷ []) ≡ map f zs ++ f z ∷ []
map_more f [] z = refl
map_more f (first ∷ zs) z = ap (λ (l : List ZoneInfo). f first ∷ l) (map_more f zs z)

pub zones_more : (c : Contents) (geo : Geometry) (n : ℕ) (infos : List ZoneInfo) (info : ZoneInfo) → HasZones c geo n infos → IsZoneFound c geo n info → HasZones c geo (n + 1) (infos ++ info ∷ [])
zones_more c geo n infos info has found =
    let range : range_with_len 0 (n + 1) ≡ range_with_len 0 n ++ n ∷ [] = range_more 0 n ∙ ap (λ m. range_with_len 0 n ++ m ∷ []) (omega arith) in
    record {
      faults = ap (first_fault (bytes_at c) geo) range ∙ faults_more (bytes_at c) geo (range_with_len 0 n) n ∙ ap (λ o. option_or o (zone_fault (bytes_at c) geo n)) has.faults ∙ found.fault;
      told = ap (λ (l : List ZoneInfo). l ++ info ∷ []) has.told ∙ ap (λ (i : ZoneInfo). map (info_in (bytes_at c) geo) (range_with_len 0 n) ++ i ∷ []) found.told ∙ sym (map_more (info_in (bytes_at c) geo) (range_with_len 0 n) n) ∙ ap (map (info_in (bytes_at c) geo)) (sym range);
    }

pub started_more : (geo : Geometry) (n : ℕ) (infos : List ZoneInfo) (info : ZoneInfo) → AreStarted geo n infos → IsStartZone geo.shape (started_zone geo n info) → AreStarted geo (n + 1) (infos ++ info ∷ [])
started_more geo n infos info are start = record {
  count = length-append infos (info ∷ []) ∙ omega (arith, are.count);
  each = λ z h. elim (cases_eq z n) [
    | inl same ↦ subst (λ z. IsStartZone geo.shape (started_zone geo z (get_or (infos ++ info ∷ []) z no_info))) (sym same) (subst (λ (i : ZoneInfo). IsStartZone geo.shape (started_zone geo n i)) (sym (get_or_push infos info no_info n are.count)) start)
    | inr apart ↦ let before : z < n = omega (arith, apart) in subst (λ (i : ZoneInfo). IsStartZone geo.shape (started_zone geo z i)) (sym (get_or_before infos info z (omega (arith, are.count)))) (are.each z before)
  ];
}
  where
    get_or_before : (xs : List ZoneInfo) (x : ZoneInfo) (i : ℕ) → i < length xs → get_or (xs ++ x ∷ []) i no_info ≡ get_or xs i no_info
    get_or_before xs x i h = grind (arith, places)

pub looked_more : (geo : Geometry) (i : ℕ) (infos : List ZoneInfo) (info : ZoneInfo) (old middle new : FilesState) → AreLooked geo i infos old middle → Steps {T = ZoneInfo} (Ok info) middle new → IsStartZone geo.shape (started_zone geo i info)
    → ((d : Directory) → directory middle ≡ Some d → IsZoneFound (contents d) geo i info) → AreLooked geo (i + 1) (infos ++ info ∷ []) old new
looked_more geo i infos info old middle new before steps start found = record {
  steps = steps_as (steps_then tt (Ok info) old middle new before.steps steps);
  started = started_more geo i infos info before.started start;
  zones = λ d told. zones_more (contents d) geo i infos info (before.zones d told) (found d (before.steps.same (λ is. absurd (cc)) ∙ told));
}
  where
    steps_as : Steps {T = ZoneInfo} (Ok info) old new → Steps {T = Unit {0}} (Ok tt) old new
    steps_as steps = record { later = steps.later; fault = λ is. absurd (cc); kept = λ _. steps.kept (λ is. absurd (cc)); told = steps.told; same = λ _. steps.same (λ is. absurd (cc)) }

-- ---- causes

-- the device of contents whose geometry is known
pub rest_by : (c : Contents) (geo : Geometry) → HasGeometry c geo → at_rest c ≡ device_at_rest (bytes_at c) (keys c) geo
unfolding at_rest
rest_by c geo has = ap (text_at_rest (bytes_at c) (keys c)) has.file ∙ ap (geometry_at_rest (bytes_at c) (keys c)) has.read

fault_found : (held : Name → Option (List ℕ)) (geo : Geometry) (a n i : ℕ) (cause : Cause) → ((z : ℕ) → a ≤ z → z < i → zone_fault held geo z ≡ None) → a ≤ i → i < a + n → zone_fault held geo i ≡ Some cause → first_fault held geo (range_with_len a n) ≡ Some cause
fault_found held geo a zero i cause before from to is = absurd (omega arith)
fault_found held geo a (suc n) i cause before from to is = elim (cases_eq a i) [
  | inl same ↦ ap (λ o. option_or o (first_fault held geo (range_with_len (a + 1) n))) (ap (zone_fault held geo) same ∙ is)
  | inr apart ↦ let next : a + 1 ≤ i = omega (arith, apart) in ap (λ o. option_or o (first_fault held geo (range_with_len (a + 1) n))) (before a (omega arith) (omega arith)) ∙ fault_found held geo (a + 1) n i cause (λ z low high. before z (omega arith) high) next (omega arith) is
]

rest_fault : (c : Contents) (geo : Geometry) (cause : Cause) → HasGeometry c geo → first_fault (bytes_at c) geo (zone_numbers geo) ≡ Some cause → at_rest c ≡ Err cause
unfolding device_at_rest
rest_fault c geo cause has is = rest_by c geo has ∙ ap (λ o. unless_fault o (first_extra (bytes_at c) geo (keys c)) (truth_in (bytes_at c) geo)) is

fault_is_cause : (c : Contents) (geo : Geometry) (i : ℕ) (infos : List ZoneInfo) (o : Option Cause) → HasGeometry c geo → HasZones c geo i infos → i < geo.zones → IfSome o (λ cause. zone_fault (bytes_at c) geo i ≡ Some cause) → IfSome o (λ cause. at_rest c ≡ Err cause)
fault_is_cause c geo i infos None has zones within is = tt
fault_is_cause c geo i infos (Some cause) has zones within is = rest_fault c geo cause has (fault_found (bytes_at c) geo 0 geo.zones i cause (λ z low high. faults_none (bytes_at c) geo 0 i zones.faults z low (omega arith)) (omega arith) (omega arith) is)

pub zones_failed : {T : Type 0} (P : Directory → T → Type 0) (geo : Geometry) (i : ℕ) (infos : List ZoneInfo) (e : OpenError) (old middle new : FilesState) → AreLooked geo i infos old middle → i < geo.zones → ((d : Directory) → directory old ≡ Some d → HasGeometry (contents d) geo)
    → Steps {T = ZoneInfo} (Err e) middle new → ((d : Directory) → directory middle ≡ Some d → IsFaultOf e (zone_fault (bytes_at (contents d)) geo i)) → Sought {T = T} (Err e) old new P
zones_failed {T} P geo i infos e old middle new before within has steps fault = record {
  steps = steps_then tt (Err e) old middle new before.steps (steps_handed {T = ZoneInfo} {U = T} e middle new steps);
  found = λ d told. tt;
  cause = λ d told. fault_is_cause (contents d) geo i infos (cause_of e) (has d told) (before.zones d told) within (fault d (before.steps.same (λ is. absurd (cc)) ∙ told));
}

pub zones_all : {T : Type 0} (x : T) (P : Directory → T → Type 0) (geo : Geometry) (i : ℕ) (infos : List ZoneInfo) (old new : FilesState) → AreLooked geo i infos old new → ((d : Directory) → HasZones (contents d) geo i infos → P d x) → Sought {T = T} (Ok x) old new P
zones_all x P geo i infos old new looked all = record {
  steps = record { later = looked.steps.later; fault = λ is. absurd (cc); kept = λ _. looked.steps.kept (λ is. absurd (cc)); told = looked.steps.told; same = λ _. looked.steps.same (λ is. absurd (cc)) };
  found = λ d told. all d (looked.zones d told);
  cause = λ d told. tt;
}
