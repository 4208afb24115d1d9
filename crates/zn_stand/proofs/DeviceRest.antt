-- The device at rest that a directory stands for.
use Rattle.std.proofs.Common.{◌≡◌, ◌⊎◌, ◌≢◌, inl, inr, ℕ, zero, suc, ◌+◌, ◌*◌, ◌/◌, ◌<◌, ◌≤◌, Bool, true, false, cond, not, ltb, leb, eqb, ◌&&◌, ◌||◌, List, [], ◌∷◌, length, map, replicate, Option, Some, None, Result, Ok, Err, refl, sym, ap, ◌∙◌, subst, arith}
use Rattle.std.specs.Prelude.{IsTrue, IsSome, is_some, unwrap_or, find, count_by}
use Rattle.std.specs.List.{range_with_len, list_any}
use Rattle.std.specs.Option.{option_or}
use Rattle.std.specs.Ordering.{eq_by_cmp}
use Rattle.std.specs.FinMap.{keys, contains_key-keys}
use Rattle.std.proofs.lemmas.Bool.{and_parts, and_from, and_cases, and_right, or_from, or_parts, eqb-true, eq-eqb, leb-true, le-leb, lt-ltb, ltb-true, ltb-false, not-false, not_from_true, cond-false, cases_Bool, both_ways}
use Rattle.std.proofs.lemmas.Bool.Decides.{nat_tests}
use Rattle.std.proofs.lemmas.List.{length-replicate, nil_from_length, ext_get_or}
use Rattle.std.proofs.lemmas.List.FromFn.{length-map-range_with_len, get_or-map-range_with_len}
use Rattle.std.proofs.lemmas.Option.{same_Some}
use Rattle.zn_truth.specs.declared.limits.TheConstants.{BLOCK_SIZE}
use Rattle.zn_truth.specs.declared.Kind.{Kind}
use Rattle.zn_truth.specs.declared.Kind.TheVariants.{Conventional, Sequential}
use Rattle.zn_truth.specs.declared.Cond.{Cond}
use Rattle.zn_truth.specs.declared.Cond.TheVariants.{Good, ReadOnly, Offline}
use Rattle.zn_truth.specs.declared.Shape.{Shape}
use Rattle.zn_truth.specs.Truth.{Truth, Zone, geometry, zone_at, no_zone, room, is_sequential, is_offline, active, explicit, cleared, IsSoundZone}
use Rattle.zn_truth.specs.Limits.{IsWithinLimits}
use Rattle.zn_stand.specs.declared.numbers.Geometry.{Geometry}
use Rattle.zn_stand.specs.Maps.{Name, name_cmp}
use Rattle.zn_stand.specs.File.{is_in_blocks}
use Rattle.zn_stand.specs.Directory.{Contents, bytes_at}
use Rattle.zn_stand.specs.ZoneNames.{kind_of, zone_numbers, geometry_of_device, device_name, zone_name, read_only_name, offline_name, number_in_name, is_marker_of, is_name_of}
use Rattle.zn_stand.specs.DeviceText.{device_text, text_read, is_within}
use Rattle.zn_stand.specs.Standing.{is_file_length, IsZoneFile, IsReadOnlyMarker, IsOfflineMarker, IsNameOf, StandsFor}
use Rattle.zn_stand.specs.AtRest.{Cause, BadZoneFile, TooManyActive, Lookup, marked, cond_in, zone_bytes, bytes_left, durable_zone, zone_in, truth_in, file_fault, zone_fault, first_fault, is_extra, first_extra, is_over, unless_extra, unless_fault, device_at_rest, geometry_at_rest, text_at_rest, at_rest, IsRestedZone, IsDeviceAtRest}
use Rattle.zn_stand.proofs.NameMaps.{same_name}
use Rattle.zn_stand.proofs.DeviceTexts.{text_is_read, text_is_taken}
use Rattle.zn_stand.proofs.DeviceNames.{HasKinds, has_kinds, within_limits, limits_within, name_tested, name_is, name_found, marker_tested, marker_found, device_no_marker}

-- ---- searches

-- where no zone has a fault, none of them has one
pub faults_none : (held : Lookup) (geo : Geometry) (a n : ℕ) → first_fault held geo (range_with_len a n) ≡ None → (z : ℕ) → a ≤ z → z < a + n → zone_fault held geo z ≡ None
faults_none held geo a zero none z low high = absurd (omega arith)
faults_none held geo a (suc n) none z low high = at (zone_fault held geo a) refl none (λ none after. faults_none held geo (a + 1) n none z after (omega arith))
  where
    at : (o : Option Cause) → zone_fault held geo a ≡ o → option_or o (first_fault held geo (range_with_len (a + 1) n)) ≡ None
        → (first_fault held geo (range_with_len (a + 1) n) ≡ None → a + 1 ≤ z → zone_fault held geo z ≡ None) → zone_fault held geo z ≡ None
    at (Some cause) is none later = absurd (cc)
    at None is none later = elim (cases_Bool (eqb a z)) [
      | inl same ↦ subst (λ m. zone_fault held geo m ≡ None) (eqb-true a z same) is
      | inr apart ↦ later none (grind (arith, nat_tests, apart))
    ]

none_faults : (held : Lookup) (geo : Geometry) (a n : ℕ) → ((z : ℕ) → a ≤ z → z < a + n → zone_fault held geo z ≡ None) → first_fault held geo (range_with_len a n) ≡ None
none_faults held geo a zero all = refl
none_faults held geo a (suc n) all =
    ap (λ o. option_or o (first_fault held geo (range_with_len (a + 1) n))) (all a (omega arith) (omega arith)) ∙ none_faults held geo (a + 1) n (λ z low high. all z (omega arith) (omega arith))

-- a name is among these
abbrev is_among : List Name → Name → Bool
is_among names name = list_any (eq_by_cmp name_cmp name) names

find_none : (p : Name → Bool) (names : List Name) (name : Name) → find p names ≡ None → is_among names name ≡ true → p name ≡ false
find_none p [] name none among = absurd (cc)
find_none p (first ∷ names) name none among = at (p first) refl none (λ none later. find_none p names name none later)
  where
    at : (b : Bool) → p first ≡ b → cond b (Some first) (find p names) ≡ None → (find p names ≡ None → is_among names name ≡ true → p name ≡ false) → p name ≡ false
    at true is none later = absurd (cc)
    at false is none later = elim (same_name name first) [
      | inl same ↦ ap p same.0 ∙ is
      | inr other ↦ later none (ap (λ b. b || is_among names name) (sym other.1) ∙ among)
    ]

none_found : (p : Name → Bool) (names : List Name) → ((name : Name) → is_among names name ≡ true → p name ≡ false) → find p names ≡ None
none_found p [] all = refl
none_found p (first ∷ names) all = cond-false (p first) (Some first) (find p names) (all first (here (same_name first first))) ∙ none_found p names (λ name among. all name (more name (eq_by_cmp name_cmp name first) among))
  where
    here : ((first ≡ first) × (eq_by_cmp name_cmp first first ≡ true)) ⊎ ((first ≢ first) × (eq_by_cmp name_cmp first first ≡ false)) → is_among (first ∷ names) first ≡ true
    here (inl same) = ap (λ b. b || is_among names first) same.1
    here (inr other) = absurd (other.0 refl)

    more : (name : Name) (b : Bool) → is_among names name ≡ true → (b || is_among names name) ≡ true
    more name true among = refl
    more name false among = among

-- what a directory holds at a name is among its names
among_names : (c : Contents) (name : Name) → IsSome (bytes_at c name) → is_among (keys c) name ≡ true
among_names c name there = sym (contains_key-keys c name) ∙ there

held_among : (c : Contents) (name : Name) → is_among (keys c) name ≡ true → IsSome (bytes_at c name)
held_among c name among = contains_key-keys c name ∙ among

-- ---- zones

-- the file of a zone without a fault
record IsFile (shape : Shape) (kind : Kind) (file : Option (List ℕ)) : Type 0 where
  bytes : List ℕ
  is : file ≡ Some bytes
  len : is_file_length shape kind (length bytes) ≡ true

file_of : (shape : Shape) (kind : Kind) (z : ℕ) (file : Option (List ℕ)) → file_fault shape kind z file ≡ None → IsFile shape kind file
file_of shape kind z None none = absurd (cc)
file_of shape kind z (Some bytes) none = record { bytes = bytes; is = refl; len = fits (is_file_length shape kind (length bytes)) refl none }
  where
    fits : (b : Bool) → is_file_length shape kind (length bytes) ≡ b → cond b None (Some (BadZoneFile kind z (length bytes))) ≡ None → is_file_length shape kind (length bytes) ≡ true
    fits true is none = is
    fits false is none = absurd (cc)

file_fits : (shape : Shape) (kind : Kind) (z : ℕ) (bytes : List ℕ) → is_file_length shape kind (length bytes) ≡ true → file_fault shape kind z (Some bytes) ≡ None
file_fits shape kind z bytes fits = ap (λ b. cond b None (Some (BadZoneFile kind z (length bytes)))) fits

zone_file_of : (shape : Shape) (kind : Kind) (cond : Cond) (bytes : List ℕ) → is_file_length shape kind (length bytes) ≡ true → IsZoneFile shape (durable_zone kind cond (bytes_left cond bytes)) (Some bytes)
zone_file_of shape kind Good bytes fits = record { there = refl; bytes = λ on. refl; len = λ other off is. absurd (cc) }
zone_file_of shape kind ReadOnly bytes fits = record { there = refl; bytes = λ on. refl; len = λ other off is. absurd (cc) }
zone_file_of shape kind Offline bytes fits = record { there = refl; bytes = λ on. absurd (on refl); len = λ other off is. subst (λ b. is_file_length shape kind (length b) ≡ true) (same_Some bytes other is) fits }

-- a file's length is whole blocks, as many as the zone has room for
pub whole_blocks : (shape : Shape) (kind : Kind) (n : ℕ) → is_file_length shape kind n ≡ true → (n ≡ BLOCK_SIZE * (n / BLOCK_SIZE)) × (n / BLOCK_SIZE ≤ room shape kind)
whole_blocks shape Conventional n fits = let same : n ≡ BLOCK_SIZE * shape.zone_blocks = eqb-true n (BLOCK_SIZE * shape.zone_blocks) fits in (omega arith, omega arith)
whole_blocks shape Sequential n fits =
    let parts = and_parts (is_in_blocks n) (leb n (BLOCK_SIZE * shape.zone_capacity)) fits in
    let whole : BLOCK_SIZE * (n / BLOCK_SIZE) ≡ n = eqb-true (BLOCK_SIZE * (n / BLOCK_SIZE)) n parts.0 in
    let most : n ≤ BLOCK_SIZE * shape.zone_capacity = leb-true n (BLOCK_SIZE * shape.zone_capacity) parts.1 in
    (omega arith, omega arith)

pub all_blocks : (shape : Shape) (n : ℕ) → is_file_length shape Conventional n ≡ true → n / BLOCK_SIZE ≡ shape.zone_blocks
all_blocks shape n fits = let same : n ≡ BLOCK_SIZE * shape.zone_blocks = eqb-true n (BLOCK_SIZE * shape.zone_blocks) fits in omega arith

-- what a zone of these bytes keeps to
record HasBlocks (shape : Shape) (kind : Kind) (cond : Cond) (bytes : List ℕ) : Type 0 where
  whole : length bytes ≡ BLOCK_SIZE * (length bytes / BLOCK_SIZE)
  most : length bytes / BLOCK_SIZE ≤ room shape kind
  offline : IsTrue (is_offline cond) → length bytes / BLOCK_SIZE ≡ 0
  conventional : ¬ IsTrue (is_sequential kind) → ¬ IsTrue (is_offline cond) → length bytes / BLOCK_SIZE ≡ shape.zone_blocks

blocks_on : (shape : Shape) (kind : Kind) (cond : Cond) (bytes : List ℕ) → (IsTrue (is_offline cond) → ⊥) → is_file_length shape kind (length bytes) ≡ true → HasBlocks shape kind cond bytes
blocks_on shape Conventional cond bytes on fits = record {
  whole = (whole_blocks shape Conventional (length bytes) fits).0;
  most = (whole_blocks shape Conventional (length bytes) fits).1;
  offline = λ off. absurd (on off);
  conventional = λ _ _. all_blocks shape (length bytes) fits;
}
blocks_on shape Sequential cond bytes on fits = record {
  whole = (whole_blocks shape Sequential (length bytes) fits).0;
  most = (whole_blocks shape Sequential (length bytes) fits).1;
  offline = λ off. absurd (on off);
  conventional = λ apart _. absurd (apart refl);
}

has_blocks : (shape : Shape) (kind : Kind) (cond : Cond) (bytes : List ℕ) → is_file_length shape kind (length bytes) ≡ true → HasBlocks shape kind cond (bytes_left cond bytes)
has_blocks shape kind Good bytes fits = blocks_on shape kind Good bytes (λ off. absurd (cc)) fits
has_blocks shape kind ReadOnly bytes fits = blocks_on shape kind ReadOnly bytes (λ off. absurd (cc)) fits
has_blocks shape kind Offline bytes fits = record { whole = refl; most = omega arith; offline = λ _. refl; conventional = λ _ on. absurd (on refl) }

flags_cleared : (n : ℕ) → replicate n false ≡ cleared (replicate n false)
flags_cleared n = ap (λ m. replicate m false) (sym (length-replicate n false))

sound_zone : (shape : Shape) (kind : Kind) (cond : Cond) (bytes : List ℕ) → HasBlocks shape kind cond bytes → IsSoundZone true shape (durable_zone kind cond bytes)
sound_zone shape kind cond bytes has = record {
  held = has.most;
  bytes = has.whole;
  durable = omega arith;
  full = λ _ _. refl;
  offline = has.offline;
  settled = λ _. refl;
  flushed = λ _. flags_cleared _;
  conventional = has.conventional;
  whole = λ _. refl;
  flags = length-replicate _ false;
  explicit = λ opened. absurd (cc);
}

rested_zone : (kind : Kind) (cond : Cond) (bytes : List ℕ) → IsRestedZone (durable_zone kind cond bytes)
rested_zone kind cond bytes = record { durable = refl; flushed = flags_cleared _; closed = refl }

-- ---- markers

read_only_of : (offline read_only : Option (List ℕ)) → ((bytes : List ℕ) → read_only ≡ Some bytes → bytes ≡ []) → IsReadOnlyMarker (marked (is_some offline) (is_some read_only)) read_only
read_only_of None None empty = refl
read_only_of None (Some bytes) empty = ap Some (empty bytes refl)
read_only_of (Some other) None empty = inl refl
read_only_of (Some other) (Some bytes) empty = inr (ap Some (empty bytes refl))

offline_of : (offline read_only : Option (List ℕ)) → ((bytes : List ℕ) → offline ≡ Some bytes → bytes ≡ []) → IsOfflineMarker (marked (is_some offline) (is_some read_only)) offline
offline_of None None empty = refl
offline_of None (Some bytes) empty = refl
offline_of (Some other) read_only empty = ap Some (empty other refl)

marked_is : (cond : Cond) (offline read_only : Option (List ℕ)) → IsOfflineMarker cond offline → IsReadOnlyMarker cond read_only → marked (is_some offline) (is_some read_only) ≡ cond
marked_is Good offline read_only off ro = ap (λ o. marked (is_some o) (is_some read_only)) off ∙ ap (λ o. marked false (is_some o)) ro
marked_is ReadOnly offline read_only off ro = ap (λ o. marked (is_some o) (is_some read_only)) off ∙ ap (λ o. marked false (is_some o)) ro
marked_is Offline offline read_only off ro = ap (λ o. marked (is_some o) (is_some read_only)) off

empty_read_only : (cond : Cond) (file : Option (List ℕ)) (bytes : List ℕ) → IsReadOnlyMarker cond file → file ≡ Some bytes → bytes ≡ []
empty_read_only Good file bytes marker is = absurd (cc)
empty_read_only ReadOnly file bytes marker is = same_Some bytes [] (sym is ∙ marker)
empty_read_only Offline file bytes (inl none) is = absurd (cc)
empty_read_only Offline file bytes (inr some) is = same_Some bytes [] (sym is ∙ some)

empty_offline : (cond : Cond) (file : Option (List ℕ)) (bytes : List ℕ) → IsOfflineMarker cond file → file ≡ Some bytes → bytes ≡ []
empty_offline Good file bytes marker is = absurd (cc)
empty_offline ReadOnly file bytes marker is = absurd (cc)
empty_offline Offline file bytes marker is = same_Some bytes [] (sym is ∙ marker)

-- ---- a device that is found

pub zone_at-truth_in : (held : Lookup) (geo : Geometry) (z : ℕ) → z < geo.zones → zone_at (truth_in held geo) z ≡ zone_in held geo z
zone_at-truth_in held geo z there = get_or-map-range_with_len (zone_in held geo) 0 geo.zones z z no_zone there (omega arith)

pub count_zones : (held : Lookup) (geo : Geometry) → length (truth_in held geo).zones ≡ geo.zones
count_zones held geo = length-map-range_with_len (zone_in held geo) 0 geo.zones

kinds_in : (held : Lookup) (geo : Geometry) (zs : List ℕ) → map (λ (zone : Zone). zone.kind) (map (zone_in held geo) zs) ≡ map (kind_of geo) zs
kinds_in held geo [] = refl
kinds_in held geo (z ∷ zs) = ap (λ (ks : List Kind). kind_of geo z ∷ ks) (kinds_in held geo zs)

pub geometry-truth_in : (held : Lookup) (geo : Geometry) → geometry (truth_in held geo) ≡ geometry_of_device geo
geometry-truth_in held geo = ap (λ (ks : List Kind). record { shape = geo.shape; kinds = ks }) (kinds_in held geo (zone_numbers geo))

explicit_none : (held : Lookup) (geo : Geometry) (zs : List ℕ) → count_by (λ (zone : Zone). zone.explicit) (map (zone_in held geo) zs) ≡ 0
explicit_none held geo [] = refl
explicit_none held geo (z ∷ zs) = omega (arith, explicit_none held geo zs)

-- what the causes leave
pub record IsFound (held : Lookup) (names : List Name) (geo : Geometry) (t : Truth) : Type 0 where
  pub faults : first_fault held geo (zone_numbers geo) ≡ None
  pub extra : first_extra held geo names ≡ None
  pub over : is_over (truth_in held geo) ≡ false
  pub is : truth_in held geo ≡ t

pub found_of : (held : Lookup) (names : List Name) (geo : Geometry) (t : Truth) → device_at_rest held names geo ≡ Ok t → IsFound held names geo t
unfolding device_at_rest
found_of held names geo t is = at (first_fault held geo (zone_numbers geo)) (first_extra held geo names) (is_over (truth_in held geo)) refl refl refl is
  where
    at : (fault : Option Cause) (extra : Option Name) (over : Bool) → first_fault held geo (zone_numbers geo) ≡ fault → first_extra held geo names ≡ extra → is_over (truth_in held geo) ≡ over
        → unless_fault fault extra (truth_in held geo) ≡ Ok t → IsFound held names geo t
    at (Some cause) extra over f e o is = absurd (cc)
    at None (Some name) over f e o is = absurd (cc)
    at None None true f e o is = let wrong : cond true (Err (TooManyActive (active (truth_in held geo)))) (Ok (truth_in held geo)) ≡ Ok t = subst (λ b. cond b (Err (TooManyActive (active (truth_in held geo)))) (Ok (truth_in held geo)) ≡ Ok t) o is in absurd (cc)
    at None None false f e o is = record {
      faults = f;
      extra = e;
      over = o;
      is = let same : ◌≡◌ {A = Result Truth Cause} (Ok (truth_in held geo)) (Ok t) = subst (λ b. cond b (Err (TooManyActive (active (truth_in held geo)))) (Ok (truth_in held geo)) ≡ Ok t) o is in cc;
    }

pub found_is : (held : Lookup) (names : List Name) (geo : Geometry) (t : Truth) → IsFound held names geo t → device_at_rest held names geo ≡ Ok t
unfolding device_at_rest
found_is held names geo t found =
    ap (λ o. unless_fault o (first_extra held geo names) (truth_in held geo)) found.faults ∙ ap (λ o. unless_extra o (truth_in held geo)) found.extra
    ∙ ap (λ b. cond b (Err (TooManyActive (active (truth_in held geo)))) (Ok (truth_in held geo))) found.over ∙ ap Ok found.is

-- a geometry that is read
pub record IsReadOf (c : Contents) (t : Truth) : Type 0 where
  pub geo : Geometry
  pub text : bytes_at c device_name ≡ Some (device_text geo)
  pub within : IsTrue (is_within geo)
  pub found : IsFound (bytes_at c) (keys c) geo t

pub read_of : (c : Contents) (t : Truth) → at_rest c ≡ Ok t → IsReadOf c t
unfolding at_rest
read_of c t is = at (bytes_at c device_name) refl is
  where
    read : (text : List ℕ) (r : Result Geometry ℕ) → bytes_at c device_name ≡ Some text → text_read text ≡ r → geometry_at_rest (bytes_at c) (keys c) r ≡ Ok t → IsReadOf c t
    read text (Err line) there was is = absurd (cc)
    read text (Ok geo) there was is = let taken = text_is_taken text geo was in record {
      geo = geo;
      text = there ∙ ap Some taken.0;
      within = taken.1;
      found = found_of (bytes_at c) (keys c) geo t is;
    }

    at : (o : Option (List ℕ)) → bytes_at c device_name ≡ o → text_at_rest (bytes_at c) (keys c) o ≡ Ok t → IsReadOf c t
    at None there is = absurd (cc)
    at (Some text) there is = read text (text_read text) there refl is

pub read_is : (c : Contents) (t : Truth) → IsReadOf c t → at_rest c ≡ Ok t
unfolding at_rest
read_is c t read = ap (text_at_rest (bytes_at c) (keys c)) read.text ∙ ap (geometry_at_rest (bytes_at c) (keys c)) (text_is_read read.geo read.within) ∙ found_is (bytes_at c) (keys c) read.geo t read.found

-- ---- it stands for the device

-- each name is a device's, and each marker is empty
not_extra : (c : Contents) (geo : Geometry) (name : Name) (bytes : List ℕ) → first_extra (bytes_at c) geo (keys c) ≡ None → bytes_at c name ≡ Some bytes → (is_name_of geo name ≡ true) × (is_marker_of geo name ≡ true → bytes ≡ [])
not_extra c geo name bytes none there =
    let some : IsSome (bytes_at c name) = ap is_some there in
    let plain : is_extra (bytes_at c) geo name ≡ false = find_none (is_extra (bytes_at c) geo) (keys c) name none (among_names c name some) in
    let parts = or_parts (not (is_name_of geo name)) (is_marker_of geo name && ltb 0 (length (unwrap_or (bytes_at c name) []))) plain in
    let own : (is_marker_of geo name && ltb 0 (length bytes)) ≡ false = subst (λ o. (is_marker_of geo name && ltb 0 (length (unwrap_or o []))) ≡ false) there parts.1 in
    (not-false (is_name_of geo name) parts.0, λ marker. empty marker (and_cases (is_marker_of geo name) (ltb 0 (length bytes)) own))
  where
    empty : is_marker_of geo name ≡ true → (is_marker_of geo name ≡ false) ⊎ (ltb 0 (length bytes) ≡ false) → bytes ≡ []
    empty marker (inl plain) = absurd (both_ways (is_marker_of geo name) plain marker)
    empty marker (inr none) = nil_from_length bytes (omega (arith, ltb-false 0 (length bytes) none))

-- what is known of each zone of a device that is found
record IsZoneIn (c : Contents) (geo : Geometry) (t : Truth) (z : ℕ) : Type 0 where
  zone : zone_at t z ≡ zone_in (bytes_at c) geo z
  file : IsFile geo.shape (kind_of geo z) (bytes_at c (zone_name (kind_of geo z) z))
  read_only : (bytes : List ℕ) → bytes_at c (read_only_name (kind_of geo z) z) ≡ Some bytes → bytes ≡ []
  offline : (bytes : List ℕ) → bytes_at c (offline_name (kind_of geo z) z) ≡ Some bytes → bytes ≡ []

zone_known : (c : Contents) (t : Truth) (read : IsReadOf c t) (z : ℕ) → z < read.geo.zones → IsZoneIn c read.geo t z
zone_known c t read z there =
    let geo : Geometry = read.geo in
    let found : IsFound (bytes_at c) (keys c) geo t = read.found in
    record {
      zone = ap (λ t. zone_at t z) (sym found.is) ∙ zone_at-truth_in (bytes_at c) geo z there;
      file = file_of geo.shape (kind_of geo z) z (bytes_at c (zone_name (kind_of geo z) z)) (faults_none (bytes_at c) geo 0 geo.zones found.faults z (omega arith) (omega arith));
      read_only = λ bytes is. (not_extra c geo (read_only_name (kind_of geo z) z) bytes found.extra is).1 (marker_tested geo z (read_only_name (kind_of geo z) z) read.within there (inl refl));
      offline = λ bytes is. (not_extra c geo (offline_name (kind_of geo z) z) bytes found.extra is).1 (marker_tested geo z (offline_name (kind_of geo z) z) read.within there (inr refl));
    }

-- the zone with the bytes of its file
zone_with : (c : Contents) (geo : Geometry) (t : Truth) (z : ℕ) (known : IsZoneIn c geo t z) → zone_at t z ≡ durable_zone (kind_of geo z) (cond_in (bytes_at c) geo z) (bytes_left (cond_in (bytes_at c) geo z) known.file.bytes)
zone_with c geo t z known = known.zone ∙ ap (λ o. durable_zone (kind_of geo z) (cond_in (bytes_at c) geo z) (bytes_left (cond_in (bytes_at c) geo z) (unwrap_or o []))) known.file.is

geometry_found : (c : Contents) (t : Truth) (read : IsReadOf c t) → geometry t ≡ geometry_of_device read.geo
geometry_found c t read = ap geometry (sym read.found.is) ∙ geometry-truth_in (bytes_at c) read.geo

pub stands : (c : Contents) (t : Truth) → at_rest c ≡ Ok t → StandsFor c t
stands c t is =
    let read : IsReadOf c t = read_of c t is in
    let geo : Geometry = read.geo in
    let same : geometry t ≡ geometry_of_device geo = geometry_found c t read in
    let has : HasKinds t geo = has_kinds t geo same in
    let known : (z : ℕ) → z < length t.zones → IsZoneIn c geo t z = λ z there. zone_known c t read z (omega (arith, has.count)) in
    record {
      told = ap (λ (t : Truth). t.told) (sym read.found.is);
      geo = geo;
      numbers = same;
      conv = (within_limits geo read.within).0;
      device = read.text;
      zones = λ z there. subst (λ (zone : Zone). IsZoneFile t.shape zone (bytes_at c (zone_name zone.kind z))) (sym (zone_with c geo t z (known z there)))
          (subst (λ (shape : Shape). IsZoneFile shape (durable_zone (kind_of geo z) (cond_in (bytes_at c) geo z) (bytes_left (cond_in (bytes_at c) geo z) (known z there).file.bytes)) (bytes_at c (zone_name (kind_of geo z) z))) (sym has.shape)
          (subst (IsZoneFile geo.shape (durable_zone (kind_of geo z) (cond_in (bytes_at c) geo z) (bytes_left (cond_in (bytes_at c) geo z) (known z there).file.bytes))) (sym (known z there).file.is)
          (zone_file_of geo.shape (kind_of geo z) (cond_in (bytes_at c) geo z) (known z there).file.bytes (known z there).file.len)));
      read_only = λ z there. subst (λ (zone : Zone). IsReadOnlyMarker zone.cond (bytes_at c (read_only_name zone.kind z))) (sym (known z there).zone)
          (read_only_of (bytes_at c (offline_name (kind_of geo z) z)) (bytes_at c (read_only_name (kind_of geo z) z)) (known z there).read_only);
      offline = λ z there. subst (λ (zone : Zone). IsOfflineMarker zone.cond (bytes_at c (offline_name zone.kind z))) (sym (known z there).zone)
          (offline_of (bytes_at c (offline_name (kind_of geo z) z)) (bytes_at c (read_only_name (kind_of geo z) z)) (known z there).offline);
      others = λ name some. other geo has read name some (bytes_at c name) refl;
    }
  where
    other : (geo : Geometry) → HasKinds t geo → (read : IsReadOf c t) → (name : Name) → IsSome (bytes_at c name) → (o : Option (List ℕ)) → bytes_at c name ≡ o → IsNameOf t name
    other geo has read name some None there = absurd (cc (some, there))
    other geo has read name some (Some bytes) there = name_is t read.geo name (has_kinds t read.geo (geometry_found c t read)) (not_extra c read.geo name bytes read.found.extra there).0

pub sound_at_rest : (c : Contents) (t : Truth) → at_rest c ≡ Ok t → IsDeviceAtRest t
sound_at_rest c t is =
    let read : IsReadOf c t = read_of c t is in
    let geo : Geometry = read.geo in
    let same : geometry t ≡ geometry_of_device geo = geometry_found c t read in
    let has : HasKinds t geo = has_kinds t geo same in
    let told : t.told ≡ true = ap (λ (t : Truth). t.told) (sym read.found.is) in
    let known : (z : ℕ) → z < length t.zones → IsZoneIn c geo t z = λ z there. zone_known c t read z (omega (arith, has.count)) in
    let shape : geo.shape ≡ t.shape = sym has.shape in
    let over : is_over t ≡ false = ap is_over (sym read.found.is) ∙ read.found.over in
    record {
      sound = record {
        zones = λ z there. subst (λ told. IsSoundZone told t.shape (zone_at t z)) (sym told) (subst (λ (shape : Shape). IsSoundZone true shape (zone_at t z)) shape (subst (IsSoundZone true geo.shape) (sym (zone_with c geo t z (known z there)))
            (sound_zone geo.shape (kind_of geo z) (cond_in (bytes_at c) geo z) _ (has_blocks geo.shape (kind_of geo z) (cond_in (bytes_at c) geo z) (known z there).file.bytes (known z there).file.len))));
        active = λ some. few some (and_cases (ltb 0 t.shape.max_active) (ltb t.shape.max_active (active t)) over);
        explicit = λ some. let none : explicit t ≡ 0 = ap explicit (sym read.found.is) ∙ explicit_none (bytes_at c) geo (zone_numbers geo) in omega arith;
      };
      within = subst IsWithinLimits (sym same) (within_limits geo read.within).1;
      zones = λ z there. subst IsRestedZone (sym (known z there).zone) (rested_zone (kind_of geo z) (cond_in (bytes_at c) geo z) _);
    }
  where
    few : 0 < t.shape.max_active → (ltb 0 t.shape.max_active ≡ false) ⊎ (ltb t.shape.max_active (active t) ≡ false) → active t ≤ t.shape.max_active
    few some (inl none) = absurd (both_ways (ltb 0 t.shape.max_active) none (lt-ltb 0 t.shape.max_active some))
    few some (inr fits) = ltb-false t.shape.max_active (active t) fits

-- ---- and it is the only one

-- a sound zone at rest is what its bytes make
bytes_kept : (told : Bool) (shape : Shape) (zone : Zone) (cond : Cond) (file : Option (List ℕ)) → told ≡ true → zone.cond ≡ cond → IsSoundZone told shape zone → IsZoneFile shape zone file → bytes_left cond (unwrap_or file []) ≡ zone.bytes
bytes_kept told shape zone Good file is at sound has = ap (λ o. unwrap_or o []) (has.bytes (λ off. absurd (cc (off, at))))
bytes_kept told shape zone ReadOnly file is at sound has = ap (λ o. unwrap_or o []) (has.bytes (λ off. absurd (cc (off, at))))
bytes_kept told shape zone Offline file is at sound has =
    let none : zone.held ≡ 0 = sound.offline (ap is_offline at) in
    let len : length zone.bytes ≡ BLOCK_SIZE * zone.held = subst (λ b. length zone.bytes ≡ cond b (BLOCK_SIZE * zone.held) 0) is sound.bytes in
    sym (nil_from_length zone.bytes (omega arith))

abbrev if_sequential : Kind → ℕ → ℕ
if_sequential kind n = cond (is_sequential kind) 0 n

zone_is : (shape : Shape) (zone : Zone) (cond : Cond) (bytes : List ℕ) → cond ≡ zone.cond → bytes ≡ zone.bytes → IsSoundZone true shape zone → IsRestedZone zone → durable_zone zone.kind cond bytes ≡ zone
zone_is shape zone cond bytes at same sound rest =
    let held : length bytes / BLOCK_SIZE ≡ zone.held = let len : length zone.bytes ≡ BLOCK_SIZE * zone.held = sound.bytes in omega (arith, ap length same) in
    let durable : length bytes / BLOCK_SIZE ≡ zone.durable = held ∙ sym rest.durable in
    let flags : replicate (if_sequential zone.kind (length bytes / BLOCK_SIZE)) false ≡ zone.unflushed = ap (λ n. replicate (if_sequential zone.kind n) false) held ∙ ap (λ n. replicate n false) (sym sound.flags) ∙ sym rest.flushed in
    λ i. record { kind = zone.kind; cond = at i; held = held i; bytes = same i; durable = durable i; unflushed = flags i; explicit = sym rest.closed i }

-- the length of a zone that isn't offline fits
fits_on : (shape : Shape) (zone : Zone) (kind : Kind) (bytes : List ℕ) → zone.kind ≡ kind → ¬ IsTrue (is_offline zone.cond) → IsSoundZone true shape zone → bytes ≡ zone.bytes → is_file_length shape zone.kind (length bytes) ≡ true
fits_on shape zone Conventional bytes is on sound same =
    let apart : ¬ IsTrue (is_sequential zone.kind) = λ sequential. absurd (cc (sequential, is)) in
    let all : zone.held ≡ shape.zone_blocks = sound.conventional apart on in
    let len : length zone.bytes ≡ BLOCK_SIZE * zone.held = sound.bytes in
    subst (λ kind. is_file_length shape kind (length bytes) ≡ true) (sym is) (eq-eqb (length bytes) (BLOCK_SIZE * shape.zone_blocks) (omega (arith, ap length same)))
fits_on shape zone Sequential bytes is on sound same =
    let most : zone.held ≤ shape.zone_capacity = subst (λ kind. zone.held ≤ room shape kind) is sound.held in
    let len : length zone.bytes ≡ BLOCK_SIZE * zone.held = sound.bytes in
    let count : length bytes ≡ BLOCK_SIZE * zone.held = ap length same ∙ len in
    subst (λ kind. is_file_length shape kind (length bytes) ≡ true) (sym is)
    (and_from _ _ (eq-eqb (BLOCK_SIZE * (length bytes / BLOCK_SIZE)) (length bytes) (omega arith)) (le-leb (length bytes) (BLOCK_SIZE * shape.zone_capacity) (omega arith)))

-- the file of a zone of the device has a length that fits
file_kept : (shape : Shape) (zone : Zone) (kind : Kind) (cond : Cond) (z : ℕ) (file : Option (List ℕ)) → zone.kind ≡ kind → zone.cond ≡ cond → IsSoundZone true shape zone → IsZoneFile shape zone file → file_fault shape zone.kind z file ≡ None
file_kept shape zone kind cond z None is at sound has = absurd (cc (has.there))
file_kept shape zone kind Offline z (Some bytes) is at sound has = file_fits shape zone.kind z bytes (has.len bytes (ap is_offline at) refl)
file_kept shape zone kind Good z (Some bytes) is at sound has = file_fits shape zone.kind z bytes (fits_on shape zone kind bytes is (λ off. absurd (cc (off, at))) sound (same_Some bytes zone.bytes (has.bytes (λ off. absurd (cc (off, at))))))
file_kept shape zone kind ReadOnly z (Some bytes) is at sound has = file_fits shape zone.kind z bytes (fits_on shape zone kind bytes is (λ off. absurd (cc (off, at))) sound (same_Some bytes zone.bytes (has.bytes (λ off. absurd (cc (off, at))))))

-- what is known of a device at rest that a directory stands for
record IsStanding (c : Contents) (t : Truth) (geo : Geometry) : Type 0 where
  has : HasKinds t geo
  within : IsTrue (is_within geo)
  sound : (z : ℕ) → z < length t.zones → IsSoundZone true geo.shape (zone_at t z)
  file : (z : ℕ) → z < length t.zones → IsZoneFile geo.shape (zone_at t z) (bytes_at c (zone_name (kind_of geo z) z))
  read_only : (z : ℕ) → z < length t.zones → IsReadOnlyMarker (zone_at t z).cond (bytes_at c (read_only_name (kind_of geo z) z))
  offline : (z : ℕ) → z < length t.zones → IsOfflineMarker (zone_at t z).cond (bytes_at c (offline_name (kind_of geo z) z))
  rest : (z : ℕ) → z < length t.zones → IsRestedZone (zone_at t z)

standing : (c : Contents) (t : Truth) (s : StandsFor c t) → IsDeviceAtRest t → IsStanding c t s.geo
standing c t s rest =
    let has : HasKinds t s.geo = has_kinds t s.geo s.numbers in
    let kind : (z : ℕ) → z < length t.zones → (zone_at t z).kind ≡ kind_of s.geo z = λ z there. has.kind z (omega (arith, has.count)) in
    record {
      has = has;
      within = limits_within s.geo (s.conv, subst IsWithinLimits s.numbers rest.within);
      sound = λ z there. subst (λ told. IsSoundZone told s.geo.shape (zone_at t z)) s.told (subst (λ (shape : Shape). IsSoundZone t.told shape (zone_at t z)) has.shape (rest.sound.zones z there));
      file = λ z there. subst (λ (shape : Shape). IsZoneFile shape (zone_at t z) (bytes_at c (zone_name (kind_of s.geo z) z))) has.shape (subst (λ (k : Kind). IsZoneFile t.shape (zone_at t z) (bytes_at c (zone_name k z))) (kind z there) (s.zones z there));
      read_only = λ z there. subst (λ (k : Kind). IsReadOnlyMarker (zone_at t z).cond (bytes_at c (read_only_name k z))) (kind z there) (s.read_only z there);
      offline = λ z there. subst (λ (k : Kind). IsOfflineMarker (zone_at t z).cond (bytes_at c (offline_name k z))) (kind z there) (s.offline z there);
      rest = rest.zones;
    }

zone_held : (c : Contents) (t : Truth) (geo : Geometry) (known : IsStanding c t geo) (z : ℕ) → z < length t.zones → zone_in (bytes_at c) geo z ≡ zone_at t z
zone_held c t geo known z there =
    let zone : Zone = zone_at t z in
    let sound : IsSoundZone true geo.shape zone = known.sound z there in
    let file : IsZoneFile geo.shape zone (bytes_at c (zone_name (kind_of geo z) z)) = known.file z there in
    let kind : zone.kind ≡ kind_of geo z = known.has.kind z (omega (arith, known.has.count)) in
    let cond : cond_in (bytes_at c) geo z ≡ zone.cond = marked_is zone.cond (bytes_at c (offline_name (kind_of geo z) z)) (bytes_at c (read_only_name (kind_of geo z) z)) (known.offline z there) (known.read_only z there) in
    let bytes : bytes_left (cond_in (bytes_at c) geo z) (zone_bytes (bytes_at c) geo z) ≡ zone.bytes = bytes_kept true geo.shape zone (cond_in (bytes_at c) geo z) (bytes_at c (zone_name (kind_of geo z) z)) refl (sym cond) sound file in
    ap (λ (k : Kind). durable_zone k (cond_in (bytes_at c) geo z) (bytes_left (cond_in (bytes_at c) geo z) (zone_bytes (bytes_at c) geo z))) (sym kind)
    ∙ zone_is geo.shape zone (cond_in (bytes_at c) geo z) _ cond bytes sound (known.rest z there)

held_is : (c : Contents) (t : Truth) (geo : Geometry) (known : IsStanding c t geo) → t.told ≡ true → truth_in (bytes_at c) geo ≡ t
held_is c t geo known told =
    let count : length (truth_in (bytes_at c) geo).zones ≡ length t.zones = count_zones (bytes_at c) geo ∙ sym known.has.count in
    let zones : (truth_in (bytes_at c) geo).zones ≡ t.zones = ext_get_or no_zone (truth_in (bytes_at c) geo).zones t.zones count
    (λ z there. zone_at-truth_in (bytes_at c) geo z (omega (arith, count_zones (bytes_at c) geo)) ∙ zone_held c t geo known z (omega (arith, count))) in
    λ i. record { told = sym told i; shape = sym known.has.shape i; zones = zones i }

plain_name : (c : Contents) (t : Truth) (geo : Geometry) (known : IsStanding c t geo) → ((name : Name) → IsSome (bytes_at c name) → IsNameOf t name) → (name : Name) → is_among (keys c) name ≡ true → is_extra (bytes_at c) geo name ≡ false
plain_name c t geo known others name among =
    let some : IsSome (bytes_at c name) = held_among c name among in
    let own : is_name_of geo name ≡ true = name_tested t geo name known.has known.within (others name some) in
    or_from (not (is_name_of geo name)) (is_marker_of geo name && ltb 0 (length (unwrap_or (bytes_at c name) []))) (not_from_true (is_name_of geo name) own) (unmarked own (is_marker_of geo name) refl)
  where
    empty : (file : Option (List ℕ)) → ((bytes : List ℕ) → file ≡ Some bytes → bytes ≡ []) → ltb 0 (length (unwrap_or file [])) ≡ false
    empty None is = refl
    empty (Some bytes) is = ap (λ bytes. ltb 0 (length bytes)) (is bytes refl)

    emptied : (z : ℕ) → z < geo.zones → (name ≡ read_only_name (kind_of geo z) z) ⊎ (name ≡ offline_name (kind_of geo z) z) → ltb 0 (length (unwrap_or (bytes_at c name) [])) ≡ false
    emptied z there (inl is) = empty (bytes_at c name) (λ bytes held. empty_read_only (zone_at t z).cond (bytes_at c (read_only_name (kind_of geo z) z)) bytes (known.read_only z (omega (arith, known.has.count))) (ap (bytes_at c) (sym is) ∙ held))
    emptied z there (inr is) = empty (bytes_at c name) (λ bytes held. empty_offline (zone_at t z).cond (bytes_at c (offline_name (kind_of geo z) z)) bytes (known.offline z (omega (arith, known.has.count))) (ap (bytes_at c) (sym is) ∙ held))

    unmarked : is_name_of geo name ≡ true → (b : Bool) → is_marker_of geo name ≡ b → (b && ltb 0 (length (unwrap_or (bytes_at c name) []))) ≡ false
    unmarked own false is = refl
    unmarked own true is = elim (name_found geo name own) [
      | inl device ↦ absurd (device_no_marker geo (subst (λ n. is_marker_of geo n ≡ true) device is))
      | inr zone ↦ emptied (number_in_name name) zone.0 (marker_found geo name is)
    ]

pub only : (c : Contents) (t : Truth) → StandsFor c t → IsDeviceAtRest t → at_rest c ≡ Ok t
only c t s rest =
    let geo : Geometry = s.geo in
    let known : IsStanding c t geo = standing c t s rest in
    let is : truth_in (bytes_at c) geo ≡ t = held_is c t geo known s.told in
    read_is c t (record {
      geo = geo;
      text = s.device;
      within = known.within;
      found = record {
        faults = none_faults (bytes_at c) geo 0 geo.zones (λ z low high. fault_none geo known z (omega arith));
        extra = none_found (is_extra (bytes_at c) geo) (keys c) (plain_name c t geo known s.others);
        over = ap is_over is ∙ few (cases_Bool (ltb 0 t.shape.max_active)) (cases_Bool (ltb t.shape.max_active (active t)));
        is = is;
      };
    })
  where
    fault_none : (geo : Geometry) → IsStanding c t geo → (z : ℕ) → z < geo.zones → zone_fault (bytes_at c) geo z ≡ None
    fault_none geo known z there =
        let place : z < length t.zones = omega (arith, known.has.count) in
        let kind : (zone_at t z).kind ≡ kind_of geo z = known.has.kind z there in
        subst (λ (k : Kind). file_fault geo.shape k z (bytes_at c (zone_name (kind_of geo z) z)) ≡ None) kind (file_kept geo.shape (zone_at t z) (zone_at t z).kind (zone_at t z).cond z (bytes_at c (zone_name (kind_of geo z) z)) refl refl (known.sound z place) (known.file z place))

    few : (ltb 0 t.shape.max_active ≡ true) ⊎ (ltb 0 t.shape.max_active ≡ false) → (ltb t.shape.max_active (active t) ≡ true) ⊎ (ltb t.shape.max_active (active t) ≡ false) → is_over t ≡ false
    few (inr none) over = ap (λ b. b && ltb t.shape.max_active (active t)) none
    few (inl some) (inr fits) = and_right (ltb 0 t.shape.max_active) (ltb t.shape.max_active (active t)) fits
    few (inl some) (inl over) = let most : active t ≤ t.shape.max_active = rest.sound.active (ltb-true 0 t.shape.max_active some) in
        let more : t.shape.max_active < active t = ltb-true t.shape.max_active (active t) over in
        absurd (omega arith)
