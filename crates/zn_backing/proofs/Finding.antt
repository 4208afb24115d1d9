-- Names that aren't a device's, and what a look finds.
use Rattle.std.proofs.Common.{◌≡◌, ◌⊎◌, ◌≢◌, inl, inr, ℕ, zero, suc, ◌+◌, ◌-◌, ◌<◌, ◌≤◌, Bool, true, false, cond, not, ltb, ◌&&◌, ◌||◌, List, [], ◌∷◌, ◌++◌, length, map, take, get_or, Option, Some, None, Result, Ok, Err, refl, sym, ap, ◌∙◌, subst, arith}
use Rattle.std.specs.Prelude.{IsSome, is_some, IsTrue, unwrap_or, find, slice_get, IfSome}
use Rattle.std.specs.FinMap.{keys}
use Rattle.std.specs.Option.{option_map}
use Rattle.std.proofs.lemmas.Bool.{cond-true, lt-ltb}
use Rattle.std.proofs.lemmas.List.{take_more}
use Rattle.zn_stand.proofs.Directories.{bytes-contents}
use Rattle.zn_truth.specs.Truth.{Truth}
use Rattle.zn_stand.specs.declared.numbers.Geometry.{Geometry}
use Rattle.zn_stand.specs.File.{File}
use Rattle.zn_stand.specs.Maps.{Name}
use Rattle.zn_stand.specs.Directory.{Directory, Contents, file_at, bytes_at, contents}
use Rattle.zn_stand.specs.ZoneNames.{zone_numbers, device_name, is_name_of, is_marker_of}
use Rattle.zn_stand.specs.DeviceText.{text_read, is_within}
use Rattle.zn_stand.specs.AtRest.{Cause, NotADevice as NoDevice, BadGeometry as WrongText, ExtraName as OtherName, Lookup, is_extra, first_extra, first_fault, at_rest, text_at_rest, geometry_at_rest, device_at_rest, unless_fault, unless_extra, truth_in}
use Rattle.zn_stand.proofs.DeviceTexts.{text_is_taken}
use Rattle.zn_files.specs.States.{FilesState, directory}
use Rattle.zn_backing.specs.declared.error.OpenError.{OpenError}
use Rattle.zn_backing.specs.declared.error.OpenError.TheVariants.{ExtraName, NotADevice, BadGeometry}
use Rattle.zn_backing.specs.Failures.{cause_of}
use Rattle.zn_backing.specs.Listing.{is_among}
use Rattle.zn_backing.specs.Steps.{Steps, Sought}
use Rattle.zn_backing.specs.Looks.{HasGeometry, HasFiles, HasNames, Lists, ArePlain}
use Rattle.zn_backing.proofs.Stepping.{steps_then, steps_handed}
use Rattle.zn_backing.proofs.Listings.{keys-contents, found_among}
use Rattle.zn_backing.proofs.Looping.{name_at}
use Rattle.zn_backing.proofs.Looking.{held_file, rest_by, listed_is, listed_file}

pub extra_told : (d : Directory) (geo : Geometry) (name : Name) (len : ℕ) → is_name_of geo name ≡ true → is_marker_of geo name ≡ true → IsSome (file_at d name) → ((f : File) → file_at d name ≡ Some f → len ≡ length f.bytes) → ltb 0 len ≡ is_extra (bytes_at (contents d)) geo name
extra_told d geo name len own marker some is =
    let held = held_file d name len some is in
    let full : Bool = ltb 0 (length (unwrap_or (bytes_at (contents d) name) [])) in
    ap (ltb 0) (held.2 ∙ ap (λ o. length (unwrap_or o [])) (sym held.1)) ∙ sym (ap (λ b. not b || (is_marker_of geo name && full)) own ∙ ap (λ b. b && full) marker)

-- ---- searches

none_more : (p : Name → Bool) (names : List Name) (name : Name) → find p names ≡ None → p name ≡ false → find p (names ++ name ∷ []) ≡ None
none_more p [] name none is = ap (λ b. cond b (Some name) None) is
none_more p (first ∷ names) name none is = by_case (p first) refl none (λ none. none_more p names name none is)
  where
    by_case : (b : Bool) → p first ≡ b → cond b (Some first) (find p names) ≡ None → (find p names ≡ None → find p (names ++ name ∷ []) ≡ None) → cond (p first) (Some first) (find p (names ++ name ∷ [])) ≡ None
    by_case true test none rest = absurd (cc)
    by_case false test none rest = ap (λ b. cond b (Some first) (find p (names ++ name ∷ []))) test ∙ rest none

first_found : (p : Name → Bool) (names : List Name) (i : ℕ) → i < length names → find p (take i names) ≡ None → p (get_or names i []) ≡ true → find p names ≡ Some (get_or names i [])
first_found p [] i within none is = absurd (omega arith)
first_found p (first ∷ names) zero within none is = ap (λ b. cond b (Some first) (find p names)) is
first_found p (first ∷ names) (suc i) within none is = by_case (p first) refl none (λ none. first_found p names i (omega arith) none is)
  where
    by_case : (b : Bool) → p first ≡ b → cond b (Some first) (find p (take i names)) ≡ None → (find p (take i names) ≡ None → find p names ≡ Some (get_or names i [])) → cond (p first) (Some first) (find p names) ≡ Some (get_or names i [])
    by_case true test none rest = absurd (cc)
    by_case false test none rest = ap (λ b. cond b (Some first) (find p names)) test ∙ rest none

rest_extra : (c : Contents) (geo : Geometry) (name : Name) → HasFiles c geo → first_extra (bytes_at c) geo (keys c) ≡ Some name → at_rest c ≡ Err (OtherName name)
unfolding device_at_rest
rest_extra c geo name has is = rest_by c geo has.geometry ∙ ap (λ o. unless_fault o (first_extra (bytes_at c) geo (keys c)) (truth_in (bytes_at c) geo)) has.faults ∙ ap (λ o. unless_extra o (truth_in (bytes_at c) geo)) is

pub name_there : (names : List Name) (i : ℕ) (name : Name) (old new : FilesState) → Lists names old → Steps {T = Unit {0}} (Ok tt) old new → i < length names → slice_get names i ≡ Some name → (d : Directory) → directory new ≡ Some d → IsSome (file_at d name)
name_there names i name old new lists steps within is d told = listed_file names name old lists (found_among names name i within (name_at names i name within is)) d (sym (steps.same (λ is. absurd (cc))) ∙ told)

pub plain_more : (geo : Geometry) (names : List Name) (i : ℕ) (name : Name) (old middle new : FilesState) → ArePlain geo names i old middle → i < length names → slice_get names i ≡ Some name → Steps {T = Bool} (Ok false) middle new
    → ((d : Directory) → directory middle ≡ Some d → false ≡ is_extra (bytes_at (contents d)) geo name) → ArePlain geo names (i + 1) old new
plain_more geo names i name old middle new before within is steps plain = record {
  steps = steps_as (steps_then tt (Ok false) old middle new before.steps steps);
  plain = λ d told.
      ap (find (is_extra (bytes_at (contents d)) geo)) (take_more names i [] within ∙ ap (λ n. take i names ++ n ∷ []) (name_at names i name within is))
      ∙ none_more (is_extra (bytes_at (contents d)) geo) (take i names) name (before.plain d told) (sym (plain d (before.steps.same (λ is. absurd (cc)) ∙ told)));
}
  where
    steps_as : Steps {T = Bool} (Ok false) old new → Steps {T = Unit {0}} (Ok tt) old new
    steps_as steps = record { later = steps.later; fault = λ is. absurd (cc); kept = λ _. steps.kept (λ is. absurd (cc)); told = steps.told; same = λ _. steps.same (λ is. absurd (cc)) }

-- an error that is no cause in the directory
plain_cause : (c : Contents) (o : Option Cause) → o ≡ None → IfSome o (λ cause. at_rest c ≡ Err cause)
plain_cause c None is = tt
plain_cause c (Some cause) is = absurd (cc)

pub sought_plain : {T U V : Type 0} (x : T) (e : OpenError) (old middle new : FilesState) (P : Directory → V → Type 0) → Steps {T = T} (Ok x) old middle → Steps {T = U} (Err e) middle new → cause_of e ≡ None → Sought {T = V} (Err e) old new P
sought_plain {T} {U} {V} x e old middle new P first steps none = record {
  steps = steps_then x (Err e) old middle new first (steps_handed {T = U} {U = V} e middle new steps);
  found = λ d told. tt;
  cause = λ d told. plain_cause (contents d) (cause_of e) none;
}

pub extra_found : {V : Type 0} (P : Directory → V → Type 0) (geo : Geometry) (names : List Name) (i : ℕ) (name text : Name) (old middle new : FilesState) → ArePlain geo names i old middle → i < length names → slice_get names i ≡ Some name → text ≡ name → Lists names old → ((d : Directory) → directory old ≡ Some d → HasFiles (contents d) geo)
    → Steps {T = Bool} (Ok true) middle new → ((d : Directory) → directory middle ≡ Some d → true ≡ is_extra (bytes_at (contents d)) geo name) → Sought {T = V} (Err (ExtraName text)) old new P
extra_found {V} P geo names i name text old middle new before within is same lists has steps extra = record {
  steps = steps_as (steps_then tt (Ok true) old middle new before.steps steps);
  found = λ d told. tt;
  cause = λ d told.
      let place : get_or names i [] ≡ name = name_at names i name within is in
      let found : find (is_extra (bytes_at (contents d)) geo) names ≡ Some name = first_found (is_extra (bytes_at (contents d)) geo) names i within (before.plain d told) (ap (is_extra (bytes_at (contents d)) geo) place ∙ sym (extra d (before.steps.same (λ is. absurd (cc)) ∙ told))) ∙ ap Some place in
      rest_extra (contents d) geo text (has d told) (ap (find (is_extra (bytes_at (contents d)) geo)) (keys-contents d ∙ sym (lists d told)) ∙ found ∙ ap Some (sym same));
}
  where
    steps_as : Steps {T = Bool} (Ok true) old new → Steps {T = V} (Err (ExtraName text)) old new
    steps_as steps = record { later = steps.later; fault = λ is. absurd (cc); kept = λ _. steps.kept (λ is. absurd (cc)); told = steps.told; same = λ _. steps.same (λ is. absurd (cc)) }

pub names_all : (geo : Geometry) (names : List Name) (i : ℕ) (old new : FilesState) → ArePlain geo names i old new → take i names ≡ names → Lists names old → Sought {T = Unit {0}} (Ok tt) old new (λ d all. HasNames (contents d) geo)
names_all geo names i old new plain all lists = record {
  steps = plain.steps;
  found = λ d told. record { extra = ap (find (is_extra (bytes_at (contents d)) geo)) (keys-contents d ∙ sym (lists d told) ∙ sym all) ∙ plain.plain d told };
  cause = λ d told. tt;
}

-- ---- the geometry

no_device : (c : Contents) → bytes_at c device_name ≡ None → at_rest c ≡ Err NoDevice
unfolding at_rest
no_device c none = ap (text_at_rest (bytes_at c) (keys c)) none

wrong_text : (c : Contents) (text : List ℕ) (line : ℕ) → bytes_at c device_name ≡ Some text → text_read text ≡ Err line → at_rest c ≡ Err (WrongText line)
unfolding at_rest
wrong_text c text line there is = ap (text_at_rest (bytes_at c) (keys c)) there ∙ ap (geometry_at_rest (bytes_at c) (keys c)) is

none_held : (o : Option (List ℕ)) → is_some o ≡ false → o ≡ None
none_held None is = refl
none_held (Some bytes) is = absurd (cc)

pub not_a_device : (d : Directory) (names : List Name) → names ≡ keys d → is_among names device_name ≡ false → at_rest (contents d) ≡ Err NoDevice
not_a_device d names same among = no_device (contents d) (none_held (bytes_at (contents d) device_name) (sym (listed_is d names device_name same) ∙ among))

-- a text too long to be read
pub too_long : (d : Directory) (len : ℕ) → IsSome (file_at d device_name) → ((f : File) → file_at d device_name ≡ Some f → len ≡ length f.bytes) → 4096 < len → at_rest (contents d) ≡ Err (WrongText 8)
unfolding text_read
too_long d len some is long =
    let held = held_file d device_name len some is in
    let count : len ≡ length held.0 = held.2 in
    wrong_text (contents d) held.0 8 held.1 (cond-true (ltb 4096 (length held.0)) (Err 8) _ (lt-ltb 4096 (length held.0) (omega arith)))

held_text : (d : Directory) (text : List ℕ) → IsSome (file_at d device_name) → ((f : File) → file_at d device_name ≡ Some f → text ≡ f.bytes) → bytes_at (contents d) device_name ≡ Some text
held_text d text some is =
    at (file_at d device_name) refl some
  where
    at : (o : Option File) → file_at d device_name ≡ o → IsSome o → bytes_at (contents d) device_name ≡ Some text
    at None there some = absurd (cc)
    at (Some f) there some = bytes-contents d device_name ∙ ap (option_map (λ (f : File). f.bytes)) there ∙ ap Some (sym (is f there))

pub bad_text : (d : Directory) (text : List ℕ) (line : ℕ) → IsSome (file_at d device_name) → ((f : File) → file_at d device_name ≡ Some f → text ≡ f.bytes) → Err line ≡ text_read text → at_rest (contents d) ≡ Err (WrongText line)
bad_text d text line some is read = wrong_text (contents d) text line (held_text d text some is) (sym read)

pub good_text : (d : Directory) (text : List ℕ) (geo : Geometry) → IsSome (file_at d device_name) → ((f : File) → file_at d device_name ≡ Some f → text ≡ f.bytes) → Ok geo ≡ text_read text → HasGeometry (contents d) geo
good_text d text geo some is read = record { text = text; file = held_text d text some is; read = sym read }

pub geometry_within : (text : List ℕ) (geo : Geometry) → Ok geo ≡ text_read text → IsTrue (is_within geo)
geometry_within text geo read = (text_is_taken text geo (sym read)).1

-- the text of `device` was read, and what it tells
pub text_tells : {T : Type 0} (names : List Name) (text : List ℕ) (geo : Geometry) (len : ℕ) (read : T) (old middle new : FilesState) → Lists names old → true ≡ is_among names device_name → Steps {T = ℕ} (Ok len) old middle → Steps {T = T} (Ok read) middle new
    → ((d : Directory) (f : File) → directory middle ≡ Some d → file_at d device_name ≡ Some f → text ≡ f.bytes) → Ok geo ≡ text_read text → Sought {T = Geometry} (Ok geo) old new (λ d geo. HasGeometry (contents d) geo)
text_tells {T} names text geo len read old middle new lists among first then_more bytes is = record {
  steps = steps_as (steps_then len (Ok read) old middle new first then_more);
  found = λ d told. good_text d text geo (listed_file names device_name old lists among d told) (λ f there. bytes d f (first.same (λ is. absurd (cc)) ∙ told) there) is;
  cause = λ d told. tt;
}
  where
    steps_as : Steps {T = T} (Ok read) old new → Steps {T = Geometry} (Ok geo) old new
    steps_as steps = record { later = steps.later; fault = λ is. absurd (cc); kept = λ _. steps.kept (λ is. absurd (cc)); told = steps.told; same = λ _. steps.same (λ is. absurd (cc)) }

pub text_refused : {T : Type 0} (names : List Name) (text : List ℕ) (line len : ℕ) (read : T) (old middle new : FilesState) → Lists names old → true ≡ is_among names device_name → Steps {T = ℕ} (Ok len) old middle → Steps {T = T} (Ok read) middle new
    → ((d : Directory) (f : File) → directory middle ≡ Some d → file_at d device_name ≡ Some f → text ≡ f.bytes) → Err line ≡ text_read text → Sought {T = Geometry} (Err (BadGeometry line)) old new (λ d geo. HasGeometry (contents d) geo)
text_refused {T} names text line len read old middle new lists among first then_more bytes is = record {
  steps = steps_as (steps_then len (Ok read) old middle new first then_more);
  found = λ d told. tt;
  cause = λ d told. bad_text d text line (listed_file names device_name old lists among d told) (λ f there. bytes d f (first.same (λ is. absurd (cc)) ∙ told) there) is;
}
  where
    steps_as : Steps {T = T} (Ok read) old new → Steps {T = Geometry} (Err (BadGeometry line)) old new
    steps_as steps = record { later = steps.later; fault = λ is. absurd (cc); kept = λ _. steps.kept (λ is. absurd (cc)); told = steps.told; same = λ _. steps.same (λ is. absurd (cc)) }

pub text_long : (names : List Name) (len : ℕ) (old new : FilesState) → Lists names old → true ≡ is_among names device_name → Steps {T = ℕ} (Ok len) old new → ((d : Directory) (f : File) → directory old ≡ Some d → file_at d device_name ≡ Some f → len ≡ length f.bytes) → 4096 < len
    → Sought {T = Geometry} (Err (BadGeometry 8)) old new (λ d geo. HasGeometry (contents d) geo)
text_long names len old new lists among steps is long = record {
  steps = record { later = steps.later; fault = λ is. absurd (cc); kept = λ _. steps.kept (λ is. absurd (cc)); told = steps.told; same = λ _. steps.same (λ is. absurd (cc)) };
  found = λ d told. tt;
  cause = λ d told. too_long d len (listed_file names device_name old lists among d told) (λ f there. is d f told there) long;
}

pub text_missing : (names : List Name) (s : FilesState) → Lists names s → is_among names device_name ≡ false → Sought {T = Geometry} (Err NotADevice) s s (λ d geo. HasGeometry (contents d) geo)
text_missing names s lists among = record {
  steps = record { later = omega arith; fault = λ is. absurd (cc); kept = λ _. refl; told = refl; same = λ _. refl };
  found = λ d told. tt;
  cause = λ d told. not_a_device d names (lists d told) among;
}
