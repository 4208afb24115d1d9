-- Cuts, one after another.
use Rattle.std.proofs.Common.{◌≡◌, ℕ, ◌+◌, ◌<◌, ◌≤◌, Bool, true, false, ◌||◌, ◌==◌, not, List, [], ◌∷◌, ◌++◌, length, take, drop, Some, None, nat_lt, refl, sym, ap, ◌∙◌, arith}
use Rattle.std.specs.Prelude.{◌↔◌, IsTrue, MatchBool, slice_get, if◌then◌else◌}
use Rattle.std.specs.List.{list_any}
use Rattle.std.proofs.lemmas.Bool.{false≢true, ltb-true}
use Rattle.std.proofs.lemmas.Bool.Decides.{nat_tests}
use Rattle.std.proofs.lemmas.List.{drop_more, drop_all, take_more, length-take}
use Rattle.std.proofs.lemmas.List.Folds.{list_any_at}
use Rattle.std.proofs.lemmas.Option.{slice_get_within, get_or_from_slice_get}
use Rattle.zn_truth.specs.declared.ZoneNo.{ZoneNo}
use Rattle.zn_truth.specs.Truth.{Geometry, zone_at, is_sequential}
use Rattle.zn_truth.specs.Power.{cut_of}
use Rattle.zn_truth.specs.World.{World, geometry_of}
use Rattle.zn_truth.specs.Inject.{is_zone, is_bad_cut, repeats}
use Rattle.zn_truth.proofs.Issuing.{kinds-length}

-- what is left from a place on begins with what was read there
pub got : {X : Type 0} (xs : List X) (i : ℕ) (x : X) → slice_get xs i ≡ Some x → drop i xs ≡ x ∷ drop (i + 1) xs
got xs i x read = drop_more xs i x (slice_get_within xs i x read) ∙ ap (λ y. y ∷ drop (i + 1) xs) (get_or_from_slice_get xs i x x read)

-- ---- the first cut of a zone

pub cut_found : (cuts : List (ZoneNo × ℕ)) (i z : ℕ) (cut : ZoneNo × ℕ) → slice_get cuts i ≡ Some cut → cut.0.0 ≡ z → cut_of (drop i cuts) z ≡ cut_of cuts z → Some cut.1 ≡ cut_of cuts z
cut_found cuts i z cut read is rest =
    let here : (cut.0.0 == z) ≡ true = grind (arith, nat_tests) in
    ap (λ b. if b then Some cut.1 else cut_of (drop (i + 1) cuts) z) (sym here) ∙ ap (λ cs. cut_of cs z) (sym (got cuts i cut read)) ∙ rest

pub cut_passed : (cuts : List (ZoneNo × ℕ)) (i z : ℕ) (cut : ZoneNo × ℕ) → slice_get cuts i ≡ Some cut → (cut.0.0 ≡ z → ⊥) → cut_of (drop i cuts) z ≡ cut_of cuts z → cut_of (drop (i + 1) cuts) z ≡ cut_of cuts z
cut_passed cuts i z cut read other rest =
    let here : (cut.0.0 == z) ≡ false = grind (arith, nat_tests) in
    ap (λ b. if b then Some cut.1 else cut_of (drop (i + 1) cuts) z) (sym here) ∙ ap (λ cs. cut_of cs z) (sym (got cuts i cut read)) ∙ rest

pub no_cut : (cuts : List (ZoneNo × ℕ)) (i z : ℕ) → length cuts ≤ i → cut_of (drop i cuts) z ≡ cut_of cuts z → None ≡ cut_of cuts z
no_cut cuts i z past rest = ap (λ cs. cut_of cs z) (sym (drop_all i cuts past)) ∙ rest

-- ---- a test of each

-- the one at this place passes, so one does
pub any_found : {X : Type 0} (p : X → Bool) (xs : List X) (i : ℕ) (x : X) (all : Bool) → slice_get xs i ≡ Some x → p x ≡ true → list_any p (drop i xs) ≡ all → true ≡ all
any_found p xs i x all read here rest = ap (λ b. b || list_any p (drop (i + 1) xs)) (sym here) ∙ ap (list_any p) (sym (got xs i x read)) ∙ rest

-- it doesn't, so the others decide
pub any_passed : {X : Type 0} (p : X → Bool) (xs : List X) (i : ℕ) (x : X) (all : Bool) → slice_get xs i ≡ Some x → p x ≡ false → list_any p (drop i xs) ≡ all → list_any p (drop (i + 1) xs) ≡ all
any_passed p xs i x all read here rest = ap (λ b. b || list_any p (drop (i + 1) xs)) (sym here) ∙ ap (list_any p) (sym (got xs i x read)) ∙ rest

-- none is left
pub any_none : {X : Type 0} (p : X → Bool) (xs : List X) (i : ℕ) (all : Bool) → length xs ≤ i → list_any p (drop i xs) ≡ all → false ≡ all
any_none p xs i all past rest = ap (list_any p) (sym (drop_all i xs past)) ∙ rest

-- ---- a zone that is named twice

pub repeat_found : (cuts : List (ZoneNo × ℕ)) (i : ℕ) (cut : ZoneNo × ℕ) → slice_get cuts i ≡ Some cut → list_any (λ other. other.0.0 == cut.0.0) (drop (i + 1) cuts) ≡ true → repeats (drop i cuts) ≡ repeats cuts
    → true ≡ repeats cuts
repeat_found cuts i cut read again rest = ap (λ b. b || repeats (drop (i + 1) cuts)) (sym again) ∙ ap repeats (sym (got cuts i cut read)) ∙ rest

pub repeat_passed : (cuts : List (ZoneNo × ℕ)) (i : ℕ) (cut : ZoneNo × ℕ) → slice_get cuts i ≡ Some cut → list_any (λ other. other.0.0 == cut.0.0) (drop (i + 1) cuts) ≡ false → repeats (drop i cuts) ≡ repeats cuts
    → repeats (drop (i + 1) cuts) ≡ repeats cuts
repeat_passed cuts i cut read once rest = ap (λ b. b || repeats (drop (i + 1) cuts)) (sym once) ∙ ap repeats (sym (got cuts i cut read)) ∙ rest

pub no_repeat : (cuts : List (ZoneNo × ℕ)) (i : ℕ) → length cuts ≤ i → repeats (drop i cuts) ≡ repeats cuts → false ≡ repeats cuts
no_repeat cuts i past rest = ap repeats (sym (drop_all i cuts past)) ∙ rest

-- ---- a copy

pub cut_copied : (all old new : List (ZoneNo × ℕ)) (i : ℕ) (cut : ZoneNo × ℕ) (added : Bool) → old ≡ take i all → length all ≤ 64 → slice_get all i ≡ Some cut
    → MatchBool added (new ≡ old ++ cut ∷ []) (new ≡ old) → IsTrue added ↔ (length old < 64) → new ≡ take (i + 1) all
cut_copied all old new i cut true done fits read added room =
    let inside : i < length all = slice_get_within all i cut read in
    added ∙ ap (λ front. front ++ cut ∷ []) done ∙ ap (λ c. take i all ++ c ∷ []) (sym (get_or_from_slice_get all i cut cut read)) ∙ sym (take_more all i cut inside)
cut_copied all old new i cut false done fits read added room =
    let inside : i < length all = slice_get_within all i cut read in
    let less : length old < 64 = omega (arith, ap length done, length-take i all) in
    absurd (false≢true (room.1 less))

-- ---- the zone of a cut that isn't bad

any_not : {X : Type 0} (p : X → Bool) (xs : List X) (i : ℕ) (x : X) → list_any p xs ≡ false → slice_get xs i ≡ Some x → p x ≡ false
any_not p xs i x none read = by_test (p x) refl
  where
    by_test : (b : Bool) → p x ≡ b → p x ≡ false
    by_test false is = is
    by_test true is = absurd (false≢true (sym none ∙ list_any_at p xs i x (slice_get_within xs i x read) (ap p (get_or_from_slice_get xs i x x read) ∙ is)))

not_bad : (there sequential : Bool) → (not there || not sequential) ≡ false → there ≡ true
not_bad true sequential h = refl
not_bad false sequential h = absurd (false≢true (sym h))

pub cut_inside : (w v : World) (cuts : List (ZoneNo × ℕ)) (i : ℕ) (cut : ZoneNo × ℕ) → list_any (is_bad_cut w.truth) cuts ≡ false → slice_get cuts i ≡ Some cut → geometry_of v ≡ geometry_of w
    → cut.0.0 < length (geometry_of v).kinds
cut_inside w v cuts i cut none read same =
    let there : nat_lt cut.0.0 (length w.truth.zones) ≡ true = not_bad (is_zone w.truth cut.0.0) (is_sequential (zone_at w.truth cut.0.0).kind) (any_not (is_bad_cut w.truth) cuts i cut none read) in
    omega (arith, ltb-true cut.0.0 (length w.truth.zones) there, kinds-length w, ap (λ (g : Geometry). length g.kinds) same)
