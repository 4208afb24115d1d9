-- A file holds no more than it has room for.
use Rattle.std.proofs.Common.{◌≡◌, ℕ, zero, suc, ◌+◌, ◌*◌, ◌^◌, ◌<◌, ◌≤◌, Bool, true, false, List, ◌∷◌, length, map, Result, Ok, Err, refl, sym, ap, ◌∙◌, subst, arith, add-zero}
use Rattle.std.specs.Prelude.{IsOk, IfOk, if◌then◌else◌}
use Rattle.std.specs.List.{range_with_len}
use Rattle.std.proofs.Math.Nat.{suc-mul}
use Rattle.std.proofs.lemmas.List.Sums.{sum_by-cons}
use Rattle.std.proofs.lemmas.Nat.{mul-le}
use Rattle.zn_truth.specs.declared.ZoneInfo.{ZoneInfo}
use Rattle.zn_truth.specs.declared.Cond.TheVariants.{Offline}
use Rattle.zn_truth.specs.declared.DevError.{DevError}
use Rattle.zn_truth.specs.declared.Kind.{Kind}
use Rattle.zn_truth.specs.Truth.{Truth, IsSound, zone_at, info_at, room}
use Rattle.zn_truth.specs.Orders.{Reply}
use Rattle.zn_truth.specs.World.{World, geometry_of}
use Rattle.zn_truth.proofs.Issuing.{kind_is, kinds-length}
use Rattle.zn_model.specs.declared.files.FileZones.{FileZones}
use Rattle.zn_model.specs.declared.files.Found.{Found}
use Rattle.zn_model.specs.ZoneFiles.{room_of, zone_room_of}
use Rattle.zn_model.specs.ShownStates.{holds, infos_of}
use Rattle.zn_model.specs.Recovery.{found_by, is_passed_on}
use Rattle.zn_io.specs.Files.{IsFile, shape_of}

holds_range : (t : Truth) (most first n : ℕ) → ((i : ℕ) → i < n → (info_at t (first + i)).held ≤ most) → holds (map (info_at t) (range_with_len first n)) ≤ n * most
holds_range t most first zero h = omega arith
holds_range t most first (suc n) h =
    let a : (info_at t first).held ≤ most = subst (λ (z : ℕ). (info_at t z).held ≤ most) (add-zero first) (h 0 (omega arith)) in
    let b : holds (map (info_at t) (range_with_len (first + 1) n)) ≤ n * most =
    holds_range t most (first + 1) n (λ i below. let e : first + (i + 1) ≡ first + 1 + i = omega arith in subst (λ (z : ℕ). (info_at t z).held ≤ most) e (h (i + 1) (omega arith))) in
    let c : holds (info_at t first ∷ map (info_at t) (range_with_len (first + 1) n)) ≡ (info_at t first).held + holds (map (info_at t) (range_with_len (first + 1) n)) =
    sum_by-cons (λ (info : ZoneInfo). info.held) (info_at t first) (map (info_at t) (range_with_len (first + 1) n)) in
    let d : suc n * most ≡ n * most + most = suc-mul n most in
    omega (arith, a, b, c, d)

pub holds_file : (w : World) (file : FileZones) → IsSound w.truth → IsFile (geometry_of w) file → holds (infos_of w.truth file) ≤ room_of (shape_of w) file
unfolding geometry_of
holds_file w file sound is = holds_range w.truth (zone_room_of w.truth.shape file) file.first file.zones (λ i below.
    let z : file.first + i < length w.truth.zones = omega (arith, is.inside, kinds-length w) in
    let h : (zone_at w.truth (file.first + i)).held ≤ room w.truth.shape (zone_at w.truth (file.first + i)).kind = (sound.zones (file.first + i) z).held in
    let k : room w.truth.shape (zone_at w.truth (file.first + i)).kind ≡ zone_room_of w.truth.shape file =
    ap (λ (k : Kind). room w.truth.shape k) (sym (kind_is w (file.first + i)) ∙ is.kinds i below) in
    omega (arith, h, k))

-- what fails finds nothing that is held
failed_below : (passed_on : Bool) (error : DevError) (most : ℕ) → IfOk {T = Found} (if passed_on then Err error else Ok (record { cond = Offline; held = 0 })) (λ found. found.held ≤ most)
failed_below true error most = tt
failed_below false error most = omega arith

pub found_below : (w : World) (file : FileZones) (r : Reply) (infos : List ZoneInfo) → IsSound w.truth → IsFile (geometry_of w) file → (IsOk r → infos ≡ infos_of w.truth file)
    → IfOk (found_by r infos) (λ found. found.held ≤ room_of (shape_of w) file)
found_below w file (Ok unit) infos sound is told = let e : holds infos ≡ holds (infos_of w.truth file) = ap holds (told refl) in omega (arith, e, holds_file w file sound is)
found_below w file (Err error) infos sound is told = failed_below (is_passed_on error) error (room_of (shape_of w) file)

-- a file's blocks are few
pub room_below : (w : World) (file : FileZones) → IsFile (geometry_of w) file → room_of (shape_of w) file < 2 ^ 32
room_below w file is = omega (arith, mul-le file.zones (zone_room_of (shape_of w) file) 4096 65536 (omega (arith, is.inside, is.most)) is.most_room)

-- and so are those that are found
pub held_below : (r : Result Found DevError) (most : ℕ) → most < 2 ^ 32 → IfOk r (λ found. found.held ≤ most) → IfOk r (λ found. found.held < 2 ^ 32)
held_below (Ok found) most few fits = omega (arith, fits)
held_below (Err error) most few fits = tt
