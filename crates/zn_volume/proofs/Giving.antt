-- What a read gives, where the device tells its bytes and where it does not.
use Rattle.std.proofs.Common.{◌≡◌, ℕ, ◌≤◌, Bool, true, false, List, length, take, refl, sym}
use Rattle.std.specs.Prelude.{replicate, if◌then◌else◌}
use Rattle.std.proofs.lemmas.List.{take-append-le}
use Rattle.zn_truth.specs.Truth.{Truth}
use Rattle.zn_model.specs.Given.{told_or, fitted}

fits_front : (n : ℕ) (out : List ℕ) → n ≤ length out → take n out ≡ fitted n out
fits_front n out within = sym (take-append-le n out (replicate n 0) within)

gives_by : (told : Bool) (n : ℕ) (held out : List ℕ) → n ≤ length out → (told ≡ true → take n out ≡ held) → take n out ≡ (if told then held else fitted n out)
gives_by true n held out within is = is refl
gives_by false n held out within is = fits_front n out within

pub read_gives : (t : Truth) (n : ℕ) (held out : List ℕ) → n ≤ length out → (t.told ≡ true → take n out ≡ held) → take n out ≡ told_or t n held out
read_gives t n held out within is = gives_by t.told n held out within is
