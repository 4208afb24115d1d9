-- A geometry that is merely known to be within the limits is within them.
use Rattle.std.proofs.Common.{◌≡◌, ℕ, ◌<◌, ◌≤◌, ◌⊎◌, inl, inr, ⊎_elim, arith}
use Rattle.std.proofs.lemmas.Bool.{cases_lt, cases_eq}
use Rattle.std.proofs.lemmas.Grind.{not_there}
use Rattle.zn_truth.specs.Truth.{Truth, Geometry, geometry}
use Rattle.zn_truth.specs.Limits.{IsWithinLimits}
use Rattle.zn_truth.specs.World.{calm, geometry_of}

at_most : (a b : ℕ) → ¬ (¬ (a ≤ b)) → a ≤ b
at_most a b h = ⊎_elim (λ (above : b < a). absurd (h (λ le. omega arith))) (λ le. le) (cases_lt b a)

limits_ordered : (a b : ℕ) → ¬ (¬ ((a ≡ 0) ⊎ ((b ≡ 0) ⊎ (a ≤ b)))) → (a ≡ 0) ⊎ ((b ≡ 0) ⊎ (a ≤ b))
limits_ordered a b h =
    ⊎_elim inl (λ some. inr (⊎_elim inl (λ more. inr (at_most a b (λ above. h (λ one. ⊎_elim some (λ two. ⊎_elim more above two) one)))) (cases_eq b 0))) (cases_eq a 0)

pub is_within : (g : Geometry) → ∥ IsWithinLimits g ∥₁ → IsWithinLimits g
is_within g known = let h : ¬ (¬ (IsWithinLimits g)) = not_there known in record {
  some = at_most _ _ (λ no. h (λ w. no w.some));
  most = at_most _ _ (λ no. h (λ w. no w.most));
  capacity = at_most _ _ (λ no. h (λ w. no w.capacity));
  fits = at_most _ _ (λ no. h (λ w. no w.fits));
  size = at_most _ _ (λ no. h (λ w. no w.size));
  open_zones = at_most _ _ (λ no. h (λ w. no w.open_zones));
  active_zones = at_most _ _ (λ no. h (λ w. no w.active_zones));
  ordered = limits_ordered _ _ (λ no. h (λ w. no w.ordered));
}

-- so is a calm device that is merely known to be
pub calm_within : (t : Truth) → ∥ IsWithinLimits (geometry t) ∥₁ → IsWithinLimits (geometry_of (calm t))
unfolding geometry_of
calm_within t known = is_within (geometry t) known
