-- The resets of zones as they leave a device.
use Rattle.std.proofs.Common.{◌≡◌, ◌≢◌, ℕ, zero, suc, ◌+◌, ◌<◌, ◌≤◌, Bool, true, false, cond, List, ◌∷◌, length, map, refl, sym, ap, ◌∙◌, ⊎_elim, subst, arith}
use Rattle.std.specs.Prelude.{filter}
use Rattle.std.specs.List.{range_with_len}
use Rattle.std.proofs.lemmas.List.{length-set}
use Rattle.std.proofs.lemmas.Bool.{cases_eq, cases_Bool, false≢true}
use Rattle.zn_truth.specs.declared.Cond.TheVariants.{Good}
use Rattle.zn_truth.specs.declared.ZoneOp.TheVariants.{Reset}
use Rattle.zn_truth.specs.Truth.{Zone, Truth, zone_at, seen}
use Rattle.zn_truth.specs.Orders.{Order, Manage, managed, effect}
use Rattle.zn_mkfs.proofs.Effects.{effects, AllAllowed}
use Rattle.zn_mkfs.proofs.Zones.{IsSameDevice, device_after, at_same, at_other, manage_allowed}

-- a zone that was reset
pub record IsReset (x y : Zone) : Type 0 where
  pub kind : y.kind ≡ x.kind
  pub cond : y.cond ≡ x.cond
  pub held : y.held ≡ 0
  pub explicit : y.explicit ≡ false

-- the resets of the zones of a range that pass a test
abbrev pub sweep : (ℕ → Bool) → ℕ → ℕ → List Order
sweep p a n = map (λ z. Manage z Reset) (filter p (range_with_len a n))

-- those zones are reset, and all others stay
pub record IsSwept (p : ℕ → Bool) (a n : ℕ) (t u : Truth) : Type 0 where
  pub device : IsSameDevice t u
  pub reset : (k : ℕ) → a ≤ k → k < a + n → p k ≡ true → IsReset (zone_at t k) (zone_at u k)
  pub before : (k : ℕ) → k < a → zone_at u k ≡ zone_at t k
  pub behind : (k : ℕ) → a + n ≤ k → zone_at u k ≡ zone_at t k
  pub passed : (k : ℕ) → p k ≡ false → zone_at u k ≡ zone_at t k

pub record Sweeps (p : ℕ → Bool) (a n : ℕ) (t : Truth) : Type 0 where
  pub swept : IsSwept p a n t (effects t (sweep p a n))
  pub allowed : AllAllowed t (sweep p a n)

module _ (p : ℕ → Bool) where
  -- one zone more in front, which is passed over
  pass : (a n : ℕ) (t u : Truth) → p a ≡ false → IsSwept p (a + 1) n t u → IsSwept p a (suc n) t u
  pass a n t u here h = record {
    device = h.device;
    reset = λ k l lt passes. h.reset k (⊎_elim (λ same. absurd (false≢true (sym here ∙ ap p (sym same) ∙ passes))) (λ apart. omega arith) (cases_eq k a)) (omega arith) passes;
    before = λ k lt. h.before k (omega arith);
    behind = λ k l. h.behind k (omega arith);
    passed = h.passed;
  }

  -- or reset
  abbrev one_reset : Truth → ℕ → Truth
  one_reset t a = effect t (Manage a Reset)

  here_reset : (a : ℕ) (t : Truth) → a < length t.zones → IsReset (zone_at t a) (zone_at (one_reset t a) a)
  here_reset a t lt =
      let is = at_same t a (managed Reset t.shape (zone_at t a)) lt in
      record { kind = ap (λ (z : Zone). z.kind) is; cond = ap (λ (z : Zone). z.cond) is; held = ap (λ (z : Zone). z.held) is; explicit = ap (λ (z : Zone). z.explicit) is }

  elsewhere : (a : ℕ) (t : Truth) (k : ℕ) → k ≢ a → zone_at (one_reset t a) k ≡ zone_at t k
  elsewhere a t k apart = at_other t a k (managed Reset t.shape (zone_at t a)) apart

  same_count : (a : ℕ) (t : Truth) → length (one_reset t a).zones ≡ length t.zones
  same_count a t = length-set t.zones a (seen t.told (managed Reset t.shape (zone_at t a)))

  reset_here : (a n : ℕ) (t u : Truth) → a < length t.zones → p a ≡ true → IsSwept p (a + 1) n (one_reset t a) u → IsSwept p a (suc n) t u
  reset_here a n t u lt here h = record {
    device = device_after t (one_reset t a) u (record { shape = refl; told = refl; count = same_count a t }) h.device;
    reset = λ k l lt' passes. ⊎_elim
        (λ (same : k ≡ a). subst (λ (z : ℕ). IsReset (zone_at t z) (zone_at u z)) (sym same) (subst (λ (x : Zone). IsReset (zone_at t a) x) (sym (h.before a (omega arith))) (here_reset a t lt)))
        (λ (apart : k ≢ a). subst (λ (x : Zone). IsReset x (zone_at u k)) (elsewhere a t k apart) (h.reset k (omega arith) (omega arith) passes))
        (cases_eq k a);
    before = λ k l. h.before k (omega arith) ∙ elsewhere a t k (λ is. omega arith);
    behind = λ k l. h.behind k (omega arith) ∙ elsewhere a t k (λ is. omega arith);
    passed = λ k fails. h.passed k fails ∙ elsewhere a t k (λ is. false≢true (sym fails ∙ ap p is ∙ here));
  }

  abbrev AreGood : ℕ → ℕ → Truth → Type 0
  AreGood a n t = (z : ℕ) → a ≤ z → z < a + n → p z ≡ true → (zone_at t z).cond ≡ Good

  -- the orders with one zone more
  one_more : (a n : ℕ) (b : Bool) → p a ≡ b → sweep p a (suc n) ≡ map (λ z. Manage z Reset) (cond b (a ∷ filter p (range_with_len (a + 1) n)) (filter p (range_with_len (a + 1) n)))
  one_more a n b is = ap (λ (c : Bool). map (λ z. Manage z Reset) (cond c (a ∷ filter p (range_with_len (a + 1) n)) (filter p (range_with_len (a + 1) n)))) is

  next_passes : (a n : ℕ) (t : Truth) → a + suc n ≤ length t.zones → AreGood a (suc n) t → p a ≡ true → Sweeps p (a + 1) n (one_reset t a) → Sweeps p a (suc n) t
  next_passes a n t fits good here rest =
      let lt : a < length t.zones = omega arith in
      record {
        swept = subst (λ (l : List Order). IsSwept p a (suc n) t (effects t l)) (sym (one_more a n true here)) (reset_here a n t (effects (one_reset t a) (sweep p (a + 1) n)) lt here rest.swept);
        allowed = subst (λ (l : List Order). AllAllowed t l) (sym (one_more a n true here)) (manage_allowed t a (good a (omega arith) (omega arith) here), rest.allowed);
      }

  next_fails : (a n : ℕ) (t : Truth) → p a ≡ false → Sweeps p (a + 1) n t → Sweeps p a (suc n) t
  next_fails a n t here rest = record {
    swept = subst (λ (l : List Order). IsSwept p a (suc n) t (effects t l)) (sym (one_more a n false here)) (pass a n t (effects t (sweep p (a + 1) n)) here rest.swept);
    allowed = subst (λ (l : List Order). AllAllowed t l) (sym (one_more a n false here)) rest.allowed;
  }

  next_sweep : (a n : ℕ) (t : Truth) → a + suc n ≤ length t.zones → AreGood a (suc n) t → ((u : Truth) → (a + 1) + n ≤ length u.zones → AreGood (a + 1) n u → Sweeps p (a + 1) n u) → Sweeps p a (suc n) t
  next_sweep a n t fits good again = ⊎_elim
      (λ (here : p a ≡ true). next_passes a n t fits good here
      (again (one_reset t a) (omega (arith, same_count a t)) (λ z l h passes. ap (λ (x : Zone). x.cond) (elsewhere a t z (λ is. omega arith)) ∙ good z (omega arith) (omega arith) passes)))
      (λ (here : p a ≡ false). next_fails a n t here (again t (omega arith) (λ z l h passes. good z (omega arith) (omega arith) passes)))
      (cases_Bool (p a))

  pub sweeps : (a n : ℕ) (t : Truth) → a + n ≤ length t.zones → AreGood a n t → Sweeps p a n t
  sweeps a zero t fits good = record {
    swept = record {
      device = record { shape = refl; told = refl; count = refl };
      reset = λ k l lt passes. absurd (omega arith);
      before = λ k lt. refl;
      behind = λ k l. refl;
      passed = λ k fails. refl;
    };
    allowed = tt;
  }
  sweeps a (suc n) t fits good = next_sweep a n t fits good (λ u h k. sweeps (a + 1) n u h k)
