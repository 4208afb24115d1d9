-- What the values of options are.
use Rattle.std.proofs.Common.{◌≡◌, ℕ, ◌+◌, ◌*◌, ◌^◌, ◌<◌, ◌≤◌, zero, suc, List, Some, arith, sym, ap, ◌∙◌, add-one}
use Rattle.std.proofs.Math.Nat.{pow-suc}
use Rattle.zn_base.specs.Decimals.{number_in}
use Rattle.zn_base.proofs.DecimalLaws.{decimal-number_in}

-- a number that is read is within its limit
pub number_within : (max : ℕ) (word : List ℕ) (n : ℕ) → max < 2 ^ 64 → Some n ≡ number_in max word → n ≤ max
number_within max word n fits is = (decimal-number_in max n word fits (sym is)).1

pow_more : (i : ℕ) → 8 ^ (i + 1) ≡ 8 ^ i * 8
pow_more i = ap (λ n. 8 ^ n) (add-one i) ∙ pow-suc 8 i

-- one digit more
pub octal_more : (i n digit : ℕ) → n < 8 ^ i → digit < 8 → n * 8 + digit < 8 ^ (i + 1)
octal_more i n digit below small = omega (arith, pow_more i)

-- a number of fewer than four digits has room for one more
pub octal_below : (i n : ℕ) → i < 4 → n < 8 ^ i → n < 4096
octal_below zero n short below = omega arith
octal_below (suc zero) n short below = omega arith
octal_below (suc (suc zero)) n short below = omega arith
octal_below (suc (suc (suc zero))) n short below = omega arith
octal_below (suc (suc (suc (suc i)))) n short below = absurd (omega arith)
