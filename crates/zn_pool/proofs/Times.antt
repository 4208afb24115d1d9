-- How often a block is among blocks.
use Rattle.std.proofs.Common.{◌≡◌, ◌≢◌, ℕ, ◌+◌, cond, eqb, List, ◌∷◌, ◌++◌, refl, ap, ◌∙◌, arith, suc, count_by}
use Rattle.std.proofs.lemmas.Bool.{eq-eqb}
use Rattle.std.proofs.lemmas.List.Sums.{sum_by-cons, sum_by-append}

abbrev pub times : ℕ → List ℕ → ℕ
times x blocks = count_by (λ b. eqb b x) blocks

pub times-cons : (x b : ℕ) (blocks : List ℕ) → times x (b ∷ blocks) ≡ cond (eqb b x) 1 0 + times x blocks
times-cons x b blocks = sum_by-cons (λ c. cond (eqb c x) 1 0) b blocks

pub times-append : (x : ℕ) (xs ys : List ℕ) → times x (xs ++ ys) ≡ times x xs + times x ys
times-append x xs ys = sum_by-append (λ c. cond (eqb c x) 1 0) xs ys

pub times-self : (x : ℕ) (blocks : List ℕ) → times x (x ∷ blocks) ≡ suc (times x blocks)
times-self x blocks = times-cons x x blocks ∙ ap (λ t. cond t 1 0 + times x blocks) (eq-eqb x x refl) ∙ omega arith

-- a block that isn't among blocks is neither the first nor among the rest
pub absent_head : (x b : ℕ) (blocks : List ℕ) → times x (b ∷ blocks) ≡ 0 → b ≢ x
absent_head x b blocks absent same =
    let here = ap {B = ℕ} (λ t. cond t 1 0) (eq-eqb b x same) in
    absurd (omega (arith, here, times-cons x b blocks))

pub absent_tail : (x b : ℕ) (blocks : List ℕ) → times x (b ∷ blocks) ≡ 0 → times x blocks ≡ 0
absent_tail x b blocks absent = omega (arith, times-cons x b blocks)
