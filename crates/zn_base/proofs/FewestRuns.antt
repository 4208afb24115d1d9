-- The runs of bytes stand for them, and no fewer runs do.
use Rattle.std.proofs.Common.{◌≡◌, ℕ, ◌+◌, ◌≤◌, zero, suc, Bool, true, false, cond, eqb, eqb-true, eq-eqb, List, [], ◌∷◌, ◌++◌, length, replicate, refl, ap, ◌∙◌, add-one, arith}
use Rattle.zn_base.specs.Runs.{Run, bytes_of, onto_run, runs_of}

abbrev run : ℕ → ℕ → Run
run b n = record { byte = b; count = n }

onto_by_test : (b x n : ℕ) (others : List Run) (t : Bool) → eqb b x ≡ t → bytes_of (cond t (run b (n + 1) ∷ others) (run b 1 ∷ run x n ∷ others)) ≡ b ∷ bytes_of (run x n ∷ others)
onto_by_test b x n others true is =
    ap (λ k. replicate k b ++ bytes_of others) (add-one n) ∙ ap (λ y. b ∷ replicate n y ++ bytes_of others) (eqb-true b x is)
onto_by_test b x n others false is = refl

bytes_of-onto_run : (b : ℕ) (runs : List Run) → bytes_of (onto_run b runs) ≡ b ∷ bytes_of runs
bytes_of-onto_run b [] = refl
bytes_of-onto_run b (first ∷ others) = onto_by_test b first.byte first.count others (eqb b first.byte) refl

pub bytes_of-runs_of : (bytes : List ℕ) → bytes_of (runs_of bytes) ≡ bytes
unfolding runs_of
bytes_of-runs_of [] = refl
bytes_of-runs_of (b ∷ bytes) = bytes_of-onto_run b (runs_of bytes) ∙ ap (λ xs. b ∷ xs) (bytes_of-runs_of bytes)

one_more_at_most : (b : ℕ) (first : Run) (others : List Run) (t : Bool) → length (cond t (run b (first.count + 1) ∷ others) (run b 1 ∷ first ∷ others)) ≤ length (first ∷ others) + 1
one_more_at_most b first others true = omega arith
one_more_at_most b first others false = omega arith

length-onto_run-le : (b : ℕ) (runs : List Run) → length (onto_run b runs) ≤ length runs + 1
length-onto_run-le b [] = omega arith
length-onto_run-le b (first ∷ others) = one_more_at_most b first others (eqb b first.byte)

-- the same byte once more takes no further run
same_again : (b n : ℕ) (others : List Run) → length (onto_run b (run b n ∷ others)) ≡ length (run b n ∷ others)
same_again b n others = ap (λ t. length (cond t (run b (n + 1) ∷ others) (run b 1 ∷ run b n ∷ others))) (eq-eqb b b refl)

onto_twice_by_test : (b : ℕ) (first : Run) (others : List Run) (t : Bool) →
    let once = cond t (run b (first.count + 1) ∷ others) (run b 1 ∷ first ∷ others) in
    length (onto_run b once) ≡ length once
onto_twice_by_test b first others true = same_again b (first.count + 1) others
onto_twice_by_test b first others false = same_again b 1 (first ∷ others)

onto_twice : (b : ℕ) (runs : List Run) → length (onto_run b (onto_run b runs)) ≡ length (onto_run b runs)
onto_twice b [] = same_again b 1 []
onto_twice b (first ∷ others) = onto_twice_by_test b first others (eqb b first.byte)

one_run_at_most : (b n : ℕ) (rest : List ℕ) → length (runs_of (replicate n b ++ rest)) ≤ length (runs_of rest) + 1
unfolding runs_of
one_run_at_most b zero rest = omega arith
one_run_at_most b (suc zero) rest = length-onto_run-le b (runs_of rest)
one_run_at_most b (suc (suc n)) rest = omega (arith, onto_twice b (runs_of (replicate n b ++ rest)), one_run_at_most b (suc n) rest)

pub fewest_runs : (runs : List Run) → length (runs_of (bytes_of runs)) ≤ length runs
unfolding runs_of
fewest_runs [] = omega arith
fewest_runs (first ∷ others) = omega (arith, one_run_at_most first.byte first.count (bytes_of others), fewest_runs others)
