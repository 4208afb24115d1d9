-- How many numbers of a range pass a test.
use Rattle.std.proofs.Common.{◌≡◌, ℕ, zero, suc, ◌+◌, ◌<◌, ◌≤◌, Bool, true, false, cond, List, [], ◌∷◌, length, get_or, refl, sym, ap, ◌∙◌, subst, arith, add-zero, zero-add, count_by}
use Rattle.std.specs.Prelude.{◌≢◌}
use Rattle.std.specs.List.{range_with_len}
use Rattle.std.proofs.lemmas.List.FromFn.{length-range_with_len, get_or-range_with_len}
use Rattle.std.proofs.lemmas.List.Sums.{sum_by-cons, get_or-le-sum_by, count_by-le-length}

pub count_cons : (p : ℕ → Bool) (a : ℕ) (xs : List ℕ) → count_by p (a ∷ xs) ≡ cond (p a) 1 0 + count_by p xs
count_cons p a xs = sum_by-cons (λ n. cond (p n) 1 0) a xs

-- ---- one number more

count_more_from : (p : ℕ → Bool) (a n : ℕ) → count_by p (range_with_len a (n + 1)) ≡ count_by p (range_with_len a n) + cond (p (a + n)) 1 0
count_more_from p a zero = count_cons p a [] ∙ (let e : a ≡ a + 0 = omega arith in ap (λ (k : ℕ). cond (p k) 1 0 + 0) e ∙ omega arith)
count_more_from p a (suc n) =
    let e : a + 1 + n ≡ a + suc n = omega arith in
    let k : suc n + 1 ≡ suc (n + 1) = omega arith in
    let rest : count_by p (range_with_len (a + 1) (n + 1)) ≡ count_by p (range_with_len (a + 1) n) + cond (p (a + suc n)) 1 0 =
    count_more_from p (a + 1) n ∙ ap (λ (k : ℕ). count_by p (range_with_len (a + 1) n) + cond (p k) 1 0) e in
    ap (λ (k : ℕ). count_by p (range_with_len a k)) k ∙ omega (arith, rest, count_cons p a (range_with_len (a + 1) (n + 1)), count_cons p a (range_with_len (a + 1) n))

count_more : (p : ℕ → Bool) (n : ℕ) → count_by p (range_with_len 0 (n + 1)) ≡ count_by p (range_with_len 0 n) + cond (p n) 1 0
count_more p n =
    count_more_from p 0 n ∙ ap (λ (k : ℕ). count_by p (range_with_len 0 n) + cond (p k) 1 0) (zero-add n)

pub one_counted : (p : ℕ → Bool) (n : ℕ) → p n ≡ true → count_by p (range_with_len 0 (n + 1)) ≡ count_by p (range_with_len 0 n) + 1
one_counted p n is = count_more p n ∙ ap (λ (b : Bool). count_by p (range_with_len 0 n) + cond b 1 0) is

pub none_counted : (p : ℕ → Bool) (n : ℕ) → p n ≡ false → count_by p (range_with_len 0 (n + 1)) ≡ count_by p (range_with_len 0 n)
none_counted p n is = count_more p n ∙ ap (λ (b : Bool). count_by p (range_with_len 0 n) + cond b 1 0) is ∙ add-zero _

-- ---- bounds

-- no more pass than there are
pub count_within : (p : ℕ → Bool) (n : ℕ) → count_by p (range_with_len 0 n) ≤ n
count_within p n = omega (arith, count_by-le-length p (range_with_len 0 n), length-range_with_len 0 n)

-- one that passes is counted
pub counted_in : (p : ℕ → Bool) (n k : ℕ) → k < n → cond (p k) 1 0 ≤ count_by p (range_with_len 0 n)
counted_in p n k below =
    let at : get_or (range_with_len 0 n) k 0 ≡ k = get_or-range_with_len 0 n k 0 below ∙ zero-add k in
    let inside : k < length (range_with_len 0 n) = omega (arith, length-range_with_len 0 n) in
    subst (λ (i : ℕ). cond (p i) 1 0 ≤ count_by p (range_with_len 0 n)) at
    (get_or-le-sum_by (λ i. cond (p i) 1 0) (range_with_len 0 n) k 0 inside)

-- ---- two tests

-- two tests that agree at each place count alike
pub count_alike : (p q : ℕ → Bool) (a n : ℕ) → ((i : ℕ) → i < n → p (a + i) ≡ q (a + i)) → count_by p (range_with_len a n) ≡ count_by q (range_with_len a n)
count_alike p q a zero h = refl
count_alike p q a (suc n) h =
    let head : p a ≡ q a = subst (λ (z : ℕ). p z ≡ q z) (add-zero a) (h 0 (omega arith)) in
    let rest = count_alike p q (a + 1) n (λ i below. let e : a + (i + 1) ≡ a + 1 + i = omega arith in subst (λ (z : ℕ). p z ≡ q z) e (h (i + 1) (omega arith))) in
    count_cons p a (range_with_len (a + 1) n) ∙ ap (λ (b : Bool). cond b 1 0 + count_by p (range_with_len (a + 1) n)) head
    ∙ ap (λ (k : ℕ). cond (q a) 1 0 + k) rest ∙ sym (count_cons q a (range_with_len (a + 1) n))

changed_from : (p q : ℕ → Bool) (a n k : ℕ) → k < n → ((i : ℕ) → i < n → i ≢ k → p (a + i) ≡ q (a + i))
    → count_by q (range_with_len a n) + cond (p (a + k)) 1 0 ≡ count_by p (range_with_len a n) + cond (q (a + k)) 1 0
changed_from p q a zero k below h = absurd (omega arith)
changed_from p q a (suc n) zero below h =
    let here : a + 0 ≡ a = omega arith in
    let rest : count_by p (range_with_len (a + 1) n) ≡ count_by q (range_with_len (a + 1) n) =
    count_alike p q (a + 1) n (λ i inside. let e : a + (i + 1) ≡ a + 1 + i = omega arith in subst (λ (z : ℕ). p z ≡ q z) e (h (i + 1) (omega arith) (omega arith))) in
    subst (λ (z : ℕ). count_by q (range_with_len a (suc n)) + cond (p z) 1 0 ≡ count_by p (range_with_len a (suc n)) + cond (q z) 1 0) (sym here)
    (omega (arith, rest, count_cons p a (range_with_len (a + 1) n), count_cons q a (range_with_len (a + 1) n)))
changed_from p q a (suc n) (suc k) below h =
    let here : a + 1 + k ≡ a + suc k = omega arith in
    let head : p a ≡ q a = subst (λ (z : ℕ). p z ≡ q z) (add-zero a) (h 0 (omega arith) (omega arith)) in
    let rest : count_by q (range_with_len (a + 1) n) + cond (p (a + 1 + k)) 1 0 ≡ count_by p (range_with_len (a + 1) n) + cond (q (a + 1 + k)) 1 0 =
    changed_from p q (a + 1) n k (omega arith) (λ i inside apart. let e : a + (i + 1) ≡ a + 1 + i = omega arith in subst (λ (z : ℕ). p z ≡ q z) e (h (i + 1) (omega arith) (omega arith))) in
    let moved : count_by q (range_with_len (a + 1) n) + cond (p (a + suc k)) 1 0 ≡ count_by p (range_with_len (a + 1) n) + cond (q (a + suc k)) 1 0 =
    subst (λ (z : ℕ). count_by q (range_with_len (a + 1) n) + cond (p z) 1 0 ≡ count_by p (range_with_len (a + 1) n) + cond (q z) 1 0) here rest in
    let same : cond {A = ℕ} (p a) 1 0 ≡ cond {A = ℕ} (q a) 1 0 = ap (λ (b : Bool). let n : ℕ = cond b 1 0 in n) head in
    omega (arith, same, moved, count_cons p a (range_with_len (a + 1) n), count_cons q a (range_with_len (a + 1) n))

-- where two tests agree on all numbers but one, their counts differ as they do there
pub count_changed : (p q : ℕ → Bool) (n k : ℕ) → k < n → ((i : ℕ) → i < n → i ≢ k → p i ≡ q i)
    → count_by q (range_with_len 0 n) + cond (p k) 1 0 ≡ count_by p (range_with_len 0 n) + cond (q k) 1 0
count_changed p q n k below h =
    subst (λ (z : ℕ). count_by q (range_with_len 0 n) + cond (p z) 1 0 ≡ count_by p (range_with_len 0 n) + cond (q z) 1 0) (zero-add k)
    (changed_from p q 0 n k below (λ i inside apart. subst (λ (z : ℕ). p z ≡ q z) (sym (zero-add i)) (h i inside apart)))
