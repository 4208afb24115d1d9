-- The files that have a writer, and their number.
use Rattle.std.proofs.Common.{◌≡◌, ℕ, zero, suc, ◌+◌, ◌-◌, ◌<◌, ◌≤◌, cond, ltb, List, [], ◌∷◌, length, get_or, set, drop, replicate, refl, sym, ap, ◌∙◌, arith, add-zero, zero-add, length-drop, length-set, count_by}
use Rattle.std.proofs.lemmas.Bool.{lt-ltb}
use Rattle.std.proofs.lemmas.List.{drop-set-lt, drop-set-add, get_or-drop, drop-replicate}
use Rattle.std.proofs.lemmas.List.Sums.{sum_by-set, sum_by-cons, count_by-le-length}
use Rattle.std.specs.List.{range_with_len}
use Rattle.zn_handle.specs.Writers.{wro_from}

-- a change of a conventional file
pub wro_from-set_before : (cnv file v : ℕ) (counts : List ℕ) → file < cnv → wro_from cnv (set counts file v) ≡ wro_from cnv counts
unfolding wro_from
wro_from-set_before cnv file v counts before = ap (count_by (λ n. ltb 0 n)) (drop-set-lt cnv counts file v before)

-- a change of a sequential file
pub wro_from-set : (cnv file v : ℕ) (counts : List ℕ) → cnv ≤ file → file < length counts → wro_from cnv (set counts file v) + cond (ltb 0 (get_or counts file 0)) 1 0 ≡ wro_from cnv counts + cond (ltb 0 v) 1 0
unfolding wro_from
wro_from-set cnv file v counts from within =
    let place : cnv + (file - cnv) ≡ file = omega arith in
    let written : drop cnv (set counts file v) ≡ set (drop cnv counts) (file - cnv) v =
    ap (λ k. drop cnv (set counts k v)) (sym place) ∙ drop-set-add cnv counts (file - cnv) v in
    let read : get_or (drop cnv counts) (file - cnv) 0 ≡ get_or counts file 0 = rw (get_or-drop, place) refl in
    let inside : file - cnv < length (drop cnv counts) = rw length-drop (omega arith) in
    let step = sum_by-set (λ n. cond (ltb 0 n) 1 0) (drop cnv counts) (file - cnv) v 0 inside in
    rw (written, ← read) step

-- there are no more than files
pub wro_from-le : (cnv : ℕ) (counts : List ℕ) → wro_from cnv counts ≤ length counts
unfolding wro_from
wro_from-le cnv counts = omega (arith, count_by-le-length (λ n. ltb 0 n) (drop cnv counts), length-drop cnv counts)

-- a sequential file that has a writer is one of them
pub wro_from-some : (cnv file : ℕ) (counts : List ℕ) → cnv ≤ file → file < length counts → 0 < get_or counts file 0 → 1 ≤ wro_from cnv counts
wro_from-some cnv file counts from within some =
    let step = wro_from-set cnv file 0 counts from within in
    let one = ap {B = ℕ} (λ b. cond b 1 0) (lt-ltb 0 (get_or counts file 0) some) in
    omega (arith, step, one)

-- while a sequential file has none, one more fits
pub wro_from-room : (cnv file : ℕ) (counts : List ℕ) → cnv ≤ file → file < length counts → get_or counts file 0 ≡ 0 → wro_from cnv counts + 1 ≤ length counts
wro_from-room cnv file counts from within none =
    let step = wro_from-set cnv file 1 counts from within in
    let zero_now = ap {B = ℕ} (λ n. cond (ltb 0 n) 1 0) none in
    omega (arith, step, zero_now, wro_from-le cnv (set counts file 1), length-set counts file 1)

counted_over : (G : ℕ → ℕ) (xs : List ℕ) (a : ℕ) → ((k : ℕ) → k < length xs → get_or xs k 0 ≡ G (a + k)) → count_by (λ n. ltb 0 n) xs ≡ count_by (λ f. ltb 0 (G f)) (range_with_len a (length xs))
counted_over G [] a told = refl
counted_over G (x ∷ xs) a told =
    let head : x ≡ G a = rw add-zero at (told 0 (omega arith)) in
    let rest = counted_over G xs (a + 1) later in
    sum_by-cons (λ n. cond (ltb 0 n) 1 0) x xs ∙ (rw (rest, head) refl) ∙ sym (sum_by-cons (λ f. cond (ltb 0 (G f)) 1 0) a (range_with_len (a + 1) (length xs)))
  where
    later : (k : ℕ) → k < length xs → get_or xs k 0 ≡ G (a + 1 + k)
    later k below =
        let shift : a + suc k ≡ a + 1 + k = omega arith in
        told (suc k) (omega arith) ∙ ap G shift

-- the files of a range that have a writer, where the writers of each are told
pub wro_from-told : (G : ℕ → ℕ) (cnv : ℕ) (counts : List ℕ) → ((f : ℕ) → f < length counts → get_or counts f 0 ≡ G f) → wro_from cnv counts ≡ count_by (λ f. ltb 0 (G f)) (range_with_len cnv (length counts - cnv))
unfolding wro_from
wro_from-told G cnv counts told =
    counted_over G (drop cnv counts) cnv at ∙ ap (λ n. count_by (λ f. ltb 0 (G f)) (range_with_len cnv n)) (length-drop cnv counts)
  where
    at : (k : ℕ) → k < length (drop cnv counts) → get_or (drop cnv counts) k 0 ≡ G (cnv + k)
    at k below = rw get_or-drop (told (cnv + k) (omega (arith, length-drop cnv counts)))

-- at first no file has one
counted_none : (n : ℕ) → count_by (λ k. ltb 0 k) (replicate n 0) ≡ 0
counted_none zero = refl
counted_none (suc n) =
    sum_by-cons (λ k. cond (ltb 0 k) 1 0) 0 (replicate n 0) ∙ zero-add (count_by (λ k. ltb 0 k) (replicate n 0)) ∙ counted_none n

pub wro_from-replicate : (cnv n : ℕ) → wro_from cnv (replicate n 0) ≡ 0
unfolding wro_from
wro_from-replicate cnv n = ap (count_by (λ k. ltb 0 k)) (drop-replicate cnv n 0) ∙ counted_none (n - cnv)

pub ruleset writer_laws = (wro_from-set, wro_from-set_before, wro_from-le, wro_from-replicate)
