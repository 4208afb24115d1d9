-- Lists of bytes: zeros, first places, and the byte of a place.
use Rattle.std.proofs.Common.{◌≡◌, ℕ, zero, suc, ◌+◌, ◌<◌, ◌≤◌, Bool, true, false, cond, not, ltb, eqb, List, ◌++◌, length, get_or, take, drop, Option, Some, None, refl, sym, ap, ◌∙◌, arith, ⊎_elim}
use Rattle.std.specs.Prelude.{option_map}
use Rattle.std.specs.List.{position, position_or_len, find, range_with_len, zip}
use Rattle.std.proofs.lemmas.Bool.{cases_eq, le-ltb, lt-ltb, ltb-false, eqb-true, eq-eqb, not-false, not_from_true}
use Rattle.std.proofs.lemmas.List.{length-append, length-replicate, get_or-replicate, ext_get_or, drop_at, take_at, drop-drop, take-append-drop}
use Rattle.std.proofs.lemmas.List.Sums.{position_or_len_is, fails_before_first}
use Rattle.std.proofs.lemmas.Slice.Zip.{length-zip, get_or-zip}
use Rattle.zn_base.specs.Texts.{◌⧺◌}
use Rattle.zn_model.specs.SuperBlock.{zeros, padded, field_at, first_difference, first_nonzero}

-- ---- the first place that passes

pub position-None : {X : Type 0} (p : X → Bool) (xs : List X) (d : X) → ((k : ℕ) → k < length xs → p (get_or xs k d) ≡ false) → position p xs ≡ None
position-None p xs d fails =
    let all : position_or_len p xs ≡ length xs = position_or_len_is p xs (length xs) d (omega arith) fails (λ h. absurd (omega arith)) in
    let test : ltb (position_or_len p xs) (length xs) ≡ false = le-ltb _ _ (omega arith) in
    rw test

pub position-Some_at : {X : Type 0} (p : X → Bool) (xs : List X) (i : ℕ) (d : X) → i < length xs → ((k : ℕ) → k < i → p (get_or xs k d) ≡ false) → p (get_or xs i d) ≡ true → position p xs ≡ Some i
position-Some_at p xs i d h fails passes =
    let at_i : position_or_len p xs ≡ i = position_or_len_is p xs i d (omega arith) fails (λ _. passes) in
    let test : ltb (position_or_len p xs) (length xs) ≡ true = lt-ltb _ _ (omega arith) in
    rw (test, at_i)

ltb_from_none : {X : Type 0} (b : Bool) (x : X) → cond b (Some x) None ≡ None → b ≡ false
ltb_from_none true x e = cc
ltb_from_none false x e = refl

pub fails_from_none : {X : Type 0} (p : X → Bool) (xs : List X) (k : ℕ) (d : X) → position p xs ≡ None → k < length xs → p (get_or xs k d) ≡ false
fails_from_none p xs k d e h =
    let over = ltb-false _ _ (ltb_from_none (ltb (position_or_len p xs) (length xs)) (position_or_len p xs) e) in
    fails_before_first p xs k d (omega arith)

pub map_none : {X Y : Type 0} (f : X → Y) (o : Option X) → option_map f o ≡ None → o ≡ None
map_none f None e = refl
map_none f (Some x) e = cc

-- ---- the first place of a range

pub find-None : (p : ℕ → Bool) (a n : ℕ) → ((k : ℕ) → a ≤ k → k < a + n → p k ≡ false) → find p (range_with_len a n) ≡ None
find-None p a zero fails = refl
find-None p a (suc n) fails =
    rw (fails a (omega arith) (omega arith)) (find-None p (a + 1) n (λ k l h. fails k (omega arith) (omega arith)))

pub find-Some : (p : ℕ → Bool) (a n i : ℕ) → a ≤ i → i < a + n → p i ≡ true → ((k : ℕ) → a ≤ k → k < i → p k ≡ false) → find p (range_with_len a n) ≡ Some i
find-Some p a zero i l h passes fails = absurd (omega arith)
find-Some p a (suc n) i l h passes fails =
    ⊎_elim
    (λ same. let here : p a ≡ true = ap p (sym same) ∙ passes in rw here (ap Some (sym same)))
    (λ apart. rw (fails a (omega arith) (omega arith)) (find-Some p (a + 1) n i (omega arith) (omega arith) passes (λ k l' h'. fails k (omega arith) h')))
    (cases_eq i a)

-- ---- zeros

pub length-zeros : (n : ℕ) → length (zeros n) ≡ n
unfolding zeros
length-zeros n = length-replicate n 0

pub get_or-zeros : (n k : ℕ) → k < n → get_or (zeros n) k 0 ≡ 0
unfolding zeros
get_or-zeros n k h = get_or-replicate n k 0 0 h

pub length-padded : (n : ℕ) (bytes : List ℕ) → length bytes ≤ n → length (padded n bytes) ≡ n
length-padded n bytes h = simp (length-append, length-zeros) (omega arith)

pub first_nonzero-zeros : (n : ℕ) → first_nonzero (zeros n) ≡ None
unfolding first_nonzero
first_nonzero-zeros n = position-None (λ (byte : ℕ). not (eqb byte 0)) (zeros n) 0
    (λ k h. not_from_true _ (eq-eqb _ _ (get_or-zeros n k (omega (arith, length-zeros n)))))

pub zeros_from_none : (bytes : List ℕ) → first_nonzero bytes ≡ None → bytes ≡ zeros (length bytes)
unfolding first_nonzero
zeros_from_none bytes e =
    ext_get_or 0 bytes (zeros (length bytes)) (sym (length-zeros (length bytes)))
    (λ k h. eqb-true _ _ (not-false _ (fails_from_none (λ (byte : ℕ). not (eqb byte 0)) bytes k 0 e h)) ∙ sym (get_or-zeros (length bytes) k h))

-- ---- two lists

pub first_difference_none : (xs : List ℕ) → first_difference xs xs ≡ None
unfolding first_difference
first_difference_none xs = position-None (λ (both : ℕ × ℕ). not (eqb both.0 both.1)) (zip xs xs) (0, 0)
    (λ k h. let short : k < length xs = omega (arith, length-zip xs xs) in
    rw (get_or-zip xs xs k (0, 0) short short) (not_from_true _ (eq-eqb _ _ refl)))

pub same_from_none : (xs ys : List ℕ) → length xs ≡ length ys → first_difference xs ys ≡ None → xs ≡ ys
unfolding first_difference
same_from_none xs ys l e = ext_get_or 0 xs ys l
    (λ k h. let short : k < length ys = omega arith in
    let test = fails_from_none (λ (both : ℕ × ℕ). not (eqb both.0 both.1)) (zip xs ys) k (0, 0) e (omega (arith, length-zip xs ys)) in
    eqb-true _ _ (not-false _ (rw (get_or-zip xs ys k (0, 0) h short) at test)))

-- ---- a part of a block

-- a part stands where the ones before it end
pub cut : (at n : ℕ) (block part rest : List ℕ) → drop at block ≡ part ⧺ rest → length part ≡ n → (field_at block at n ≡ part) × (drop (at + n) block ≡ rest)
cut at n block part rest e l =
    (ap (take n) e ∙ take_at part rest n l, sym (drop-drop n at block) ∙ ap (drop n) e ∙ drop_at part rest n l)

-- a block from a place on is a field and the rest
pub field_and_rest : (block : List ℕ) (at n : ℕ) → drop at block ≡ field_at block at n ⧺ drop (at + n) block
field_and_rest block at n = sym (take-append-drop n (drop at block)) ∙ ap (λ rest. field_at block at n ++ rest) (drop-drop n at block)
