-- Lists of what is there at the numbers below a bound.
use Rattle.std.proofs.Common.{◌≡◌, ◌≢◌, ℕ, zero, suc, ◌+◌, ◌<◌, Bool, true, false, not, List, [], ◌∷◌, ◌++◌, Option, Some, None, refl, sym, ap, ◌∙◌, inl, inr, arith, zero-add, add-zero, append_assoc, All, AllPairs, filter, filter_map, find}
use Rattle.std.specs.List.{range_with_len}
use Rattle.std.specs.Option.{option_to_list}
use Rattle.std.proofs.lemmas.List.{append-nil}
use Rattle.std.proofs.lemmas.List.Elements.{filter-append, filter_map-append, All-nil, All-push}
use Rattle.std.proofs.lemmas.List.Folds.{find-append}
use Rattle.std.proofs.lemmas.Bool.{cases_eq}
use Rattle.std.proofs.lemmas.List.Quantifiers.{all_pairs_push}
use Rattle.zn_handle.specs.Slots.{told_below}

-- one more number at the end of a range
range_more : (a n : ℕ) → range_with_len a (suc n) ≡ range_with_len a n ++ (a + n) ∷ []
range_more a zero = rw add-zero refl
range_more a (suc n) =
    let shift : a + 1 + n ≡ a + suc n = omega arith in
    ap (λ xs. a ∷ xs) (rw shift at (range_more (a + 1) n))

module _ {X : Type 0} where
  filter_map_one : (F : ℕ → Option X) (n : ℕ) → filter_map F (n ∷ []) ≡ option_to_list (F n)
  filter_map_one F n = by_case (F n) refl
    where
      by_case : (o : Option X) → F n ≡ o → filter_map F (n ∷ []) ≡ option_to_list (F n)
      by_case None e = rw e refl
      by_case (Some x) e = rw e refl

  pub told-none : (F : ℕ → Option X) → told_below F 0 ≡ []
  unfolding told_below
  told-none F = refl

  pub told-more : (F : ℕ → Option X) (n : ℕ) → told_below F (suc n) ≡ told_below F n ++ option_to_list (F n)
  unfolding told_below
  told-more F n =
      let last : filter_map F ((0 + n) ∷ []) ≡ option_to_list (F n) = rw zero-add (filter_map_one F n) in
      ap (filter_map F) (range_more 0 n) ∙ filter_map-append F (range_with_len 0 n) ((0 + n) ∷ []) ∙ ap (λ xs. filter_map F (range_with_len 0 n) ++ xs) last

  -- the same at each number below the bound: the same list
  pub told-same : (F G : ℕ → Option X) (n : ℕ) → ((g : ℕ) → g < n → G g ≡ F g) → told_below G n ≡ told_below F n
  told-same F G zero same = told-none G ∙ sym (told-none F)
  told-same F G (suc n) same =
      let before = told-same F G n (λ g below. same g (omega arith)) in
      let last = same n (omega arith) in
      rw (told-more F n, told-more G n, before, last) refl

  -- what is kept at each number is what is kept of the list
  pub told-filter : (p : X → Bool) (F G : ℕ → Option X) (n : ℕ) → ((g : ℕ) → g < n → option_to_list (G g) ≡ filter p (option_to_list (F g))) → told_below G n ≡ filter p (told_below F n)
  told-filter p F G zero kept = told-none G ∙ ap (filter p) (sym (told-none F))
  told-filter p F G (suc n) kept =
      let before = told-filter p F G n (λ g below. kept g (omega arith)) in
      let last = kept n (omega arith) in
      rw (told-more F n, told-more G n, before, last, filter-append) refl

  -- where all is kept
  pub filter-told_all : (p : X → Bool) (F : ℕ → Option X) (n : ℕ) → ((g : ℕ) → g < n → option_to_list (F g) ≡ filter p (option_to_list (F g))) → filter p (told_below F n) ≡ told_below F n
  filter-told_all p F n kept = sym (told-filter p F F n kept)

  -- a fact of what is there is a fact of each element
  pub All-told : (P : X → Type 0) (F : ℕ → Option X) (n : ℕ) → ((g : ℕ) (x : X) → g < n → F g ≡ Some x → P x) → All P (told_below F n)
  All-told P F zero holds = rw (told-none F) (All-nil P)
  All-told P F (suc n) holds =
      let before = All-told P F n (λ g x below. holds g x (omega arith)) in
      rw (told-more F n) (by_case (F n) refl before)
    where
      by_case : (o : Option X) → F n ≡ o → All P (told_below F n) → All P (told_below F n ++ option_to_list o)
      by_case None e before = rw append-nil before
      by_case (Some x) e before = All-push P (told_below F n) x before (holds n x (omega arith) e)

  -- nothing that is there passes the test, so nothing is found
  pub find-told_none : (q : X → Bool) (F : ℕ → Option X) (n : ℕ) → ((g : ℕ) (x : X) → g < n → F g ≡ Some x → q x ≡ false) → find q (told_below F n) ≡ None
  find-told_none q F zero fails = rw (told-none F) refl
  find-told_none q F (suc n) fails =
      let before = find-told_none q F n (λ g x below. fails g x (omega arith)) in
      rw (told-more F n, find-append, before) (by_case (F n) refl)
    where
      by_case : (o : Option X) → F n ≡ o → find q (option_to_list o) ≡ None
      by_case None e = refl
      by_case (Some x) e = rw (fails n x (omega arith) e) refl

  -- a list at the one element that passes a test: what is before and after it, and that the test finds it
  pub record Split (q : X → Bool) (xs : List X) (y : X) : Type 0 where
    pub front : List X
    pub back : List X
    pub whole : xs ≡ front ++ y ∷ back
    pub others : filter (λ x. not (q x)) xs ≡ front ++ back
    pub found : find q xs ≡ Some y

  split_more : (q : X → Bool) (xs zs : List X) (y : X) → filter (λ x. not (q x)) zs ≡ zs → Split q xs y → Split q (xs ++ zs) y
  split_more q xs zs y kept s = record {
    front = s.front;
    back = s.back ++ zs;
    whole = rw (s.whole, append_assoc) refl;
    others = filter-append (λ x. not (q x)) xs zs ∙ (rw (s.others, kept, append_assoc) refl);
    found = find-append q xs zs ∙ (rw s.found refl);
  }

  split_last : (q : X → Bool) (xs : List X) (y : X) → q y ≡ true → filter (λ x. not (q x)) xs ≡ xs → find q xs ≡ None → Split q (xs ++ y ∷ []) y
  split_last q xs y passes kept missed = record {
    front = xs;
    back = [];
    whole = refl;
    others = filter-append (λ x. not (q x)) xs (y ∷ []) ∙ (rw (kept, passes) refl);
    found = find-append q xs (y ∷ []) ∙ (rw (missed, passes) refl);
  }

  pub others_stay : (q : X → Bool) (o : Option X) → ((x : X) → o ≡ Some x → q x ≡ false) → filter (λ x. not (q x)) (option_to_list o) ≡ option_to_list o
  others_stay q None fails = refl
  others_stay q (Some x) fails = rw (fails x refl) refl

  pub filter-told_none : (q : X → Bool) (F : ℕ → Option X) (n : ℕ) → ((g : ℕ) (x : X) → g < n → F g ≡ Some x → q x ≡ false) → filter (λ x. not (q x)) (told_below F n) ≡ told_below F n
  filter-told_none q F n fails =
      filter-told_all (λ x. not (q x)) F n (λ g below. sym (others_stay q (F g) (λ x is. fails g x below is)))

  -- what is there at one number passes the test, and nothing else does
  pub told_split : (q : X → Bool) (F : ℕ → Option X) (m : ℕ) (y : X) → F m ≡ Some y → q y ≡ true → ((g : ℕ) (x : X) → g ≢ m → F g ≡ Some x → q x ≡ false) → (n : ℕ) → m < n → Split q (told_below F n) y
  told_split q F m y is passes fails zero below = absurd (omega arith)
  told_split q F m y is passes fails (suc n) below =
      rw (told-more F n) (elim (cases_eq n m) [ inl same ↦ at_last same | inr differs ↦ before differs (told_split q F m y is passes fails n) ])
    where
      at_last : n ≡ m → Split q (told_below F n ++ option_to_list (F n)) y
      at_last same =
          let none = λ (g : ℕ) (x : X) (h : g < n) (e : F g ≡ Some x). fails g x (omega arith) e in
          let here : F n ≡ Some y = ap F same ∙ is in
          rw here (split_last q (told_below F n) y passes (filter-told_none q F n none) (find-told_none q F n none))

      before : n ≢ m → (m < n → Split q (told_below F n) y) → Split q (told_below F n ++ option_to_list (F n)) y
      before differs earlier =
          split_more q (told_below F n) (option_to_list (F n)) y (others_stay q (F n) (λ x e. fails n x differs e)) (earlier (omega arith))

  -- the numbers of what is there rise
  pub rising-told : (w : X → ℕ) (F : ℕ → Option X) (n : ℕ) → ((g : ℕ) (x : X) → F g ≡ Some x → w x ≡ g) → AllPairs (λ a b. w a < w b) (told_below F n)
  rising-told w F zero numbered = rw (told-none F) (λ i j d h k. absurd (omega arith))
  rising-told w F (suc n) numbered =
      rw (told-more F n) (by_case (F n) refl (rising-told w F n numbered))
    where
      by_case : (o : Option X) → F n ≡ o → AllPairs (λ a b. w a < w b) (told_below F n) → AllPairs (λ a b. w a < w b) (told_below F n ++ option_to_list o)
      by_case None e before = rw append-nil before
      by_case (Some x) e before =
          let below = All-told (λ a. w a < w x) F n (λ g a h is. omega (arith, numbered g a is, numbered n x e)) in
          all_pairs_push (λ a b. w a < w b) (told_below F n) x before below
