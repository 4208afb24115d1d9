-- Lists whose elements are changed in a way that tests don't tell.
use Rattle.std.proofs.Common.{◌≡◌, ℕ, suc, ◌+◌, Bool, true, false, cond, List, [], ◌∷◌, map, Option, Some, None, refl, sym, ap, ◌∙◌, arith}
use Rattle.std.specs.Prelude.{find, filter, option_map, sum_by, ◌||◌}
use Rattle.std.specs.List.{All, AllPairs, list_any}
use Rattle.std.proofs.lemmas.List.Elements.{All-head, All-tail}
use Rattle.std.proofs.lemmas.List.Sums.{sum_by-cons}

-- a test after a change of the elements answers as one before it
abbrev pub Agree : {X Y : Type 0} → (X → Y) → (X → Bool) → (Y → Bool) → List X → Type 0
Agree f p q xs = All (λ x. q (f x) ≡ p x) xs

-- a function of a choice is the choice of the function's values
pub cond-natural : {A B : Type 0} (g : A → B) (b : Bool) (x y : A) → cond b (g x) (g y) ≡ g (cond b x y)
cond-natural g true x y = refl
cond-natural g false x y = refl

module _ {X Y : Type 0} (f : X → Y) (p : X → Bool) (q : Y → Bool) where
  pub find-map : (xs : List X) → Agree f p q xs → find q (map f xs) ≡ option_map f (find p xs)
  find-map [] agree = refl
  find-map (x ∷ xs) agree =
      ap (λ b. cond b (Some (f x)) (find q (map f xs))) (All-head (λ v. q (f v) ≡ p v) x xs agree)
      ∙ ap (cond (p x) (Some (f x))) (find-map xs (All-tail (λ v. q (f v) ≡ p v) x xs agree))
      ∙ cond-natural (option_map f) (p x) (Some x) (find p xs)

  pub filter-map : (xs : List X) → Agree f p q xs → filter q (map f xs) ≡ map f (filter p xs)
  filter-map [] agree = refl
  filter-map (x ∷ xs) agree =
      ap (λ b. cond b (f x ∷ filter q (map f xs)) (filter q (map f xs))) (All-head (λ v. q (f v) ≡ p v) x xs agree)
      ∙ ap (λ ys. cond (p x) (f x ∷ ys) ys) (filter-map xs (All-tail (λ v. q (f v) ≡ p v) x xs agree))
      ∙ cond-natural (map f) (p x) (x ∷ filter p xs) (filter p xs)

  pub list_any-map : (xs : List X) → Agree f p q xs → list_any q (map f xs) ≡ list_any p xs
  list_any-map [] agree = refl
  list_any-map (x ∷ xs) agree =
      ap (λ b. b || list_any q (map f xs)) (All-head (λ v. q (f v) ≡ p v) x xs agree)
      ∙ ap (λ b. p x || b) (list_any-map xs (All-tail (λ v. q (f v) ≡ p v) x xs agree))

pub sum_by-map : {X Y : Type 0} (f : X → Y) (g : Y → ℕ) (xs : List X) → sum_by g (map f xs) ≡ sum_by (λ x. g (f x)) xs
sum_by-map f g [] = refl
sum_by-map f g (x ∷ xs) = sum_by-cons g (f x) (map f xs) ∙ ap (λ n. g (f x) + n) (sum_by-map f g xs) ∙ sym (sum_by-cons (λ v. g (f v)) x xs)

-- what a choice finds
found_first : {X : Type 0} (P : X → Type 0) (b : Bool) (first found : X) (rest : Option X) → (b ≡ true → P first) → (rest ≡ Some found → P found) → cond b (Some first) rest ≡ Some found → P found
found_first P true first found rest here there e = let same : first ≡ found = cc in rw (← same) (here refl)
found_first P false first found rest here there e = there e

-- what is found passes the test, and is one of the elements
pub passes-find : {X : Type 0} (p : X → Bool) (xs : List X) (found : X) → find p xs ≡ Some found → p found ≡ true
passes-find p [] found e = cc
passes-find p (x ∷ xs) found e = found_first (λ v. p v ≡ true) (p x) x found (find p xs) (λ h. h) (passes-find p xs found) e

pub All-find : {X : Type 0} (P : X → Type 0) (p : X → Bool) (xs : List X) (found : X) → All P xs → find p xs ≡ Some found → P found
All-find P p [] found all e = absurd (let no : None ≡ Some found = e in cc)
All-find P p (x ∷ xs) found all e = found_first P (p x) x found (find p xs) (λ h. All-head P x xs all) (All-find P p xs found (All-tail P x xs all)) e

-- all pairs of a list: the first with each of the others, and those of the others
pub AllPairs-head : {X : Type 0} (R : X → X → Type 0) (x : X) (xs : List X) → AllPairs R (x ∷ xs) → All (R x) xs
AllPairs-head R x xs pairs = λ k d below. pairs 0 (suc k) d (omega arith) (omega arith)

pub AllPairs-tail : {X : Type 0} (R : X → X → Type 0) (x : X) (xs : List X) → AllPairs R (x ∷ xs) → AllPairs R xs
AllPairs-tail R x xs pairs = λ i j d before below. pairs (suc i) (suc j) d (omega arith) (omega arith)
