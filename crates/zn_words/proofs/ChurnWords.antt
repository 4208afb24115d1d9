-- What `clap` makes of the words of `churn`.
use Rattle.std.proofs.Common.{◌≡◌, ◌∙◌, ℕ, ◌&&◌, Bool, true, false, List, [], ◌∷◌, map, Option, Some, None, is_some, IsSome, refl, ap, ap₂, arith}
use Rattle.std.specs.List.{list_all}
use Rattle.std.proofs.lemmas.Bool.{and_parts}
use Rattle.clap.specs.Simple.{Shape, built, entered, matches_of}
use Rattle.clap.specs.Takes.{default_passes, entered_passes, is_valid, settle_passes, takes, walk_passes}
use Rattle.clap.specs.Walk.{Row, Text, Walk, finished, first_of, idle, nothing_held, rows_of, walk, walk_from, walked}
use Rattle.clap.specs.Words.{found_of}
use Rattle.clap.specs.declared.ArgMatches.{ArgMatches}
use Rattle.zn_base.specs.Decimals.{number_in}
use Rattle.zn_gen.specs.declared.script.TheConstants.{MOST_STEPS}
use Rattle.zn_words.specs.Churning.{churn_app, churn_by, churn_of, churn_places, found_at, most_seed}
use Rattle.zn_words.specs.Parts.{is_value}
use Rattle.zn_words.specs.Scratch.{are_values}
use Rattle.zn_words.proofs.PlainValues.{not_number, placed, value_goes, value_walked, values_split}
use Rattle.zn_words.proofs.ScratchWords.{same_found}

-- ---- two values

-- the texts in their places, by the rows of the matches
abbrev first_texts : List Row → List (Option Text)
first_texts rows = map (λ place. first_of place rows) churn_places

abbrev top : Shape
top = (built churn_app).top

module _ (seed steps : Text) (is_seed : is_value seed ≡ true) (is_steps : is_value steps ≡ true) where
  abbrev two : List Text
  two = seed ∷ steps ∷ []

  abbrev first : Walk
  first = placed top.rules idle nothing_held 1 seed

  abbrev second : Walk
  second = placed top.rules idle first.held 2 steps

  walk_is : walk top.rules [] nothing_held two ≡ second
  walk_is =
      ap (λ (w : Walk). walked top.rules [] w steps) (value_walked top.rules idle nothing_held 1 seed refl is_seed)
      ∙ value_walked top.rules idle first.held 2 steps refl is_steps

  walk_goes : walk_passes top [] (walk_from nothing_held) two ≡ true
  unfolding walk_passes
  walk_goes =
      value_goes top idle nothing_held 1 seed (steps ∷ []) refl is_seed refl
      (value_goes top idle first.held 2 steps [] refl is_steps refl refl)

  abbrev passes_at : Bool → Walk → Bool
  passes_at goes w =
      entered_passes (built churn_app) w.stopped
      && (goes && (settle_passes top.rules top.args_override_self w.held
      && (list_all default_passes top.rules && is_valid top (finished top.rules w.held) (is_some (entered (built churn_app) w.stopped)))))

  two_taken : takes churn_app two ≡ true
  two_taken = ap₂ passes_at walk_goes walk_is

  two_placed : first_texts (matches_of churn_app two) ≡ map Some two
  two_placed = ap (λ (w : Walk). first_texts (finished top.rules w.held)) walk_is

-- two values are two words
two_words : (P : List Text → Type 0) → ((a b : Text) → is_value a ≡ true → is_value b ≡ true → P (a ∷ b ∷ []))
    → (words : List Text) → are_values 2 words ≡ true → P words
two_words P f [] are = absurd (cc are)
two_words P f (a ∷ []) are = absurd (omega (arith, (values_split 2 a [] are).0))
two_words P f (a ∷ b ∷ []) are =
    let first = values_split 2 a (b ∷ []) are in
    f a b first.1 (and_parts (is_value b) true first.2).0
two_words P f (a ∷ b ∷ c ∷ words) are = absurd (omega (arith, (values_split 2 a (b ∷ c ∷ words) are).0))

-- they are taken
pub values_taken : (words : List Text) → are_values 2 words ≡ true → takes churn_app words ≡ true
values_taken = two_words (λ words. takes churn_app words ≡ true) two_taken

-- and found in their places
values_placed : (words : List Text) → are_values 2 words ≡ true → first_texts (matches_of churn_app words) ≡ map Some words
values_placed = two_words (λ words. first_texts (matches_of churn_app words) ≡ map Some words) two_placed

pub values_found : (words : List Text) (matches : ArgMatches) → are_values 2 words ≡ true → rows_of (found_of matches) ≡ matches_of churn_app words
    → found_at matches ≡ map Some words
values_found words matches are rows =
    same_found matches churn_places
    ∙ ap first_texts rows ∙ values_placed words are

-- So each of them is there.
pub all_there : (a b : Option Text) (words : List Text) → are_values 2 words ≡ true → a ∷ b ∷ [] ≡ map Some words → IsSome a × IsSome b
all_there a b = two_words (λ words. a ∷ b ∷ [] ≡ map Some words → IsSome a × IsSome b) (λ x y _ _. two_there x y)
  where
    two_there : (x y : Text) → a ∷ b ∷ [] ≡ Some x ∷ Some y ∷ [] → IsSome a × IsSome b
    two_there x y is =
        let first : a ≡ Some x = cc in
        let second : b ≡ Some y = cc in
        (rw first refl, rw second refl)

-- ---- other words

no_steps : (seed : Option ℕ) → churn_by seed None ≡ None
no_steps (Some seed) = refl
no_steps None = refl

-- two words that aren't both values ask for no script
no_script : (a b : Text) → list_all is_value (a ∷ b ∷ []) ≡ false → churn_of (a ∷ b ∷ []) ≡ None
no_script a b are = go (is_value a) refl (is_value b) refl are
  where
    go : (p : Bool) → is_value a ≡ p → (q : Bool) → is_value b ≡ q → (p && (q && true)) ≡ false → churn_of (a ∷ b ∷ []) ≡ None
    go false is_a q is_b r = rw (not_number most_seed a is_a) refl
    go true is_a false is_b r = rw (not_number MOST_STEPS b is_b) (no_steps (number_in most_seed a))
    go true is_a true is_b r = absurd (cc r)

pub not_values_refused : (words : List Text) → are_values 2 words ≡ false → churn_of words ≡ None
not_values_refused [] are = refl
not_values_refused (a ∷ []) are = refl
not_values_refused (a ∷ b ∷ []) are = no_script a b are
not_values_refused (a ∷ b ∷ c ∷ words) are = refl
