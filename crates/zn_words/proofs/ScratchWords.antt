-- What `clap` makes of the words of `scratch`.
use Rattle.std.proofs.Common.{◌≡◌, ◌∙◌, ℕ, ◌&&◌, Bool, true, false, List, [], ◌∷◌, map, Option, Some, None, is_some, IsSome, refl, ap, ap₂, arith}
use Rattle.std.specs.List.{list_all}
use Rattle.std.proofs.lemmas.Bool.{and_parts}
use Rattle.clap.specs.Simple.{Shape, built, entered, matches_of}
use Rattle.clap.specs.Takes.{default_passes, entered_passes, is_valid, settle_passes, takes, walk_passes}
use Rattle.clap.specs.Walk.{Row, Text, Walk, finished, first_of, idle, nothing_held, rows_of, walk, walk_from, walked}
use Rattle.clap.specs.Words.{first_value, found_of}
use Rattle.clap.specs.declared.ArgMatches.{ArgMatches}
use Rattle.clap.proofs.WalkLemmas.{first_value-rows}
use Rattle.zn_base.specs.Decimals.{number_in}
use Rattle.zn_truth.specs.declared.limits.TheConstants.{MAX_BLOCKS, MAX_ZONES}
use Rattle.zn_lines.specs.Scratch.{scratch_by}
use Rattle.zn_words.specs.Parts.{is_value}
use Rattle.zn_words.specs.Scratch.{are_values, found_at, scratch_app, scratch_of, scratch_places}
use Rattle.zn_words.proofs.PlainValues.{not_number, placed, value_goes, value_walked, values_split}

-- ---- three values

-- the texts in their places, by the rows of the matches
abbrev first_texts : List Row → List (Option Text)
first_texts rows = map (λ place. first_of place rows) scratch_places

abbrev top : Shape
top = (built scratch_app).top

module _ (zones conv blocks : Text) (is_zones : is_value zones ≡ true) (is_conv : is_value conv ≡ true) (is_blocks : is_value blocks ≡ true) where
  abbrev three : List Text
  three = zones ∷ conv ∷ blocks ∷ []

  abbrev first : Walk
  first = placed top.rules idle nothing_held 1 zones

  abbrev second : Walk
  second = placed top.rules idle first.held 2 conv

  abbrev third : Walk
  third = placed top.rules idle second.held 3 blocks

  walk_is : walk top.rules [] nothing_held three ≡ third
  walk_is =
      ap (λ (w : Walk). walked top.rules [] (walked top.rules [] w conv) blocks) (value_walked top.rules idle nothing_held 1 zones refl is_zones)
      ∙ ap (λ (w : Walk). walked top.rules [] w blocks) (value_walked top.rules idle first.held 2 conv refl is_conv)
      ∙ value_walked top.rules idle second.held 3 blocks refl is_blocks

  walk_goes : walk_passes top [] (walk_from nothing_held) three ≡ true
  unfolding walk_passes
  walk_goes =
      value_goes top idle nothing_held 1 zones (conv ∷ blocks ∷ []) refl is_zones refl
      (value_goes top idle first.held 2 conv (blocks ∷ []) refl is_conv refl
      (value_goes top idle second.held 3 blocks [] refl is_blocks refl refl))

  abbrev passes_at : Bool → Walk → Bool
  passes_at goes w =
      entered_passes (built scratch_app) w.stopped
      && (goes && (settle_passes top.rules top.args_override_self w.held
      && (list_all default_passes top.rules && is_valid top (finished top.rules w.held) (is_some (entered (built scratch_app) w.stopped)))))

  three_taken : takes scratch_app three ≡ true
  three_taken = ap₂ passes_at walk_goes walk_is

  three_placed : first_texts (matches_of scratch_app three) ≡ map Some three
  three_placed = ap (λ (w : Walk). first_texts (finished top.rules w.held)) walk_is

-- three values are three words
three_words : (P : List Text → Type 0) → ((a b c : Text) → is_value a ≡ true → is_value b ≡ true → is_value c ≡ true → P (a ∷ b ∷ c ∷ []))
    → (words : List Text) → are_values 3 words ≡ true → P words
three_words P f [] are = absurd (cc are)
three_words P f (a ∷ []) are = absurd (omega (arith, (values_split 3 a [] are).0))
three_words P f (a ∷ b ∷ []) are = absurd (omega (arith, (values_split 3 a (b ∷ []) are).0))
three_words P f (a ∷ b ∷ c ∷ []) are =
    let first = values_split 3 a (b ∷ c ∷ []) are in
    let second = and_parts (is_value b) (list_all is_value (c ∷ [])) first.2 in
    let third = and_parts (is_value c) true second.1 in
    f a b c first.1 second.0 third.0
three_words P f (a ∷ b ∷ c ∷ d ∷ words) are = absurd (omega (arith, (values_split 3 a (b ∷ c ∷ d ∷ words) are).0))

-- they are taken
pub values_taken : (words : List Text) → are_values 3 words ≡ true → takes scratch_app words ≡ true
values_taken = three_words (λ words. takes scratch_app words ≡ true) three_taken

-- and found in their places
values_placed : (words : List Text) → are_values 3 words ≡ true → first_texts (matches_of scratch_app words) ≡ map Some words
values_placed = three_words (λ words. first_texts (matches_of scratch_app words) ≡ map Some words) three_placed

-- what is found of an id is the text of its row
pub same_found : (matches : ArgMatches) (places : List Text) → map (λ place. first_value (found_of matches) place) places ≡ map (λ place. first_of place (rows_of (found_of matches))) places
same_found matches [] = refl
same_found matches (place ∷ places) = ap₂ (λ (x : Option Text) (xs : List (Option Text)). x ∷ xs) (first_value-rows (found_of matches) place) (same_found matches places)

pub values_found : (words : List Text) (matches : ArgMatches) → are_values 3 words ≡ true → rows_of (found_of matches) ≡ matches_of scratch_app words
    → found_at matches ≡ map Some words
values_found words matches are rows =
    same_found matches scratch_places
    ∙ ap first_texts rows ∙ values_placed words are

-- So each of them is there.
pub all_there : (a b c : Option Text) (words : List Text) → are_values 3 words ≡ true → a ∷ b ∷ c ∷ [] ≡ map Some words → IsSome a × IsSome b × IsSome c
all_there a b c = three_words (λ words. a ∷ b ∷ c ∷ [] ≡ map Some words → IsSome a × IsSome b × IsSome c) (λ x y z _ _ _. three_there x y z)
  where
    three_there : (x y z : Text) → a ∷ b ∷ c ∷ [] ≡ Some x ∷ Some y ∷ Some z ∷ [] → IsSome a × IsSome b × IsSome c
    three_there x y z is =
        let first : a ≡ Some x = cc in
        let second : b ≡ Some y = cc in
        let third : c ≡ Some z = cc in
        (rw first refl, rw second refl, rw third refl)

-- ---- other words

no_second : (zones blocks : Option ℕ) → scratch_by zones None blocks ≡ None
no_second (Some zones) blocks = refl
no_second None blocks = refl

no_third : (zones conv : Option ℕ) → scratch_by zones conv None ≡ None
no_third (Some zones) (Some conv) = refl
no_third (Some zones) None = refl
no_third None conv = refl

-- three words that aren't all values ask for no device
no_device : (a b c : Text) → list_all is_value (a ∷ b ∷ c ∷ []) ≡ false → scratch_of (a ∷ b ∷ c ∷ []) ≡ None
no_device a b c are = go (is_value a) refl (is_value b) refl (is_value c) refl are
  where
    go : (p : Bool) → is_value a ≡ p → (q : Bool) → is_value b ≡ q → (r : Bool) → is_value c ≡ r → (p && (q && (r && true))) ≡ false
        → scratch_of (a ∷ b ∷ c ∷ []) ≡ None
    go false is_a q is_b r is_c are = rw (not_number MAX_ZONES a is_a) refl
    go true is_a false is_b r is_c are = rw (not_number MAX_ZONES b is_b) (no_second (number_in MAX_ZONES a) (number_in MAX_BLOCKS c))
    go true is_a true is_b false is_c are = rw (not_number MAX_BLOCKS c is_c) (no_third (number_in MAX_ZONES a) (number_in MAX_ZONES b))
    go true is_a true is_b true is_c are = absurd (cc are)

pub not_values_refused : (words : List Text) → are_values 3 words ≡ false → scratch_of words ≡ None
not_values_refused [] are = refl
not_values_refused (a ∷ []) are = refl
not_values_refused (a ∷ b ∷ []) are = refl
not_values_refused (a ∷ b ∷ c ∷ []) are = no_device a b c are
not_values_refused (a ∷ b ∷ c ∷ d ∷ words) are = refl
