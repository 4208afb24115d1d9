-- What `clap` makes of the words of `add`.
use Rattle.std.proofs.Common.{◌≡◌, ◌∙◌, ◌≤◌, ◌&&◌, Bool, true, nat_le, List, [], ◌∷◌, ◌++◌, append_assoc, length, Option, Some, None, is_some, refl, ap, ap₂, codes, le-leb, arith, sym}
use Rattle.std.specs.List.{fold, list_all}
use Rattle.std.proofs.lemmas.Bool.{and_parts}
use Rattle.std.proofs.lemmas.List.{append-nil}
use Rattle.clap.specs.Lexer.{usize_max}
use Rattle.clap.specs.Simple.{Shape, built, entered, matches_of}
use Rattle.clap.specs.Takes.{default_passes, entered_passes, is_valid, settle_passes, takes, values_pass, walk_passes}
use Rattle.clap.specs.Walk.{Row, Rule, Text, Walk, all_of, finished, first_of, idle, nothing_held, positional, reading_by, rows_of, walk, walk_from, walked}
use Rattle.clap.specs.Words.{found_of, rule_of}
use Rattle.clap.specs.declared.builder.arg.Arg.{Arg}
use Rattle.clap.specs.declared.builder.range.ValueRange.{ValueRange}
use Rattle.std.specs.Option.{IsSomeAnd}
use Rattle.clap.specs.declared.ArgMatches.{ArgMatches}
use Rattle.clap.specs.declared.parser.matches.ValueSource.TheVariants.{CommandLine}
use Rattle.clap.proofs.WalkLemmas.{first_value-rows, raw_values-rows}
use Rattle.zn_words.specs.Clap.{required_text}
use Rattle.zn_words.specs.Commands.{are_dir_and_keys}
use Rattle.zn_words.specs.KeyPlaces.{KeysFound, add_app, required_texts}
use Rattle.zn_words.specs.Parts.{is_value}
use Rattle.zn_words.proofs.Rows.{new_row}
use Rattle.zn_words.proofs.Rules.{dir_built}
use Rattle.zn_words.proofs.PlainValues.{placed, standing, value_goes, value_walked}
use Rattle.clap.specs.Simple.{filled, with_index}

abbrev top : Shape
top = (built add_app).top

-- the place of the keys
abbrev keys_built : Rule
keys_built = with_index 2 (filled (required_texts (codes "KEYS")))

-- the row of the directory, and that of the keys
abbrev dir_row : Text → Row
dir_row dir = new_row (codes "DIR") (reading_by dir_built) CommandLine (dir ∷ [])

abbrev keys_row : List Text → Row
keys_row keys = new_row (codes "KEYS") (reading_by keys_built) CommandLine keys

-- each text is a value that `clap` takes
all_pass : (texts : List Text) → values_pass keys_built texts ≡ true
all_pass [] = refl
all_pass (text ∷ texts) = all_pass texts

module _ (dir : Text) where
  -- where the walk stands behind these keys
  abbrev behind : List Text → Walk
  behind keys = standing positional (record { rows = dir_row dir ∷ []; pending = Some (codes "KEYS", keys); skip = 0 }) 2

  -- more keys
  keys_walked : (keys words : List Text) → list_all is_value words ≡ true → fold (walked top.rules []) (behind keys) words ≡ behind (keys ++ words)
  keys_walked keys [] are = ap behind (sym (append-nil keys))
  keys_walked keys (word ∷ words) are =
      let parts = and_parts (is_value word) (list_all is_value words) are in
      ap (λ (w : Walk). fold (walked top.rules []) w words) (value_walked top.rules positional (behind keys).held 2 word refl parts.0)
      ∙ (keys_walked (keys ++ word ∷ []) words parts.1 ∙ ap behind (append_assoc keys (word ∷ []) words))

  keys_go : (keys words : List Text) → list_all is_value words ≡ true → walk_passes top [] (behind keys) words ≡ true
  unfolding walk_passes
  keys_go keys [] are = refl
  keys_go keys (word ∷ words) are =
      let parts = and_parts (is_value word) (list_all is_value words) are in
      value_goes top positional (behind keys).held 2 word words refl parts.0 refl (keys_go (keys ++ word ∷ []) words parts.1)

  module _ (key : Text) (keys : List Text) (is_dir : is_value dir ≡ true) (is_key : is_value key ≡ true) (are_keys : list_all is_value keys ≡ true) where
    abbrev words : List Text
    words = dir ∷ key ∷ keys

    abbrev first : Walk
    first = placed top.rules idle nothing_held 1 dir

    walk_is : walk top.rules [] nothing_held words ≡ behind (key ∷ keys)
    walk_is =
        ap (λ (w : Walk). fold (walked top.rules []) (walked top.rules [] w key) keys) (value_walked top.rules idle nothing_held 1 dir refl is_dir)
        ∙ (ap (λ (w : Walk). fold (walked top.rules []) w keys) (value_walked top.rules idle first.held 2 key refl is_key)
        ∙ keys_walked (key ∷ []) keys are_keys)

    walk_goes : walk_passes top [] (walk_from nothing_held) words ≡ true
    walk_goes =
        value_goes top idle nothing_held 1 dir (key ∷ keys) refl is_dir refl
        (value_goes top idle first.held 2 key keys refl is_key refl (keys_go (key ∷ []) keys are_keys))

    abbrev passes_at : Bool → Walk → Bool
    passes_at goes w =
        entered_passes (built add_app) w.stopped
        && (goes && (settle_passes top.rules top.args_override_self w.held
        && (list_all default_passes top.rules && is_valid top (finished top.rules w.held) (is_some (entered (built add_app) w.stopped)))))

    -- as many keys as there may be
    keys_settle : length (key ∷ keys) ≤ usize_max → settle_passes top.rules top.args_override_self (behind (key ∷ keys)).held ≡ true
    keys_settle most =
        ap₂ (λ (a b : Bool). a && b) (le-leb 1 (length (key ∷ keys)) (omega arith))
        (ap₂ (λ (a b : Bool). a && b) (le-leb (length (key ∷ keys)) usize_max most) (all_pass (key ∷ keys)))

    taken : length (key ∷ keys) ≤ usize_max → takes add_app words ≡ true
    taken most = ap₂ passes_at walk_goes walk_is ∙ ap (λ (b : Bool). b && true) (keys_settle most)

    rows_are : matches_of add_app words ≡ dir_row dir ∷ keys_row (key ∷ keys) ∷ []
    rows_are = ap (λ (w : Walk). finished top.rules w.held) walk_is

    found_there : (found : ArgMatches) → rows_of (found_of found) ≡ matches_of add_app words → KeysFound found dir (key ∷ keys)
    found_there found rows = record {
      dir = first_value-rows (found_of found) (codes "DIR") ∙ ap (first_of (codes "DIR")) (rows ∙ rows_are);
      keys = raw_values-rows (found_of found) (codes "KEYS") ∙ ap (all_of (codes "KEYS")) (rows ∙ rows_are);
    }

-- ---- words of the form

-- They are a directory and keys, of which there is one.
pub record Split (words : List Text) : Type 0 where
  pub dir : Text
  pub keys : List Text
  pub is : words ≡ dir ∷ keys

pub split : (words : List Text) → are_dir_and_keys words ≡ true → Split words
split [] are = absurd (cc are)
split (dir ∷ keys) are = record { dir = dir; keys = keys; is = refl }

-- one case of two words or more
of_form : (P : List Text → Type 0)
    → ((dir key : Text) (keys : List Text) → is_value dir ≡ true → is_value key ≡ true → list_all is_value keys ≡ true → P (dir ∷ key ∷ keys))
    → (words : List Text) → are_dir_and_keys words ≡ true → P words
of_form P f [] are = absurd (cc are)
of_form P f (dir ∷ []) are = absurd (cc are)
of_form P f (dir ∷ key ∷ keys) are =
    let all = and_parts (nat_le 2 (length (dir ∷ key ∷ keys))) (list_all is_value (dir ∷ key ∷ keys)) are in
    let first = and_parts (is_value dir) (list_all is_value (key ∷ keys)) all.1 in
    let second = and_parts (is_value key) (list_all is_value keys) first.1 in
    f dir key keys first.0 second.0 second.1

-- they are taken
pub keys_taken : (words : List Text) → are_dir_and_keys words ≡ true → length words ≤ usize_max → takes add_app words ≡ true
keys_taken = of_form (λ words. length words ≤ usize_max → takes add_app words ≡ true)
    (λ dir key keys is_dir is_key are_keys most. taken dir key keys is_dir is_key are_keys (omega (arith, most)))

-- and found in their places
pub keys_found : (words : List Text) → are_dir_and_keys words ≡ true → (found : ArgMatches) → rows_of (found_of found) ≡ matches_of add_app words
    → (dir : Text) (keys : List Text) → words ≡ dir ∷ keys → KeysFound found dir keys
keys_found = of_form (λ words. (found : ArgMatches) → rows_of (found_of found) ≡ matches_of add_app words → (dir : Text) (keys : List Text) → words ≡ dir ∷ keys → KeysFound found dir keys)
    (λ first key more is_dir is_key are_keys found rows dir keys is.
    let there = found_there first key more is_dir is_key are_keys found rows in
    let same_dir : first ≡ dir = cc in
    let same_keys : key ∷ more ≡ keys = cc in
    record {
      dir = there.dir ∙ ap (λ (t : Text). Some t) same_dir;
      keys = there.keys ∙ ap (λ (ts : List Text). Some ts) same_keys;
    })

-- ---- the command that `clap` is told

-- a text that must be there, and more of them
pub more_texts : (plain ranged : Arg) (id : Text) → rule_of plain ≡ required_text id → ranged ≡ record plain { num_vals = ranged.num_vals }
    → IsSomeAnd ranged.num_vals (λ r. r ≡ record { start_inclusive = 1; end_inclusive = usize_max }) → rule_of ranged ≡ required_texts id
more_texts plain ranged id is same range =
    ap rule_of same ∙ ap₂ (λ (r : Rule) (n : Option ValueRange). record r { range = n }) is (some_is ranged.num_vals range)
  where
    some_is : (o : Option ValueRange) → IsSomeAnd o (λ r. r ≡ record { start_inclusive = 1; end_inclusive = usize_max }) → o ≡ Some (record { start_inclusive = 1; end_inclusive = usize_max })
    some_is None there = absurd there
    some_is (Some r) is_range = ap (λ (x : ValueRange). Some x) is_range
