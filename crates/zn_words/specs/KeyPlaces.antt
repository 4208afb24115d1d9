-- The words of `add` in their places, and what `clap` finds there. (own)
use Rattle.std.specs.Prelude.{◌≡◌, ℕ, true, List, [], ◌∷◌, Some, option_map, codes}
use Rattle.clap.specs.Lexer.{usize_max}
use Rattle.clap.specs.Words.{App, Rule, first_value, found_of, matched_of, new_rule, raw_values, with_rule}
use Rattle.clap.specs.declared.ArgMatches.{ArgMatches}
use Rattle.zn_words.specs.Scratch.{texts_command}

-- one text or more, of which one must be there, in the last place
abbrev pub required_texts : List ℕ → Rule
required_texts name = record (new_rule name) {
  required = true;
  range = Some (record { start_inclusive = 1; end_inclusive = usize_max });
}

-- the command `add`
abbrev pub add_app : App
add_app = with_rule (texts_command (codes "add") (codes "DIR" ∷ [])) (required_texts (codes "KEYS"))

-- The directory is found in its place, and the keys in theirs, in their order.
pub record KeysFound (found : ArgMatches) (first : List ℕ) (more : List (List ℕ)) : Type 0 where
  pub dir : first_value (found_of found) (codes "DIR") ≡ Some first
  pub keys : option_map raw_values (matched_of (found_of found) (codes "KEYS")) ≡ Some more
