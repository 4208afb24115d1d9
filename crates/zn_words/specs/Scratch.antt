-- The words of `scratch`, but for that name. (own)
use Rattle.std.specs.Prelude.{ℕ, ◌==◌, ◌&&◌, Bool, List, [], ◌∷◌, length, map, fold, Option, None, codes}
use Rattle.std.specs.List.{list_all}
use Rattle.clap.specs.Words.{App, first_value, found_of, with_rule}
use Rattle.clap.specs.declared.ArgMatches.{ArgMatches}
use Rattle.zn_base.specs.Decimals.{number_in}
use Rattle.zn_truth.specs.declared.limits.TheConstants.{MAX_BLOCKS, MAX_ZONES}
use Rattle.zn_lines.specs.declared.words.Scratch.{Scratch}
use Rattle.zn_lines.specs.Scratch.{scratch_by}
use Rattle.zn_words.specs.Parts.{is_value}
use Rattle.zn_words.specs.Clap.{bare_command, required_text}
use Rattle.zn_words.specs.declared.scratch.Places.{Places}

-- the form of a command without options: as many words, and all of them values
abbrev pub are_values : ℕ → List (List ℕ) → Bool
are_values count words = (length words == count) && list_all is_value words

-- the words in their places, in the order of the command line
abbrev pub words_at : Places → List (List ℕ)
words_at places = places.zones.now ∷ places.conv.now ∷ places.blocks.now ∷ []

-- the device that the words of `scratch` ask for: three decimal numbers
abbrev pub scratch_of : List (List ℕ) → Option Scratch
scratch_of (zones ∷ conv ∷ blocks ∷ []) =
    scratch_by (number_in MAX_ZONES zones) (number_in MAX_ZONES conv) (number_in MAX_BLOCKS blocks)
scratch_of words = None

-- ---- what clap is told

-- a command of texts that must be there, and of no flag
abbrev pub texts_command : List ℕ → List (List ℕ) → App
texts_command name places = fold (λ app place. with_rule app (required_text place)) (bare_command name) places

-- the places of `scratch`, in the order of the command line
abbrev pub scratch_places : List (List ℕ)
scratch_places = codes "ZONES" ∷ codes "CONV" ∷ codes "BLOCKS" ∷ []

-- the command `scratch`
abbrev pub scratch_app : App
scratch_app = texts_command (codes "scratch") scratch_places

-- what a parse found in these places
abbrev pub found_at : ArgMatches → List (Option (List ℕ))
found_at matches = map (λ place. first_value (found_of matches) place) scratch_places
