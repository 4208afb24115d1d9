-- The words of `churn`, but for that name. (own)
use Rattle.std.specs.Prelude.{ℕ, List, [], ◌∷◌, map, Option, Some, None, codes}
use Rattle.clap.specs.Words.{App, first_value, found_of}
use Rattle.clap.specs.declared.ArgMatches.{ArgMatches}
use Rattle.zn_base.specs.Decimals.{number_in}
use Rattle.zn_gen.specs.declared.script.TheConstants.{MOST_STEPS}
use Rattle.zn_words.specs.Scratch.{texts_command}
use Rattle.zn_words.specs.declared.churning.Churn.{Churn}
use Rattle.zn_words.specs.declared.churning.Places.{Places}

-- the words in their places, in the order of the command line
abbrev pub words_at : Places → List (List ℕ)
words_at places = places.seed.now ∷ places.steps.now ∷ []

-- the greatest seed, 2^64 - 1
abbrev pub most_seed : ℕ
most_seed = 18446744073709551615

-- both numbers must be readable
abbrev pub churn_by : Option ℕ → Option ℕ → Option Churn
churn_by (Some seed) (Some steps) = Some (record { seed = seed; steps = steps })
churn_by (Some seed) None = None
churn_by None steps = None

-- the script that the words of `churn` ask for: two decimal numbers
abbrev pub churn_of : List (List ℕ) → Option Churn
churn_of (seed ∷ steps ∷ []) = churn_by (number_in most_seed seed) (number_in MOST_STEPS steps)
churn_of words = None

-- ---- what clap is told

-- the places of `churn`, in the order of the command line
abbrev pub churn_places : List (List ℕ)
churn_places = codes "SEED" ∷ codes "STEPS" ∷ []

-- the command `churn`
abbrev pub churn_app : App
churn_app = texts_command (codes "churn") churn_places

-- what a parse found in these places
abbrev pub found_at : ArgMatches → List (Option (List ℕ))
found_at matches = map (λ place. first_value (found_of matches) place) churn_places
