-- Which words name a directory.
use Rattle.std.proofs.Common.{◌≡◌, ◌∙◌, ◌||◌, Bool, true, false, ℕ, List, [], ◌∷◌, Option, Some, None, IsSome, cond, codes, option_and_then, option_map, refl, ap}
use Rattle.std.specs.Str.{bytes_eq}
use Rattle.std.proofs.lemmas.Slice.Eq.{bytes_eq-Decides}
use Rattle.std.proofs.lemmas.Bool.{or_parts}
use Rattle.zn_keys.specs.Keys.{geometry_asked}
use Rattle.zn_lines.specs.Scratch.{command_of as scratch_in}
use Rattle.zn_lines.specs.declared.words.Scratch.{Scratch as ScratchWords}
use Rattle.zn_stand.specs.declared.numbers.Geometry.{Geometry}
use Rattle.zn_words.specs.Commands.{Add, Command, Format, Mkfs, add_by, add_of, are_dir_and_keys, are_options_or_none, command_of, dir_asked, dir_in, format_by, from_seed, in_memory, is_in_memory, mkfs_by, mkfs_flags, mkfs_of, run_by, run_flags, run_of, Running}
use Rattle.zn_words.specs.Churning.{churn_of}
use Rattle.zn_words.specs.Parts.{Given, given_in}
use Rattle.zn_words.specs.declared.churning.Churn.{Churn as ChurnWords}
use Rattle.zn_words.proofs.Names.{not_scratch}

-- a device in memory has no directory
none_in_memory : (asked : Option ScratchWords) → option_and_then dir_in (in_memory asked) ≡ None
none_in_memory None = refl
none_in_memory (Some s) = refl

-- and the lines of a script have none
none_from_seed : (asked : Option ChurnWords) → option_and_then dir_in (from_seed asked) ≡ None
none_from_seed None = refl
none_from_seed (Some c) = refl

-- `scratch` and `churn` are no other commands
pub in_memory_names_none : (words : List (List ℕ)) → is_in_memory words ≡ true → dir_asked words ≡ None
unfolding command_of
in_memory_names_none [] is = refl
in_memory_names_none (name ∷ words) is = go (bytes_eq name (codes "scratch")) refl is
  where
    go : (scratch : Bool) → bytes_eq name (codes "scratch") ≡ scratch → (scratch || bytes_eq name (codes "churn")) ≡ true → dir_asked (name ∷ words) ≡ None
    go true same either =
        ap (λ (n : List ℕ). option_and_then dir_in (command_of (n ∷ words))) ((bytes_eq-Decides name (codes "scratch")).0 same)
        ∙ none_in_memory (scratch_in (codes "scratch" ∷ words))
    go false other same =
        ap (λ (n : List ℕ). option_and_then dir_in (command_of (n ∷ words))) ((bytes_eq-Decides name (codes "churn")).0 same)
        ∙ none_from_seed (churn_of words)

-- whatever a command has a directory
abbrev HasDir : Option Command → Type 0
HasDir asked = IsSome asked → IsSome (option_and_then dir_in asked)

add_dir : (words : List (List ℕ)) → HasDir (add_of words)
add_dir words = by_form (are_dir_and_keys words) words
  where
    by_keys : (dir : List ℕ) (geo : Option Geometry) → HasDir (option_map (Add dir) geo)
    by_keys dir None there = there
    by_keys dir (Some geo) there = refl

    by_words : (ws : List (List ℕ)) → HasDir (add_by ws)
    by_words [] there = there
    by_words (dir ∷ keys) there = by_keys dir (geometry_asked keys) there

    by_form : (b : Bool) (ws : List (List ℕ)) → HasDir (cond b (add_by ws) None)
    by_form true ws there = by_words ws there
    by_form false ws there = there

mkfs_dir : (words : List (List ℕ)) → HasDir (mkfs_of words)
mkfs_dir words = by_given (given_in mkfs_flags words)
  where
    by_format : (dir : List ℕ) (format : Option Format) → HasDir (option_map (Mkfs dir) format)
    by_format dir None there = there
    by_format dir (Some format) there = refl

    by_given : (given : Option Given) → HasDir (option_and_then mkfs_by given)
    by_given None there = there
    by_given (Some given) there = by_format given.dir (format_by given.force given.label given.uuid given.options) there

run_dir : (words : List (List ℕ)) → HasDir (run_of words)
run_dir words = by_given (given_in run_flags words)
  where
    by_options : (b : Bool) (given : Given) → HasDir (cond b (Some (Running given.dir given.options)) None)
    by_options true given there = refl
    by_options false given there = there

    by_given : (given : Option Given) → HasDir (option_and_then run_by given)
    by_given None there = there
    by_given (Some given) there = by_options (are_options_or_none given.options) given there

-- so each command but those names one
pub others_name_one : (words : List (List ℕ)) → is_in_memory words ≡ false → IsSome (command_of words) → IsSome (dir_asked words)
unfolding command_of
others_name_one [] other there = there
others_name_one (name ∷ words) other there = go (bytes_eq name (codes "add")) (bytes_eq name (codes "mkfs")) (bytes_eq name (codes "run")) (bytes_eq name (codes "churn")) neither.1 there
  where
    neither : (bytes_eq name (codes "scratch") ≡ false) × (bytes_eq name (codes "churn") ≡ false)
    neither = or_parts (bytes_eq name (codes "scratch")) (bytes_eq name (codes "churn")) other

    none : in_memory (scratch_in (name ∷ words)) ≡ None
    none = ap in_memory (not_scratch name words neither.0)

    scratch_dir : (asked : Option Command) → asked ≡ None → HasDir asked
    scratch_dir None is some = some
    scratch_dir (Some c) is some = absurd (cc is)

    go : (a m r c : Bool) → c ≡ false
        → HasDir (cond a (add_of words) (cond m (mkfs_of words) (cond r (run_of words) (cond c (from_seed (churn_of words)) (in_memory (scratch_in (name ∷ words)))))))
    go true m r c is some = add_dir words some
    go false true r c is some = mkfs_dir words some
    go false false true c is some = run_dir words some
    go false false false true is some = absurd (cc is)
    go false false false false is some = scratch_dir (in_memory (scratch_in (name ∷ words))) none some
