-- The rules of a command on a directory, as `clap` builds them.
use Rattle.std.proofs.Common.{◌≡◌, ◌∙◌, ◌==◌, ◌&&◌, ◌||◌, Bool, true, false, not, cond, List, [], ◌∷◌, map, Some, option_map, is_some, codes, refl, ap, ap₂, sym}
use Rattle.std.specs.List.{count_by, find, list_all, list_any}
use Rattle.std.specs.Str.{bytes_eq}
use Rattle.std.proofs.lemmas.Slice.Eq.{bytes_eq-Decides}
use Rattle.clap.specs.Simple.{App, Shape, built, filled, filled_from, is_simple, with_index}
use Rattle.clap.specs.Takes.{default_passes}
use Rattle.clap.specs.Walk.{Rule, Text, arg_by_id, arg_by_short, has_short, is_early_multiple}
use Rattle.clap.proofs.WalkLemmas.{find-map}
use Rattle.zn_words.specs.Parts.{flag_of, word_of}
use Rattle.zn_words.specs.Clap.{dir_command, flag_rule, letter_of, required_text}
use Rattle.zn_words.specs.declared.flags.Flag.{Flag}
use Rattle.zn_words.specs.declared.flags.Flag.TheVariants.{Force, Label, Uuid, Options}

-- ---- what is built

-- the place of the directory
abbrev pub dir_built : Rule
dir_built = with_index 1 (filled (required_text (codes "DIR")))

-- an option
abbrev pub flag_built : Flag → Rule
flag_built flag = filled (flag_rule flag)

abbrev pub rules : List Flag → List Rule
rules flags = dir_built ∷ map flag_built flags

-- options have no place
filled_flags : (flags : List Flag) → filled_from 2 (map flag_rule flags) ≡ map flag_built flags
filled_flags [] = refl
filled_flags (flag ∷ flags) = ap (λ (rs : List Rule). flag_built flag ∷ rs) (filled_flags flags)

-- the built command, with these rules
abbrev pub shape : Text → List Rule → Shape
shape name rs = record (built (dir_command name [])).top { rules = rs }

abbrev pub told : Text → List Flag → Shape
told name flags = shape name (rules flags)

pub built_is : (name : Text) (flags : List Flag) → ◌≡◌ {A = App} (built (dir_command name flags)) (record { top = told name flags; subs = [] })
built_is name flags = ap (λ (rs : List Rule). let app : App = record { top = shape name (dir_built ∷ rs); subs = [] } in app) (filled_flags flags)

-- ---- tests of all rules

pub each_flag : (p : Rule → Bool) → ((flag : Flag) → p (flag_built flag) ≡ true) → (flags : List Flag) → list_all p (map flag_built flags) ≡ true
each_flag p passes [] = refl
each_flag p passes (flag ∷ flags) = ap₂ (λ (a b : Bool). a && b) (passes flag) (each_flag p passes flags)

each_rule : (p : Rule → Bool) → ((flag : Flag) → p (flag_rule flag) ≡ true) → (flags : List Flag) → list_all p (map flag_rule flags) ≡ true
each_rule p passes [] = refl
each_rule p passes (flag ∷ flags) = ap₂ (λ (a b : Bool). a && b) (passes flag) (each_rule p passes flags)

no_flag : (p : Rule → Bool) → ((flag : Flag) → p (flag_built flag) ≡ false) → (flags : List Flag) → list_any p (map flag_built flags) ≡ false
no_flag p fails [] = refl
no_flag p fails (flag ∷ flags) = ap₂ (λ (a b : Bool). a || b) (fails flag) (no_flag p fails flags)

-- what a rule without a default passes
pub defaults_pass : (flags : List Flag) → list_all default_passes (rules flags) ≡ true
defaults_pass = each_flag default_passes flag_passes
  where
    flag_passes : (flag : Flag) → default_passes (flag_built flag) ≡ true
    flag_passes Force = refl
    flag_passes Label = refl
    flag_passes Uuid = refl
    flag_passes Options = refl

pub rules_free : (flags : List Flag) → list_all (λ (r : Rule). r.is_free) (rules flags) ≡ true
rules_free flags = each_flag (λ (r : Rule). r.is_free) (λ flag. refl) flags

-- ---- the command is simple

pub command_simple : (name : Text) (flags : List Flag) → is_simple (dir_command name flags) ≡ true
command_simple name flags =
    let early = is_early_multiple (count_by (λ (r : Rule). is_some r.index) (built (dir_command name flags)).top.rules) in
    let first : list_all (λ (r : Rule). r.is_simple) (map flag_rule flags) ≡ true = each_rule (λ (r : Rule). r.is_simple) (λ flag. refl) flags in
    let second : list_all (λ (r : Rule). r.is_simple) (filled_from 2 (map flag_rule flags)) ≡ true =
    ap (list_all (λ (r : Rule). r.is_simple)) (filled_flags flags) ∙ each_flag (λ (r : Rule). r.is_simple) (λ flag. refl) flags in
    let third : list_any early (filled_from 2 (map flag_rule flags)) ≡ false = ap (list_any early) (filled_flags flags) ∙ no_flag early (λ flag. refl) flags in
    λ i. (first i && true) && ((second i && not (third i)) && true)

-- ---- looking rules up

-- the rule of an option, by its word
pub by_word : (flags : List Flag) (flag : Flag) → flag_of flags (word_of flag) ≡ Some flag → arg_by_id (rules flags) (word_of flag) ≡ Some (flag_built flag)
by_word flags flag has =
    passed_over flag
    ∙ (sym (find-map (λ (r : Rule). bytes_eq r.id (word_of flag)) flag_built flags) ∙ ap (option_map flag_built) has)
  where
    passed_over : (f : Flag) → arg_by_id (rules flags) (word_of f) ≡ find (λ (r : Rule). bytes_eq r.id (word_of f)) (map flag_built flags)
    passed_over Force = refl
    passed_over Label = refl
    passed_over Uuid = refl
    passed_over Options = refl

-- an option is known by its letter
same_letter : (f g : Flag) → ((letter_of f == letter_of g) || false) ≡ bytes_eq (word_of f) (word_of g)
same_letter Force Force = refl
same_letter Force Label = refl
same_letter Force Uuid = refl
same_letter Force Options = refl
same_letter Label Force = refl
same_letter Label Label = refl
same_letter Label Uuid = refl
same_letter Label Options = refl
same_letter Uuid Force = refl
same_letter Uuid Label = refl
same_letter Uuid Uuid = refl
same_letter Uuid Options = refl
same_letter Options Force = refl
same_letter Options Label = refl
same_letter Options Uuid = refl
same_letter Options Options = refl

-- and so is its rule
pub by_letter : (flags : List Flag) (flag : Flag) → flag_of flags (word_of flag) ≡ Some flag → arg_by_short (rules flags) (letter_of flag) ≡ Some (flag_built flag)
by_letter flags flag has =
    sym (find-map (λ (r : Rule). not (is_some r.index) && has_short r (letter_of flag)) flag_built flags)
    ∙ (ap (λ (test : Flag → Bool). option_map flag_built (find test flags)) (λ i f. same_letter f flag i)
    ∙ ap (option_map flag_built) has)

-- ---- words that are options

found_passes : {X : Type 0} (p : X → Bool) (xs : List X) (x : X) → find p xs ≡ Some x → p x ≡ true
found_passes p [] x is = absurd (cc is)
found_passes p (y ∷ ys) x is = go (p y) refl is (found_passes p ys x)
  where
    go : (b : Bool) → p y ≡ b → cond b (Some y) (find p ys) ≡ Some x → (find p ys ≡ Some x → p x ≡ true) → p x ≡ true
    go true passes found rest =
        let same : y ≡ x = cc in
        ap p (sym same) ∙ passes
    go false fails found rest = rest found

-- an option is spelled as its word
pub flag_word : (flags : List Flag) (word : Text) (flag : Flag) → flag_of flags word ≡ Some flag → word_of flag ≡ word
flag_word flags word flag is = (bytes_eq-Decides (word_of flag) word).0 (found_passes (λ f. bytes_eq (word_of f) word) flags flag is)
