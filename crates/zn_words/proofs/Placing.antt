-- `clap` takes all words that give a directory and options, and finds each in its place.
use Rattle.std.proofs.Common.{◌≡◌, ◌∙◌, ◌&&◌, ◌||◌, ◌⊎◌, inl, inr, Bool, true, false, not, cond, nat_le, List, [], ◌∷◌, ◌++◌, length, map, Option, Some, None, option_and_then, option_map, slice_get, is_some, codes, refl, ap, ap₂, sym, arith}
use Rattle.std.specs.List.{find, fold, list_all, list_any}
use Rattle.std.specs.Option.{option_map_or, option_or}
use Rattle.std.specs.Str.{bytes_eq}
use Rattle.std.proofs.lemmas.Bool.{and_parts}
use Rattle.std.proofs.lemmas.List.Folds.{find-append}
use borrow.Author.Tests.{leb-true}
use Rattle.clap.specs.Simple.{App, entered, matches_of, names_of}
use Rattle.clap.specs.Takes.{built_takes, default_passes, entered_passes, is_given, is_valid, settle_passes, takes}
use Rattle.clap.specs.Facts.{explicit_source}
use Rattle.clap.specs.Walk.{Row, Rule, Text, Walk, finished, first_of, has_row, nothing_held, one_of, row_text, rows_after, rows_of, with_default}
use Rattle.clap.specs.Words.{first_value, found_of, one_text}
use Rattle.clap.specs.declared.ArgMatches.{ArgMatches}
use Rattle.clap.proofs.WalkLemmas.{first_value-rows, one_text-rows}
use Rattle.zn_words.specs.Parts.{Given, Part, Alone, Other, given_by, given_in, given_of, has_form, is_fit, is_use, others_in, parts_of, takes_value, uses, value_of, word_of}
use Rattle.zn_words.specs.Clap.{dir_command}
use Rattle.zn_words.specs.Found.{FlagFound, Found}
use Rattle.zn_words.specs.declared.flags.Flag.{Flag}
use Rattle.zn_words.specs.declared.flags.Flag.TheVariants.{Force, Label, Uuid, Options}
use Rattle.zn_words.proofs.Rules.{built_is, command_simple, defaults_pass, each_flag, rules, rules_free, told}
use Rattle.zn_words.proofs.Walks.{Walked, row_for, walk_whole}
use Rattle.zn_words.proofs.Defaults.{dir_row, force_row, parts_sound, rows_default, same_row, unset, value_row}

-- ---- words that give something

-- what these parts give, behind a directory
abbrev given_at : Text → List Part → Given
given_at dir parts = record { dir = dir; force = list_any (is_use Force) parts; label = value_of Label parts; uuid = value_of Uuid parts; options = value_of Options parts }

-- parts of the form, which give this
record Gives (flags : List Flag) (parts : List Part) (given : Given) : Type 0 where
  form : has_form flags parts ≡ true
  dir : others_in parts ≡ given.dir ∷ []
  is : given_at given.dir parts ≡ given

gives : (flags : List Flag) (parts : List Part) (given : Given) → given_of flags parts ≡ Some given → Gives flags parts given
gives flags parts given is = by_form (has_form flags parts) refl is
  where
    by_others : (others : List Text) → others_in parts ≡ others → has_form flags parts ≡ true → given_by others parts ≡ Some given → Gives flags parts given
    by_others [] are form found = absurd (cc found)
    by_others (dir ∷ []) are form found =
        let same : given_at dir parts ≡ given = cc in
        let this : dir ≡ given.dir = ap (λ (g : Given). g.dir) same in
        record { form = form; dir = are ∙ ap (λ (d : Text). d ∷ []) this; is = ap (λ (d : Text). given_at d parts) (sym this) ∙ same }
    by_others (dir ∷ more ∷ words) are form found = absurd (cc found)

    by_form : (b : Bool) → has_form flags parts ≡ b → cond b (given_by (others_in parts) parts) None ≡ Some given → Gives flags parts given
    by_form true form found = by_others (others_in parts) refl form found
    by_form false form found = absurd (cc found)

-- what all pass, one that is found passes
found_passes : {X : Type 0} (p q : X → Bool) (xs : List X) (x : X) → find p xs ≡ Some x → list_all q xs ≡ true → q x ≡ true
found_passes p q [] x is all = absurd (cc is)
found_passes p q (y ∷ ys) x is all = go (p y) is (and_parts (q y) (list_all q ys) all) (found_passes p q ys x)
  where
    go : (b : Bool) → cond b (Some y) (find p ys) ≡ Some x → (q y ≡ true) × (list_all q ys ≡ true) → (find p ys ≡ Some x → list_all q ys ≡ true → q x ≡ true) → q x ≡ true
    go true found passes rest =
        let same : y ≡ x = cc in
        ap q (sym same) ∙ passes.0
    go false found passes rest = rest found passes.1

module _ (name : Text) (flags : List Flag) (words : List Text) (given : Given) (is : given_in flags words ≡ Some given) where
  abbrev parts : List Part
  parts = parts_of flags words

  these : Gives flags parts given
  these = gives flags parts given is

  walked : Walked name flags parts words
  walked =
      let form = and_parts (list_all is_fit parts) (list_all (λ flag. nat_le (uses flag parts) 1) flags) these.form in
      walk_whole name flags words form.0
      (λ flag has. leb-true (uses flag parts) 1 (found_passes (λ f. bytes_eq (word_of f) (word_of flag)) (λ f. nat_le (uses f parts) 1) flags flag has form.1))
      (omega (arith, ap (length {A = Text}) these.dir))

  -- ---- the rows in the end

  abbrev all_rows : List Row
  all_rows = fold with_default (map row_for parts) (rules flags)

  finished_are : finished (rules flags) walked.end.held ≡ all_rows
  finished_are = ap (λ (rs : List Row). fold with_default rs (rules flags)) walked.rows

  matches_are : matches_of (dir_command name flags) words ≡ all_rows
  matches_are =
      ap (λ (app : App). rows_after app.top.rules (names_of app) words) (built_is name flags)
      ∙ (ap (λ (w : Walk). finished (rules flags) w.held) walked.ends ∙ finished_are)

  -- the row of the directory
  dir_found : find (λ (r : Row). bytes_eq r.id (codes "DIR")) all_rows ≡ Some (row_for (Other given.dir))
  dir_found =
      same_row flags (map row_for parts) (codes "DIR") refl
      ∙ (dir_row parts ∙ ap (λ (others : List Text). option_map (λ (word : Text). row_for (Other word)) (slice_get others 0)) these.dir)

  -- ---- the words are taken

  abbrev app : App
  app = record { top = told name flags; subs = [] }

  abbrev passes_at : Bool → Walk → Bool
  passes_at goes w =
      entered_passes app w.stopped
      && (goes && (settle_passes (rules flags) false w.held
      && (list_all default_passes (rules flags) && is_valid (told name flags) (finished (rules flags) w.held) (is_some (entered app w.stopped)))))

  required_there : list_all (λ (r : Rule). not r.required || is_given r.id all_rows) (rules flags) ≡ true
  required_there =
      ap₂ (λ (a b : Bool). a && b) (ap (λ (o : Option Row). option_map_or (λ (r : Row). explicit_source r.source) o false) dir_found)
      (each_flag (λ (r : Rule). not r.required || is_given r.id all_rows) (λ flag. refl) flags)

  valid : is_valid (told name flags) (finished (rules flags) walked.end.held) false ≡ true
  valid =
      ap (λ (rows : List Row). is_valid (told name flags) rows false) finished_are
      ∙ ap₂ (λ (a b : Bool). a && b) (rules_free flags) required_there

  passes_end : passes_at true walked.end ≡ true
  passes_end =
      ap (λ (o : Option (Text × List Text)). entered_passes app o && (true && (settle_passes (rules flags) false walked.end.held
      && (list_all default_passes (rules flags) && is_valid (told name flags) (finished (rules flags) walked.end.held) (is_some (entered app o)))))) walked.whole
      ∙ (ap₂ (λ (a b : Bool). a && (b && is_valid (told name flags) (finished (rules flags) walked.end.held) false)) walked.settles (defaults_pass flags) ∙ valid)

  pub words_taken : takes (dir_command name flags) words ≡ true
  words_taken =
      ap₂ (λ (a b : Bool). a && b) (command_simple name flags)
      (ap (λ (built_app : App). built_takes built_app nothing_held words) (built_is name flags) ∙ (ap₂ passes_at walked.passes walked.ends ∙ passes_end))

  -- ---- and found in their places

  module _ (found : ArgMatches) (rows : rows_of (found_of found) ≡ matches_of (dir_command name flags) words) where
    rows_are : rows_of (found_of found) ≡ all_rows
    rows_are = rows ∙ matches_are

    value_found : (flag : Flag) → takes_value flag ≡ true → bytes_eq (codes "-f") (word_of flag) ≡ false → first_value (found_of found) (word_of flag) ≡ value_of flag parts
    value_found flag takes other =
        first_value-rows (found_of found) (word_of flag)
        ∙ (ap (first_of (word_of flag)) rows_are
        ∙ (ap (option_and_then (λ (r : Row). slice_get r.values 0)) (same_row flags (map row_for parts) (word_of flag) other)
        ∙ value_row flag takes parts (parts_sound flags words)))

    force_by : (b : Bool) → list_any (is_use Force) parts ≡ b → FlagFound found b
    force_by b stands = go b (force_row parts (parts_sound flags words) ∙ ap (λ (v : Bool). cond v (Some (row_for (Alone Force))) None) stands) (rows_default flags (map row_for parts))
      where
        text : one_text (found_of found) (codes "-f") ≡ one_of (codes "-f") all_rows
        text = one_text-rows (found_of found) (codes "-f") ∙ ap (one_of (codes "-f")) rows_are

        go : (v : Bool) → find (λ (r : Row). bytes_eq r.id (codes "-f")) (map row_for parts) ≡ cond v (Some (row_for (Alone Force))) None
            → ((all_rows ≡ map row_for parts) ⊎ ((has_row (codes "-f") (map row_for parts) ≡ false) × (all_rows ≡ map row_for parts ++ unset ∷ []))) → FlagFound found v
        go true row (inl same) = text ∙ (ap (one_of (codes "-f")) same ∙ ap (option_and_then row_text) row)
        go true row (inr more) =
            text ∙ (ap (one_of (codes "-f")) more.1 ∙ (ap (option_and_then row_text) (find-append (λ (r : Row). bytes_eq r.id (codes "-f")) (map row_for parts) (unset ∷ []))
            ∙ ap (λ (o : Option Row). option_and_then row_text (option_or o (Some unset))) row))
        go false row (inl same) = inl (text ∙ (ap (one_of (codes "-f")) same ∙ ap (option_and_then row_text) row))
        go false row (inr more) =
            inr (text ∙ (ap (one_of (codes "-f")) more.1 ∙ (ap (option_and_then row_text) (find-append (λ (r : Row). bytes_eq r.id (codes "-f")) (map row_for parts) (unset ∷ []))
            ∙ ap (λ (o : Option Row). option_and_then row_text (option_or o (Some unset))) row)))

    pub words_found : Found found given
    words_found = record {
      dir = first_value-rows (found_of found) (codes "DIR") ∙ (ap (first_of (codes "DIR")) rows_are ∙ ap (option_and_then (λ (r : Row). slice_get r.values 0)) dir_found);
      force = force_by given.force (ap (λ (g : Given). g.force) these.is);
      label = value_found Label refl refl ∙ ap (λ (g : Given). g.label) these.is;
      uuid = value_found Uuid refl refl ∙ ap (λ (g : Given). g.uuid) these.is;
      options = value_found Options refl refl ∙ ap (λ (g : Given). g.options) these.is;
    }
