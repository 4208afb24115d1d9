-- What `clap` adds to the rows of the parts, and what stands in all of them.
use Rattle.std.proofs.Common.{◌≡◌, ◌∙◌, ◌&&◌, ◌||◌, ◌⊎◌, inl, inr, Bool, true, false, not, cond, List, [], ◌∷◌, ◌++◌, map, Option, Some, None, option_map, option_and_then, slice_get, codes, refl, ap}
use Rattle.std.specs.Option.{option_or}
use Rattle.std.specs.List.{cons_option, filter_map, find, fold, list_all, list_any}
use Rattle.std.specs.Str.{bytes_eq}
use Rattle.std.proofs.lemmas.Bool.{and_parts}
use Rattle.std.proofs.lemmas.List.Folds.{find-append, list_any-append}
use Rattle.clap.specs.Walk.{Row, Text, first_of, has_row, reading_by, with_default, with_values}
use Rattle.clap.specs.declared.parser.matches.ValueSource.TheVariants.{DefaultValue}
use Rattle.zn_words.specs.Parts.{Part, Alone, With, Other, begun, flag_of, is_use, others_in, parts_from, parts_of, takes_value, value_by, value_of, word_of}
use Rattle.zn_words.specs.declared.flags.Flag.{Flag}
use Rattle.zn_words.specs.declared.flags.Flag.TheVariants.{Force, Label, Uuid, Options}
use Rattle.zn_words.proofs.Rows.{default_added, new_row}
use Rattle.zn_words.proofs.Rules.{flag_built, rules}
use Rattle.zn_words.proofs.Walks.{row_for}

-- ---- defaults

-- the row of `-f` where it doesn't stand
abbrev pub unset : Row
unset = new_row (codes "-f") (reading_by (flag_built Force)) DefaultValue (codes "false" ∷ [])

either_same : {X : Type 0} (b : Bool) (x : X) → cond b x x ≡ x
either_same true x = refl
either_same false x = refl

abbrev with_defaults : List Row → List Flag → List Row
with_defaults rows flags = fold with_default rows (map flag_built flags)

-- the rows with the defaults: the same, or `-f` is added as unset
abbrev DefaultsAre : List Row → List Row → Type 0
DefaultsAre rows all = (all ≡ rows) ⊎ ((has_row (codes "-f") rows ≡ false) × (all ≡ rows ++ unset ∷ []))

-- a rule without a default adds nothing
same_default : (flags : List Flag) (rows : List Row) (b : Bool) → DefaultsAre rows (with_defaults rows flags) → DefaultsAre rows (with_defaults (cond b rows rows) flags)
same_default flags rows true rest = rest
same_default flags rows false rest = rest

-- where `-f` has a row, nothing is added
stays : (flags : List Flag) (rows : List Row) → has_row (codes "-f") rows ≡ true → with_defaults rows flags ≡ rows
stays [] rows has = refl
stays (Force ∷ flags) rows has = ap (λ (b : Bool). with_defaults (cond b rows (with_values (codes "-f") (reading_by (flag_built Force)) DefaultValue (codes "false" ∷ []) rows)) flags) has ∙ stays flags rows has
stays (Label ∷ flags) rows has = ap (λ (rs : List Row). with_defaults rs flags) (either_same (has_row (codes "-L") rows) rows) ∙ stays flags rows has
stays (Uuid ∷ flags) rows has = ap (λ (rs : List Row). with_defaults rs flags) (either_same (has_row (codes "-U") rows) rows) ∙ stays flags rows has
stays (Options ∷ flags) rows has = ap (λ (rs : List Row). with_defaults rs flags) (either_same (has_row (codes "-o") rows) rows) ∙ stays flags rows has

flags_default : (flags : List Flag) (rows : List Row) → DefaultsAre rows (with_defaults rows flags)
flags_default [] rows = inl refl
flags_default (Force ∷ flags) rows = go (has_row (codes "-f") rows) refl (flags_default flags rows)
  where
    set : has_row (codes "-f") (rows ++ unset ∷ []) ≡ true
    set = list_any-append (λ (r : Row). bytes_eq r.id (codes "-f")) rows (unset ∷ []) ∙ or_true (has_row (codes "-f") rows)
      where
        or_true : (b : Bool) → (b || true) ≡ true
        or_true true = refl
        or_true false = refl

    go : (b : Bool) → has_row (codes "-f") rows ≡ b → DefaultsAre rows (with_defaults rows flags)
        → DefaultsAre rows (with_defaults (cond b rows (with_values (codes "-f") (reading_by (flag_built Force)) DefaultValue (codes "false" ∷ []) rows)) flags)
    go true has rest = rest
    go false has rest =
        let added = default_added (codes "-f") (reading_by (flag_built Force)) DefaultValue (codes "false" ∷ []) rows has in
        inr (has, ap (λ (rs : List Row). with_defaults rs flags) added ∙ stays flags (rows ++ unset ∷ []) set)
flags_default (Label ∷ flags) rows = same_default flags rows (has_row (codes "-L") rows) (flags_default flags rows)
flags_default (Uuid ∷ flags) rows = same_default flags rows (has_row (codes "-U") rows) (flags_default flags rows)
flags_default (Options ∷ flags) rows = same_default flags rows (has_row (codes "-o") rows) (flags_default flags rows)

pub rows_default : (flags : List Flag) (rows : List Row) → DefaultsAre rows (fold with_default rows (rules flags))
rows_default flags rows = same_default flags rows (has_row (codes "DIR") rows) (flags_default flags rows)

-- ---- looking rows up

abbrev found_row : Text → List Row → Option Row
found_row id rows = find (λ (r : Row). bytes_eq r.id id) rows

or_none : {X : Type 0} (o : Option X) → option_or o None ≡ o
or_none None = refl
or_none (Some x) = refl

-- an id other than `-f` has the same row
pub same_row : (flags : List Flag) (rows : List Row) (id : Text) → bytes_eq (codes "-f") id ≡ false → found_row id (fold with_default rows (rules flags)) ≡ found_row id rows
same_row flags rows id other = elim (rows_default flags rows) [
  | inl is ↦ ap (found_row id) is
  | inr is ↦ ap (found_row id) is.1 ∙ (find-append (λ (r : Row). bytes_eq r.id id) rows (unset ∷ [])
      ∙ (ap (λ (b : Bool). option_or (found_row id rows) (cond b (Some unset) None)) other ∙ or_none (found_row id rows)))
]

-- ---- parts

-- an option stands alone exactly where it takes no value
abbrev is_sound : Part → Bool
is_sound (Alone flag) = not (takes_value flag)
is_sound (With flag word) = takes_value flag
is_sound (Other word) = true

sound : (flags : List Flag) (words : List Text) → (list_all is_sound (parts_from flags words None) ≡ true)
    × ((flag : Flag) → takes_value flag ≡ true → list_all is_sound (parts_from flags words (Some flag)) ≡ true)
sound flags [] = (refl, λ flag takes. ap (λ (b : Bool). b && true) takes)
sound flags (word ∷ words) =
    let rest = sound flags words in
    (first (flag_of flags word) rest, λ flag takes. ap (λ (b : Bool). b && list_all is_sound (parts_from flags words None)) takes ∙ rest.0)
  where
    first : (found : Option Flag) → (list_all is_sound (parts_from flags words None) ≡ true) × ((flag : Flag) → takes_value flag ≡ true → list_all is_sound (parts_from flags words (Some flag)) ≡ true)
        → list_all is_sound (begun found word (parts_from flags words)) ≡ true
    first None rest = rest.0
    first (Some Force) rest = rest.0
    first (Some Label) rest = rest.1 Label refl
    first (Some Uuid) rest = rest.1 Uuid refl
    first (Some Options) rest = rest.1 Options refl

pub parts_sound : (flags : List Flag) (words : List Text) → list_all is_sound (parts_of flags words) ≡ true
parts_sound flags words = (sound flags words).0

-- the row of the directory
pub dir_row : (parts : List Part) → found_row (codes "DIR") (map row_for parts) ≡ option_map (λ (word : Text). row_for (Other word)) (slice_get (others_in parts) 0)
dir_row [] = refl
dir_row (Alone Force ∷ parts) = dir_row parts
dir_row (Alone Label ∷ parts) = dir_row parts
dir_row (Alone Uuid ∷ parts) = dir_row parts
dir_row (Alone Options ∷ parts) = dir_row parts
dir_row (With Force word ∷ parts) = dir_row parts
dir_row (With Label word ∷ parts) = dir_row parts
dir_row (With Uuid word ∷ parts) = dir_row parts
dir_row (With Options word ∷ parts) = dir_row parts
dir_row (Other word ∷ parts) = refl

-- the row of `-f`
pub force_row : (parts : List Part) → list_all is_sound parts ≡ true → found_row (codes "-f") (map row_for parts) ≡ cond (list_any (is_use Force) parts) (Some (row_for (Alone Force))) None
force_row [] are = refl
force_row (Alone Force ∷ parts) are = refl
force_row (Alone Label ∷ parts) are = absurd (cc are)
force_row (Alone Uuid ∷ parts) are = absurd (cc are)
force_row (Alone Options ∷ parts) are = absurd (cc are)
force_row (With Force word ∷ parts) are = absurd (cc are)
force_row (With Label word ∷ parts) are = force_row parts are
force_row (With Uuid word ∷ parts) are = force_row parts are
force_row (With Options word ∷ parts) are = force_row parts are
force_row (Other word ∷ parts) are = force_row parts are

-- the value of an option that takes one
pub value_row : (flag : Flag) → takes_value flag ≡ true → (parts : List Part) → list_all is_sound parts ≡ true → first_of (word_of flag) (map row_for parts) ≡ value_of flag parts
value_row flag takes [] are = refl
value_row flag takes (Alone used ∷ parts) are = passed used flag takes (and_parts (is_sound (Alone used)) (list_all is_sound parts) are).0
    (value_row flag takes parts (and_parts (is_sound (Alone used)) (list_all is_sound parts) are).1)
  where
    passed : (u f : Flag) → takes_value f ≡ true → not (takes_value u) ≡ true → first_of (word_of f) (map row_for parts) ≡ value_of f parts → first_of (word_of f) (map row_for (Alone u ∷ parts)) ≡ value_of f (Alone u ∷ parts)
    passed Force Force takes alone rest = absurd (cc takes)
    passed Force Label takes alone rest = rest
    passed Force Uuid takes alone rest = rest
    passed Force Options takes alone rest = rest
    passed Label f takes alone rest = absurd (cc alone)
    passed Uuid f takes alone rest = absurd (cc alone)
    passed Options f takes alone rest = absurd (cc alone)
value_row flag takes (With used word ∷ parts) are = go (bytes_eq (word_of used) (word_of flag)) (value_row flag takes parts (and_parts (is_sound (With used word)) (list_all is_sound parts) are).1)
  where
    go : (b : Bool) → first_of (word_of flag) (map row_for parts) ≡ value_of flag parts
        → option_and_then (λ (r : Row). slice_get r.values 0) (cond b (Some (row_for (With used word))) (found_row (word_of flag) (map row_for parts)))
        ≡ slice_get (cons_option (cond b (Some word) None) (filter_map (value_by flag) parts)) 0
    go true rest = refl
    go false rest = rest
value_row flag takes (Other word ∷ parts) are = passed flag (value_row flag takes parts are)
  where
    passed : (f : Flag) → first_of (word_of f) (map row_for parts) ≡ value_of f parts → first_of (word_of f) (map row_for (Other word ∷ parts)) ≡ value_of f (Other word ∷ parts)
    passed Force rest = rest
    passed Label rest = rest
    passed Uuid rest = rest
    passed Options rest = rest
