-- Whether words ask for a format, by the values of their options alone.
use Rattle.std.proofs.Common.{◌≡◌, ◌∙◌, ℕ, Bool, true, false, List, [], ◌∷◌, Option, Some, None, is_some, option_map, if◌then◌else◌, refl, ap, sym}
use Rattle.std.specs.Prelude.{option_and_then}
use Rattle.zn_model.specs.declared.files.FormatOpts.{FormatOpts}
use Rattle.zn_keys.specs.Keys.{◌>>=◌}
use Rattle.zn_words.specs.Commands.{Format, Mkfs, format_by, label_in, uuid_in, features_in, mkfs_by, mkfs_flags, mkfs_of}
use Rattle.zn_words.specs.Parts.{Part, given_by, given_in, has_form, others_in, parts_of, value_of}
use Rattle.zn_words.specs.declared.flags.Flag.TheVariants.{Label, Uuid, Options}

-- what is mapped is there as before
pub is_some-mapped : {X Y : Type 0} (f : X → Y) (o : Option X) → is_some (option_map f o) ≡ is_some o
is_some-mapped f None = refl
is_some-mapped f (Some x) = refl

-- what isn't there is none
pub not_some : {X : Type 0} (o : Option X) → is_some o ≡ false → o ≡ None
not_some None is = refl
not_some (Some x) is = absurd (cc is)

-- a format of these values
abbrev made : Bool → List ℕ → Option (List ℕ) → FormatOpts → Option Format
made force label uuid opts = Some (record { force = force; label = label; uuid = uuid; opts = opts })

-- what is read of a format decides whether it is one
read : (force : Bool) (label : Option (List ℕ)) (uuid : Option (Option (List ℕ))) (opts : Option FormatOpts)
    → is_some (label >>= λ l. uuid >>= λ u. opts >>= λ o. made force l u o)
    ≡ is_some (label >>= λ l. uuid >>= λ u. opts >>= λ o. made false l u o)
read force None uuid opts = refl
read force (Some l) None opts = refl
read force (Some l) (Some u) None = refl
read force (Some l) (Some u) (Some o) = refl

unforced : (force : Bool) (label uuid features : Option (List ℕ)) → is_some (format_by force label uuid features) ≡ is_some (format_by false label uuid features)
unforced force label uuid features = read force (label_in label) (uuid_in uuid) (features_in features)

by_values : (parts : List Part) (form : Bool) (others : List (List ℕ)) → is_some (if form then given_by others parts else None) ≡ true
    → is_some (option_and_then mkfs_by (if form then given_by others parts else None)) ≡ is_some (format_by false (value_of Label parts) (value_of Uuid parts) (value_of Options parts))
by_values parts true [] is = absurd (cc is)
by_values parts true (dir ∷ []) is =
    is_some-mapped (Mkfs dir) (format_by _ (value_of Label parts) (value_of Uuid parts) (value_of Options parts))
    ∙ unforced _ (value_of Label parts) (value_of Uuid parts) (value_of Options parts)
by_values parts true (dir ∷ more ∷ words) is = absurd (cc is)
by_values parts false others is = absurd (cc is)

-- words of the form are a format exactly where their values are
pub format_by_values : (words : List (List ℕ)) (label uuid features : Option (List ℕ)) (format : Option Format) → is_some (given_in mkfs_flags words) ≡ true
    → label ≡ value_of Label (parts_of mkfs_flags words) → uuid ≡ value_of Uuid (parts_of mkfs_flags words) → features ≡ value_of Options (parts_of mkfs_flags words)
    → format ≡ format_by false label uuid features → is_some (mkfs_of words) ≡ is_some format
format_by_values words label uuid features format given is_label is_uuid is_features is =
    let parts = parts_of mkfs_flags words in
    by_values parts (has_form mkfs_flags parts) (others_in parts) given
    ∙ sym (ap is_some is ∙ ap (λ (x : Option (List ℕ)). is_some (format_by false x uuid features)) is_label
    ∙ ap (λ (x : Option (List ℕ)). is_some (format_by false (value_of Label parts) x features)) is_uuid
    ∙ ap (λ (x : Option (List ℕ)). is_some (format_by false (value_of Label parts) (value_of Uuid parts) x)) is_features)
