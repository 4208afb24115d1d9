-- The words behind a command's name: its options, their values, and other words. (own)
use Rattle.std.specs.Prelude.{ℕ, ◌==◌, ◌&&◌, Bool, true, false, not, nat_le, List, [], ◌∷◌, find, count_by, slice_get, if◌then◌else◌, Option, Some, None, codes}
use Rattle.std.specs.List.{filter_map, list_all, list_any}
use Rattle.std.specs.Str.{bytes_eq}
use Rattle.zn_words.specs.declared.flags.Flag.{Flag}
use Rattle.zn_words.specs.declared.flags.Flag.TheVariants.{Force, Label, Uuid, Options}

-- ---- options

-- how an option is spelled
abbrev pub word_of : Flag → List ℕ
word_of Force = codes "-f"
word_of Label = codes "-L"
word_of Uuid = codes "-U"
word_of Options = codes "-o"

-- whether an option takes the next word as its value
abbrev pub takes_value : Flag → Bool
takes_value Force = false
takes_value Label = true
takes_value Uuid = true
takes_value Options = true

-- the option that a word is, of those that a command has; it must be spelled exactly so
abbrev pub flag_of : List Flag → List ℕ → Option Flag
flag_of flags word = find (λ flag. bytes_eq (word_of flag) word) flags

-- ---- parts

-- an option alone, an option with its value, or another word
pub data Part : Type 0 where
  Alone : Flag → Part
  With : Flag → List ℕ → Part
  Other : List ℕ → Part

-- What a word begins, where the parts of the words behind it depend on the option that waits for its value.
abbrev pub begun : Option Flag → List ℕ → (Option Flag → List Part) → List Part
begun None word rest = Other word ∷ rest None
begun (Some flag) word rest = elim (takes_value flag) [ true ↦ rest (Some flag) | false ↦ Alone flag ∷ rest None ]

-- The parts of words, read from left to right, behind an option that waits for its value or none. An option behind
-- which the words end has an empty value.
abbrev pub parts_from : List Flag → List (List ℕ) → Option Flag → List Part
parts_from flags [] None = []
parts_from flags [] (Some flag) = With flag [] ∷ []
parts_from flags (word ∷ words) None = begun (flag_of flags word) word (parts_from flags words)
parts_from flags (word ∷ words) (Some flag) = With flag word ∷ parts_from flags words None

-- the parts of all the words
abbrev pub parts_of : List Flag → List (List ℕ) → List Part
parts_of flags words = parts_from flags words None

-- ---- the form

-- A word is a value where it isn't empty and doesn't begin with `-` (45).
abbrev pub is_value : List ℕ → Bool
is_value [] = false
is_value (byte ∷ word) = not (byte == 45)

-- only an option may be another word than a value
abbrev pub is_fit : Part → Bool
is_fit (Alone flag) = true
is_fit (With flag value) = is_value value
is_fit (Other word) = is_value word

-- whether a part is this option
abbrev pub is_use : Flag → Part → Bool
is_use flag (Alone used) = bytes_eq (word_of used) (word_of flag)
is_use flag (With used value) = bytes_eq (word_of used) (word_of flag)
is_use flag (Other word) = false

-- how often an option stands
abbrev pub uses : Flag → List Part → ℕ
uses flag parts = count_by (is_use flag) parts

-- No word but an option is empty or begins with `-`, and each option stands at most once.
abbrev pub has_form : List Flag → List Part → Bool
has_form flags parts = list_all is_fit parts && list_all (λ flag. nat_le (uses flag parts) 1) flags

-- ---- what the parts give

-- a word that is neither an option nor its value
abbrev pub other_of : Part → Option (List ℕ)
other_of (Alone flag) = None
other_of (With flag value) = None
other_of (Other word) = Some word

-- those words in order
abbrev pub others_in : List Part → List (List ℕ)
others_in parts = filter_map other_of parts

-- the value, where the part is this option
abbrev pub value_by : Flag → Part → Option (List ℕ)
value_by flag (Alone used) = None
value_by flag (With used value) = if bytes_eq (word_of used) (word_of flag) then Some value else None
value_by flag (Other word) = None

-- the value of an option, where it stands
abbrev pub value_of : Flag → List Part → Option (List ℕ)
value_of flag parts = slice_get (filter_map (value_by flag) parts) 0

-- ---- a directory and options

-- What such words give: the directory, whether `-f` stands, and the values of the other options.
pub record Given : Type 0 where
  pub dir : List ℕ
  pub force : Bool
  pub label : Option (List ℕ)
  pub uuid : Option (List ℕ)
  pub options : Option (List ℕ)

-- there must be one other word, which is the directory
abbrev pub given_by : List (List ℕ) → List Part → Option Given
given_by [] parts = None
given_by (dir ∷ []) parts = Some (record {
  dir = dir;
  force = list_any (is_use Force) parts;
  label = value_of Label parts;
  uuid = value_of Uuid parts;
  options = value_of Options parts;
})
given_by (dir ∷ more ∷ words) parts = None

-- what parts of the form give
abbrev pub given_of : List Flag → List Part → Option Given
given_of flags parts = if has_form flags parts then given_by (others_in parts) parts else None

-- what words give: a directory, and any of a command's options
abbrev pub given_in : List Flag → List (List ℕ) → Option Given
given_in flags words = given_of flags (parts_of flags words)
