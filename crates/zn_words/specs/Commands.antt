-- What the words of a command line ask for. (own)
use Rattle.std.specs.Prelude.{ℕ, ◌&&◌, ◌||◌, Bool, true, false, nat_le, List, [], ◌∷◌, length, option_and_then, option_map, if◌then◌else◌, Option, Some, None, Result, Ok, Err, codes}
use Rattle.std.specs.List.{list_all}
use Rattle.std.specs.Str.{bytes_eq}
use Rattle.uuid.specs.Text.{parsed}
use Rattle.zn_model.specs.SuperBlock.{is_label}
use Rattle.zn_model.specs.Options.{format_options}
use Rattle.zn_model.specs.declared.answers.OptError.{OptError}
use Rattle.zn_model.specs.declared.files.FormatOpts.{FormatOpts}
use Rattle.zn_lines.specs.declared.words.Scratch.{Scratch as ScratchWords}
use Rattle.zn_lines.specs.Scratch.{command_of as scratch_in}
use Rattle.zn_stand.specs.declared.numbers.Geometry.{Geometry}
use Rattle.zn_keys.specs.Keys.{◌>>=◌, geometry_asked}
use Rattle.zn_words.specs.Churning.{churn_of}
use Rattle.zn_words.specs.Parts.{Given, given_in, is_value}
use Rattle.zn_words.specs.declared.churning.Churn.{Churn as ChurnWords}
use Rattle.zn_words.specs.declared.commands.TheConstants.{MOST_OPTIONS}
use Rattle.zn_words.specs.declared.flags.Flag.{Flag}
use Rattle.zn_words.specs.declared.flags.Flag.TheVariants.{Force, Label, Uuid, Options}

-- what a format is asked for
pub record Format : Type 0 where
  pub force : Bool
  pub label : List ℕ
  pub uuid : Option (List ℕ)
  pub opts : FormatOpts

-- what is asked for; the first text of a command is the directory that it works on, and one without a text has none
pub data Command : Type 0 where
  -- a script is run on a new device in memory
  Scratch : ScratchWords → Command
  -- the lines of a script are made from a seed
  Churn : ChurnWords → Command
  -- a device is made in an empty directory
  Add : List ℕ → Geometry → Command
  -- the device in a directory is formatted
  Mkfs : List ℕ → Format → Command
  -- a script is run on the device in a directory, which is mounted first where options are given
  Running : List ℕ → Option (List ℕ) → Command

-- ---- `add DIR KEY=VALUE..`

-- a directory and keys, which must ask for a device
abbrev pub add_by : List (List ℕ) → Option Command
add_by [] = None
add_by (dir ∷ keys) = option_map (Add dir) (geometry_asked keys)

-- a directory and one key or more, none of them empty, and none that begins as an option does
abbrev pub are_dir_and_keys : List (List ℕ) → Bool
are_dir_and_keys words = nat_le 2 (length words) && list_all is_value words

-- the words behind `add`
abbrev pub add_of : List (List ℕ) → Option Command
add_of words = if are_dir_and_keys words then add_by words else None

-- ---- `mkfs DIR [-f] [-L LABEL] [-U UUID] [-o FEATURES]`

-- its options
abbrev pub mkfs_flags : List Flag
mkfs_flags = Force ∷ Label ∷ Uuid ∷ Options ∷ []

-- the label that a word is; without one, the empty label
abbrev pub label_in : Option (List ℕ) → Option (List ℕ)
label_in None = Some []
label_in (Some word) = if is_label word then Some word else None

-- the identifier that a word is; there may be none, but not one that can't be read
abbrev pub uuid_in : Option (List ℕ) → Option (Option (List ℕ))
uuid_in None = Some None
uuid_in (Some word) = option_map Some (parsed word)

-- what was answered without an error
abbrev pub accepted : Result FormatOpts OptError → Option FormatOpts
accepted (Ok opts) = Some opts
accepted (Err error) = None

-- the features that a word asks for; without one, those of a format that is told nothing
abbrev pub features_in : Option (List ℕ) → Option FormatOpts
features_in None = accepted (format_options [])
features_in (Some word) = accepted (format_options word)

-- what a format is asked for by these words, if each of them can be read
abbrev pub format_by : Bool → Option (List ℕ) → Option (List ℕ) → Option (List ℕ) → Option Format
format_by force label uuid features = do
  label ← label_in label
  uuid ← uuid_in uuid
  opts ← features_in features
  Some (record { force = force; label = label; uuid = uuid; opts = opts })

-- a format, by what its words give
abbrev pub mkfs_by : Given → Option Command
mkfs_by given = option_map (Mkfs given.dir) (format_by given.force given.label given.uuid given.options)

-- the words behind `mkfs`
abbrev pub mkfs_of : List (List ℕ) → Option Command
mkfs_of words = option_and_then mkfs_by (given_in mkfs_flags words)

-- ---- `run DIR [-o OPTIONS]`

-- its options
abbrev pub run_flags : List Flag
run_flags = Options ∷ []

-- a byte from `!` (0x21) to `~` (0x7E)
abbrev pub is_visible : ℕ → Bool
is_visible byte = nat_le 0x21 byte && nat_le byte 0x7E

-- a word that may be the options of a mount
abbrev pub are_options : List ℕ → Bool
are_options word = nat_le (length word) MOST_OPTIONS && list_all is_visible word

-- the same, where options are given
abbrev pub are_options_or_none : Option (List ℕ) → Bool
are_options_or_none None = true
are_options_or_none (Some word) = are_options word

-- a run, by what its words give
abbrev pub run_by : Given → Option Command
run_by given = if are_options_or_none given.options then Some (Running given.dir given.options) else None

-- the words behind `run`
abbrev pub run_of : List (List ℕ) → Option Command
run_of words = option_and_then run_by (given_in run_flags words)

-- ---- all commands

-- a device in memory, if one is asked for
abbrev pub in_memory : Option ScratchWords → Option Command
in_memory asked = option_map Scratch asked

-- the lines of a script, if they are asked for
abbrev pub from_seed : Option ChurnWords → Option Command
from_seed asked = option_map Churn asked

-- The command that words are: the first word names it.
unfoldable pub command_of : List (List ℕ) → Option Command
command_of [] = None
command_of (name ∷ words) =
    if bytes_eq name (codes "add") then add_of words else
    if bytes_eq name (codes "mkfs") then mkfs_of words else
    if bytes_eq name (codes "run") then run_of words else
    if bytes_eq name (codes "churn") then from_seed (churn_of words) else
    in_memory (scratch_in (name ∷ words))

-- the directory that a command works on
abbrev pub dir_in : Command → Option (List ℕ)
dir_in (Scratch s) = None
dir_in (Churn c) = None
dir_in (Add dir geo) = Some dir
dir_in (Mkfs dir format) = Some dir
dir_in (Running dir options) = Some dir

-- whether the first word names a command that works on no directory
abbrev pub is_in_memory : List (List ℕ) → Bool
is_in_memory [] = false
is_in_memory (name ∷ words) = bytes_eq name (codes "scratch") || bytes_eq name (codes "churn")

-- the directory that words name, where they are a command on one
abbrev pub dir_asked : List (List ℕ) → Option (List ℕ)
dir_asked words = option_and_then dir_in (command_of words)
