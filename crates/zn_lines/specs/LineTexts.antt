-- The texts of a line, and which lines a script can have. (own)
use Rattle.std.specs.Prelude.{◌≡◌, ℕ, ◌<◌, ◌≤◌, ◌==◌, Bool, List, [], ◌∷◌, ◌++◌, map, length, IfSome, Option, Some, None, codes, if◌then◌else◌}
use Rattle.std.specs.List.{All, join_with_byte}
use Rattle.std.specs.List.Sorted.{IsPermutation}
use Rattle.std.specs.Option.{option_map, option_to_list}
use Rattle.std.specs.Fmt.{decimal}
use Rattle.zn_lines.specs.declared.limits.TheConstants.{LAST_NUMBER}
use Rattle.zn_truth.specs.declared.Cond.{Cond}
use Rattle.zn_truth.specs.declared.Cond.TheVariants.{Good, ReadOnly, Offline}
use Rattle.zn_truth.specs.declared.ZoneNo.{ZoneNo}
use Rattle.zn_truth.specs.declared.limits.TheConstants.{MAX_CUTS}
use Rattle.zn_model.specs.declared.limits.TheConstants.{MOST_BYTES}
use Rattle.zn_model.specs.declared.handles.Mode.{Mode}
use Rattle.zn_base.specs.Runs.{Run, hex, runs_text}
use Rattle.zn_base.specs.Texts.{◌⧺◌}
use Rattle.zn_lines.specs.declared.words.Change.{Change}
use Rattle.zn_lines.specs.declared.words.Change.TheVariants.{Create, Remove, Rename, Chmod, Chown}
use Rattle.zn_lines.specs.declared.words.Verb.TheVariants.{Mkfs as Formatting, Mount as Mounting, Umount as Unmounting, Open, Close, Size, Read, Write, Truncate, Sync, Stat, List as Listing, Attr, Create as Creating, Remove as Removing, Rename as Renaming, Chmod as ChangingMode, Chown as ChangingOwner, Fault, Turn, Submit, Complete as Completing, Reap as Reaping, Zones as ReportingZones, PowerLoss as LosingPower, PowerLossIn as LosingPowerIn, PowerOn as PoweringOn}
use Rattle.zn_lines.specs.Lines.{bytes_of, FormatItem, Force, Label, Uuid, Features, items_of, Line, Mkfs, Mount, Umount, OpenFile, CloseFile, SizeOf, ReadFrom, WriteTo, TruncateTo, SyncFile, SubmitTo, Complete, Reap, StatOf, ListOf, Attributes, Changes, Zones, FaultOn, TurnTo, PowerLoss, PowerLossIn, PowerOn}
use Rattle.zn_lines.specs.Grammar.{last_offset, last_zone, last_u32, mode_name, kind_name, worse_name, uid_key, gid_key, who_named, done_word, fill_key, force_word, label_key, uuid_key, features_key, verb_name}

-- ---- words

-- to read, to write, or both
abbrev pub IsMode : Mode → Type 0
IsMode mode = (1 ≤ mode.0) × (mode.0 ≤ 3)

-- one or more bytes, all of them printable
abbrev pub IsPath : List ℕ → Type 0
IsPath path = (0 < length path) × All (λ byte. (0x21 ≤ byte) × (byte ≤ 0x7E)) path

-- one or more runs of bytes, together not too many
abbrev pub IsData : List Run → Type 0
IsData runs = (0 < length runs) × All (λ run. run.byte < 256) runs × (length (bytes_of runs) ≤ MOST_BYTES)

-- a zone and a number of blocks that a line can name
abbrev pub IsCut : ZoneNo × ℕ → Type 0
IsCut cut = (cut.0.0 ≤ last_zone) × (cut.1 ≤ last_u32)

-- cuts that a line can name, and not too many
abbrev pub AreCuts : List (ZoneNo × ℕ) → Type 0
AreCuts cuts = All IsCut cuts × (length cuts ≤ MAX_CUTS)

-- a zone turns to read-only or offline, never to good
abbrev pub IsWorse : Cond → Type 0
IsWorse Good = ⊥
IsWorse ReadOnly = Unit {0}
IsWorse Offline = Unit {0}

-- ---- items of a format, and users

-- the word of an item
abbrev pub item_word : FormatItem → List ℕ
item_word Force = force_word
item_word (Label text) = label_key ⧺ text
item_word (Uuid text) = uuid_key ⧺ text
item_word (Features text) = features_key ⧺ text

-- the text of an item is one or more printable bytes
abbrev pub IsItem : FormatItem → Type 0
IsItem Force = Unit {0}
IsItem (Label text) = IsPath text
IsItem (Uuid text) = IsPath text
IsItem (Features text) = IsPath text

-- a user or a group: its key and a number, or left out
abbrev pub user_words : List ℕ → Option ℕ → List (List ℕ)
user_words key None = []
user_words key (Some n) = (key ⧺ decimal n) ∷ []

-- a user and a group, each a word or left out
abbrev pub who_words : Option ℕ → Option ℕ → List (List ℕ)
who_words uid gid = user_words uid_key uid ++ user_words gid_key gid

-- a number, left out where it is 0
abbrev pub unless_zero : ℕ → Option ℕ
unless_zero n = if n == 0 then None else Some n

-- ---- losses of power

-- a byte that is filled in: its key and two digits, or left out
abbrev pub fill_words : Option ℕ → List (List ℕ)
fill_words None = []
fill_words (Some byte) = (fill_key ⧺ hex byte) ∷ []

-- `done`, or left out
abbrev pub done_words : Bool → List (List ℕ)
done_words carried_out = if carried_out then done_word ∷ [] else []

-- a zone and the blocks that it is cut to, parted by a colon
abbrev pub cut_word : ZoneNo × ℕ → List ℕ
cut_word cut = decimal cut.0.0 ⧺ codes ":" ⧺ decimal cut.1

-- a byte that is filled in, and then the cuts
abbrev pub loss_words : Option ℕ → List (ZoneNo × ℕ) → List (List ℕ)
loss_words fill cuts = fill_words fill ++ map cut_word cuts

-- ---- lines

-- The plain words of a line that keeps them: as few as may be, and the items of a format in the order of `items_of`.
unfoldable pub line_words : Line → List (List ℕ)
line_words (Mkfs words) = verb_name Formatting ∷ map item_word (items_of words)
line_words (Mount text) = verb_name Mounting ∷ option_to_list text
line_words Umount = verb_name Unmounting ∷ []
line_words (OpenFile number path mode who) =
    verb_name Open ∷ decimal number ∷ path ∷ mode_name mode ∷ who_words (unless_zero who.uid) (unless_zero who.gid)
line_words (CloseFile number) = verb_name Close ∷ decimal number ∷ []
line_words (SizeOf number) = verb_name Size ∷ decimal number ∷ []
line_words (ReadFrom number offset len) = verb_name Read ∷ decimal number ∷ decimal offset ∷ decimal len ∷ []
line_words (WriteTo number offset runs) = verb_name Write ∷ decimal number ∷ decimal offset ∷ runs_text runs ∷ []
line_words (TruncateTo number size) = verb_name Truncate ∷ decimal number ∷ decimal size ∷ []
line_words (SyncFile number) = verb_name Sync ∷ decimal number ∷ []
line_words (SubmitTo number offset runs) = verb_name Submit ∷ decimal number ∷ decimal offset ∷ runs_text runs ∷ []
line_words Complete = verb_name Completing ∷ []
line_words Reap = verb_name Reaping ∷ []
line_words (StatOf path) = verb_name Stat ∷ path ∷ []
line_words (ListOf path) = verb_name Listing ∷ path ∷ []
line_words Attributes = verb_name Attr ∷ []
line_words Zones = verb_name ReportingZones ∷ []
line_words (FaultOn zone command keep) =
    verb_name Fault ∷ decimal zone ∷ kind_name command ∷ option_to_list (option_map decimal keep)
line_words (TurnTo zone to) = verb_name Turn ∷ decimal zone ∷ worse_name to ∷ []
line_words (PowerLoss fill cuts) = verb_name LosingPower ∷ loss_words fill cuts
line_words (PowerLossIn zone command carried_out fill cuts) =
    verb_name LosingPowerIn ∷ decimal zone ∷ kind_name command ∷ (done_words carried_out ++ loss_words fill cuts)
line_words PowerOn = verb_name PoweringOn ∷ []
-- a change doesn't keep its words
line_words (Changes change) = []

-- What a line that keeps its words names is within the limits.
unfoldable pub IsReadable : Line → Type 0
IsReadable (Mkfs words) = All IsItem (items_of words)
IsReadable (Mount text) = IfSome text IsPath
IsReadable Umount = Unit {0}
IsReadable (OpenFile number path mode who) =
    (number ≤ LAST_NUMBER) × IsPath path × IsMode mode × (who.uid ≤ last_u32) × (who.gid ≤ last_u32)
IsReadable (CloseFile number) = number ≤ LAST_NUMBER
IsReadable (SizeOf number) = number ≤ LAST_NUMBER
IsReadable (ReadFrom number offset len) = (number ≤ LAST_NUMBER) × (offset ≤ last_offset) × (len ≤ MOST_BYTES)
IsReadable (WriteTo number offset runs) = (number ≤ LAST_NUMBER) × (offset ≤ last_offset) × IsData runs
IsReadable (TruncateTo number size) = (number ≤ LAST_NUMBER) × (size ≤ last_offset)
IsReadable (SyncFile number) = number ≤ LAST_NUMBER
IsReadable (SubmitTo number offset runs) = (number ≤ LAST_NUMBER) × (offset ≤ last_offset) × IsData runs
IsReadable Complete = Unit {0}
IsReadable Reap = Unit {0}
IsReadable (StatOf path) = IsPath path
IsReadable (ListOf path) = IsPath path
IsReadable Attributes = Unit {0}
IsReadable Zones = Unit {0}
IsReadable (FaultOn zone command keep) = (zone ≤ last_zone) × IfSome keep (λ blocks. blocks ≤ last_u32)
IsReadable (TurnTo zone to) = (zone ≤ last_zone) × IsWorse to
IsReadable (PowerLoss fill cuts) = IfSome fill (λ byte. byte < 256) × AreCuts cuts
IsReadable (PowerLossIn zone command carried_out fill cuts) = (zone ≤ last_zone) × IfSome fill (λ byte. byte < 256) × AreCuts cuts
IsReadable PowerOn = Unit {0}
IsReadable (Changes change) = ⊥

-- The words of a change, of which the line keeps only the kind, since none is allowed.
unfoldable pub IsChange : Change → List (List ℕ) → Type 0
IsChange Create words = (path : List ℕ) × IsPath path × (words ≡ verb_name Creating ∷ path ∷ [])
IsChange Remove words = (path : List ℕ) × IsPath path × (words ≡ verb_name Removing ∷ path ∷ [])
IsChange Rename words = (from : List ℕ) × (to : List ℕ) × IsPath from × IsPath to × (words ≡ verb_name Renaming ∷ from ∷ to ∷ [])
IsChange Chmod words = (path : List ℕ) × (mode : ℕ) × IsPath path × (mode ≤ last_u32) × (words ≡ verb_name ChangingMode ∷ path ∷ decimal mode ∷ [])
IsChange Chown words =
    (path : List ℕ) × (uid : ℕ) × (gid : ℕ) × IsPath path × (uid ≤ last_u32) × (gid ≤ last_u32) × (words ≡ verb_name ChangingOwner ∷ path ∷ decimal uid ∷ decimal gid ∷ [])

-- Words of a line that keeps them: the only ones, but the items of a format may stand in any order, and a user or a
-- group that is 0 may be left out or not.
unfoldable pub AreWords : List (List ℕ) → Line → Type 0
AreWords words (Mkfs asked) =
    (items : List FormatItem) × IsPermutation (items_of asked) items
    × (words ≡ verb_name Formatting ∷ map item_word items)
AreWords words (OpenFile number path mode who) =
    (uid : Option ℕ) × (gid : Option ℕ) × (who ≡ who_named uid gid)
    × (words ≡ verb_name Open ∷ decimal number ∷ path ∷ mode_name mode ∷ who_words uid gid)
AreWords words line = words ≡ line_words line

-- words, parted by single blanks
abbrev pub spaced : List (List ℕ) → List ℕ
spaced words = join_with_byte 32 words

-- the plain text of a line that keeps its words
abbrev pub line_text : Line → List ℕ
line_text line = spaced (line_words line)

-- The bytes are a text of the line: words of it, or for a change any of its form, parted by single blanks.
unfoldable pub IsText : List ℕ → Line → Type 0
IsText bytes (Changes change) = (words : List (List ℕ)) × IsChange change words × (bytes ≡ spaced words)
IsText bytes line = (words : List (List ℕ)) × AreWords words line × IsReadable line × (bytes ≡ spaced words)
