-- The lines of the grammar: each form is a list of words. (own)
use Rattle.std.specs.Prelude.{ℕ, ◌+◌, ◌-◌, ◌*◌, Bool, true, ◌&&◌, ◌||◌, ◌==◌, List, [], ◌∷◌, ◌++◌, length, take, drop, Option, Some, None, is_some, unwrap_or, option_and_then, Result, Ok, Err, codes, nat_le, nat_lt, if◌then◌else◌}
use Rattle.std.specs.List.{find, list_all, slice_split}
use Rattle.std.specs.Option.{option_map, option_or}
use Rattle.std.specs.Str.{bytes_eq}
use Rattle.zn_lines.specs.declared.limits.TheConstants.{LAST_NUMBER}
use Rattle.zn_model.specs.declared.limits.TheConstants.{MOST_BYTES}
use Rattle.zn_truth.specs.declared.Command.{Command}
use Rattle.zn_truth.specs.declared.Command.TheVariants.{Read as Reading, Write as Writing, Reset as Resetting, Finish as Finishing, Flush as Flushing, Open as Opening, Close as Closing, Report as Reporting}
use Rattle.zn_truth.specs.declared.Cond.{Cond}
use Rattle.zn_truth.specs.declared.Cond.TheVariants.{Good, ReadOnly, Offline}
use Rattle.zn_truth.specs.declared.ZoneNo.{ZoneNo}
use Rattle.zn_truth.specs.declared.limits.TheConstants.{MAX_CUTS}
use Rattle.zn_base.specs.Decimals.{number_in}
use Rattle.zn_base.specs.Runs.{Run}
use Rattle.zn_base.specs.Texts.{◌⧺◌}
use Rattle.zn_model.specs.declared.handles.Mode.{Mode}
use Rattle.zn_model.specs.declared.handles.Who.{Who}
use Rattle.zn_model.specs.Access.{reads, writes}
use Rattle.zn_lines.specs.declared.words.Change.{Change}
use Rattle.zn_lines.specs.declared.words.Change.TheVariants.{Create, Remove, Rename, Chmod, Chown}
use Rattle.zn_lines.specs.declared.words.Verb.{Verb}
use Rattle.zn_lines.specs.declared.words.Verb.TheVariants.{Mkfs as Formatting, Mount as Mounting, Umount as Unmounting, Open, Close, Size, Read, Write, Truncate, Sync, Stat, List as Listing, Attr, Create as Creating, Remove as Removing, Rename as Renaming, Chmod as ChangingMode, Chown as ChangingOwner, Fault, Turn, Submit, Complete as Completing, Reap as Reaping, Zones as ReportingZones, PowerLoss as LosingPower, PowerLossIn as LosingPowerIn, PowerOn as PoweringOn}
use Rattle.zn_lines.specs.Lines.{FormatWords, FormatItem, Force, Label, Uuid, Features, plain_format, Line, Mkfs, Mount, Umount, OpenFile, CloseFile, SizeOf, ReadFrom, WriteTo, TruncateTo, SyncFile, SubmitTo, Complete, Reap, StatOf, ListOf, Attributes, Changes, Zones, FaultOn, TurnTo, PowerLoss, PowerLossIn, PowerOn}
use Rattle.zn_lines.specs.Words.{Left, ◌>>=◌, next, optional, no_more, words_of}

-- ---- limits

-- the greatest offset, and the greatest size: the greatest number of 64 bits
abbrev pub last_offset : ℕ
last_offset = 18446744073709551615

-- the greatest zone that a line can name, whether or not a device has it
abbrev pub last_zone : ℕ
last_zone = last_offset

-- the greatest mode, user, group, number of blocks that are kept and length that a zone is cut to: the greatest number of
-- 32 bits
abbrev pub last_u32 : ℕ
last_u32 = 4294967295

-- ---- data

-- a hexadecimal digit in lower case
abbrev pub is_hex : ℕ → Bool
is_hex b = (nat_le 48 b && nat_le b 57) || (nat_le 97 b && nat_le b 102)

-- what such a digit is worth
abbrev pub hex_worth : ℕ → ℕ
hex_worth b = if nat_le b 57 then b - 48 else b - 87

-- a run of the byte, where its count could be read
abbrev pub counted : ℕ → Option ℕ → Option Run
counted byte None = None
counted byte (Some count) = Some (record { byte = byte; count = count })

-- a part HH*C: two hexadecimal digits of a byte, and how often it stands
unfoldable pub part_of : List ℕ → Option Run
part_of [] = None
part_of (high ∷ []) = None
part_of (high ∷ low ∷ []) = None
part_of (high ∷ low ∷ star ∷ digits) =
    if is_hex high && is_hex low && (star == 42) then counted (hex_worth high * 16 + hex_worth low) (number_in MOST_BYTES digits) else None

-- the byte `+`, which joins parts
abbrev pub is_plus : ℕ → Bool
is_plus b = b == 43

-- one run before others
abbrev pub run_then : Run → Option (List Run) → Option (List Run)
run_then run None = None
run_then run (Some runs) = Some (run ∷ runs)

-- one more part behind some bytes: all counts together are limited
abbrev pub part_then : Option Run → ℕ → (ℕ → Option (List Run)) → Option (List Run)
part_then None total follows = None
part_then (Some run) total follows = if nat_le (total + run.count) MOST_BYTES then run_then run (follows (total + run.count)) else None

-- the runs of parts, behind so many bytes; none where a part is faulty or all counts together are too many
unfoldable pub parts_on : ℕ → List (List ℕ) → Option (List Run)
parts_on total [] = Some []
parts_on total (part ∷ parts) = part_then (part_of part) total (λ more. parts_on more parts)

-- DATA: one or more parts, joined by plus signs
unfoldable pub data_of : List ℕ → Option (List Run)
data_of word = parts_on 0 (slice_split is_plus word)

-- ---- paths, options and modes

-- an ASCII byte from `!` to `~`, so no blank
abbrev pub is_printable : ℕ → Bool
is_printable b = nat_le 0x21 b && nat_le b 0x7E

-- PATH and OPT: a word that isn't empty, of printable bytes
unfoldable pub path_of : List ℕ → Option (List ℕ)
path_of [] = None
path_of (b ∷ bytes) = if list_all is_printable (b ∷ bytes) then Some (b ∷ bytes) else None

-- r to read, w to write
abbrev pub mode_name : Mode → List ℕ
mode_name mode = (if reads mode then codes "r" else []) ⧺ (if writes mode then codes "w" else [])

-- for reading, for writing, and for both
abbrev pub all_modes : List Mode
all_modes = record { 0 = 1 } ∷ record { 0 = 2 } ∷ record { 0 = 3 } ∷ []

-- MODE: each by its word; any other word is none
unfoldable pub mode_in : List ℕ → Option Mode
mode_in word = find (λ mode. bytes_eq word (mode_name mode)) all_modes

-- ---- commands and conditions

-- the word of a kind of command
abbrev pub kind_name : Command → List ℕ
kind_name Reading = codes "read"
kind_name Writing = codes "write"
kind_name Resetting = codes "reset"
kind_name Finishing = codes "finish"
kind_name Flushing = codes "flush"
kind_name Opening = codes "open"
kind_name Closing = codes "close"
kind_name Reporting = codes "report"

-- all kinds of commands
abbrev pub all_kinds : List Command
all_kinds = Reading ∷ Writing ∷ Resetting ∷ Finishing ∷ Flushing ∷ Opening ∷ Closing ∷ Reporting ∷ []

-- KIND: each by its word; any other word is none
unfoldable pub kind_in : List ℕ → Option Command
kind_in word = find (λ command. bytes_eq word (kind_name command)) all_kinds

-- the word of a condition that a zone turns to; none turns to good, which has no word
abbrev pub worse_name : Cond → List ℕ
worse_name Good = []
worse_name ReadOnly = codes "ro"
worse_name Offline = codes "off"

-- the conditions that a zone turns to
abbrev pub worse_conds : List Cond
worse_conds = ReadOnly ∷ Offline ∷ []

-- ro and off: each by its word; any other word is none
unfoldable pub worse_in : List ℕ → Option Cond
worse_in word = find (λ to. bytes_eq word (worse_name to)) worse_conds

-- ---- words that begin with a key

-- what stands behind a key, where the word begins with it
unfoldable pub after_key : List ℕ → List ℕ → Option (List ℕ)
after_key key word = if bytes_eq (take (length key) word) key then Some (drop (length key) word) else None

-- a key, and an OPT behind it
abbrev pub text_after : List ℕ → List ℕ → Option (List ℕ)
text_after key word = option_and_then path_of (after_key key word)

-- a key, and a number of a user or a group behind it
abbrev pub user_after : List ℕ → List ℕ → Option ℕ
user_after key word = option_and_then (number_in last_u32) (after_key key word)

-- ---- users

-- the key of a user
abbrev pub uid_key : List ℕ
uid_key = codes "uid="

-- the key of a group
abbrev pub gid_key : List ℕ
gid_key = codes "gid="

-- who opens a file: a user or a group that is left out is 0
abbrev pub who_named : Option ℕ → Option ℕ → Who
who_named uid gid = record { uid = unwrap_or uid 0; gid = unwrap_or gid 0 }

-- the user and the group 0
abbrev pub root : Who
root = who_named None None

-- ---- losses of power

-- the word of a command that is carried out before the power goes
abbrev pub done_word : List ℕ
done_word = codes "done"

-- `done` by its word; any other word is none
unfoldable pub done_in : List ℕ → Option (Unit {0})
done_in word = if bytes_eq word done_word then Some tt else None

-- the key of a byte that is filled in
abbrev pub fill_key : List ℕ
fill_key = codes "fill="

-- HH: a byte as two hexadecimal digits
unfoldable pub byte_of : List ℕ → Option ℕ
byte_of [] = None
byte_of (high ∷ []) = None
byte_of (high ∷ low ∷ []) = if is_hex high && is_hex low then Some (hex_worth high * 16 + hex_worth low) else None
byte_of (high ∷ low ∷ more ∷ bytes) = None

-- the key of a fill, and a byte behind it
abbrev pub fill_of : List ℕ → Option ℕ
fill_of word = option_and_then byte_of (after_key fill_key word)

-- the byte `:`, which parts a zone and its length
abbrev pub is_colon : ℕ → Bool
is_colon b = b == 58

-- a zone and the blocks that it is cut to, where both numbers could be read
abbrev pub cut_by : Option ℕ → Option ℕ → Option (ZoneNo × ℕ)
cut_by None blocks = None
cut_by (Some zone) None = None
cut_by (Some zone) (Some blocks) = Some (record { 0 = zone }, blocks)

-- the numbers of a zone and of blocks, and no more
abbrev pub cut_in : List (List ℕ) → Option (ZoneNo × ℕ)
cut_in [] = None
cut_in (zone ∷ []) = None
cut_in (zone ∷ blocks ∷ []) = cut_by (number_in last_zone zone) (number_in last_u32 blocks)
cut_in (zone ∷ blocks ∷ more ∷ parts) = None

-- a cut NUM:U32; any other word is none
unfoldable pub cut_of : List ℕ → Option (ZoneNo × ℕ)
cut_of word = cut_in (slice_split is_colon word)

-- one cut more, unless there are 64
abbrev pub with_cut : List (ZoneNo × ℕ) → ZoneNo × ℕ → Option (List (ZoneNo × ℕ))
with_cut found cut = if nat_lt (length found) MAX_CUTS then Some (found ++ cut ∷ []) else None

-- a word as one cut more
abbrev pub cut_after : List (ZoneNo × ℕ) → List ℕ → Option (List (ZoneNo × ℕ))
cut_after found word = option_and_then (with_cut found) (cut_of word)

-- one cut more and then the others, or the column where its word does not fit
abbrev pub cut_then : Option (List (ZoneNo × ℕ)) → ℕ → (List (ZoneNo × ℕ) → Result (List (ZoneNo × ℕ)) ℕ) → Result (List (ZoneNo × ℕ)) ℕ
cut_then None column follows = Err column
cut_then (Some found) column follows = follows found

-- each word that is left is one cut more, of at most 64
unfoldable pub cuts_on : List (ZoneNo × ℕ) → ℕ → List (List ℕ) → Result (List (ZoneNo × ℕ)) ℕ
cuts_on found column [] = Ok found
cuts_on found column (word ∷ words) =
    cut_then (cut_after found word) column (λ more. cuts_on more (column + length word + 1) words)

-- ---- items of a format

-- the item without a text
abbrev pub force_word : List ℕ
force_word = codes "force"

-- the key of a label
abbrev pub label_key : List ℕ
label_key = codes "label="

-- the key of an identifier
abbrev pub uuid_key : List ℕ
uuid_key = codes "uuid="

-- the key of features
abbrev pub features_key : List ℕ
features_key = codes "features="

-- an item with a text: the first key that fits
unfoldable pub text_item_of : List ℕ → Option FormatItem
text_item_of word =
    option_or (option_map Label (text_after label_key word))
    (option_or (option_map Uuid (text_after uuid_key word)) (option_map Features (text_after features_key word)))

-- an item of a format; any other word is none
unfoldable pub item_of : List ℕ → Option FormatItem
item_of word = if bytes_eq word force_word then Some Force else text_item_of word

-- one item more, unless there is one of its kind
unfoldable pub with_item : FormatWords → FormatItem → Option FormatWords
with_item words Force = if words.force then None else Some (record words { force = true })
with_item words (Label text) = if is_some words.label then None else Some (record words { label = Some text })
with_item words (Uuid text) = if is_some words.uuid then None else Some (record words { uuid = Some text })
with_item words (Features text) = if is_some words.features then None else Some (record words { features = Some text })

-- a word as one item more
abbrev pub item_after : FormatWords → List ℕ → Option FormatWords
item_after found word = option_and_then (with_item found) (item_of word)

-- one item more and then the others, or the column where its word does not fit
abbrev pub item_then : Option FormatWords → ℕ → (FormatWords → Result FormatWords ℕ) → Result FormatWords ℕ
item_then None column follows = Err column
item_then (Some found) column follows = follows found

-- each word that is left is one item more
unfoldable pub items_on : FormatWords → ℕ → List (List ℕ) → Result FormatWords ℕ
items_on found column [] = Ok found
items_on found column (word ∷ words) =
    item_then (item_after found word) column (λ more. items_on more (column + length word + 1) words)

-- ---- lines

-- the word of a verb
abbrev pub verb_name : Verb → List ℕ
verb_name Formatting = codes "mkfs"
verb_name Mounting = codes "mount"
verb_name Unmounting = codes "umount"
verb_name Open = codes "open"
verb_name Close = codes "close"
verb_name Size = codes "size"
verb_name Read = codes "read"
verb_name Write = codes "write"
verb_name Truncate = codes "truncate"
verb_name Sync = codes "sync"
verb_name Stat = codes "stat"
verb_name Listing = codes "list"
verb_name Attr = codes "attr"
verb_name Creating = codes "create"
verb_name Removing = codes "remove"
verb_name Renaming = codes "rename"
verb_name ChangingMode = codes "chmod"
verb_name ChangingOwner = codes "chown"
verb_name Fault = codes "fault"
verb_name Turn = codes "turn"
verb_name Submit = codes "submit"
verb_name Completing = codes "complete"
verb_name Reaping = codes "reap"
verb_name ReportingZones = codes "zones"
verb_name LosingPower = codes "power-loss"
verb_name LosingPowerIn = codes "power-loss-in"
verb_name PoweringOn = codes "power-on"

-- all verbs
abbrev pub all_verbs : List Verb
all_verbs =
    Formatting ∷ Mounting ∷ Unmounting ∷ Open ∷ Close ∷ Size ∷ Read ∷ Write ∷ Truncate ∷ Sync ∷ Stat ∷ Listing ∷ Attr
    ∷ Creating ∷ Removing ∷ Renaming ∷ ChangingMode ∷ ChangingOwner ∷ Fault ∷ Turn
    ∷ Submit ∷ Completing ∷ Reaping ∷ ReportingZones ∷ LosingPower ∷ LosingPowerIn ∷ PoweringOn ∷ []

-- each verb by its word; any other word is none
unfoldable pub verb_of : List ℕ → Option Verb
verb_of word = find (λ verb. bytes_eq word (verb_name verb)) all_verbs

-- mkfs, and any of force, label=OPT, uuid=OPT and features=OPT
unfoldable pub mkfs_line : Left → Result Line ℕ
mkfs_line left = do
  words ← items_on plain_format left.column left.words
  Ok (Mkfs words)

-- mount, mount OPT
unfoldable pub mount_line : Left → Result Line ℕ
mount_line left = do
  text ← optional path_of left
  no_more (Mount text.0) text.1

-- umount
unfoldable pub umount_line : Left → Result Line ℕ
umount_line left = no_more Umount left

-- open N PATH MODE, and then optionally uid=U32, and then optionally gid=U32
unfoldable pub open_line : Left → Result Line ℕ
open_line left = do
  number ← next (number_in LAST_NUMBER) left
  path ← next path_of number.1
  mode ← next mode_in path.1
  uid ← optional (user_after uid_key) mode.1
  gid ← optional (user_after gid_key) uid.1
  no_more (OpenFile number.0 path.0 mode.0 (who_named uid.0 gid.0)) gid.1

-- close N
unfoldable pub close_line : Left → Result Line ℕ
close_line left = do
  number ← next (number_in LAST_NUMBER) left
  no_more (CloseFile number.0) number.1

-- size N
unfoldable pub size_line : Left → Result Line ℕ
size_line left = do
  number ← next (number_in LAST_NUMBER) left
  no_more (SizeOf number.0) number.1

-- read N NUM LEN
unfoldable pub read_line : Left → Result Line ℕ
read_line left = do
  number ← next (number_in LAST_NUMBER) left
  offset ← next (number_in last_offset) number.1
  len ← next (number_in MOST_BYTES) offset.1
  no_more (ReadFrom number.0 offset.0 len.0) len.1

-- write N NUM DATA
unfoldable pub write_line : Left → Result Line ℕ
write_line left = do
  number ← next (number_in LAST_NUMBER) left
  offset ← next (number_in last_offset) number.1
  runs ← next data_of offset.1
  no_more (WriteTo number.0 offset.0 runs.0) runs.1

-- truncate N NUM
unfoldable pub truncate_line : Left → Result Line ℕ
truncate_line left = do
  number ← next (number_in LAST_NUMBER) left
  size ← next (number_in last_offset) number.1
  no_more (TruncateTo number.0 size.0) size.1

-- sync N
unfoldable pub sync_line : Left → Result Line ℕ
sync_line left = do
  number ← next (number_in LAST_NUMBER) left
  no_more (SyncFile number.0) number.1

-- stat PATH
unfoldable pub stat_line : Left → Result Line ℕ
stat_line left = do
  path ← next path_of left
  no_more (StatOf path.0) path.1

-- list PATH
unfoldable pub list_line : Left → Result Line ℕ
list_line left = do
  path ← next path_of left
  no_more (ListOf path.0) path.1

-- attr
unfoldable pub attr_line : Left → Result Line ℕ
attr_line left = no_more Attributes left

-- create PATH, remove PATH
unfoldable pub path_change : Change → Left → Result Line ℕ
path_change change left = do
  path ← next path_of left
  no_more (Changes change) path.1

-- rename PATH PATH
unfoldable pub rename_line : Left → Result Line ℕ
rename_line left = do
  from ← next path_of left
  to ← next path_of from.1
  no_more (Changes Rename) to.1

-- chmod PATH U32
unfoldable pub chmod_line : Left → Result Line ℕ
chmod_line left = do
  path ← next path_of left
  mode ← next (number_in last_u32) path.1
  no_more (Changes Chmod) mode.1

-- chown PATH U32 U32
unfoldable pub chown_line : Left → Result Line ℕ
chown_line left = do
  path ← next path_of left
  uid ← next (number_in last_u32) path.1
  gid ← next (number_in last_u32) uid.1
  no_more (Changes Chown) gid.1

-- fault NUM KIND, and then optionally U32
unfoldable pub fault_line : Left → Result Line ℕ
fault_line left = do
  zone ← next (number_in last_zone) left
  command ← next kind_in zone.1
  keep ← optional (number_in last_u32) command.1
  no_more (FaultOn zone.0 command.0 keep.0) keep.1

-- turn NUM ro, turn NUM off
unfoldable pub turn_line : Left → Result Line ℕ
turn_line left = do
  zone ← next (number_in last_zone) left
  to ← next worse_in zone.1
  no_more (TurnTo zone.0 to.0) to.1

-- submit N NUM DATA
unfoldable pub submit_line : Left → Result Line ℕ
submit_line left = do
  number ← next (number_in LAST_NUMBER) left
  offset ← next (number_in last_offset) number.1
  runs ← next data_of offset.1
  no_more (SubmitTo number.0 offset.0 runs.0) runs.1

-- complete
unfoldable pub complete_line : Left → Result Line ℕ
complete_line left = no_more Complete left

-- reap
unfoldable pub reap_line : Left → Result Line ℕ
reap_line left = no_more Reap left

-- zones
unfoldable pub zones_line : Left → Result Line ℕ
zones_line left = no_more Zones left

-- power-loss, and then optionally fill=HH, and then up to 64 words NUM:U32
unfoldable pub power_loss_line : Left → Result Line ℕ
power_loss_line left = do
  fill ← optional fill_of left
  cuts ← cuts_on [] fill.1.column fill.1.words
  Ok (PowerLoss fill.0 cuts)

-- power-loss-in NUM KIND, and then optionally done, and then optionally fill=HH, and then up to 64 words NUM:U32
unfoldable pub power_loss_in_line : Left → Result Line ℕ
power_loss_in_line left = do
  zone ← next (number_in last_zone) left
  command ← next kind_in zone.1
  carried_out ← optional done_in command.1
  fill ← optional fill_of carried_out.1
  cuts ← cuts_on [] fill.1.column fill.1.words
  Ok (PowerLossIn zone.0 command.0 (is_some carried_out.0) fill.0 cuts)

-- power-on
unfoldable pub power_on_line : Left → Result Line ℕ
power_on_line left = no_more PowerOn left

-- what stands behind a verb is read by the form of that verb
abbrev pub line_with : Verb → Left → Result Line ℕ
line_with Formatting left = mkfs_line left
line_with Mounting left = mount_line left
line_with Unmounting left = umount_line left
line_with Open left = open_line left
line_with Close left = close_line left
line_with Size left = size_line left
line_with Read left = read_line left
line_with Write left = write_line left
line_with Truncate left = truncate_line left
line_with Sync left = sync_line left
line_with Stat left = stat_line left
line_with Listing left = list_line left
line_with Attr left = attr_line left
line_with Creating left = path_change Create left
line_with Removing left = path_change Remove left
line_with Renaming left = rename_line left
line_with ChangingMode left = chmod_line left
line_with ChangingOwner left = chown_line left
line_with Fault left = fault_line left
line_with Turn left = turn_line left
line_with Submit left = submit_line left
line_with Completing left = complete_line left
line_with Reaping left = reap_line left
line_with ReportingZones left = zones_line left
line_with LosingPower left = power_loss_line left
line_with LosingPowerIn left = power_loss_in_line left
line_with PoweringOn left = power_on_line left

-- the line that words are, or the column of the first word that does not fit
unfoldable pub line_of : List ℕ → Result Line ℕ
line_of bytes = do
  verb ← next verb_of (words_of bytes)
  line_with verb.0 verb.1

-- some line, where one was read; the column of a fault stays
abbrev pub some_line : Result Line ℕ → Result (Option Line) ℕ
some_line (Ok line) = Ok (Some line)
some_line (Err column) = Err column

-- A line of a script: none where it is empty or a comment, which begins with `#`; these have no reply.
unfoldable pub reading_of : List ℕ → Result (Option Line) ℕ
reading_of [] = Ok None
reading_of (b ∷ bytes) = if b == 35 then Ok None else some_line (line_of (b ∷ bytes))
