-- What a part of data means, and how long data is.
use Rattle.std.specs.Prelude.{◌≡◌, ◌≤◌, ℕ, List, length, IsSome, Some}
use Rattle.std.specs.List.{before_first}
use Rattle.zn_lines.specs.declared.limits.TheConstants.{LAST_NUMBER}
use Rattle.zn_model.specs.declared.limits.TheConstants.{MOST_BYTES}
use Rattle.zn_base.specs.Runs.{Run}
use Rattle.zn_lines.specs.Lines.{bytes_of}
use Rattle.zn_lines.specs.Grammar.{is_plus, data_of}
use Rattle.zn_script.specs.Cuts.{AreCutWords}
use Rattle.zn_script.specs.Items.{IsShort}
use Rattle.zn_script.specs.declared.data.Part.{Part}
use Rattle.zn_script.specs.declared.Line.{Line}
use Rattle.zn_script.specs.declared.Line.TheVariants.{Mkfs, Mount, Umount, Open, Close, Size, Read, Write, Truncate, Sync, Stat, List as Listing, Attr, Change, Fault, Turn, Submit, Complete, Reap, Zones, PowerLoss, PowerLossIn, PowerOn}

-- the byte of the part, as often as the part counts
abbrev pub run_meant : Part → Run
run_meant p = record { byte = p.byte; count = p.count }

-- what stands before the first plus sign
abbrev pub first_part : List ℕ → List ℕ
first_part bytes = before_first is_plus bytes

-- the word is data of so many bytes
pub record HasLength (word : List ℕ) (n : ℕ) : Type 0 where
  pub runs : List Run
  pub read : data_of word ≡ Some runs
  pub sized : length (bytes_of runs) ≡ n

-- a line's number is one that handles have, what it reads is not too long, what it writes is data, options are no longer
-- than a line, and what it cuts are cuts
abbrev pub CallFits : Line → Type 0
CallFits (Mkfs words) = IsShort words.features
CallFits (Mount text) = IsShort text
CallFits Umount = Unit {0}
CallFits (Open number path mode who) = number ≤ LAST_NUMBER
CallFits (Close number) = number ≤ LAST_NUMBER
CallFits (Size number) = number ≤ LAST_NUMBER
CallFits (Read number offset len) = (number ≤ LAST_NUMBER) × (len ≤ MOST_BYTES)
CallFits (Write number offset word) = (number ≤ LAST_NUMBER) × IsSome (data_of word.now)
CallFits (Truncate number size) = number ≤ LAST_NUMBER
CallFits (Sync number) = number ≤ LAST_NUMBER
CallFits (Stat path) = Unit {0}
CallFits (Listing path) = Unit {0}
CallFits Attr = Unit {0}
CallFits (Change change) = Unit {0}
CallFits (Fault zone command keep) = Unit {0}
CallFits (Turn zone to) = Unit {0}
CallFits (Submit number offset word) = (number ≤ LAST_NUMBER) × IsSome (data_of word.now)
CallFits Complete = Unit {0}
CallFits Reap = Unit {0}
CallFits Zones = Unit {0}
CallFits (PowerLoss fill words) = AreCutWords words.now
CallFits (PowerLossIn zone command carried_out fill words) = AreCutWords words.now
CallFits PowerOn = Unit {0}
