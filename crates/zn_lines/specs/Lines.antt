-- The lines of a script, as what they ask for. (own)
use Rattle.std.specs.Prelude.{ℕ, Bool, false, List, [], ◌∷◌, ◌++◌, Option, None, replicate, if◌then◌else◌}
use Rattle.std.specs.List.{flat_map}
use Rattle.std.specs.Option.{option_map, option_to_list}
use Rattle.zn_base.specs.Runs.{Run}
use Rattle.zn_truth.specs.declared.Command.{Command}
use Rattle.zn_truth.specs.declared.Cond.{Cond}
use Rattle.zn_truth.specs.declared.ZoneNo.{ZoneNo}
use Rattle.zn_model.specs.declared.handles.Mode.{Mode}
use Rattle.zn_model.specs.declared.handles.Who.{Who}
use Rattle.zn_lines.specs.declared.words.Change.{Change}

-- the bytes that runs stand for
abbrev pub bytes_of : List Run → List ℕ
bytes_of runs = flat_map (λ run. replicate run.count run.byte) runs

-- what a format is asked for, as texts
pub record FormatWords : Type 0 where
  pub force : Bool
  pub label : Option (List ℕ)
  pub uuid : Option (List ℕ)
  pub features : Option (List ℕ)

-- one thing that a format is asked for
pub data FormatItem : Type 0 where
  Force : FormatItem
  Label : List ℕ → FormatItem
  Uuid : List ℕ → FormatItem
  Features : List ℕ → FormatItem

-- a format that is asked for nothing more
abbrev pub plain_format : FormatWords
plain_format = record { force = false; label = None; uuid = None; features = None }

-- all that a format is asked for, one item after another
abbrev pub items_of : FormatWords → List FormatItem
items_of words =
    (if words.force then Force ∷ [] else []) ++ option_to_list (option_map Label words.label)
    ++ option_to_list (option_map Uuid words.uuid) ++ option_to_list (option_map Features words.features)

-- Each line of the grammar. Handle numbers and zones are numbers, paths and options texts, offsets and sizes
-- in bytes, and the lengths of cuts and `keep` in blocks.
pub data Line : Type 0 where
  Mkfs : FormatWords → Line
  Mount : Option (List ℕ) → Line
  Umount : Line
  OpenFile : ℕ → List ℕ → Mode → Who → Line
  CloseFile : ℕ → Line
  SizeOf : ℕ → Line
  ReadFrom : ℕ → ℕ → ℕ → Line
  WriteTo : ℕ → ℕ → List Run → Line
  TruncateTo : ℕ → ℕ → Line
  SyncFile : ℕ → Line
  SubmitTo : ℕ → ℕ → List Run → Line
  Complete : Line
  Reap : Line
  StatOf : List ℕ → Line
  ListOf : List ℕ → Line
  Attributes : Line
  Changes : Change → Line
  Zones : Line
  FaultOn : ℕ → Command → Option ℕ → Line
  TurnTo : ℕ → Cond → Line
  PowerLoss : Option ℕ → List (ZoneNo × ℕ) → Line
  PowerLossIn : ℕ → Command → Bool → Option ℕ → List (ZoneNo × ℕ) → Line
  PowerOn : Line
