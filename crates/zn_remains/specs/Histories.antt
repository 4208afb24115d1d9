-- The lines that a run carries out, each with the events that it makes. (own)
use Rattle.std.specs.Prelude.{◌≡◌, ℕ, List, [], ◌∷◌, ◌++◌, map, fold, nat_lt, length, if◌then◌else◌, Option, Some, None, IfSome, Result, Ok, Err}
use Rattle.std.specs.List.{All, flat_map}
use Rattle.zn_truth.specs.Truth.{Geometry}
use Rattle.zn_truth.specs.World.{geometry_of}
use Rattle.zn_lines.specs.declared.limits.TheConstants.{LINE_LIMIT}
use Rattle.zn_lines.specs.declared.runs.Tail.{Tail}
use Rattle.zn_lines.specs.declared.runs.Tail.TheVariants.{End, Fault, Over, More}
use Rattle.zn_lines.specs.Lines.{Line}
use Rattle.zn_lines.specs.Grammar.{reading_of}
use Rattle.zn_lines.specs.Table.{Table}
use Rattle.zn_lines.specs.Session.{line_step}
use Rattle.zn_lines.specs.Transcript.{pieces, transcript_at}
use Rattle.zn_remains.specs.Events.{Event, after_events}
use Rattle.zn_remains.specs.LineEvents.{Makes, asked_by}

-- ---- the lines of a script

-- a line that was read, and the lines behind it; none where it can't be read, and only those where it has no reply
abbrev pub with_read : Result (Option Line) ℕ → List Line → List Line
with_read (Err column) lines = []
with_read (Ok None) lines = lines
with_read (Ok (Some line)) lines = line ∷ lines

-- the line that no newline ends, which counts only at the end of a whole script
abbrev pub last_line : Tail → List ℕ → List Line
last_line End [] = []
last_line End (b ∷ bytes) = with_read (reading_of (b ∷ bytes)) []
last_line Fault piece = []
last_line Over piece = []
last_line More piece = []

-- The lines that a run carries out, of the pieces between newlines: up to the first that is too long or can't be read.
unfoldable pub lines_in : Tail → List (List ℕ) → List Line
lines_in tail [] = []
lines_in tail (piece ∷ []) = if nat_lt LINE_LIMIT (length piece) then [] else last_line tail piece
lines_in tail (line ∷ piece ∷ pieces) = if nat_lt LINE_LIMIT (length line) then [] else with_read (reading_of line) (lines_in tail (piece ∷ pieces))

-- ---- lines and their events

-- A line that was carried out: what its reads gave, where the device doesn't tell its bytes, and the events that it made.
pub record Carried : Type 0 where
  pub given : List ℕ
  pub line : Line
  pub events : List Event

-- the table after a line
abbrev pub after_line : Table → Carried → Table
after_line table carried = (line_step carried.given table carried.line).table

-- the table after lines, one after another
abbrev pub after_lines : Table → List Carried → Table
after_lines table lines = fold after_line table lines

-- the replies of lines, one after another
abbrev pub replies : Table → List Carried → List ℕ
replies table [] = []
replies table (carried ∷ lines) = (line_step carried.given table carried.line).text ++ replies (after_line table carried) lines

-- all events of lines, in their order
abbrev pub events_of : List Carried → List Event
events_of lines = flat_map (λ carried. carried.events) lines

-- The events of a line that began from a table.
pub record AreEventsOf (g : Geometry) (table : Table) (carried : Carried) : Type 0 where
  -- each is an order of one of the line's commands that fits the device, or what the line asks for
  pub each : All (Makes g table carried.line) carried.events
  -- which then is all that happens
  pub asked : IfSome (asked_by carried.line) (λ event. carried.events ≡ event ∷ [])
  -- the device is then as the line leaves it
  pub world : (after_line table carried).world ≡ after_events table.world carried.events

-- the same of each of some lines, one after another
abbrev pub AllMake : Geometry → Table → List Carried → Type 0
AllMake g table [] = Unit {0}
AllMake g table (carried ∷ lines) = AreEventsOf g table carried × AllMake g (after_line table carried) lines

-- What a run did, from a line's start on: the lines that it carried out, each with its events, and where they led.
pub record History (givens : List (List ℕ)) (tail : Tail) (table : Table) (n : ℕ) (bytes : List ℕ) : Type 0 where
  pub carried : List Carried
  -- they are the lines of the script
  pub lines : map (λ carried. carried.line) carried ≡ lines_in tail (pieces bytes)
  -- each made its own events
  pub made : AllMake (geometry_of table.world) table carried
  -- the run wrote their replies
  pub text : (transcript_at givens tail table n bytes).text ≡ replies table carried
  -- it ends with the table that they lead to
  pub ends : (transcript_at givens tail table n bytes).table ≡ after_lines table carried
  -- and with the device that all their events make
  pub world : (transcript_at givens tail table n bytes).table.world ≡ after_events table.world (events_of carried)
