-- A whole run is a list of lines, each with its own events.
use Rattle.std.proofs.Common.{◌≡◌, ℕ, ◌+◌, Bool, true, false, List, [], ◌∷◌, ◌++◌, length, map, Option, Some, None, Result, Ok, Err, refl, sym, ap, ◌∙◌, subst, nat_lt}
use Rattle.std.specs.Prelude.{if◌then◌else◌}
use Rattle.std.specs.List.{All}
use Rattle.std.proofs.lemmas.List.Elements.{All-nil, All-append, All-weaker}
use Rattle.zn_truth.specs.Limits.{IsWithinLimits}
use Rattle.zn_truth.specs.Truth.{Geometry}
use Rattle.zn_truth.specs.World.{World, geometry_of}
use Rattle.zn_lines.specs.declared.limits.TheConstants.{LINE_LIMIT}
use Rattle.zn_lines.specs.declared.runs.Ending.{Ending}
use Rattle.zn_lines.specs.declared.runs.Ending.TheVariants.{Finished, BadLine, LineTooLong, ScriptTooLong, ReadFailed, Unread}
use Rattle.zn_lines.specs.declared.runs.Tail.{Tail}
use Rattle.zn_lines.specs.declared.runs.Tail.TheVariants.{End, Fault, Over, More}
use Rattle.zn_lines.specs.Grammar.{reading_of}
use Rattle.zn_lines.specs.Lines.{Line}
use Rattle.zn_lines.specs.Session.{line_step}
use Rattle.zn_lines.specs.Table.{Table}
use Rattle.zn_lines.specs.Transcript.{Transcript, stop, with_text, first_given, more_given, line_then, last_piece, transcript_from, pieces}
use Rattle.zn_remains.specs.Events.{after_events, FitsIn}
use Rattle.zn_remains.specs.Histories.{with_read, last_line, lines_in, Carried, after_line, after_lines, replies, events_of, AllMake, History}
use Rattle.zn_remains.specs.Laws.{MayBegin, led_by, IsSession, ScriptsAreEvents}
use Rattle.zn_remains.specs.LineEvents.{Makes}
use Rattle.zn_remains.proofs.Lines.{Sits, AgreesIf}
use Rattle.zn_remains.proofs.Standing.{after-append}
use Rattle.zn_remains.proofs.Steps.{line_led, sits_after, made_fits}

-- ---- lines one after another

-- lines that were carried out lead from a table to the end of a run
record Passed (g : Geometry) (table : Table) (lines : List Line) (t : Transcript) : Type 0 where
  carried : List Carried
  same : map (λ (c : Carried). c.line) carried ≡ lines
  made : AllMake g table carried
  text : t.text ≡ replies table carried
  ends : t.table ≡ after_lines table carried

passed_none : (g : Geometry) (table : Table) (ending : Ending) → Passed g table [] (stop table ending)
passed_none g table ending = record { carried = []; same = refl; made = tt; text = refl; ends = refl }

module _ (g : Geometry) (limits : IsWithinLimits g) where
  -- a line, and the lines behind it
  passed_line : (given : List ℕ) (table : Table) (line : Line) (lines : List Line) (t : Transcript) → Sits g table → Passed g (line_step given table line).table lines t → Passed g table (line ∷ lines) (with_text (line_step given table line).text t)
  passed_line given table line lines t sits rest =
      let led = line_led g limits given table sits line in
      let carried : Carried = record { given = given; line = line; events = led.events } in
      record {
        carried = carried ∷ rest.carried;
        same = ap (λ (ls : List Line). line ∷ ls) rest.same;
        made = (record { each = led.each; asked = led.asked; world = led.world }, rest.made);
        text = ap (λ (text : List ℕ). (line_step given table line).text ++ text) rest.text;
        ends = rest.ends;
      }

  then_passed : (given : List ℕ) (reading : Result (Option Line) ℕ) (table : Table) (n : ℕ) (follows : Table → Transcript) (lines : List Line) → Sits g table → ((after : Table) → Sits g after → Passed g after lines (follows after))
      → Passed g table (with_read reading lines) (line_then given reading table n follows)
  then_passed given (Err column) table n follows lines sits each = passed_none g table (BadLine n column)
  then_passed given (Ok None) table n follows lines sits each = each table sits
  then_passed given (Ok (Some line)) table n follows lines sits each =
      let after = (line_step given table line).table in
      passed_line given table line lines (follows after) sits (each after (sits_after g limits given table sits line))

  last_passed : (given : List ℕ) (tail : Tail) (table : Table) (n : ℕ) (piece : List ℕ) → Sits g table → Passed g table (last_line tail piece) (last_piece given tail table n piece)
  last_passed given End table n [] sits = passed_none g table Finished
  last_passed given End table n (b ∷ bytes) sits = then_passed given (reading_of (b ∷ bytes)) table n (λ after. stop after Finished) [] sits (λ after is. passed_none g after Finished)
  last_passed given Fault table n piece sits = passed_none g table ReadFailed
  last_passed given Over table n piece sits = passed_none g table (ScriptTooLong n)
  last_passed given More table n piece sits = passed_none g table Unread

  -- a line that is too long ends the run
  unless_long : (b : Bool) (table : Table) (ending : Ending) (t : Transcript) (lines : List Line) → Passed g table lines t → Passed g table (if b then [] else lines) (if b then stop table ending else t)
  unless_long true table ending t lines passed = passed_none g table ending
  unless_long false table ending t lines passed = passed

  from_passed : (givens : List (List ℕ)) (tail : Tail) (table : Table) (n : ℕ) (parts : List (List ℕ)) → Sits g table → Passed g table (lines_in tail parts) (transcript_from givens tail table n parts)
  unfolding transcript_from lines_in
  from_passed givens tail table n [] sits = passed_none g table Finished
  from_passed givens tail table n (piece ∷ []) sits =
      unless_long (nat_lt LINE_LIMIT (length piece)) table (LineTooLong n) (last_piece (first_given givens) tail table n piece) (last_line tail piece) (last_passed (first_given givens) tail table n piece sits)
  from_passed givens tail table n (line ∷ piece ∷ parts) sits =
      let follows : Table → Transcript = λ after. transcript_from (more_given givens) tail after (n + 1) (piece ∷ parts) in
      unless_long (nat_lt LINE_LIMIT (length line)) table (LineTooLong n) (line_then (first_given givens) (reading_of line) table n follows) (with_read (reading_of line) (lines_in tail (piece ∷ parts)))
      (then_passed (first_given givens) (reading_of line) table n follows (lines_in tail (piece ∷ parts)) sits (λ after is. from_passed (more_given givens) tail after (n + 1) (piece ∷ parts) is))

-- ---- the device that lines lead to

pub made_world : (g : Geometry) (table : Table) (carried : List Carried) → AllMake g table carried → (after_lines table carried).world ≡ after_events table.world (events_of carried)
made_world g table [] made = refl
made_world g table (c ∷ carried) made =
    made_world g (after_line table c) carried made.1
    ∙ ap (λ (w : World). after_events w (events_of carried)) made.0.world
    ∙ sym (after-append table.world c.events (events_of carried))

pub made_fit : (g : Geometry) (table : Table) (carried : List Carried) → AllMake g table carried → All (FitsIn g) (events_of carried)
made_fit g table [] made = All-nil (FitsIn g)
made_fit g table (c ∷ carried) made =
    All-append (FitsIn g) c.events (events_of carried) (All-weaker (Makes g table c.line) (FitsIn g) (made_fits g table c.line) c.events made.0.each) (made_fit g (after_line table c) carried made.1)

-- ---- whole runs

begins : (table : Table) → MayBegin table → Sits (geometry_of table.world) table
begins table may = record {
  stands = record { sound = may.sound; geometry = refl };
  agrees = subst (AgreesIf (geometry_of table.world)) (sym may.unmounted) tt;
  entropy = may.entropy;
}

led_sits : (g : Geometry) (limits : IsWithinLimits g) (table : Table) (lines : List (List ℕ × Line)) → Sits g table → Sits g (led_by table lines)
led_sits g limits table [] sits = sits
led_sits g limits table (line ∷ lines) sits = led_sits g limits (line_step line.0 table line.1).table lines (sits_after g limits line.0 table sits line.1)

-- a session that lines have led to
pub session_sits : (table : Table) (session : IsSession table) → Sits (geometry_of session.begun.world) table
session_sits table session =
    let g = geometry_of session.begun.world in
    subst (Sits g) (sym session.led) (led_sits g session.may.limits session.begun session.lines (begins session.begun session.may))

pub history : (g : Geometry) (givens : List (List ℕ)) (tail : Tail) (table : Table) (n : ℕ) (bytes : List ℕ) → geometry_of table.world ≡ g → IsWithinLimits g → Sits g table → History givens tail table n bytes
history g givens tail table n bytes is limits sits =
    let passed = from_passed g limits givens tail table n (pieces bytes) sits in
    record {
      carried = passed.carried;
      lines = passed.same;
      made = subst (λ (h : Geometry). AllMake h table passed.carried) (sym is) passed.made;
      text = passed.text;
      ends = passed.ends;
      world = ap (λ (t : Table). t.world) passed.ends ∙ made_world g table passed.carried passed.made;
    }

pub scripts_are_events : ScriptsAreEvents
scripts_are_events givens tail table n bytes session =
    let sits = session_sits table session in
    history (geometry_of session.begun.world) givens tail table n bytes sits.stands.geometry session.may.limits sits
