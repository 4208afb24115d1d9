-- A device that tells its bytes goes on telling them over a whole script.
use Rattle.std.proofs.Common.{◌≡◌, ℕ, ◌+◌, Bool, true, false, List, [], ◌∷◌, length, Option, Some, None, Result, Ok, Err, refl, ◌∙◌, nat_lt}
use Rattle.std.specs.Prelude.{take, if◌then◌else◌}
use Rattle.zn_lines.specs.declared.limits.TheConstants.{LINE_LIMIT, SCRIPT_LIMIT}
use Rattle.zn_lines.specs.declared.runs.Tail.{Tail}
use Rattle.zn_lines.specs.declared.runs.Tail.TheVariants.{End, Fault, Over, More}
use Rattle.zn_lines.specs.declared.runs.Ending.TheVariants.{Finished, LineTooLong}
use Rattle.zn_lines.specs.Grammar.{reading_of}
use Rattle.zn_lines.specs.Lines.{Line}
use Rattle.zn_lines.specs.Session.{line_step}
use Rattle.zn_lines.specs.Table.{Table}
use Rattle.zn_lines.specs.Transcript.{Transcript, stop, first_given, more_given, line_then, last_piece, transcript_from, pieces, tail_of}
use Rattle.zn_lines.proofs.ToldLines.{line_still}
use Rattle.zn_commands.specs.LineZero.{transcript_behind}

-- whether the device of a table tells its bytes
abbrev told : Table → Bool
told table = table.world.truth.told

then_still : (given : List ℕ) (reading : Result (Option Line) ℕ) (table : Table) (n : ℕ) (follows : Table → Transcript) → ((after : Table) → told (follows after).table ≡ told after)
    → told (line_then given reading table n follows).table ≡ told table
then_still given (Err column) table n follows each = refl
then_still given (Ok None) table n follows each = each table
then_still given (Ok (Some line)) table n follows each = each (line_step given table line).table ∙ line_still given table line

last_still : (given : List ℕ) (tail : Tail) (table : Table) (n : ℕ) (piece : List ℕ) → told (last_piece given tail table n piece).table ≡ told table
last_still given End table n [] = refl
last_still given End table n (b ∷ bytes) = then_still given (reading_of (b ∷ bytes)) table n (λ after. stop after Finished) (λ after. refl)
last_still given Fault table n piece = refl
last_still given Over table n piece = refl
last_still given More table n piece = refl

either_still : (b : Bool) (table : Table) (long other : Transcript) → told long.table ≡ told table → told other.table ≡ told table → told (if b then long else other).table ≡ told table
either_still true table long other l o = l
either_still false table long other l o = o

from_still : (givens : List (List ℕ)) (tail : Tail) (table : Table) (n : ℕ) (parts : List (List ℕ)) → told (transcript_from givens tail table n parts).table ≡ told table
unfolding transcript_from
from_still givens tail table n [] = refl
from_still givens tail table n (piece ∷ []) =
    either_still (nat_lt LINE_LIMIT (length piece)) table (stop table (LineTooLong n)) (last_piece (first_given givens) tail table n piece) refl (last_still (first_given givens) tail table n piece)
from_still givens tail table n (line ∷ piece ∷ parts) =
    either_still (nat_lt LINE_LIMIT (length line)) table (stop table (LineTooLong n)) (line_then (first_given givens) (reading_of line) table n (λ after. transcript_from (more_given givens) tail after (n + 1) (piece ∷ parts))) refl
    (then_still (first_given givens) (reading_of line) table n (λ after. transcript_from (more_given givens) tail after (n + 1) (piece ∷ parts)) (λ after. from_still (more_given givens) tail after (n + 1) (piece ∷ parts)))

pub told_behind : (zero : Option Line) (table : Table) (script : List ℕ) → told table ≡ true → told (transcript_behind zero [] [] (tail_of script) table script).table ≡ true
told_behind None table script is = from_still [] (tail_of script) table 1 (pieces (take SCRIPT_LIMIT script)) ∙ is
told_behind (Some line) table script is =
    from_still [] (tail_of script) (line_step [] table line).table 1 (pieces (take SCRIPT_LIMIT script)) ∙ line_still [] table line ∙ is
