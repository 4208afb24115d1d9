-- What a run of a script writes, and how it ends. (own)
use Rattle.std.specs.Prelude.{◌≡◌, ◌<◌, ℕ, ◌+◌, ◌==◌, Bool, false, List, [], ◌∷◌, ◌++◌, length, take, drop, slice_index_or, Option, Some, None, Result, Ok, Err, nat_lt, if◌then◌else◌, codes}
use Rattle.std.specs.List.{slice_split, All}
use Rattle.std.specs.Fmt.{decimal}
use Rattle.zn_lines.specs.declared.limits.TheConstants.{LINE_LIMIT, SCRIPT_LIMIT}
use Rattle.zn_base.specs.Texts.{◌⧺◌}
use Rattle.zn_lines.specs.declared.runs.Tail.{Tail}
use Rattle.zn_lines.specs.declared.runs.Tail.TheVariants.{End, Fault, Over, More}
use Rattle.zn_lines.specs.declared.runs.Ending.{Ending}
use Rattle.zn_lines.specs.declared.runs.Ending.TheVariants.{Finished, BadLine, LineTooLong, ScriptTooLong, ReadFailed, Unread}
use Rattle.zn_lines.specs.Lines.{Line}
use Rattle.zn_lines.specs.Grammar.{reading_of}
use Rattle.zn_lines.specs.Table.{Table}
use Rattle.zn_lines.specs.Session.{line_step}

-- ---- transcripts

-- what the lines of a script write, what they make of the session, and how the run ends
pub record Transcript : Type 0 where
  -- the replies
  pub text : List ℕ
  -- the table in the end
  pub table : Table
  pub ending : Ending

-- the run ends so, with no more replies and the table as it is
abbrev pub stop : Table → Ending → Transcript
stop table ending = record { text = []; table = table; ending = ending }

-- a transcript behind the text of earlier lines
abbrev pub with_text : List ℕ → Transcript → Transcript
with_text front t = record { text = front ++ t.text; table = t.table; ending = t.ending }

-- What each piece's read gave, in their order, where the device doesn't tell its bytes: of the first piece, and of those
-- behind it. Where nothing is listed nothing was given.
abbrev pub first_given : List (List ℕ) → List ℕ
first_given givens = slice_index_or givens 0 []

abbrev pub more_given : List (List ℕ) → List (List ℕ)
more_given givens = drop 1 givens

-- A line with this number, as it was read: it ends the run, or has no reply, or its reply stands before what
-- follows from its table.
abbrev pub line_then : List ℕ → Result (Option Line) ℕ → Table → ℕ → (Table → Transcript) → Transcript
line_then given (Err column) table n follows = stop table (BadLine n column)
line_then given (Ok None) table n follows = follows table
line_then given (Ok (Some line)) table n follows = with_text (line_step given table line).text (follows (line_step given table line).table)

-- what no newline ends: the last line of a whole script, unless it is empty; else no line
abbrev pub last_piece : List ℕ → Tail → Table → ℕ → List ℕ → Transcript
last_piece given End table n [] = stop table Finished
last_piece given End table n (b ∷ bytes) = line_then given (reading_of (b ∷ bytes)) table n (λ after. stop after Finished)
last_piece given Fault table n piece = stop table ReadFailed
last_piece given Over table n piece = stop table (ScriptTooLong n)
last_piece given More table n piece = stop table Unread

-- The pieces between newlines, from the line with number n on. Each but the last is a line. A line that is
-- too long is told before the script is.
unfoldable pub transcript_from : List (List ℕ) → Tail → Table → ℕ → List (List ℕ) → Transcript
transcript_from givens tail table n [] = stop table Finished
transcript_from givens tail table n (piece ∷ []) = if nat_lt LINE_LIMIT (length piece) then stop table (LineTooLong n) else last_piece (first_given givens) tail table n piece
transcript_from givens tail table n (line ∷ piece ∷ pieces) =
    if nat_lt LINE_LIMIT (length line) then stop table (LineTooLong n)
    else line_then (first_given givens) (reading_of line) table n (λ after. transcript_from (more_given givens) tail after (n + 1) (piece ∷ pieces))

-- the byte 10
abbrev pub is_newline : ℕ → Bool
is_newline b = b == 10

-- the bytes, cut at the newlines
unfoldable pub pieces : List ℕ → List (List ℕ)
pieces bytes = slice_split is_newline bytes

-- of the bytes from a line's start on
abbrev pub transcript_at : List (List ℕ) → Tail → Table → ℕ → List ℕ → Transcript
transcript_at givens tail table n bytes = transcript_from givens tail table n (pieces bytes)

-- of the bytes that were taken from the start of a script
abbrev pub transcript : List (List ℕ) → Tail → Table → List ℕ → Transcript
transcript givens tail table taken = transcript_at givens tail table 1 (take SCRIPT_LIMIT taken)

-- what comes after the bytes of a whole script, which its source tells: no more than its limit are taken
abbrev pub tail_of : List ℕ → Tail
tail_of script = if nat_lt SCRIPT_LIMIT (length script) then Over else End

-- of a whole script that its source tells, over a device that tells its bytes, so that nothing is given
abbrev pub transcript_of : Table → List ℕ → Transcript
transcript_of table script = transcript [] (tail_of script) table script

-- ---- lines among the bytes

-- a byte that may stand within a line
abbrev pub NotNewline : ℕ → Type 0
NotNewline b = is_newline b ≡ false

-- no byte is a newline
abbrev pub OneLine : List ℕ → Type 0
OneLine line = All NotNewline line

-- the first line ends before place i
pub record FirstLineEnds (bytes : List ℕ) (i : ℕ) : Type 0 where
  pub within : i < length bytes
  pub cut : bytes ≡ take i bytes ++ 10 ∷ drop (i + 1) bytes
  pub one : OneLine (take i bytes)

-- ---- the last line

-- what stands behind the replies, by how the run ends
abbrev pub last_line : Ending → List ℕ
last_line Finished = []
last_line (BadLine n column) = codes "script-error " ⧺ decimal n ⧺ codes " " ⧺ decimal column ⧺ codes "\n"
last_line (LineTooLong n) = codes "line-too-long " ⧺ decimal n ⧺ codes "\n"
last_line (ScriptTooLong n) = codes "script-too-long " ⧺ decimal n ⧺ codes "\n"
last_line ReadFailed = codes "read-fault\n"
last_line Unread = []

-- all that a run writes
abbrev pub whole_text : Transcript → List ℕ
whole_text t = t.text ++ last_line t.ending

-- ---- endings that no further bytes change

-- a bad line and a line that is too long are such endings, and no others are
abbrev pub IsDecided : Ending → Type 0
IsDecided Finished = ⊥
IsDecided (BadLine n column) = Unit {0}
IsDecided (LineTooLong n) = Unit {0}
IsDecided (ScriptTooLong n) = ⊥
IsDecided ReadFailed = ⊥
IsDecided Unread = ⊥
