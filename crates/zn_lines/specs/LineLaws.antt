-- A line is read from its texts alone, and they from no other line.
use Rattle.std.specs.Prelude.{◌≡◌, ◌↔◌, ℕ, List, Some, Ok}
use Rattle.zn_lines.specs.Lines.{Line}
use Rattle.zn_lines.specs.Grammar.{line_of, reading_of}
use Rattle.zn_lines.specs.LineTexts.{line_text, IsReadable, IsText}

-- what is written as a line is read as that line
abbrev pub WrittenIsRead : Type 0
WrittenIsRead = (bytes : List ℕ) (line : Line) → IsText bytes line → line_of bytes ≡ Ok line

-- what is read as a line is written so
abbrev pub ReadIsWritten : Type 0
ReadIsWritten = (bytes : List ℕ) (line : Line) → line_of bytes ≡ Ok line → IsText bytes line

-- a line that keeps its words and is within the limits is read from its plain text
abbrev pub TextIsRead : Type 0
TextIsRead = (line : Line) → IsReadable line → line_of (line_text line) ≡ Ok line

-- no line is empty or a comment
abbrev pub ReadingIsLine : Type 0
ReadingIsLine = (bytes : List ℕ) (line : Line) → (reading_of bytes ≡ Ok (Some line)) ↔ (line_of bytes ≡ Ok line)
