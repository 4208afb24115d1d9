-- What a line inside which the power goes is answered. (own)
use Rattle.std.specs.Prelude.{◌≡◌, Bool, true, false, ℕ, List, codes, if◌then◌else◌}
use Rattle.zn_lines.specs.Lines.{Line, PowerLoss}
use Rattle.zn_lines.specs.ReplyTexts.{error_text, ok_text}
use Rattle.zn_lines.specs.Session.{line_step}
use Rattle.zn_lines.specs.Table.{Table}

-- the line that takes the power itself
abbrev pub takes_power : Line → Bool
takes_power (PowerLoss fill cuts) = true
takes_power _ = false

-- what is answered where the power is gone at the end of a line, and wasn't before
abbrev pub lost_text : Line → List ℕ
lost_text line = if takes_power line then ok_text else error_text (codes "power-lost")

-- Where the power is on before a line and off after it, it went inside one of the line's commands, and that is told; only
-- the line that takes it itself is done.
abbrev pub LossIsToldByLines : Type 0
LossIsToldByLines = (given : List ℕ) (table : Table) (line : Line) → table.world.powered ≡ true
    → (line_step given table line).table.world.powered ≡ false → (line_step given table line).text ≡ lost_text line
