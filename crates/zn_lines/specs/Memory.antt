-- Which lines take memory. (own)
use Rattle.std.specs.Prelude.{Bool, true, false}
use Rattle.zn_lines.specs.Lines.{Line, Mkfs, Mount}

-- Whether carrying the line out takes memory itself, whatever the device's commands take: a format fills a buffer, and a
-- mount makes the files and handles of a volume. No other line takes any.
abbrev pub takes_itself : Line → Bool
takes_itself (Mkfs words) = true
takes_itself (Mount options) = true
takes_itself line = false
