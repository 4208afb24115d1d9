use Rattle.std.proofs.Common.{◌≡◌, take}
use Rattle.clap.specs.Words.{app_of}
use Rattle.zn_words.specs.Clap.{dir_command}
use Rattle.zn_words.proofs.places.command.Given as goal

-- the options so far
abbrev pub invariant-loop-flag : goal.invariant-loop-flag
invariant-loop-flag l = app_of l.command ≡ dir_command l.name (take l.flag-index l.flags)
