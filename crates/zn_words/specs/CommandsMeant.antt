-- What contracts see of a command. (own)
use Rattle.std.specs.Prelude.{◌≡◌, ◌*◌, ◌≤◌, true, IfSome, IsTrue, option_copied}
use Rattle.zn_truth.specs.declared.limits.TheConstants.{MAX_BLOCKS, MAX_ZONES}
use Rattle.zn_lines.specs.declared.limits.TheConstants.{SCRATCH_BLOCKS}
use Rattle.zn_lines.specs.declared.words.Scratch.{Scratch as ScratchWords}
use Rattle.zn_gen.specs.declared.script.TheConstants.{MOST_STEPS}
use Rattle.zn_stand.specs.DeviceText.{is_within}
use Rattle.zn_words.specs.Commands.{Command, Format, Scratch, Churn, Add, Mkfs, Running, are_options}
use Rattle.zn_words.specs.declared.commands.Command.{Command as Lent}
use Rattle.zn_words.specs.declared.commands.Command.TheVariants as lent
use Rattle.zn_words.specs.declared.commands.Format.{Format as FormatTold}

-- what a format is asked for
abbrev pub format_meant : FormatTold → Format
format_meant format = record { force = format.force; label = format.label; uuid = format.uuid; opts = format.opts }

-- a command, without the references in it
abbrev pub command_meant : Lent → Command
command_meant (lent.Scratch s) = Scratch s
command_meant (lent.Churn c) = Churn c
command_meant (lent.Add dir geo) = Add dir.now geo
command_meant (lent.Mkfs dir format) = Mkfs dir.now (format_meant format)
command_meant (lent.Run dir options) = Running dir.now (option_copied options)

-- The limits of a device in memory, which has at least one zone.
pub record IsWithin (s : ScratchWords) : Type 0 where
  pub some : 1 ≤ s.zones
  pub most : s.zones ≤ MAX_ZONES
  pub conv : s.conv ≤ s.zones
  pub least : 2 ≤ s.blocks
  pub size : s.blocks ≤ MAX_BLOCKS
  pub all : s.zones * s.blocks ≤ SCRATCH_BLOCKS

-- what is asked for is within its limits
abbrev pub IsAccepted : Lent → Type 0
IsAccepted (lent.Scratch s) = IsWithin s
IsAccepted (lent.Churn c) = c.steps ≤ MOST_STEPS
IsAccepted (lent.Add dir geo) = IsTrue (is_within geo)
IsAccepted (lent.Mkfs dir format) = format.opts.perm ≤ 0o777
IsAccepted (lent.Run dir options) = IfSome options (λ word. are_options word.now ≡ true)
