use Rattle.std.proofs.Common.{◌≡◌, ◌-◌, Ok}
use Rattle.std.specs.Option.{option_map}
use Rattle.zn_zloop.specs.Served.{Served}
use Rattle.zn_zloop.proofs.Filling.{blocks_filled}
use Rattle.zn_zloop.proofs.fills.fill_blocks.Given as goal

-- the blocks before the index are filled
abbrev pub invariant-loop-i : goal.invariant-loop-i
invariant-loop-i g l = Served l.name (λ o p. p ≡ option_map (blocks_filled l.byte l.from (l.i - l.from)) o) (Ok tt) (g.F.Files.state l.fn.files) (g.F.Files.state l.files)
