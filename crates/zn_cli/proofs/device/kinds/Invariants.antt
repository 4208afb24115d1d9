use Rattle.std.proofs.Common.{◌≡◌, ◌-◌, ◌++◌, replicate}
use Rattle.zn_truth.specs.declared.Kind.TheVariants.{Conventional, Sequential}
use Rattle.zn_cli.proofs.device.kinds.Given as goal

abbrev pub invariant-loop : goal.invariant-loop
invariant-loop l = l.kinds.items ≡ replicate l.fn.scratch.conv Conventional ++ replicate (l.counter - l.fn.scratch.conv) Sequential
