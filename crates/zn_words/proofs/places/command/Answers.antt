use Rattle.std.proofs.Common.{arith}
use Rattle.zn_words.proofs.Bare.{told_next}
use Rattle.zn_words.proofs.places.command.Goals as goal

pub loop-flag-preserved : goal.loop-flag-preserved
loop-flag-preserved c = told_next c.args.name.now c.args.flags.now c.loop-flag.flag-index _ (omega (arith, c.loop-flag-test.true)) c.in_ok-command-2.ensures c.loop-flag.invariant
