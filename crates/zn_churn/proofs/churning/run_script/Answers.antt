use Rattle.std.proofs.Common.{ap, length, arith}
use Rattle.zn_gen.proofs.ShortScripts.{scripts_are_short}
use Rattle.zn_churn.proofs.churning.run_script.Goals as goal

pub carry_out-requires-clause-short : goal.carry_out-requires-clause-short
carry_out-requires-clause-short g c =
    omega (arith, c.requires.most, scripts_are_short c.args.seed c.args.steps, ap length c.new-script.ensures)
