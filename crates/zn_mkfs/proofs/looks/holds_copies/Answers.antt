use Rattle.std.proofs.Common.{sym, ◌∙◌}
use Rattle.zn_mkfs.proofs.LookLaws.{one_look}
use Rattle.zn_mkfs.proofs.looks.holds_copies.Goals as goal

pub returns-in-Err-clause-done : goal.returns-in-Err-clause-done
returns-in-Err-clause-done g c =
    one_look (g.D.Zoned.state c.args.dev.now).world.truth _ _ _ (sym c.may_hold_copies.ensures ∙ c.if-not-may_hold_copies.false) c.in-Err.ensures.done
