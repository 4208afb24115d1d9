use Rattle.std.proofs.Common.{sym, ◌∙◌}
use Rattle.zn_fault.proofs.Shortened.{manage_done, manage_left}
use Rattle.zn_fault.proofs.inside.manage_during.Goals as goal

pub returns-then-is_carried_out : goal.returns-then-is_carried_out
returns-then-is_carried_out g c =
    rw c.unrefused.ensures
    (manage_done c.args.z.0 c.args.op c.args.armed.now c.manage.result (g.D.Zoned.state c.args.dev.now) (g.D.Zoned.state c.manage.new.self) (sym c.is_carried_out.ensures ∙ c.if-is_carried_out.true) c.manage.ensures.done
    (g.met.D.Harm.is_calm c.args.dev.now) (g.met.D.Harm.is_faultless c.args.dev.now) (g.met.D.Harm.is_faultless c.manage.new.self))

pub returns-else-is_carried_out : goal.returns-else-is_carried_out
returns-else-is_carried_out g c =
    manage_left c.args.z.0 c.args.op c.args.armed.now (g.D.Zoned.state c.args.dev.now) (sym c.is_carried_out.ensures ∙ c.if-is_carried_out.false) c.requires.unspoilt
