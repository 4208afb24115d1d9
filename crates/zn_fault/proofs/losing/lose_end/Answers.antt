use Rattle.std.proofs.Common.{ℕ, Option, ap, ◌∙◌}
use Rattle.std.specs.Prelude.{unwrap_or}
use Rattle.zn_fault.proofs.LossSteps.{cut_length, settle_lost}
use Rattle.zn_fault.proofs.losing.lose_end.Goals as goal

pub returns : goal.returns
returns g c =
    settle_lost c.args.z.0 c.durable-durable.result c.clamped.result c.args.loss.now c.settle.result (g.D.Zoned.state c.args.dev.now) (g.D.Zoned.state c.info_of.new.dev) (g.D.Zoned.state c.settle.new.self)
    c.requires.zone.kind c.in_ok-held.ensures.asked c.durable-durable.ensures
    (cut_length c.args.z.0 c.args.loss.now.cuts (g.D.Zoned.state c.args.dev.now) (g.D.Zoned.state c.info_of.new.dev) c.in_ok-held.field-0 c.durable-durable.result c.unwrap_or-cut.result c.clamped.result
    c.in_ok-held.ensures.asked c.in_ok-held.ensures.info c.durable-durable.ensures (c.unwrap_or-cut.ensures ∙ ap (λ (o : Option ℕ). unwrap_or o c.durable-durable.result) c.cut_of.ensures) c.clamped.ensures)
    c.settle.ensures
