use Rattle.std.proofs.Common.{Bool, [], ◌∷◌, sym, ◌∙◌, subst}
use Rattle.std.specs.Prelude.{if◌then◌else◌}
use Rattle.zn_truth.specs.declared.ZoneOp.TheVariants.{Reset}
use Rattle.zn_truth.specs.Orders.{Manage}
use Rattle.zn_device.specs.States.{Ordered}
use Rattle.zn_device.proofs.Ordered.{ordered_one}
use Rattle.zn_mkfs.proofs.resets.reset_other.Goals as goal

pub returns-then-is_emptied : goal.returns-then-is_emptied
returns-then-is_emptied g c =
    let state = g.D.Zoned.state in
    record {
      done = subst (λ (b : Bool). Ordered (if b then Manage c.args.z Reset ∷ [] else []) c.manage.result (state c.args.dev.now) (state c.manage.new.self)) (sym c.if-is_emptied.true ∙ c.is_emptied.ensures)
          (ordered_one _ _ _ _ c.manage.ensures.done);
    }
