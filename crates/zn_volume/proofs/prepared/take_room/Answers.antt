use Rattle.std.proofs.Common.{List, true, false, ◌∙◌, subst}
use Rattle.zn_truth.specs.declared.Kind.{Kind}
use Rattle.zn_truth.specs.declared.Shape.{Shape}
use Rattle.zn_truth.specs.World.{geometry_of}
use Rattle.zn_volume.specs.MountSteps.{ArePrepared}
use Rattle.zn_volume.proofs.prepared.take_room.Goals as goal

pub returns-clause-single : goal.returns-clause-single
returns-clause-single g c =
    let inodes = c.in_ok-single.single.inodes in
    subst (λ (kinds : List Kind). ArePrepared kinds false (geometry_of (g.D.Zoned.state c.args.dev.now).world).shape c.in_ok-single.single.inodes c.in_ok-single.single.handles) (c.deref.ensures.value ∙ c.in_ok-kinds.ensures)
    (subst (λ (zones : Shape). ArePrepared c.deref.result.now false zones c.in_ok-single.single.inodes c.in_ok-single.single.handles) c.shape.ensures c.in_ok-single.ensures)

pub returns-clause-joined : goal.returns-clause-joined
returns-clause-joined g c =
    subst (λ (kinds : List Kind). ArePrepared kinds true (geometry_of (g.D.Zoned.state c.args.dev.now).world).shape c.in_ok-joined.joined.inodes c.in_ok-joined.joined.handles) (c.deref-3.ensures.value ∙ c.in_ok-kinds.ensures)
    (subst (λ (zones : Shape). ArePrepared c.deref-3.result.now true zones c.in_ok-joined.joined.inodes c.in_ok-joined.joined.handles) c.shape-2.ensures c.in_ok-joined.ensures)
