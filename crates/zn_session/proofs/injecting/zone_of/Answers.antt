use Rattle.std.proofs.Common.{length, ap, ◌∙◌, arith}
use Rattle.zn_truth.specs.World.{geometry_of}
use Rattle.zn_device.specs.States.{DeviceState}
use Rattle.zn_session.specs.SessionState.{held_by}
use Rattle.zn_session.proofs.Harming.{names_none, as_many}
use Rattle.zn_session.proofs.injecting.zone_of.Goals as goal

pub returns-else-number-zones-clause-zone : goal.returns-else-number-zones-clause-zone
returns-else-number-zones-clause-zone g c =
    names_none (held_by g.D.Zoned.state c.args.held.now).device.world c.zones-zones.result c.args.number
    (c.zones-zones.ensures ∙ ap (λ (d : DeviceState). length (geometry_of d.world).kinds) c.device.ensures) c.if-number-zones.false

pub returns-else-number-zones-clause-few : goal.returns-else-number-zones-clause-few
returns-else-number-zones-clause-few g c =
    as_many (held_by g.D.Zoned.state c.args.held.now).device.world c.zones-zones.result
    (c.zones-zones.ensures ∙ ap (λ (d : DeviceState). length (geometry_of d.world).kinds) c.device.ensures) (omega arith)

pub returns-then-number-zones-clause-few : goal.returns-then-number-zones-clause-few
returns-then-number-zones-clause-few g c =
    as_many (held_by g.D.Zoned.state c.args.held.now).device.world c.zones-zones.result
    (c.zones-zones.ensures ∙ ap (λ (d : DeviceState). length (geometry_of d.world).kinds) c.device.ensures) (omega arith)
