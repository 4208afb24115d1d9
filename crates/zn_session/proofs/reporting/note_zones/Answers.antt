use Rattle.std.proofs.Common.{◌≡◌, length, ap, ◌∙◌, arith}
use Rattle.zn_truth.specs.World.{geometry_of}
use Rattle.zn_device.specs.States.{DeviceState}
use Rattle.zn_session.specs.SessionState.{held_by, zones_in}
use Rattle.zn_session.proofs.ToldZones.{none_noted, all_noted}
use Rattle.zn_session.proofs.reporting.note_zones.Goals as goal

pub loop-z-init : goal.loop-z-init
loop-z-init g c = record { noted = none_noted _ _ _ }

pub returns-clause-told : goal.returns-clause-told
returns-clause-told g c =
    let end : c.zones-z-end.result ≡ zones_in (held_by g.D.Zoned.state c.args.held.now) =
    c.zones-z-end.ensures ∙ ap (λ (d : DeviceState). length (geometry_of d.world).kinds) c.device.ensures in
    all_noted (held_by g.D.Zoned.state c.args.held.now) c.args.infos.now c.loop-z.zones c.loop-z.z (omega (arith, c.loop-z.auto.zones, c.requires.zones, c.requires.infos)) (omega (arith, end, c.requires.infos)) c.loop-z.invariant.noted
