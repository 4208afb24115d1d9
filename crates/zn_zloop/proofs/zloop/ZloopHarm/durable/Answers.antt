use Rattle.std.proofs.Common.{ap, ◌∙◌, arith}
use Rattle.zn_truth.specs.declared.Kind.{Kind}
use Rattle.zn_truth.specs.declared.Shape.{Shape}
use Rattle.zn_truth.specs.Fresh.{fresh_zone}
use Rattle.zn_zone.specs.Machine.{facts}
use Rattle.zn_files.specs.States.{directory}
use Rattle.zn_zloop.proofs.Sight.{zones-facts}
use Rattle.zn_zloop.proofs.Commanding.{kinds_told}
use Rattle.zn_zloop.proofs.Harming.{durable_seen, durable_new}
use Rattle.zn_zloop.proofs.zloop.ZloopHarm.durable.Goals as goal

pub returns-then-self : goal.returns-then-self
returns-then-self g c =
    let d = c.args.self.now in
    c.fresh_durable.ensures ∙ ap (λ (shape : Shape). (fresh_zone shape c.kind.result).durable) c.shape.ensures ∙ ap (λ (kind : Kind). (fresh_zone d.zones.shape kind).durable) c.kind.ensures
    ∙ durable_new d.is_spoilt (directory (g.F.Files.state d.files)) d.zones d.kepts.items c.args.z.0 c.if-self.true
    (omega (arith, c.requires, kinds_told d.is_spoilt (directory (g.F.Files.state d.files)) d.zones d.kepts.items d.listed.items d.holds))

pub durable_kept-requires : goal.durable_kept-requires
durable_kept-requires g c =
    let d = c.args.self.now in
    omega (arith, c.requires, kinds_told d.is_spoilt (directory (g.F.Files.state d.files)) d.zones d.kepts.items d.listed.items d.holds, zones-facts d.zones, (d.holds.device c.if-self.false).kept.count)

pub returns : goal.returns
returns g c =
    let d = c.args.self.now in
    durable_seen d.is_spoilt (directory (g.F.Files.state d.files)) d.zones d.kepts.items c.args.z.0 c.durable_kept.result c.if-self.false
    (c.durable_kept.ensures (directory (g.F.Files.state d.files)) (facts d.zones) (d.holds.device c.if-self.false).kept.count)
