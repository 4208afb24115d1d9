use Rattle.std.proofs.Common.{refl, sym, ap, ◌∙◌}
use Rattle.zn_model.specs.Mounting.{is_zone0_unfull}
use Rattle.zn_volume.proofs.Finding.{zone0_unfull, reported_truth, then_read}
use Rattle.zn_volume.proofs.Mounted.{geometry-of}
use Rattle.zn_volume.proofs.commands.find_super_block.Goals as goal

pub returns-then-is_zone0_unfull-clause-found : goal.returns-then-is_zone0_unfull-clause-found
returns-then-is_zone0_unfull-clause-found g c =
    let D = g.D.Zoned in
    let told = c.is_zone0_unfull.ensures (D.state c.args.dev.now).world.truth (geometry-of (D.state c.args.dev.now).world ∙ sym c.in_default.ensures.done.obeys.geometry) (c.deref.ensures.value ∙ c.in_default.ensures.infos refl) in
    zone0_unfull (D.state c.args.dev.now) (D.state c.report_all.new.dev) c.in_default.ensures.done (sym told ∙ c.if-is_zone0_unfull.true)

pub find_copies-requires-clause-full : goal.find_copies-requires-clause-full
find_copies-requires-clause-full g c =
    let D = g.D.Zoned in
    let told = c.is_zone0_unfull.ensures (D.state c.args.dev.now).world.truth (geometry-of (D.state c.args.dev.now).world ∙ sym c.in_default.ensures.done.obeys.geometry) (c.deref.ensures.value ∙ c.in_default.ensures.infos refl) in
    ap is_zone0_unfull (reported_truth (D.state c.args.dev.now) (D.state c.report_all.new.dev) c.in_default.ensures.done) ∙ sym told ∙ c.if-is_zone0_unfull.false

pub returns-clause-found : goal.returns-clause-found
returns-clause-found g c =
    let D = g.D.Zoned in
    let told = c.is_zone0_unfull.ensures (D.state c.args.dev.now).world.truth (geometry-of (D.state c.args.dev.now).world ∙ sym c.in_default.ensures.done.obeys.geometry) (c.deref.ensures.value ∙ c.in_default.ensures.infos refl) in
    then_read c.find_copies.result (D.state c.args.dev.now) (D.state c.report_all.new.dev) (D.state c.find_copies.new.dev) c.in_default.ensures.done (sym told ∙ c.if-is_zone0_unfull.false) c.find_copies.ensures
