use Rattle.std.proofs.Common.{◌≡◌, false, Some, sym, ap, ◌∙◌}
use Rattle.zn_session.specs.SessionState.{bare_held}
use Rattle.zn_session.specs.Steps.{Dropped}
use Rattle.zn_session.specs.declared.held.Held.TheVariants.{Bare, Mounted as OnVolume}
use Rattle.zn_session.proofs.HeldCases.{with_volume, of_volume, without_volume, bare_numbered, of_bare}
use Rattle.zn_session.proofs.MountLines.{dropped, bare_still}
use Rattle.zn_session.proofs.held.drop_unpowered.Goals as goal

pub returns-in-Some-Mounted-clause-dropped : goal.returns-in-Some-Mounted-clause-dropped
returns-in-Some-Mounted-clause-dropped g c =
    let is : c.args.held.now ≡ Some (OnVolume c.in-Some-Mounted.volume) = sym c.take.ensures.value ∙ c.in-Some-Mounted.is ∙ ap Some c.in-Some-Mounted.field-0-is in
    let seen = c.in-Some-Mounted.volume in
    with_volume g.D.Zoned.state c.args.held.now seen is (λ h. Dropped h (bare_held (g.D.Zoned.state c.into_device.result)) c.args.numbers.now.items c.free_all.new.numbers.items)
    (dropped seen _ c.args.numbers.now.items c.free_all.new.numbers.items (of_volume g.D.Zoned.state c.args.held.now seen is (λ h. h.device.world.powered ≡ false) (sym c.powered.ensures ∙ c.if-powered.false)) c.into_device.ensures c.free_all.ensures)

pub returns-in-Some-Bare-clause-dropped : goal.returns-in-Some-Bare-clause-dropped
returns-in-Some-Bare-clause-dropped g c =
    let is : c.args.held.now ≡ Some (Bare c.in-Some-Bare.dev) = sym c.take.ensures.value ∙ c.in-Some-Bare.is ∙ ap Some c.in-Some-Bare.field-0-is in
    let d = g.D.Zoned.state c.in-Some-Bare.dev in
    without_volume g.D.Zoned.state c.args.held.now c.in-Some-Bare.dev is (λ h. Dropped h (bare_held d) c.args.numbers.now.items c.args.numbers.now.items)
    (bare_still d c.args.numbers.now.items (of_bare g.D.Zoned.state c.args.held.now c.in-Some-Bare.dev is (λ h. h.device.world.powered ≡ false) (sym c.powered.ensures ∙ c.if-powered.false)) (bare_numbered g.D.Zoned.state c.args.held.now c.in-Some-Bare.dev is c.args.numbers.now.items c.requires.numbered))
