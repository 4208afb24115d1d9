use Rattle.std.proofs.Common.{rules, Err, length, refl, sym, ap, ◌∙◌}
use Rattle.std.proofs.lemmas.Grind.{common_steps}
use Rattle.zn_truth.specs.Truth.{Geometry}
use Rattle.zn_truth.specs.World.{geometry_of}
use Rattle.zn_device.specs.States.{Ordered}
use Rattle.zn_mkfs.specs.Commands.{writes}
use Rattle.zn_mkfs.proofs.ResetLaws.{places_are, emptied_failed, reset_failed, all_written}
use Rattle.zn_mkfs.proofs.formatting.write_all.Goals as goal

pub reset_others-requires-clause-zones : goal.reset_others-requires-clause-zones
reset_others-requires-clause-zones g c =
    places_are (g.D.Zoned.state c.args.dev.now).world c.args.infos.now c.requires.infos ∙ ap (λ (g : Geometry). length g.kinds) (sym c.empty.ensures.done.obeys.geometry)

pub returns-in_err-empty : goal.returns-in_err-empty
returns-in_err-empty g c =
    let state = g.D.Zoned.state in
    let w = (state c.args.dev.now).world in
    let h : Ordered (writes w.truth c.args.block.now) (Err c.in_err-empty.field-0.0) (state c.args.dev.now) (state c.empty.new.dev) =
    emptied_failed w c.args.infos.now c.args.block.now c.is_zone0_sequential-sequential.result (geometry_of w) c.requires.infos c.is_zone0_sequential-sequential.ensures refl _ _ _ c.in_err-empty.ensures.done in
    grind (rules, common_steps, h)

pub returns-in_err-reset_others : goal.returns-in_err-reset_others
returns-in_err-reset_others g c =
    let state = g.D.Zoned.state in
    let w = (state c.args.dev.now).world in
    let h : Ordered (writes w.truth c.args.block.now) (Err c.in_err-reset_others.field-0.0) (state c.args.dev.now) (state c.reset_others.new.dev) =
    reset_failed w c.args.infos.now c.args.block.now c.is_zone0_sequential-sequential.result (geometry_of (state c.empty.new.dev).world) c.requires.infos c.is_zone0_sequential-sequential.ensures c.empty.ensures.done.obeys.geometry _ _ _ _ c.in_ok-empty.ensures.done c.in_err-reset_others.ensures.done in
    grind (rules, common_steps, h)

pub returns : goal.returns
returns g c =
    let state = g.D.Zoned.state in
    let w = (state c.args.dev.now).world in
    record {
      done = all_written w c.args.infos.now c.args.block.now c.is_zone0_sequential-sequential.result (geometry_of (state c.empty.new.dev).world) c.requires.infos c.is_zone0_sequential-sequential.ensures c.empty.ensures.done.obeys.geometry _ _ _ _ _ c.in_ok-empty.ensures.done c.in_ok-reset_others.ensures.done c.write_copies.ensures.done;
    }
