use Rattle.std.proofs.Common.{arith, length, refl, sym, ap, ◌∙◌, subst}
use Rattle.std.specs.Prelude.{vec_capacity}
use Rattle.std.proofs.lemmas.Result.{err_from_is_err_and}
use Rattle.zn_truth.specs.Limits.{IsWithinLimits}
use Rattle.zn_truth.specs.Truth.{geometry}
use Rattle.zn_model.specs.Mounting.{fresh_inodes}
use Rattle.zn_model.specs.SuperBlock.{SuperBlock}
use Rattle.zn_model.specs.ZoneFiles.{layout_of}
use Rattle.zn_queue.specs.QueueState.{QueueState}
use Rattle.zn_volume.proofs.MountCauses.{mount_caused}
use Rattle.zn_volume.proofs.Mounted.{geometry-of, fresh_agrees}
use Rattle.zn_volume.proofs.mounting.take_parts.Goals as goal

pub returns-in_err-super_block-clause-failed : goal.returns-in_err-super_block-clause-failed
returns-in_err-super_block-clause-failed g c =
    let within = subst IsWithinLimits (sym (geometry-of (g.D.Zoned.state c.args.dev.now).world)) (g.met.D.Zoned.is_within c.args.dev.now) in
    let p = err_from_is_err_and c.from_residual.result c.from_residual.ensures.1 in
    rw (p.1, p.2) (λ opts. mount_caused opts c.in_err-super_block.field-0.0 _ _ c.requires.unspoilt (g.met.D.Zoned.is_sound c.args.dev.now) within c.in_err-super_block.ensures.found)

pub returns-clause-inodes : goal.returns-clause-inodes
returns-clause-inodes g c =
    let same = geometry-of (g.D.Zoned.state c.args.dev.now).world ∙ sym c.in_ok-super_block.ensures.found.done.obeys.geometry in
    c.filled.ensures.inodes (g.D.Zoned.state c.args.dev.now).world.truth same (c.in_ok-super_block.ensures.infos refl)
    ∙ ap (λ (s : SuperBlock). fresh_inodes (g.D.Zoned.state c.args.dev.now).world.truth (layout_of (geometry (g.D.Zoned.state c.args.dev.now).world.truth).kinds s.aggr_cnv)) (sym c.filled.ensures.super_block)

pub returns-clause-agrees : goal.returns-clause-agrees
returns-clause-agrees g c =
    let D = g.D.Zoned in
    let same = geometry-of (g.D.Zoned.state c.args.dev.now).world ∙ sym c.in_ok-super_block.ensures.found.done.obeys.geometry in
    fresh_agrees (D.state c.args.dev.now).world (D.state c.carry_out.new.dev).world c.in_ok-super_block.super_block.aggr_cnv c.filled.result.inodes c.filled.result.handles c.filled.result.queue.queue (length c.filled.result.infos.items) (vec_capacity c.filled.result.scratch)
    (g.met.D.Zoned.is_sound c.args.dev.now) (g.met.D.Zoned.is_within c.args.dev.now) c.in_ok-super_block.ensures.found.done.obeys.geometry
    (c.filled.ensures.inodes (D.state c.args.dev.now).world.truth same (c.in_ok-super_block.ensures.infos refl))
    c.filled.ensures.cnv c.filled.ensures.known
    (ap (λ (q : QueueState). q.queue) c.filled.ensures.queue ∙ c.in-Ok.ensures.queue)
    (ap (λ v. length v.items) c.filled.ensures.infos ∙ c.in_ok-super_block.ensures.places ∙ c.in-Ok.ensures.infos)
    (omega (arith, ap (λ v. vec_capacity v) c.filled.ensures.scratch, c.in_ok-super_block.ensures.room, c.in-Ok.ensures.scratch))
