use Rattle.std.proofs.Common.{◌≤◌, length, refl, sym, ◌∙◌, subst, arith, Err}
use Rattle.zn_model.specs.declared.answers.MountError.TheVariants.{NotFormatted}
use Rattle.zn_model.specs.declared.answers.Why.{Why}
use Rattle.zn_volume.specs.MountSteps.{read_copies, Finds}
use Rattle.std.proofs.Common.{[], ◌∷◌}
use Rattle.zn_volume.proofs.Finding.{super_block_read, no_super_block_read}
use Rattle.zn_volume.proofs.commands.find_copies.Goals as goal

pub returns-in-Ok : goal.returns-in-Ok
returns-in-Ok g c =
    let long : 8192 ≤ length c.read_copies.new.scratch = omega (arith, c.read_copies.auto.scratch, c.requires.room) in
    super_block_read c.read_copies.new.scratch c.in-Ok.super_block _ _ c.in_default.ensures.done c.requires.full long c.read_copies.ensures.given (c.in_default.ensures.bytes refl) (sym c.in-Ok.is ∙ c.decoded.ensures)

pub returns-in-Err-decoded : goal.returns-in-Err-decoded
returns-in-Err-decoded g c =
    let long : 8192 ≤ length c.read_copies.new.scratch = omega (arith, c.read_copies.auto.scratch, c.requires.room) in
    subst (λ (why : Why). Finds (λ given t. read_copies ∷ []) (Err (NotFormatted why)) (g.D.Zoned.state c.args.dev.now) (g.D.Zoned.state c.read_copies.new.dev)) (sym c.why.ensures)
    (no_super_block_read c.read_copies.new.scratch c.in-Err-decoded.error _ _ c.in_default.ensures.done c.requires.full long c.read_copies.ensures.given (c.in_default.ensures.bytes refl) (sym c.in-Err-decoded.is ∙ c.decoded.ensures))
