use Rattle.std.proofs.Common.{ℕ, List, Ok, ap, ◌∙◌, sym, subst, ◌≤◌}
use Rattle.zn_model.specs.SuperBlock.{SuperBlock, decoded}
use Rattle.zn_model.proofs.SuperBlocksEncoded.{encoded_decodes}
use Rattle.zn_super.proofs.block.Super.encode.Goals as goal

pub returns-clause-back : goal.returns-clause-back
returns-clause-back c =
    let small = subst (λ (s : SuperBlock). s.perm ≤ 0o777) (sym c.self.view_is) c.requires in
    ap (λ (block : List ℕ). decoded block block) c.put_fields.ensures.block
    ∙ encoded_decodes _ (c.put_fields.ensures.sound small)
    ∙ ap Ok c.self.view_is
