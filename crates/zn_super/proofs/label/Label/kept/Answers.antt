use Rattle.std.proofs.Common.{ℕ, List, ◌++◌, length, drop, replicate, sym, subst}
use Rattle.zn_super.specs.Labels.{IsKept}
use Rattle.zn_super.proofs.Labels.{kept_is}
use Rattle.zn_super.proofs.label.Label.kept.Goals as goal

pub invariant_of-result : goal.invariant_of-result
invariant_of-result c =
    subst (λ (copied : List ℕ). IsKept (copied ++ drop (length c.args.text.now) (replicate 64 0)) (length c.args.text.now)) (sym c.copy_from_slice.ensures.after) (kept_is c.args.text.now c.requires)
