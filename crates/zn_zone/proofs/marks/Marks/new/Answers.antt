use Rattle.std.proofs.Common.{◌≡◌, ℕ, List, replicate, ap, ◌∙◌, sym, subst}
use Rattle.zn_zone.specs.Marks.{marks_in, IsSummed}
use Rattle.zn_zone.proofs.MarkLaws.{none_marked, none_summed}
use Rattle.zn_zone.proofs.marks.Marks.new.Goals as goal

pub invariant_of-result : goal.invariant_of-result
invariant_of-result c =
    let same : c.in_ok-lanes.lanes.items ≡ replicate c.div_ceil.result 0 =
    c.in_ok-lanes.ensures.items_if_clones_equal (λ y h. h) in
    subst (λ (lanes : List ℕ). IsSummed c.args.bound 0 lanes)
    (sym (same ∙ ap (λ n. replicate n 0) c.div_ceil.ensures)) (none_summed c.args.bound c.requires)

pub returns : goal.returns
returns c =
    let same : c.in_ok-lanes.lanes.items ≡ replicate c.div_ceil.result 0 =
    c.in_ok-lanes.ensures.items_if_clones_equal (λ y h. h) in
    ap (λ (lanes : List ℕ). marks_in lanes c.args.bound) same ∙ none_marked c.div_ceil.result c.args.bound
