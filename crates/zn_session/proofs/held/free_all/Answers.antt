use Rattle.std.proofs.Common.{◌≡◌, ◌∙◌, None, Option, replicate, ap, rules, vec_len}
use Rattle.zn_lines.specs.declared.limits.TheConstants.{MAX_NUMBERS}
use Rattle.zn_model.specs.declared.handles.Handle.{Handle}
use Rattle.zn_session.proofs.held.free_all.Goals as goal

pub returns : goal.returns
returns c =
    let none : Option Handle = None in
    let count : vec_len c.args.numbers.now ≡ MAX_NUMBERS = search rules in
    c.fill.ensures.items (λ y is. search rules) ∙ ap (λ n. replicate n none) count
