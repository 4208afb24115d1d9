use Rattle.std.proofs.Common.{◌≡◌, Option, None, replicate, ap, ◌∙◌, arith}
use Rattle.zn_model.specs.declared.handles.Handle.{Handle}
use Rattle.zn_session.proofs.session.no_handles.Goals as goal

pub returns : goal.returns
returns c = let none : Option Handle = None in let end : c.loop.counter ≡ 2048 = omega arith in c.loop.invariant ∙ ap (λ k. replicate k none) end
