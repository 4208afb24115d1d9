use Rattle.std.proofs.Common.{◌≡◌, ℕ, false, length, replicate, ap, ◌∙◌, arith}
use Rattle.zn_zone.specs.Machine.{active_in}
use Rattle.zn_zone.proofs.KeptLaws.{kept_start}
use Rattle.zn_zone.proofs.states.States.new.Goals as goal

pub invariant_of-result : goal.invariant_of-result
invariant_of-result c =
    let count : c.len.result ≡ length c.args.zones.items = omega (arith, c.len.ensures) in
    kept_start c.args.zones.items c.count_active-active.result c.in_ok-implicit.implicit c.requires.few
    c.requires.closed
    (c.count_active-active.ensures ∙ ap active_in c.deref.ensures.value)
    (c.in_ok-implicit.ensures ∙ ap (λ (n : ℕ). replicate n false) count)
