use Rattle.std.proofs.Common.{◌≤◌, ap, arith}
use Rattle.zn_handle.proofs.KeptLaws.{seen_of_none, kept_none}
use Rattle.zn_handle.proofs.handles.Handles.new.Goals as goal

pub invariant_of-result : goal.invariant_of-result
invariant_of-result c =
    let slots = c.in_ok-empty_slots in
    let some : c.in_ok-new.field-0.cnv ≤ c.args.files = omega (arith, ap (λ w. w.cnv) c.in_ok-new.ensures, c.requires) in
    kept_none slots.field-0 c.in_ok-new.field-0 slots.ensures.empty c.args.files (ap (λ w. w.counts) c.in_ok-new.ensures) some slots.ensures.room slots.ensures.keys

pub returns : goal.returns
returns c =
    seen_of_none c.in_ok-empty_slots.field-0 c.in_ok-new.field-0 c.in_ok-empty_slots.ensures.empty c.args.cnv c.args.files c.in_ok-new.ensures
