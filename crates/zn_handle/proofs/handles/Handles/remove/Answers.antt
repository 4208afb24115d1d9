use Rattle.std.proofs.Common.{◌≡◌, ◌∙◌, sym, ap, subst, arith}
use Rattle.std.specs.Option.{option_map}
use Rattle.zn_model.specs.Volume.{live_at, without_live}
use Rattle.zn_handle.specs.HandleState.{HandleState, open_of}
use Rattle.zn_handle.specs.Kept.{handles_of}
use Rattle.zn_handle.specs.Slots.{live_of}
use Rattle.zn_handle.proofs.SlotSteps.{find_absent}
use Rattle.zn_handle.proofs.KeptLaws.{split_at_handle, writers_of-without_live, kept_taken, seen_of_taken, seen_of_absent}
use Rattle.zn_handle.proofs.handles.Handles.remove.Goals as goal

pub returns-in_err-closed-clause-open : goal.returns-in_err-closed-clause-open
returns-in_err-closed-clause-open c =
    let a = c.self.inside in
    let missing = find_absent a.slots.slots a.opened c.args.h c.in_err-closed.ensures.absent in
    c.from_residual.ensures ∙ sym (ap (option_map open_of) missing) ∙ ap (λ s. option_map open_of (live_at s.handles c.args.h)) c.self.view_is

pub returns-in_err-closed-clause-rest : goal.returns-in_err-closed-clause-rest
returns-in_err-closed-clause-rest c =
    subst (λ s. s ≡ record s { handles = without_live s.handles c.args.h }) c.self.view_is (seen_of_absent c.self.inside c.args.h c.in_err-closed.ensures.absent)

pub close-requires-clause-counted : goal.close-requires-clause-counted
close-requires-clause-counted c =
    let a = c.self.inside in
    let kept = c.self.invariant in
    let entry = c.in_ok-closed in
    let e = entry.closed in
    let split = split_at_handle a kept.apart c.args.h e entry.ensures.key entry.ensures.generation in
    omega (arith, kept.counted e.file (kept.within c.args.h.key e entry.ensures.key), writers_of-without_live (handles_of a) c.args.h (live_of c.args.h.key e) split e.file)

pub invariant_of-self : goal.invariant_of-self
invariant_of-self c =
    let entry = c.in_ok-closed in
    let removed = c.remove.ensures in
    kept_taken c.self.inside c.self.invariant c.remove.new.self c.close.new.self c.args.h entry.closed entry.ensures.key entry.ensures.generation removed.updates removed.len removed.capacity c.close.ensures

pub returns-clause-open : goal.returns-clause-open
returns-clause-open c =
    let entry = c.in_ok-closed in
    let split = split_at_handle c.self.inside c.self.invariant.apart c.args.h entry.closed entry.ensures.key entry.ensures.generation in
    sym (ap (option_map open_of) split.found) ∙ ap (λ s. option_map open_of (live_at s.handles c.args.h)) c.self.view_is

pub returns-clause-rest : goal.returns-clause-rest
returns-clause-rest c =
    let entry = c.in_ok-closed in
    let removed = c.remove.ensures in
    let left = seen_of_taken c.self.inside c.self.invariant c.remove.new.self c.close.new.self c.args.h entry.closed entry.ensures.key entry.ensures.generation removed.updates removed.len removed.capacity c.close.ensures in
    left ∙ ap {A = HandleState} (λ s. record s { handles = without_live s.handles c.args.h }) c.self.view_is
