use Rattle.std.proofs.Common.{◌∙◌, sym, ap}
use Rattle.std.specs.Option.{option_map}
use Rattle.zn_model.specs.Volume.{live_at}
use Rattle.zn_handle.specs.HandleState.{open_of}
use Rattle.zn_handle.proofs.SlotSteps.{find_absent}
use Rattle.zn_handle.proofs.KeptLaws.{split_at_handle}
use Rattle.zn_handle.proofs.handles.Handles.get.Goals as goal

pub returns-in_err-entry-clause-open : goal.returns-in_err-entry-clause-open
returns-in_err-entry-clause-open c =
    let a = c.self.inside in
    let missing = find_absent a.slots.slots a.opened c.args.h c.in_err-entry.ensures.absent in
    c.from_residual.ensures ∙ sym (ap (option_map open_of) missing) ∙ ap (λ s. option_map open_of (live_at s.handles c.args.h)) c.self.view_is

pub returns-clause-open : goal.returns-clause-open
returns-clause-open c =
    let entry = c.in_ok-entry in
    let split = split_at_handle c.self.inside c.self.invariant.apart c.args.h entry.entry entry.ensures.key entry.ensures.generation in
    sym (ap (option_map open_of) split.found) ∙ ap (λ s. option_map open_of (live_at s.handles c.args.h)) c.self.view_is
