use Rattle.std.proofs.Common.{◌≢◌, ◌<◌, ◌∙◌, length, All, refl, ap, subst, arith}
use Rattle.zn_model.specs.declared.limits.TheConstants.{MAX_HANDLES}
use Rattle.zn_model.specs.Volume.{with_live}
use Rattle.zn_handle.specs.declared.handles.Entry.{Entry}
use Rattle.zn_handle.specs.HandleState.{HandleState}
use Rattle.zn_handle.specs.Kept.{handles_of}
use Rattle.zn_handle.specs.Slots.{live_of}
use Rattle.zn_handle.proofs.SlotSteps.{older_lives, other_keys}
use Rattle.zn_handle.proofs.KeptLaws.{kept_put, seen_of_put}
use Rattle.zn_handle.proofs.handles.Handles.insert.Goals as goal

pub invariant_of-self : goal.invariant_of-self
invariant_of-self c =
    let a = c.self.inside in
    let kept = c.self.invariant in
    let put = c.insert_reserved-key in
    let e : Entry = record { file = c.args.file; mode = c.args.mode; generation = a.opened } in
    let room : length (handles_of a).live < MAX_HANDLES = omega (arith, kept.len, c.len.ensures, c.if-len.false) in
    let file : c.args.file < length a.writers.counts = omega (arith, ap (λ s. s.files) c.self.view_is, c.requires.file) in
    kept_put a kept put.new.self c.open.new.self put.result e room refl file put.ensures.was_vacant put.ensures.updates put.ensures.len put.ensures.capacity c.open.ensures

pub returns-clause-added : goal.returns-clause-added
returns-clause-added c =
    let a = c.self.inside in
    let kept = c.self.invariant in
    let put = c.insert_reserved-key in
    let e : Entry = record { file = c.args.file; mode = c.args.mode; generation = a.opened } in
    let room : length (handles_of a).live < MAX_HANDLES = omega (arith, kept.len, c.len.ensures, c.if-len.false) in
    let file : c.args.file < length a.writers.counts = omega (arith, ap (λ s. s.files) c.self.view_is, c.requires.file) in
    let more = seen_of_put a kept put.new.self c.open.new.self put.result e room refl file put.ensures.was_vacant put.ensures.updates put.ensures.len put.ensures.capacity c.open.ensures in
    more ∙ ap {A = HandleState} (λ s. record s { handles = with_live s.handles (live_of put.result e) }) c.self.view_is

pub returns-clause-older : goal.returns-clause-older
returns-clause-older c =
    let a = c.self.inside in
    subst (λ s. All (λ live. live.handle.generation < a.opened) s.handles.live) c.self.view_is (older_lives a.slots.slots a.opened)

pub returns-clause-key : goal.returns-clause-key
returns-clause-key c =
    let a = c.self.inside in
    let put = c.insert_reserved-key in
    subst (λ s. All (λ live. live.handle.key ≢ put.result) s.handles.live) c.self.view_is (other_keys a.slots.slots a.opened put.result put.ensures.was_vacant)
