use Rattle.std.proofs.Common.{◌≡◌, ℕ, List, length, take, drop, Ok, Err, refl, sym, ap, ◌∙◌, subst, arith}
use Rattle.std.specs.Prelude.{Result}
use Rattle.std.proofs.lemmas.Grind.{common_steps}
use Rattle.zn_truth.specs.declared.Shape.{Shape}
use Rattle.zn_device.specs.States.{Ordered}
use Rattle.zn_model.specs.declared.answers.Refusal.{Refusal}
use Rattle.zn_model.specs.declared.files.FileZones.{FileZones}
use Rattle.zn_model.specs.declared.files.Shown.{Shown}
use Rattle.zn_model.specs.Pieces.{writes}
use Rattle.zn_model.specs.CallAnswers.{Answer}
use Rattle.zn_model.specs.Volume.{Volume, Inodes, Queue, Request, file_at, shown_at, with_shown}
use Rattle.zn_model.specs.Writing.{area_of, grown}
use Rattle.zn_io.specs.Files.{IsWritable}
use Rattle.zn_queue.specs.QueueState.{request_of}
use Rattle.zn_volume.specs.VolumeState.{VolumeState}
use Rattle.zn_volume.proofs.Causing.{answered_caused}
use Rattle.zn_volume.proofs.InFlight.{first_in_place, first_writable}
use Rattle.zn_volume.proofs.IoErrors.{write_fails}
use Rattle.zn_volume.proofs.Keeping.{agrees_on, agrees_done}
use Rattle.zn_volume.proofs.Carrying.{issued_so, failed_is, done_is, first_ticket, failed_request, faults_later, failed_outcome, done_outcome}
use Rattle.zn_volume.proofs.volume.Volume.complete_by.Goals as goal

pub invariant_of-self-in-Err : goal.invariant_of-self-in-Err
invariant_of-self-in-Err g c =
    agrees_on (g.D.Zoned.state c.self.inside.dev).world _ _ _ _ _ _ _ c.write_file.ensures.done.obeys.geometry (grind (arith, common_steps)) c.self.invariant

pub returns-in-Err-clause-reply : goal.returns-in-Err-clause-reply
returns-in-Err-clause-reply g c =
    let v : Volume = record { super_block = c.self.inside.super_block; policy = c.self.inside.policy; explicit_open = c.self.inside.explicit_open; inodes = c.self.inside.inodes; handles = c.self.inside.handles.handles; queue = c.self.inside.queue.queue } in
    let r : Request = request_of c.in-Some.request (take c.in-Some.request.len c.oldest_of.new.scratch.items) in
    let there : take c.in-Some.request.len c.deref.result.now ≡ take c.in-Some.request.len c.oldest_of.new.scratch.items = ap (λ (l : List ℕ). take c.in-Some.request.len l) c.deref.ensures.value in
    let waiting : List Request = drop 1 c.self.inside.queue.queue.queued in
    let first = c.in-Some.ensures.oldest in
    let done = issued_so (record { super_block = c.self.inside.super_block; policy = c.self.inside.policy; explicit_open = c.self.inside.explicit_open; inodes = c.self.inside.inodes; handles = c.self.inside.handles.handles; queue = c.self.inside.queue.queue }) c.file-file.result c.in-Some.request.file c.in-Some.request.offset (take c.in-Some.request.len c.oldest_of.new.scratch.items) (take c.in-Some.request.len c.deref.result.now) _ _ _ c.file-file.ensures c.self.invariant.shape there c.in-Err.ensures.done in
    rw (← c.self.view_is) (λ unspoilt.
    c.complete_failed.ensures.reply unspoilt r waiting first
    ∙ ap (λ (a : Answer ℕ). a.reply) (sym (failed_is v (g.D.Zoned.state c.self.inside.dev) (g.D.Zoned.state c.write_file.new.dev) c.complete_failed.new.self.device r waiting c.in-Err.error first done
    (λ passed. ap (λ (s : VolumeState). s.device) (c.complete_failed.ensures.still passed)) unspoilt)))

pub returns-in-Err-clause-mounted : goal.returns-in-Err-clause-mounted
returns-in-Err-clause-mounted g c =
    let v : Volume = record { super_block = c.self.inside.super_block; policy = c.self.inside.policy; explicit_open = c.self.inside.explicit_open; inodes = c.self.inside.inodes; handles = c.self.inside.handles.handles; queue = c.self.inside.queue.queue } in
    let r : Request = request_of c.in-Some.request (take c.in-Some.request.len c.oldest_of.new.scratch.items) in
    let there : take c.in-Some.request.len c.deref.result.now ≡ take c.in-Some.request.len c.oldest_of.new.scratch.items = ap (λ (l : List ℕ). take c.in-Some.request.len l) c.deref.ensures.value in
    let waiting : List Request = drop 1 c.self.inside.queue.queue.queued in
    let first = c.in-Some.ensures.oldest in
    let done = issued_so (record { super_block = c.self.inside.super_block; policy = c.self.inside.policy; explicit_open = c.self.inside.explicit_open; inodes = c.self.inside.inodes; handles = c.self.inside.handles.handles; queue = c.self.inside.queue.queue }) c.file-file.result c.in-Some.request.file c.in-Some.request.offset (take c.in-Some.request.len c.oldest_of.new.scratch.items) (take c.in-Some.request.len c.deref.result.now) _ _ _ c.file-file.ensures c.self.invariant.shape there c.in-Err.ensures.done in
    rw (← c.self.view_is) (λ unspoilt.
    c.complete_failed.ensures.mounted unspoilt r waiting first
    ∙ ap (λ (a : Answer ℕ). a.mounted) (sym (failed_is v (g.D.Zoned.state c.self.inside.dev) (g.D.Zoned.state c.write_file.new.dev) c.complete_failed.new.self.device r waiting c.in-Err.error first done
    (λ passed. ap (λ (s : VolumeState). s.device) (c.complete_failed.ensures.still passed)) unspoilt)))

pub returns-in-Err-clause-cause : goal.returns-in-Err-clause-cause
returns-in-Err-clause-cause g c =
    rw (← c.self.view_is) (failed_request _ c.in-Err.error c.complete_failed.result _ (g.D.Zoned.state c.write_file.new.dev) c.complete_failed.new.self.device c.in-Err.ensures.done c.complete_failed.ensures.passed_on
    (λ passed. ap (λ (s : VolumeState). s.device) (c.complete_failed.ensures.still passed)) c.complete_failed.ensures.cause)

pub returns-in-Err-clause-outcome : goal.returns-in-Err-clause-outcome
returns-in-Err-clause-outcome g c =
    let D = g.D.Zoned in
    let inodes : Inodes = c.self.inside.inodes in
    let v : Volume = record { super_block = c.self.inside.super_block; policy = c.self.inside.policy; explicit_open = c.self.inside.explicit_open; inodes = c.self.inside.inodes; handles = c.self.inside.handles.handles; queue = c.self.inside.queue.queue } in
    let r : Request = request_of c.in-Some.request (take c.in-Some.request.len c.oldest_of.new.scratch.items) in
    let there : take c.in-Some.request.len c.deref.result.now ≡ take c.in-Some.request.len c.oldest_of.new.scratch.items = ap (λ (l : List ℕ). take c.in-Some.request.len l) c.deref.ensures.value in
    let waiting : List Request = drop 1 c.self.inside.queue.queue.queued in
    let first = c.in-Some.ensures.oldest in
    let place = first_in_place c.self.inside.inodes c.self.inside.queue.queue.queued (request_of c.in-Some.request (take c.in-Some.request.len c.oldest_of.new.scratch.items)) (drop 1 c.self.inside.queue.queue.queued) c.in-Some.ensures.oldest c.self.invariant.flight in
    let writable = subst (λ (shape : Shape). IsWritable shape (file_at c.self.inside.inodes c.in-Some.request.file) (shown_at c.self.inside.inodes c.in-Some.request.file) c.in-Some.request.offset (length (take c.in-Some.request.len c.oldest_of.new.scratch.items))) c.self.invariant.shape
    (first_writable c.self.inside.inodes c.self.inside.queue.queue.queued (request_of c.in-Some.request (take c.in-Some.request.len c.oldest_of.new.scratch.items)) (drop 1 c.self.inside.queue.queue.queued) c.in-Some.ensures.oldest c.self.invariant.flight) in
    let alike : VolumeState = record { device = D.state c.self.inside.dev; volume = v } in
    let plain = issued_so (record { super_block = c.self.inside.super_block; policy = c.self.inside.policy; explicit_open = c.self.inside.explicit_open; inodes = c.self.inside.inodes; handles = c.self.inside.handles.handles; queue = c.self.inside.queue.queue }) c.file-file.result c.in-Some.request.file c.in-Some.request.offset (take c.in-Some.request.len c.oldest_of.new.scratch.items) (take c.in-Some.request.len c.deref.result.now) _ _ _ c.file-file.ensures c.self.invariant.shape there c.in-Err.ensures.done in
    rw (← c.self.view_is) (failed_outcome alike c.complete_failed.new.self (D.state c.write_file.new.dev) c.complete_failed.result c.in-Err.error c.in-Some.request.file r waiting first
    c.complete_failed.ensures.waits c.complete_failed.ensures.ended c.complete_failed.ensures.passed_on
    (write_fails c.in-Err.error (file_at inodes c.in-Some.request.file) (shown_at inodes c.in-Some.request.file) c.in-Some.request.offset (take c.in-Some.request.len c.oldest_of.new.scratch.items) (D.state c.self.inside.dev) (D.state c.write_file.new.dev) (c.self.invariant.files c.in-Some.request.file place.known) (c.self.invariant.single c.in-Some.request.file place.known) writable place.follows
    (subst (λ (shape : Shape). Ordered (writes (area_of shape (file_at c.self.inside.inodes c.in-Some.request.file) c.in-Some.request.offset (length (take c.in-Some.request.len c.oldest_of.new.scratch.items))) (take c.in-Some.request.len c.oldest_of.new.scratch.items)) (Err c.in-Err.error) (g.D.Zoned.state c.self.inside.dev) (g.D.Zoned.state c.write_file.new.dev)) c.self.invariant.shape plain))
    (faults_later c.in-Err.error c.complete_failed.result (D.state c.write_file.new.dev) c.complete_failed.new.self.device (λ passed. ap (λ (s : VolumeState). s.device) (c.complete_failed.ensures.still passed)) c.complete_failed.ensures.cause))

pub invariant_of-self-2 : goal.invariant_of-self-2
invariant_of-self-2 g c =
    let there : take c.in-Some.request.len c.deref.result.now ≡ take c.in-Some.request.len c.oldest_of.new.scratch.items = ap (λ (l : List ℕ). take c.in-Some.request.len l) c.deref.ensures.value in
    let grows : c.write_file.new.shown ≡ grown c.self.inside.inodes.shape (file_at c.self.inside.inodes c.in-Some.request.file) (shown_at c.self.inside.inodes c.in-Some.request.file) (length (take c.in-Some.request.len c.oldest_of.new.scratch.items)) =
    c.in_default-write_file.ensures.shown
    ∙ ap (λ (shape : Shape). grown shape c.file-file.result c.shown-shown.result (length (take c.in-Some.request.len c.deref.result.now))) (sym c.self.invariant.shape)
    ∙ ap (λ (file : FileZones). grown c.self.inside.inodes.shape file c.shown-shown.result (length (take c.in-Some.request.len c.deref.result.now))) c.file-file.ensures
    ∙ ap (λ (shown : Shown). grown c.self.inside.inodes.shape (file_at c.self.inside.inodes c.in-Some.request.file) shown (length (take c.in-Some.request.len c.deref.result.now))) c.shown-shown.ensures
    ∙ ap (λ (l : List ℕ). grown c.self.inside.inodes.shape (file_at c.self.inside.inodes c.in-Some.request.file) (shown_at c.self.inside.inodes c.in-Some.request.file) (length l)) there in
    let left : c.finish.new.self.queue.queued ≡ drop 1 c.self.inside.queue.queue.queued = ap (λ (q : Queue). q.queued) c.finish.ensures.queue in
    agrees_done (g.D.Zoned.state c.self.inside.dev).world _ c.self.inside.inodes _ c.write_file.new.shown _ _ (request_of c.in-Some.request (take c.in-Some.request.len c.oldest_of.new.scratch.items)) _ _ _ _ _ c.in_default-write_file.ensures.done.obeys.geometry (grind (arith, common_steps)) c.in-Some.ensures.oldest left grows c.set.ensures.set c.set.ensures.within c.self.invariant

pub returns-clause-reply : goal.returns-clause-reply
returns-clause-reply g c =
    let v : Volume = record { super_block = c.self.inside.super_block; policy = c.self.inside.policy; explicit_open = c.self.inside.explicit_open; inodes = c.self.inside.inodes; handles = c.self.inside.handles.handles; queue = c.self.inside.queue.queue } in
    let r : Request = request_of c.in-Some.request (take c.in-Some.request.len c.oldest_of.new.scratch.items) in
    let there : take c.in-Some.request.len c.deref.result.now ≡ take c.in-Some.request.len c.oldest_of.new.scratch.items = ap (λ (l : List ℕ). take c.in-Some.request.len l) c.deref.ensures.value in
    let waiting : List Request = drop 1 c.self.inside.queue.queue.queued in
    let first = c.in-Some.ensures.oldest in
    let done = issued_so (record { super_block = c.self.inside.super_block; policy = c.self.inside.policy; explicit_open = c.self.inside.explicit_open; inodes = c.self.inside.inodes; handles = c.self.inside.handles.handles; queue = c.self.inside.queue.queue }) c.file-file.result c.in-Some.request.file c.in-Some.request.offset (take c.in-Some.request.len c.oldest_of.new.scratch.items) (take c.in-Some.request.len c.deref.result.now) _ _ _ c.file-file.ensures c.self.invariant.shape there c.in_default-write_file.ensures.done in
    let grows : c.write_file.new.shown ≡ grown c.self.inside.inodes.shape (file_at c.self.inside.inodes c.in-Some.request.file) (shown_at c.self.inside.inodes c.in-Some.request.file) (length (take c.in-Some.request.len c.oldest_of.new.scratch.items)) =
    c.in_default-write_file.ensures.shown
    ∙ ap (λ (shape : Shape). grown shape c.file-file.result c.shown-shown.result (length (take c.in-Some.request.len c.deref.result.now))) (sym c.self.invariant.shape)
    ∙ ap (λ (file : FileZones). grown c.self.inside.inodes.shape file c.shown-shown.result (length (take c.in-Some.request.len c.deref.result.now))) c.file-file.ensures
    ∙ ap (λ (shown : Shown). grown c.self.inside.inodes.shape (file_at c.self.inside.inodes c.in-Some.request.file) shown (length (take c.in-Some.request.len c.deref.result.now))) c.shown-shown.ensures
    ∙ ap (λ (l : List ℕ). grown c.self.inside.inodes.shape (file_at c.self.inside.inodes c.in-Some.request.file) (shown_at c.self.inside.inodes c.in-Some.request.file) (length l)) there in
    let after : c.set.new.self ≡ with_shown c.self.inside.inodes c.in-Some.request.file (grown c.self.inside.inodes.shape (file_at c.self.inside.inodes c.in-Some.request.file) (shown_at c.self.inside.inodes c.in-Some.request.file) (length (take c.in-Some.request.len c.oldest_of.new.scratch.items))) =
    c.set.ensures.set ∙ ap (λ (shown : Shown). with_shown c.self.inside.inodes c.in-Some.request.file shown) grows in
    let answer = done_is v (g.D.Zoned.state c.self.inside.dev) (g.D.Zoned.state c.write_file.new.dev) c.set.new.self c.finish.new.self.queue r waiting first done after c.finish.ensures.queue in
    rw (← c.self.view_is) (λ unspoilt.
    ap (λ (n : ℕ). let r : Result ℕ Refusal = Ok n in r) (first_ticket c.self.inside.queue.queue.queued r waiting c.finish.result first c.finish.ensures.ticket) ∙ ap (λ (a : Answer ℕ). a.reply) (sym answer))

pub returns-clause-mounted : goal.returns-clause-mounted
returns-clause-mounted g c =
    let v : Volume = record { super_block = c.self.inside.super_block; policy = c.self.inside.policy; explicit_open = c.self.inside.explicit_open; inodes = c.self.inside.inodes; handles = c.self.inside.handles.handles; queue = c.self.inside.queue.queue } in
    let r : Request = request_of c.in-Some.request (take c.in-Some.request.len c.oldest_of.new.scratch.items) in
    let there : take c.in-Some.request.len c.deref.result.now ≡ take c.in-Some.request.len c.oldest_of.new.scratch.items = ap (λ (l : List ℕ). take c.in-Some.request.len l) c.deref.ensures.value in
    let waiting : List Request = drop 1 c.self.inside.queue.queue.queued in
    let first = c.in-Some.ensures.oldest in
    let done = issued_so (record { super_block = c.self.inside.super_block; policy = c.self.inside.policy; explicit_open = c.self.inside.explicit_open; inodes = c.self.inside.inodes; handles = c.self.inside.handles.handles; queue = c.self.inside.queue.queue }) c.file-file.result c.in-Some.request.file c.in-Some.request.offset (take c.in-Some.request.len c.oldest_of.new.scratch.items) (take c.in-Some.request.len c.deref.result.now) _ _ _ c.file-file.ensures c.self.invariant.shape there c.in_default-write_file.ensures.done in
    let grows : c.write_file.new.shown ≡ grown c.self.inside.inodes.shape (file_at c.self.inside.inodes c.in-Some.request.file) (shown_at c.self.inside.inodes c.in-Some.request.file) (length (take c.in-Some.request.len c.oldest_of.new.scratch.items)) =
    c.in_default-write_file.ensures.shown
    ∙ ap (λ (shape : Shape). grown shape c.file-file.result c.shown-shown.result (length (take c.in-Some.request.len c.deref.result.now))) (sym c.self.invariant.shape)
    ∙ ap (λ (file : FileZones). grown c.self.inside.inodes.shape file c.shown-shown.result (length (take c.in-Some.request.len c.deref.result.now))) c.file-file.ensures
    ∙ ap (λ (shown : Shown). grown c.self.inside.inodes.shape (file_at c.self.inside.inodes c.in-Some.request.file) shown (length (take c.in-Some.request.len c.deref.result.now))) c.shown-shown.ensures
    ∙ ap (λ (l : List ℕ). grown c.self.inside.inodes.shape (file_at c.self.inside.inodes c.in-Some.request.file) (shown_at c.self.inside.inodes c.in-Some.request.file) (length l)) there in
    let after : c.set.new.self ≡ with_shown c.self.inside.inodes c.in-Some.request.file (grown c.self.inside.inodes.shape (file_at c.self.inside.inodes c.in-Some.request.file) (shown_at c.self.inside.inodes c.in-Some.request.file) (length (take c.in-Some.request.len c.oldest_of.new.scratch.items))) =
    c.set.ensures.set ∙ ap (λ (shown : Shown). with_shown c.self.inside.inodes c.in-Some.request.file shown) grows in
    let answer = done_is v (g.D.Zoned.state c.self.inside.dev) (g.D.Zoned.state c.write_file.new.dev) c.set.new.self c.finish.new.self.queue r waiting first done after c.finish.ensures.queue in
    rw (← c.self.view_is) (λ unspoilt. ap (λ (a : Answer ℕ). a.mounted) (sym answer))

pub returns-clause-outcome : goal.returns-clause-outcome
returns-clause-outcome g c = rw (← c.self.view_is) (done_outcome _ _ c.finish.ensures.queue)

pub returns-clause-cause : goal.returns-clause-cause
returns-clause-cause g c = rw (← c.self.view_is) (answered_caused _ (Ok tt) (Ok c.finish.result) _ _ c.in_default-write_file.ensures.done refl refl)
