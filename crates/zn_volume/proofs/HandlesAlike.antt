-- Handles that are open on the same file in the same mode are answered alike.
use Rattle.std.proofs.Common.{◌≡◌, ℕ, Bool, true, false, List, length, Option, Some, None, Result, refl, sym, ap, ◌∙◌}
use Rattle.std.specs.Prelude.{if◌then◌else◌}
use Rattle.zn_model.specs.declared.handles.Handle.{Handle}
use Rattle.zn_model.specs.declared.handles.Mode.{Mode}
use Rattle.zn_model.specs.Volume.{Mounted, Live, live_at}
use Rattle.zn_model.specs.declared.answers.Refusal.{Refusal}
use Rattle.zn_model.specs.declared.answers.Refusal.TheVariants.{PowerLost}
use Rattle.zn_model.specs.CallAnswers.{Answer, with_power, refused, unless, as_refused}
use Rattle.zn_model.specs.Requests.{submit_call, submit_by, submit_now, submitting_refusal}
use Rattle.zn_model.specs.Reading.{read_call, read_by, reading_refusal, size_call, size_by}
use Rattle.zn_model.specs.Writing.{write_call, write_by, write_at_once}
use Rattle.zn_model.specs.Truncating.{truncate_call, truncate_by, truncate_at_once, sync_call, sync_by, syncing_refusal}
use Rattle.zn_volume.specs.RecoveryLaws.{AreAlike, HandlesAlike}

-- it depends on the file and the mode of a live handle alone
abbrev IgnoresHandle : {X : Type 0} → (Option Live → X) → Type 0
IgnoresHandle F = (handle other : Handle) (file : ℕ) (mode : Mode)
    → F (Some (record { handle = handle; file = file; mode = mode })) ≡ F (Some (record { handle = other; file = file; mode = mode }))

through : {X : Type 0} (F : Option Live → X) (m : Mounted) (a b : Handle) → AreAlike m a b → IgnoresHandle F → F (live_at m.volume.handles a) ≡ F (live_at m.volume.handles b)
through F m a b h ignores =
    ap F h.has_first
    ∙ ap (λ (file : ℕ). F (Some (record h.first { file = file }))) h.file
    ∙ ap (λ (mode : Mode). F (Some (record h.first { file = h.second.file; mode = mode }))) h.mode
    ∙ ignores h.first.handle h.second.handle h.second.file h.second.mode
    ∙ sym (ap F h.has_second)

size_alike : (m : Mounted) (a b : Handle) → AreAlike m a b → size_call m a ≡ size_call m b
unfolding size_call
size_alike m a b h = through (λ found. with_power m (size_by found m)) m a b h (λ handle other file mode. refl)

read_alike : (given : List ℕ) (m : Mounted) (a b : Handle) (offset len : ℕ) → AreAlike m a b → read_call given m a offset len ≡ read_call given m b offset len
unfolding read_call reading_refusal
read_alike given m a b offset len h = through (λ found. with_power m (read_by given found m offset len)) m a b h (λ handle other file mode. refl)

write_alike : (m : Mounted) (a b : Handle) (offset : ℕ) (bytes : List ℕ) → AreAlike m a b → write_call m a offset bytes ≡ write_call m b offset bytes
unfolding write_call write_at_once
write_alike m a b offset bytes h = through (λ found. with_power m (write_by found m offset bytes)) m a b h (λ handle other file mode. refl)

truncate_alike : (m : Mounted) (a b : Handle) (size : ℕ) → AreAlike m a b → truncate_call m a size ≡ truncate_call m b size
unfolding truncate_call truncate_at_once
truncate_alike m a b size h = through (λ found. with_power m (truncate_by found m size)) m a b h (λ handle other file mode. refl)

sync_alike : (m : Mounted) (a b : Handle) → AreAlike m a b → sync_call m a ≡ sync_call m b
unfolding sync_call syncing_refusal
sync_alike m a b h = through (λ found. with_power m (sync_by found m)) m a b h (λ handle other file mode. refl)

-- answers that differ in what they leave alone
same_reply : {X : Type 0} (check : Option (Result X Refusal)) (m : Mounted) (a b : Answer X) → a.reply ≡ b.reply → (unless check m a).reply ≡ (unless check m b).reply
same_reply (Some reply) m a b same = refl
same_reply None m a b same = same

same_power : {X : Type 0} (m : Mounted) (a b : Answer X) → a.reply ≡ b.reply → (with_power m a).reply ≡ (with_power m b).reply
same_power {X = X} m a b same = by_power m.world.powered
  where
    by_power : (on : Bool) → (if on then a else refused PowerLost m).reply ≡ (if on then b else refused PowerLost m).reply
    by_power true = same
    by_power false = refl

submit_alike : (m : Mounted) (a b : Handle) (offset : ℕ) (bytes : List ℕ) → AreAlike m a b → (submit_call m a offset bytes).reply ≡ (submit_call m b offset bytes).reply
unfolding submit_call submitting_refusal
submit_alike m a b offset bytes h =
    same_power m (submit_by (live_at m.volume.handles a) m offset bytes) (submit_by (live_at m.volume.handles b) m offset bytes)
    (through (λ found. (submit_by found m offset bytes).reply) m a b h (λ handle other file mode.
    let one : Live = record { handle = handle; file = file; mode = mode } in
    let two : Live = record { handle = other; file = file; mode = mode } in
    same_reply (as_refused (submitting_refusal m.volume one offset (length bytes))) m (submit_now m one offset bytes) (submit_now m two offset bytes) refl))

pub handles_alike : HandlesAlike
handles_alike = record {
  size = size_alike;
  read = read_alike;
  write = write_alike;
  truncate = truncate_alike;
  sync = sync_alike;
  submit = submit_alike;
}
