-- The calls that open and close a file.
use Rattle.std.proofs.Common.{◌≡◌, ℕ, Bool, true, false, List, [], ◌∷◌, Option, Some, None, Ok, Err, refl, sym}
use Rattle.std.specs.Prelude.{if◌then◌else◌, not, ◌==◌, ◌&&◌}
use Rattle.std.proofs.lemmas.Bool.{and_parts, true≢false}
use Rattle.zn_truth.specs.declared.Command.{Command}
use Rattle.zn_truth.specs.declared.Command.TheVariants.{Open, Close, Report}
use Rattle.zn_truth.specs.declared.ZoneOp.TheVariants.{Open as do_open, Close as do_close}
use Rattle.zn_truth.specs.Truth.{Geometry}
use Rattle.zn_truth.specs.Orders.{Manage, Reply}
use Rattle.zn_truth.specs.World.{World, issue}
use Rattle.zn_model.specs.declared.handles.Handle.{Handle}
use Rattle.zn_model.specs.declared.handles.Mode.{Mode}
use Rattle.zn_model.specs.declared.handles.Who.{Who}
use Rattle.zn_model.specs.Access.{writes}
use Rattle.zn_model.specs.CallAnswers.{Answer, answered, refused, as_answer, as_refused}
use Rattle.zn_model.specs.OpenClose.{begins_writing, opening_refusal, held_open, opened, is_limit, after_open, open_now, open_by, open_call, after_close, ended, unheld, close_now, close_by, close_call}
use Rattle.zn_model.specs.Recovery.{refusal_of, after_failure}
use Rattle.zn_model.specs.Volume.{Live, Volume, Mounted, file_at, capacity_at, shown_at, live_at, writers_of, is_queued_through}
use Rattle.zn_model.specs.ZoneFiles.{file_named}
use Rattle.zn_model.proofs.KeysKept.{chosen_holds, unless_holds, with_power_holds}
use Rattle.zn_remains.specs.LineEvents.{in_file, in_found, in_live}
use Rattle.zn_remains.proofs.Agreement.{Agrees, agrees_changed, no_fewer}
use Rattle.zn_remains.proofs.CallOrders.{OrdersOf, one_went, failed_went}
use Rattle.zn_remains.proofs.CallsOnFiles.{manages}
use Rattle.zn_remains.proofs.Reached.{reached_none}
use Rattle.zn_remains.proofs.Recovering.{Went, VolumeAgrees, went_nowhere}
use Rattle.zn_remains.proofs.Standing.{Stands}

-- an answer of which one is chosen where a test holds
chosen_where : {X : Type 0} (P : Mounted → Type 0) (b : Bool) (one other : Answer X) → (b ≡ true → P one.mounted) → P other.mounted → P (if b then one else other).mounted
chosen_where P true one other here there = here refl
chosen_where P false one other here there = there

-- a file that is held open, or not
held_agrees : (g : Geometry) (v : Volume) (f : ℕ) (held : Bool) → VolumeAgrees g v → (held ≡ true → (file_at v.inodes f).seq ≡ true) → Agrees g (held_open v.inodes f held) v.queue.queued
held_agrees g v f held agrees seq =
    agrees_changed g v.inodes v.queue.queued v.queue.queued f (record (shown_at v.inodes f) { held_open = held }) v.inodes.read_only agrees (agrees.sizes f) (agrees.ends f) seq (no_fewer v.queue.queued) agrees.waiting

-- ---- open

abbrev pub open_commands : List Command
open_commands = Open ∷ Report ∷ []

abbrev OpenWent : Geometry → (ℕ → Bool) → World → Mounted → Type 0
OpenWent g zones w after = Went g (OrdersOf g open_commands zones) w after

opened_went : (g : Geometry) (zones : ℕ → Bool) (m : Mounted) (key f : ℕ) (mode : Mode) → VolumeAgrees g m.volume → OpenWent g zones m.world (opened m key f mode).mounted
opened_went g zones m key f mode agrees = record { reached = reached_none (OrdersOf g open_commands zones) m.world; agrees = agrees }

after_open_went : (g : Geometry) (zones : ℕ → Bool) (reply : Reply) (m : Mounted) (key f : ℕ) (mode : Mode) → Stands g m.world → VolumeAgrees g m.volume → (file_at m.volume.inodes f).seq ≡ true
    → OpenWent g zones m.world (after_open reply m key f mode).mounted
after_open_went g zones (Ok unit) m key f mode stands agrees seq =
    opened_went g zones (record m { volume = record m.volume { inodes = held_open m.volume.inodes f true } }) key f mode (held_agrees g m.volume f true agrees (λ is. seq))
after_open_went g zones (Err error) m key f mode stands agrees seq =
    chosen_holds (OpenWent g zones m.world) (is_limit error) (refused (refusal_of error) m) (as_answer (after_failure false error m f)) (went_nowhere g (OrdersOf g open_commands zones) m agrees)
    (failed_went g open_commands zones false error m f refl stands agrees)

-- only a sequential file is opened by an order
begins_seq : (v : Volume) (f : ℕ) (mode : Mode) (full : Bool) → (begins_writing v f mode && not full) ≡ true → (file_at v.inodes f).seq ≡ true
begins_seq v f mode full is =
    let begins = (and_parts (begins_writing v f mode) (not full) is).0 in
    let seq = (and_parts (v.explicit_open && writes mode && (file_at v.inodes f).seq) (writers_of v.handles f == 0) begins).0 in
    (and_parts (v.explicit_open && writes mode) (file_at v.inodes f).seq seq).1

open_now_went : (g : Geometry) (m : Mounted) (key f : ℕ) (mode : Mode) → Stands g m.world → VolumeAgrees g m.volume → OpenWent g (in_file m.volume f) m.world (open_now m key f mode).mounted
unfolding open_now
open_now_went g m key f mode stands agrees =
    let order = Manage (file_at m.volume.inodes f).first do_open in
    let done = issue m.world order in
    let after = record m { world = done.world } in
    chosen_where (OpenWent g (in_file m.volume f) m.world) (begins_writing m.volume f mode && not ((shown_at m.volume.inodes f).size == capacity_at m.volume.inodes f)) (after_open done.reply after key f mode) (opened m key f mode)
    (λ is. let seq = begins_seq m.volume f mode ((shown_at m.volume.inodes f).size == capacity_at m.volume.inodes f) is in
    one_went g open_commands (in_file m.volume f) m.world order (after_open done.reply after key f mode).mounted stands (manages g open_commands m.volume f do_open agrees seq refl)
    (λ later. after_open_went g (in_file m.volume f) done.reply after key f mode later agrees seq))
    (opened_went g (in_file m.volume f) m key f mode agrees)

open_by_went : (g : Geometry) (found : Option ℕ) (m : Mounted) (key : ℕ) (mode : Mode) (who : Who) → Stands g m.world → VolumeAgrees g m.volume → OpenWent g (in_found m.volume found) m.world (open_by found m key mode who).mounted
open_by_went g None m key mode who stands agrees = went_nowhere g (OrdersOf g open_commands (in_found m.volume None)) m agrees
open_by_went g (Some f) m key mode who stands agrees =
    unless_holds (OpenWent g (in_file m.volume f) m.world) (as_refused (opening_refusal m.world.truth.shape.max_open m.volume f mode who)) m (open_now m key f mode)
    (went_nowhere g (OrdersOf g open_commands (in_file m.volume f)) m agrees) (open_now_went g m key f mode stands agrees)

pub open_went : (g : Geometry) (m : Mounted) (key : ℕ) (path : List ℕ) (mode : Mode) (who : Who) → Stands g m.world → VolumeAgrees g m.volume
    → OpenWent g (in_found m.volume (file_named m.volume.inodes.layout path)) m.world (open_call m key path mode who).mounted
unfolding open_call
open_went g m key path mode who stands agrees =
    let found = file_named m.volume.inodes.layout path in
    with_power_holds (OpenWent g (in_found m.volume found) m.world) m (open_by found m key mode who)
    (went_nowhere g (OrdersOf g open_commands (in_found m.volume found)) m agrees) (open_by_went g found m key mode who stands agrees)

-- ---- close

abbrev pub close_commands : List Command
close_commands = Close ∷ Report ∷ []

abbrev CloseWent : Geometry → (ℕ → Bool) → World → Mounted → Type 0
CloseWent g zones w after = Went g (OrdersOf g close_commands zones) w after

after_close_went : (g : Geometry) (zones : ℕ → Bool) (reply : Reply) (m : Mounted) (f : ℕ) → Stands g m.world → VolumeAgrees g m.volume → CloseWent g zones m.world (after_close reply m f).mounted
after_close_went g zones (Ok unit) m f stands agrees = went_nowhere g (OrdersOf g close_commands zones) m agrees
after_close_went g zones (Err error) m f stands agrees = failed_went g close_commands zones false error m f refl stands agrees

close_now_went : (g : Geometry) (m : Mounted) (live : Live) → Stands g m.world → VolumeAgrees g m.volume → CloseWent g (in_file m.volume live.file) m.world (close_now m live).mounted
unfolding close_now
close_now_went g m live stands agrees =
    let zones = in_file m.volume live.file in
    let order = Manage (file_at m.volume.inodes live.file).first do_close in
    let done = issue m.world order in
    let after = ended m live.handle in
    let closed = record (unheld after live.file) { world = done.world } in
    let last = writes live.mode && (writers_of after.volume.handles live.file == 0) in
    chosen_where (CloseWent g zones m.world) (last && (shown_at m.volume.inodes live.file).held_open) (after_close done.reply closed live.file) (answered tt after)
    (λ is. let seq = agrees.held live.file (and_parts last (shown_at m.volume.inodes live.file).held_open is).1 in
    one_went g close_commands zones m.world order (after_close done.reply closed live.file).mounted stands (manages g close_commands m.volume live.file do_close agrees seq refl)
    (λ later. after_close_went g zones done.reply closed live.file later (held_agrees g m.volume live.file false agrees (λ is. absurd (true≢false (sym is))))))
    (record { reached = reached_none (OrdersOf g close_commands zones) m.world; agrees = agrees })

close_by_went : (g : Geometry) (found : Option Live) (m : Mounted) → Stands g m.world → VolumeAgrees g m.volume → CloseWent g (in_live m.volume found) m.world (close_by found m).mounted
close_by_went g None m stands agrees = went_nowhere g (OrdersOf g close_commands (in_live m.volume None)) m agrees
close_by_went g (Some live) m stands agrees =
    chosen_holds (CloseWent g (in_file m.volume live.file) m.world) (is_queued_through m.volume.queue live.handle) _ (close_now m live)
    (went_nowhere g (OrdersOf g close_commands (in_file m.volume live.file)) m agrees) (close_now_went g m live stands agrees)

pub close_went : (g : Geometry) (m : Mounted) (h : Handle) → Stands g m.world → VolumeAgrees g m.volume → CloseWent g (in_live m.volume (live_at m.volume.handles h)) m.world (close_call m h).mounted
unfolding close_call
close_went g m h stands agrees =
    let found = live_at m.volume.handles h in
    with_power_holds (CloseWent g (in_live m.volume found) m.world) m (close_by found m)
    (went_nowhere g (OrdersOf g close_commands (in_live m.volume found)) m agrees) (close_by_went g found m stands agrees)
