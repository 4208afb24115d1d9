-- The calls that read, write, truncate and sync a file.
use Rattle.std.proofs.Common.{◌≡◌, ℕ, ◌+◌, ◌-◌, ◌*◌, ◌/◌, ◌<◌, ◌≤◌, Bool, true, false, List, [], ◌∷◌, length, Option, Some, None, Ok, Err, refl, sym, ap, ◌∙◌, arith}
use Rattle.std.specs.Prelude.{if◌then◌else◌, not, ◌==◌, ◌&&◌, nat_lt, nat_le}
use Rattle.std.specs.List.{All}
use Rattle.std.proofs.lemmas.Bool.{true≢false, ltb-true, and_parts}
use Rattle.std.proofs.lemmas.Bool.Decides.{nat_tests}
use Rattle.std.proofs.lemmas.List.Elements.{All-nil, All-cons}
use Rattle.zn_truth.specs.declared.Command.{Command}
use Rattle.zn_truth.specs.declared.Command.TheVariants.{Read, Write, Flush, Report}
use Rattle.zn_truth.specs.declared.Kind.TheVariants.{Conventional, Sequential}
use Rattle.zn_truth.specs.declared.Shape.{Shape}
use Rattle.zn_truth.specs.declared.ZoneOp.{ZoneOp}
use Rattle.zn_truth.specs.declared.ZoneOp.TheVariants.{Open as do_open, Reset as do_reset, Finish as do_finish}
use Rattle.zn_truth.specs.Truth.{Geometry, kind_at}
use Rattle.zn_truth.specs.Orders.{Manage, FlushAll, Reply}
use Rattle.zn_truth.specs.OrderLists.{issue_all}
use Rattle.zn_truth.specs.World.{World, issue, command_of_op}
use Rattle.zn_model.specs.declared.files.FileZones.{FileZones}
use Rattle.zn_model.specs.declared.handles.Handle.{Handle}
use Rattle.zn_model.specs.ZoneFiles.{capacity_of, has_zone}
use Rattle.zn_model.specs.Volume.{Volume, Request, Mounted, Live, file_at, capacity_at, shown_at, live_at}
use Rattle.zn_model.specs.Pieces.{reads}
use Rattle.zn_model.specs.Given.{told_or}
use Rattle.zn_model.specs.Reading.{reading_refusal, read_end, read_area, read_orders, read_bytes, after_read, read_now, read_by, read_call}
use Rattle.zn_model.specs.Truncating.{truncate_at_once, truncate_orders, truncated, truncated_volume, after_truncate, truncate_now, truncate_by, truncate_call, syncing_refusal, after_sync, sync_now, sync_by, sync_call}
use Rattle.zn_model.specs.Writing.{area_of, grown, grown_volume, write_at_once, write_orders, after_write, write_now, write_by, write_call}
use Rattle.zn_model.specs.CallAnswers.{as_refused}
use Rattle.zn_model.proofs.KeysKept.{unless_holds, with_power_holds}
use Rattle.zn_remains.specs.LineEvents.{IsOrderOf, truncates, in_file, in_live}
use Rattle.zn_remains.proofs.Agreement.{Agrees, IsRequestFor, Fewer, agrees_changed, no_fewer, none_waits, waiting_bytes}
use Rattle.zn_remains.proofs.Areas.{IsFileIn, reads_fit, writes_fit, read_lies, write_lies}
use Rattle.zn_remains.proofs.CallOrders.{OrdersOf, Has, one_went, all_went, failed_went}
use Rattle.zn_remains.proofs.Checks.{IsWriteFor, IsTruncateFor, unless_if, write_passed, truncate_passed}
use Rattle.zn_remains.proofs.Reached.{reached_none}
use Rattle.zn_remains.proofs.Recovering.{Went, VolumeAgrees, went_nowhere}
use Rattle.zn_remains.proofs.Standing.{Stands}

-- ---- read

abbrev pub read_commands : List Command
read_commands = Read ∷ Report ∷ []

-- what a read's call leaves
abbrev ReadWent : Geometry → (ℕ → Bool) → World → Mounted → Type 0
ReadWent g zones w after = Went g (OrdersOf g read_commands zones) w after

some_reads : (g : Geometry) (shape : Shape) (file : FileZones) (zones : ℕ → Bool) (offset end : ℕ) (b : Bool) → nat_lt offset end ≡ b → IsFileIn g file → shape ≡ g.shape → end ≤ capacity_of shape file
    → ((z : ℕ) → has_zone z file ≡ true → zones z ≡ true) → All (IsOrderOf g read_commands zones) (if b then reads (read_area shape file offset end) else [])
some_reads g shape file zones offset end false is in_device same within own = All-nil (IsOrderOf g read_commands zones)
some_reads g shape file zones offset end true is in_device same within own = reads_fit g file in_device (IsOrderOf g read_commands zones)
    (λ z at n fits has. record { fits = fits; command = refl; zone = own z has }) (read_area shape file offset end) (read_lies g shape file offset end same (ltb-true offset end is) within)

reads_are : (g : Geometry) (shape : Shape) (file : FileZones) (zones : ℕ → Bool) (offset end : ℕ) → IsFileIn g file → shape ≡ g.shape → end ≤ capacity_of shape file
    → ((z : ℕ) → has_zone z file ≡ true → zones z ≡ true) → All (IsOrderOf g read_commands zones) (read_orders shape file offset end)
reads_are g shape file zones offset end in_device same within own = some_reads g shape file zones offset end (nat_lt offset end) refl in_device same within own

after_read_went : (g : Geometry) (zones : ℕ → Bool) (reply : Reply) (m : Mounted) (f : ℕ) (bytes : List ℕ) → Stands g m.world → VolumeAgrees g m.volume → ReadWent g zones m.world (after_read reply m f bytes).mounted
after_read_went g zones (Ok unit) m f bytes stands agrees = went_nowhere g (OrdersOf g read_commands zones) m agrees
after_read_went g zones (Err error) m f bytes stands agrees = failed_went g read_commands zones true error m f refl stands agrees

read_now_went : (g : Geometry) (given : List ℕ) (m : Mounted) (f offset len : ℕ) → Stands g m.world → VolumeAgrees g m.volume → ReadWent g (in_file m.volume f) m.world (read_now given m f offset len).mounted
unfolding read_now
read_now_went g given m f offset len stands agrees =
    let file = file_at m.volume.inodes f in
    let shape = m.volume.inodes.shape in
    let zones = in_file m.volume f in
    let end = read_end (shown_at m.volume.inodes f) offset len in
    let orders = read_orders shape file offset end in
    let done = issue_all m.world orders in
    let bytes = told_or m.world.truth (end - offset) (read_bytes m.world.truth shape file offset end) given in
    let within : end ≤ capacity_of shape file = omega (arith, agrees.sizes f) in
    all_went g read_commands zones m.world orders (after_read done.reply (record m { world = done.world }) f bytes).mounted stands
    (reads_are g shape file zones offset end (agrees.files f) agrees.shape within (λ z has. has))
    (λ later. after_read_went g zones done.reply (record m { world = done.world }) f bytes later agrees)

read_by_went : (g : Geometry) (given : List ℕ) (found : Option Live) (m : Mounted) (offset len : ℕ) → Stands g m.world → VolumeAgrees g m.volume → ReadWent g (in_live m.volume found) m.world (read_by given found m offset len).mounted
read_by_went g given None m offset len stands agrees = went_nowhere g (OrdersOf g read_commands (in_live m.volume None)) m agrees
read_by_went g given (Some live) m offset len stands agrees =
    unless_holds (ReadWent g (in_file m.volume live.file) m.world) (as_refused (reading_refusal m.volume live offset)) m (read_now given m live.file offset len)
    (went_nowhere g (OrdersOf g read_commands (in_file m.volume live.file)) m agrees) (read_now_went g given m live.file offset len stands agrees)

pub read_went : (g : Geometry) (given : List ℕ) (m : Mounted) (h : Handle) (offset len : ℕ) → Stands g m.world → VolumeAgrees g m.volume
    → ReadWent g (in_live m.volume (live_at m.volume.handles h)) m.world (read_call given m h offset len).mounted
unfolding read_call
read_went g given m h offset len stands agrees =
    let found = live_at m.volume.handles h in
    with_power_holds (ReadWent g (in_live m.volume found) m.world) m (read_by given found m offset len)
    (went_nowhere g (OrdersOf g read_commands (in_live m.volume found)) m agrees) (read_by_went g given found m offset len stands agrees)

-- ---- write

abbrev pub write_commands : List Command
write_commands = Write ∷ Report ∷ []

abbrev WriteWent : Geometry → (ℕ → Bool) → World → Mounted → Type 0
WriteWent g zones w after = Went g (OrdersOf g write_commands zones) w after

-- the orders of a write whose area fits
pub writes_are : (g : Geometry) (v : Volume) (f offset : ℕ) (bytes : List ℕ) → VolumeAgrees g v → 0 < length bytes → 4096 * (offset / 4096) ≡ offset → 4096 * (length bytes / 4096) ≡ length bytes → offset + length bytes ≤ capacity_at v.inodes f
    → All (IsOrderOf g write_commands (in_file v f)) (write_orders v f offset bytes)
writes_are g v f offset bytes agrees some aligned whole inside =
    writes_fit g (file_at v.inodes f) (agrees.files f) (IsOrderOf g write_commands (in_file v f)) (λ z at part fits has. record { fits = fits; command = refl; zone = has })
    (area_of v.inodes.shape (file_at v.inodes f) offset (length bytes)) bytes
    (write_lies g v.inodes.shape (file_at v.inodes f) offset (length bytes) agrees.shape some aligned whole inside) whole

-- a file that has grown by a write
held_before : (held full : Bool) → (held && not full) ≡ true → held ≡ true
held_before held full is = (and_parts held (not full) is).0

grown_size : (seq : Bool) (size len waiting most : ℕ) → size ≤ most → (seq ≡ true → size + len + waiting ≤ most) → (if seq then size + len else size) ≤ most
grown_size true size len waiting most old new = let fits = new refl in omega (arith, fits)
grown_size false size len waiting most old new = old

grown_end : (seq : Bool) (size len waiting most : ℕ) → (seq ≡ true → size + len + waiting ≤ most) → seq ≡ true → (if seq then size + len else size) + waiting ≤ most
grown_end true size len waiting most new is = new refl
grown_end false size len waiting most new is = absurd (true≢false (sym is))

pub grown_agrees : (g : Geometry) (v : Volume) (f len : ℕ) (after : List Request) → VolumeAgrees g v → ((file_at v.inodes f).seq ≡ true → (shown_at v.inodes f).size + len + waiting_bytes after f ≤ capacity_at v.inodes f)
    → Fewer v.queue.queued after → All (IsRequestFor v.inodes) after → Agrees g (grown_volume v f len).inodes after
grown_agrees g v f len after agrees room fewer waiting =
    let file = file_at v.inodes f in
    let shown = shown_at v.inodes f in
    agrees_changed g v.inodes v.queue.queued after f (grown v.inodes.shape file shown len) v.inodes.read_only agrees
    (grown_size file.seq shown.size len (waiting_bytes after f) (capacity_at v.inodes f) (agrees.sizes f) room)
    (grown_end file.seq shown.size len (waiting_bytes after f) (capacity_at v.inodes f) room)
    (λ is. agrees.held f (held_before shown.held_open (file.seq && (shown.size + len == capacity_of v.inodes.shape file)) is))
    fewer waiting

after_write_went : (g : Geometry) (reply : Reply) (m : Mounted) (f len : ℕ) → Stands g m.world → VolumeAgrees g m.volume → ((file_at m.volume.inodes f).seq ≡ true → (shown_at m.volume.inodes f).size + len + waiting_bytes m.volume.queue.queued f ≤ capacity_at m.volume.inodes f)
    → WriteWent g (in_file m.volume f) m.world (after_write reply m f len).mounted
after_write_went g (Ok unit) m f len stands agrees room =
    record { reached = reached_none (OrdersOf g write_commands (in_file m.volume f)) m.world; agrees = grown_agrees g m.volume f len m.volume.queue.queued agrees room (no_fewer m.volume.queue.queued) agrees.waiting }
after_write_went g (Err error) m f len stands agrees room = failed_went g write_commands (in_file m.volume f) false error m f refl stands agrees

-- there is room behind what a sequential file shows, where nothing waits for it
room_behind : (v : Volume) (f offset len : ℕ) → IsWriteFor v f offset len → (file_at v.inodes f).seq ≡ true → (shown_at v.inodes f).size + len + waiting_bytes v.queue.queued f ≤ capacity_at v.inodes f
room_behind v f offset len is seq = omega (arith, is.area.inside, is.area.at_end seq, none_waits f v.queue.queued is.free)

write_now_went : (g : Geometry) (m : Mounted) (f offset : ℕ) (bytes : List ℕ) → Stands g m.world → VolumeAgrees g m.volume → IsWriteFor m.volume f offset (length bytes) → WriteWent g (in_file m.volume f) m.world (write_now m f offset bytes).mounted
unfolding write_now
write_now_went g m f offset bytes stands agrees is =
    let orders = write_orders m.volume f offset bytes in
    let done = issue_all m.world orders in
    all_went g write_commands (in_file m.volume f) m.world orders (after_write done.reply (record m { world = done.world }) f (length bytes)).mounted stands
    (writes_are g m.volume f offset bytes agrees is.some is.area.aligned is.area.whole is.area.inside)
    (λ later. after_write_went g done.reply (record m { world = done.world }) f (length bytes) later agrees (room_behind m.volume f offset (length bytes) is))

write_by_went : (g : Geometry) (found : Option Live) (m : Mounted) (offset : ℕ) (bytes : List ℕ) → Stands g m.world → VolumeAgrees g m.volume → WriteWent g (in_live m.volume found) m.world (write_by found m offset bytes).mounted
write_by_went g None m offset bytes stands agrees = went_nowhere g (OrdersOf g write_commands (in_live m.volume None)) m agrees
write_by_went g (Some live) m offset bytes stands agrees =
    unless_if (WriteWent g (in_file m.volume live.file) m.world) (write_at_once m.volume live offset (length bytes)) m (write_now m live.file offset bytes)
    (went_nowhere g (OrdersOf g write_commands (in_file m.volume live.file)) m agrees)
    (λ none. write_now_went g m live.file offset bytes stands agrees (write_passed m.volume live offset (length bytes) none))

pub write_went : (g : Geometry) (m : Mounted) (h : Handle) (offset : ℕ) (bytes : List ℕ) → Stands g m.world → VolumeAgrees g m.volume
    → WriteWent g (in_live m.volume (live_at m.volume.handles h)) m.world (write_call m h offset bytes).mounted
unfolding write_call
write_went g m h offset bytes stands agrees =
    let found = live_at m.volume.handles h in
    with_power_holds (WriteWent g (in_live m.volume found) m.world) m (write_by found m offset bytes)
    (went_nowhere g (OrdersOf g write_commands (in_live m.volume found)) m agrees) (write_by_went g found m offset bytes stands agrees)

-- ---- truncate

abbrev TruncateWent : Geometry → Bool → (ℕ → Bool) → World → Mounted → Type 0
TruncateWent g empty zones w after = Went g (OrdersOf g (truncates empty) zones) w after

reports_too : (empty : Bool) → Has (truncates empty) Report
reports_too true = refl
reports_too false = refl

-- an order to manage the zone of a sequential file
pub manages : (g : Geometry) (commands : List Command) (v : Volume) (f : ℕ) (op : ZoneOp) → VolumeAgrees g v → (file_at v.inodes f).seq ≡ true → Has commands (command_of_op op) → IsOrderOf g commands (in_file v f) (Manage (file_at v.inodes f).first op)
manages g commands v f op agrees seq has =
    let file = file_at v.inodes f in
    let is = agrees.files f in
    let one = is.single seq in
    let here : file.first + 0 ≡ file.first = omega arith in
    let kind : kind_at g file.first ≡ Sequential = ap (kind_at g) (sym here) ∙ is.kinds 0 (omega (arith, one)) ∙ ap (λ (b : Bool). if b then Sequential else Conventional) seq in
    record { fits = record { zone = omega (arith, is.inside, one); kind = kind }; command = has; zone = first_in file.first file.zones (omega (arith, one)) }
  where
    first_in : (first zones : ℕ) → 0 < zones → (nat_le first first && nat_lt first (first + zones)) ≡ true
    first_in first zones some = grind (arith, nat_tests)

opens_too : (g : Geometry) (v : Volume) (f : ℕ) (held : Bool) → VolumeAgrees g v → (file_at v.inodes f).seq ≡ true → All (IsOrderOf g (truncates true) (in_file v f)) (if held then Manage (file_at v.inodes f).first do_open ∷ [] else [])
opens_too g v f true agrees seq = All-cons (IsOrderOf g (truncates true) (in_file v f)) (Manage (file_at v.inodes f).first do_open) [] (manages g (truncates true) v f do_open agrees seq refl) (All-nil (IsOrderOf g (truncates true) (in_file v f)))
opens_too g v f false agrees seq = All-nil (IsOrderOf g (truncates true) (in_file v f))

truncates_are : (g : Geometry) (v : Volume) (f : ℕ) (empty : Bool) → VolumeAgrees g v → (file_at v.inodes f).seq ≡ true
    → All (IsOrderOf g (truncates empty) (in_file v f)) (if empty then Manage (file_at v.inodes f).first do_reset ∷ (if (shown_at v.inodes f).held_open then Manage (file_at v.inodes f).first do_open ∷ [] else []) else Manage (file_at v.inodes f).first do_finish ∷ [])
truncates_are g v f true agrees seq = All-cons (IsOrderOf g (truncates true) (in_file v f)) (Manage (file_at v.inodes f).first do_reset) _ (manages g (truncates true) v f do_reset agrees seq refl) (opens_too g v f (shown_at v.inodes f).held_open agrees seq)
truncates_are g v f false agrees seq = All-cons (IsOrderOf g (truncates false) (in_file v f)) (Manage (file_at v.inodes f).first do_finish) [] (manages g (truncates false) v f do_finish agrees seq refl) (All-nil (IsOrderOf g (truncates false) (in_file v f)))

truncated_agrees : (g : Geometry) (v : Volume) (f size : ℕ) → VolumeAgrees g v → IsTruncateFor v f size → VolumeAgrees g (truncated_volume v f size)
truncated_agrees g v f size agrees is =
    let shown = shown_at v.inodes f in
    agrees_changed g v.inodes v.queue.queued v.queue.queued f (truncated v.inodes.shape (file_at v.inodes f) shown size) v.inodes.read_only agrees is.inside
    (λ seq. omega (arith, is.inside, none_waits f v.queue.queued is.free))
    (λ held. agrees.held f (held_before shown.held_open (size == capacity_of v.inodes.shape (file_at v.inodes f)) held))
    (no_fewer v.queue.queued) agrees.waiting

after_truncate_went : (g : Geometry) (empty : Bool) (reply : Reply) (m : Mounted) (f size : ℕ) → Stands g m.world → VolumeAgrees g m.volume → IsTruncateFor m.volume f size → TruncateWent g empty (in_file m.volume f) m.world (after_truncate reply m f size).mounted
after_truncate_went g empty (Ok unit) m f size stands agrees is = record { reached = reached_none (OrdersOf g (truncates empty) (in_file m.volume f)) m.world; agrees = truncated_agrees g m.volume f size agrees is }
after_truncate_went g empty (Err error) m f size stands agrees is = failed_went g (truncates empty) (in_file m.volume f) false error m f (reports_too empty) stands agrees

truncate_now_went : (g : Geometry) (m : Mounted) (f size : ℕ) → Stands g m.world → VolumeAgrees g m.volume → IsTruncateFor m.volume f size → TruncateWent g (size == 0) (in_file m.volume f) m.world (truncate_now m f size).mounted
unfolding truncate_now
truncate_now_went g m f size stands agrees is =
    let orders = truncate_orders (file_at m.volume.inodes f) (shown_at m.volume.inodes f) size in
    let done = issue_all m.world orders in
    all_went g (truncates (size == 0)) (in_file m.volume f) m.world orders (after_truncate done.reply (record m { world = done.world }) f size).mounted stands
    (truncates_are g m.volume f (size == 0) agrees is.seq)
    (λ later. after_truncate_went g (size == 0) done.reply (record m { world = done.world }) f size later agrees is)

truncate_by_went : (g : Geometry) (found : Option Live) (m : Mounted) (size : ℕ) → Stands g m.world → VolumeAgrees g m.volume → TruncateWent g (size == 0) (in_live m.volume found) m.world (truncate_by found m size).mounted
truncate_by_went g None m size stands agrees = went_nowhere g (OrdersOf g (truncates (size == 0)) (in_live m.volume None)) m agrees
truncate_by_went g (Some live) m size stands agrees =
    unless_if (TruncateWent g (size == 0) (in_file m.volume live.file) m.world) (truncate_at_once m.volume live size) m (truncate_now m live.file size)
    (went_nowhere g (OrdersOf g (truncates (size == 0)) (in_file m.volume live.file)) m agrees)
    (λ none. truncate_now_went g m live.file size stands agrees (truncate_passed m.volume live size none))

pub truncate_went : (g : Geometry) (m : Mounted) (h : Handle) (size : ℕ) → Stands g m.world → VolumeAgrees g m.volume → TruncateWent g (size == 0) (in_live m.volume (live_at m.volume.handles h)) m.world (truncate_call m h size).mounted
unfolding truncate_call
truncate_went g m h size stands agrees =
    let found = live_at m.volume.handles h in
    with_power_holds (TruncateWent g (size == 0) (in_live m.volume found) m.world) m (truncate_by found m size)
    (went_nowhere g (OrdersOf g (truncates (size == 0)) (in_live m.volume found)) m agrees) (truncate_by_went g found m size stands agrees)

-- ---- sync

abbrev pub sync_commands : List Command
sync_commands = Flush ∷ Report ∷ []

-- a flush names no zone, and no more does a report
abbrev SyncWent : Geometry → World → Mounted → Type 0
SyncWent g w after = Went g (OrdersOf g sync_commands (λ z. false)) w after

after_sync_went : (g : Geometry) (reply : Reply) (m : Mounted) (f : ℕ) → Stands g m.world → VolumeAgrees g m.volume → SyncWent g m.world (after_sync reply m f).mounted
after_sync_went g (Ok unit) m f stands agrees = went_nowhere g (OrdersOf g sync_commands (λ z. false)) m agrees
after_sync_went g (Err error) m f stands agrees = failed_went g sync_commands (λ z. false) false error m f refl stands agrees

sync_now_went : (g : Geometry) (m : Mounted) (f : ℕ) → Stands g m.world → VolumeAgrees g m.volume → SyncWent g m.world (sync_now m f).mounted
unfolding sync_now
sync_now_went g m f stands agrees =
    let done = issue m.world FlushAll in
    one_went g sync_commands (λ z. false) m.world FlushAll (after_sync done.reply (record m { world = done.world }) f).mounted stands (record { fits = tt; command = refl; zone = tt })
    (λ later. after_sync_went g done.reply (record m { world = done.world }) f later agrees)

sync_by_went : (g : Geometry) (found : Option Live) (m : Mounted) → Stands g m.world → VolumeAgrees g m.volume → SyncWent g m.world (sync_by found m).mounted
sync_by_went g None m stands agrees = went_nowhere g (OrdersOf g sync_commands (λ z. false)) m agrees
sync_by_went g (Some live) m stands agrees =
    unless_holds (SyncWent g m.world) (as_refused (syncing_refusal m.volume live)) m (sync_now m live.file) (went_nowhere g (OrdersOf g sync_commands (λ z. false)) m agrees) (sync_now_went g m live.file stands agrees)

pub sync_went : (g : Geometry) (m : Mounted) (h : Handle) → Stands g m.world → VolumeAgrees g m.volume → SyncWent g m.world (sync_call m h).mounted
unfolding sync_call
sync_went g m h stands agrees =
    with_power_holds (SyncWent g m.world) m (sync_by (live_at m.volume.handles h) m) (went_nowhere g (OrdersOf g sync_commands (λ z. false)) m agrees) (sync_by_went g (live_at m.volume.handles h) m stands agrees)
