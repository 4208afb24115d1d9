-- A mounted volume: the world of its device, and what the volume keeps.
use Rattle.std.specs.Prelude.{ℕ, ◌+◌, ◌/◌, Bool, false, ◌&&◌, not, ◌==◌, nat_lt, List, [], ◌∷◌, ◌++◌, length, map, sum_by, count_by, if◌then◌else◌, slice_set, slice_index_or, Option, filter, find}
use Rattle.std.specs.List.{range_with_len, list_any}
use Rattle.zn_truth.specs.declared.limits.TheConstants.{BLOCK_SIZE}
use Rattle.zn_truth.specs.declared.Shape.{Shape}
use Rattle.zn_truth.specs.World.{World}
use Rattle.zn_model.specs.declared.files.Policy.{Policy}
use Rattle.zn_model.specs.declared.files.FileZones.{FileZones}
use Rattle.zn_model.specs.declared.files.Shown.{Shown}
use Rattle.zn_model.specs.declared.handles.Handle.{Handle}
use Rattle.zn_model.specs.declared.handles.Mode.{Mode}
use Rattle.zn_model.specs.declared.handles.Done.{Done}
use Rattle.zn_model.specs.declared.answers.Outcome.TheVariants.{IoError}
use Rattle.zn_model.specs.ZoneFiles.{Layout, files_of, capacity_of}
use Rattle.zn_model.specs.ShownStates.{showing}
use Rattle.zn_model.specs.Access.{writes}
use Rattle.zn_model.specs.SuperBlock.{SuperBlock}

-- The files, the shape of the device's zones, from which rooms and capacities follow, what each file shows, by its
-- number, and whether the file system is read-only.
pub record Inodes : Type 0 where
  pub layout : Layout
  pub shape : Shape
  pub shown : List Shown
  pub read_only : Bool

-- A live handle.
pub record Live : Type 0 where
  pub handle : Handle
  pub file : ℕ
  pub mode : Mode

-- The live handles, in the order in which they were opened, and how many were opened since the mount: the
-- generation of the next one.
pub record Handles : Type 0 where
  pub live : List Live
  pub opened : ℕ

-- A request in flight: a write that is to be carried out.
pub record Request : Type 0 where
  pub ticket : ℕ
  pub file : ℕ
  pub handle : Handle
  pub offset : ℕ
  pub bytes : List ℕ

-- The requests that wait, oldest first, those that ended and are not reaped, oldest first, and the last
-- ticket.
pub record Queue : Type 0 where
  pub queued : List Request
  pub finished : List Done
  pub last_ticket : ℕ

-- the super block, the options of the mount, and what calls change: files, handles and requests
pub record Volume : Type 0 where
  pub super_block : SuperBlock
  pub policy : Policy
  pub explicit_open : Bool
  pub inodes : Inodes
  pub handles : Handles
  pub queue : Queue

-- A mounted volume and its device.
pub record Mounted : Type 0 where
  pub world : World
  pub volume : Volume

-- ---- files

-- what stands for a file with a number that none has: no zones
abbrev pub no_file : FileZones
no_file = record { first = 0; zones = 0; seq = false }

-- the file with this number
abbrev pub file_at : Inodes → ℕ → FileZones
file_at inodes f = slice_index_or (files_of inodes.layout) f no_file

-- the bytes that the file with this number has room for
abbrev pub capacity_at : Inodes → ℕ → ℕ
capacity_at inodes f = capacity_of inodes.shape (file_at inodes f)

-- what the file with this number shows; where there is none, size 0 without rights
abbrev pub shown_at : Inodes → ℕ → Shown
shown_at inodes f = slice_index_or inodes.shown f (showing 0 false false false)

-- the files with this state in place of what one shows
abbrev pub with_shown : Inodes → ℕ → Shown → Inodes
with_shown inodes f shown = record inodes { shown = slice_set inodes.shown f shown }

-- ---- handles

-- both the keys and the generations agree
abbrev pub is_same_handle : Handle → Handle → Bool
is_same_handle a b = (a.key == b.key) && (a.generation == b.generation)

-- the live handle, where that very one is live
abbrev pub live_at : Handles → Handle → Option Live
live_at handles h = find (λ live. is_same_handle live.handle h) handles.live

-- one more live handle, behind the others, which also counts as opened
abbrev pub with_live : Handles → Live → Handles
with_live handles live = record { live = handles.live ++ live ∷ []; opened = handles.opened + 1 }

-- the handle is live no longer; how many were opened stays
abbrev pub without_live : Handles → Handle → Handles
without_live handles h = record handles { live = filter (λ live. not (is_same_handle live.handle h)) handles.live }

-- the handle of the next open: its key may be any, its generation was never used before
abbrev pub next_handle : Handles → ℕ → Handle
next_handle handles key = record { key = key; generation = handles.opened }

-- the handles that are open on a file for writing
abbrev pub writers_of : Handles → ℕ → ℕ
writers_of handles f = count_by (λ live. (live.file == f) && writes live.mode) handles.live

-- the sequential files with a handle open for writing
abbrev pub wro : Volume → ℕ
wro v = count_by (λ f. (file_at v.inodes f).seq && nat_lt 0 (writers_of v.handles f)) (range_with_len 0 (length (files_of v.inodes.layout)))

-- ---- requests in flight

-- the bytes that are queued for a file
abbrev pub queued_bytes : Queue → ℕ → ℕ
queued_bytes queue f = sum_by (λ request. if request.file == f then length request.bytes else 0) queue.queued

-- the blocks that are queued
abbrev pub queued_blocks : Queue → ℕ
queued_blocks queue = sum_by (λ request. length request.bytes / BLOCK_SIZE) queue.queued

-- whether a request waits for a file, and whether one waits that was submitted through a handle
abbrev pub is_queued : Queue → ℕ → Bool
is_queued queue f = list_any (λ request. request.file == f) queue.queued

-- some request that waits was submitted through this very handle
abbrev pub is_queued_through : Queue → Handle → Bool
is_queued_through queue h = list_any (λ request. is_same_handle request.handle h) queue.queued

-- the request ends with an input or output error
abbrev pub failed_request : Request → Done
failed_request request = record { ticket = request.ticket; outcome = IoError }

-- all requests of a file that wait end with an input or output error, in order
abbrev pub failed : Queue → ℕ → Queue
failed queue f = record queue {
  queued = filter (λ request. not (request.file == f)) queue.queued;
  finished = queue.finished ++ map failed_request (filter (λ request. request.file == f) queue.queued);
}

-- The end of the last issued write: what the file shows and, behind it, what is queued.
abbrev pub issued_end : Volume → ℕ → ℕ
issued_end v f = (shown_at v.inodes f).size + queued_bytes v.queue f
