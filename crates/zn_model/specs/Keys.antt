-- No call on a volume depends on the keys of handles: a volume whose handles all have the key 0 answers as the
-- one that it was made of.
use Rattle.std.specs.Prelude.{◌≡◌, ℕ, ◌<◌, List, map, Some, IsSome, IfOk, Result, Ok, Err}
use Rattle.std.specs.List.{All, AllPairs}
use Rattle.zn_truth.specs.World.{World}
use Rattle.zn_model.specs.declared.answers.Refusal.{Refusal}
use Rattle.zn_model.specs.declared.files.MountOpts.{MountOpts}
use Rattle.zn_model.specs.declared.handles.Handle.{Handle}
use Rattle.zn_model.specs.declared.handles.Mode.{Mode}
use Rattle.zn_model.specs.declared.handles.Who.{Who}
use Rattle.zn_model.specs.Volume.{Live, Handles, Request, Queue, Volume, Mounted, live_at}
use Rattle.zn_model.specs.CallAnswers.{Answer}
use Rattle.zn_model.specs.Writing.{write_call}
use Rattle.zn_model.specs.Reading.{read_call, size_call}
use Rattle.zn_model.specs.OpenClose.{open_call, close_call}
use Rattle.zn_model.specs.Truncating.{truncate_call, sync_call}
use Rattle.zn_model.specs.Requests.{submit_call, complete_call, reap_call}
use Rattle.zn_model.specs.Looks.{stat_call, entries_call, attr_call, report_call}
use Rattle.zn_model.specs.Mounting.{mount_call, unmount_refusal}

-- ---- without keys

-- the key is 0, the generation stays
abbrev pub unkeyed_handle : Handle → Handle
unkeyed_handle h = record h { key = 0 }

-- a live handle with the key 0, its file and its mode as they were
abbrev pub unkeyed_live : Live → Live
unkeyed_live live = record live { handle = unkeyed_handle live.handle }

-- all live handles with the key 0; how many were opened stays
abbrev pub unkeyed_handles : Handles → Handles
unkeyed_handles handles = record handles { live = map unkeyed_live handles.live }

-- a request with the key 0 in its handle
abbrev pub unkeyed_request : Request → Request
unkeyed_request request = record request { handle = unkeyed_handle request.handle }

-- so for each request that waits; those that ended name no handle
abbrev pub unkeyed_queue : Queue → Queue
unkeyed_queue queue = record queue { queued = map unkeyed_request queue.queued }

-- the key is 0 in each live handle and in each request that waits; nothing else differs
abbrev pub unkeyed_volume : Volume → Volume
unkeyed_volume v = record v { handles = unkeyed_handles v.handles; queue = unkeyed_queue v.queue }

-- the volume without keys, on the same device
abbrev pub unkeyed : Mounted → Mounted
unkeyed m = record m { volume = unkeyed_volume m.volume }

-- the same reply, with a volume without keys
abbrev pub unkeyed_answer : {X : Type 0} → Answer X → Answer X
unkeyed_answer answer = record answer { mounted = unkeyed answer.mounted }

-- an open's handle with the key 0; a refusal stays
abbrev pub unkeyed_reply : Result Handle Refusal → Result Handle Refusal
unkeyed_reply (Ok h) = Ok (unkeyed_handle h)
unkeyed_reply (Err refusal) = Err refusal

-- an open's answer, whose handle and volume are both without keys
abbrev pub unkeyed_opened : Answer Handle → Answer Handle
unkeyed_opened answer = record { reply = unkeyed_reply answer.reply; mounted = unkeyed answer.mounted }

-- ---- the law

-- Generations are used once: they rise with each open, those of live handles were used, and a request that
-- waits was submitted through a handle that is live.
pub record IsUsedOnce (v : Volume) : Type 0 where
  pub rising : AllPairs (λ (a : Live) (b : Live). a.handle.generation < b.handle.generation) v.handles.live
  pub used : All (λ live. live.handle.generation < v.handles.opened) v.handles.live
  pub queued : All (λ request. IsSome (live_at v.handles request.handle)) v.queue.queued

-- A mount's volume has no keys; calls on a handle that is live; an open with any key; the other calls.
pub record CallsIgnoreKeys : Type 0 where
  pub mount : (given : List ℕ) (w : World) (opts : MountOpts) → IfOk (mount_call given w opts).reply (λ v. unkeyed_volume v ≡ v)
  pub unmount : (m : Mounted) → unmount_refusal (unkeyed m) ≡ unmount_refusal m
  pub opens : (m : Mounted) (key : ℕ) (path : List ℕ) (mode : Mode) (who : Who) → open_call (unkeyed m) 0 path mode who ≡ unkeyed_opened (open_call m key path mode who)
  pub close : (m : Mounted) (h : Handle) (live : Live) → IsUsedOnce m.volume → live_at m.volume.handles h ≡ Some live → close_call (unkeyed m) (unkeyed_handle h) ≡ unkeyed_answer (close_call m h)
  pub size : (m : Mounted) (h : Handle) (live : Live) → IsUsedOnce m.volume → live_at m.volume.handles h ≡ Some live → size_call (unkeyed m) (unkeyed_handle h) ≡ unkeyed_answer (size_call m h)
  pub read : (given : List ℕ) (m : Mounted) (h : Handle) (offset len : ℕ) (live : Live) → IsUsedOnce m.volume → live_at m.volume.handles h ≡ Some live → read_call given (unkeyed m) (unkeyed_handle h) offset len ≡ unkeyed_answer (read_call given m h offset len)
  pub write : (m : Mounted) (h : Handle) (offset : ℕ) (bytes : List ℕ) (live : Live) → IsUsedOnce m.volume → live_at m.volume.handles h ≡ Some live → write_call (unkeyed m) (unkeyed_handle h) offset bytes ≡ unkeyed_answer (write_call m h offset bytes)
  pub truncate : (m : Mounted) (h : Handle) (size : ℕ) (live : Live) → IsUsedOnce m.volume → live_at m.volume.handles h ≡ Some live → truncate_call (unkeyed m) (unkeyed_handle h) size ≡ unkeyed_answer (truncate_call m h size)
  pub sync : (m : Mounted) (h : Handle) (live : Live) → IsUsedOnce m.volume → live_at m.volume.handles h ≡ Some live → sync_call (unkeyed m) (unkeyed_handle h) ≡ unkeyed_answer (sync_call m h)
  pub submit : (m : Mounted) (h : Handle) (offset : ℕ) (bytes : List ℕ) (live : Live) → IsUsedOnce m.volume → live_at m.volume.handles h ≡ Some live → submit_call (unkeyed m) (unkeyed_handle h) offset bytes ≡ unkeyed_answer (submit_call m h offset bytes)
  pub complete : (m : Mounted) → complete_call (unkeyed m) ≡ unkeyed_answer (complete_call m)
  pub reap : (m : Mounted) → reap_call (unkeyed m) ≡ unkeyed_answer (reap_call m)
  pub stat : (m : Mounted) (path : List ℕ) → stat_call (unkeyed m) path ≡ unkeyed_answer (stat_call m path)
  pub entries : (m : Mounted) (path : List ℕ) → entries_call (unkeyed m) path ≡ unkeyed_answer (entries_call m path)
  pub attr : (m : Mounted) → attr_call (unkeyed m) ≡ unkeyed_answer (attr_call m)
  pub report : (m : Mounted) → report_call (unkeyed m) ≡ unkeyed_answer (report_call m)

-- On a mount's volume no generation was used, and each call keeps generations used once.
pub record CallsUseOnce : Type 0 where
  pub mount : (given : List ℕ) (w : World) (opts : MountOpts) → IfOk (mount_call given w opts).reply IsUsedOnce
  pub opens : (m : Mounted) (key : ℕ) (path : List ℕ) (mode : Mode) (who : Who) → IsUsedOnce m.volume → IsUsedOnce (open_call m key path mode who).mounted.volume
  pub close : (m : Mounted) (h : Handle) → IsUsedOnce m.volume → IsUsedOnce (close_call m h).mounted.volume
  pub size : (m : Mounted) (h : Handle) → IsUsedOnce m.volume → IsUsedOnce (size_call m h).mounted.volume
  pub read : (given : List ℕ) (m : Mounted) (h : Handle) (offset len : ℕ) → IsUsedOnce m.volume → IsUsedOnce (read_call given m h offset len).mounted.volume
  pub write : (m : Mounted) (h : Handle) (offset : ℕ) (bytes : List ℕ) → IsUsedOnce m.volume → IsUsedOnce (write_call m h offset bytes).mounted.volume
  pub truncate : (m : Mounted) (h : Handle) (size : ℕ) → IsUsedOnce m.volume → IsUsedOnce (truncate_call m h size).mounted.volume
  pub sync : (m : Mounted) (h : Handle) → IsUsedOnce m.volume → IsUsedOnce (sync_call m h).mounted.volume
  pub submit : (m : Mounted) (h : Handle) (offset : ℕ) (bytes : List ℕ) → IsUsedOnce m.volume → IsUsedOnce (submit_call m h offset bytes).mounted.volume
  pub complete : (m : Mounted) → IsUsedOnce m.volume → IsUsedOnce (complete_call m).mounted.volume
  pub reap : (m : Mounted) → IsUsedOnce m.volume → IsUsedOnce (reap_call m).mounted.volume
  pub stat : (m : Mounted) (path : List ℕ) → IsUsedOnce m.volume → IsUsedOnce (stat_call m path).mounted.volume
  pub entries : (m : Mounted) (path : List ℕ) → IsUsedOnce m.volume → IsUsedOnce (entries_call m path).mounted.volume
  pub attr : (m : Mounted) → IsUsedOnce m.volume → IsUsedOnce (attr_call m).mounted.volume
  pub report : (m : Mounted) → IsUsedOnce m.volume → IsUsedOnce (report_call m).mounted.volume

-- No call but an open and a close changes the handles.
pub record CallsKeepHandles : Type 0 where
  pub size : (m : Mounted) (h : Handle) → (size_call m h).mounted.volume.handles ≡ m.volume.handles
  pub read : (given : List ℕ) (m : Mounted) (h : Handle) (offset len : ℕ) → (read_call given m h offset len).mounted.volume.handles ≡ m.volume.handles
  pub write : (m : Mounted) (h : Handle) (offset : ℕ) (bytes : List ℕ) → (write_call m h offset bytes).mounted.volume.handles ≡ m.volume.handles
  pub truncate : (m : Mounted) (h : Handle) (size : ℕ) → (truncate_call m h size).mounted.volume.handles ≡ m.volume.handles
  pub sync : (m : Mounted) (h : Handle) → (sync_call m h).mounted.volume.handles ≡ m.volume.handles
  pub submit : (m : Mounted) (h : Handle) (offset : ℕ) (bytes : List ℕ) → (submit_call m h offset bytes).mounted.volume.handles ≡ m.volume.handles
  pub complete : (m : Mounted) → (complete_call m).mounted.volume.handles ≡ m.volume.handles
  pub reap : (m : Mounted) → (reap_call m).mounted.volume.handles ≡ m.volume.handles
  pub stat : (m : Mounted) (path : List ℕ) → (stat_call m path).mounted.volume.handles ≡ m.volume.handles
  pub entries : (m : Mounted) (path : List ℕ) → (entries_call m path).mounted.volume.handles ≡ m.volume.handles
  pub attr : (m : Mounted) → (attr_call m).mounted.volume.handles ≡ m.volume.handles
  pub report : (m : Mounted) → (report_call m).mounted.volume.handles ≡ m.volume.handles
