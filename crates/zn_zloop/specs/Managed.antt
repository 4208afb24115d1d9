-- What a command that manages a zone makes of its file, and of what is kept of it. (own)
use Rattle.std.specs.Prelude.{ℕ, ◌*◌, ◌==◌, Bool, List, if◌then◌else◌}
use Rattle.zn_truth.specs.declared.limits.TheConstants.{BLOCK_SIZE}
use Rattle.zn_truth.specs.declared.ZoneOp.{ZoneOp}
use Rattle.zn_truth.specs.declared.ZoneOp.TheVariants.{Open, Close, Reset, Finish}
use Rattle.zn_truth.specs.Truth.{cleared}
use Rattle.zn_stand.specs.File.{File, resized, synced}
use Rattle.zn_zloop.specs.declared.kept.Mark.{Mark}
use Rattle.zn_zloop.specs.Kept.{synced_mark}

-- the file of a zone that holds so many blocks of its capacity: emptied and synced, or synced, grown and synced again
abbrev pub managed_file : ZoneOp → ℕ → ℕ → File → File
managed_file Open capacity held f = f
managed_file Close capacity held f = f
managed_file Reset capacity held f = synced (resized f 0)
managed_file Finish capacity held f = if held == capacity then f else synced (resized (synced f) (BLOCK_SIZE * capacity))

-- the durable blocks
abbrev pub managed_durable : ZoneOp → ℕ → ℕ → ℕ
managed_durable Open capacity durable = durable
managed_durable Close capacity durable = durable
managed_durable Reset capacity durable = 0
managed_durable Finish capacity durable = capacity

-- the flags of unflushed blocks
abbrev pub managed_flags : ZoneOp → List Bool → List Bool
managed_flags Open flags = flags
managed_flags Close flags = flags
managed_flags Reset flags = cleared flags
managed_flags Finish flags = cleared flags

-- the mark
abbrev pub managed_mark : ZoneOp → Mark → Mark
managed_mark Open mark = mark
managed_mark Close mark = mark
managed_mark Reset mark = synced_mark mark
managed_mark Finish mark = synced_mark mark
