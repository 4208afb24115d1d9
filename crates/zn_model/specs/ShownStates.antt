-- What a file shows to every handle, and what a recovery makes of it.
use Rattle.std.specs.Prelude.{ℕ, ◌*◌, Bool, true, false, List, [], ◌∷◌, map, sum_by}
use Rattle.std.specs.List.{range_with_len}
use Rattle.zn_truth.specs.declared.limits.TheConstants.{BLOCK_SIZE}
use Rattle.zn_truth.specs.declared.Cond.{Cond}
use Rattle.zn_truth.specs.declared.Cond.TheVariants.{Good, ReadOnly, Offline}
use Rattle.zn_truth.specs.declared.ZoneInfo.{ZoneInfo}
use Rattle.zn_truth.specs.Truth.{Truth, info_at}
use Rattle.zn_model.specs.declared.files.Policy.{Policy}
use Rattle.zn_model.specs.declared.files.Policy.TheVariants.{RemountRo, ZoneRo, ZoneOffline, Repair}
use Rattle.zn_model.specs.declared.files.FileZones.{FileZones}
use Rattle.zn_model.specs.declared.files.Shown.{Shown}

-- a size in bytes, the rights, and whether the file is held open
abbrev pub showing : ℕ → Bool → Bool → Bool → Shown
showing size may_read may_write held_open = record { size = size; may_read = may_read; may_write = may_write; held_open = held_open }

-- ---- what the zones of a file tell

-- what a report tells of the zones of a file
abbrev pub infos_of : Truth → FileZones → List ZoneInfo
infos_of t file = map (info_at t) (range_with_len file.first file.zones)

-- the worse of two conditions: offline is the worst, and good the best
abbrev pub worse : Cond → Cond → Cond
worse Good b = b
worse ReadOnly Good = ReadOnly
worse ReadOnly ReadOnly = ReadOnly
worse ReadOnly Offline = Offline
worse Offline b = Offline

-- the worst condition of the zones
abbrev pub worst : List ZoneInfo → Cond
worst [] = Good
worst (info ∷ infos) = worse info.cond (worst infos)

-- the blocks that the zones hold
abbrev pub holds : List ZoneInfo → ℕ
holds infos = sum_by (λ info. info.held) infos

-- ---- the table of policies

-- The row of the table of policies: the size becomes what the zones hold (both sizes in bytes), or stays, or
-- is 0; and the file may be read, and written. ("filesystems/zonefs, IO error handling")
abbrev pub policy_row : Policy → Cond → ℕ → ℕ → Bool → Shown
policy_row RemountRo Good held size stays_open = showing held true false stays_open
policy_row RemountRo ReadOnly held size stays_open = showing size true false stays_open
policy_row RemountRo Offline held size stays_open = showing 0 false false stays_open
policy_row ZoneRo Good held size stays_open = showing held true false stays_open
policy_row ZoneRo ReadOnly held size stays_open = showing size true false stays_open
policy_row ZoneRo Offline held size stays_open = showing 0 false false stays_open
policy_row ZoneOffline Good held size stays_open = showing 0 false false stays_open
policy_row ZoneOffline ReadOnly held size stays_open = showing 0 false false stays_open
policy_row ZoneOffline Offline held size stays_open = showing 0 false false stays_open
policy_row Repair Good held size stays_open = showing held true true stays_open
policy_row Repair ReadOnly held size stays_open = showing size true false stays_open
policy_row Repair Offline held size stays_open = showing 0 false false stays_open

-- whether each recovery makes the whole file system read-only
abbrev pub makes_read_only : Policy → Bool
makes_read_only RemountRo = true
makes_read_only ZoneRo = false
makes_read_only ZoneOffline = false
makes_read_only Repair = false

-- ---- at a mount

-- by the worst condition: what is held, in bytes, with all rights, or size 0 without rights; none is held open
abbrev pub mounted_by : Cond → ℕ → Shown
mounted_by Good held = showing held true true false
mounted_by ReadOnly held = showing 0 false false false
mounted_by Offline held = showing 0 false false false

-- What a mount shows of a file: what it holds, with all rights, where all its zones are good; else size 0
-- and no rights. ("filesystems/zonefs, IO error handling": read-only at a mount is as offline)
abbrev pub mounted_shown : Truth → FileZones → Shown
mounted_shown t file = mounted_by (worst (infos_of t file)) (BLOCK_SIZE * holds (infos_of t file))
