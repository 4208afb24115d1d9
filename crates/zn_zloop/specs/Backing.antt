-- What the file of a zone is, between two commands: each of its images stands for the zone after a loss of power. (own)
use Rattle.std.specs.Prelude.{◌≡◌, ℕ, ◌*◌, ◌/◌, ◌<◌, ◌≤◌, false, slice_index, slice_index_or, Option, Some, None, IsTrue, IsSome}
use Rattle.zn_truth.specs.declared.limits.TheConstants.{BLOCK_SIZE}
use Rattle.zn_truth.specs.declared.Kind.{Kind}
use Rattle.zn_truth.specs.declared.Kind.TheVariants.{Conventional, Sequential}
use Rattle.zn_truth.specs.Truth.{Zone, is_good, is_offline}
use Rattle.zn_stand.specs.File.{File, at_rest, is_length, is_in_blocks, is_kept, synced_bytes}

-- a length that a stop may leave of the file of a sequential zone: whole blocks, between those that are durable and
-- those that are held
pub record IsLengthOf (zone : Zone) (n : ℕ) : Type 0 where
  pub whole : IsTrue (is_in_blocks n)
  pub no_less : BLOCK_SIZE * zone.durable ≤ n
  pub no_more : n ≤ BLOCK_SIZE * zone.held

-- the byte at this place is one that a stop leaves as the zone has it
pub record IsKeptOf (f : File) (zone : Zone) (i : ℕ) : Type 0 where
  pub kept : IsTrue (is_kept f i)
  pub same : slice_index (synced_bytes f) i ≡ slice_index zone.bytes i

-- the file of a good sequential zone: its durable blocks are kept
pub record BacksDurable (f : File) (zone : Zone) : Type 0 where
  pub lengths : (n : ℕ) → IsTrue (is_length f n) → IsLengthOf zone n
  pub each : (i : ℕ) → i < BLOCK_SIZE * zone.durable → IsKeptOf f zone i

-- the file of a good conventional zone: its length is the zone's size, and each block that isn't unflushed is kept
pub record BacksFlushed (f : File) (zone : Zone) : Type 0 where
  pub lengths : (n : ℕ) → IsTrue (is_length f n) → n ≡ BLOCK_SIZE * zone.held
  pub each : (i : ℕ) → i < BLOCK_SIZE * zone.held → slice_index_or zone.unflushed (i / BLOCK_SIZE) false ≡ false → IsKeptOf f zone i

-- by the kind of the zone
abbrev pub Backs : Kind → File → Zone → Type 0
Backs Conventional f zone = BacksFlushed f zone
Backs Sequential f zone = BacksDurable f zone

-- The file of a zone that isn't offline has the zone's bytes; it was synced once. That of a good zone backs it, and that
-- of any other is at rest.
pub record IsFileOf (zone : Zone) (f : File) : Type 0 where
  pub bytes : ¬ IsTrue (is_offline zone.cond) → f.bytes ≡ zone.bytes
  pub synced : IsSome f.at_sync
  pub good : IsTrue (is_good zone.cond) → Backs zone.kind f zone
  pub settled : ¬ IsTrue (is_good zone.cond) → f ≡ at_rest f.bytes

-- a file that is there and is the zone's
abbrev pub IsFileAt : Zone → Option File → Type 0
IsFileAt zone None = ⊥
IsFileAt zone (Some f) = IsFileOf zone f
