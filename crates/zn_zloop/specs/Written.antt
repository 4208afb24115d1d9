-- What a write makes of the file of a zone, and of what is kept of it. (own)
use Rattle.std.specs.Prelude.{ℕ, ◌+◌, ◌*◌, ◌==◌, Bool, true, ◌&&◌, List, [], ◌∷◌, ◌++◌, take, drop, replicate, if◌then◌else◌}
use Rattle.zn_truth.specs.declared.limits.TheConstants.{BLOCK_SIZE}
use Rattle.zn_truth.specs.declared.Kind.{Kind}
use Rattle.zn_truth.specs.declared.Kind.TheVariants.{Conventional, Sequential}
use Rattle.zn_truth.specs.declared.Shape.{Shape}
use Rattle.zn_truth.specs.Truth.{cleared, is_sequential}
use Rattle.zn_stand.specs.File.{File, written, synced}
use Rattle.zn_zloop.specs.declared.kept.Mark.{Mark}
use Rattle.zn_zloop.specs.declared.kept.Mark.TheVariants.{Changed}
use Rattle.zn_zloop.specs.Kept.{is_listed, synced_mark}

-- a write that ends here fills the zone
abbrev pub is_full : Kind → Shape → ℕ → Bool
is_full kind shape end = is_sequential kind && end == shape.zone_capacity

-- the file: the bytes are in place, and where the zone is full, they are synced
abbrev pub written_file : Bool → ℕ → List ℕ → File → File
written_file full at new f = if full then synced (written f (BLOCK_SIZE * at) new) else written f (BLOCK_SIZE * at) new

-- the durable blocks
abbrev pub written_durable : Bool → ℕ → ℕ → ℕ
written_durable full end durable = if full then end else durable

-- the flags of unflushed blocks: those of the blocks that were written to a conventional zone are set
abbrev pub written_flags : Kind → Bool → ℕ → ℕ → List Bool → List Bool
written_flags Conventional full at blocks flags = take at flags ++ replicate blocks true ++ drop (at + blocks) flags
written_flags Sequential full at blocks flags = if full then cleared flags else flags

-- the mark
abbrev pub written_mark : Bool → Mark → Mark
written_mark full mark = if full then synced_mark mark else Changed

-- the list of those that changed, with this zone
abbrev pub with_listed : Mark → ℕ → List ℕ → List ℕ
with_listed mark z listed = if is_listed mark then listed else listed ++ z ∷ []
