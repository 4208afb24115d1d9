-- What harm makes of the file of a zone. (own)
use Rattle.std.specs.Prelude.{◌≡◌, ℕ, ◌*◌, Bool, List, replicate, Option, if◌then◌else◌}
use Rattle.std.specs.Option.{option_map}
use Rattle.zn_truth.specs.declared.limits.TheConstants.{BLOCK_SIZE}
use Rattle.zn_truth.specs.Power.{with_fill, with_fill_unflushed}
use Rattle.zn_stand.specs.File.{File, at_rest, written, resized}

-- a block of which each byte is this one
unfoldable pub block_of : ℕ → List ℕ
block_of byte = replicate BLOCK_SIZE byte

-- the bytes of a file became what this makes of them
abbrev pub BytesBecame : (List ℕ → List ℕ) → Option File → Option File → Type 0
BytesBecame change o p = option_map (λ (f : File). f.bytes) p ≡ option_map (λ (f : File). change f.bytes) o

-- the file with its bytes as this makes them, and synced
abbrev pub synced_with : (List ℕ → List ℕ) → File → File
synced_with change f = at_rest (change f.bytes)

-- the file with a block in the place of the one with this number, where that has a flag
abbrev pub block_put : Bool → ℕ → List ℕ → File → File
block_put flag i block f = if flag then written f (BLOCK_SIZE * i) block else f

-- the file cut to so many blocks, filled from one on, if a byte is given, and synced
abbrev pub cut_file : ℕ → ℕ → Option ℕ → File → File
cut_file from len fill f = synced_with (with_fill fill from) (resized f (BLOCK_SIZE * len))

-- the same, unless all that the zone holds is durable
abbrev pub settled_file : Bool → ℕ → ℕ → Option ℕ → File → File
settled_file durable from len fill f = if durable then f else cut_file from len fill f

-- the file with its unflushed blocks filled, if a byte is given, and synced, where it changed
abbrev pub scrubbed_file : Bool → List Bool → Option ℕ → File → File
scrubbed_file changed flags fill f = if changed then synced_with (with_fill_unflushed fill flags) f else f
