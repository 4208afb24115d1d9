-- What holds of the requests that wait on a volume, so that each can be carried out once it is the oldest. (own)
use Rattle.std.specs.Prelude.{◌≡◌, ℕ, ◌+◌, ◌%◌, ◌<◌, ◌≤◌, ◌==◌, true, List, [], ◌∷◌, length, if◌then◌else◌}
use Rattle.zn_truth.specs.declared.limits.TheConstants.{BLOCK_SIZE}
use Rattle.zn_model.specs.declared.limits.TheConstants.{MOST_BYTES}
use Rattle.zn_model.specs.ZoneFiles.{files_of}
use Rattle.zn_model.specs.Volume.{Inodes, Request, file_at, capacity_at, shown_at}

-- how many bytes a request writes to a file
abbrev pub bytes_to : Request → ℕ → ℕ
bytes_to request f = if request.file == f then length request.bytes else 0

-- where each file ends behind a request, by where it ended before
abbrev pub ends_behind : (ℕ → ℕ) → Request → ℕ → ℕ
ends_behind ends request f = ends f + bytes_to request f

-- A request that can be carried out where its file ends so. The file is there; offset and length are whole blocks, and
-- not none, no more than a call may write, and within the file's capacity; in a sequential file it begins at the end.
pub record IsInPlace (inodes : Inodes) (ends : ℕ → ℕ) (request : Request) : Type 0 where
  pub known : request.file < length (files_of inodes.layout)
  pub aligned : request.offset % BLOCK_SIZE ≡ 0
  pub whole : length request.bytes % BLOCK_SIZE ≡ 0
  pub some : 0 < length request.bytes
  pub most : length request.bytes ≤ MOST_BYTES
  pub inside : request.offset + length request.bytes ≤ capacity_at inodes request.file
  pub follows : (file_at inodes request.file).seq ≡ true → request.offset ≡ ends request.file

-- Each request can be carried out where those before it end.
abbrev pub AreInLine : Inodes → (ℕ → ℕ) → List Request → Type 0
AreInLine inodes ends [] = Unit {0}
AreInLine inodes ends (request ∷ later) = IsInPlace inodes ends request × AreInLine inodes (ends_behind ends request) later

-- The requests that wait can be carried out one after another: of each sequential file the first begins at the size
-- that the file shows, and each next at the end of the one before it.
pub record AreInFlight (inodes : Inodes) (queued : List Request) : Type 0 where
  pub line : AreInLine inodes (λ f. (shown_at inodes f).size) queued
