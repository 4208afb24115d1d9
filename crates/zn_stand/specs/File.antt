-- A file: what the calls on it make of it, and what a stop of the host may leave of it. (own)
use Rattle.std.specs.Prelude.{◌≡◌, ℕ, ◌+◌, ◌-◌, ◌*◌, ◌/◌, ◌<◌, Bool, false, ◌&&◌, ◌||◌, ◌==◌, not, nat_lt, nat_le, IsTrue, List, [], ◌∷◌, ◌++◌, length, take, replicate, slice_index, Option, Some, None, unwrap_or, if◌then◌else◌, MatchOption}
use Rattle.std.specs.List.{list_any}
use Rattle.zn_truth.specs.declared.limits.TheConstants.{BLOCK_SIZE}
use Rattle.zn_truth.specs.Orders.{replaced}

-- How a file came to a length: it had it, or a write grew the file to it from another.
pub data Extent : Type 0 where
  Had : ℕ → Extent
  Grew : ℕ → ℕ → Extent

-- A file. `bytes` is what a read gives. The rest is what a stop asks for: `at_sync`, its bytes at its last sync, or
-- none where it was never synced; `extents`, the length that it had then and how each call since came to its own, the
-- last one first; `is_written` and `is_added`, for each place whether a write touched it since, and whether a call
-- that set the length added it since.
pub record File : Type 0 where
  pub bytes : List ℕ
  pub at_sync : Option (List ℕ)
  pub extents : List Extent
  pub is_written : ℕ → Bool
  pub is_added : ℕ → Bool

-- ---- calls

-- no place
abbrev pub no_place : ℕ → Bool
no_place i = false

-- the places from one on, up to another
abbrev pub is_between : ℕ → ℕ → ℕ → Bool
is_between from to i = nat_le from i && nat_lt i to

-- a file as it is created: empty, and never synced
abbrev pub created : File
created = record { bytes = []; at_sync = None; extents = Had 0 ∷ []; is_written = no_place; is_added = no_place }

-- a file that was synced with these bytes, and that no call changed since
abbrev pub at_rest : List ℕ → File
at_rest bytes = record { bytes = bytes; at_sync = Some bytes; extents = Had (length bytes) ∷ []; is_written = no_place; is_added = no_place }

-- the file with these bytes written from a place on, up to which it reaches
abbrev pub written : File → ℕ → List ℕ → File
written f at new = record f {
  bytes = replaced f.bytes at new;
  extents = Grew (length f.bytes) (length (replaced f.bytes at new)) ∷ f.extents;
  is_written = λ i. f.is_written i || is_between at (at + length new) i;
}

-- the file cut to a length, or grown to it with zeros
abbrev pub resized : File → ℕ → File
resized f len = record f {
  bytes = take len f.bytes ++ replicate (len - length f.bytes) 0;
  extents = Had len ∷ f.extents;
  is_added = λ i. f.is_added i || is_between (length f.bytes) len i;
}

-- the file synced
abbrev pub synced : File → File
synced f = at_rest f.bytes

-- ---- what a stop may leave of it

-- whole blocks
abbrev pub is_in_blocks : ℕ → Bool
is_in_blocks n = BLOCK_SIZE * (n / BLOCK_SIZE) == n

-- The length is the one that the file had. Where a write grew it, any whole blocks on the way may be the length too.
abbrev pub is_on_the_way : Extent → ℕ → Bool
is_on_the_way (Had len) n = n == len
is_on_the_way (Grew from to) n = n == to || (nat_le from n && nat_le n to && is_in_blocks n)

-- The length of a file is one that it had at its last sync or after a call since, or lies on the way there.
abbrev pub is_length : File → ℕ → Bool
is_length f n = list_any (λ extent. is_on_the_way extent n) f.extents

-- the bytes at the last sync; of a file that was never synced, none
abbrev pub synced_bytes : File → List ℕ
synced_bytes f = unwrap_or f.at_sync []

-- the place lies within the synced contents
abbrev pub is_synced : File → ℕ → Bool
is_synced f i = nat_lt i (length (synced_bytes f))

-- A byte keeps its value if it lay within the synced contents, no write touched it since, and it wasn't both cut off
-- and added again since. What lay within them can only have been added where it had been cut off.
abbrev pub is_kept : File → ℕ → Bool
is_kept f i = is_synced f i && not (f.is_written i) && not (f.is_added i)

-- A byte outside the synced contents, which a call that set the length added and no write touched, is zero.
abbrev pub is_zeroed : File → ℕ → Bool
is_zeroed f i = not (is_synced f i) && f.is_added i && not (f.is_written i)

-- the one value that a stop leaves of a byte that is kept or zeroed; of any other, none
abbrev pub value_left : File → ℕ → Option ℕ
value_left f i = if is_kept f i then Some (slice_index (synced_bytes f) i) else if is_zeroed f i then Some 0 else None

-- a byte is what is left of it, or, if nothing is, any
abbrev pub IsByte : File → ℕ → ℕ → Type 0
IsByte f i byte = MatchOption (value_left f i) (byte < 256) (λ value. byte ≡ value)

-- bytes that a stop may leave of a file that is there
pub record IsImage (f : File) (image : List ℕ) : Type 0 where
  pub len : IsTrue (is_length f (length image))
  pub each : (i : ℕ) → i < length image → IsByte f i (slice_index image i)

-- ---- what each file keeps to

-- each is a byte
abbrev pub AreBytes : List ℕ → Type 0
AreBytes bytes = (i : ℕ) → slice_index bytes i < 256

-- What the calls make of a file: its bytes are an image of it, and so are those at its last sync; and what lies below
-- a length that it may have was synced, written or added.
pub record IsSoundFile (f : File) : Type 0 where
  pub bytes : AreBytes f.bytes
  pub image : IsImage f f.bytes
  pub at_sync : AreBytes (synced_bytes f)
  pub synced_image : (bytes : List ℕ) → f.at_sync ≡ Some bytes → IsImage f bytes
  pub known : (n i : ℕ) → IsTrue (is_length f n) → i < n → IsTrue (is_synced f i || f.is_written i || f.is_added i)
