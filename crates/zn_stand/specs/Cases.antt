-- Small files, worked through.
use Rattle.std.specs.Prelude.{◌≡◌, ℕ, Bool, true, false, List, [], ◌∷◌, map, replicate, Option, Some, None}
use Rattle.zn_stand.specs.File.{File, created, at_rest, written, resized, synced, is_length, value_left}

-- whether each of these is a length that a stop may leave
abbrev pub lengths : File → List ℕ → List Bool
lengths f ns = map (λ n. is_length f n) ns

-- the one value that a stop leaves of the byte at each of these places, if it is one
abbrev pub values : File → List ℕ → List (Option ℕ)
values f places = map (λ i. value_left f i) places

-- a file of one block that was synced, and to which two blocks were written behind it
abbrev pub grown : File
grown = written (at_rest (replicate 4096 97)) 4096 (replicate 8192 98)

-- It has one, two or three blocks.
abbrev pub GrownLengths : Type 0
GrownLengths = lengths grown (0 ∷ 4096 ∷ 4097 ∷ 8192 ∷ 12288 ∷ 16384 ∷ []) ≡ false ∷ true ∷ false ∷ true ∷ true ∷ false ∷ []

-- The synced block is as it was, and what was written behind it may be anything.
abbrev pub GrownValues : Type 0
GrownValues = values grown (0 ∷ 4095 ∷ 4096 ∷ 12287 ∷ []) ≡ Some 97 ∷ Some 97 ∷ None ∷ None ∷ []

-- a file of three bytes that was synced, cut to one, and grown to four
abbrev pub cut_and_grown : File
cut_and_grown = resized (resized (at_rest (1 ∷ 2 ∷ 3 ∷ [])) 1) 4

-- It has the length that it had, or one of those that it was set to.
abbrev pub CutLengths : Type 0
CutLengths = lengths cut_and_grown (0 ∷ 1 ∷ 2 ∷ 3 ∷ 4 ∷ []) ≡ false ∷ true ∷ false ∷ true ∷ true ∷ []

-- What wasn't cut off is as it was; what was, and is there again, may be anything; the byte that is new is zero.
abbrev pub CutValues : Type 0
CutValues = values cut_and_grown (0 ∷ 1 ∷ 2 ∷ 3 ∷ []) ≡ Some 1 ∷ None ∷ None ∷ Some 0 ∷ []

-- Once it is cut and not grown again, the bytes that were cut off are as they were, where they are there.
abbrev pub CutKeeps : Type 0
CutKeeps = values (resized (at_rest (1 ∷ 2 ∷ 3 ∷ [])) 1) (0 ∷ 1 ∷ 2 ∷ []) ≡ Some 1 ∷ Some 2 ∷ Some 3 ∷ []

-- A synced byte that is written over may be anything, and the length is what it was.
abbrev pub Overwritten : Type 0
Overwritten = values (written (at_rest (1 ∷ 2 ∷ 3 ∷ [])) 1 (9 ∷ [])) (0 ∷ 1 ∷ 2 ∷ []) ≡ Some 1 ∷ None ∷ Some 3 ∷ []

-- a file that was never synced: a byte was written, and then two were added
abbrev pub never_synced : File
never_synced = resized (written created 0 (7 ∷ [])) 3

-- The byte that was written may be anything, and those that were added are zero. The length is any that it had.
abbrev pub NeverSynced : Type 0
NeverSynced = (values never_synced (0 ∷ 1 ∷ 2 ∷ []) ≡ None ∷ Some 0 ∷ Some 0 ∷ []) × (lengths never_synced (0 ∷ 1 ∷ 2 ∷ 3 ∷ []) ≡ true ∷ true ∷ false ∷ true ∷ [])

-- Written over and cut off, a byte that is added again may still be anything: a write touched it.
abbrev pub WrittenAndCut : Type 0
WrittenAndCut = values (resized (resized never_synced 0) 2) (0 ∷ 1 ∷ []) ≡ None ∷ Some 0 ∷ []

-- After a sync each byte and the length are what a read gives.
abbrev pub Synced : Type 0
Synced = (values (synced never_synced) (0 ∷ 1 ∷ 2 ∷ []) ≡ Some 7 ∷ Some 0 ∷ Some 0 ∷ []) × (lengths (synced never_synced) (0 ∷ 1 ∷ 2 ∷ 3 ∷ []) ≡ false ∷ false ∷ false ∷ true ∷ [])
