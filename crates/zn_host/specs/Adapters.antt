-- A source over a reader and a sink over a writer, as their callers see them. (own)
use Rattle.std.specs.Prelude.{◌≡◌, ℕ, List, [], ◌++◌, ◌∷◌, ◌⊎◌, nat_lt, length, take, Option, None, Result, IfOk, OnErr}
use Rattle.std.specs.Io.KnownBytes.{Appends}
use Rattle.zn_base.specs.States.{SourceState, SinkState}
use Rattle.zn_base.specs.Told.{told_and}
use Rattle.zn_host.specs.declared.adapters.Buffering.{Buffering}
use Rattle.zn_host.specs.declared.adapters.Buffering.TheVariants.{Line}

-- a source: its reader, and how many reads failed
pub record ReaderState (R : Type 0) : Type 0 where
  pub reader : R
  pub faults : ℕ

-- a sink: its writer, when it writes out, the bytes that are gathered and not yet written out, and how many writes failed
pub record WriterState (W : Type 0) : Type 0 where
  pub writer : W
  pub buffering : Buffering
  pub gathered : List ℕ
  pub faults : ℕ

-- its count of faults alone is told
abbrev pub untold_source : {R : Type 0} → ReaderState R → SourceState
untold_source s = record { left = None; faults = s.faults }

-- its count of faults is told, and whether bytes are gathered
abbrev pub untold_sink : {W : Type 0} → WriterState W → SinkState
untold_sink s = record { written = None; held_back = nat_lt 0 (length s.gathered); faults = s.faults }

-- the last byte is a newline
abbrev pub EndsLine : List ℕ → Type 0
EndsLine bytes = (front : List ℕ) × (bytes ≡ front ++ 10 ∷ [])

-- What a write to a sink did. The bytes that it took are gathered or written out, behind those that were gathered
-- before, and written out if they end a line and lines are written out at once. The contents are those of the writer,
-- where it tells them. A write that failed has lost what was gathered.
pub record Takes {E : Type 0} (buffering : Buffering) (old new : Option (List ℕ)) (gathered left : List ℕ)
    (result : Result ℕ E) (piece : List ℕ) : Type 0 where
  pub bytes : IfOk result (λ n. Appends (told_and old gathered) (told_and new left) (take n piece))
  pub held : IfOk result (λ n. (left ≡ []) ⊎ (left ≡ gathered ++ take n piece))
  pub sent : buffering ≡ Line → IfOk result (λ n. EndsLine (take n piece) → left ≡ [])
  pub lost : OnErr result (left ≡ [])
