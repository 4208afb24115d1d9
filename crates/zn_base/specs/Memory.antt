-- A source and a sink in memory, as their callers see them, and what each call of them does. (own)
use Rattle.std.specs.Prelude.{◌≡◌, ℕ, ◌+◌, ◌<◌, ◌↔◌, ◌⊎◌, min, false, List, Some, length, Result, IsErr, IfOk, OnErr, Contains}
use Rattle.zn_base.specs.Causes.{one_more}
use Rattle.zn_base.specs.States.{SourceState, SinkState}

-- a source: the bytes that are left, the numbers of the reads that fail, how many reads were made, and how many failed
pub record MemSourceState : Type 0 where
  pub left : List ℕ
  pub fails : List ℕ
  pub calls : ℕ
  pub faults : ℕ

-- a sink: the bytes that were written, how many more fit, the numbers of the writes that fail, how many writes
-- were made, and how many failed
pub record MemSinkState : Type 0 where
  pub bytes : List ℕ
  pub room : ℕ
  pub fails : List ℕ
  pub calls : ℕ
  pub faults : ℕ

-- it tells its bytes
abbrev pub source_state : MemSourceState → SourceState
source_state s = record { left = Some s.left; faults = s.faults }

-- it tells its bytes, and holds none back
abbrev pub sink_state : MemSinkState → SinkState
sink_state s = record { written = Some s.bytes; held_back = false; faults = s.faults }

-- A read fails exactly where its number is listed, and else gives as much as the buffer takes.
pub record MemReads {E : Type 0} (old new : MemSourceState) (buf : List ℕ) (result : Result ℕ E) : Type 0 where
  pub fault : IsErr result ↔ Contains old.fails new.calls
  pub count : IfOk result (λ n. n ≡ min (length old.left) (length buf))
  pub counted : OnErr result (new.faults ≡ one_more old.faults)
  pub called : new.calls ≡ one_more old.calls
  pub listed : new.fails ≡ old.fails

-- A write fails exactly where its number is listed or the piece has bytes and there is no room, and else takes
-- as much as there is room for.
pub record MemWrites {E : Type 0} (old new : MemSinkState) (piece : List ℕ) (result : Result ℕ E) : Type 0 where
  pub fault : IsErr result ↔ (Contains old.fails new.calls ⊎ ((0 < length piece) × (old.room ≡ 0)))
  pub count : IfOk result (λ n. (n ≡ min (length piece) old.room) × (new.room + n ≡ old.room))
  pub counted : OnErr result ((new.faults ≡ one_more old.faults) × (new.room ≡ old.room))
  pub called : new.calls ≡ one_more old.calls
  pub listed : new.fails ≡ old.fails
