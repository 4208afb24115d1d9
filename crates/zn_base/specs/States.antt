-- What callers see of a source and of a sink, and what their calls make of it. (own)
use Rattle.std.specs.Prelude.{ℕ, Bool, List, Option, Result, OnOk, OnErr}
use Rattle.zn_base.specs.Causes.{HasCause}
use Rattle.zn_base.specs.Told.{Grew, GrewToward, ReadGave, WriteGrew}

-- A source: the bytes that are left, where they are told, and how often a read has failed.
pub record SourceState : Type 0 where
  pub left : Option (List ℕ)
  pub faults : ℕ

-- A sink: the bytes that were written, where they are told, whether some of them may be held back in it, and how often
-- a write has failed.
pub record SinkState : Type 0 where
  pub written : Option (List ℕ)
  pub held_back : Bool
  pub faults : ℕ

-- What a read did: the bytes that it gave, and its cause where it failed.
pub record WasRead {E : Type 0} (result : Result ℕ E) (buf : List ℕ) (old new : SourceState) : Type 0 where
  pub bytes : ReadGave old.left new.left result buf
  pub cause : HasCause old.faults new.faults result

-- What a write did: the bytes that it took, and its cause where it failed.
pub record WasWritten {E : Type 0} (result : Result ℕ E) (piece : List ℕ) (old new : SinkState) : Type 0 where
  pub bytes : WriteGrew old.written new.written result piece
  pub cause : HasCause old.faults new.faults result

-- A writer that was to add these bytes did so at Ok, and at Err added a front of them and counted a fault.
pub record Writes {T E : Type 0} (result : Result T E) (due : List ℕ) (old new : SinkState) : Type 0 where
  pub all : OnOk result (Grew old.written new.written due)
  pub front : OnErr result (GrewToward old.written new.written due)
  pub cause : HasCause old.faults new.faults result
