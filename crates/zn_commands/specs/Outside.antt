-- What a command works with besides its words. (own)
use Rattle.std.specs.Prelude.{◌≡◌}
use Rattle.zn_base.specs.States.{SourceState, SinkState}
use Rattle.zn_files.specs.States.{FilesState}
use Rattle.zn_run.specs.States.{HasRisen}

-- a directory, the source of a script, and the sink of what is printed, at one moment
pub record Outside : Type 0 where
  pub files : FilesState
  pub source : SourceState
  pub sink : SinkState

-- this directory, this source and this sink
abbrev pub outside_of : FilesState → SourceState → SinkState → Outside
outside_of files source sink = record { files = files; source = source; sink = sink }

-- no call on a file, no read and no write failed
pub record IsQuiet (old new : Outside) : Type 0 where
  pub no_break : ¬ HasRisen old.files.faults new.files.faults
  pub no_read : ¬ HasRisen old.source.faults new.source.faults
  pub no_write : ¬ HasRisen old.sink.faults new.sink.faults

-- no count has moved
pub record IsCountKept (old new : Outside) : Type 0 where
  pub files : new.files.faults ≡ old.files.faults
  pub reads : new.source.faults ≡ old.source.faults
  pub writes : new.sink.faults ≡ old.sink.faults
