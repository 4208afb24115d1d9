-- What a line that was read means.
use Rattle.std.specs.Prelude.{◌≡◌, ℕ, List, [], Option, Some, None, Result, Ok, Err, unwrap_or}
use Rattle.zn_base.specs.Runs.{Run}
use Rattle.zn_lines.specs.Grammar.{data_of}
use Rattle.zn_lines.specs.Lines as lines
use Rattle.std.specs.Option.{option_copied}
use Rattle.zn_script.specs.Cuts.{cuts_meant}
use Rattle.zn_script.specs.Data.{CallFits}
use Rattle.zn_script.specs.Items.{format_meant}
use Rattle.zn_script.specs.declared.Line.{Line}
use Rattle.zn_script.specs.declared.Line.TheVariants.{Mkfs as MkfsLine, Mount as MountLine, Umount as UmountLine, Open as OpenLine, Close as CloseLine, Size as SizeLine, Read as ReadLine, Write as WriteLine, Truncate as TruncateLine, Sync as SyncLine, Stat as StatLine, List as ListLine, Attr as AttrLine, Change as ChangeLine, Fault as FaultLine, Turn as TurnLine, Submit as SubmitLine, Complete as CompleteLine, Reap as ReapLine, Zones as ZonesLine, PowerLoss as PowerLossLine, PowerLossIn as PowerLossInLine, PowerOn as PowerOnLine}

-- the runs that a word of data means
abbrev pub runs_meant : List ℕ → List Run
runs_meant word = unwrap_or (data_of word) []

-- the line as the model has it; data is the runs that it means, and words of cuts are these cuts
abbrev pub line_meant : Line → lines.Line
line_meant (MkfsLine words) = lines.Mkfs (format_meant words)
line_meant (MountLine text) = lines.Mount (option_copied text)
line_meant UmountLine = lines.Umount
line_meant (OpenLine number path mode who) = lines.OpenFile number path.now mode who
line_meant (CloseLine number) = lines.CloseFile number
line_meant (SizeLine number) = lines.SizeOf number
line_meant (ReadLine number offset len) = lines.ReadFrom number offset len
line_meant (WriteLine number offset word) = lines.WriteTo number offset (runs_meant word.now)
line_meant (TruncateLine number size) = lines.TruncateTo number size
line_meant (SyncLine number) = lines.SyncFile number
line_meant (StatLine path) = lines.StatOf path.now
line_meant (ListLine path) = lines.ListOf path.now
line_meant AttrLine = lines.Attributes
line_meant (ChangeLine change) = lines.Changes change
line_meant (FaultLine zone command keep) = lines.FaultOn zone command keep
line_meant (TurnLine zone to) = lines.TurnTo zone to
line_meant (SubmitLine number offset word) = lines.SubmitTo number offset (runs_meant word.now)
line_meant CompleteLine = lines.Complete
line_meant ReapLine = lines.Reap
line_meant ZonesLine = lines.Zones
line_meant (PowerLossLine fill words) = lines.PowerLoss fill (cuts_meant words.now)
line_meant (PowerLossInLine zone command carried_out fill words) = lines.PowerLossIn zone command carried_out fill (cuts_meant words.now)
line_meant PowerOnLine = lines.PowerOn

-- a line, or none where it has no reply
abbrev pub reading_meant : Option Line → Option lines.Line
reading_meant None = None
reading_meant (Some line) = Some (line_meant line)

-- that a function gives the line that a reading of words gives, and that its call fits
abbrev pub GivesLine : Result Line ℕ → Result lines.Line ℕ → Type 0
GivesLine (Ok line) read = (read ≡ Ok (line_meant line)) × CallFits line
GivesLine (Err e) read = read ≡ Err e
