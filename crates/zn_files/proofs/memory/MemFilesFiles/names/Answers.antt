use Rattle.std.proofs.Common.{ap, ◌∙◌}
use Rattle.std.specs.FinMap.{keys}
use Rattle.zn_stand.specs.Directory.{Directory}
use Rattle.zn_stand.specs.Calls.{TellNames}
use Rattle.zn_files.proofs.MemSteps.{here_is, struck_here}
use Rattle.zn_files.proofs.NameKeys.{names_held}
use Rattle.zn_files.proofs.memory.MemFilesFiles.names.Goals as goal

pub returns-then-is_struck-clause-done : goal.returns-then-is_struck-clause-done
returns-then-is_struck-clause-done c = struck_here _ _ _ c.args.self.now.sound _ TellNames _ _ c.if-is_struck.ensures.faults c.if-is_struck.ensures.no_fewer

pub returns-clause-names : goal.returns-clause-names
returns-clause-names c = λ d told. c.in_ok-names.ensures.names ∙ names_held c.args.self.now.files _ c.in_ok-names.ensures.order c.args.self.now.sound.files ∙ ap (λ (e : Directory). keys e) (here_is _ _ c.args.self.now.files c.args.self.now.sound d told)
