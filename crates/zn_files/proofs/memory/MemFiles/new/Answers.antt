use Rattle.std.proofs.Common.{ap, map}
use Rattle.zn_files.specs.Record.{call_of, recorded_of}
use Rattle.zn_files.proofs.MemFirst.{first_sound}
use Rattle.zn_files.proofs.memory.MemFiles.new.Goals as goal

pub invariant_of-result : goal.invariant_of-result
invariant_of-result c = record { sound = first_sound _ _ _ (ap (map call_of) c.new.ensures.items) (ap (map recorded_of) c.new-2.ensures.items) c.new-3.ensures.empty }
