use Rattle.std.proofs.Common.{◌≤◌, length}
use Rattle.zn_script.proofs.DataParts.{IsPutUpTo}
use Rattle.zn_script.proofs.data.expand.Given as goal

abbrev pub invariant-parts : goal.invariant-parts
invariant-parts l = record { short : length l.rest ≤ length l.word; put : IsPutUpTo l.word l.rest l.at l.out }

abbrev pub decreases-parts : goal.decreases-parts
decreases-parts l = length l.rest
