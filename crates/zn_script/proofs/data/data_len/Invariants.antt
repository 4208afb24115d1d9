use Rattle.std.proofs.Common.{◌≤◌, length}
use Rattle.zn_model.specs.declared.limits.TheConstants.{MOST_BYTES}
use Rattle.zn_script.proofs.DataParts.{IsReadUpTo}
use Rattle.zn_script.proofs.data.data_len.Given as goal

abbrev pub invariant-parts : goal.invariant-parts
invariant-parts l = record { small : l.total ≤ MOST_BYTES; short : length l.rest ≤ length l.word; upto : IsReadUpTo l.word l.rest l.total }

abbrev pub decreases-parts : goal.decreases-parts
decreases-parts l = length l.rest
