-- Last lines of runs that their script does not end. (own)
use Rattle.std.specs.Prelude.{ℕ, List, codes}
use Rattle.std.specs.Fmt.{decimal}
use Rattle.zn_base.specs.Texts.{◌⧺◌}

-- the last line of a run that ended for want of memory
abbrev pub out_of_memory : List ℕ
out_of_memory = codes "out-of-memory\n"

-- the last line of a run that ended since the host failed in the line with this number
abbrev pub host_fault : ℕ → List ℕ
host_fault n = codes "host-fault " ⧺ decimal n ⧺ codes "\n"
