-- What a new device holds, in the form that proofs unfold.
use Rattle.std.specs.Prelude.{true, List, map}
use Rattle.zn_truth.specs.declared.Kind.{Kind}
use Rattle.zn_truth.specs.declared.Shape.{Shape}
use Rattle.zn_truth.specs.Truth.{Truth}
use Rattle.zn_truth.specs.Fresh.{fresh_zone}

-- a device with these zones, to which nothing was written
abbrev pub fresh : Shape → List Kind → Truth
fresh shape kinds = record { told = true; shape = shape; zones = map (fresh_zone shape) kinds }
