use Rattle.std.proofs.Common.{refl}
use Rattle.zn_model.specs.Access.{access}
use Rattle.zn_model.proofs.laws.access_cases.Goals as goal

pub returns : goal.returns
unfolding access
returns c = record {
  owner = refl;
  group_reads = refl;
  group_writes = refl;
  others = refl;
  root = refl;
  owner_first = refl;
}
