use Rattle.zn_model.proofs.Alike.{call_alike}
use Rattle.zn_model.proofs.given_laws.reads_are_alike.Goals as goal

pub returns : goal.returns
returns c = record {
  mounted = λ given other m h offset len. (call_alike given other m h offset len).mounted;
  count = λ given other m h offset len. (call_alike given other m h offset len).count;
}
