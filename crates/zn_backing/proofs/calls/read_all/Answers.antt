use Rattle.std.proofs.Common.{ap, ◌∙◌, take, drop}
use Rattle.std.proofs.Math.Seq.{take-length}
use Rattle.zn_backing.proofs.calls.read_all.Goals as goal

pub returns-in-Ok-clause-bytes : goal.returns-in-Ok-clause-bytes
returns-in-Ok-clause-bytes g c = λ d f told there. c.in-Ok.ensures.bytes d f told there ∙ ap (λ n. take n (drop 0 f.bytes)) (c.requires.whole d f told there) ∙ take-length f.bytes
