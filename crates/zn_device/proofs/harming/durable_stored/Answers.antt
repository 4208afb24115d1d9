use Rattle.std.proofs.Common.{sym, ap, ◌∙◌, arith}
use Rattle.zn_truth.specs.Truth.{Zone}
use Rattle.zn_device.proofs.Stores.{zone_at-truth_of}
use Rattle.zn_device.proofs.harming.durable_stored.Goals as goal

pub returns : goal.returns
returns c = λ f count.
    c.durable.ensures
    ∙ sym (ap (λ (zone : Zone). zone.durable) (zone_at-truth_of f c.args.stores.now c.args.z.0 c.index-stores-z.result count (omega (arith, c.requires)) c.index-stores-z.is))
