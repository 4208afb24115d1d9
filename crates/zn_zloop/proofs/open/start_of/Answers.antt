use Rattle.std.proofs.Common.{length, sym, ap, ◌∙◌}
use Rattle.zn_stand.proofs.DeviceNames.{count_kinds}
use Rattle.zn_zloop.proofs.open.start_of.Goals as goal

pub new-requires-clause-lengths : goal.new-requires-clause-lengths
new-requires-clause-lengths c = ap length c.deref-3.ensures.value ∙ c.requires.count ∙ sym (count_kinds c.args.found.now.geometry) ∙ sym (ap length (c.deref-2.ensures.value ∙ c.in_ok-kinds.ensures))
