use Rattle.std.proofs.Common.{refl}
use Rattle.zn_truth.specs.Orders.{FlushAll, done}
use Rattle.zn_zone.proofs.Within.{is_within}
use Rattle.zn_zone.specs.Machine.{facts, geometry_in}
use Rattle.zn_files.specs.States.{directory}
use Rattle.zn_zloop.specs.Seen.{truth_seen}
use Rattle.zn_zloop.proofs.Commanding.{holds_after, commanded_as}
use Rattle.zn_zloop.proofs.zloop.ZloopZoned.flush.Goals as goal

pub flush_zones-reply-requires-clause-device : goal.flush_zones-reply-requires-clause-device
flush_zones-reply-requires-clause-device g c = c.args.self.now.holds.device c.requires.unspoilt

pub flush_zones-reply-requires-clause-within : goal.flush_zones-reply-requires-clause-within
flush_zones-reply-requires-clause-within g c = is_within (geometry_in c.args.self.now.zones) c.args.self.now.holds.limits

pub invariant_of-self : goal.invariant_of-self
invariant_of-self g c = record {
  holds =
      holds_after (done (truth_seen (directory (g.F.Files.state c.args.self.now.files)) (facts c.args.self.now.zones) c.args.self.now.kepts.items) (FlushAll)) c.flush_zones-reply.result c.args.self.now.is_spoilt c.is_failure-self.result
      (directory (g.F.Files.state c.args.self.now.files)) (directory (g.F.Files.state c.flush_zones-reply.new.files)) c.args.self.now.zones c.args.self.now.zones c.args.self.now.kepts.items c.flush_zones-reply.new.kepts.items c.args.self.now.listed.items c.flush_zones-reply.new.listed.items
      c.args.self.now.holds c.requires.unspoilt c.is_failure-self.ensures refl c.flush_zones-reply.ensures.follows;
}

pub returns : goal.returns
returns g c = record {
  done =
      commanded_as (FlushAll) c.flush_zones-reply.result c.args.self.now.is_spoilt c.is_failure-self.result (g.F.Files.state c.args.self.now.files) (g.F.Files.state c.flush_zones-reply.new.files) c.args.self.now.zones c.args.self.now.zones c.args.self.now.kepts.items c.flush_zones-reply.new.kepts.items
      c.args.self.now.listed.items c.flush_zones-reply.new.listed.items c.args.self.now.holds c.requires.unspoilt c.is_failure-self.ensures refl c.flush_zones-reply.ensures.follows c.flush_zones-reply.ensures.touches;
}
