use Rattle.std.proofs.Common.{arith, rules, refl, Err}
use Rattle.std.specs.List.{flat_map, enumerate_from}
use Rattle.std.proofs.lemmas.Grind.{common_steps}
use Rattle.zn_base.proofs.ToldLaws.{writes_cut}
use Rattle.zn_session.specs.Replies.{told_line}
use Rattle.zn_session.proofs.ReplyLaws.{zones_more, zones_cut, all_told}
use Rattle.zn_session.proofs.replies.write_zones.Goals as goal

pub returns-in-Err : goal.returns-in-Err
returns-in-Err g c = writes_cut (flat_map told_line (enumerate_from 0 c.args.zones.now)) (Err c.in-Err.fault) refl c.in-Err.ensures

pub loop-z-preserved : goal.loop-z-preserved
loop-z-preserved g c = record {
  grew = zones_more _ _ _ c.args.zones.now c.loop-z.z _ (omega arith) c.loop-z.invariant.grew c.in_default-write_zone.ensures.all;
  kept = grind (arith, common_steps);
}

pub returns-in-Err-write_zone : goal.returns-in-Err-write_zone
returns-in-Err-write_zone g c = record {
  all = search rules;
  front = zones_cut _ _ _ c.args.zones.now c.loop-z.z _ (omega arith) c.loop-z.invariant.grew c.in-Err-write_zone.ensures.front;
  cause = grind (arith, common_steps);
}

pub returns : goal.returns
returns g c = record {
  all = all_told _ _ c.args.zones.now c.loop-z.z (omega arith) c.loop-z.invariant.grew;
  front = search rules;
  cause = grind (arith, common_steps);
}
