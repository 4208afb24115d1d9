use Rattle.std.proofs.Common.{arith, rules, refl, Err}
use Rattle.std.proofs.lemmas.Grind.{common_steps}
use Rattle.std.specs.List.{flat_map}
use Rattle.zn_base.proofs.ToldLaws.{writes_cut}
use Rattle.zn_lines.specs.ReplyTexts.{name_line}
use Rattle.zn_model.specs.ZoneFiles.{names_to}
use Rattle.zn_session.proofs.ReplyLaws.{writes_as, listed, so_far_more, so_far_cut, all_named}
use Rattle.zn_session.proofs.replies.write_names.Goals as goal

pub returns-in-Err : goal.returns-in-Err
returns-in-Err g c = writes_as (listed c.args.count) (writes_cut (flat_map name_line (names_to c.args.count)) (Err c.in-Err.fault) refl c.in-Err.ensures)

pub loop-name-preserved : goal.loop-name-preserved
loop-name-preserved g c = record {
  grew = so_far_more _ _ _ c.args.count c.loop-name.name (omega arith) c.loop-name.invariant.grew c.in_default-write_name.ensures.all;
  kept = grind (arith, common_steps);
}

pub returns-in-Err-write_name : goal.returns-in-Err-write_name
returns-in-Err-write_name g c = record {
  all = search rules;
  front = so_far_cut _ _ _ c.args.count c.loop-name.name (omega arith) c.loop-name.invariant.grew c.in-Err-write_name.ensures.front;
  cause = grind (arith, common_steps);
}

pub returns : goal.returns
returns g c = record {
  all = all_named _ _ c.args.count c.loop-name.name (omega arith) c.loop-name.invariant.grew;
  front = search rules;
  cause = grind (arith, common_steps);
}
