use Rattle.std.proofs.Common.{arith, refl, ◌++◌, Err}
use Rattle.std.specs.Prelude.{codes}
use Rattle.std.proofs.lemmas.Grind.{common_steps}
use Rattle.zn_base.specs.Runs.{data_text}
use Rattle.zn_base.proofs.ToldLaws.{writes_then, writes_cut}
use Rattle.zn_session.proofs.ReplyLaws.{writes_as, read_some}
use Rattle.zn_session.proofs.replies.write_bytes.Goals as goal

pub returns-in-Err : goal.returns-in-Err
returns-in-Err g c = writes_as (read_some c.args.bytes.now (grind (arith, common_steps))) (writes_cut (data_text c.args.bytes.now ++ codes "\n") (Err c.in-Err.fault) refl c.in-Err.ensures)

pub returns-in-Ok : goal.returns-in-Ok
returns-in-Ok g c = writes_as (read_some c.args.bytes.now (grind (arith, common_steps))) (writes_then c.in_default.ensures (writes_then c.in-Ok.ensures c.write_all-in-Ok.ensures))

pub returns-in-Err-write : goal.returns-in-Err-write
returns-in-Err-write g c = writes_as (read_some c.args.bytes.now (grind (arith, common_steps))) (writes_then c.in_default.ensures (writes_cut (codes "\n") (Err c.in-Err-write.fault) refl c.in-Err-write.ensures))
