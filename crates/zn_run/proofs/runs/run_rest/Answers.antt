use Rattle.std.proofs.Common.{arith, refl}
use Rattle.std.proofs.lemmas.Grind.{common_steps}
use Rattle.zn_lines.specs.declared.runs.Tail.TheVariants.{Fault, Over}
use Rattle.zn_lines.specs.declared.runs.Ending.TheVariants.{LineTooLong, ScriptTooLong}
use Rattle.zn_run.proofs.LastLaws.{long_is, tail_is, none_left, script_here, unread_here}
use Rattle.zn_run.proofs.runs.run_rest.Goals as goal

pub returns-then-rest-gt-LINE_LIMIT : goal.returns-then-rest-gt-LINE_LIMIT
returns-then-rest-gt-LINE_LIMIT g c =
    script_here c.args.number c.args.rest.now (LineTooLong c.args.number) c.requires.goes_on c.requires.near tt refl
    (λ givens. long_is givens c.args.tail (g.M.Machine.state c.args.machine.now).table c.args.number c.args.rest.now c.requires.one (omega arith)) c.end_by_script.ensures

pub returns-in-End : goal.returns-in-End
returns-in-End g c = none_left c.args.number c.args.rest.now c.requires.one (omega arith) c.in-End.is (grind (arith, common_steps)) c.end_done.ensures

pub returns-in-Fault : goal.returns-in-Fault
returns-in-Fault g c =
    unread_here c.args.number c.args.rest.now c.requires.goes_on c.in-Fault.is
    (λ givens. tail_is givens c.args.tail Fault (g.M.Machine.state c.args.machine.now).table c.args.number c.args.rest.now c.requires.one (omega arith) c.in-Fault.is) c.end_unread.ensures

pub returns-in-Over : goal.returns-in-Over
returns-in-Over g c =
    script_here c.args.number c.args.rest.now (ScriptTooLong c.args.number) c.requires.goes_on c.requires.near tt refl
    (λ givens. tail_is givens c.args.tail Over (g.M.Machine.state c.args.machine.now).table c.args.number c.args.rest.now c.requires.one (omega arith) c.in-Over.is) c.end_by_script-in-Over.ensures
