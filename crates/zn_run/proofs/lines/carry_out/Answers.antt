use Rattle.std.proofs.Common.{arith}
use Rattle.std.proofs.lemmas.List.{take_rest}
use Rattle.zn_run.proofs.ProgressLaws.{line_at, go_on, halt_at, halt_bad, halt_long, halt_broken}
use Rattle.zn_run.proofs.LineLaws.{carried_none}
use Rattle.zn_run.proofs.lines.carry_out.Goals as goal

pub loop-len-init : goal.loop-len-init
loop-len-init g c = record {
  within = omega arith;
  numbered = omega arith;
  lines = carried_none _ _ c.requires.goes_on;
}

pub step-requires-clause-few : goal.step-requires-clause-few
step-requires-clause-few g c = omega (arith, c.requires.few, c.loop-len.invariant.lines.steps, c.loop-len.invariant.numbered)

pub returns : goal.returns
returns g c = λ tail. record {
  within = c.loop-len.invariant.within;
  numbered = c.loop-len.invariant.numbered;
  one = rw take_rest at c.in_default.ensures;
  lines = c.loop-len.invariant.lines;
}

pub returns-then-len-gt-LINE_LIMIT : goal.returns-then-len-gt-LINE_LIMIT
returns-then-len-gt-LINE_LIMIT g c =
    let n = line_at c.args.script.now c.loop-len.at c.in-Some.len c.loop-len.invariant.within c.in-Some.ensures in
    halt_long c.loop-len.invariant.lines n (omega (arith, n.sized))

pub returns-in-BadLine : goal.returns-in-BadLine
returns-in-BadLine g c =
    let n = line_at c.args.script.now c.loop-len.at c.in-Some.len c.loop-len.invariant.within c.in-Some.ensures in
    halt_bad c.loop-len.invariant.lines n (omega (arith, n.sized)) c.in-BadLine.ensures

pub returns-in-Broken : goal.returns-in-Broken
returns-in-Broken g c =
    let n = line_at c.args.script.now c.loop-len.at c.in-Some.len c.loop-len.invariant.within c.in-Some.ensures in
    halt_broken c.loop-len.invariant.lines n (omega (arith, n.sized)) c.in-Broken.ensures

pub returns-in-SinkFault : goal.returns-in-SinkFault
returns-in-SinkFault g c =
    let n = line_at c.args.script.now c.loop-len.at c.in-Some.len c.loop-len.invariant.within c.in-Some.ensures in
    let s = c.in-SinkFault.ensures in
    halt_at c.loop-len.invariant.lines n (omega (arith, n.sized)) s s.means.line s.means.reads

pub returns-in-Memory : goal.returns-in-Memory
returns-in-Memory g c =
    let n = line_at c.args.script.now c.loop-len.at c.in-Some.len c.loop-len.invariant.within c.in-Some.ensures in
    let s = c.in-Memory.ensures in
    halt_at c.loop-len.invariant.lines n (omega (arith, n.sized)) s s.means.line s.means.reads

pub loop-len-preserved : goal.loop-len-preserved
loop-len-preserved g c =
    let n = line_at c.args.script.now c.loop-len.at c.in-Some.len c.loop-len.invariant.within c.in-Some.ensures in
    record {
      within = n.within;
      numbered = omega (arith, c.loop-len.invariant.numbered);
      lines = go_on c.loop-len.invariant.lines n (omega (arith, n.sized)) c.in-Done.ensures;
    }
