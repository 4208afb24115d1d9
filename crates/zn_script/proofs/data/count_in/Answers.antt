use Rattle.std.proofs.Common.{◌+◌, get_or, drop, sym}
use Rattle.std.proofs.lemmas.Bool.{ne_eqb}
use Rattle.std.proofs.lemmas.List.{drop_more}
use Rattle.zn_model.specs.declared.limits.TheConstants.{MOST_BYTES}
use Rattle.zn_script.proofs.FirstParts.{count-missing, count-refused, count-begun, count-stopped, count-more}
use Rattle.zn_script.proofs.data.count_in.Goals as goal

pub returns-in_err-first-clause-value : goal.returns-in_err-first-clause-value
returns-in_err-first-clause-value c = rw c.from_residual.ensures (count-missing MOST_BYTES c.args.bytes.now c.in_err-first.ensures.cases)

pub returns-in_err-count-clause-value : goal.returns-in_err-count-clause-value
returns-in_err-count-clause-value c =
    rw c.from_residual-in_err-count.ensures
    (count-refused MOST_BYTES c.in_ok-first.first.now c.args.bytes.now c.in_ok-first.rest.now c.in_ok-first.ensures.cases.0 (sym c.in_err-count.ensures.value))

pub loop-i-init : goal.loop-i-init
loop-i-init c = record {
  small = c.in_ok-count.ensures.small;
  counted = count-begun MOST_BYTES c.in_ok-first.first.now c.in_ok-count.count c.args.bytes.now c.in_ok-first.rest.now c.in_ok-first.ensures.cases.0 (sym c.in_ok-count.ensures.value);
}

pub returns-in_err-count-2-clause-value : goal.returns-in_err-count-2-clause-value
returns-in_err-count-2-clause-value c =
    let rest = c.in_ok-first.rest.now in
    rw c.from_residual-in_err-count-2.ensures
    (count-stopped MOST_BYTES (get_or rest c.loop-i.i 0) c.loop-i.count (c.loop-i.i + 1) c.args.bytes.now (drop c.loop-i.i rest) (drop (c.loop-i.i + 1) rest)
    c.loop-i.invariant.counted (drop_more rest c.loop-i.i 0 c.loop-i-test.true) (ne_eqb _ 43 c.if-byte-eq43.false) c.if-count-eq0.false (sym c.in_err-count-2.ensures.value))

pub loop-i-preserved : goal.loop-i-preserved
loop-i-preserved c =
    let rest = c.in_ok-first.rest.now in
    record {
      small = c.in_ok-count-2.ensures.small;
      counted = count-more MOST_BYTES (get_or rest c.loop-i.i 0) c.loop-i.count c.in_ok-count-2.count (c.loop-i.i + 1) c.args.bytes.now (drop c.loop-i.i rest) (drop (c.loop-i.i + 1) rest)
          c.loop-i.invariant.counted (drop_more rest c.loop-i.i 0 c.loop-i-test.true) c.if-count-eq0.false (sym c.in_ok-count-2.ensures.value);
    }
