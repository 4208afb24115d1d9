use Rattle.std.proofs.Common.{◌+◌, ◌<◌, ℕ, List, length, arith, sym, subst}
use Rattle.std.proofs.lemmas.Grind.{common_steps}
use Rattle.std.proofs.lemmas.List.{take_rest}
use Rattle.zn_script.specs.Data.{run_meant}
use Rattle.zn_script.proofs.DataParts.{IsReadUpTo, read_none, read_more, read_len, read_no_part, read_too_much}
use Rattle.zn_script.proofs.data.data_len.Goals as goal

pub parts-init : goal.parts-init
parts-init c = record { small = omega arith; short = omega arith; upto = read_none c.args.word.now }

pub returns-in_err-part-clause-value : goal.returns-in_err-part-clause-value
returns-in_err-part-clause-value c =
    rw c.from_residual.ensures (read_no_part c.args.word.now c.parts.rest.now c.parts.total c.parts.invariant.upto c.in_err-part.ensures.value)

pub returns-in_err-total-clause-value : goal.returns-in_err-total-clause-value
returns-in_err-total-clause-value c =
    rw c.from_residual-in_err-total.ensures
    (read_too_much c.args.word.now c.parts.rest.now (run_meant c.in_ok-part.part) c.parts.total c.parts.invariant.upto c.in_ok-part.ensures.value c.in_err-total.ensures)

pub returns-then-end-rest-clause-value : goal.returns-then-end-rest-clause-value
returns-then-end-rest-clause-value c =
    let sum = c.in_ok-total.ensures in
    read_len c.args.word.now c.parts.rest.now (run_meant c.in_ok-part.part) c.in_ok-part.end c.parts.total c.in_ok-total.total c.parts.invariant.upto
    c.in_ok-part.ensures.place c.if-end-rest.true c.in_ok-part.ensures.value sum.0 sum.1

pub parts-preserved : goal.parts-preserved
parts-preserved c =
    let rest = c.parts.rest.now in
    let UpTo : List ℕ → Type 0 = λ xs. IsReadUpTo c.args.word.now xs c.in_ok-total.total in
    let within : c.in_ok-part.end < length rest = omega (arith, c.in_ok-part.ensures.within) in
    let sum = c.in_ok-total.ensures in
    record {
      small = sum.1;
      short = grind (arith, common_steps);
      upto = subst UpTo (sym (take_rest rest (c.in_ok-part.end + 1)))
          (read_more c.args.word.now rest (run_meant c.in_ok-part.part) c.in_ok-part.end c.parts.total c.in_ok-total.total c.parts.invariant.upto c.in_ok-part.ensures.place within c.in_ok-part.ensures.value sum.0 sum.1);
    }
