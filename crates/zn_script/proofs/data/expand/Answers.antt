use Rattle.std.proofs.Common.{◌+◌, ◌<◌, ◌≤◌, ℕ, List, length, arith, sym, subst}
use Rattle.std.proofs.lemmas.Grind.{common_steps}
use Rattle.std.proofs.lemmas.List.{take_rest}
use Rattle.zn_model.specs.declared.limits.TheConstants.{MOST_BYTES}
use Rattle.zn_script.specs.Data.{run_meant}
use Rattle.zn_script.proofs.DataParts.{IsPutUpTo, put_none, put_more, put_all, known_part, known_room}
use Rattle.zn_script.proofs.data.expand.Goals as goal

pub parts-init : goal.parts-init
parts-init c = record { short = omega arith; put = put_none c.args.word.now c.args.out.now }

pub returns-in_default : goal.returns-in_default
returns-in_default c = absurd (known_part c.args.word.now c.parts.rest.now c.parts.at c.parts.invariant.put.upto c.requires.data c.in_default.ensures.value)

pub put_part-at-requires : goal.put_part-at-requires
put_part-at-requires c =
    let room : c.parts.at + c.in-Some.part.count ≤ MOST_BYTES =
    known_room c.args.word.now c.parts.rest.now (run_meant c.in-Some.part) c.parts.at c.parts.invariant.put.upto c.requires.data c.in-Some.ensures.value in
    omega arith

pub returns-then-end-rest : goal.returns-then-end-rest
returns-then-end-rest c =
    let all = put_all c.args.word.now c.parts.rest.now (run_meant c.in-Some.part) c.in-Some.end c.parts.at c.put_part-at.result c.parts.out c.put_part-at.new.out c.parts.invariant.put c.in-Some.ensures.place c.if-end-rest.true
    c.requires.data c.in-Some.ensures.value c.put_part-at.ensures.end c.put_part-at.ensures.put in
    record { bytes = all.bytes; len = all.len; small = all.small }

pub parts-preserved : goal.parts-preserved
parts-preserved c =
    let rest = c.parts.rest.now in
    let UpTo : List ℕ → Type 0 = λ xs. IsPutUpTo c.args.word.now xs c.put_part-at.result c.put_part-at.new.out in
    let within : c.in-Some.end < length rest = omega (arith, c.in-Some.ensures.within) in
    record {
      short = grind (arith, common_steps);
      put = subst UpTo (sym (take_rest rest (c.in-Some.end + 1)))
          (put_more c.args.word.now rest (run_meant c.in-Some.part) c.in-Some.end c.parts.at c.put_part-at.result c.parts.out c.put_part-at.new.out c.parts.invariant.put c.in-Some.ensures.place within
          c.requires.data c.in-Some.ensures.value c.put_part-at.ensures.end c.put_part-at.ensures.put);
    }
