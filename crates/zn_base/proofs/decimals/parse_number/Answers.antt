use Rattle.std.proofs.Common.{◌∙◌, ◌<◌, arith, sym, length, inl, inr}
use Rattle.std.proofs.lemmas.Bool.{both_ways, cases_lt}
use Rattle.std.proofs.lemmas.Grind.{common_steps}
use Rattle.zn_base.proofs.DecimalLaws.{number_in-empty, number_in-leading_zero, number_in-digits}
use Rattle.zn_base.proofs.decimals.parse_number.Goals.{then-is_empty-via-then-is_empty, then-is_empty-via-else-is_empty+then-has_leading_zero}
use Rattle.zn_base.proofs.decimals.parse_number.Goals as goal

pub returns-then-is_empty : goal.returns-then-is_empty
returns-then-is_empty c =
    elim c.then-is_empty.branch [
      | then-is_empty-via-then-is_empty w ↦ sym (number_in-empty c.args.max c.args.word.now (grind (arith, common_steps)))
      | then-is_empty-via-else-is_empty+then-has_leading_zero w ↦
          let zero = w.has_leading_zero.ensures.0 w.if-has_leading_zero.true in
          sym (number_in-leading_zero c.args.max c.args.word.now zero.0 zero.1)
    ]

pub returns : goal.returns
returns c =
    let some : 0 < length c.args.word.now = grind (arith, common_steps) in
    c.digits.ensures ∙ sym (number_in-digits c.args.max c.args.word.now some
    (λ zero. elim (cases_lt 1 (length c.args.word.now)) [
      | inl long ↦ absurd (both_ways _ c.if-has_leading_zero.false (c.has_leading_zero.ensures.1 (long, zero)))
      | inr short ↦ omega (arith, some)
    ]))
