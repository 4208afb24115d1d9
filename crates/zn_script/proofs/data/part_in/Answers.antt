use Rattle.std.proofs.Common.{◌≡◌, ◌≢◌, ◌+◌, ◌*◌, ◌∙◌, get_or, ap, sym, arith}
use Rattle.std.proofs.lemmas.List.{take_rest}
use Rattle.zn_base.specs.Decimals.{number_in}
use Rattle.zn_model.specs.declared.limits.TheConstants.{MOST_BYTES}
use Rattle.zn_lines.specs.Grammar.{counted}
use Rattle.zn_script.specs.Data.{first_part}
use Rattle.zn_script.proofs.FirstParts.{part-short, part-no_high, part-no_low, part-no_star, part-begun}
use Rattle.zn_script.proofs.data.part_in.Goals as goal

pub returns-in_err-high-in-42-clause-value : goal.returns-in_err-high-in-42-clause-value
returns-in_err-high-in-42-clause-value c =
    rw c.from_residual.ensures (part-no_high c.args.bytes.now c.in-42.len_at_least c.in_err-high-in-42.ensures.value)

pub returns-in_err-low-in-42-clause-value : goal.returns-in_err-low-in-42-clause-value
returns-in_err-low-in-42-clause-value c =
    rw c.from_residual-in_err-low-in-42.ensures (part-no_low c.args.bytes.now c.in-42.len_at_least c.in_err-low-in-42.ensures.value)

pub returns-in_err-count-in-42-clause-value : goal.returns-in_err-count-in-42-clause-value
returns-in_err-count-in-42-clause-value c =
    let high = c.in_ok-high-in-42.high in
    let low = c.in_ok-low-in-42.low in
    let star : get_or c.args.bytes.now 2 0 ≡ 42 = omega arith in
    rw c.from_residual-in_err-count-in-42.ensures
    (part-begun c.args.bytes.now high low c.in-42.len_at_least c.in_ok-high-in-42.ensures.value c.in_ok-low-in-42.ensures.value star
    ∙ ap (λ digits. counted (high * 16 + low) (number_in MOST_BYTES (first_part digits))) (sym (take_rest c.args.bytes.now 3))
    ∙ ap (counted (high * 16 + low)) c.in_err-count-in-42.ensures.value)

pub returns-in_ok-count-in-42-clause-value : goal.returns-in_ok-count-in-42-clause-value
returns-in_ok-count-in-42-clause-value c =
    let high = c.in_ok-high-in-42.high in
    let low = c.in_ok-low-in-42.low in
    let star : get_or c.args.bytes.now 2 0 ≡ 42 = omega arith in
    part-begun c.args.bytes.now high low c.in-42.len_at_least c.in_ok-high-in-42.ensures.value c.in_ok-low-in-42.ensures.value star
    ∙ ap (λ digits. counted (high * 16 + low) (number_in MOST_BYTES (first_part digits))) (sym (take_rest c.args.bytes.now 3))
    ∙ ap (counted (high * 16 + low)) c.in_ok-count-in-42.ensures.value

pub returns-in_default-clause-value : goal.returns-in_default-clause-value
returns-in_default-clause-value c = part-short c.args.bytes.now c.in_default.len_below

pub returns-in_default-2-clause-value : goal.returns-in_default-2-clause-value
returns-in_default-2-clause-value c =
    let other : get_or c.args.bytes.now 2 0 ≢ 42 = omega arith in
    part-no_star c.args.bytes.now c.in_default.len_at_least other
