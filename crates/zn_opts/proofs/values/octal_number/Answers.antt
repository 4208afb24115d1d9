use Rattle.std.proofs.Common.{◌<◌, arith}
use Rattle.zn_opts.proofs.ValueLaws.{octal_below}
use Rattle.zn_opts.proofs.values.octal_number.Goals as goal

pub overflow_mul-number : goal.overflow_mul-number
overflow_mul-number c =
    let small : c.loop-byte.number < 4096 = octal_below c.loop-byte.byte-index c.loop-byte.number (omega arith) c.loop-byte.invariant.below in
    omega (arith, small)

pub overflow_add-number : goal.overflow_add-number
overflow_add-number c =
    let small : c.loop-byte.number < 4096 = octal_below c.loop-byte.byte-index c.loop-byte.number (omega arith) c.loop-byte.invariant.below in
    omega (arith, small, c.in_ok-number.ensures.small)
