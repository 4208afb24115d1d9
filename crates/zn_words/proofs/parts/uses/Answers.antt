use Rattle.std.proofs.Common.{ap, arith, inl, length}
use Rattle.zn_words.specs.Meant.{parts_left}
use Rattle.zn_words.proofs.parts.uses.Goals as goal

pub count-requires-clause-fits : goal.count-requires-clause-fits
count-requires-clause-fits c =
    inl (omega (arith, c.new.ensures.bound, ap (λ parts. length (parts_left parts)) c.filter.ensures.source))
