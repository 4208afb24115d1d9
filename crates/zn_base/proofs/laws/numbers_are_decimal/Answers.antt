use Rattle.std.proofs.Common.{◌∙◌, ap}
use Rattle.zn_base.specs.Decimals.{number_in}
use Rattle.zn_base.proofs.DecimalLaws.{decimal-number_in, number_in-decimal}
use Rattle.zn_base.proofs.laws.numbers_are_decimal.Goals as goal

pub returns : goal.returns
returns c max n word small = (decimal-number_in max n word small, λ is. ap (number_in max) is.0 ∙ number_in-decimal max n small is.1)
