use Rattle.std.proofs.Common.{◌≡◌, ◌<◌, ◌≤◌, ◌^◌, ℕ, List, Option, Some, None, IfSome, sym, arith}
use Rattle.zn_base.specs.Decimals.{number_in}
use Rattle.zn_base.proofs.DecimalLaws.{decimal-number_in}
use Rattle.zn_script.proofs.words.number_in.Goals as goal

within : (max : ℕ) (word : List ℕ) (o : Option ℕ) → max < 2 ^ 64 → o ≡ number_in max word → IfSome o (λ n. n ≤ max)
within max word None fits is = tt
within max word (Some n) fits is = (decimal-number_in max n word fits (sym is)).1

pub returns-clause-small : goal.returns-clause-small
returns-clause-small c = within c.args.max c.args.word.now c.parse_number.result (omega arith) c.parse_number.ensures
