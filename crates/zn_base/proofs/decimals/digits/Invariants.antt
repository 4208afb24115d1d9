use Rattle.std.proofs.Common.{◌≡◌, drop}
use Rattle.zn_base.specs.Decimals.{digits_on}
use Rattle.zn_base.proofs.decimals.digits.Given as goal

-- the digits so far are read
abbrev pub invariant-loop-byte : goal.invariant-loop-byte
invariant-loop-byte l = digits_on l.max l.number (drop l.byte-index l.word) ≡ digits_on l.max 0 l.word
