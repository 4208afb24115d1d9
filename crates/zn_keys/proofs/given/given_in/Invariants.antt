use Rattle.std.proofs.Common.{◌≡◌, map, drop}
use Rattle.zn_keys.proofs.GivenWords.{nothing, given_with}
use Rattle.zn_keys.proofs.given.given_in.Given as goal

-- what is given so far, with the words that are left, is what all words give
abbrev pub invariant-loop-word : goal.invariant-loop-word
invariant-loop-word g l =
    given_with l.given (map g.S.AsStr.text (drop l.word-index l.words)) ≡ given_with nothing (map g.S.AsStr.text l.words)
