use Rattle.std.proofs.Common.{◌≡◌, map, string_bytes}
use Rattle.zn_words.specs.Meant.{parts_left}
use Rattle.zn_words.specs.Parts.{parts_of, value_of}
use Rattle.zn_words.proofs.parts.value_of.Given as goal

-- the value is the first one among the parts that are left
abbrev pub invariant-loop-part : goal.invariant-loop-part
invariant-loop-part l = value_of l.flag (parts_left l.part-iterator) ≡ value_of l.flag (parts_of l.flags (map string_bytes l.words))
