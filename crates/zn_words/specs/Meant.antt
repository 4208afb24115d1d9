-- What contracts see of the parts of words. (own)
use Rattle.std.specs.Prelude.{List, map, string_bytes}
use Rattle.std.specs.Slice.Iter.{iter_rest}
use Rattle.zn_words.specs.Parts.{Part, Alone, With, Other, parts_of}
use Rattle.zn_words.specs.declared.parts.Part.{Part as Lent}
use Rattle.zn_words.specs.declared.parts.Part.TheVariants as lent
use Rattle.zn_words.specs.declared.parts.Parts.{Parts}

-- a part, without the references in it
abbrev pub part_meant : Lent → Part
part_meant (lent.Alone flag) = Alone flag
part_meant (lent.With flag value) = With flag value.now
part_meant (lent.Other word) = Other word.now

-- the parts that are left
abbrev pub parts_left : Parts → List Part
parts_left parts = parts_of parts.flags.now (map string_bytes (iter_rest parts.words))
