-- A text by its parts. (own)
use Rattle.std.specs.Prelude.{ℕ, List}
use Rattle.std.specs.List.{flat_map}
use Rattle.std.specs.Fmt.{decimal}
use Rattle.zn_base.specs.declared.texts.Part.{Part}
use Rattle.zn_base.specs.declared.texts.Part.TheVariants.{Text, Number, Hex}
use Rattle.zn_base.specs.Runs.{hex}

-- a text as it is, a number in decimal digits, a byte as two hexadecimal digits
abbrev pub part_text : Part → List ℕ
part_text (Text text) = text.now
part_text (Number number) = decimal number
part_text (Hex byte) = hex byte

-- the texts of the parts, one after another
abbrev pub text_of : List Part → List ℕ
text_of parts = flat_map part_text parts
