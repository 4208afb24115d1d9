use Rattle.std.proofs.Common.{arith, map, string_bytes, Global}
use Rattle.std.specs.Slice.Iter.{iter_rest}
use Rattle.std.proofs.lemmas.List.{length-map}
use Rattle.zn_words.proofs.Lengths.{parts_short}
use Rattle.zn_words.proofs.parts.Parts.new.Goals as goal

pub returns-clause-bound : goal.returns-clause-bound
returns-clause-bound c =
    let short = simp length-map at (parts_short c.args.flags.now (map (string_bytes {Z = Global}) (iter_rest c.iter.result))) in
    omega (arith, short, c.iter.ensures.bound)
