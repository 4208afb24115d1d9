use Rattle.std.proofs.Common.{◌∙◌, ap, arith, inl, is_some, length, map, string_bytes, Global, rules, tests}
use Rattle.std.proofs.lemmas.Iterator.Consumers.{YieldsList-from_filter, YieldsList-from_first, count_from_yields_List}
use Rattle.std.proofs.lemmas.List.Sums.{length-filter}
use Rattle.zn_words.specs.Meant.{part_meant, parts_left}
use Rattle.zn_words.specs.Parts.{Part, other_of, parts_of}
use Rattle.zn_words.proofs.Lengths.{count-others_in}
use Rattle.zn_words.proofs.parts.others.Goals as goal

pub count-requires-clause-fits : goal.count-requires-clause-fits
count-requires-clause-fits c =
    inl (omega (arith, c.new.ensures.bound, ap (λ parts. length (parts_left parts)) c.filter.ensures.source))

pub returns : goal.returns
returns c =
    let parts = parts_of c.args.flags.now (map (string_bytes {Z = Global}) c.args.words.now) in
    count_from_yields_List c.filter.result c.count.result c.count.ensures.ran
    (YieldsList-from_filter _ (λ part. is_some (other_of part)) (YieldsList-from_first part_meant parts_left parts (ap parts_left c.filter.ensures.source ∙ c.new.ensures.all)) c.filter.ensures.closure (λ x r q k. search (rules, tests)))
    ∙ (length-filter (λ (part : Part). is_some (other_of part)) parts ∙ count-others_in parts)
