use Rattle.std.proofs.Common.{◌∷◌, ◌++◌, ◌∙◌, ap, sym, map}
use Rattle.std.specs.BTreeMap as tree
use Rattle.std.specs.Map.Iter.{deref}
use Rattle.std.specs.String.{string_bytes}
use Rattle.std.proofs.lemmas.Map.Iter.{rest_more}
use Rattle.zn_files.proofs.Rising.{front_below}
use Rattle.zn_host.proofs.listing.in_order.Goals as goal

pub push-requires : goal.push-requires
push-requires c =
    let left = rest_more deref c.loop-name.name-iterator c.next.new.self c.next.result c.in-Some.name c.in-Some.is c.next.ensures.steps in
    front_below (tree.keys c.args.found.now) c.loop-name.names c.as_str.result.now (map string_bytes c.next.new.self) c.loop-name.invariant.order
    (ap (λ n. c.loop-name.names ++ n ∷ map string_bytes c.next.new.self) c.as_str.ensures.value ∙ ap (λ ks. c.loop-name.names ++ map string_bytes ks) (sym left) ∙ c.loop-name.invariant.names)
