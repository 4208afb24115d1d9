use Rattle.std.proofs.Common.{[], ◌∷◌, ◌++◌, map, arith, sym, ap, ◌∙◌}
use Rattle.std.specs.List.{range_with_len}
use Rattle.std.proofs.lemmas.List.FromFn.{map-range_with_len_more}
use Rattle.zn_stand.specs.ZoneNames.{kind_of}
use Rattle.zn_zloop.proofs.open.kinds_of.Goals as goal

pub loop-z-preserved : goal.loop-z-preserved
loop-z-preserved c =
    c.in_ok-push.ensures.items
    ∙ ap (λ kinds. kinds ++ c.kind_of.result ∷ []) c.loop-z.invariant
    ∙ ap (λ kind. map (kind_of c.args.geo.now) (range_with_len 0 c.loop-z.z) ++ kind ∷ []) c.kind_of.ensures
    ∙ sym (map-range_with_len_more (kind_of c.args.geo.now) 0 c.loop-z.z c.loop-z.z (omega arith))
