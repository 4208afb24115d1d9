use Rattle.std.proofs.Common.{◌+◌, ◌++◌, [], ◌∷◌, map, arith, refl, sym, ap, ◌∙◌}
use Rattle.std.specs.List.{range_with_len}
use Rattle.std.proofs.lemmas.List.{take_more_set}
use Rattle.std.proofs.lemmas.List.FromFn.{map-range_with_len_more}
use Rattle.zn_zone.specs.Facts.{facts_at, info_of}
use Rattle.zn_zone.specs.Machine.{facts}
use Rattle.zn_zloop.proofs.reading.report_zones.Goals as goal

pub loop-i-preserved : goal.loop-i-preserved
loop-i-preserved c =
    take_more_set c.loop-i.out c.loop-i.i c.info.result (omega arith)
    ∙ ap (λ infos. infos ++ c.info.result ∷ []) c.loop-i.invariant
    ∙ ap (λ info. map (λ z. info_of (facts_at (facts c.args.zones.now) z)) (range_with_len c.args.first.0 c.loop-i.i) ++ info ∷ []) c.info.ensures
    ∙ sym (map-range_with_len_more (λ z. info_of (facts_at (facts c.args.zones.now) z)) c.args.first.0 c.loop-i.i (c.args.first.0 + c.loop-i.i) refl)
