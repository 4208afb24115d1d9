use Rattle.std.proofs.Common.{◌≡◌, ◌<◌, ◌^◌, List, length, drop, map, sym, ap, ◌∙◌, subst, arith}
use Rattle.std.specs.List.{enumerate_from}
use Rattle.std.proofs.lemmas.Grind.{common_steps}
use Rattle.std.proofs.lemmas.List.{take_at}
use Rattle.zn_truth.specs.declared.ZoneInfo.{ZoneInfo}
use Rattle.zn_session.specs.SessionState.{held_by}
use Rattle.zn_session.specs.Told.{told_of}
use Rattle.zn_session.specs.declared.room.ZoneTold.{ZoneTold}
use Rattle.zn_session.proofs.ToldZones.{zones_done, zones_refused}
use Rattle.zn_session.proofs.reporting.zones.Goals as goal

pub returns-in-Ok-clause-means : goal.returns-in-Ok-clause-means
returns-in-Ok-clause-means g c = λ entropy numbers numbered.
    let old = held_by g.D.Zoned.state c.args.held.now in
    let new = held_by g.D.Zoned.state c.report_held.new.held in
    let n : length c.note_zones.new.zones ≡ c.args.room.now.zones.len = grind (arith, common_steps) in
    let same = take_at c.note_zones.new.zones (drop (length c.note_zones.new.zones) c.args.room.now.zones.items) c.args.room.now.zones.len n in
    zones_done c.report_held.new.infos.items _ entropy old new numbers c.in-Ok.ensures.reports
    (same ∙ c.note_zones.ensures.told ∙ ap (λ (infos : List ZoneInfo). map (told_of new) (enumerate_from 0 infos)) c.deref.ensures.value)
    (subst (λ (zones : List ZoneTold). length zones < 2 ^ 32) (sym same) c.note_zones.ensures.few) numbered

pub returns-in-Err-clause-means : goal.returns-in-Err-clause-means
returns-in-Err-clause-means g c = λ entropy numbers numbered.
    zones_refused c.in-Err.refusal c.report_held.new.infos.items _ entropy _ _ numbers c.in-Err.ensures.reports numbered
