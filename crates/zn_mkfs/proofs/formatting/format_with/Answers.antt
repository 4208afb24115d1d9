use Rattle.std.proofs.Common.{◌≡◌, true, sym, ap, ◌∙◌, refl, subst}
use Rattle.zn_truth.specs.Truth.{Truth, zone_at, is_good}
use Rattle.zn_truth.specs.declared.ZoneInfo.{ZoneInfo}
use Rattle.zn_model.specs.Looks.{all_infos}
use Rattle.zn_mkfs.proofs.LookLaws.{report_same}
use Rattle.zn_mkfs.proofs.ResetLaws.{first_info}
use Rattle.zn_mkfs.proofs.Answering.{with_failed, with_good}
use Rattle.zn_mkfs.proofs.formatting.format_with.Goals as goal

pub returns-in-Err : goal.returns-in-Err
returns-in-Err g c =
    let state = g.D.Zoned.state in
    record { done = with_failed c.args.copies.now c.args.block.now c.args.force (state c.args.dev.now) (state c.args.dev.now) (state c.report_all.new.dev) c.in-Err.error c.format_error.result c.format_error.ensures c.in-Err.ensures.done }

pub format_good-requires-clause-infos : goal.format_good-requires-clause-infos
format_good-requires-clause-infos g c =
    c.deref.ensures.value ∙ c.in_default.ensures.infos refl ∙ sym (ap all_infos (report_same (g.D.Zoned.state c.args.dev.now).world.truth _ _ c.in_default.ensures.done))

pub format_good-requires-clause-good : goal.format_good-requires-clause-good
format_good-requires-clause-good g c =
    let w = (g.D.Zoned.state c.args.dev.now).world in
    let told = first_info w c.report_all.new.infos.items c.index.result.now (c.in_default.ensures.infos refl) c.requires.within.some c.index.ensures in
    let good : is_good (zone_at w.truth 0).cond ≡ true = sym (ap (λ (info : ZoneInfo). is_good info.cond) told) ∙ sym c.is_good.ensures ∙ c.if-not-is_good.false in
    subst (λ (t : Truth). is_good (zone_at t 0).cond ≡ true) (sym (report_same w.truth _ _ c.in_default.ensures.done)) good

pub returns : goal.returns
returns g c =
    let state = g.D.Zoned.state in
    let w = (state c.args.dev.now).world in
    let told = first_info w c.report_all.new.infos.items c.index.result.now (c.in_default.ensures.infos refl) c.requires.within.some c.index.ensures in
    let good : is_good (zone_at w.truth 0).cond ≡ true = sym (ap (λ (info : ZoneInfo). is_good info.cond) told) ∙ sym c.is_good.ensures ∙ c.if-not-is_good.false in
    record { done = with_good c.format_good.new.copies c.args.block.now c.args.force (state c.args.dev.now) (state c.report_all.new.dev) (state c.format_good.new.dev) c.format_good.result good c.in_default.ensures.done c.format_good.ensures.done }
