use Rattle.std.proofs.Common.{◌≤◌, List, length, ◌∙◌, ap, sym, subst}
use Rattle.std.specs.List.{zip}
use Rattle.zn_zone.specs.declared.state.State.{State}
use Rattle.zn_zone.specs.Machine.{geometry_in, machine, facts, open_in, IsSoundMachine}
use Rattle.zn_zone.proofs.Start.{start_geometry, start_facts, start_none_open, start_sound}
use Rattle.zn_zone.proofs.zones.Zones.new.Goals as goal

pub new-requires-clause-few : goal.new-requires-clause-few
new-requires-clause-few c = subst (λ (zones : List State). length zones ≤ 4096) (sym c.in_ok-zones.ensures) (start_sound _ _ _ c.requires.limits c.requires.start).count

pub new-requires-clause-closed : goal.new-requires-clause-closed
new-requires-clause-closed c = ap open_in c.in_ok-zones.ensures ∙ start_none_open c.args.shape (zip c.args.kinds.now c.args.info.now)

pub invariant_of-result : goal.invariant_of-result
invariant_of-result c =
    subst IsSoundMachine (sym (ap (machine c.args.shape) (c.in_ok-zones-2.ensures ∙ c.in_ok-zones.ensures))) (start_sound _ _ _ c.requires.limits c.requires.start)

pub returns-clause-facts : goal.returns-clause-facts
returns-clause-facts c = ap (λ items. facts (machine c.args.shape items)) (c.in_ok-zones-2.ensures ∙ c.in_ok-zones.ensures) ∙ start_facts _ _ _ c.requires.start

pub returns-clause-sound : goal.returns-clause-sound
returns-clause-sound c =
    subst IsSoundMachine (sym (ap (machine c.args.shape) (c.in_ok-zones-2.ensures ∙ c.in_ok-zones.ensures))) (start_sound _ _ _ c.requires.limits c.requires.start)

pub returns-clause-geometry : goal.returns-clause-geometry
returns-clause-geometry c =
    ap (λ items. geometry_in (machine c.args.shape items)) (c.in_ok-zones-2.ensures ∙ c.in_ok-zones.ensures) ∙ start_geometry _ _ _ c.requires.lengths
