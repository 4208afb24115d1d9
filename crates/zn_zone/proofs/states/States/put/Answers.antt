use Rattle.std.proofs.Common.{◌+◌, ◌<◌, Bool, length, set, ap, ◌∙◌, sym, arith}
use Rattle.std.specs.Prelude.{if◌then◌else◌}
use Rattle.zn_zone.proofs.KeptLaws.{kept_put}
use Rattle.zn_zone.proofs.states.States.put.Goals as goal

pub invariant_of-self : goal.invariant_of-self
invariant_of-self c =
    let below : c.args.z < length c.self.inside.zones.items = grind (arith, c.requires, c.self.view_is) in
    kept_put c.self.inside.zones.items c.args.z c.index.result.now c.args.zone c.self.inside.active
    c.self.inside.opened _ _ c.self.inside.implicit _ below c.index.ensures c.self.invariant
    (ap (λ (b : Bool). c.recounted-self-inside.result + (if b then 1 else 0)) (sym c.is_active.ensures)
    ∙ c.recounted-self-inside.ensures
    ∙ ap (λ (b : Bool). c.self.inside.active + (if b then 1 else 0)) c.is_active-2.ensures)
    (ap (λ (b : Bool). c.recounted-self-inside-2.result + (if b then 1 else 0)) (sym c.is_open.ensures)
    ∙ c.recounted-self-inside-2.ensures
    ∙ ap (λ (b : Bool). c.self.inside.opened + (if b then 1 else 0)) c.is_open-2.ensures)
    (c.put.ensures ∙ ap (set c.self.inside.implicit c.args.z) c.is_implicit.ensures)
