use Rattle.std.proofs.Common.{ℕ, ◌<◌, sym, ◌∙◌, subst}
use Rattle.zn_stand.specs.declared.numbers.TheConstants.{GREATEST_NUMBER}
use Rattle.zn_keys.specs.Keys.{geometry_with}
use Rattle.zn_keys.proofs.Refusals.{without_blocks, too_many, too_great, too_roomy}
use Rattle.zn_keys.proofs.limits.geometry_with.Goals as goal

pub returns-then-zone_size-eq0 : goal.returns-then-zone_size-eq0
returns-then-zone_size-eq0 c =
    sym (without_blocks (geometry_with c.args.given c.args.size c.args.zone_size) c.if-zone_size-eq0.true)

pub returns-in_err-zones : goal.returns-in_err-zones
returns-in_err-zones c =
    c.from_residual.ensures
    ∙ sym (too_many (geometry_with c.args.given c.args.size c.args.zone_size) (subst (λ (n : ℕ). GREATEST_NUMBER < n) c.div_ceil.ensures c.in_err-zones.ensures.greater))

pub returns-in_err-zone_blocks : goal.returns-in_err-zone_blocks
returns-in_err-zone_blocks c =
    c.from_residual-in_err-zone_blocks.ensures
    ∙ sym (too_great (geometry_with c.args.given c.args.size c.args.zone_size) c.in_err-zone_blocks.ensures.greater)

pub returns-in_err-zone_capacity : goal.returns-in_err-zone_capacity
returns-in_err-zone_capacity c =
    c.from_residual-in_err-zone_capacity.ensures
    ∙ sym (too_roomy (geometry_with c.args.given c.args.size c.args.zone_size) (subst (λ (n : ℕ). GREATEST_NUMBER < n) c.unwrap_or.ensures c.in_err-zone_capacity.ensures.greater))
