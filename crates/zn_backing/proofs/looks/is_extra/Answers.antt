use Rattle.std.proofs.Common.{sym, ◌∙◌}
use Rattle.zn_backing.proofs.Finding.{extra_told}
use Rattle.zn_backing.proofs.looks.is_extra.Goals as goal

pub returns-clause-extra : goal.returns-clause-extra
returns-clause-extra g c = λ d told. extra_told d c.args.geo.now c.args.name.now c.in_ok-len.len (sym c.is_name_of.ensures ∙ c.if-not-is_name_of.false) (sym c.is_marker_of.ensures ∙ c.if-not-is_marker_of.false) (c.requires d told) (λ f there. c.in_ok-len.ensures.len d f told there)
