use Rattle.std.proofs.Common.{◌≡◌, ◌≤◌, ◌∙◌, length, refl, sym, ap, subst}
use Rattle.zn_stand.specs.Directory.{contents}
use Rattle.zn_backing.specs.declared.whole.Found.{Found}
use Rattle.zn_backing.specs.Actives.{active_from, Finds}
use Rattle.zn_backing.proofs.Assembling.{few_zones, all_found, found_few, found_many, started}
use Rattle.zn_backing.proofs.whole.found_in.Goals as goal

pub active_in-count-requires : goal.active_in-count-requires
active_in-count-requires g c = subst (λ l. length l ≤ 4096) (sym c.deref.ensures.value) (few_zones c.in-Ok.geometry c.in-Ok-zones_in.infos.items c.in-Ok.ensures.within c.in-Ok-zones_in.ensures.started)

pub returns-then-is_over-clause-sought : goal.returns-then-is_over-clause-sought
returns-then-is_over-clause-sought g c =
    let all = all_found c.in-Ok.geometry c.in-Ok-zones_in.infos c.in-Ok-zones_in.infos.items (λ v. v.items) (g.F.Files.state c.args.files.now) (g.F.Files.state c.geometry_in.new.files) (g.F.Files.state c.zones_in.new.files) (g.F.Files.state c.no_extra.new.files) refl
    c.in-Ok.ensures.sought c.in-Ok-zones_in.ensures.zones c.in-Ok-no_extra.ensures in
    found_many {U = Found} c.in-Ok.geometry c.in-Ok-zones_in.infos.items c.active_in-count.result (λ d found. Finds (contents d) found.geometry found.infos.items) (g.F.Files.state c.args.files.now) (g.F.Files.state c.no_extra.new.files)
    all (c.active_in-count.ensures.count ∙ ap (active_from c.in-Ok.geometry 0) c.deref.ensures.value) (sym c.is_over.ensures ∙ c.if-is_over.true)

pub returns-clause-sought : goal.returns-clause-sought
returns-clause-sought g c =
    let all = all_found c.in-Ok.geometry c.in-Ok-zones_in.infos c.in-Ok-zones_in.infos.items (λ v. v.items) (g.F.Files.state c.args.files.now) (g.F.Files.state c.geometry_in.new.files) (g.F.Files.state c.zones_in.new.files) (g.F.Files.state c.no_extra.new.files) refl
    c.in-Ok.ensures.sought c.in-Ok-zones_in.ensures.zones c.in-Ok-no_extra.ensures in
    found_few {U = Found} c.in-Ok.geometry c.in-Ok-zones_in.infos.items c.active_in-count.result (record { geometry = c.in-Ok.geometry; infos = c.in-Ok-zones_in.infos }) (λ d found. Finds (contents d) found.geometry found.infos.items) (g.F.Files.state c.args.files.now) (g.F.Files.state c.no_extra.new.files)
    all (c.active_in-count.ensures.count ∙ ap (active_from c.in-Ok.geometry 0) c.deref.ensures.value) (sym c.is_over.ensures ∙ c.if-is_over.false) (λ d found. found)

pub returns-clause-start : goal.returns-clause-start
returns-clause-start g c = started c.in-Ok.geometry c.in-Ok-zones_in.infos.items c.active_in-count.result c.in-Ok.ensures.within c.in-Ok-zones_in.ensures.started
    (c.active_in-count.ensures.count ∙ ap (active_from c.in-Ok.geometry 0) c.deref.ensures.value) (sym c.is_over.ensures ∙ c.if-is_over.false)
