use Rattle.zn_backing.specs.declared.whole.Found.{Found}
use Rattle.zn_backing.specs.Actives.{Finds}
use Rattle.zn_backing.proofs.Assembling.{lists_after, lists_synced, looks_failed, looks_found}
use Rattle.zn_backing.proofs.whole.look.Goals as goal

pub returns-in-Err-sync_all-clause-looked : goal.returns-in-Err-sync_all-clause-looked
returns-in-Err-sync_all-clause-looked g c = looks_failed {V = Found} (λ c found. Finds c found.geometry found.infos.items) c.in-Ok.names c.in-Err-sync_all.e c.in-Ok.names (g.F.Files.state c.args.files.now) (g.F.Files.state c.names_of.new.files) (g.F.Files.state c.sync_all.new.files)
    c.in-Ok.ensures.steps c.in-Err-sync_all.ensures.done c.in-Err-sync_all.ensures.plain

pub found_in-requires : goal.found_in-requires
found_in-requires g c = lists_synced c.in-Ok.names (g.F.Files.state c.names_of.new.files) (g.F.Files.state c.sync_all.new.files) c.in-Ok-sync_all.ensures.done
    (lists_after c.in-Ok.names c.in-Ok.names (g.F.Files.state c.args.files.now) (g.F.Files.state c.names_of.new.files) c.in-Ok.ensures.names c.in-Ok.ensures.steps)

pub returns-clause-looked : goal.returns-clause-looked
returns-clause-looked g c = looks_found {V = Found} (λ c found. Finds c found.geometry found.infos.items) c.in-Ok.names c.found_in.result c.in-Ok.names (g.F.Files.state c.args.files.now) (g.F.Files.state c.names_of.new.files) (g.F.Files.state c.sync_all.new.files) (g.F.Files.state c.found_in.new.files)
    c.in-Ok.ensures.steps c.in-Ok-sync_all.ensures.done
    (lists_after c.in-Ok.names c.in-Ok.names (g.F.Files.state c.args.files.now) (g.F.Files.state c.names_of.new.files) c.in-Ok.ensures.names c.in-Ok.ensures.steps) c.found_in.ensures.sought
