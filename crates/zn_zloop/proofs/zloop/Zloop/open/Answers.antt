use Rattle.std.proofs.Common.{false, sym, subst}
use Rattle.zn_files.specs.States.{directory}
use Rattle.zn_zloop.specs.Telling.{IsZloop}
use Rattle.zn_zloop.proofs.Opening.{begins_sound}
use Rattle.zn_zloop.proofs.Opened.{holds_found, opened}
use Rattle.zn_zloop.proofs.zloop.Zloop.open.Goals as goal

pub invariant_of-result : goal.invariant_of-result
invariant_of-result g c = record {
  holds =
      subst (IsZloop false (directory (g.F.Files.state c.look.new.files)) c.in-Ok-start_of.field-0.zones c.in-Ok-start_of.field-0.kepts.items) (sym c.new.ensures.items)
      (begins_sound (directory (g.F.Files.state c.look.new.files)) c.in-Ok.found.geometry c.in-Ok.found.infos.items c.in-Ok-start_of.field-0.zones c.in-Ok-start_of.field-0.kepts.items c.in-Ok.ensures.start
      (holds_found c.in-Ok.found (g.F.Files.state c.args.files) (g.F.Files.state c.look.new.files) c.in-Ok.ensures.looked) c.in-Ok-start_of.ensures);
}

pub returns-in-Ok-start_of-clause-opened : goal.returns-in-Ok-start_of-clause-opened
returns-in-Ok-start_of-clause-opened g c =
    opened c.in-Ok.found (g.F.Files.state c.args.files) (g.F.Files.state c.look.new.files) c.in-Ok-start_of.field-0.zones c.in-Ok-start_of.field-0.kepts.items c.in-Ok.ensures.looked c.in-Ok.ensures.start c.in-Ok-start_of.ensures
