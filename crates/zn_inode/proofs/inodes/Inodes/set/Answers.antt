use Rattle.std.proofs.Common.{◌<◌, ◌≤◌, List, length, sym, ap, ◌∙◌, arith}
use Rattle.zn_model.specs.declared.files.FileZones.{FileZones}
use Rattle.zn_model.specs.declared.files.Shown.{Shown}
use Rattle.zn_model.specs.Looks.{is_shown_active}
use Rattle.zn_model.specs.ZoneFiles.{files_of}
use Rattle.zn_inode.specs.Kept.{is_active_in, active_among}
use Rattle.zn_inode.proofs.Kept.{active_within, active_counted, kept_set}
use Rattle.zn_inode.proofs.inodes.Inodes.set.Goals as goal

pub recounted-self-inside-requires : goal.recounted-self-inside-requires
recounted-self-inside-requires c =
    let layout = c.self.inside.layout in
    let shape = c.self.inside.shape in
    let shown = c.self.inside.shown.items in
    let below : c.args.f < length (files_of c.self.inside.layout) = grind (arith, c.requires, c.self.view_is) in
    let was = c.is_active_at-was.ensures ∙ ap (λ (shown : List Shown). is_active_in layout shape shown c.args.f) c.deref.ensures.value in
    record {
      counted = λ is.
          let one : 1 ≤ active_among c.self.inside.layout c.self.inside.shape c.self.inside.shown.items = active_counted layout shape shown c.args.f below (sym was ∙ is) in
          omega (arith, one, c.self.invariant.count);
      few = omega (arith, active_within layout shape shown, c.self.invariant.count, c.self.invariant.few);
    }

pub invariant_of-self : goal.invariant_of-self
invariant_of-self c =
    let layout = c.self.inside.layout in
    let shape = c.self.inside.shape in
    let shown = c.self.inside.shown.items in
    let below : c.args.f < length (files_of c.self.inside.layout) = grind (arith, c.requires, c.self.view_is) in
    let was = c.is_active_at-was.ensures ∙ ap (λ (shown : List Shown). is_active_in layout shape shown c.args.f) c.deref.ensures.value in
    let is = c.is_shown_active-is.ensures ∙ ap (λ (file : FileZones). is_shown_active shape file c.args.shown) c.zones_of.ensures in
    kept_set layout shape shown c.self.inside.places.items c.self.inside.active c.recounted-self-inside.result c.args.f c.args.shown c.is_active_at-was.result c.is_shown_active-is.result
    below c.self.invariant was is c.recounted-self-inside.ensures
