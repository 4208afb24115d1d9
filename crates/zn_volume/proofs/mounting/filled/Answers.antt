use Rattle.std.proofs.Common.{◌≡◌, List, length, sym, ap, ◌∙◌}
use Rattle.zn_truth.specs.Truth.{geometry}
use Rattle.zn_truth.specs.World.{geometry_of}
use Rattle.zn_truth.specs.declared.ZoneInfo.{ZoneInfo}
use Rattle.zn_model.specs.Mounting.{fresh_inodes}
use Rattle.zn_model.specs.SuperBlock.{SuperBlock}
use Rattle.zn_model.specs.Volume.{Inodes}
use Rattle.zn_model.specs.ZoneFiles.{layout_of, files_of}
use Rattle.zn_volume.proofs.Mounted.{fresh_is, prepared_inside}
use Rattle.zn_volume.proofs.mounting.filled.Goals as goal

pub mount-requires-clause-inside : goal.mount-requires-clause-inside
mount-requires-clause-inside g c =
    let w = geometry_of (g.D.Zoned.state c.args.dev.now).world in
    let count : length c.deref.result.now ≡ length (geometry_of (g.D.Zoned.state c.args.dev.now).world).kinds = ap (λ (l : List ZoneInfo). length l) c.deref.ensures.value ∙ c.requires.infos in
    prepared_inside w.kinds c.super_block.inside.aggr_cnv w.shape c.chosen-inodes.result.inodes c.chosen-inodes.result.handles (length c.deref.result.now)
    (c.chosen-inodes.ensures w.kinds w.shape c.requires.single c.requires.joined) count

pub returns-clause-inodes : goal.returns-clause-inodes
returns-clause-inodes g c = λ t same told.
    let w = geometry_of (g.D.Zoned.state c.args.dev.now).world in
    let prepared = c.chosen-inodes.ensures w.kinds w.shape c.requires.single c.requires.joined in
    let count : length c.deref.result.now ≡ length (geometry_of (g.D.Zoned.state c.args.dev.now).world).kinds = ap (λ (l : List ZoneInfo). length l) c.deref.ensures.value ∙ c.requires.infos in
    fresh_is t w c.super_block.inside.aggr_cnv c.chosen-inodes.result.inodes c.mount.new.self c.chosen-inodes.result.handles c.deref.result.now prepared same
    (prepared_inside w.kinds c.super_block.inside.aggr_cnv w.shape c.chosen-inodes.result.inodes c.chosen-inodes.result.handles (length c.deref.result.now) prepared count)
    (c.deref.ensures.value ∙ told) c.mount.ensures
    ∙ ap (λ (s : SuperBlock). fresh_inodes t (layout_of (geometry t).kinds s.aggr_cnv)) c.super_block.view_is

pub returns-clause-fresh : goal.returns-clause-fresh
returns-clause-fresh g c =
    let w = geometry_of (g.D.Zoned.state c.args.dev.now).world in
    (c.chosen-inodes.ensures w.kinds w.shape c.requires.single c.requires.joined).fresh

pub returns-clause-cnv : goal.returns-clause-cnv
returns-clause-cnv g c =
    let w = geometry_of (g.D.Zoned.state c.args.dev.now).world in
    (c.chosen-inodes.ensures w.kinds w.shape c.requires.single c.requires.joined).cnv ∙ sym (ap (λ (i : Inodes). length i.layout.cnv) c.mount.ensures)

pub returns-clause-known : goal.returns-clause-known
returns-clause-known g c =
    let w = geometry_of (g.D.Zoned.state c.args.dev.now).world in
    (c.chosen-inodes.ensures w.kinds w.shape c.requires.single c.requires.joined).known ∙ sym (ap (λ (i : Inodes). length (files_of i.layout)) c.mount.ensures)
