use Rattle.std.proofs.Common.{◌≡◌, ◌<◌, length, map, false, sym, ◌∙◌, arith}
use Rattle.std.proofs.lemmas.List.{same_lists, length-map, get_or-map, get_or_default}
use Rattle.zn_model.specs.ShownStates.{showing}
use Rattle.zn_model.specs.Volume.{no_file}
use Rattle.zn_model.specs.ZoneFiles.{files_of}
use Rattle.zn_inode.specs.Mounts.{mounted_from}
use Rattle.zn_inode.proofs.inodes.show_mounted.Goals as goal

pub returns : goal.returns
returns c =
    let infos = c.args.infos.now in
    let files = files_of c.args.layout.now in
    let shown = c.loop-f.shown in
    let count : length c.loop-f.shown ≡ length (files_of c.args.layout.now) = c.loop-f.auto.shown ∙ c.requires.places in
    same_lists shown (map (mounted_from infos) files) (count ∙ sym (length-map files (mounted_from infos))) (λ k d below.
    let known : k < length (files_of c.args.layout.now) = omega (arith, below, count) in
    get_or_default shown k d (showing 0 false false false) below
    ∙ c.loop-f.invariant k (omega (arith, known, c.loop-f-test.false, c.files-f-end.ensures.count))
    ∙ sym (get_or-map (mounted_from infos) files k no_file d known))
