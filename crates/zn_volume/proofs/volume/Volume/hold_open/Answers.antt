use Rattle.std.proofs.Common.{◌≡◌, ◌<◌, true, length, sym, ap, subst}
use Rattle.zn_model.specs.declared.files.Shown.{Shown}
use Rattle.zn_model.specs.Volume.{file_at, shown_at}
use Rattle.zn_model.specs.ZoneFiles.{files_of}
use Rattle.zn_volume.specs.VolumeState.{VolumeState}
use Rattle.zn_volume.proofs.Keeping.{agrees_noted}
use Rattle.zn_volume.proofs.volume.Volume.hold_open.Goals as goal

pub invariant_of-self : goal.invariant_of-self
invariant_of-self g c =
    let known = subst (λ (s : VolumeState). c.args.f < length (files_of s.volume.inodes.layout)) (sym c.self.view_is) c.requires.known in
    let sequential = subst (λ (s : VolumeState). c.args.held ≡ true → (file_at s.volume.inodes c.args.f).seq ≡ true) (sym c.self.view_is) c.requires.sequential in
    let size : c.shown-shown.result.size ≡ (shown_at c.self.inside.inodes c.args.f).size = ap (λ (s : Shown). s.size) c.shown-shown.ensures in
    agrees_noted _ c.self.inside.inodes _ c.args.f _ _ _ _ _ known size sequential c.set.ensures.set c.set.ensures.within c.self.invariant
