-- What is held is a bare device, or one with a volume on it.
use Rattle.std.proofs.Common.{◌≡◌, false, List, Option, Some, sym, subst}
use Rattle.zn_device.specs.States.{DeviceState}
use Rattle.zn_model.specs.declared.handles.Handle.{Handle}
use Rattle.zn_lines.specs.Table.{no_numbers}
use Rattle.zn_volume.specs.VolumeState.{VolumeState, mounted_in}
use Rattle.zn_session.specs.SessionState.{HeldState, bare_held, mounted_held, held_by, IsNumbered, AreNumbered}
use Rattle.zn_session.specs.declared.held.Held.{Held}
use Rattle.zn_session.specs.declared.held.Held.TheVariants.{Bare, Mounted as OnVolume}

module _ {D : Type 0} (state : D → DeviceState) (held : Option (Held D)) where
  -- with a volume
  module _ (seen : VolumeState) (is : held ≡ Some (OnVolume seen)) where
    pub with_volume : (P : HeldState → Type 0) → P (mounted_held seen) → P (held_by state held)
    with_volume P holds = let Q : Option (Held D) → Type 0 = λ h. P (held_by state h) in subst Q (sym is) holds

    pub of_volume : (P : HeldState → Type 0) → P (held_by state held) → P (mounted_held seen)
    of_volume P holds = let Q : Option (Held D) → Type 0 = λ h. P (held_by state h) in subst Q is holds

    pub volume_numbered : (numbers : List (Option Handle)) → AreNumbered (held_by state held) numbers → IsNumbered (mounted_in seen) numbers
    volume_numbered numbers numbered = of_volume (λ h. AreNumbered h numbers) numbered

    pub volume_unspoilt : (held_by state held).device.spoilt ≡ false → seen.device.spoilt ≡ false
    volume_unspoilt unspoilt = of_volume (λ h. h.device.spoilt ≡ false) unspoilt

  -- without one
  module _ (dev : D) (is : held ≡ Some (Bare dev)) where
    pub without_volume : (P : HeldState → Type 0) → P (bare_held (state dev)) → P (held_by state held)
    without_volume P holds = let Q : Option (Held D) → Type 0 = λ h. P (held_by state h) in subst Q (sym is) holds

    pub of_bare : (P : HeldState → Type 0) → P (held_by state held) → P (bare_held (state dev))
    of_bare P holds = let Q : Option (Held D) → Type 0 = λ h. P (held_by state h) in subst Q is holds

    pub bare_numbered : (numbers : List (Option Handle)) → AreNumbered (held_by state held) numbers → numbers ≡ no_numbers
    bare_numbered numbers numbered = of_bare (λ h. AreNumbered h numbers) numbered

    pub bare_unspoilt : (held_by state held).device.spoilt ≡ false → (state dev).spoilt ≡ false
    bare_unspoilt unspoilt = of_bare (λ h. h.device.spoilt ≡ false) unspoilt
