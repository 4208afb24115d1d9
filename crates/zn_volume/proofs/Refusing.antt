-- Which refusals the checks of calls give.
use Rattle.std.proofs.Common.{◌≡◌, true, Option, Some, None, Result, sym, ap, subst}
use Rattle.std.specs.Prelude.{option_map, if◌then◌else◌}
use Rattle.std.proofs.lemmas.Option.{same_Some}
use Rattle.zn_model.specs.declared.answers.Refusal.{Refusal}
use Rattle.zn_model.specs.declared.answers.Refusal.TheVariants.{PowerLost}
use Rattle.zn_model.specs.Volume.{Mounted, Live}
use Rattle.zn_handle.specs.HandleState.{open_of}
use Rattle.zn_handle.specs.declared.handles.Open.{Open}
use Rattle.zn_volume.specs.Refusals.{IsRefusedBy, power_first, live_first}

-- a call on a live handle is refused by what is checked of it
pub live_refused : {X : Type 0} (m : Mounted) (found : Option Live) (on : Open) (check : Live → Option Refusal) (result : Result X Refusal) → m.world.powered ≡ true → Some on ≡ option_map open_of found
    → ((live : Live) → live.file ≡ on.file → live.mode ≡ on.mode → IsRefusedBy (check live) result) → IsRefusedBy (power_first m (live_first found check)) result
live_refused m None on check result powered is each = absurd (cc is)
live_refused m (Some live) on check result powered is each =
    let same : on ≡ open_of live = same_Some _ _ is in
    subst (λ b. IsRefusedBy (if b then check live else Some PowerLost) result) (sym powered) (each live (ap (λ (o : Open). o.file) (sym same)) (ap (λ (o : Open). o.mode) (sym same)))
