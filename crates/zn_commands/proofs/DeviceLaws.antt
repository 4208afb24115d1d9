-- A device over files lies in their directory.
use Rattle.std.proofs.Common.{◌≡◌, Bool, true, false, List, Some, refl, subst}
use Rattle.std.specs.Prelude.{Option, is_some}
use Rattle.zn_zone.specs.Machine.{Machine}
use Rattle.zn_stand.specs.Directory.{Directory, contents}
use Rattle.zn_stand.specs.Standing.{StandsFor}
use Rattle.zn_files.specs.States.{FilesState, directory}
use Rattle.zn_zloop.specs.declared.kept.Kept.{Kept}
use Rattle.zn_zloop.specs.Telling.{truth_told, state_told}
use Rattle.zn_commands.specs.Devices.{LiesIn}

-- unless it is spoilt, it tells its bytes where contents are told
told_where : (spoilt : Bool) (o : Option Directory) (m : Machine) (kepts : List Kept) → spoilt ≡ false → (truth_told spoilt o m kepts).told ≡ is_some o
told_where true o m kepts unspoilt = absurd (cc)
told_where false o m kepts unspoilt = refl

-- the directory that is given back is the one that the device had
pub lies_in : (spoilt : Bool) (s given : FilesState) (m : Machine) (kepts : List Kept) → given ≡ s
    → ((d : Directory) → spoilt ≡ false → directory given ≡ Some d → StandsFor (contents d) (truth_told spoilt (directory given) m kepts))
    → LiesIn (state_told spoilt s m kepts) given
lies_in spoilt s given m kepts same stands =
    subst (λ (was : FilesState). LiesIn (state_told spoilt was m kepts) given) same
    (record { breaks = refl; told = told_where spoilt (directory given) m kepts; stands = stands })
