-- What is told of a directory that was opened as a device.
use Rattle.std.proofs.Common.{◌≡◌, false, List, Option, Some, None, Ok, refl, sym, ap, ◌∙◌, subst}
use Rattle.std.specs.Prelude.{is_some}
use Rattle.std.proofs.lemmas.Bool.{false≢true}
use Rattle.std.proofs.lemmas.Option.{same_Some}
use Rattle.zn_zone.specs.Machine.{Machine, facts}
use Rattle.zn_stand.specs.Directory.{Directory, Contents, contents, rested}
use Rattle.zn_stand.specs.AtRest.{at_rest}
use Rattle.zn_files.specs.States.{FilesState, directory}
use Rattle.zn_backing.specs.declared.whole.Found.{Found}
use Rattle.zn_backing.specs.Actives.{IsStartOf, Finds, Looks}
use Rattle.zn_zloop.specs.declared.kept.Kept.{Kept}
use Rattle.zn_zloop.specs.Seen.{truth_seen}
use Rattle.zn_zloop.specs.Telling.{state_told}
use Rattle.zn_zloop.specs.Opening.{Begins, HoldsFoundWhereTold, Opened}
use Rattle.zn_zloop.proofs.Opening.{begins_truth, begins_rested}

abbrev FindsIn : Contents → Found → Type 0
FindsIn c found = Finds c found.geometry found.infos.items

-- after a look the directory holds what was found
pub holds_found : (found : Found) (old new : FilesState) → Looks {T = Found} (Ok found) old new FindsIn → HoldsFoundWhereTold (directory new) found.geometry found.infos.items
holds_found found old new looks = at (directory new) (directory old) refl refl
  where
    at : (o q : Option Directory) → directory new ≡ o → directory old ≡ q → HoldsFoundWhereTold o found.geometry found.infos.items
    at None q is was = tt
    at (Some e) None is was = absurd (false≢true (sym (ap is_some was) ∙ sym looks.told ∙ ap is_some is))
    at (Some e) (Some d) is was = record {
      c = contents d;
      is = same_Some e (rested (contents d)) (sym is ∙ looks.rest d was);
      finds = looks.found d was;
    }

pub opened : (found : Found) (old new : FilesState) (m : Machine) (kepts : List Kept) → Looks {T = Found} (Ok found) old new FindsIn → IsStartOf found.geometry found.infos.items → Begins found.geometry found.infos.items m kepts
    → Opened (state_told false new m kepts) old new
opened found old new m kepts looks start begins = record {
  unspoilt = refl;
  calm = refl;
  zones = begins_rested (directory new) found.geometry found.infos.items m kepts start begins;
  breaks = refl;
  count = looks.kept;
  told = looks.told;
  truth = λ d told. subst (λ (o : Option Directory). at_rest (contents d) ≡ Ok (truth_seen o (facts m) kepts)) (sym (looks.rest d told))
      (begins_truth (contents d) found.geometry found.infos.items m kepts start (looks.found d told) begins);
  rest = λ d told. looks.rest d told;
}
