-- What follows of a device that was to be made.
use Rattle.std.proofs.Common.{◌≡◌, List, [], Some, Result, Ok, Err, refl, subst}
use Rattle.std.specs.Prelude.{slice_get, IsTrue}
use Rattle.std.specs.FinMap.{keys}
use Rattle.zn_base.specs.States.{SinkState}
use Rattle.zn_run.specs.States.{Added}
use Rattle.zn_run.specs.declared.status.Status.{Status}
use Rattle.zn_run.specs.declared.status.Status.TheVariants.{Done, Directory as BadDirectory}
use Rattle.zn_stand.specs.declared.numbers.Geometry.{Geometry}
use Rattle.zn_stand.specs.Maps.{Name}
use Rattle.zn_stand.specs.DeviceText.{is_within}
use Rattle.zn_files.specs.States.{FilesState}
use Rattle.zn_backing.specs.declared.error.CreateError.{CreateError}
use Rattle.zn_backing.specs.declared.error.CreateError.TheVariants.{BadGeometry as over_limit, Exists, Fault as create_fault, Memory as create_memory}
use Rattle.zn_backing.specs.Creating.{Creates}
use Rattle.zn_commands.specs.Lines.{add_status, add_line}
use Rattle.zn_commands.specs.Adding.{Adds, HasAdded, IsNotEmpty, AddCauses}
use Rattle.zn_commands.proofs.Ending.{IsDue, end_causes, written, exactly}

module _ (geo : Geometry) (status : Status) (old new : FilesState) (before after : SinkState) where
  due : (outcome : Result (Unit {0}) CreateError) → Creates geo outcome old new → IsTrue (is_within geo) → IsDue (add_status outcome) (add_line outcome) old new
  due (Ok unit) made within = tt
  due (Err over_limit) made within = let over = made.geometry.0 refl in absurd (cc)
  due (Err (Exists name)) made within = tt
  due (Err create_fault) made within = (record { later = made.later; rose = made.fault refl }, refl)
  due (Err create_memory) made within = refl

  done : (outcome : Result (Unit {0}) CreateError) → Creates geo outcome old new → status ≡ add_status outcome → Added (add_line outcome) before after → status ≡ Done → HasAdded geo old new before after
  done (Ok unit) made is added h = record { line = added; kept = made.kept (λ e. cc); empty = made.none; made = made.made }
  done (Err over_limit) made is added h = absurd (cc)
  done (Err (Exists name)) made is added h = absurd (cc)
  done (Err create_fault) made is added h = absurd (cc)
  done (Err create_memory) made is added h = absurd (cc)

  refused : (outcome : Result (Unit {0}) CreateError) → Creates geo outcome old new → status ≡ add_status outcome → Added (add_line outcome) before after → status ≡ BadDirectory → IsNotEmpty old new before after
  refused (Ok unit) made is added h = absurd (cc)
  refused (Err over_limit) made is added h = absurd (cc)
  refused (Err (Exists name)) made is added h = record { name = name; line = added; first = λ d told. made.first name d refl told; same = λ d told. made.refused name d refl told }
  refused (Err create_fault) made is added h = absurd (cc)
  refused (Err create_memory) made is added h = absurd (cc)

  -- a directory that holds a name isn't empty
  not_none : (names : List Name) (name : Name) → slice_get names 0 ≡ Some name → names ≡ [] → ⊥
  not_none names name first none = let at : slice_get (let l : List Name = [] in l) 0 ≡ Some name = subst (λ (l : List Name). slice_get l 0 ≡ Some name) none first in cc

  pub add_causes : IsTrue (is_within geo) → Adds geo status old new before after → AddCauses geo status old new before after
  add_causes within h =
      let told = written status old new before after (add_status h.outcome) (add_line h.outcome) h.closed.means in
      let causes = end_causes status old new before after (add_status h.outcome) (add_line h.outcome) (due h.outcome h.creates within) h.closed.means in
      let is_done : status ≡ Done → HasAdded geo old new before after = λ is. let t = told (λ e. cc) in done h.outcome h.creates t.0 t.1 is in
      let is_refused : status ≡ BadDirectory → IsNotEmpty old new before after = λ is. let t = told (λ e. cc) in refused h.outcome h.creates t.0 t.1 is in
      record {
        done = is_done;
        refused = is_refused;
        others = causes;
        exact = λ d there q m. exactly status old new before after (keys d ≡ []) causes (λ is. (is_done is).empty d there) (λ is none. not_none (keys d) (is_refused is).name ((is_refused is).first d there) none) q m;
      }
