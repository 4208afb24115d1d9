-- The parts of a volume go on agreeing.
use Rattle.std.proofs.Common.{◌≡◌, ℕ, ◌+◌, ◌<◌, ◌≤◌, Bool, true, false, Option, Some, None, Result, Ok, Err, length, get_or, refl, sym, ap, ◌∙◌, subst, inl, inr, arith, List, [], ◌∷◌, ◌++◌}
use Rattle.std.proofs.lemmas.Bool.{and_parts, cases_eq, cases_lt}
use Rattle.std.proofs.lemmas.List.{get_or-set_same, get_or-set_other, set_past, length-set}
use Rattle.zn_truth.specs.declared.Cond.{Cond}
use Rattle.zn_truth.specs.declared.Cond.TheVariants.{Good, ReadOnly, Offline}
use Rattle.zn_truth.specs.declared.DevError.{DevError}
use Rattle.zn_truth.specs.declared.FaultSpec.{FaultSpec}
use Rattle.zn_truth.specs.declared.Kind.TheVariants.{Conventional, Sequential}
use Rattle.zn_truth.specs.declared.Shape.{Shape}
use Rattle.zn_truth.specs.Truth.{Geometry, geometry, is_good, kind_at}
use Rattle.zn_truth.specs.Obeying.{IsZoneToManage}
use Rattle.zn_truth.specs.declared.InjectError.TheVariants.{BadFault, TooManyFaults}
use Rattle.zn_truth.specs.declared.limits.TheConstants.{MAX_FAULTS}
use Rattle.zn_truth.specs.Inject.{Injected, inject, is_bad_fault}
use Rattle.zn_truth.specs.World.{World, geometry_of}
use Rattle.zn_device.specs.States.{DeviceState}
use Rattle.zn_model.specs.declared.files.FileZones.{FileZones}
use Rattle.zn_model.specs.declared.files.Found.{Found}
use Rattle.zn_model.specs.declared.files.Policy.{Policy}
use Rattle.zn_model.specs.declared.files.Policy.TheVariants.{RemountRo, ZoneRo, ZoneOffline, Repair}
use Rattle.zn_model.specs.declared.files.Shown.{Shown}
use Rattle.zn_model.specs.ZoneFiles.{Layout, files_of, kind_of}
use Rattle.zn_inode.specs.Sizes.{IsWithinRoom}
use Rattle.std.specs.Prelude.{slice_index_or, is_some, if◌then◌else◌, nat_le}
use Rattle.zn_model.specs.ShownStates.{policy_row, showing}
use Rattle.zn_model.specs.Writing.{grown}
use Rattle.zn_model.specs.RecoveryLaws.{OthersStay}
use Rattle.zn_model.specs.Volume.{Inodes, Queue, Request, file_at, shown_at, capacity_at, with_shown, no_file, failed, is_queued}
use Rattle.zn_model.specs.Recovery.{recovered_inodes, recovered_shown, inodes_after}
use Rattle.zn_handle.specs.HandleState as handles
use Rattle.zn_io.specs.Files.{IsFile}
use Rattle.zn_io.specs.Findings.{Recovers, applied_to, is_applied}
use Rattle.zn_volume.specs.InFlight.{AreInFlight}
use Rattle.zn_volume.specs.VolumeState.{Agrees, IsHeldSequential}
use Rattle.zn_volume.proofs.InFlight.{without_file, idle_set, size_stays, first_in_place, first_done, grown_by, grown_size}

-- a command keeps the device's geometry, and a read the room for blocks
pub agrees_on : (v w : World) (inodes : Inodes) (seen : handles.HandleState) (queued : List Request) (infos a b : ℕ) → geometry_of w ≡ geometry_of v → a ≤ b → Agrees v inodes seen queued infos a → Agrees w inodes seen queued infos b
agrees_on v w inodes seen queued infos a b same len agrees = record {
  files = λ f below. subst (λ (g : Geometry). IsFile g (file_at inodes f)) (sym same) (agrees.files f below);
  conventional = agrees.conventional;
  sequential = agrees.sequential;
  single = agrees.single;
  shape = agrees.shape ∙ ap (λ (g : Geometry). g.shape) (sym same);
  shown = agrees.shown;
  sizes = agrees.sizes;
  held = agrees.held;
  flight = agrees.flight;
  cnv = agrees.cnv;
  known = agrees.known;
  places = agrees.places ∙ ap (λ (g : Geometry). length g.kinds) (sym same);
  blocks = omega (arith, len, agrees.blocks);
}

-- a fault that is made to wait changes nothing of what the device is
pub injected_geometry : (w : World) (fault : FaultSpec) → geometry_of (inject w fault).world ≡ geometry_of w
unfolding inject geometry_of
injected_geometry w fault = by_tests (is_bad_fault w.truth fault) (nat_le MAX_FAULTS (length w.pending))
  where
    by_tests : (bad full : Bool) → let injected : Injected = if bad then record { reply = Err BadFault; world = w }
        else if full then record { reply = Err TooManyFaults; world = w }
        else record { reply = Ok tt; world = record w { pending = w.pending ++ fault ∷ [] } } in
        geometry injected.world.truth ≡ geometry w.truth
    by_tests true full = refl
    by_tests false true = refl
    by_tests false false = refl

-- ---- held open

-- what a file shows, or what it showed
shown_there : (inodes : Inodes) (f : ℕ) (shown : Shown) (P : Shown → Type 0) → P shown → P (shown_at inodes f) → P (shown_at (with_shown inodes f shown) f)
shown_there inodes f shown P new old = elim (cases_lt f (length inodes.shown)) [
  | inl below ↦ subst P (sym (get_or-set_same inodes.shown f shown (showing 0 false false false) below)) new
  | inr past ↦ subst P (sym (ap (λ (l : List Shown). get_or l f (showing 0 false false false)) (set_past inodes.shown f shown past))) old
]

pub held_set : (inodes : Inodes) (f : ℕ) (shown : Shown) → IsHeldSequential inodes → (shown.held_open ≡ true → (file_at inodes f).seq ≡ true) → IsHeldSequential (with_shown inodes f shown)
held_set inodes f shown held new = record {
  file = λ k below. elim (cases_eq k f) [
    | inl same ↦ subst (λ (k : ℕ). (shown_at (with_shown inodes f shown) k).held_open ≡ true → (file_at inodes k).seq ≡ true) (sym same)
        (shown_there inodes f shown (λ s. s.held_open ≡ true → (file_at inodes f).seq ≡ true) new (held.file f (subst (λ (n : ℕ). n < length (files_of inodes.layout)) same below)))
    | inr other ↦ subst (λ (s : Shown). s.held_open ≡ true → (file_at inodes k).seq ≡ true) (sym (get_or-set_other inodes.shown f k shown (showing 0 false false false) other)) (held.file k below)
  ];
}

row_held : (policy : Policy) (cond : Cond) (held size : ℕ) (stays_open : Bool) → (policy_row policy cond held size stays_open).held_open ≡ stays_open
row_held RemountRo Good held size stays_open = refl
row_held RemountRo ReadOnly held size stays_open = refl
row_held RemountRo Offline held size stays_open = refl
row_held ZoneRo Good held size stays_open = refl
row_held ZoneRo ReadOnly held size stays_open = refl
row_held ZoneRo Offline held size stays_open = refl
row_held ZoneOffline Good held size stays_open = refl
row_held ZoneOffline ReadOnly held size stays_open = refl
row_held ZoneOffline Offline held size stays_open = refl
row_held Repair Good held size stays_open = refl
row_held Repair ReadOnly held size stays_open = refl
row_held Repair Offline held size stays_open = refl

-- a recovery holds no file open that wasn't
stays_held : (policy : Policy) (found : Found) (shape : Shape) (file : FileZones) (shown : Shown) → (recovered_shown policy found shape file shown).held_open ≡ true → shown.held_open ≡ true
stays_held policy found shape file shown is =
    let all = (and_parts _ _ (sym (row_held policy found.cond _ shown.size _) ∙ is)).0 in
    (and_parts shown.held_open (is_good found.cond) all).0

pub held_recovered : (policy : Policy) (found : Found) (inodes : Inodes) (f : ℕ) → f < length (files_of inodes.layout) → IsHeldSequential inodes → IsHeldSequential (recovered_inodes policy found inodes f)
unfolding recovered_inodes
held_recovered policy found inodes f known held =
    let shown = recovered_shown policy found inodes.shape (file_at inodes f) (shown_at inodes f) in
    record { file = (held_set inodes f shown held (λ is. held.file f known (stays_held policy found inodes.shape (file_at inodes f) (shown_at inodes f) is))).file }

held_after : (found : Option Found) (policy : Policy) (inodes : Inodes) (f : ℕ) → f < length (files_of inodes.layout) → IsHeldSequential inodes → IsHeldSequential (inodes_after found policy inodes f)
held_after (Some found) policy inodes f known held = held_recovered policy found inodes f known held
held_after None policy inodes f known held = held

pub recovers_held : (after_read : Bool) (policy : Policy) (f : ℕ) (result : Result Bool DevError) (old new : DeviceState) (before after : Inodes)
    → Recovers after_read policy f result old new before after → f < length (files_of before.layout) → IsHeldSequential before → IsHeldSequential after
recovers_held after_read policy f (Ok changed) old new before after step known held =
    subst IsHeldSequential (sym (step.inodes refl)) (held_after (applied_to after_read old.world before f) policy before f known held)
recovers_held after_read policy f (Err error) old new before after step known held =
    subst IsHeldSequential (sym (step.failed refl)) held

-- the requests of a file end where a recovery was applied to it
flight_after : (found : Option Found) (policy : Policy) (inodes after : Inodes) (f : ℕ) (queue : Queue) → OthersStay inodes after f → after ≡ inodes_after found policy inodes f
    → AreInFlight inodes queue.queued → AreInFlight after (if is_some found then failed queue f else queue).queued
flight_after (Some found) policy inodes after f queue others is flight =
    without_file inodes after f queue.queued others.layout others.shape (λ k other. ap (λ (s : Shown). s.size) (others.others k other)) flight
flight_after None policy inodes after f queue others is flight = subst (λ (i : Inodes). AreInFlight i queue.queued) (sym is) flight

pub flight_recovered : (after_read : Bool) (policy : Policy) (f : ℕ) (result : Result Bool DevError) (old new : DeviceState) (before after : Inodes) (queue : Queue)
    → Recovers after_read policy f result old new before after → AreInFlight before queue.queued → AreInFlight after (if is_applied result then failed queue f else queue).queued
flight_recovered after_read policy f (Ok changed) old new before after queue step flight =
    subst (λ (b : Bool). AreInFlight after (if b then failed queue f else queue).queued) (sym (step.applies refl))
    (flight_after (applied_to after_read old.world before f) policy before after f queue step.others (step.inodes refl) flight)
flight_recovered after_read policy f (Err error) old new before after queue step flight =
    subst (λ (i : Inodes). AreInFlight i queue.queued) (sym (step.failed refl)) flight

-- a recovery
pub agrees_recovered : (after_read : Bool) (policy : Policy) (f : ℕ) (result : Result Bool DevError) (old new : DeviceState) (before after : Inodes) (seen : handles.HandleState) (queue : Queue) (left : List Request) (infos places blocks : ℕ)
    → Recovers after_read policy f result old new before after → (IsWithinRoom before → IsWithinRoom after) → f < length (files_of before.layout) → left ≡ (if is_applied result then failed queue f else queue).queued → places ≡ infos
    → Agrees old.world before seen queue.queued infos blocks → Agrees new.world after seen left places blocks
agrees_recovered after_read policy f result old new before after seen queue left infos places blocks step within known ends len agrees =
    let same : before.layout ≡ after.layout = sym step.others.layout in
    record {
      files = λ k below. subst (λ (g : Geometry). IsFile g (file_at after k)) (sym step.geometry)
          (subst (λ (l : Layout). k < length (files_of l) → IsFile (geometry_of old.world) (slice_index_or (files_of l) k no_file)) same (agrees.files k) below);
      conventional = λ k below. subst (λ (l : Layout). k < length l.cnv → (slice_index_or (files_of l) k no_file).seq ≡ false) same (agrees.conventional k) below;
      sequential = λ k from below. subst (λ (l : Layout). length l.cnv ≤ k → k < length (files_of l) → (slice_index_or (files_of l) k no_file).seq ≡ true) same (agrees.sequential k) from below;
      single = λ k below. subst (λ (l : Layout). k < length (files_of l) → (slice_index_or (files_of l) k no_file).seq ≡ true → (slice_index_or (files_of l) k no_file).zones ≡ 1) same (agrees.single k) below;
      shape = step.others.shape ∙ agrees.shape ∙ ap (λ (g : Geometry). g.shape) (sym step.geometry);
      shown = step.others.count ∙ agrees.shown ∙ ap (λ (l : Layout). length (files_of l)) same;
      sizes = within agrees.sizes;
      held = recovers_held after_read policy f result old new before after step known agrees.held;
      flight = subst (λ (l : List Request). AreInFlight after l) (sym ends) (flight_recovered after_read policy f result old new before after queue step agrees.flight);
      cnv = agrees.cnv ∙ ap (λ (l : Layout). length l.cnv) same;
      known = agrees.known ∙ ap (λ (l : Layout). length (files_of l)) same;
      places = len ∙ agrees.places ∙ ap (λ (g : Geometry). length g.kinds) (sym step.geometry);
      blocks = agrees.blocks;
    }

-- a file shows something else, and other requests may wait
agrees_set : (v w : World) (inodes after : Inodes) (f : ℕ) (shown : Shown) (seen : handles.HandleState) (queued left : List Request) (infos a b : ℕ) → geometry_of w ≡ geometry_of v → a ≤ b → after ≡ with_shown inodes f shown
    → IsWithinRoom after → (shown.held_open ≡ true → (file_at inodes f).seq ≡ true) → AreInFlight (with_shown inodes f shown) left → Agrees v inodes seen queued infos a → Agrees w after seen left infos b
agrees_set v w inodes after f shown seen queued left infos a b same len set within held flight agrees = subst (λ (i : Inodes). Agrees w i seen left infos b) (sym set) (record {
  files = λ k below. subst (λ (g : Geometry). IsFile g (file_at inodes k)) (sym same) (agrees.files k below);
  conventional = agrees.conventional;
  sequential = agrees.sequential;
  single = agrees.single;
  shape = agrees.shape ∙ ap (λ (g : Geometry). g.shape) (sym same);
  shown = length-set inodes.shown f shown ∙ agrees.shown;
  sizes = subst (λ (i : Inodes). IsWithinRoom i) set within;
  held = held_set inodes f shown agrees.held held;
  flight = flight;
  cnv = agrees.cnv;
  known = agrees.known;
  places = agrees.places ∙ ap (λ (g : Geometry). length g.kinds) (sym same);
  blocks = omega (arith, len, agrees.blocks);
})

-- what a file shows after a write
grown_held : (w : World) (inodes : Inodes) (f len : ℕ) (seen : handles.HandleState) (queued : List Request) (infos scratch : ℕ) (shown : Shown) → f < length (files_of inodes.layout)
    → shown ≡ grown inodes.shape (file_at inodes f) (shown_at inodes f) len → Agrees w inodes seen queued infos scratch → shown.held_open ≡ true → (file_at inodes f).seq ≡ true
grown_held w inodes f len seen queued infos scratch shown known grows agrees is =
    agrees.held.file f known (and_parts (shown_at inodes f).held_open _ (sym (ap (λ (s : Shown). s.held_open) grows) ∙ is)).0

-- a write of the oldest request, which has ended
pub agrees_done : (v w : World) (inodes after : Inodes) (shown : Shown) (seen : handles.HandleState) (queued : List Request) (oldest : Request) (waiting left : List Request) (infos a b : ℕ) → geometry_of w ≡ geometry_of v → a ≤ b
    → queued ≡ oldest ∷ waiting → left ≡ waiting → shown ≡ grown inodes.shape (file_at inodes oldest.file) (shown_at inodes oldest.file) (length oldest.bytes) → after ≡ with_shown inodes oldest.file shown
    → (IsWithinRoom inodes → shown.size ≤ capacity_at inodes oldest.file → IsWithinRoom after) → Agrees v inodes seen queued infos a → Agrees w after seen left infos b
agrees_done v w inodes after shown seen queued oldest waiting left infos a b same len first ended grows set within agrees =
    subst (λ (l : List Request). Agrees w after seen l infos b) (sym ended) (agrees_set v w inodes after oldest.file shown seen queued waiting infos a b same len set
    (within agrees.sizes (subst (λ (s : Shown). s.size ≤ capacity_at inodes oldest.file) (sym grows) (grown_size inodes queued oldest waiting first agrees.flight (agrees.sizes.size oldest.file known))))
    (grown_held v inodes oldest.file (length oldest.bytes) seen queued infos a shown known grows agrees)
    (first_done inodes queued oldest waiting shown first agrees.flight (omega (arith, known, agrees.shown)) grows) agrees)
  where
    known : oldest.file < length (files_of inodes.layout)
    known = (first_in_place inodes queued oldest waiting first agrees.flight).known

-- a write to a file for which no request waits
pub agrees_written : (v w : World) (inodes after : Inodes) (f len : ℕ) (shown : Shown) (seen : handles.HandleState) (queue : Queue) (infos a b : ℕ) → geometry_of w ≡ geometry_of v → a ≤ b → f < length (files_of inodes.layout)
    → ((file_at inodes f).seq ≡ true → (shown_at inodes f).size + len ≤ capacity_at inodes f) → is_queued queue f ≡ false → shown ≡ grown inodes.shape (file_at inodes f) (shown_at inodes f) len → after ≡ with_shown inodes f shown
    → (IsWithinRoom inodes → shown.size ≤ capacity_at inodes f → IsWithinRoom after) → Agrees v inodes seen queue.queued infos a → Agrees w after seen queue.queued infos b
agrees_written v w inodes after f len shown seen queue infos a b same long known behind idle grows set within agrees =
    agrees_set v w inodes after f shown seen queue.queued queue.queued infos a b same long set
    (within agrees.sizes (subst (λ (s : Shown). s.size ≤ capacity_at inodes f) (sym grows) (grown_by (file_at inodes f).seq (shown_at inodes f).size len (capacity_at inodes f) (agrees.sizes.size f known) behind)))
    (grown_held v inodes f len seen queue.queued infos a shown known grows agrees)
    (idle_set inodes f shown queue agrees.flight idle) agrees

-- another size of a sequential file for which no request waits
pub agrees_resized : (v w : World) (inodes after : Inodes) (f : ℕ) (shown : Shown) (seen : handles.HandleState) (queue : Queue) (infos a b : ℕ) → geometry_of w ≡ geometry_of v → a ≤ b → (file_at inodes f).seq ≡ true
    → is_queued queue f ≡ false → after ≡ with_shown inodes f shown → IsWithinRoom after → Agrees v inodes seen queue.queued infos a → Agrees w after seen queue.queued infos b
agrees_resized v w inodes after f shown seen queue infos a b same long sequential idle set within agrees =
    agrees_set v w inodes after f shown seen queue.queued queue.queued infos a b same long set within (λ is. sequential) (idle_set inodes f shown queue agrees.flight idle) agrees

-- a note of whether a file is held open
pub agrees_noted : (w : World) (inodes after : Inodes) (f : ℕ) (shown : Shown) (seen : handles.HandleState) (queued : List Request) (infos scratch : ℕ) → f < length (files_of inodes.layout) → shown.size ≡ (shown_at inodes f).size
    → (shown.held_open ≡ true → (file_at inodes f).seq ≡ true) → after ≡ with_shown inodes f shown → (IsWithinRoom inodes → shown.size ≤ capacity_at inodes f → IsWithinRoom after) → Agrees w inodes seen queued infos scratch → Agrees w after seen queued infos scratch
agrees_noted w inodes after f shown seen queued infos scratch known size held set within agrees =
    agrees_set w w inodes after f shown seen queued queued infos scratch scratch refl (omega arith) set (within agrees.sizes (subst (λ (n : ℕ). n ≤ capacity_at inodes f) (sym size) (agrees.sizes.size f known))) held
    (size_stays inodes f shown queued agrees.flight size) agrees

-- ---- zones

-- the zone of a sequential file can be managed
pub manageable : (g : Geometry) (file : FileZones) → IsFile g file → file.seq ≡ true → IsZoneToManage g file.first
manageable g file is sequential = record {
  zone = omega (arith, is.some, is.inside);
  kind = subst (λ (z : ℕ). kind_at g z ≡ kind_of file) (omega arith) (is.kinds 0 is.some) ∙ ap (λ (b : Bool). if b then Sequential else Conventional) sequential;
}
