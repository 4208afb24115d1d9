-- A zone turns to a worse condition.
use Rattle.std.proofs.Common.{◌≡◌, inl, inr, ℕ, ◌*◌, ◌<◌, ◌≤◌, Bool, true, false, List, [], length, map, set, get_or, Option, Some, None, Ok, Err, refl, sym, ap, ◌∙◌, subst, arith}
use Rattle.std.specs.Prelude.{◌≢◌, is_some, IsTrue, IsSome, if◌then◌else◌}
use Rattle.std.specs.Option.{option_map}
use Rattle.std.proofs.lemmas.Bool.{false≢true, and_from, eq-eqb, le-leb}
use Rattle.std.proofs.lemmas.Bool.Decides.{nat_tests}
use Rattle.std.proofs.lemmas.Option.{same_Some}
use Rattle.std.proofs.lemmas.List.{length-map, map-set}
use Rattle.zn_base.specs.Causes.{Rose}
use Rattle.zn_truth.specs.declared.Kind.{Kind}
use Rattle.zn_truth.specs.declared.Kind.TheVariants.{Conventional, Sequential}
use Rattle.zn_truth.specs.declared.Cond.{Cond}
use Rattle.zn_truth.specs.declared.Cond.TheVariants.{Good, ReadOnly, Offline}
use Rattle.zn_truth.specs.declared.DevError.{DevError}
use Rattle.zn_truth.specs.declared.Shape.{Shape}
use Rattle.zn_truth.specs.Truth.{Zone, Truth, zone_at, with_zone, room, cleared, is_offline, is_sequential, IsSoundZone, IsSound}
use Rattle.zn_truth.specs.Orders.{Reply}
use Rattle.zn_truth.specs.Loss.{turned_by, turned}
use Rattle.zn_truth.specs.Limits.{IsWithinLimits}
use Rattle.zn_truth.specs.Inject.{severity}
use Rattle.zn_truth.proofs.SoundInject.{turned_sound}
use Rattle.zn_zone.specs.Table.{cond_of}
use Rattle.zn_zone.specs.Facts.{ZoneFacts, Facts, zone_facts, facts_of, facts_at, with_facts, bare}
use Rattle.zn_zone.specs.Machine.{Machine, state_at, facts_in, facts, geometry_in}
use Rattle.zn_zone.proofs.Truths.{turned-facts}
use Rattle.zn_zone.proofs.ByFacts.{map-map}
use Rattle.zn_stand.specs.File.{File, synced, is_in_blocks}
use Rattle.zn_stand.specs.Maps.{Name}
use Rattle.zn_stand.specs.Directory.{Directory, file_at}
use Rattle.zn_stand.specs.ZoneNames.{zone_name, read_only_name, offline_name}
use Rattle.zn_stand.specs.Standing.{is_file_length}
use Rattle.zn_files.specs.States.{FilesState, directory}
use Rattle.zn_zloop.specs.declared.kept.Kept.{Kept}
use Rattle.zn_zloop.specs.Kept.{is_listed, synced_mark}
use Rattle.zn_zloop.specs.Backing.{IsFileOf, IsFileAt}
use Rattle.zn_zloop.specs.Framing.{Label, label_of, labels_of, label_at, IsReadOnlyAt, IsOfflineAt, Frames, FramesWhereTold}
use Rattle.zn_zloop.specs.Seen.{bytes_in, bytes_seen, truth_seen}
use Rattle.zn_zloop.specs.Served.{ChangedWhereTold, Served}
use Rattle.zn_zloop.specs.Holding.{HoldsWhereTold, IsKept, IsSoundZloop}
use Rattle.zn_zloop.specs.Following.{Follows, Touches}
use Rattle.zn_zloop.specs.Turned.{IsMissing, marker_name, IsSyncedFrom, IsEmptyFile, Turned, Turns, turned_durable, turned_flags}
use Rattle.zn_zloop.proofs.Sight.{facts_of-seen, facts_of-with_zone, zones-seen, seen_put, facts_at-facts}
use Rattle.zn_zloop.proofs.Backs.{rest_file}
use Rattle.zn_zloop.proofs.Frames.{label_is, frame_put}
use Rattle.zn_zloop.proofs.Marking.{marker_apart, marker_missing, frame_marked}
use Rattle.zn_zloop.proofs.Serving.{err_apart}
use Rattle.zn_zloop.proofs.Putting.{HoldsAt, map_at, told_same, other_bytes, zone_put, kept_put, told_put, IsFound, found, own_kept}
use Rattle.zn_zloop.proofs.Managing.{rest_kept, synced_clean}

-- ---- the calls

-- the file is synced, and the marker made, or not
pub turns_then : (name marker : Name) (r : Reply) (s m t : FilesState) → Served name IsSyncedFrom (Ok tt) s m → Served marker IsEmptyFile r m t → Turns name marker r s t
turns_then name marker r s m t h k = record {
  done = k.done;
  turned = λ answered. record { middle = directory m; file = h.changed refl; marker_file = k.changed answered };
  cause = record {
    later = omega (arith, h.cause.later, k.cause.later);
    broken = λ is. subst (λ n. Rose n t.faults) (h.cause.whole refl) (k.cause.broken is);
    whole = λ answered. k.cause.whole answered ∙ h.cause.whole refl;
  };
}

pub turns_failed : (name marker : Name) (error : DevError) (s t : FilesState) → Served name IsSyncedFrom (Err error) s t → Turns name marker (Err error) s t
turns_failed name marker error s t h = record {
  done = h.done;
  turned = λ answered. absurd (err_apart error (h.done answered));
  cause = h.cause;
}

still_none : (name marker : Name) (o p : Option Directory) (d : Directory) → marker ≢ name → ((c : Directory) → o ≡ Some c → file_at c marker ≡ None) → ChangedWhereTold name IsSyncedFrom o p → p ≡ Some d → file_at d marker ≡ None
still_none name marker o None d apart none changed is = absurd (cc)
still_none name marker None (Some e) d apart none changed is = absurd changed
still_none name marker (Some c) (Some e) d apart none changed is = ap (λ (x : Directory). file_at x marker) (sym (same_Some e d is)) ∙ changed.others marker apart ∙ none c refl

-- the marker is missing after the sync too
pub still_missing : (to : Cond) (kind : Kind) (z : ℕ) (name : Name) (s m : FilesState) → name ≡ zone_name kind z → IsMissing s (marker_name to kind z) → Served name IsSyncedFrom (Ok tt) s m → IsMissing m (marker_name to kind z)
still_missing to kind z name s m is missing h = λ d told.
    still_none name (marker_name to kind z) (directory s) (directory m) d (λ same. marker_apart to kind kind z z (same ∙ is)) missing (h.changed refl) told

-- the calls touch what they may
pub turn_touches : (truth : Truth) (name marker : Name) (result r : Reply) (s t : FilesState) → r ≡ result → Turns name marker result s t → Touches (record { reply = Ok tt; truth = truth }) r s t
turn_touches truth name marker result r s t is turns = subst (λ (x : Reply). Touches (record { reply = Ok tt; truth = truth }) x s t) (sym is)
    (record { cause = turns.cause; named = λ broken. refl; untouched = λ error refused. absurd (err_apart error (sym refused)) })

-- ---- the zone

turned_kind : (to : Cond) (zone : Zone) → (turned_by to zone).kind ≡ zone.kind
turned_kind Good zone = refl
turned_kind ReadOnly zone = refl
turned_kind Offline zone = refl

turned_cond : (to : Cond) (zone : Zone) → (turned_by to zone).cond ≡ to
turned_cond Good zone = refl
turned_cond ReadOnly zone = refl
turned_cond Offline zone = refl

nothing_offline : (to : Cond) (zone : Zone) → IsTrue (is_offline (turned_by to zone).cond) → (turned_by to zone).bytes ≡ []
nothing_offline Good zone off = absurd (false≢true off)
nothing_offline ReadOnly zone off = absurd (false≢true off)
nothing_offline Offline zone off = refl

-- a zone that gets worse isn't offline
not_off : (cond to : Cond) → severity cond < severity to → ¬ IsTrue (is_offline cond)
not_off Good to worse off = false≢true off
not_off ReadOnly to worse off = false≢true off
not_off Offline Good worse off = omega arith
not_off Offline ReadOnly worse off = omega arith
not_off Offline Offline worse off = omega arith

-- its file, synced, is that of the zone that it becomes
turned_is : (to : Cond) (zone : Zone) (f : File) → severity zone.cond < severity to → length zone.bytes ≡ 4096 * zone.held → IsFileOf zone f → IsFileOf (turned_by to zone) (synced f)
turned_is Good zone f worse size file = absurd (omega arith)
turned_is ReadOnly zone f worse size file =
    rest_file (turned_by ReadOnly zone) (synced f) refl (λ on. file.bytes (not_off zone.cond ReadOnly worse)) (λ is. absurd (false≢true is)) (inl size) refl
turned_is Offline zone f worse size file = rest_file (turned_by Offline zone) (synced f) refl (λ on. absurd (on refl)) (λ is. absurd (false≢true is)) (inr refl) refl

-- and the length of its file may be
fit_length : (kind : Kind) (shape : Shape) (zone : Zone) (n : ℕ) → zone.kind ≡ kind → IsSoundZone true shape zone → ¬ IsTrue (is_offline zone.cond) → n ≡ 4096 * zone.held → IsTrue (is_file_length shape kind n)
fit_length Conventional shape zone n kind sound on size =
    let held : zone.held ≡ shape.zone_blocks = sound.conventional (λ seq. false≢true (sym (ap is_sequential kind) ∙ seq)) on in
    eq-eqb n (4096 * shape.zone_blocks) (omega arith)
fit_length Sequential shape zone n kind sound on size =
    let held : zone.held ≤ shape.zone_capacity = subst (λ k. zone.held ≤ room shape k) kind sound.held in
    and_from (is_in_blocks n) _ (in_blocks zone.held n size) (le-leb n (4096 * shape.zone_capacity) (omega arith))
  where
    in_blocks : (k n : ℕ) → n ≡ 4096 * k → IsTrue (is_in_blocks n)
    in_blocks k n is = grind (arith, nat_tests)

-- ---- what is kept

turned_keeps : (to : Cond) (zone : Zone) (held : ℕ) (listed : List ℕ) (z : ℕ) (old new : Kept) → held ≡ zone.held → old.unflushed.items ≡ zone.unflushed → IsKept zone.held listed z old
    → new.durable ≡ turned_durable to held → new.unflushed.items ≡ turned_flags to old.unflushed.items → new.mark ≡ synced_mark old.mark
    → (new.durable ≡ (turned_by to zone).durable) × (new.unflushed.items ≡ (turned_by to zone).unflushed) × IsKept (turned_by to zone).held listed z new
turned_keeps Good zone held listed z old new same flags is d u m = (d ∙ same, u ∙ ap cleared flags, rest_kept zone.held zone.held listed z old new (d ∙ same) u m is)
turned_keeps ReadOnly zone held listed z old new same flags is d u m = (d ∙ same, u ∙ ap cleared flags, rest_kept zone.held zone.held listed z old new (d ∙ same) u m is)
turned_keeps Offline zone held listed z old new same flags is d u m = (
  d,
  u,
  record {
    durable = λ clean. d;
    flushed = λ clean. u ∙ ap cleared (sym u);
    in_list = λ marked. is.in_list (sym (synced_clean old.mark) ∙ sym (ap is_listed m) ∙ marked);
  },
)

-- ---- the directory

marker_bytes : (c e : Option Directory) (marker : Name) (zone : ZoneFacts) (k : ℕ) → marker ≢ zone_name zone.kind k → ChangedWhereTold marker IsEmptyFile c e → bytes_seen e zone k ≡ bytes_seen c zone k
marker_bytes None None marker zone k apart changed = refl
marker_bytes None (Some e) marker zone k apart changed = absurd changed
marker_bytes (Some c) None marker zone k apart changed = absurd changed
marker_bytes (Some c) (Some e) marker zone k apart changed = ap (λ (x : Option File). if is_offline zone.cond then [] else bytes_in x) (changed.others (zone_name zone.kind k) (λ same. apart (sym same)))

marker_at : (c e : Option Directory) (marker name : Name) (zone : Zone) → marker ≢ name → ChangedWhereTold marker IsEmptyFile c e → HoldsAt c name zone → HoldsAt e name zone
marker_at None None marker name zone apart changed holds = tt
marker_at None (Some e) marker name zone apart changed holds = absurd changed
marker_at (Some c) None marker name zone apart changed holds = absurd changed
marker_at (Some c) (Some e) marker name zone apart changed holds = subst (IsFileAt zone) (sym (changed.others name (λ same. apart (sym same)))) holds

-- a marker leaves the files of zones
marker_holds : (to : Cond) (kind : Kind) (z : ℕ) (c e : Option Directory) (t : Truth) → ChangedWhereTold (marker_name to kind z) IsEmptyFile c e → HoldsWhereTold c t → HoldsWhereTold e t
marker_holds to kind z None None t changed holds = tt
marker_holds to kind z None (Some e) t changed holds = absurd changed
marker_holds to kind z (Some c) None t changed holds = absurd changed
marker_holds to kind z (Some c) (Some e) t changed holds = record {
  zones = λ k h. subst (IsFileAt (zone_at t k)) (sym (changed.others (zone_name (zone_at t k).kind k) (λ same. marker_apart to kind (zone_at t k).kind z k (sym same)))) (holds.zones k h);
}

sync_bytes : (o : Option File) → bytes_in (option_map synced o) ≡ bytes_in o
sync_bytes None = refl
sync_bytes (Some f) = refl

sync_long : (shape : Shape) (kind : Kind) (o p : Option File) → p ≡ option_map synced o → ((f : File) → o ≡ Some f → IsTrue (is_file_length shape kind (length f.bytes))) → (g : File) → p ≡ Some g → IsTrue (is_file_length shape kind (length g.bytes))
sync_long shape kind None p is long g some = absurd (cc)
sync_long shape kind (Some f) p is long g some = subst (λ (x : File). IsTrue (is_file_length shape kind (length x.bytes))) (same_Some (synced f) g (sym is ∙ some)) (long f refl)

-- the label of the zone is the one that it gets
told_frames : (shape : Shape) (labels : List Label) (label : Label) (o c e : Option Directory) (z : ℕ) → FramesWhereTold shape labels o → z < length labels → length labels ≤ 1000000 → label.kind ≡ (label_at labels z).kind
    → severity (label_at labels z).cond < severity label.cond → IsWithinLimits (record { shape = shape; kinds = map (λ (x : Label). x.kind) labels })
    → ChangedWhereTold (zone_name label.kind z) IsSyncedFrom o c → ChangedWhereTold (marker_name label.cond label.kind z) IsEmptyFile c e
    → ((d : Directory) → o ≡ Some d → IsSome (file_at d (zone_name label.kind z)))
    → ((d : Directory) (f : File) → o ≡ Some d → file_at d (zone_name label.kind z) ≡ Some f → IsTrue (is_file_length shape label.kind (length f.bytes)))
    → FramesWhereTold shape (set labels z label) e
told_frames shape labels label None None None z frames below few kind worse within synced marked there long = tt
told_frames shape labels label None None (Some e) z frames below few kind worse within synced marked there long = absurd marked
told_frames shape labels label None (Some c) e z frames below few kind worse within synced marked there long = absurd synced
told_frames shape labels label (Some d) None e z frames below few kind worse within synced marked there long = absurd synced
told_frames shape labels label (Some d) (Some c) None z frames below few kind worse within synced marked there long = absurd marked
told_frames shape labels label (Some d) (Some c) (Some e) z frames below few kind worse within synced marked there long =
    let name = zone_name label.kind z in
    let middle : Frames shape labels c = frame_put IsSyncedFrom shape labels label.kind d c z frames below few kind synced (there d refl) (λ off. ap bytes_in synced.file ∙ sync_bytes (file_at d name)) in
    frame_marked shape labels label c e z middle below few kind worse within marked (sync_long shape label.kind (file_at d name) (file_at c name) synced.file (λ f some. long d f refl some))

-- ---- the device

-- what is known of a zone that turns
pub record IsTurning (o c e : Option Directory) (m : Machine) (kepts : List Kept) (listed : List ℕ) (z : ℕ) (to : Cond) (kept : Kept) : Type 0 where
  pub device : IsSoundZloop o (facts m) kepts listed
  pub within : IsWithinLimits (geometry_in m)
  pub known : IsFound o m kepts z
  pub worse : severity (zone_at (truth_seen o (facts m) kepts) z).cond < severity to
  pub file : ChangedWhereTold (zone_name (state_at m z).kind z) IsSyncedFrom o c
  pub marker : ChangedWhereTold (marker_name to (state_at m z).kind z) IsEmptyFile c e
  pub durable : kept.durable ≡ (turned_by to (zone_at (truth_seen o (facts m) kepts) z)).durable
  pub unflushed : kept.unflushed.items ≡ (turned_by to (zone_at (truth_seen o (facts m) kepts) z)).unflushed
  pub own : IsKept (turned_by to (zone_at (truth_seen o (facts m) kepts) z)).held listed z kept

module _ (o c e : Option Directory) (m : Machine) (kepts : List Kept) (listed : List ℕ) (z : ℕ) (to : Cond) (kept : Kept) (turning : IsTurning o c e m kepts listed z to kept) where
  abbrev zone_old : Zone
  zone_old = zone_at (truth_seen o (facts m) kepts) z

  abbrev zone_new : Zone
  zone_new = turned_by to (zone_at (truth_seen o (facts m) kepts) z)

  same_kind : (state_at m z).kind ≡ zone_new.kind
  same_kind = sym turning.known.kind ∙ sym (turned_kind to zone_old)

  synced_new : ChangedWhereTold (zone_name zone_new.kind z) IsSyncedFrom o c
  synced_new = subst (λ (k : Kind). ChangedWhereTold (zone_name k z) IsSyncedFrom o c) same_kind turning.file

  marked_new : ChangedWhereTold (marker_name zone_new.cond zone_new.kind z) IsEmptyFile c e
  marked_new = subst (λ (x : Cond). ChangedWhereTold (marker_name x zone_new.kind z) IsEmptyFile c e) (sym (turned_cond to zone_old))
      (subst (λ (k : Kind). ChangedWhereTold (marker_name to k z) IsEmptyFile c e) same_kind turning.marker)

  -- the file of the zone before the marker is made
  file_middle : HoldsAt c (zone_name zone_new.kind z) zone_new
  file_middle = subst (λ (k : Kind). HoldsAt c (zone_name k z) zone_new) same_kind
      (map_at o c (zone_name (state_at m z).kind z) synced zone_old zone_new turning.known.at turning.file
      (λ told f file. turned_is to zone_old f turning.worse (size told) file))
    where
      size : is_some o ≡ true → length zone_old.bytes ≡ 4096 * zone_old.held
      size told = let sound : IsSoundZone true m.shape zone_old = subst (λ b. IsSoundZone b m.shape zone_old) told turning.known.sound in sound.bytes

  file_new : HoldsAt e (zone_name zone_new.kind z) zone_new
  file_new = marker_at c e (marker_name zone_new.cond zone_new.kind z) (zone_name zone_new.kind z) zone_new (marker_apart zone_new.cond zone_new.kind zone_new.kind z z) marked_new file_middle

  same_told : is_some e ≡ is_some o
  same_told = told_same (marker_name zone_new.cond zone_new.kind z) IsEmptyFile c e marked_new ∙ told_same (zone_name zone_new.kind z) IsSyncedFrom o c synced_new

  -- what the device then tells
  turned_seen : truth_seen e (with_facts (facts m) z (zone_facts zone_new)) (set kepts z kept) ≡ with_zone (truth_seen o (facts m) kepts) z zone_new
  turned_seen = seen_put o e (facts m) kepts z (zone_facts zone_new) kept zone_new turning.device.kept.count turning.known.below same_told
      (λ k other h apart is. marker_bytes c e (marker_name zone_new.cond zone_new.kind z) other k (marker_apart zone_new.cond zone_new.kind other.kind z k) marked_new
      ∙ other_bytes IsSyncedFrom o c zone_new.kind z k other synced_new (omega (arith, turning.known.below, turning.known.few)) (omega (arith, turning.known.few)) apart)
      (zone_put o e z zone_new kept same_told file_new (nothing_offline to zone_old) turning.durable turning.unflushed)

  turned_frames : FramesWhereTold m.shape (labels_of (with_facts (facts m) z (zone_facts zone_new))) e
  turned_frames = subst (λ (labels : List Label). FramesWhereTold m.shape labels e) (sym (map-set label_of (facts m).zones z (zone_facts zone_new)))
      (told_frames m.shape (labels_of (facts m)) (label_of (zone_facts zone_new)) o c e z turning.device.frames (omega (arith, turning.known.below, count)) (omega (arith, turning.known.few, count))
      label_kind label_worse limits synced_new marked_new there long)
    where
      count : length (labels_of (facts m)) ≡ length (facts m).zones
      count = length-map (facts m).zones label_of

      label_kind : zone_new.kind ≡ (label_at (labels_of (facts m)) z).kind
      label_kind = sym same_kind ∙ sym (ap (λ (x : ZoneFacts). x.kind) (facts_at-facts m z)) ∙ sym (ap (λ (x : Label). x.kind) (label_is (facts m) z))

      label_worse : severity (label_at (labels_of (facts m)) z).cond < severity zone_new.cond
      label_worse = subst (λ (x : Cond). severity x < severity zone_new.cond) (turning.known.cond ∙ sym (ap (λ (x : Label). x.cond) (label_is (facts m) z)))
          (subst (λ (x : Cond). severity zone_old.cond < severity x) (sym (turned_cond to zone_old)) turning.worse)

      limits : IsWithinLimits (record { shape = m.shape; kinds = map (λ (x : Label). x.kind) (labels_of (facts m)) })
      limits = subst (λ (kinds : List Kind). IsWithinLimits (record { shape = m.shape; kinds = kinds })) (kinds_in m) turning.within
        where
          kinds_in : (n : Machine) → (geometry_in n).kinds ≡ map (λ (x : Label). x.kind) (labels_of (facts n))
          kinds_in n = sym (map-map (λ (x : Label). x.kind) label_of (facts n).zones ∙ map-map (λ (x : ZoneFacts). x.kind) facts_in n.zones)

      there : (d : Directory) → o ≡ Some d → IsSome (file_at d (zone_name zone_new.kind z))
      there d is = subst (λ (k : Kind). IsSome (file_at d (zone_name k z))) same_kind (turning.known.there d is)

      long : (d : Directory) (f : File) → o ≡ Some d → file_at d (zone_name zone_new.kind z) ≡ Some f → IsTrue (is_file_length m.shape zone_new.kind (length f.bytes))
      long d f is some =
          let on = not_off zone_old.cond to turning.worse in
          let sound : IsSoundZone true m.shape zone_old = subst (λ (b : Bool). IsSoundZone b m.shape zone_old) (ap is_some is) turning.known.sound in
          let at : IsFileAt zone_old (file_at d (zone_name (state_at m z).kind z)) = subst (λ (x : Option Directory). HoldsAt x (zone_name (state_at m z).kind z) zone_old) is turning.known.at in
          let file : IsFileOf zone_old f = subst (IsFileAt zone_old) (ap (λ (k : Kind). file_at d (zone_name k z)) same_kind ∙ some) at in
          fit_length zone_new.kind m.shape zone_old (length f.bytes) (sym (turned_kind to zone_old)) sound on (ap length (file.bytes on) ∙ sound.bytes)

  turned_device : IsSoundZloop e (with_facts (facts m) z (zone_facts zone_new)) (set kepts z kept) listed
  unfolding turned
  turned_device =
      let t = truth_seen o (facts m) kepts in
      let seen_zones : length t.zones ≡ length (facts m).zones = zones-seen o (facts m) kepts turning.device.kept.count in
      let inside : z < length t.zones = omega (arith, turning.known.below) in
      record {
        kept = kept_put (facts m) kepts listed listed z (zone_facts zone_new) kept turning.device.kept turning.known.below turning.own (λ k held other apart h. h) turning.device.kept.numbers;
        sound = subst IsSound (sym turned_seen) (turned_sound t z to turning.device.sound inside turning.worse);
        holds = subst (HoldsWhereTold e) (sym turned_seen)
            (marker_holds zone_new.cond zone_new.kind z c e (with_zone t z zone_new) marked_new
            (told_put IsSyncedFrom o c t z zone_new turning.device.holds refl inside (omega (arith, turning.known.few)) synced_new file_middle));
        frames = turned_frames;
      }

  turned_facts : (n : Machine) → facts n ≡ facts_of (turned (bare (facts m)) z to) → facts n ≡ with_facts (facts m) z (zone_facts zone_new)
  unfolding turned
  turned_facts n is =
      let t = truth_seen o (facts m) kepts in
      let same : facts_of t ≡ facts m = facts_of-seen o (facts m) kepts turning.device.kept.count in
      is ∙ ap (λ (h : Facts). facts_of (turned (bare h) z to)) (sym same) ∙ sym (turned-facts t z to) ∙ facts_of-with_zone t z zone_new ∙ ap (λ (h : Facts). with_facts h z (zone_facts zone_new)) same

  pub turning_follows : (n : Machine) → facts n ≡ facts_of (turned (bare (facts m)) z to)
      → Follows (record { reply = Ok tt; truth = turned (truth_seen o (facts m) kepts) z to }) (Ok tt) e (facts n) (set kepts z kept) listed
  unfolding turned
  turning_follows n is =
      let facts_is = turned_facts n is in
      record {
        reply = λ answered. refl;
        truth = λ answered. ap (λ (h : Facts). truth_seen e h (set kepts z kept)) facts_is ∙ turned_seen;
        device = λ answered. subst (λ (h : Facts). IsSoundZloop e h (set kepts z kept) listed) (sym facts_is) turned_device;
      }

-- ---- as the code has it

pub turn_missing : (o : Option Directory) (m : Machine) (kepts : List Kept) (listed : List ℕ) (z : ℕ) (to : Cond) (kind : Kind) → IsSoundZloop o (facts m) kepts listed → IsWithinLimits (geometry_in m) → z < length (geometry_in m).kinds
    → severity (zone_at (truth_seen o (facts m) kepts) z).cond < severity to → kind ≡ (state_at m z).kind → (d : Directory) → o ≡ Some d → file_at d (marker_name to kind z) ≡ None
turn_missing o m kepts listed z to kind device within inside worse kind_is d is =
    let known = found o m kepts listed z device within inside in
    let label = label_at (labels_of (facts m)) z in
    let frames : Frames m.shape (labels_of (facts m)) d = subst (FramesWhereTold m.shape (labels_of (facts m))) is device.frames in
    let below : z < length (labels_of (facts m)) = omega (arith, known.below, length-map (facts m).zones label_of) in
    let label_kind : label.kind ≡ kind = ap (λ (x : Label). x.kind) (label_is (facts m) z) ∙ ap (λ (x : ZoneFacts). x.kind) (facts_at-facts m z) ∙ sym kind_is in
    let milder : severity label.cond < severity to = subst (λ (x : Cond). severity x < severity to) (known.cond ∙ sym (ap (λ (x : Label). x.cond) (label_is (facts m) z))) worse in
    marker_missing to label.cond kind z d milder
    (subst (λ (k : Kind). IsReadOnlyAt label.cond (file_at d (read_only_name k z))) label_kind (frames.read_only z below))
    (subst (λ (k : Kind). IsOfflineAt label.cond (file_at d (offline_name k z))) label_kind (frames.offline z below))

pub turn_worse : (o : Option Directory) (m : Machine) (kepts : List Kept) (listed : List ℕ) (z : ℕ) (to : Cond) → IsSoundZloop o (facts m) kepts listed → IsWithinLimits (geometry_in m) → z < length (geometry_in m).kinds
    → severity (zone_at (truth_seen o (facts m) kepts) z).cond < severity to → severity (cond_of (state_at m z).raw) < severity to
turn_worse o m kepts listed z to device within inside worse =
    let known = found o m kepts listed z device within inside in
    subst (λ (x : Cond). severity x < severity to) (known.cond ∙ ap (λ (x : ZoneFacts). x.cond) (facts_at-facts m z)) worse

pub turn_follows : (o e : Option Directory) (m n : Machine) (kepts : List Kept) (listed : List ℕ) (z : ℕ) (to : Cond) (name : Name) (kind : Kind) (held : ℕ) (old own : Kept) → IsSoundZloop o (facts m) kepts listed → IsWithinLimits (geometry_in m)
    → z < length (geometry_in m).kinds → severity (zone_at (truth_seen o (facts m) kepts) z).cond < severity to → facts n ≡ facts_of (turned (bare (facts m)) z to) → name ≡ zone_name (state_at m z).kind z → kind ≡ (state_at m z).kind
    → held ≡ (facts_at (facts m) z).held → old ≡ get_or kepts z old → Turned name (marker_name to kind z) o e
    → own.durable ≡ turned_durable to held → own.unflushed.items ≡ turned_flags to old.unflushed.items → own.mark ≡ synced_mark old.mark
    → Follows (record { reply = Ok tt; truth = turned (truth_seen o (facts m) kepts) z to }) (Ok tt) e (facts n) (set kepts z own) listed
turn_follows o e m n kepts listed z to name kind held old own device within inside worse facts_is name_is kind_is held_is is files d u mark =
    let known = found o m kepts listed z device within inside in
    let zone = zone_at (truth_seen o (facts m) kepts) z in
    let before : IsKept zone.held listed z old = subst (λ (h : ℕ). IsKept h listed z old) (sym known.held) (own_kept (facts m) kepts listed z old device.kept known.store is) in
    let keeps = turned_keeps to zone held listed z old own (held_is ∙ sym known.held) (sym (known.unflushed old is)) before d u mark in
    turning_follows o files.middle e m kepts listed z to own (record {
      device = device;
      within = within;
      known = known;
      worse = worse;
      file = subst (λ (x : Name). ChangedWhereTold x IsSyncedFrom o files.middle) name_is files.file;
      marker = subst (λ (k : Kind). ChangedWhereTold (marker_name to k z) IsEmptyFile files.middle e) kind_is files.marker_file;
      durable = keeps.0;
      unflushed = keeps.1;
      own = keeps.2;
    }) n facts_is
