-- All zones are made durable.
use Rattle.std.proofs.Common.{◌≡◌, inl, ℕ, zero, suc, ◌+◌, ◌*◌, ◌<◌, Bool, true, false, List, [], ◌∷◌, length, drop, replicate, map, set, get_or, Option, Some, Ok, Err, refl, sym, ap, ◌∙◌, subst, arith}
use Rattle.std.specs.Prelude.{is_some, ◌≢◌, if◌then◌else◌, IsTrue}
use Rattle.std.specs.Option.{option_map}
use Rattle.std.proofs.lemmas.Bool.Decides.{nat_tests}
use Rattle.std.proofs.lemmas.List.{length-replicate, length-map, map-set, set-get_or, get_or-map, nil_from_length, ext_get_or}
use Rattle.zn_truth.specs.declared.Kind.{Kind}
use Rattle.zn_truth.specs.declared.Shape.{Shape}
use Rattle.zn_truth.specs.Truth.{Zone, Truth, zone_at, with_zone, no_zone, seen, is_offline, cleared, IsSoundZone, IsSound}
use Rattle.zn_truth.specs.Orders.{Reply, FlushAll, flushed, effect, done}
use Rattle.zn_truth.specs.Limits.{IsWithinLimits}
use Rattle.zn_truth.proofs.Sound.{with_zone_sound, flushed_sound}
use Rattle.zn_zone.specs.Facts.{ZoneFacts, Facts, zone_facts, facts_at, with_facts}
use Rattle.zn_zone.specs.Machine.{Machine, state_at, facts, geometry_in}
use Rattle.zn_stand.specs.File.{File, synced}
use Rattle.zn_stand.specs.Directory.{Directory, file_at}
use Rattle.zn_stand.specs.ZoneNames.{zone_name}
use Rattle.zn_zloop.specs.declared.kept.Kept.{Kept}
use Rattle.zn_zloop.specs.declared.kept.Mark.{Mark}
use Rattle.zn_zloop.specs.declared.kept.Mark.TheVariants.{Clean, Listed, Changed}
use Rattle.zn_zloop.specs.Kept.{is_listed, is_changed}
use Rattle.zn_zloop.specs.Backing.{IsFileOf}
use Rattle.zn_zloop.specs.Flushed.{flushed_file, Flushes}
use Rattle.zn_zloop.specs.Seen.{bytes_in, zone_seen, truth_seen}
use Rattle.zn_zloop.specs.Served.{IsThere, ChangedWhereTold}
use Rattle.zn_zloop.specs.Holding.{has_zone, IsKept, IsSoundZloop}
use Rattle.zn_zloop.specs.Following.{Follows, Touches}
use Rattle.zn_base.specs.Causes.{Rose}
use Rattle.zn_truth.specs.declared.DevError.{DevError}
use Rattle.zn_zloop.specs.Served.{BreakCause}
use Rattle.zn_zloop.proofs.Serving.{err_apart}
use Rattle.zn_zloop.proofs.Backs.{rest_file, same_file}
use Rattle.zn_zone.specs.declared.state.State.{State}
use Rattle.zn_truth.specs.declared.ZoneInfo.{ZoneInfo}
use Rattle.zn_zone.specs.Facts.{info_of}
use Rattle.zn_stand.specs.Maps.{Name}
use Rattle.zn_files.specs.States.{FilesState, directory}
use Rattle.zn_zloop.proofs.Writing.{same_element}
use Rattle.zn_zloop.proofs.Sight.{zones-facts, facts_at-facts, zones-seen, seen_at}
use Rattle.zn_zloop.proofs.Putting.{map_still, failed_follows, HoldsAt, map_at, IsPut, IsFound, found, own_kept, truth_put, device_put}
use Rattle.zn_zloop.proofs.Managing.{good_on}

-- ---- one zone

flushed_bytes : (changed : Bool) (f : File) → (flushed_file changed f).bytes ≡ f.bytes
flushed_bytes true f = refl
flushed_bytes false f = refl

flushed_is : (changed : Bool) (shape : Shape) (zone : Zone) (f : File) → IsSoundZone true shape zone → (changed ≡ false → zone.durable ≡ zone.held) → (changed ≡ false → zone.unflushed ≡ cleared zone.unflushed) → IsFileOf zone f
    → IsFileOf (flushed zone) (flushed_file changed f)
flushed_is true shape zone f sound durable flags file = rest_file (flushed zone) (synced f) refl file.bytes (λ is. good_on zone.cond is) (inl sound.bytes) refl
flushed_is false shape zone f sound durable flags file = same_file f zone (flushed zone) refl refl refl refl (durable refl) (flags refl) file

pub seen_sound : (told : Bool) (shape : Shape) (zone : Zone) → IsSoundZone told shape zone → seen told zone ≡ zone
seen_sound true shape zone sound = refl
seen_sound false shape zone sound = ap (λ (b : List ℕ). let x : Zone = record zone { bytes = b } in x) (sym (nil_from_length zone.bytes sound.bytes))

flush_one_sound : (t : Truth) (z : ℕ) → IsSound t → z < length t.zones → IsSound (with_zone t z (flushed (zone_at t z)))
flush_one_sound t z sound below =
    let zone = flushed_sound t.told t.shape (zone_at t z) (sound.zones z below) in
    with_zone_sound t z (flushed (zone_at t z)) sound below (subst (IsSoundZone t.told t.shape) (sym (seen_sound t.told t.shape (flushed (zone_at t z)) zone)) zone) (λ is. inl is) (λ is. inl is)

cleared_twice : (flags : List Bool) → cleared flags ≡ cleared (cleared flags)
cleared_twice flags = ap (λ n. replicate n false) (sym (length-replicate (length flags) false))

flushed_twice : (zone : Zone) → flushed (flushed zone) ≡ flushed zone
flushed_twice zone = ap (λ (flags : List Bool). let x : Zone = record zone { durable = zone.held; unflushed = flags } in x) (sym (cleared_twice zone.unflushed))

-- a flush of all makes of the truth with this zone flushed what it makes of the truth
flush_again : (t : Truth) (z : ℕ) → IsSound t → z < length t.zones → effect (with_zone t z (flushed (zone_at t z))) FlushAll ≡ effect t FlushAll
flush_again t z sound below =
    let zone = flushed_sound t.told t.shape (zone_at t z) (sound.zones z below) in
    ap (λ (zones : List Zone). let u : Truth = record t { zones = zones } in u)
    (map-set flushed t.zones z (seen t.told (flushed (zone_at t z)))
    ∙ ap (λ (x : Zone). set (map flushed t.zones) z (flushed x)) (seen_sound t.told t.shape (flushed (zone_at t z)) zone)
    ∙ ap (set (map flushed t.zones) z) (flushed_twice (zone_at t z) ∙ sym (get_or-map flushed t.zones z no_zone (flushed no_zone) below))
    ∙ set-get_or (map flushed t.zones) z (flushed no_zone))

other_listed : (rest : List ℕ) (z k held : ℕ) (own : Kept) → k ≢ z → IsKept held (z ∷ rest) k own → IsKept held rest k own
other_listed rest z k held own apart is = record { durable = is.durable; flushed = is.flushed; in_list = λ marked. let there = is.in_list marked in grind (arith, nat_tests) }

flushed_kept : (held : ℕ) (rest : List ℕ) (z : ℕ) (old new : Kept) → new.durable ≡ held → new.unflushed.items ≡ cleared old.unflushed.items → new.mark ≡ Clean → IsKept held rest z new
flushed_kept held rest z old new d u m = record {
  durable = λ clean. d;
  flushed = λ clean. u ∙ cleared_twice old.unflushed.items ∙ ap cleared (sym u);
  in_list = λ marked. absurd (cc (m, marked));
}

pub flush_one : (o e : Option Directory) (m : Machine) (kepts : List Kept) (rest : List ℕ) (z : ℕ) (changed : Bool) (old new : Kept) → IsSoundZloop o (facts m) kepts (z ∷ rest) → IsWithinLimits (geometry_in m) → z < length (geometry_in m).kinds
    → old ≡ get_or kepts z old → changed ≡ is_changed old.mark → ChangedWhereTold (zone_name (state_at m z).kind z) (λ a b. b ≡ option_map (flushed_file changed) a) o e
    → new.durable ≡ (facts_at (facts m) z).held → new.unflushed.items ≡ cleared old.unflushed.items → new.mark ≡ Clean → Flushes (Ok tt) o e (facts m) kepts (set kepts z new) rest
flush_one o e m kepts rest z changed old new device within inside is changed_is served d u mark =
    let known = found o m kepts (z ∷ rest) z device within inside in
    let t = truth_seen o (facts m) kepts in
    let zone = zone_at t z in
    let own = own_kept (facts m) kepts (z ∷ rest) z old device.kept known.store is in
    let R : Option File → Option File → Type 0 = λ a b. b ≡ option_map (flushed_file changed) a in
    let same_kind : (state_at m z).kind ≡ (flushed zone).kind = sym known.kind in
    let durable : changed ≡ false → zone.durable ≡ zone.held = λ no. known.durable old is ∙ own.durable (sym changed_is ∙ no) ∙ sym known.held in
    let flags : changed ≡ false → zone.unflushed ≡ cleared zone.unflushed = λ no. known.unflushed old is ∙ own.flushed (sym changed_is ∙ no) ∙ ap cleared (sym (known.unflushed old is)) in
    let put : IsPut R o e (facts m) rest z (flushed zone) new = record {
      below = known.below;
      few = known.few;
      kind = known.kind ∙ sym (ap (λ (x : ZoneFacts). x.kind) (facts_at-facts m z));
      cond = known.cond;
      still = λ off. subst (λ k. (d b : Directory) → o ≡ Some d → e ≡ Some b → bytes_in (file_at b (zone_name k z)) ≡ bytes_in (file_at d (zone_name k z))) same_kind
          (map_still o e (zone_name (state_at m z).kind z) (flushed_file changed) (flushed_bytes changed) served);
      changed = subst (λ k. ChangedWhereTold (zone_name k z) R o e) same_kind served;
      file = subst (λ k. HoldsAt e (zone_name k z) (flushed zone)) same_kind
          (map_at o e (zone_name (state_at m z).kind z) (flushed_file changed) zone (flushed zone) known.at served
          (λ told f file. flushed_is changed m.shape zone f (subst (λ b. IsSoundZone b m.shape zone) told known.sound) durable flags file));
      offline = λ off. none_held zone known.sound off;
      durable = d ∙ sym known.held;
      unflushed = u ∙ ap cleared (sym (known.unflushed old is));
      own = flushed_kept zone.held rest z old new (d ∙ sym known.held) u mark;
    } in
    let count = device.kept.count in
    let below : z < length t.zones = omega (arith, zones-seen o (facts m) kepts count, known.below) in
    let same : with_facts (facts m) z (zone_facts (flushed zone)) ≡ facts m = facts_stay o m kepts z count known in
    let numbers : (i : ℕ) → i < length rest → get_or rest i 0 < length kepts = λ i h. device.kept.numbers (suc i) (omega arith) in
    record {
      done = λ answered. refl;
      device = λ answered. subst (λ f. IsSoundZloop e f (set kepts z new) rest) same
          (device_put R o e (facts m) kepts (z ∷ rest) rest z (flushed zone) new device put (λ k held kept apart h. other_listed rest z k held kept apart h) numbers (flush_one_sound t z device.sound below));
      same = λ answered. ap (λ (u : Truth). effect u FlushAll) (ap (λ f. truth_seen e f (set kepts z new)) (sym same) ∙ truth_put R o e (facts m) kepts rest z (flushed zone) new count put) ∙ flush_again t z device.sound below;
    }
  where
    none_held : (zone : Zone) → IsSoundZone (is_some o) m.shape zone → IsTrue (is_offline zone.cond) → zone.bytes ≡ []
    none_held zone sound off = let none = sound.offline off in nil_from_length zone.bytes (sound.bytes ∙ none_at (is_some o) none)
      where
        none_at : (b : Bool) → zone.held ≡ 0 → (if b then 4096 * zone.held else 0) ≡ 0
        none_at true none = omega arith
        none_at false none = refl

    facts_stay : (o : Option Directory) (m : Machine) (kepts : List Kept) (z : ℕ) → length kepts ≡ length (facts m).zones → IsFound o m kepts z → with_facts (facts m) z (zone_facts (flushed (zone_at (truth_seen o (facts m) kepts) z))) ≡ facts m
    facts_stay o m kepts z count known = ap (with_facts (facts m) z) (zone_is kepts count) ∙ ap (λ (zones : List ZoneFacts). let f : Facts = record { shape = m.shape; zones = zones } in f) (set-get_or (facts m).zones z (zone_facts no_zone))
      where
        zone_is : (all : List Kept) → length all ≡ length (facts m).zones → zone_facts (zone_at (truth_seen o (facts m) all) z) ≡ facts_at (facts m) z
        zone_is [] h = absurd (omega (arith, known.below))
        zone_is (kept ∷ others) h = ap zone_facts (seen_at o (facts m) (kept ∷ others) z kept h known.below)

-- ---- all zones

-- where no zone is in the list any more, all is durable
all_flushed : (o : Option Directory) (f : Facts) (kepts : List Kept) → IsSoundZloop o f kepts [] → effect (truth_seen o f kepts) FlushAll ≡ truth_seen o f kepts
all_flushed o f kepts device =
    let t = truth_seen o f kepts in
    ap (λ (zones : List Zone). let u : Truth = record t { zones = zones } in u)
    (ext_get_or no_zone (map flushed t.zones) t.zones (length-map t.zones flushed) (λ k h.
    let below : k < length t.zones = omega (arith, length-map t.zones flushed) in
    get_or-map flushed t.zones k no_zone no_zone below ∙ clean k below kepts refl))
  where
    unlisted : (mark : Mark) → (is_listed mark ≡ true → IsTrue (has_zone [] 0)) → is_changed mark ≡ false
    unlisted Clean h = refl
    unlisted Listed h = refl
    unlisted Changed h = absurd (cc (h refl))

    clean : (k : ℕ) → k < length (truth_seen o f kepts).zones → (all : List Kept) → kepts ≡ all → flushed (zone_at (truth_seen o f kepts) k) ≡ zone_at (truth_seen o f kepts) k
    clean k below [] is = absurd (omega (arith, zones-seen o f kepts device.kept.count, device.kept.count, ap length is))
    clean k below (first ∷ others) is =
        let inside : k < length f.zones = omega (arith, zones-seen o f kepts device.kept.count) in
        let kept = get_or kepts k first in
        let own = device.kept.each k first (omega (arith, device.kept.count)) in
        let no = unlisted kept.mark (λ marked. own.in_list marked) in
        let zone_is = seen_at o f kepts k first device.kept.count inside in
        ap flushed zone_is ∙ flat (facts_at f k) kept (own.durable no) (own.flushed no) ∙ sym zone_is
      where
        flat : (x : ZoneFacts) (own : Kept) → own.durable ≡ x.held → own.unflushed.items ≡ cleared own.unflushed.items → flushed (zone_seen o k x own) ≡ zone_seen o k x own
        flat x own durable flags = λ i. record (zone_seen o k x own) { durable = sym durable i; unflushed = sym flags i }

pub flush_follows : (o e : Option Directory) (f : Facts) (kepts new : List Kept) → IsSoundZloop e f new [] → effect (truth_seen e f new) FlushAll ≡ effect (truth_seen o f kepts) FlushAll → Follows (done (truth_seen o f kepts) FlushAll) (Ok tt) e f new []
unfolding done
flush_follows o e f kepts new device same = record {
  reply = λ answered. refl;
  truth = λ answered. sym (all_flushed e f new device) ∙ same;
  device = λ answered. device;
}

pub flush_reply : (t : Truth) → (done t FlushAll).reply ≡ Ok tt
unfolding done
flush_reply t = refl

-- ---- a place of the list

pub drop_at : (listed : List ℕ) (i z : ℕ) → i < length listed → z ≡ get_or listed i z → drop i listed ≡ z ∷ drop (i + 1) listed
drop_at [] i z h is = absurd (omega arith)
drop_at (first ∷ listed) zero z h is = ap (λ k. k ∷ listed) (sym is)
drop_at (first ∷ listed) (suc i) z h is = let e : suc (i + 1) ≡ suc i + 1 = omega arith in drop_at listed i z (omega arith) is ∙ ap (λ (n : ℕ). z ∷ drop n (first ∷ listed)) e

pub flush_inside : (o : Option Directory) (m : Machine) (kepts : List Kept) (listed : List ℕ) (i z : ℕ) → IsSoundZloop o (facts m) kepts (drop i listed) → i < length listed → z ≡ get_or listed i z
    → (z < length kepts) × (z < length m.zones) × (z < length (geometry_in m).kinds)
flush_inside o m kepts listed i z device h is =
    let at = drop_at listed i z h is in
    let first : z < length kepts = subst (λ (l : List ℕ). get_or l 0 0 < length kepts) at (device.kept.numbers 0 (subst (λ (l : List ℕ). 0 < length l) (sym at) (omega arith))) in
    (first, omega (arith, device.kept.count, zones-facts m), omega (arith, device.kept.count, zones-facts m, length-map m.zones (λ (zone : State). zone.kind)))

pub flush_there : (s : FilesState) (m : Machine) (kepts : List Kept) (listed : List ℕ) (i z : ℕ) (name : Name) (kind : Kind) → IsSoundZloop (directory s) (facts m) kepts (drop i listed) → IsWithinLimits (geometry_in m) → i < length listed → z ≡ get_or listed i z
    → name ≡ zone_name kind z → kind ≡ (state_at m z).kind → IsThere s name
flush_there s m kepts listed i z name kind device within h is name_is kind_is =
    let inside = flush_inside (directory s) m kepts listed i z device h is in
    subst (IsThere s) (sym (name_is ∙ ap (λ k. zone_name k z) kind_is)) (found (directory s) m kepts (drop i listed) z device within inside.2).there

pub flush_as : (o e : Option Directory) (m : Machine) (kepts : List Kept) (listed : List ℕ) (i z : ℕ) (name : Name) (kind : Kind) (changed : Bool) (info : ZoneInfo) (seen_kept old new : Kept) → IsSoundZloop o (facts m) kepts (drop i listed)
    → IsWithinLimits (geometry_in m) → i < length listed → z ≡ get_or listed i z → name ≡ zone_name kind z → kind ≡ (state_at m z).kind → seen_kept ≡ get_or kepts z seen_kept → old ≡ get_or kepts z old → changed ≡ is_changed seen_kept.mark
    → ChangedWhereTold name (λ a b. b ≡ option_map (flushed_file changed) a) o e → info ≡ info_of (facts_at (facts m) z) → new.durable ≡ info.held → new.unflushed.items ≡ cleared old.unflushed.items → new.mark ≡ Clean
    → Flushes (Ok tt) o e (facts m) kepts (set kepts z new) (drop (i + 1) listed)
flush_as o e m kepts listed i z name kind changed info seen_kept old new device within h is name_is kind_is was old_is changed_is served info_is d u mark =
    let inside = flush_inside o m kepts listed i z device h is in
    flush_one o e m kepts (drop (i + 1) listed) z changed old new (subst (IsSoundZloop o (facts m) kepts) (drop_at listed i z h is) device) within inside.2 old_is
    (changed_is ∙ ap (λ (k : Kept). is_changed k.mark) (same_element kepts z seen_kept old inside.0 was old_is))
    (subst (λ (x : Name). ChangedWhereTold x (λ a b. b ≡ option_map (flushed_file changed) a) o e) (name_is ∙ ap (λ k. zone_name k z) kind_is) served)
    (d ∙ ap (λ (x : ZoneInfo). x.held) info_is) u mark

pub flush_failed : (o e : Option Directory) (f : Facts) (kepts new : List Kept) (listed rest : List ℕ) (before : List Kept) (p : Option Directory) (error : DevError) (r : Reply) → r ≡ Err error → Flushes (Err error) p e f before new rest
    → Follows (done (truth_seen o f kepts) FlushAll) r e f new listed
flush_failed o e f kepts new listed rest before p error r is h =
    subst (λ (x : Reply). Follows (done (truth_seen o f kepts) FlushAll) x e f new listed) (sym is) (failed_follows (done (truth_seen o f kepts) FlushAll) error e f new listed (λ answered. err_apart error (h.done answered)))

pub flush_touches : (t : Truth) (r : Reply) (old middle new : FilesState) → middle.faults ≡ old.faults → BreakCause r middle.faults new.faults → Touches (done t FlushAll) r old new
flush_touches t r old middle new still cause = record {
  cause = record {
    later = omega (arith, cause.later);
    broken = λ is. subst (λ n. Rose n new.faults) still (cause.broken is);
    whole = λ answered. cause.whole answered ∙ still;
  };
  named = λ is. flush_reply t;
  untouched = λ error refused. absurd (err_apart error (sym refused ∙ flush_reply t));
}
