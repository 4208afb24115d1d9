-- A conventional zone is scrubbed.
use Rattle.std.proofs.Common.{◌≡◌, inl, ℕ, zero, suc, ◌*◌, ◌<◌, ◌≤◌, Bool, true, false, List, [], ◌++◌, length, take, drop, replicate, set, get_or, Option, Some, None, Ok, refl, sym, ap, ◌∙◌, subst, arith}
use Rattle.std.specs.Prelude.{is_some, if◌then◌else◌, IsTrue}
use Rattle.std.specs.Option.{option_map}
use Rattle.std.proofs.lemmas.Bool.Decides.{nat_tests}
use Rattle.std.proofs.lemmas.Grind.{common_steps}
use Rattle.std.proofs.lemmas.List.{take-append-drop, set-get_or, nil_from_length}
use Rattle.std.proofs.lemmas.Option.{same_Some}
use Rattle.zn_truth.specs.declared.Kind.{Kind}
use Rattle.zn_truth.specs.declared.Kind.TheVariants.{Conventional, Sequential}
use Rattle.zn_truth.specs.declared.Shape.{Shape}
use Rattle.zn_truth.specs.declared.ZoneInfo.{ZoneInfo}
use Rattle.zn_truth.specs.Truth.{Zone, Truth, zone_at, no_zone, with_zone, seen, kind_at, room, is_offline, is_sequential, cleared, IsSoundZone, IsSound}
use Rattle.zn_truth.specs.Power.{with_filled_blocks, with_fill_unflushed}
use Rattle.zn_truth.specs.Limits.{IsWithinLimits}
use Rattle.zn_truth.proofs.Sound.{with_zone_sound}
use Rattle.zn_truth.proofs.SoundLoss.{length-with_fill_unflushed}
use Rattle.zn_zone.specs.Facts.{ZoneFacts, Facts, zone_facts, facts_at, with_facts, info_of}
use Rattle.zn_zone.specs.Machine.{Machine, state_at, facts, geometry_in}
use Rattle.zn_device.specs.Harms.{scrubbed}
use Rattle.zn_stand.specs.File.{File}
use Rattle.zn_stand.specs.Maps.{Name}
use Rattle.zn_stand.specs.Directory.{Directory, file_at}
use Rattle.zn_stand.specs.ZoneNames.{zone_name}
use Rattle.zn_zloop.specs.declared.kept.Kept.{Kept}
use Rattle.zn_zloop.specs.Kept.{is_changed, synced_mark}
use Rattle.zn_zloop.specs.Seen.{bytes_in, truth_seen}
use Rattle.zn_zloop.specs.Served.{ChangedWhereTold}
use Rattle.zn_zloop.specs.Backing.{IsFileOf, IsFileAt}
use Rattle.zn_zloop.specs.Holding.{IsKept, IsSoundZloop}
use Rattle.zn_zloop.specs.Following.{Follows}
use Rattle.zn_zloop.specs.Settled.{scrubbed_file}
use Rattle.zn_zloop.proofs.Backs.{rest_file, same_file}
use Rattle.zn_zloop.proofs.Sight.{facts_at-facts, zones-seen, kind_in}
use Rattle.zn_zloop.proofs.Putting.{HoldsAt, map_at, map_still, IsPut, IsFound, found, own_kept}
use Rattle.zn_zloop.proofs.Managing.{good_on, rest_kept}
use Rattle.zn_zloop.proofs.Writing.{same_element}
use Rattle.zn_zloop.proofs.Settling.{seen_facts, harm_follows, none_held}

-- ---- bytes

-- no block without a flag is filled
none_filled : (byte n : ℕ) (b : List ℕ) → with_filled_blocks byte (replicate n false) b ≡ b
none_filled byte zero b = refl
none_filled byte (suc n) b = ap (λ r. take 4096 b ++ r) (none_filled byte n (drop 4096 b)) ∙ take-append-drop 4096 b

clear_stays : (fill : Option ℕ) (flags : List Bool) (b : List ℕ) → flags ≡ cleared flags → with_fill_unflushed fill flags b ≡ b
clear_stays None flags b clear = refl
clear_stays (Some byte) flags b clear = ap (λ (fs : List Bool). with_filled_blocks byte fs b) clear ∙ none_filled byte (length flags) b

-- ---- the file

-- the zone's file is then that of the zone that is meant
scrubbed_is : (changed : Bool) (shape : Shape) (zone : Zone) (f : File) (flags : List Bool) (fill : Option ℕ) → IsSoundZone true shape zone → ¬ IsTrue (is_sequential zone.kind) → flags ≡ zone.unflushed
    → (changed ≡ false → zone.unflushed ≡ cleared zone.unflushed) → IsFileOf zone f → IsFileOf (scrubbed zone fill) (scrubbed_file changed flags fill f)
scrubbed_is true shape zone f flags fill sound kind same clear file =
    rest_file (scrubbed zone fill) (scrubbed_file true flags fill f) refl
    (λ on. ap (λ (fs : List Bool). with_fill_unflushed fill fs f.bytes) same ∙ ap (with_fill_unflushed fill zone.unflushed) (file.bytes on)) (λ is. good_on zone.cond is)
    (inl (length-with_fill_unflushed fill zone.unflushed zone.bytes ∙ sound.bytes)) (sound.whole kind)
scrubbed_is false shape zone f flags fill sound kind same clear file =
    same_file f zone (scrubbed zone fill) refl refl (sym (clear_stays fill zone.unflushed zone.bytes (clear refl))) refl refl (clear refl) file

-- ---- the zone

conventional : (k : Kind) → k ≡ Conventional → ¬ IsTrue (is_sequential k)
conventional Conventional is seq = cc
conventional Sequential is seq = cc

flags_held : (told : Bool) (shape : Shape) (zone : Zone) → IsSoundZone told shape zone → zone.kind ≡ Conventional → length zone.unflushed ≡ zone.held
flags_held told shape zone sound kind = sound.flags ∙ ap (λ k. if is_sequential k then 0 else zone.held) kind

-- the bytes of an offline zone's file stay
unflushed_none : (told : Bool) (shape : Shape) (zone : Zone) → IsSoundZone told shape zone → zone.kind ≡ Conventional → IsTrue (is_offline zone.cond) → zone.unflushed ≡ []
unflushed_none told shape zone sound kind off = nil_from_length zone.unflushed (flags_held told shape zone sound kind ∙ sound.offline off)

none_scrubbed : (fill : Option ℕ) (b : List ℕ) → with_fill_unflushed fill [] b ≡ b
none_scrubbed None b = refl
none_scrubbed (Some byte) b = refl

still_scrubbed : (changed : Bool) (flags : List Bool) (fill : Option ℕ) → flags ≡ [] → (f : File) → (scrubbed_file changed flags fill f).bytes ≡ f.bytes
still_scrubbed true flags fill none f = ap (λ (fs : List Bool). with_fill_unflushed fill fs f.bytes) none ∙ none_scrubbed fill f.bytes
still_scrubbed false flags fill none f = refl

scrubbed_sound : (told : Bool) (shape : Shape) (zone : Zone) (fill : Option ℕ) → IsSoundZone told shape zone → zone.kind ≡ Conventional → IsSoundZone told shape (seen told (scrubbed zone fill))
scrubbed_sound told shape zone fill sound kind =
    let filled = length-with_fill_unflushed fill zone.unflushed zone.bytes in
    grind (arith, nat_tests, common_steps)

scrub_sound : (t : Truth) (z : ℕ) (fill : Option ℕ) → IsSound t → z < length t.zones → (zone_at t z).kind ≡ Conventional → IsSound (with_zone t z (scrubbed (zone_at t z) fill))
scrub_sound t z fill sound below kind = with_zone_sound t z (scrubbed (zone_at t z) fill) sound below (scrubbed_sound t.told t.shape (zone_at t z) fill (sound.zones z below) kind) inl inl

abbrev pub FileScrubbed : Bool → List Bool → Option ℕ → Option File → Option File → Type 0
FileScrubbed changed flags fill a b = b ≡ option_map (scrubbed_file changed flags fill) a

scrub_put : (o e : Option Directory) (m : Machine) (kepts : List Kept) (listed : List ℕ) (z : ℕ) (fill : Option ℕ) (old new : Kept) → IsSoundZloop o (facts m) kepts listed → IsFound o m kepts z
    → (zone_at (truth_seen o (facts m) kepts) z).kind ≡ Conventional → old ≡ get_or kepts z old → ChangedWhereTold (zone_name (state_at m z).kind z) (FileScrubbed (is_changed old.mark) old.unflushed.items fill) o e
    → new.durable ≡ (zone_at (truth_seen o (facts m) kepts) z).held → new.unflushed.items ≡ cleared old.unflushed.items → new.mark ≡ synced_mark old.mark
    → IsPut (FileScrubbed (is_changed old.mark) old.unflushed.items fill) o e (facts m) listed z (scrubbed (zone_at (truth_seen o (facts m) kepts) z) fill) new
scrub_put o e m kepts listed z fill old new device known conv is served d u mark =
    let zone = zone_at (truth_seen o (facts m) kepts) z in
    let changed = is_changed old.mark in
    let flags = old.unflushed.items in
    let R : Option File → Option File → Type 0 = FileScrubbed changed flags fill in
    let kind = conventional zone.kind conv in
    let own : IsKept (facts_at (facts m) z).held listed z old = own_kept (facts m) kepts listed z old device.kept known.store is in
    let before : IsKept zone.held listed z old = subst (λ n. IsKept n listed z old) (sym known.held) own in
    let same : flags ≡ zone.unflushed = sym (known.unflushed old is) in
    let clear : changed ≡ false → zone.unflushed ≡ cleared zone.unflushed = λ no. sym same ∙ before.flushed no ∙ ap cleared same in
    record {
      below = known.below;
      few = known.few;
      kind = known.kind ∙ sym (ap (λ (x : ZoneFacts). x.kind) (facts_at-facts m z));
      cond = known.cond;
      still = λ off. subst (λ k. (d b : Directory) → o ≡ Some d → e ≡ Some b → bytes_in (file_at b (zone_name k z)) ≡ bytes_in (file_at d (zone_name k z))) (sym known.kind)
          (map_still o e (zone_name (state_at m z).kind z) (scrubbed_file changed flags fill) (still_scrubbed changed flags fill (same ∙ unflushed_none (is_some o) m.shape zone known.sound conv off)) served);
      changed = subst (λ k. ChangedWhereTold (zone_name k z) R o e) (sym known.kind) served;
      file = subst (λ k. HoldsAt e (zone_name k z) (scrubbed zone fill)) (sym known.kind)
          (map_at o e (zone_name (state_at m z).kind z) (scrubbed_file changed flags fill) zone (scrubbed zone fill) known.at served
          (λ told f file. scrubbed_is changed m.shape zone f flags fill (subst (λ b. IsSoundZone b m.shape zone) told known.sound) kind same clear file));
      offline = λ off. nil_from_length (with_fill_unflushed fill zone.unflushed zone.bytes) (length-with_fill_unflushed fill zone.unflushed zone.bytes ∙ none_held (is_some o) m.shape zone known.sound off);
      durable = d ∙ sym (known.sound.whole kind);
      unflushed = u ∙ ap cleared same;
      own = rest_kept zone.held zone.held listed z old new d u mark before;
    }

-- ---- the harm

-- facts that a zone has already change nothing
facts_stay : (f : Facts) (z : ℕ) (zone : ZoneFacts) → zone ≡ facts_at f z → f ≡ with_facts f z zone
facts_stay f z zone is =
    sym (ap (with_facts f z) is ∙ ap (λ (zones : List ZoneFacts). let g : Facts = record { shape = f.shape; zones = zones } in g) (set-get_or f.zones z (zone_facts no_zone)))

pub scrub_follows : (o e : Option Directory) (m : Machine) (kepts : List Kept) (listed : List ℕ) (z : ℕ) (fill : Option ℕ) (name : Name) (info : ZoneInfo) (was seen_kept old new : Kept) → IsSoundZloop o (facts m) kepts listed → IsWithinLimits (geometry_in m)
    → z < length (geometry_in m).kinds → kind_at (geometry_in m) z ≡ Conventional → name ≡ zone_name (state_at m z).kind z → was ≡ get_or kepts z was → seen_kept ≡ get_or kepts z seen_kept → old ≡ get_or kepts z old → info ≡ info_of (facts_at (facts m) z)
    → ChangedWhereTold name (FileScrubbed (is_changed was.mark) seen_kept.unflushed.items fill) o e → new.durable ≡ info.held → new.unflushed.items ≡ cleared old.unflushed.items → new.mark ≡ synced_mark old.mark
    → Follows (record { reply = Ok tt; truth = with_zone (truth_seen o (facts m) kepts) z (scrubbed (zone_at (truth_seen o (facts m) kepts) z) fill) }) (Ok tt) e (facts m) (set kepts z new) listed
scrub_follows o e m kepts listed z fill name info was seen_kept old new device within inside kind name_is was_is seen_is old_is info_is served d u mark =
    let t = truth_seen o (facts m) kepts in
    let zone = zone_at t z in
    let known = found o m kepts listed z device within inside in
    let conv : zone.kind ≡ Conventional = known.kind ∙ sym (kind_in m z) ∙ kind in
    let first : was ≡ old = same_element kepts z was old known.store was_is old_is in
    let second : seen_kept ≡ old = same_element kepts z seen_kept old known.store seen_is old_is in
    let named : ChangedWhereTold (zone_name (state_at m z).kind z) (FileScrubbed (is_changed was.mark) seen_kept.unflushed.items fill) o e =
    subst (λ (x : Name). ChangedWhereTold x (FileScrubbed (is_changed was.mark) seen_kept.unflushed.items fill) o e) name_is served in
    let marked : ChangedWhereTold (zone_name (state_at m z).kind z) (FileScrubbed (is_changed old.mark) seen_kept.unflushed.items fill) o e =
    subst (λ (k : Kept). ChangedWhereTold (zone_name (state_at m z).kind z) (FileScrubbed (is_changed k.mark) seen_kept.unflushed.items fill) o e) first named in
    let changed : ChangedWhereTold (zone_name (state_at m z).kind z) (FileScrubbed (is_changed old.mark) old.unflushed.items fill) o e =
    subst (λ (k : Kept). ChangedWhereTold (zone_name (state_at m z).kind z) (FileScrubbed (is_changed old.mark) k.unflushed.items fill) o e) second marked in
    let held : new.durable ≡ zone.held = d ∙ ap (λ (x : ZoneInfo). x.held) info_is ∙ sym known.held in
    harm_follows (FileScrubbed (is_changed old.mark) old.unflushed.items fill) o e (facts m) (facts m) kepts listed z (scrubbed zone fill) new device
    (scrub_put o e m kepts listed z fill old new device known conv old_is changed held u mark)
    (scrub_sound t z fill device.sound (omega (arith, zones-seen o (facts m) kepts device.kept.count, known.below)) conv)
    (facts_stay (facts m) z (zone_facts (scrubbed zone fill)) (seen_facts o (facts m) kepts z device.kept.count))

-- ---- what the fill asks for

-- where it is told, the file has as many blocks as there are flags
blocks_within : (o : Option Directory) (name : Name) (zone : Zone) (n : ℕ) → HoldsAt o name zone → (is_some o ≡ true → (x : File) → IsFileOf zone x → 4096 * n ≤ length x.bytes)
    → (d : Directory) (x : File) → o ≡ Some d → file_at d name ≡ Some x → 4096 * n ≤ length x.bytes
blocks_within None name zone n holds each d x is there = absurd (cc)
blocks_within (Some e) name zone n holds each d x is there = each refl x (subst (IsFileAt zone) (ap (λ (y : Directory). file_at y name) (same_Some e d is) ∙ there) holds)

reaches : (shape : Shape) (zone : Zone) (n : ℕ) (x : File) → n ≡ zone.held → IsSoundZone true shape zone → IsFileOf zone x → 4096 * n ≤ length x.bytes
reaches shape zone n x is sound file = either (is_offline zone.cond) refl
  where
    either : (b : Bool) → is_offline zone.cond ≡ b → 4096 * n ≤ length x.bytes
    either true off = let none = sound.offline off in omega arith
    either false on = let same = file.bytes (λ off. absurd (cc (off, on))) in omega (arith, ap length same, sound.bytes)

pub scrub_within : (o : Option Directory) (m : Machine) (kepts : List Kept) (listed : List ℕ) (z : ℕ) (old : Kept) → IsSoundZloop o (facts m) kepts listed → IsWithinLimits (geometry_in m) → z < length (geometry_in m).kinds
    → kind_at (geometry_in m) z ≡ Conventional → old ≡ get_or kepts z old → (d : Directory) (x : File) → o ≡ Some d → file_at d (zone_name (state_at m z).kind z) ≡ Some x → 4096 * length old.unflushed.items ≤ length x.bytes
scrub_within o m kepts listed z old device within inside kind is =
    let known = found o m kepts listed z device within inside in
    let zone = zone_at (truth_seen o (facts m) kepts) z in
    let conv : zone.kind ≡ Conventional = known.kind ∙ sym (kind_in m z) ∙ kind in
    let flags : length old.unflushed.items ≡ zone.held = sym (ap length (known.unflushed old is)) ∙ flags_held (is_some o) m.shape zone known.sound conv in
    blocks_within o (zone_name (state_at m z).kind z) zone (length old.unflushed.items) known.at (λ told x file. reaches m.shape zone (length old.unflushed.items) x flags (subst (λ b. IsSoundZone b m.shape zone) told known.sound) file)

pub few_flags : (o : Option Directory) (m : Machine) (kepts : List Kept) (listed : List ℕ) (z : ℕ) (old : Kept) → IsSoundZloop o (facts m) kepts listed → IsWithinLimits (geometry_in m) → z < length (geometry_in m).kinds
    → kind_at (geometry_in m) z ≡ Conventional → old ≡ get_or kepts z old → length old.unflushed.items ≤ 65536
few_flags o m kepts listed z old device within inside kind is =
    let known = found o m kepts listed z device within inside in
    let zone = zone_at (truth_seen o (facts m) kepts) z in
    let conv : zone.kind ≡ Conventional = known.kind ∙ sym (kind_in m z) ∙ kind in
    let flags : length old.unflushed.items ≡ zone.held = sym (ap length (known.unflushed old is)) ∙ flags_held (is_some o) m.shape zone known.sound conv in
    let most : zone.held ≤ room m.shape Conventional = subst (λ k. zone.held ≤ room m.shape k) conv known.sound.held in
    omega (arith, within.size)
