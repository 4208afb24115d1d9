-- A sequential zone is settled.
use Rattle.std.proofs.Common.{◌≡◌, inl, ℕ, ◌-◌, ◌*◌, ◌<◌, ◌≤◌, Bool, true, false, List, [], ◌++◌, length, take, replicate, set, get_or, Option, Some, Ok, refl, sym, ap, ◌∙◌, subst, arith}
use Rattle.std.specs.Prelude.{is_some, ◌==◌, if◌then◌else◌, IsTrue}
use Rattle.std.specs.Option.{option_map}
use Rattle.std.proofs.lemmas.Bool.Decides.{nat_tests}
use Rattle.std.proofs.lemmas.List.{length-take, length-take-le, take_all, append-nil, nil_from_length}
use Rattle.zn_truth.specs.declared.Kind.{Kind}
use Rattle.zn_truth.specs.declared.Kind.TheVariants.{Sequential}
use Rattle.zn_truth.specs.declared.Shape.{Shape}
use Rattle.zn_truth.specs.declared.ZoneInfo.{ZoneInfo}
use Rattle.zn_truth.specs.Truth.{Zone, zone_at, with_zone, is_good, is_offline, is_sequential, cleared, IsSoundZone, IsSound}
use Rattle.zn_truth.specs.Power.{with_fill, settled}
use Rattle.zn_truth.specs.Limits.{IsWithinLimits}
use Rattle.zn_truth.specs.Obeying.{IsZoneToManage}
use Rattle.zn_truth.proofs.SoundLoss.{length-with_fill}
use Rattle.zn_truth.proofs.SoundIssue.{settle_sound}
use Rattle.zn_zone.specs.declared.Raw.{Raw}
use Rattle.zn_zone.specs.declared.Raw.TheVariants.{Full}
use Rattle.zn_zone.specs.Facts.{ZoneFacts, Facts, zone_facts, facts_at, with_facts, with_held, info_of}
use Rattle.zn_zone.specs.Machine.{Machine, state_at, facts, geometry_in, fits, IsSoundMachine}
use Rattle.zn_zone.proofs.Truths.{facts_at-zone}
use Rattle.zn_stand.specs.File.{File, resized}
use Rattle.zn_stand.specs.Maps.{Name}
use Rattle.zn_stand.specs.Directory.{Directory, file_at}
use Rattle.zn_stand.specs.ZoneNames.{zone_name}
use Rattle.zn_zloop.specs.declared.kept.Kept.{Kept}
use Rattle.zn_zloop.specs.Kept.{synced_mark}
use Rattle.zn_zloop.specs.Seen.{bytes_in, truth_seen}
use Rattle.zn_zloop.specs.Served.{ChangedWhereTold}
use Rattle.zn_zloop.specs.Backing.{IsFileOf}
use Rattle.zn_zloop.specs.Holding.{IsKept, IsSoundZloop}
use Rattle.zn_zloop.specs.Following.{Follows}
use Rattle.zn_zloop.specs.Settled.{cut_file, settled_file}
use Rattle.zn_zloop.proofs.Backs.{rest_file, same_file}
use Rattle.zn_zloop.proofs.Sight.{facts_of-seen, facts_at-facts, zones-seen, kind_in}
use Rattle.zn_zloop.proofs.Putting.{HoldsAt, map_at, map_still, IsPut, IsFound, found, own_kept, truth_put, device_put}
use Rattle.zn_zloop.proofs.Managing.{good_on, rest_kept}
use Rattle.zn_zloop.proofs.Filling.{fill_past}

-- ---- a harm that changes one zone

-- the facts of a zone are the machine's
pub seen_facts : (o : Option Directory) (f : Facts) (kepts : List Kept) (z : ℕ) → length kepts ≡ length f.zones → zone_facts (zone_at (truth_seen o f kepts) z) ≡ facts_at f z
seen_facts o f kepts z count = sym (facts_at-zone (truth_seen o f kepts) z) ∙ ap (λ (g : Facts). facts_at g z) (facts_of-seen o f kepts count)

pub harm_follows : (R : Option File → Option File → Type 0) (o e : Option Directory) (f g : Facts) (kepts : List Kept) (listed : List ℕ) (z : ℕ) (zone : Zone) (kept : Kept) → IsSoundZloop o f kepts listed → IsPut R o e f listed z zone kept
    → IsSound (with_zone (truth_seen o f kepts) z zone) → g ≡ with_facts f z (zone_facts zone) → Follows (record { reply = Ok tt; truth = with_zone (truth_seen o f kepts) z zone }) (Ok tt) e g (set kepts z kept) listed
harm_follows R o e f g kepts listed z zone kept device put sound is = record {
  reply = λ answered. refl;
  truth = λ answered. ap (λ h. truth_seen e h (set kepts z kept)) is ∙ truth_put R o e f kepts listed z zone kept device.kept.count put;
  device = λ answered. subst (λ h. IsSoundZloop e h (set kepts z kept) listed) (sym is) (device_put R o e f kepts listed listed z zone kept device put (λ k held own apart h. h) device.kept.numbers sound);
}

-- a zone that is offline has no bytes
pub none_held : (told : Bool) (shape : Shape) (zone : Zone) → IsSoundZone told shape zone → IsTrue (is_offline zone.cond) → length zone.bytes ≡ 0
none_held true shape zone sound off = let none = sound.offline off in omega (arith, sound.bytes)
none_held false shape zone sound off = sound.bytes

-- ---- the file

-- a file that is cut to blocks that it has
cut_bytes : (f : File) (zone : Zone) (len : ℕ) → f.bytes ≡ zone.bytes → length zone.bytes ≡ 4096 * zone.held → len ≤ zone.held → (resized f (4096 * len)).bytes ≡ take (4096 * len) zone.bytes
cut_bytes f zone len same size most =
    let none : 4096 * len - length f.bytes ≡ 0 = omega (arith, ap length same) in
    ap (λ k. take (4096 * len) f.bytes ++ replicate k 0) none ∙ append-nil (take (4096 * len) f.bytes) ∙ ap (take (4096 * len)) same

-- where all is durable, nothing is cut or filled
whole_bytes : (zone : Zone) (from len : ℕ) (fill : Option ℕ) → length zone.bytes ≡ 4096 * zone.held → zone.held ≤ from → zone.held ≤ len → zone.bytes ≡ with_fill fill from (take (4096 * len) zone.bytes)
whole_bytes zone from len fill size first last =
    sym (ap (with_fill fill from) (take_all (4096 * len) zone.bytes (omega arith)) ∙ fill_past fill from zone.bytes (omega arith))

-- the zone's file is then that of the zone that is meant
settled_is : (durable : Bool) (shape : Shape) (zone : Zone) (f : File) (from len : ℕ) (fill : Option ℕ) → IsSoundZone true shape zone → (durable ≡ true → zone.durable ≡ zone.held) → (durable ≡ false → is_good zone.cond ≡ true)
    → zone.durable ≤ from → from ≤ len → len ≤ zone.held → IsFileOf zone f → IsFileOf (settled zone from len fill) (settled_file durable from len fill f)
settled_is true shape zone f from len fill sound whole good least order most file =
    let all : zone.durable ≡ zone.held = whole refl in
    same_file f zone (settled zone from len fill) refl refl (whole_bytes zone from len fill sound.bytes (omega arith) (omega arith)) (omega arith) (omega arith) refl file
settled_is false shape zone f from len fill sound whole good least order most file =
    let on = good_on zone.cond (good refl) in
    rest_file (settled zone from len fill) (cut_file from len fill f) refl (λ off. ap (with_fill fill from) (cut_bytes f zone len (file.bytes on) sound.bytes most)) (λ is. on)
    (inl (length-with_fill fill from (take (4096 * len) zone.bytes) ∙ length-take-le (4096 * len) zone.bytes (omega (arith, sound.bytes)))) refl

-- ---- the zone

-- only a good zone holds what isn't durable
good_of : (told : Bool) (shape : Shape) (zone : Zone) → IsSoundZone told shape zone → (zone.durable ≡ zone.held → ⊥) → is_good zone.cond ≡ true
good_of told shape zone sound part = either (is_good zone.cond) refl
  where
    either : (b : Bool) → is_good zone.cond ≡ b → b ≡ true
    either true is = refl
    either false is = absurd (part (sound.settled (λ good. cc)))

no_flags : (told : Bool) (shape : Shape) (zone : Zone) → IsSoundZone told shape zone → zone.kind ≡ Sequential → zone.unflushed ≡ []
no_flags told shape zone sound kind = nil_from_length zone.unflushed (sound.flags ∙ ap (λ k. if is_sequential k then 0 else zone.held) kind)

is_equal : (a b : ℕ) → (a == b) ≡ true → a ≡ b
is_equal a b is = grind (arith, nat_tests)

isnt_equal : (a b : ℕ) → (a == b) ≡ false → a ≡ b → ⊥
isnt_equal a b is same = grind (arith, nat_tests)

-- the bytes of an offline zone's file stay
still_by : (durable : Bool) (o e : Option Directory) (name : Name) (from len : ℕ) (fill : Option ℕ) → (durable ≡ false → ⊥) → ChangedWhereTold name (λ a b. b ≡ option_map (settled_file durable from len fill) a) o e
    → (d b : Directory) → o ≡ Some d → e ≡ Some b → bytes_in (file_at b name) ≡ bytes_in (file_at d name)
still_by true o e name from len fill some changed = map_still o e name (settled_file true from len fill) (λ x. refl) changed
still_by false o e name from len fill some changed = absurd (some refl)

settled_none : (zone : Zone) (from len : ℕ) (fill : Option ℕ) → length zone.bytes ≡ 0 → with_fill fill from (take (4096 * len) zone.bytes) ≡ []
settled_none zone from len fill none =
    nil_from_length (with_fill fill from (take (4096 * len) zone.bytes)) (length-with_fill fill from (take (4096 * len) zone.bytes) ∙ omega (arith, length-take (4096 * len) zone.bytes))

settle_put : (o e : Option Directory) (m : Machine) (kepts : List Kept) (listed : List ℕ) (z from len : ℕ) (fill : Option ℕ) (durable : Bool) (old new : Kept) → IsSoundZloop o (facts m) kepts listed → IsFound o m kepts z
    → (zone_at (truth_seen o (facts m) kepts) z).kind ≡ Sequential → (zone_at (truth_seen o (facts m) kepts) z).durable ≤ from → from ≤ len → len ≤ (zone_at (truth_seen o (facts m) kepts) z).held
    → old ≡ get_or kepts z old → durable ≡ ((zone_at (truth_seen o (facts m) kepts) z).durable == (zone_at (truth_seen o (facts m) kepts) z).held)
    → ChangedWhereTold (zone_name (state_at m z).kind z) (λ a b. b ≡ option_map (settled_file durable from len fill) a) o e → new.durable ≡ len → new.unflushed.items ≡ cleared old.unflushed.items → new.mark ≡ synced_mark old.mark
    → IsPut (λ a b. b ≡ option_map (settled_file durable from len fill) a) o e (facts m) listed z (settled (zone_at (truth_seen o (facts m) kepts) z) from len fill) new
settle_put o e m kepts listed z from len fill durable old new device known seq least order most is durable_is served d u mark =
    let zone = zone_at (truth_seen o (facts m) kepts) z in
    let R : Option File → Option File → Type 0 = λ a b. b ≡ option_map (settled_file durable from len fill) a in
    let whole : durable ≡ true → zone.durable ≡ zone.held = λ yes. is_equal zone.durable zone.held (sym durable_is ∙ yes) in
    let good : durable ≡ false → is_good zone.cond ≡ true = λ no. good_of (is_some o) m.shape zone known.sound (isnt_equal zone.durable zone.held (sym durable_is ∙ no)) in
    let before : IsKept zone.held listed z old = subst (λ n. IsKept n listed z old) (sym known.held) (own_kept (facts m) kepts listed z old device.kept known.store is) in
    let flags = no_flags (is_some o) m.shape zone known.sound seq in
    record {
      below = known.below;
      few = known.few;
      kind = known.kind ∙ sym (ap (λ (x : ZoneFacts). x.kind) (facts_at-facts m z));
      cond = known.cond;
      still = λ off. subst (λ k. (d b : Directory) → o ≡ Some d → e ≡ Some b → bytes_in (file_at b (zone_name k z)) ≡ bytes_in (file_at d (zone_name k z))) (sym known.kind)
          (still_by durable o e (zone_name (state_at m z).kind z) from len fill (λ no. good_on zone.cond (good no) off) served);
      changed = subst (λ k. ChangedWhereTold (zone_name k z) R o e) (sym known.kind) served;
      file = subst (λ k. HoldsAt e (zone_name k z) (settled zone from len fill)) (sym known.kind)
          (map_at o e (zone_name (state_at m z).kind z) (settled_file durable from len fill) zone (settled zone from len fill) known.at served
          (λ told f file. settled_is durable m.shape zone f from len fill (subst (λ b. IsSoundZone b m.shape zone) told known.sound) whole good least order most file));
      offline = λ off. settled_none zone from len fill (none_held (is_some o) m.shape zone known.sound off);
      durable = d;
      unflushed = u ∙ ap cleared (sym (known.unflushed old is) ∙ flags) ∙ sym flags;
      own = rest_kept len zone.held listed z old new d u mark before;
    }

-- ---- the harm

abbrev pub FileSettled : Bool → ℕ → ℕ → Option ℕ → Option File → Option File → Type 0
FileSettled durable from len fill a b = b ≡ option_map (settled_file durable from len fill) a

pub settle_follows : (o e : Option Directory) (m n : Machine) (kepts : List Kept) (listed : List ℕ) (z from len : ℕ) (fill : Option ℕ) (name : Name) (info : ZoneInfo) (was old new : Kept) → IsSoundZloop o (facts m) kepts listed → IsWithinLimits (geometry_in m)
    → IsZoneToManage (geometry_in m) z → name ≡ zone_name (state_at m z).kind z → (zone_at (truth_seen o (facts m) kepts) z).durable ≤ from → from ≤ len → len ≤ (zone_at (truth_seen o (facts m) kepts) z).held
    → was ≡ get_or kepts z was → old ≡ get_or kepts z old → info ≡ info_of (facts_at (facts m) z) → ChangedWhereTold name (FileSettled (was.durable == info.held) from len fill) o e → facts n ≡ with_held (facts m) z len
    → new.durable ≡ len → new.unflushed.items ≡ cleared old.unflushed.items → new.mark ≡ synced_mark old.mark
    → Follows (record { reply = Ok tt; truth = with_zone (truth_seen o (facts m) kepts) z (settled (zone_at (truth_seen o (facts m) kepts) z) from len fill) }) (Ok tt) e (facts n) (set kepts z new) listed
settle_follows o e m n kepts listed z from len fill name info was old new device within fit name_is least order most was_is old_is info_is served cut d u mark =
    let t = truth_seen o (facts m) kepts in
    let zone = zone_at t z in
    let known = found o m kepts listed z device within fit.zone in
    let seq : zone.kind ≡ Sequential = known.kind ∙ sym (kind_in m z) ∙ fit.kind in
    let durable_is : (was.durable == info.held) ≡ (zone.durable == zone.held) =
    ap (λ k. k == info.held) (sym (known.durable was was_is)) ∙ ap (λ k. zone.durable == k) (ap (λ (x : ZoneInfo). x.held) info_is ∙ sym known.held) in
    let changed : ChangedWhereTold (zone_name (state_at m z).kind z) (FileSettled (was.durable == info.held) from len fill) o e =
    subst (λ (x : Name). ChangedWhereTold x (FileSettled (was.durable == info.held) from len fill) o e) name_is served in
    let facts_is : facts n ≡ with_facts (facts m) z (zone_facts (settled zone from len fill)) =
    cut ∙ sym (ap (λ (x : ZoneFacts). let y : ZoneFacts = record x { held = len } in with_facts (facts m) z y) (seen_facts o (facts m) kepts z device.kept.count)) in
    harm_follows (FileSettled (was.durable == info.held) from len fill) o e (facts m) (facts n) kepts listed z (settled zone from len fill) new device
    (settle_put o e m kepts listed z from len fill (was.durable == info.held) old new device known seq least order most old_is durable_is changed d u mark)
    (settle_sound t z from len fill device.sound (omega (arith, zones-seen o (facts m) kepts device.kept.count, known.below)) seq (omega arith) most) facts_is

-- ---- the machine

full_holds : (shape : Shape) (kind : Kind) (raw : Raw) (held : ℕ) → raw ≡ Full → IsTrue (fits shape kind raw held) → held ≡ shape.zone_capacity
full_holds shape kind raw held is fit = let f : IsTrue (fits shape kind Full held) = subst (λ r. IsTrue (fits shape kind r held)) is fit in grind (arith, nat_tests)

-- what a cut asks for: a full zone is durable as a whole, so that no part of it is cut away
pub record MayCut (m : Machine) (z len : ℕ) : Type 0 where
  pub zone : z < length m.zones
  pub kind : (state_at m z).kind ≡ Sequential
  pub held : len ≤ (state_at m z).held
  pub whole : (state_at m z).raw ≡ Full → len ≡ m.shape.zone_capacity

pub may_cut : (o : Option Directory) (m : Machine) (kepts : List Kept) (listed : List ℕ) (z from len : ℕ) → IsSoundZloop o (facts m) kepts listed → IsWithinLimits (geometry_in m) → IsZoneToManage (geometry_in m) z → IsSoundMachine m
    → (zone_at (truth_seen o (facts m) kepts) z).durable ≤ from → from ≤ len → len ≤ (zone_at (truth_seen o (facts m) kepts) z).held → MayCut m z len
may_cut o m kepts listed z from len device within fit machine least order most =
    let zone = zone_at (truth_seen o (facts m) kepts) z in
    let known = found o m kepts listed z device within fit.zone in
    let kind : (state_at m z).kind ≡ Sequential = sym (kind_in m z) ∙ fit.kind in
    let same : zone.held ≡ (state_at m z).held = known.held ∙ ap (λ (x : ZoneFacts). x.held) (facts_at-facts m z) in
    record {
      zone = known.zone;
      kind = kind;
      held = omega arith;
      whole = λ full.
          let whole : (state_at m z).held ≡ m.shape.zone_capacity = full_holds m.shape (state_at m z).kind (state_at m z).raw (state_at m z).held full (machine.zones z known.zone) in
          let durable : zone.durable ≡ zone.held = known.sound.full (ap is_sequential (known.kind ∙ kind)) (same ∙ whole) in
          omega arith;
    }
