-- A zone is managed.
use Rattle.std.proofs.Common.{◌≡◌, inl, ℕ, ◌+◌, ◌-◌, ◌*◌, ◌≤◌, Bool, true, false, List, [], ◌++◌, length, take, replicate, set, get_or, Option, None, Ok, refl, sym, ap, ◌∙◌, subst, arith, length-append}
use Rattle.std.specs.Prelude.{is_some, ◌==◌, if◌then◌else◌, IsTrue}
use Rattle.std.specs.Option.{option_map}
use Rattle.std.proofs.lemmas.Bool.Decides.{nat_tests}
use Rattle.std.proofs.lemmas.List.{places, length-replicate, take_all, nil_from_length, append-nil}
use Rattle.std.proofs.Math.ListN.{get_or-map}
use Rattle.zn_truth.specs.declared.Kind.TheVariants.{Sequential}
use Rattle.zn_truth.specs.declared.Cond.{Cond}
use Rattle.zn_truth.specs.declared.Cond.TheVariants.{Good, ReadOnly, Offline}
use Rattle.zn_truth.specs.declared.Shape.{Shape}
use Rattle.zn_truth.specs.declared.ZoneOp.{ZoneOp}
use Rattle.zn_truth.specs.declared.ZoneOp.TheVariants.{Open, Close, Reset, Finish}
use Rattle.zn_truth.specs.declared.DevError.{DevError}
use Rattle.zn_truth.specs.Truth.{Zone, zone_at, no_zone, room, is_good, is_offline, is_sequential, IsSoundZone}
use Rattle.zn_truth.specs.Orders.{changing, managing, managed}
use Rattle.zn_zone.specs.Facts.{ZoneFacts, Facts, zone_facts, facts_at, bare, bare_zone, refusal_by}
use Rattle.zn_truth.specs.Orders.{Manage}
use Rattle.zn_zone.specs.Facts.{after}
use Rattle.zn_zone.specs.Machine.{Machine, state_at, facts, geometry_in}
use Rattle.zn_truth.specs.Truth.{Geometry, cleared}
use Rattle.zn_truth.specs.Orders.{done}
use Rattle.zn_truth.specs.Limits.{IsWithinLimits}
use Rattle.zn_truth.specs.Obeying.{IsZoneToManage}
use Rattle.zn_stand.specs.Directory.{Directory}
use Rattle.zn_stand.specs.File.{File, resized, synced}
use Rattle.zn_zloop.specs.declared.kept.Kept.{Kept}
use Rattle.zn_zloop.specs.declared.kept.Mark.{Mark}
use Rattle.zn_zloop.specs.declared.kept.Mark.TheVariants.{Clean, Listed, Changed}
use Rattle.zn_zloop.specs.Kept.{is_listed, is_changed, synced_mark}
use Rattle.zn_stand.specs.ZoneNames.{zone_name}
use Rattle.zn_zloop.specs.Seen.{truth_seen}
use Rattle.zn_zloop.specs.Served.{ChangedWhereTold}
use Rattle.zn_zloop.specs.Holding.{IsKept, IsSoundZloop}
use Rattle.zn_zloop.specs.Following.{Follows}
use Rattle.zn_zloop.proofs.Sight.{facts_at-facts, done_reply, kind_in, seen-geometry}
use Rattle.zn_zloop.proofs.Putting.{HoldsAt, map_at, IsPut, IsFound, found, own_kept, order_follows}
use Rattle.zn_zloop.specs.Backing.{IsFileOf}
use Rattle.zn_zloop.specs.Managed.{managed_file, managed_durable, managed_flags, managed_mark}
use Rattle.zn_zloop.proofs.Backs.{rest_file, same_file}

-- ---- what an accepted command found

changing_none : (cond : Cond) (next : Option DevError) → changing cond next ≡ None → is_good cond ≡ true
changing_none Good next h = refl
changing_none ReadOnly next h = absurd (cc)
changing_none Offline next h = absurd (cc)

pub manage_found : (f : Facts) (z : ℕ) (op : ZoneOp) → refusal_by f (Manage z op) ≡ None → is_good (facts_at f z).cond ≡ true
unfolding refusal_by
manage_found f z op none =
    let same : zone_at (bare f) z ≡ bare_zone (facts_at f z) = get_or-map bare_zone f.zones z (zone_facts no_zone) in
    changing_none (facts_at f z).cond _ (ap (λ (zone : Zone). changing zone.cond (managing op (bare f) zone)) (sym same) ∙ none)

-- ---- the file

pub good_on : (cond : Cond) → is_good cond ≡ true → ¬ IsTrue (is_offline cond)
good_on Good h off = cc
good_on ReadOnly h off = cc
good_on Offline h off = cc

emptied : (f : File) → (resized f 0).bytes ≡ []
emptied f = nil_from_length (resized f 0).bytes (grind (arith, places))

grown : (f : File) (zone : Zone) (n : ℕ) → f.bytes ≡ zone.bytes → length zone.bytes ≡ 4096 * zone.held → zone.held ≤ n → (resized (synced f) (4096 * n)).bytes ≡ zone.bytes ++ replicate (4096 * (n - zone.held)) 0
grown f zone n same size le =
    ap (λ b. take (4096 * n) b ++ replicate (4096 * n - length b) 0) same
    ∙ ap (λ b. b ++ replicate (4096 * n - length zone.bytes) 0) (take_all (4096 * n) zone.bytes (omega arith))
    ∙ ap (λ k. zone.bytes ++ replicate k 0) (omega arith)

finish_full : (zone : Zone) (n : ℕ) → zone.held ≡ n → zone.bytes ≡ zone.bytes ++ replicate (4096 * (n - zone.held)) 0
finish_full zone n is = let none : 4096 * (n - zone.held) ≡ 0 = omega arith in sym (ap (λ k. zone.bytes ++ replicate k 0) none ∙ append-nil zone.bytes)

-- the zone's file is then that of the zone that is meant
pub managed_is : (op : ZoneOp) (shape : Shape) (zone : Zone) (f : File) → IsSoundZone true shape zone → zone.kind ≡ Sequential → is_good zone.cond ≡ true → IsFileOf zone f → IsFileOf (managed op shape zone) (managed_file op shape.zone_capacity zone.held f)
managed_is Open shape zone f sound kind good file = same_file f zone (managed Open shape zone) refl refl refl refl refl refl file
managed_is Close shape zone f sound kind good file = same_file f zone (managed Close shape zone) refl refl refl refl refl refl file
managed_is Reset shape zone f sound kind good file =
    rest_file (managed Reset shape zone) (synced (resized f 0)) refl (λ on. emptied f) (λ is. good_on zone.cond good) (inl refl) refl
managed_is Finish shape zone f sound kind good file =
    let same : f.bytes ≡ zone.bytes = file.bytes (good_on zone.cond good) in
    let fits : zone.held ≤ shape.zone_capacity = subst (λ k. zone.held ≤ room shape k) kind sound.held in
    let seq : IsTrue (is_sequential zone.kind) = ap is_sequential kind in
    either (zone.held == shape.zone_capacity) refl same fits seq
  where
    either : (b : Bool) → (zone.held == shape.zone_capacity) ≡ b → f.bytes ≡ zone.bytes → zone.held ≤ shape.zone_capacity → IsTrue (is_sequential zone.kind)
        → IsFileOf (managed Finish shape zone) (if b then f else synced (resized (synced f) (4096 * shape.zone_capacity)))
    either true is same room seq =
        let full : zone.held ≡ shape.zone_capacity = grind (arith, nat_tests) in
        same_file f zone (managed Finish shape zone) refl refl (finish_full zone shape.zone_capacity full) full (sound.full seq full ∙ full) refl file
    either false is same room seq =
        rest_file (managed Finish shape zone) (synced (resized (synced f) (4096 * shape.zone_capacity))) refl (λ on. grown f zone shape.zone_capacity same sound.bytes room) (λ is. good_on zone.cond good)
        (inl (length-append zone.bytes (replicate (4096 * (shape.zone_capacity - zone.held)) 0) ∙ ap (λ n. length zone.bytes + n) (length-replicate (4096 * (shape.zone_capacity - zone.held)) 0) ∙ omega (arith, sound.bytes))) refl

managed_kind : (op : ZoneOp) (shape : Shape) (zone : Zone) → (managed op shape zone).kind ≡ zone.kind
managed_kind Open shape zone = refl
managed_kind Close shape zone = refl
managed_kind Reset shape zone = refl
managed_kind Finish shape zone = refl

managed_cond : (op : ZoneOp) (shape : Shape) (zone : Zone) → (managed op shape zone).cond ≡ zone.cond
managed_cond Open shape zone = refl
managed_cond Close shape zone = refl
managed_cond Reset shape zone = refl
managed_cond Finish shape zone = refl

managed_unflushed : (op : ZoneOp) (shape : Shape) (zone : Zone) → (managed op shape zone).unflushed ≡ zone.unflushed
managed_unflushed Open shape zone = refl
managed_unflushed Close shape zone = refl
managed_unflushed Reset shape zone = refl
managed_unflushed Finish shape zone = refl

-- ---- what is kept

same_kept : (held : ℕ) (listed : List ℕ) (z : ℕ) (old new : Kept) → new.durable ≡ old.durable → new.unflushed.items ≡ old.unflushed.items → new.mark ≡ old.mark → IsKept held listed z old → IsKept held listed z new
same_kept held listed z old new d u m is = record {
  durable = λ clean. d ∙ is.durable (sym (ap is_changed m) ∙ clean);
  flushed = λ clean. u ∙ is.flushed (sym (ap is_changed m) ∙ clean) ∙ ap cleared (sym u);
  in_list = λ marked. is.in_list (sym (ap is_listed m) ∙ marked);
}

cleared_twice : (flags : List Bool) → cleared flags ≡ cleared (cleared flags)
cleared_twice flags = ap (λ n. replicate n false) (sym (length-replicate (length flags) false))

pub synced_clean : (mark : Mark) → is_listed (synced_mark mark) ≡ is_listed mark
synced_clean Clean = refl
synced_clean Listed = refl
synced_clean Changed = refl

-- a zone whose file was synced
pub rest_kept : (held before : ℕ) (listed : List ℕ) (z : ℕ) (old new : Kept) → new.durable ≡ held → new.unflushed.items ≡ cleared old.unflushed.items → new.mark ≡ synced_mark old.mark → IsKept before listed z old → IsKept held listed z new
rest_kept held before listed z old new d u m is = record {
  durable = λ clean. d;
  flushed = λ clean. u ∙ cleared_twice old.unflushed.items ∙ ap cleared (sym u);
  in_list = λ marked. is.in_list (sym (synced_clean old.mark) ∙ sym (ap is_listed m) ∙ marked);
}

no_flags : (zone : Zone) (old new : Kept) → length zone.unflushed ≡ 0 → old.unflushed.items ≡ zone.unflushed → new.unflushed.items ≡ cleared old.unflushed.items → new.unflushed.items ≡ zone.unflushed
no_flags zone old new none flags u = u ∙ ap cleared (flags ∙ nil_from_length zone.unflushed none) ∙ sym (nil_from_length zone.unflushed none)

no_flag_count : (zone : Zone) (shape : Shape) (told : Bool) → IsSoundZone told shape zone → zone.kind ≡ Sequential → length zone.unflushed ≡ 0
no_flag_count zone shape told sound kind = sound.flags ∙ ap (λ k. if is_sequential k then 0 else zone.held) kind

managed_keeps : (op : ZoneOp) (shape : Shape) (zone : Zone) (listed : List ℕ) (z : ℕ) (old new : Kept) → length zone.unflushed ≡ 0 → old.unflushed.items ≡ zone.unflushed → old.durable ≡ zone.durable → IsKept zone.held listed z old
    → new.durable ≡ managed_durable op shape.zone_capacity old.durable → new.unflushed.items ≡ managed_flags op old.unflushed.items → new.mark ≡ managed_mark op old.mark
    → (new.durable ≡ (managed op shape zone).durable) × (new.unflushed.items ≡ zone.unflushed) × IsKept (managed op shape zone).held listed z new
managed_keeps Open shape zone listed z old new none flags durable is d u m = (d ∙ durable, u ∙ flags, same_kept zone.held listed z old new d u m is)
managed_keeps Close shape zone listed z old new none flags durable is d u m = (d ∙ durable, u ∙ flags, same_kept zone.held listed z old new d u m is)
managed_keeps Reset shape zone listed z old new none flags durable is d u m = (d, no_flags zone old new none flags u, rest_kept 0 zone.held listed z old new d u m is)
managed_keeps Finish shape zone listed z old new none flags durable is d u m = (d, no_flags zone old new none flags u, rest_kept shape.zone_capacity zone.held listed z old new d u m is)

-- ---- the command

pub manage_put : (o e : Option Directory) (m : Machine) (kepts : List Kept) (listed : List ℕ) (z : ℕ) (op : ZoneOp) (old new : Kept) → IsSoundZloop o (facts m) kepts listed → IsFound o m kepts z → (state_at m z).kind ≡ Sequential
    → is_good (facts_at (facts m) z).cond ≡ true → old ≡ get_or kepts z old
    → ChangedWhereTold (zone_name (state_at m z).kind z) (λ a b. b ≡ option_map (managed_file op m.shape.zone_capacity (facts_at (facts m) z).held) a) o e
    → new.durable ≡ managed_durable op m.shape.zone_capacity old.durable → new.unflushed.items ≡ managed_flags op old.unflushed.items → new.mark ≡ managed_mark op old.mark
    → IsPut (λ a b. b ≡ option_map (managed_file op m.shape.zone_capacity (facts_at (facts m) z).held) a) o e (facts m) listed z (managed op m.shape (zone_at (truth_seen o (facts m) kepts) z)) new
manage_put o e m kepts listed z op old new device at kind good is changed d u mark =
    let zone = zone_at (truth_seen o (facts m) kepts) z in
    let R : Option File → Option File → Type 0 = λ a b. b ≡ option_map (managed_file op m.shape.zone_capacity (facts_at (facts m) z).held) a in
    let own : IsKept zone.held listed z old = subst (λ n. IsKept n listed z old) (sym at.held) (own_kept (facts m) kepts listed z old device.kept at.store is) in
    let seq : zone.kind ≡ Sequential = at.kind ∙ kind in
    let keeps = managed_keeps op m.shape zone listed z old new (no_flag_count zone m.shape (is_some o) at.sound seq) (sym (at.unflushed old is)) (sym (at.durable old is)) own d u mark in
    let on : is_good zone.cond ≡ true = ap is_good at.cond ∙ good in
    let same_kind : (state_at m z).kind ≡ (managed op m.shape zone).kind = sym at.kind ∙ sym (managed_kind op m.shape zone) in
    record {
      below = at.below;
      few = at.few;
      kind = managed_kind op m.shape zone ∙ at.kind ∙ sym (ap (λ (x : ZoneFacts). x.kind) (facts_at-facts m z));
      cond = managed_cond op m.shape zone ∙ at.cond;
      still = λ off. absurd (good_on zone.cond on (subst (λ c. IsTrue (is_offline c)) (managed_cond op m.shape zone) off));
      changed = subst (λ k. ChangedWhereTold (zone_name k z) R o e) same_kind changed;
      file = subst (λ k. HoldsAt e (zone_name k z) (managed op m.shape zone)) same_kind
          (map_at o e (zone_name (state_at m z).kind z) (managed_file op m.shape.zone_capacity (facts_at (facts m) z).held) zone (managed op m.shape zone) at.at changed
          (λ told f file. subst (λ n. IsFileOf (managed op m.shape zone) (managed_file op m.shape.zone_capacity n f)) at.held
          (managed_is op m.shape zone f (subst (λ b. IsSoundZone b m.shape zone) told at.sound) seq on file)));
      offline = λ off. absurd (good_on zone.cond on (subst (λ c. IsTrue (is_offline c)) (managed_cond op m.shape zone) off));
      durable = keeps.0;
      unflushed = keeps.1 ∙ sym (managed_unflushed op m.shape zone);
      own = keeps.2;
    }

pub manage_follows : (o e : Option Directory) (m n : Machine) (kepts : List Kept) (listed : List ℕ) (z : ℕ) (op : ZoneOp) (old new : Kept) → IsSoundZloop o (facts m) kepts listed → IsWithinLimits (geometry_in m) → IsZoneToManage (geometry_in m) z
    → refusal_by (facts m) (Manage z op) ≡ None → facts n ≡ after (facts m) (Manage z op) → old ≡ get_or kepts z old
    → ChangedWhereTold (zone_name (state_at m z).kind z) (λ a b. b ≡ option_map (managed_file op m.shape.zone_capacity (facts_at (facts m) z).held) a) o e
    → new.durable ≡ managed_durable op m.shape.zone_capacity old.durable → new.unflushed.items ≡ managed_flags op old.unflushed.items → new.mark ≡ managed_mark op old.mark
    → Follows (done (truth_seen o (facts m) kepts) (Manage z op)) (Ok tt) e (facts n) (set kepts z new) listed
manage_follows o e m n kepts listed z op old new device within zone none after_is is changed d u mark =
    let at = found o m kepts listed z device within zone.zone in
    let kind : (state_at m z).kind ≡ Sequential = sym (kind_in m z) ∙ zone.kind in
    let put = manage_put o e m kepts listed z op old new device at kind (manage_found (facts m) z op none) is changed d u mark in
    order_follows (λ a b. b ≡ option_map (managed_file op m.shape.zone_capacity (facts_at (facts m) z).held) a) o e (facts m) (facts n) kepts listed listed (Manage z op) z (managed op m.shape (zone_at (truth_seen o (facts m) kepts) z)) new device put
    (λ k held own apart h. h) device.kept.numbers (subst (λ (g : Geometry). IsZoneToManage g z) (sym (seen-geometry o m kepts device.kept.count)) zone) refl none after_is

pub manage_ok : (o : Option Directory) (f : Facts) (kepts : List Kept) (z : ℕ) (op : ZoneOp) → length kepts ≡ length f.zones → refusal_by f (Manage z op) ≡ None → (done (truth_seen o f kepts) (Manage z op)).reply ≡ Ok tt
manage_ok o f kepts z op count none = done_reply o f kepts (Manage z op) count none
