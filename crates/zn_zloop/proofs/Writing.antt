-- A zone is written.
use Rattle.std.proofs.Common.{◌≡◌, inl, ℕ, zero, suc, ◌+◌, ◌*◌, ◌/◌, ◌<◌, ◌≤◌, Bool, true, false, List, [], ◌∷◌, ◌++◌, length, drop, set, get_or, Option, Some, None, Ok, refl, sym, ap, ◌∙◌, subst, arith, length-append}
use Rattle.std.specs.Prelude.{is_some, ◌==◌, if◌then◌else◌, IsTrue}
use Rattle.std.specs.Option.{option_map}
use Rattle.std.proofs.lemmas.Bool.Decides.{nat_tests}
use Rattle.std.proofs.lemmas.List.{get_or_default, take_all, drop_all, nil_from_length, append-nil}
use Rattle.std.proofs.Math.ListN.{get_or-map}
use Rattle.zn_truth.specs.declared.Kind.{Kind}
use Rattle.zn_truth.specs.declared.Kind.TheVariants.{Conventional, Sequential}
use Rattle.zn_truth.specs.declared.Cond.{Cond}
use Rattle.zn_truth.specs.declared.Cond.TheVariants.{Good, ReadOnly, Offline}
use Rattle.zn_truth.specs.declared.Shape.{Shape}
use Rattle.zn_truth.specs.declared.DevError.{DevError}
use Rattle.zn_truth.specs.Truth.{Zone, Truth, Geometry, zone_at, with_zone, no_zone, room, is_good, is_offline, is_sequential, cleared, IsSoundZone}
use Rattle.zn_truth.specs.Orders.{WriteAt, changing, writing, replaced, placed, written, done}
use Rattle.zn_truth.specs.Limits.{IsWithinLimits}
use Rattle.zn_truth.specs.Obeying.{IsWhole, Fits}
use Rattle.zn_zone.specs.Facts.{ZoneFacts, Facts, zone_facts, facts_at, bare, bare_zone, outline, refusal_by, after}
use Rattle.zn_zone.specs.Machine.{Machine, state_at, facts, geometry_in}
use Rattle.zn_stand.specs.File.{File, synced, written as file_written}
use Rattle.std.proofs.lemmas.Option.{same_Some}
use Rattle.zn_stand.specs.Maps.{Name}
use Rattle.zn_stand.specs.Directory.{Directory, file_at}
use Rattle.zn_stand.specs.ZoneNames.{zone_name}
use Rattle.zn_zloop.specs.declared.kept.Kept.{Kept}
use Rattle.zn_zloop.specs.declared.kept.Mark.{Mark}
use Rattle.zn_zloop.specs.declared.kept.Mark.TheVariants.{Changed}
use Rattle.zn_zloop.specs.Kept.{is_listed}
use Rattle.zn_zloop.specs.Backing.{Backs, IsFileOf, IsFileAt}
use Rattle.zn_zloop.specs.Written.{is_full, written_file, written_durable, written_flags, written_mark, with_listed}
use Rattle.zn_zloop.specs.Seen.{truth_seen}
use Rattle.zn_zloop.specs.Served.{ChangedWhereTold}
use Rattle.zn_zloop.specs.Holding.{has_zone, IsKept, IsSoundZloop}
use Rattle.zn_zloop.specs.Following.{Follows}
use Rattle.zn_zloop.proofs.Backs.{rest_file, same_file, write_durable, write_flushed}
use Rattle.zn_zloop.proofs.Sight.{facts_at-facts, kind_in, seen-geometry}
use Rattle.zn_zloop.proofs.Putting.{HoldsAt, map_at, IsPut, found, own_kept, order_follows}
use Rattle.zn_zloop.proofs.Managing.{good_on, rest_kept}

-- ---- what an accepted write found

changing_none : (cond : Cond) (next : Option DevError) → changing cond next ≡ None → (is_good cond ≡ true) × (next ≡ None)
changing_none Good next h = (refl, h)
changing_none ReadOnly next h = absurd (cc)
changing_none Offline next h = absurd (cc)

writing_none : (kind : Kind) (t : Truth) (zone : Zone) (at : ℕ) → writing kind t zone at ≡ None → kind ≡ Sequential → zone.held ≡ at
writing_none Conventional t zone at h is = absurd (cc)
writing_none Sequential t zone at h is = grind (arith, nat_tests)

pub write_found : (f : Facts) (z at : ℕ) (bytes : List ℕ) → refusal_by f (outline (WriteAt z at bytes)) ≡ None → (is_good (facts_at f z).cond ≡ true) × ((facts_at f z).kind ≡ Sequential → (facts_at f z).held ≡ at)
unfolding refusal_by
write_found f z at bytes none =
    let same : zone_at (bare f) z ≡ bare_zone (facts_at f z) = get_or-map bare_zone f.zones z (zone_facts no_zone) in
    let is : changing (facts_at f z).cond (writing (facts_at f z).kind (bare f) (bare_zone (facts_at f z)) at) ≡ None =
    ap (λ (zone : Zone). changing zone.cond (writing zone.kind (bare f) zone at)) (sym same) ∙ none in
    let good = changing_none (facts_at f z).cond _ is in
    (good.0, λ seq. writing_none (facts_at f z).kind (bare f) (bare_zone (facts_at f z)) at good.1 seq)

-- ---- the file

pub written_kind : (kind : Kind) (shape : Shape) (zone : Zone) (at : ℕ) (new : List ℕ) → (written kind shape zone at new).kind ≡ zone.kind
written_kind Conventional shape zone at new = refl
written_kind Sequential shape zone at new = refl

pub written_cond : (kind : Kind) (shape : Shape) (zone : Zone) (at : ℕ) (new : List ℕ) → (written kind shape zone at new).cond ≡ zone.cond
written_cond Conventional shape zone at new = refl
written_cond Sequential shape zone at new = refl

-- put behind all that the file has
appended : (f : File) (zone : Zone) (new : List ℕ) → f.bytes ≡ zone.bytes → length zone.bytes ≡ 4096 * zone.held → replaced f.bytes (4096 * zone.held) new ≡ zone.bytes ++ new
appended f zone new same size =
    ap (λ b. replaced b (4096 * zone.held) new) same
    ∙ ap (λ b. b ++ new ++ drop (4096 * zone.held + length new) zone.bytes) (take_all (4096 * zone.held) zone.bytes (omega arith))
    ∙ ap (λ b. zone.bytes ++ new ++ b) (drop_all (4096 * zone.held + length new) zone.bytes (omega arith))
    ∙ append-nil (zone.bytes ++ new)

not_seq : (k : Kind) → k ≡ Conventional → IsTrue (is_sequential k) → ⊥
not_seq Conventional is seq = cc
not_seq Sequential is seq = cc

-- the zone reaches up to where it is written
at_held : (kind : Kind) (shape : Shape) (zone : Zone) (at n : ℕ) → IsSoundZone true shape zone → zone.kind ≡ kind → is_good zone.cond ≡ true → (kind ≡ Sequential → zone.held ≡ at) → at + n ≤ room shape kind → at ≤ zone.held
at_held Conventional shape zone at n sound kind good end fits = let held = sound.conventional (λ seq. not_seq zone.kind kind seq) (good_on zone.cond good) in omega arith
at_held Sequential shape zone at n sound kind good end fits = let held = end refl in omega arith

-- the zone's file is then that of the zone that is meant
pub written_is : (kind : Kind) (shape : Shape) (zone : Zone) (f : File) (at : ℕ) (new : List ℕ) → IsSoundZone true shape zone → zone.kind ≡ kind → is_good zone.cond ≡ true → (kind ≡ Sequential → zone.held ≡ at)
    → 4096 * (length new / 4096) ≡ length new → at + length new / 4096 ≤ room shape kind → IsFileOf zone f → IsFileOf (written kind shape zone at new) (written_file (is_full kind shape (at + length new / 4096)) at new f)
written_is Conventional shape zone f at new sound kind good end whole fits file =
    let same : f.bytes ≡ zone.bytes = file.bytes (good_on zone.cond good) in
    let held : zone.held ≡ shape.zone_blocks = sound.conventional (λ seq. not_seq zone.kind kind seq) (good_on zone.cond good) in
    let flags : length zone.unflushed ≡ zone.held = sound.flags ∙ ap (λ k. if is_sequential k then 0 else zone.held) kind in
    record {
      bytes = λ on. ap (λ b. replaced b (4096 * at) new) same;
      synced = file.synced;
      good = λ is. subst (λ k. Backs k (file_written f (4096 * at) new) (placed Conventional zone at new)) (sym kind)
          (write_flushed f zone at new same sound.bytes flags whole (omega arith) (subst (λ k. Backs k f zone) kind (file.good good)));
      settled = λ none. absurd (none good);
    }
written_is Sequential shape zone f at new sound kind good end whole fits file =
    let same : f.bytes ≡ zone.bytes = file.bytes (good_on zone.cond good) in
    subst (λ n. IsFileOf (written Sequential shape zone n new) (written_file (is_full Sequential shape (n + length new / 4096)) n new f)) (end refl)
    (either (zone.held + length new / 4096 == shape.zone_capacity) refl same)
  where
    n : ℕ
    n = length new / 4096

    either : (b : Bool) → (zone.held + n == shape.zone_capacity) ≡ b → f.bytes ≡ zone.bytes → IsFileOf (written Sequential shape zone zone.held new) (written_file b zone.held new f)
    either true is same =
        let durable : (written Sequential shape zone zone.held new).durable ≡ zone.held + n = ap (λ b. if b then zone.held + n else zone.durable) is in
        rest_file (written Sequential shape zone zone.held new) (synced (file_written f (4096 * zone.held) new)) refl (λ on. appended f zone new same sound.bytes) (λ g. good_on zone.cond good)
        (inl (length-append zone.bytes new ∙ omega (arith, sound.bytes))) durable
    either false is same =
        let durable : zone.durable ≡ (written Sequential shape zone zone.held new).durable = sym (ap (λ b. if b then zone.held + n else zone.durable) is) in
        same_file (file_written f (4096 * zone.held) new) (placed Sequential zone zone.held new) (written Sequential shape zone zone.held new) refl refl refl refl durable refl
        (record {
          bytes = λ on. appended f zone new same sound.bytes;
          synced = file.synced;
          good = λ g. subst (λ k. Backs k (file_written f (4096 * zone.held) new) (placed Sequential zone zone.held new)) (sym kind)
              (write_durable f zone new same sound.bytes sound.durable whole (subst (λ k. Backs k f zone) kind (file.good good)));
          settled = λ none. absurd (none good);
        })

-- ---- what is kept

changed_kept : (held : ℕ) (listed : List ℕ) (z : ℕ) (new : Kept) → new.mark ≡ Changed → IsTrue (has_zone listed z) → IsKept held listed z new
changed_kept held listed z new m there = record {
  durable = λ clean. absurd (cc (m, clean));
  flushed = λ clean. absurd (cc (m, clean));
  in_list = λ marked. there;
}

any_last : (listed : List ℕ) (z : ℕ) → IsTrue (has_zone (listed ++ z ∷ []) z)
any_last [] z = grind (arith, nat_tests)
any_last (k ∷ listed) z = let there = any_last listed z in grind (arith, nat_tests)

any_more : (listed : List ℕ) (z k : ℕ) → IsTrue (has_zone listed k) → IsTrue (has_zone (listed ++ z ∷ []) k)
any_more [] z k h = absurd (cc)
any_more (first ∷ listed) z k h = let more = any_more listed z k in grind (arith, nat_tests)

listed_has : (b : Bool) (listed : List ℕ) (z : ℕ) → (b ≡ true → IsTrue (has_zone listed z)) → IsTrue (has_zone (if b then listed else listed ++ z ∷ []) z)
listed_has true listed z h = h refl
listed_has false listed z h = any_last listed z

listed_keeps : (b : Bool) (listed : List ℕ) (z k : ℕ) → IsTrue (has_zone listed k) → IsTrue (has_zone (if b then listed else listed ++ z ∷ []) k)
listed_keeps true listed z k h = h
listed_keeps false listed z k h = any_more listed z k h

pub still_kept : (mark : Mark) (listed : List ℕ) (z k held : ℕ) (own : Kept) → IsKept held listed k own → IsKept held (with_listed mark z listed) k own
still_kept mark listed z k held own is = record { durable = is.durable; flushed = is.flushed; in_list = λ marked. listed_keeps (is_listed mark) listed z k (is.in_list marked) }

numbers_push : (listed : List ℕ) (z n : ℕ) → z < n → ((i : ℕ) → i < length listed → get_or listed i 0 < n) → (i : ℕ) → i < length (listed ++ z ∷ []) → get_or (listed ++ z ∷ []) i 0 < n
numbers_push [] z n below h zero inside = below
numbers_push [] z n below h (suc i) inside = absurd (omega arith)
numbers_push (first ∷ listed) z n below h zero inside = h zero (omega arith)
numbers_push (first ∷ listed) z n below h (suc i) inside = numbers_push listed z n below (λ j small. h (suc j) (omega arith)) i (omega arith)

pub listed_numbers : (mark : Mark) (listed : List ℕ) (z n : ℕ) → z < n → ((i : ℕ) → i < length listed → get_or listed i 0 < n) → (i : ℕ) → i < length (with_listed mark z listed) → get_or (with_listed mark z listed) i 0 < n
listed_numbers mark listed z n below h = either (is_listed mark)
  where
    either : (b : Bool) → (i : ℕ) → i < length (if b then listed else listed ++ z ∷ []) → get_or (if b then listed else listed ++ z ∷ []) i 0 < n
    either true = h
    either false = numbers_push listed z n below h

pub written_keeps : (kind : Kind) (shape : Shape) (zone : Zone) (listed : List ℕ) (z at : ℕ) (new : List ℕ) (old own : Kept) → zone.kind ≡ kind → (kind ≡ Sequential → zone.held ≡ at) → (kind ≡ Sequential → length zone.unflushed ≡ 0)
    → old.unflushed.items ≡ zone.unflushed → old.durable ≡ zone.durable → IsKept zone.held listed z old
    → own.durable ≡ written_durable (is_full kind shape (at + length new / 4096)) (at + length new / 4096) old.durable
    → own.unflushed.items ≡ written_flags kind (is_full kind shape (at + length new / 4096)) at (length new / 4096) old.unflushed.items
    → own.mark ≡ written_mark (is_full kind shape (at + length new / 4096)) old.mark
    → (own.durable ≡ (written kind shape zone at new).durable) × (own.unflushed.items ≡ (written kind shape zone at new).unflushed) × IsKept (written kind shape zone at new).held (with_listed old.mark z listed) z own
written_keeps Conventional shape zone listed z at new old own kind end none flags durable is d u m =
    (d ∙ durable, u ∙ ap (written_flags Conventional false at (length new / 4096)) flags, changed_kept zone.held (with_listed old.mark z listed) z own m (listed_has (is_listed old.mark) listed z is.in_list))
written_keeps Sequential shape zone listed z at new old own kind end none flags durable is d u m = either (at + n == shape.zone_capacity) refl d u m
  where
    n : ℕ
    n = length new / 4096

    same : (zone.held + n == shape.zone_capacity) ≡ (at + n == shape.zone_capacity)
    same = ap (λ k. k + n == shape.zone_capacity) (end refl)

    either : (b : Bool) → (at + n == shape.zone_capacity) ≡ b → own.durable ≡ written_durable b (at + n) old.durable → own.unflushed.items ≡ written_flags Sequential b at n old.unflushed.items → own.mark ≡ written_mark b old.mark
        → (own.durable ≡ (written Sequential shape zone at new).durable) × (own.unflushed.items ≡ (written Sequential shape zone at new).unflushed) × IsKept (written Sequential shape zone at new).held (with_listed old.mark z listed) z own
    either true is_at d u m = (
      d ∙ sym (ap (λ b. if b then zone.held + n else zone.durable) (same ∙ is_at) ∙ ap (λ k. k + n) (end refl)),
      u ∙ ap cleared (flags ∙ nil_from_length zone.unflushed (none refl)) ∙ sym (nil_from_length zone.unflushed (none refl)),
      rest_kept (zone.held + n) zone.held (with_listed old.mark z listed) z old own (d ∙ ap (λ k. k + n) (sym (end refl))) u m (still_kept old.mark listed z z zone.held old is),
    )
    either false is_at d u m = (
      d ∙ durable ∙ sym (ap (λ b. if b then zone.held + n else zone.durable) (same ∙ is_at)),
      u ∙ flags,
      changed_kept (zone.held + n) (with_listed old.mark z listed) z own m (listed_has (is_listed old.mark) listed z is.in_list),
    )

-- ---- the command

abbrev pub FileWritten : Machine → ℕ → ℕ → List ℕ → Option File → Option File → Type 0
FileWritten m z at new a b = b ≡ option_map (written_file (is_full (state_at m z).kind m.shape (at + length new / 4096)) at new) a

-- where it is told, the file reaches up to the place
at_within : (o : Option Directory) (name : Name) (zone : Zone) (at : ℕ) → HoldsAt o name zone → (is_some o ≡ true → (x : File) → IsFileOf zone x → 4096 * at ≤ length x.bytes)
    → (d : Directory) (x : File) → o ≡ Some d → file_at d name ≡ Some x → 4096 * at ≤ length x.bytes
at_within None name zone at holds each d x is there = absurd (cc)
at_within (Some e) name zone at holds each d x is there = each refl x (subst (IsFileAt zone) (ap (λ (y : Directory). file_at y name) (same_Some e d is) ∙ there) holds)

pub write_within : (o : Option Directory) (m : Machine) (kepts : List Kept) (listed : List ℕ) (z at : ℕ) (new : List ℕ) → IsSoundZloop o (facts m) kepts listed → IsWithinLimits (geometry_in m) → Fits (geometry_in m) z at (length new / 4096)
    → refusal_by (facts m) (outline (WriteAt z at new)) ≡ None → (d : Directory) (x : File) → o ≡ Some d → file_at d (zone_name (state_at m z).kind z) ≡ Some x → 4096 * at ≤ length x.bytes
write_within o m kepts listed z at new device within fits none =
    let known = found o m kepts listed z device within fits.zone in
    let zone = zone_at (truth_seen o (facts m) kepts) z in
    let right = write_found (facts m) z at new none in
    let good : is_good zone.cond ≡ true = ap is_good known.cond ∙ right.0 in
    let rooms : at + length new / 4096 ≤ room m.shape (state_at m z).kind = subst (λ k. at + length new / 4096 ≤ room m.shape k) (kind_in m z) fits.room in
    at_within o (zone_name (state_at m z).kind z) zone at known.at (λ told x file.
    let sound : IsSoundZone true m.shape zone = subst (λ b. IsSoundZone b m.shape zone) told known.sound in
    let reaches = at_held (state_at m z).kind m.shape zone at (length new / 4096) sound known.kind good (λ seq. known.held ∙ right.1 (ap (λ (y : ZoneFacts). y.kind) (facts_at-facts m z) ∙ seq)) rooms in
    omega (arith, ap length (file.bytes (good_on zone.cond good)), sound.bytes, reaches))

-- and a conventional zone has a flag for each block
pub write_flags : (o : Option Directory) (m : Machine) (kepts : List Kept) (listed : List ℕ) (z at : ℕ) (new : List ℕ) (old : Kept) → IsSoundZloop o (facts m) kepts listed → IsWithinLimits (geometry_in m) → Fits (geometry_in m) z at (length new / 4096)
    → refusal_by (facts m) (outline (WriteAt z at new)) ≡ None → old ≡ get_or kepts z old → (state_at m z).kind ≡ Conventional → at + length new / 4096 ≤ length old.unflushed.items
write_flags o m kepts listed z at new old device within fits none is conv =
    let known = found o m kepts listed z device within fits.zone in
    let zone = zone_at (truth_seen o (facts m) kepts) z in
    let right = write_found (facts m) z at new none in
    let good : is_good zone.cond ≡ true = ap is_good known.cond ∙ right.0 in
    let rooms : at + length new / 4096 ≤ room m.shape Conventional = subst (λ k. at + length new / 4096 ≤ room m.shape k) (kind_in m z ∙ conv) fits.room in
    let held : zone.held ≡ m.shape.zone_blocks = known.sound.conventional (λ seq. not_seq zone.kind (known.kind ∙ conv) seq) (good_on zone.cond good) in
    let flags : length zone.unflushed ≡ zone.held = known.sound.flags ∙ ap (λ k. if is_sequential k then 0 else zone.held) (known.kind ∙ conv) in
    omega (arith, ap length (known.unflushed old is))

pub no_fill : (kind : Kind) (shape : Shape) (end : ℕ) → kind ≡ Conventional → is_full kind shape end ≡ false
no_fill Conventional shape end is = refl
no_fill Sequential shape end is = absurd (cc)

pub write_follows : (o e : Option Directory) (m n : Machine) (kepts : List Kept) (listed : List ℕ) (z at : ℕ) (new : List ℕ) (old own : Kept) → IsSoundZloop o (facts m) kepts listed → IsWithinLimits (geometry_in m)
    → IsWhole new → Fits (geometry_in m) z at (length new / 4096) → refusal_by (facts m) (outline (WriteAt z at new)) ≡ None → facts n ≡ after (facts m) (outline (WriteAt z at new)) → old ≡ get_or kepts z old
    → ChangedWhereTold (zone_name (state_at m z).kind z) (FileWritten m z at new) o e
    → own.durable ≡ written_durable (is_full (state_at m z).kind m.shape (at + length new / 4096)) (at + length new / 4096) old.durable
    → own.unflushed.items ≡ written_flags (state_at m z).kind (is_full (state_at m z).kind m.shape (at + length new / 4096)) at (length new / 4096) old.unflushed.items
    → own.mark ≡ written_mark (is_full (state_at m z).kind m.shape (at + length new / 4096)) old.mark
    → Follows (done (truth_seen o (facts m) kepts) (WriteAt z at new)) (Ok tt) e (facts n) (set kepts z own) (with_listed old.mark z listed)
write_follows o e m n kepts listed z at new old own device within whole fits none after_is is changed d u mark =
    let known = found o m kepts listed z device within fits.zone in
    let zone = zone_at (truth_seen o (facts m) kepts) z in
    let kind = (state_at m z).kind in
    let right = write_found (facts m) z at new none in
    let facts_kind : (facts_at (facts m) z).kind ≡ kind = ap (λ (x : ZoneFacts). x.kind) (facts_at-facts m z) in
    let good : is_good zone.cond ≡ true = ap is_good known.cond ∙ right.0 in
    let end : kind ≡ Sequential → zone.held ≡ at = λ seq. known.held ∙ right.1 (facts_kind ∙ seq) in
    let before : IsKept zone.held listed z old = subst (λ h. IsKept h listed z old) (sym known.held) (own_kept (facts m) kepts listed z old device.kept known.store is) in
    let flags_none : kind ≡ Sequential → length zone.unflushed ≡ 0 = λ seq. known.sound.flags ∙ ap (λ k. if is_sequential k then 0 else zone.held) (known.kind ∙ seq) in
    let meant = written kind m.shape zone at new in
    let keeps = written_keeps kind m.shape zone listed z at new old own known.kind end flags_none (sym (known.unflushed old is)) (sym (known.durable old is)) before d u mark in
    let same_kind : kind ≡ meant.kind = sym known.kind ∙ sym (written_kind kind m.shape zone at new) in
    let rooms : at + length new / 4096 ≤ room m.shape kind = subst (λ k. at + length new / 4096 ≤ room m.shape k) (kind_in m z) fits.room in
    let put : IsPut (FileWritten m z at new) o e (facts m) (with_listed old.mark z listed) z meant own = record {
      below = known.below;
      few = known.few;
      kind = written_kind kind m.shape zone at new ∙ known.kind ∙ sym facts_kind;
      cond = written_cond kind m.shape zone at new ∙ known.cond;
      still = λ off. absurd (good_on zone.cond good (subst (λ c. IsTrue (is_offline c)) (written_cond kind m.shape zone at new) off));
      changed = subst (λ k. ChangedWhereTold (zone_name k z) (FileWritten m z at new) o e) same_kind changed;
      file = subst (λ k. HoldsAt e (zone_name k z) meant) same_kind
          (map_at o e (zone_name kind z) (written_file (is_full kind m.shape (at + length new / 4096)) at new) zone meant known.at changed
          (λ told f file. written_is kind m.shape zone f at new (subst (λ b. IsSoundZone b m.shape zone) told known.sound) known.kind good end whole.whole rooms file));
      offline = λ off. absurd (good_on zone.cond good (subst (λ c. IsTrue (is_offline c)) (written_cond kind m.shape zone at new) off));
      durable = keeps.0;
      unflushed = keeps.1;
      own = keeps.2;
    } in
    order_follows (FileWritten m z at new) o e (facts m) (facts n) kepts listed (with_listed old.mark z listed) (WriteAt z at new) z meant own device put (λ k held other apart h. still_kept old.mark listed z k held other h)
    (listed_numbers old.mark listed z (length kepts) known.store device.kept.numbers)
    (whole, subst (λ (g : Geometry). Fits g z at (length new / 4096)) (sym (seen-geometry o m kepts device.kept.count)) fits)
    (ap (λ k. with_zone (truth_seen o (facts m) kepts) z (written k m.shape zone at new)) known.kind) none after_is

pub same_element : (kepts : List Kept) (z : ℕ) (a b : Kept) → z < length kepts → a ≡ get_or kepts z a → b ≡ get_or kepts z b → a ≡ b
same_element kepts z a b below is other = is ∙ get_or_default kepts z a b below ∙ sym other

-- the same, as the code has it
pub write_as : (o e : Option Directory) (m n : Machine) (kepts : List Kept) (listed more : List ℕ) (z at : ℕ) (new : List ℕ) (name : Name) (kind : Kind) (shape : Shape) (full : Bool) (seen_kept old own : Kept) → IsSoundZloop o (facts m) kepts listed
    → IsWithinLimits (geometry_in m) → IsWhole new → Fits (geometry_in m) z at (length new / 4096) → refusal_by (facts m) (outline (WriteAt z at new)) ≡ None → facts n ≡ after (facts m) (outline (WriteAt z at new))
    → name ≡ zone_name (state_at m z).kind z → kind ≡ (state_at m z).kind → shape ≡ m.shape → full ≡ is_full kind shape (at + length new / 4096) → old ≡ get_or kepts z old → seen_kept ≡ get_or kepts z seen_kept
    → more ≡ with_listed seen_kept.mark z listed → ChangedWhereTold name (λ a b. b ≡ option_map (written_file full at new) a) o e
    → own.durable ≡ written_durable full (at + length new / 4096) old.durable → own.unflushed.items ≡ written_flags kind full at (length new / 4096) old.unflushed.items → own.mark ≡ written_mark full old.mark
    → Follows (done (truth_seen o (facts m) kepts) (WriteAt z at new)) (Ok tt) e (facts n) (set kepts z own) more
write_as o e m n kepts listed more z at new name kind shape full seen_kept old own device within whole fits none after_is name_is kind_is shape_is full_is is was more_is changed d u mark =
    let end = at + length new / 4096 in
    let known = found o m kepts listed z device within fits.zone in
    let full_eq : full ≡ is_full (state_at m z).kind m.shape end = full_is ∙ ap (λ k. is_full k shape end) kind_is ∙ ap (λ s. is_full (state_at m z).kind s end) shape_is in
    let named : ChangedWhereTold (zone_name (state_at m z).kind z) (λ a b. b ≡ option_map (written_file full at new) a) o e = subst (λ (x : Name). ChangedWhereTold x (λ a b. b ≡ option_map (written_file full at new) a) o e) name_is changed in
    let same : more ≡ with_listed old.mark z listed = more_is ∙ ap (λ (k : Kept). with_listed k.mark z listed) (same_element kepts z seen_kept old known.store was is) in
    subst (λ (l : List ℕ). Follows (done (truth_seen o (facts m) kepts) (WriteAt z at new)) (Ok tt) e (facts n) (set kepts z own) l) (sym same)
    (write_follows o e m n kepts listed z at new old own device within whole fits none after_is is
    (subst (λ (b : Bool). ChangedWhereTold (zone_name (state_at m z).kind z) (λ x y. y ≡ option_map (written_file b at new) x) o e) full_eq named)
    (d ∙ ap (λ b. written_durable b end old.durable) full_eq)
    (u ∙ ap (λ k. written_flags k full at (length new / 4096) old.unflushed.items) kind_is ∙ ap (λ b. written_flags (state_at m z).kind b at (length new / 4096) old.unflushed.items) full_eq)
    (mark ∙ ap (λ b. written_mark b old.mark) full_eq))
