-- Commands that leave the device as it was.
use Rattle.std.proofs.Common.{◌≡◌, ℕ, ◌+◌, ◌*◌, ◌<◌, ◌≤◌, true, List, [], ◌∷◌, length, take, drop, map, Option, Some, None, Ok, refl, sym, ap, ◌∙◌, subst, arith, zero-add}
use Rattle.std.specs.Prelude.{is_some, if◌then◌else◌, nat_lt, IsTrue}
use Rattle.std.specs.List.{range_with_len}
use Rattle.std.proofs.lemmas.Bool.Decides.{nat_tests}
use Rattle.std.proofs.lemmas.Option.{same_Some}
use Rattle.std.proofs.Math.ListN.{get_or-map}
use Rattle.zn_truth.specs.declared.Cond.{Cond}
use Rattle.zn_truth.specs.declared.Cond.TheVariants.{Good, ReadOnly, Offline}
use Rattle.zn_truth.specs.declared.DevError.TheVariants.{BeyondWp}
use Rattle.zn_truth.specs.Truth.{Zone, zone_at, no_zone, info_at, bytes_at, is_offline}
use Rattle.zn_truth.specs.Orders.{Order, ReadAt, ReportFrom, Reply, Done, reading, done}
use Rattle.zn_truth.specs.Limits.{IsWithinLimits}
use Rattle.zn_truth.specs.Obeying.{IsAnswered}
use Rattle.zn_zone.specs.Facts.{Facts, zone_facts, facts_at, info_of, bare, bare_zone, outline, refusal_by}
use Rattle.zn_zone.specs.Machine.{Machine, state_at, facts, geometry_in}
use Rattle.zn_zone.proofs.Truths.{info_at-facts}
use Rattle.zn_stand.specs.File.{File}
use Rattle.zn_stand.specs.Maps.{Name}
use Rattle.zn_stand.specs.Directory.{Directory, file_at}
use Rattle.zn_stand.specs.ZoneNames.{zone_name}
use Rattle.zn_files.specs.States.{FilesState, directory}
use Rattle.zn_zloop.specs.declared.kept.Kept.{Kept}
use Rattle.zn_zloop.specs.Backing.{IsFileOf, IsFileAt}
use Rattle.zn_zloop.specs.Looked.{Looked}
use Rattle.zn_zloop.specs.Seen.{truth_seen}
use Rattle.zn_zloop.specs.Holding.{IsSoundZloop}
use Rattle.zn_zloop.specs.Following.{Follows, Touches}
use Rattle.zn_zloop.proofs.Serving.{err_apart}
use Rattle.zn_zloop.proofs.Sight.{facts_of-seen, done_reply}
use Rattle.zn_zloop.proofs.Putting.{HoldsAt, found}

pub looked_follows : (o e : Option Directory) (f : Facts) (kepts : List Kept) (listed : List ℕ) (order : Order) (r : Reply) → IsSoundZloop o f kepts listed → refusal_by f (outline order) ≡ None → (done (truth_seen o f kepts) order).truth ≡ truth_seen o f kepts
    → (IsAnswered r → r ≡ Ok tt) → (IsAnswered r → e ≡ o) → Follows (done (truth_seen o f kepts) order) r e f kepts listed
looked_follows o e f kepts listed order r device none stays done_is same = record {
  reply = λ answered. done_is answered ∙ sym (done_reply o f kepts order device.kept.count none);
  truth = λ answered. ap (λ x. truth_seen x f kepts) (same answered) ∙ sym stays;
  device = λ answered. subst (λ x. IsSoundZloop x f kepts listed) (sym (same answered)) device;
}

pub looked_touches : (meant : Done) (r : Reply) (old new : FilesState) → meant.reply ≡ Ok tt → Looked r old new → Touches meant r old new
looked_touches meant r old new ok looked = record { cause = looked.cause; named = λ is. ok; untouched = λ error refused. absurd (err_apart error (sym refused ∙ ok)) }

-- ---- a read

reading_none : (cond : Cond) (held end : ℕ) → reading cond (if nat_lt held end then Some BeyondWp else None) ≡ None → (end ≤ held) × (¬ IsTrue (is_offline cond))
reading_none Good held end h = (grind (arith, nat_tests), λ off. absurd (cc))
reading_none ReadOnly held end h = (grind (arith, nat_tests), λ off. absurd (cc))
reading_none Offline held end h = absurd (cc)

pub read_found : (f : Facts) (z end : ℕ) → refusal_by f (ReadAt z 0 end) ≡ None → (end ≤ (facts_at f z).held) × (¬ IsTrue (is_offline (facts_at f z).cond))
unfolding refusal_by
read_found f z end none =
    let same : zone_at (bare f) z ≡ bare_zone (facts_at f z) = get_or-map bare_zone f.zones z (zone_facts no_zone) in
    reading_none (facts_at f z).cond (facts_at f z).held end
    (rw (sym (zero-add end)) (ap (λ (zone : Zone). reading zone.cond (if nat_lt zone.held (0 + end) then Some BeyondWp else None)) (sym same) ∙ none))

-- where it is told, the file has the zone's bytes
file_bytes : (o : Option Directory) (name : Name) (zone : Zone) → HoldsAt o name zone → ¬ IsTrue (is_offline zone.cond) → (d : Directory) (x : File) → o ≡ Some d → file_at d name ≡ Some x → x.bytes ≡ zone.bytes
file_bytes None name zone holds on d x is there = absurd (cc)
file_bytes (Some e) name zone holds on d x is there = let file : IsFileOf zone x = subst (IsFileAt zone) (ap (λ (y : Directory). file_at y name) (same_Some e d is) ∙ there) holds in file.bytes on

told_size : (o : Option Directory) (d : Directory) (zone : Zone) → o ≡ Some d → length zone.bytes ≡ (if is_some o then 4096 * zone.held else 0) → length zone.bytes ≡ 4096 * zone.held
told_size None d zone is size = absurd (cc)
told_size (Some e) d zone is size = size

-- what is known of the file that is read
record IsRead (o : Option Directory) (m : Machine) (kepts : List Kept) (z at n : ℕ) : Type 0 where
  end : at + n ≤ (zone_at (truth_seen o (facts m) kepts) z).held
  bytes : (d : Directory) (x : File) → o ≡ Some d → file_at d (zone_name (state_at m z).kind z) ≡ Some x → x.bytes ≡ (zone_at (truth_seen o (facts m) kepts) z).bytes
  size : (d : Directory) → o ≡ Some d → length (zone_at (truth_seen o (facts m) kepts) z).bytes ≡ 4096 * (zone_at (truth_seen o (facts m) kepts) z).held
  there : (d : Directory) → o ≡ Some d → is_some (file_at d (zone_name (state_at m z).kind z)) ≡ true

is_read : (o : Option Directory) (m : Machine) (kepts : List Kept) (listed : List ℕ) (z at n : ℕ) → IsSoundZloop o (facts m) kepts listed → IsWithinLimits (geometry_in m) → z < length (geometry_in m).kinds
    → refusal_by (facts m) (ReadAt z 0 (at + n)) ≡ None → IsRead o m kepts z at n
is_read o m kepts listed z at n device within inside none =
    let known = found o m kepts listed z device within inside in
    let right = read_found (facts m) z (at + n) none in
    let on : ¬ IsTrue (is_offline (zone_at (truth_seen o (facts m) kepts) z).cond) = subst (λ c. ¬ IsTrue (is_offline c)) (sym known.cond) right.1 in
    record {
      end = omega (arith, right.0, known.held);
      bytes = file_bytes o (zone_name (state_at m z).kind z) (zone_at (truth_seen o (facts m) kepts) z) known.at on;
      size = λ d is. told_size o d (zone_at (truth_seen o (facts m) kepts) z) is known.sound.bytes;
      there = known.there;
    }

pub read_within : (o : Option Directory) (m : Machine) (kepts : List Kept) (listed : List ℕ) (z at n len from : ℕ) (name : Name) → IsSoundZloop o (facts m) kepts listed → IsWithinLimits (geometry_in m) → z < length (geometry_in m).kinds
    → refusal_by (facts m) (ReadAt z 0 (at + n)) ≡ None → name ≡ zone_name (state_at m z).kind z → 4096 * n ≡ len → from ≡ 4096 * at → (d : Directory) (x : File) → o ≡ Some d → file_at d name ≡ Some x → from + len ≤ length x.bytes
read_within o m kepts listed z at n len from name device within inside none name_is whole from_is d x told there =
    let known = is_read o m kepts listed z at n device within inside none in
    let same = known.bytes d x told (ap (file_at d) (sym name_is) ∙ there) in
    omega (arith, known.end, known.size d told, ap length same)

pub read_bytes : (s : FilesState) (m : Machine) (kepts : List Kept) (listed : List ℕ) (z at n len from : ℕ) (name : Name) (out : List ℕ) → IsSoundZloop (directory s) (facts m) kepts listed → IsWithinLimits (geometry_in m) → z < length (geometry_in m).kinds
    → refusal_by (facts m) (ReadAt z 0 (at + n)) ≡ None → name ≡ zone_name (state_at m z).kind z → 4096 * n ≡ len → from ≡ 4096 * at
    → ((d : Directory) (x : File) → directory s ≡ Some d → file_at d name ≡ Some x → out ≡ take len (drop from x.bytes)) → is_some (directory s) ≡ true → out ≡ bytes_at (truth_seen (directory s) (facts m) kepts) z at n
read_bytes s m kepts listed z at n len from name out device within inside none name_is whole from_is read told = some_directory (directory s) refl told
  where
    known : IsRead (directory s) m kepts z at n
    known = is_read (directory s) m kepts listed z at n device within inside none

    goal_is : Type 0
    goal_is = out ≡ bytes_at (truth_seen (directory s) (facts m) kepts) z at n

    some_file : (d : Directory) (x : Option File) → directory s ≡ Some d → file_at d (zone_name (state_at m z).kind z) ≡ x → is_some x ≡ true → goal_is
    some_file d None is at_is some = absurd (cc)
    some_file d (Some x) is at_is some =
        read d x is (ap (file_at d) name_is ∙ at_is) ∙ ap (λ b. take len (drop from b)) (known.bytes d x is at_is)
        ∙ ap (λ k. take k (drop from (zone_at (truth_seen (directory s) (facts m) kepts) z).bytes)) (sym whole)
        ∙ ap (λ k. take (4096 * n) (drop k (zone_at (truth_seen (directory s) (facts m) kepts) z).bytes)) from_is

    some_directory : (o : Option Directory) → directory s ≡ o → is_some o ≡ true → goal_is
    some_directory None is some = absurd (cc)
    some_directory (Some d) is some = some_file d (file_at d (zone_name (state_at m z).kind z)) is refl (known.there d is)

-- ---- a report

map_same : {X : Type 0} (f g : ℕ → X) (xs : List ℕ) → ((x : ℕ) → f x ≡ g x) → map f xs ≡ map g xs
map_same f g [] h = refl
map_same f g (x ∷ xs) h = ap (λ y. y ∷ map f xs) (h x) ∙ ap (λ ys. g x ∷ ys) (map_same f g xs h)

pub infos_seen : (o : Option Directory) (f : Facts) (kepts : List Kept) (first n : ℕ) → length kepts ≡ length f.zones → map (λ z. info_of (facts_at f z)) (range_with_len first n) ≡ map (info_at (truth_seen o f kepts)) (range_with_len first n)
infos_seen o f kepts first n count = map_same _ _ (range_with_len first n) (λ z. ap (λ (g : Facts). info_of (facts_at g z)) (sym (facts_of-seen o f kepts count)) ∙ sym (info_at-facts (truth_seen o f kepts) z))

pub report_follows : (o : Option Directory) (f : Facts) (kepts : List Kept) (listed : List ℕ) (first n : ℕ) → IsSoundZloop o f kepts listed → Follows (done (truth_seen o f kepts) (ReportFrom first n)) (Ok tt) o f kepts listed
unfolding done
report_follows o f kepts listed first n device = record { reply = λ answered. refl; truth = λ answered. refl; device = λ answered. device }
