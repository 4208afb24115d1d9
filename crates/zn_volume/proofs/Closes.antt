-- The closes of a mount.
use Rattle.std.proofs.Common.{◌≡◌, ℕ, zero, suc, ◌+◌, ◌-◌, ◌<◌, ◌≤◌, Bool, true, false, cond, List, [], ◌∷◌, ◌++◌, length, map, filter, Ok, Err, refl, sym, ap, ◌∙◌, subst, arith}
use Rattle.std.specs.Prelude.{◌&&◌, if◌then◌else◌, slice_index_or}
use Rattle.std.specs.List.{flat_map, range_with_len}
use Rattle.std.proofs.lemmas.Bool.{and_parts}
use Rattle.std.proofs.lemmas.List.{append-nil}
use Rattle.std.proofs.lemmas.List.Concat.{flat_map-append}
use Rattle.std.proofs.lemmas.List.FromFn.{length-map-range_with_len, get_or-map-range_with_len}
use Rattle.zn_truth.specs.declared.DevError.{DevError}
use Rattle.zn_truth.specs.declared.Kind.{Kind}
use Rattle.zn_truth.specs.declared.Kind.TheVariants.{Conventional, Sequential}
use Rattle.zn_truth.specs.declared.ZoneInfo.{ZoneInfo}
use Rattle.zn_truth.specs.declared.ZoneOp.TheVariants.{Close}
use Rattle.zn_truth.specs.Truth.{Truth, Geometry, geometry, zone_at, info_at, is_good, is_sequential, IsSound}
use Rattle.zn_truth.specs.Orders.{Order, Manage, Reply}
use Rattle.zn_truth.proofs.Issuing.{kind-in_geometry, zones-in_geometry}
use Rattle.zn_device.specs.States.{DeviceState, Commanded, Ordered}
use Rattle.zn_device.proofs.Ordered.{ordered_none, ordered_one, ordered_append, ordered_failure}
use Rattle.zn_model.specs.Looks.{all_infos}
use Rattle.zn_model.specs.Mounting.{closes}
use Rattle.zn_volume.specs.MountSteps.{no_info, is_left_open, close_of, closes_from, AreClosable}

-- ---- zone by zone

-- a range in two parts
range_in_two : (a m n : ℕ) → range_with_len a (m + n) ≡ range_with_len a m ++ range_with_len (a + m) n
range_in_two a zero n =
    let e : zero + n ≡ n = omega arith in
    let b : a ≡ a + zero = omega arith in
    ap (λ (k : ℕ). range_with_len a k) e ∙ ap (λ (z : ℕ). range_with_len z n) b
range_in_two a (suc m) n =
    let e : suc m + n ≡ suc (m + n) = omega arith in
    let b : a + 1 + m ≡ a + suc m = omega arith in
    ap (λ (k : ℕ). range_with_len a k) e ∙ ap (λ (l : List ℕ). a ∷ l) (range_in_two (a + 1) m n)
    ∙ ap (λ (z : ℕ). a ∷ (range_with_len (a + 1) m ++ range_with_len z n)) b

closes_in_two : (infos : List ZoneInfo) (first m n : ℕ) → closes_from infos first (m + n) ≡ closes_from infos first m ++ closes_from infos (first + m) n
closes_in_two infos first m n =
    let f : ℕ → List Order = λ z. close_of z (slice_index_or infos z no_info) in
    ap (flat_map f) (range_in_two first m n) ∙ flat_map-append f (range_with_len first m) (range_with_len (first + m) n)

-- one zone more
closes_more : (infos : List ZoneInfo) (z : ℕ) (info : ZoneInfo) → info ≡ slice_index_or infos z no_info → closes_from infos 0 (z + 1) ≡ closes_from infos 0 z ++ close_of z info
closes_more infos z info is =
    let at : 0 + z ≡ z = omega arith in
    closes_in_two infos 0 z 1 ∙ ap (λ (k : ℕ). closes_from infos 0 z ++ (close_of k (slice_index_or infos k no_info) ++ [])) at
    ∙ ap (λ (l : List Order). closes_from infos 0 z ++ l) (append-nil (close_of z (slice_index_or infos z no_info)))
    ∙ ap (λ (i : ZoneInfo). closes_from infos 0 z ++ close_of z i) (sym is)

-- the close of one zone more is done
pub closed_more : (infos : List ZoneInfo) (z : ℕ) (info : ZoneInfo) (s m t : DeviceState) → Ordered (closes_from infos 0 z) (Ok tt) s m → Ordered (close_of z info) (Ok tt) m t → info ≡ slice_index_or infos z no_info
    → Ordered (closes_from infos 0 (z + 1)) (Ok tt) s t
closed_more infos z info s m t done one is =
    subst (λ (l : List Order). Ordered l (Ok tt) s t) (sym (closes_more infos z info is)) (ordered_append (closes_from infos 0 z) (close_of z info) (Ok tt) s m t done one)

-- it fails, and no other follows
pub closes_stop : (infos : List ZoneInfo) (z : ℕ) (info : ZoneInfo) (error : DevError) (s m t : DeviceState) → Ordered (closes_from infos 0 z) (Ok tt) s m → Ordered (close_of z info) (Err error) m t
    → info ≡ slice_index_or infos z no_info → z < length infos → Ordered (closes_from infos 0 (length infos)) (Err error) s t
closes_stop infos z info error s m t done one is inside =
    let rest = length infos - (z + 1) in
    let all : z + 1 + (length infos - (z + 1)) ≡ length infos = omega arith in
    let first = ordered_append (closes_from infos 0 z) (close_of z info) (Err error) s m t done one in
    let more = subst (λ (l : List Order). Ordered l (Err error) s t) (sym (closes_more infos z info is)) first in
    let both = ordered_failure (closes_from infos 0 (z + 1)) (closes_from infos (0 + (z + 1)) rest) error s t more in
    subst (λ (l : List Order). Ordered l (Err error) s t) (sym (closes_in_two infos 0 (z + 1) rest) ∙ ap (λ (n : ℕ). closes_from infos 0 n) all) both

-- a zone that is left open, and one that isn't
pub one_closed : (z : ℕ) (info : ZoneInfo) (reply : Reply) (s t : DeviceState) → is_left_open info ≡ true → Commanded (Manage z Close) reply s t → Ordered (close_of z info) reply s t
one_closed z info reply s t left h = subst (λ (b : Bool). Ordered (if b then Manage z Close ∷ [] else []) reply s t) (sym left) (ordered_one (Manage z Close) reply s t h)

pub none_closed : (z : ℕ) (info : ZoneInfo) (s : DeviceState) → is_left_open info ≡ false → s.spoilt ≡ false → Ordered (close_of z info) (Ok tt) s s
none_closed z info s left unspoilt = subst (λ (b : Bool). Ordered (if b then Manage z Close ∷ [] else []) (Ok tt) s s) (sym left) (ordered_none s unspoilt)

-- ---- by a report of all zones

-- what the report tells of a zone
told_at : (t : Truth) (z : ℕ) → z < length t.zones → slice_index_or (all_infos t) z no_info ≡ info_at t z
told_at t z inside = let at : 0 + z ≡ z = omega arith in get_or-map-range_with_len (info_at t) 0 (length t.zones) z z no_info inside at

chosen : (b : Bool) (z : ℕ) (zones : List ℕ) → (if b then Manage z Close ∷ [] else []) ++ map (λ (k : ℕ). Manage k Close) zones ≡ map (λ (k : ℕ). Manage k Close) (cond b (z ∷ zones) zones)
chosen true z zones = refl
chosen false z zones = refl

each_chosen : (p : ℕ → Bool) (f : ℕ → List Order) (a n : ℕ) → ((z : ℕ) → a ≤ z → z < a + n → f z ≡ (if p z then Manage z Close ∷ [] else []))
    → flat_map f (range_with_len a n) ≡ map (λ (z : ℕ). Manage z Close) (filter p (range_with_len a n))
each_chosen p f a zero h = refl
each_chosen p f a (suc n) h =
    let rest = each_chosen p f (a + 1) n (λ z above below. h z (omega arith) (omega arith)) in
    ap (λ (l : List Order). l ++ flat_map f (range_with_len (a + 1) n)) (h a (omega arith) (omega arith))
    ∙ ap (λ (l : List Order). (if p a then Manage a Close ∷ [] else []) ++ l) rest
    ∙ chosen (p a) a (filter p (range_with_len (a + 1) n))

-- the closes by a report are those of what the device held
pub closes_are : (t : Truth) (infos : List ZoneInfo) → infos ≡ all_infos t → closes_from infos 0 (length infos) ≡ closes t
closes_are t infos is =
    let count : length (all_infos t) ≡ length t.zones = length-map-range_with_len (info_at t) 0 (length t.zones) in
    ap (λ (l : List ZoneInfo). closes_from l 0 (length l)) is ∙ ap (λ (n : ℕ). closes_from (all_infos t) 0 n) count
    ∙ each_chosen (λ z. is_good (zone_at t z).cond && (zone_at t z).explicit) (λ z. close_of z (slice_index_or (all_infos t) z no_info)) 0 (length t.zones)
    (λ z above below. ap (close_of z) (told_at t z (omega arith)))

-- ---- which zones

seq_kind : (kind : Kind) → is_sequential kind ≡ true → kind ≡ Sequential
seq_kind Conventional h = absurd (cc)
seq_kind Sequential h = refl

-- a sound device tells only sequential zones explicitly open
pub closable : (t : Truth) (g : Geometry) (infos : List ZoneInfo) → IsSound t → g ≡ geometry t → infos ≡ all_infos t → AreClosable g infos
closable t g infos sound same is = subst (λ (l : List ZoneInfo). AreClosable g l) (sym is) (subst (λ (h : Geometry). AreClosable h (all_infos t)) (sym same) (record {
  zones = λ z inside left.
      let below : z < length t.zones = omega (arith, inside, length-map-range_with_len (info_at t) 0 (length t.zones)) in
      let there : z < length (geometry t).kinds = omega (arith, below, zones-in_geometry t) in
      let explicit : (zone_at t z).explicit ≡ true = (and_parts _ _ (ap is_left_open (sym (told_at t z below)) ∙ left)).1 in
      let parts : is_sequential (zone_at t z).kind ≡ true = (and_parts _ _ (and_parts _ _ ((sound.zones z below).explicit explicit)).0).0 in
      record {
        zone = there;
        kind = kind-in_geometry t z ∙ seq_kind (zone_at t z).kind parts;
      };
}))
