-- What all the writes of a format leave, and that nothing refuses them.
use Rattle.std.proofs.Common.{◌≡◌, ℕ, zero, suc, ◌+◌, ◌-◌, ◌*◌, ◌/◌, ◌<◌, ◌≤◌, Bool, true, false, ◌&&◌, List, [], ◌++◌, length, take, drop, replicate, refl, sym, ap, ◌∙◌, append_assoc, inl, inr, ⊎_elim, subst, arith}
use Rattle.std.specs.Prelude.{nat_lt, if◌then◌else◌, IsTrue}
use Rattle.std.proofs.lemmas.Bool.{cases_lt, cases_Bool, false≢true, le-ltb, lt-ltb, ltb-true, and_left, and_right, and_from, and_parts, or_from}
use Rattle.std.proofs.lemmas.List.{length-append, length-replicate, length-drop, length-take-le, take_at, drop_at, get_or_past}
use Rattle.zn_truth.specs.declared.Kind.{Kind}
use Rattle.zn_truth.specs.declared.Kind.TheVariants.{Conventional, Sequential}
use Rattle.zn_truth.specs.declared.Cond.{Cond}
use Rattle.zn_truth.specs.declared.Cond.TheVariants.{Good, ReadOnly, Offline}
use Rattle.zn_truth.specs.declared.Shape.{Shape}
use Rattle.zn_truth.specs.declared.ZoneOp.TheVariants.{Reset, Finish}
use Rattle.zn_truth.specs.Truth.{Zone, Truth, zone_at, no_zone, geometry, is_sequential, is_good, is_offline, is_active, active, explicit, IsSound}
use Rattle.zn_truth.specs.Limits.{IsWithinLimits}
use Rattle.zn_truth.specs.Orders.{Order, WriteAt, Manage, FlushAll, replaced, effect}
use Rattle.zn_truth.proofs.Issuing.{zones-in_geometry}
use Rattle.zn_model.specs.SuperBlock.{SuperBlock, encoded}
use Rattle.zn_model.specs.Formatting.{IsFormatted, zero_block, empties, resets, copies}
use Rattle.zn_mkfs.specs.Commands.{writes}
use Rattle.zn_mkfs.proofs.Effects.{effects, AllAllowed, effects-append, AllAllowed-append}
use Rattle.zn_mkfs.proofs.Zones.{IsSameDevice, device_after, IsSameZone, KeepsOthers, others_after, flush_keeps, write_keeps, reset_keeps, finish_keeps, IsZone0, reset_zone0, finish_zone0, append_zone0, replace_zone0, flush_zone0, manage_allowed, finish_allowed, replace_allowed, append_allowed, count_none}
use Rattle.zn_mkfs.proofs.Sweeps.{Sweeps, sweeps}

-- ---- the other zones, once they are reset

-- a zone as it was, but that it isn't explicitly open, and empty where it is sequential and good
pub record IsCleared (x y : Zone) : Type 0 where
  pub kind : y.kind ≡ x.kind
  pub cond : y.cond ≡ x.cond
  pub empty : (is_sequential y.kind && is_good y.cond) ≡ true → y.held ≡ 0
  pub closed : y.explicit ≡ false

pub record AreCleared (t u : Truth) : Type 0 where
  pub device : IsSameDevice t u
  pub zones : (k : ℕ) → 0 < k → IsCleared (zone_at t k) (zone_at u k)

cleared_zone : (x y z : Zone) → IsCleared x y → IsSameZone y z → IsCleared x z
cleared_zone x y z h k = record {
  kind = k.kind ∙ h.kind;
  cond = k.cond ∙ h.cond;
  empty = λ is. k.held ∙ h.empty (sym (ap (λ (a : Kind). is_sequential a && is_good z.cond) k.kind ∙ ap (λ (c : Cond). is_sequential y.kind && is_good c) k.cond) ∙ is);
  closed = k.explicit ∙ h.closed;
}

cleared_after : (t u v : Truth) → AreCleared t u → KeepsOthers u v → AreCleared t v
cleared_after t u v h k = record {
  device = device_after t u v h.device k.device;
  zones = λ z past. cleared_zone (zone_at t z) (zone_at u z) (zone_at v z) (h.zones z past) (k.zones z past);
}

pub good_is : (c : Cond) → is_good c ≡ true → c ≡ Good
good_is Good h = refl
good_is ReadOnly h = absurd (cc)
good_is Offline h = absurd (cc)

-- ---- counts

quiet_zone : (shape : Shape) (zone : Zone) → ((is_sequential zone.kind && is_good zone.cond) ≡ true → zone.held ≡ 0) → zone.explicit ≡ false → is_active shape zone ≡ false
quiet_zone shape zone empty closed = ⊎_elim
    (λ (is : (is_sequential zone.kind && is_good zone.cond) ≡ true). let none : zone.held ≡ 0 = empty is in
    and_right (is_sequential zone.kind && is_good zone.cond) _ (or_from zone.explicit _ closed (and_left (nat_lt 0 zone.held) _ (le-ltb 0 zone.held (omega arith)))))
    (λ (is : (is_sequential zone.kind && is_good zone.cond) ≡ false). and_left (is_sequential zone.kind && is_good zone.cond) _ is)
    (cases_Bool (is_sequential zone.kind && is_good zone.cond))

-- what holds of zone 0 and of each other holds of all
each_zone : (P : ℕ → Type 0) → P 0 → ((k : ℕ) → 0 < k → P k) → (k : ℕ) → P k
each_zone P first others zero = first
each_zone P first others (suc k) = others (suc k) (omega arith)

module _ (t u : Truth) (cleared : AreCleared t u) where
  none_explicit : (kind : Kind) (held : ℕ) (bytes : List ℕ) → IsZone0 u kind held bytes → explicit u ≡ 0
  none_explicit kind held bytes zone0 =
      count_none (λ (zone : Zone). zone.explicit) u.zones no_zone
      (λ k lt. each_zone (λ z. (zone_at u z).explicit ≡ false) zone0.closed (λ z past. (cleared.zones z past).closed) k)

  none_active : (kind : Kind) (bytes : List ℕ) → IsZone0 u kind 0 bytes → active u ≡ 0
  none_active kind bytes zone0 =
      count_none (is_active u.shape) u.zones no_zone
      (λ k lt. each_zone (λ z. is_active u.shape (zone_at u z) ≡ false)
      (quiet_zone u.shape (zone_at u 0) (λ is. zone0.held_is) zone0.closed)
      (λ z past. quiet_zone u.shape (zone_at u z) (cleared.zones z past).empty (cleared.zones z past).closed) k)

-- ---- the resets

-- another sequential zone that is good
abbrev is_other : Truth → ℕ → Bool
is_other t z = nat_lt 0 z && is_sequential (zone_at t z).kind && is_good (zone_at t z).cond

three_true : (a b c : Bool) → (a && b && c) ≡ true → (a ≡ true) × (b ≡ true) × (c ≡ true)
three_true true true true h = (refl, refl, refl)
three_true true true false h = absurd (cc)
three_true true false c h = absurd (cc)
three_true false b c h = absurd (cc)

after_past : (b c : Bool) (z : ℕ) → 0 < z → (b && c) ≡ true → (nat_lt 0 z && b && c) ≡ true
after_past b c z past h =
    let both = and_parts b c h in
    and_from (nat_lt 0 z && b) c (and_from (nat_lt 0 z) b (lt-ltb 0 z past) both.0) both.1

-- a zone that isn't there is none of them
none_past : (t : Truth) (z : ℕ) → length t.zones ≤ z → is_other t z ≡ false
none_past t z past =
    let none : zone_at t z ≡ no_zone = get_or_past t.zones z no_zone past in
    and_right (nat_lt 0 z && is_sequential (zone_at t z).kind) (is_good (zone_at t z).cond) (ap (λ (x : Zone). is_good x.cond) none)

-- and a zone that is none of them isn't explicitly open
unopened : (t : Truth) (z : ℕ) → IsSound t → 0 < z → is_other t z ≡ false → (zone_at t z).explicit ≡ false
unopened t z sound past other = ⊎_elim
    (λ (open_zone : (zone_at t z).explicit ≡ true). ⊎_elim
    (λ (lt : z < length t.zones). let parts = and_parts (is_sequential (zone_at t z).kind && is_good (zone_at t z).cond) _ ((sound.zones z lt).explicit open_zone) in
    absurd (false≢true (sym other ∙ after_past (is_sequential (zone_at t z).kind) (is_good (zone_at t z).cond) z past parts.0)))
    (λ (ge : length t.zones ≤ z). ap (λ (x : Zone). x.explicit) (get_or_past t.zones z no_zone ge)) (cases_lt z (length t.zones)))
    (λ (closed : (zone_at t z).explicit ≡ false). closed)
    (cases_Bool (zone_at t z).explicit)

module _ (t u : Truth) (sound : IsSound t) (keeps : KeepsOthers t u) (kind : Kind) (held : ℕ) (bytes : List ℕ) (zone0 : IsZone0 u kind held bytes) where
  others_good : (z : ℕ) → 0 ≤ z → z < 0 + length t.zones → is_other t z ≡ true → (zone_at u z).cond ≡ Good
  others_good z l lt is =
      let all = three_true (nat_lt 0 z) (is_sequential (zone_at t z).kind) (is_good (zone_at t z).cond) is in
      (keeps.zones z (ltb-true 0 z all.0)).cond ∙ good_is (zone_at t z).cond all.2

  swept : Sweeps (is_other t) 0 (length t.zones) u
  swept = sweeps (is_other t) 0 (length t.zones) u (omega (arith, keeps.device.count)) others_good

  pub resets_allowed : AllAllowed u (resets t)
  resets_allowed = swept.allowed

  pub resets_zone0 : IsZone0 (effects u (resets t)) kind held bytes
  resets_zone0 =
      let same : zone_at (effects u (resets t)) 0 ≡ zone_at u 0 = swept.swept.passed 0 refl in
      record {
        there = omega (arith, swept.swept.device.count, zone0.there);
        kind_is = ap (λ (z : Zone). z.kind) same ∙ zone0.kind_is;
        cond_is = ap (λ (z : Zone). z.cond) same ∙ zone0.cond_is;
        held_is = ap (λ (z : Zone). z.held) same ∙ zone0.held_is;
        closed = ap (λ (z : Zone). z.explicit) same ∙ zone0.closed;
        bytes_are = λ told. ap (λ (z : Zone). z.bytes) same ∙ zone0.bytes_are (sym swept.swept.device.told ∙ told);
      }

  abbrev after : Truth
  after = effects u (resets t)

  cleared_at : (k : ℕ) → 0 < k → IsCleared (zone_at t k) (zone_at after k)
  cleared_at k past = ⊎_elim
      (λ (other : is_other t k ≡ true).
      let lt : k < length t.zones = ⊎_elim (λ (h : k < length t.zones). h) (λ (h : length t.zones ≤ k). absurd (false≢true (sym (none_past t k h) ∙ other))) (cases_lt k (length t.zones)) in
      let r = swept.swept.reset k (omega arith) (omega arith) other in
      let reset : IsCleared (zone_at t k) (zone_at after k) = record { kind = r.kind ∙ (keeps.zones k past).kind; cond = r.cond ∙ (keeps.zones k past).cond; empty = λ is. r.held; closed = r.explicit } in reset)
      (λ (other : is_other t k ≡ false).
      let same : zone_at after k ≡ zone_at u k = swept.swept.passed k other in
      let kind' : (zone_at after k).kind ≡ (zone_at t k).kind = ap (λ (z : Zone). z.kind) same ∙ (keeps.zones k past).kind in
      let cond' : (zone_at after k).cond ≡ (zone_at t k).cond = ap (λ (z : Zone). z.cond) same ∙ (keeps.zones k past).cond in
      let kept : IsCleared (zone_at t k) (zone_at after k) = record {
        kind = kind';
        cond = cond';
        empty = λ is. absurd (false≢true (sym other ∙ after_past (is_sequential (zone_at t k).kind) (is_good (zone_at t k).cond) k past
            (sym (ap (λ (a : Kind). is_sequential a && is_good (zone_at after k).cond) kind' ∙ ap (λ (c : Cond). is_sequential (zone_at t k).kind && is_good c) cond') ∙ is)));
        closed = ap (λ (z : Zone). z.explicit) same ∙ (keeps.zones k past).explicit ∙ unopened t k sound past other;
      } in kept)
      (cases_Bool (is_other t k))

  pub resets_clear : AreCleared t (effects u (resets t))
  resets_clear = record { device = device_after t u after keeps.device swept.swept.device; zones = cleared_at }

-- ---- bytes that are written over others

length-replaced : (old new : List ℕ) (at : ℕ) → at + length new ≤ length old → length (replaced old at new) ≡ length old
length-replaced old new at h =
    omega (arith, length-append (take at old ++ new) (drop (at + length new) old), length-append (take at old) new, length-take-le at old (omega arith), length-drop (at + length new) old)

-- a part of this length, and then the one before it, written over what was there
both_parts : (n m : ℕ) (old part : List ℕ) → length part ≡ n → m ≡ n + n → m ≤ length old → take m (replaced (replaced old n part) 0 part) ≡ part ++ part
both_parts n m old part long twice enough =
    let rest = drop (n + length part) old in
    let front : length (take n old) ≡ n = length-take-le n old (omega arith) in
    let second : drop (0 + length part) ((take n old ++ part) ++ rest) ≡ part ++ rest =
    ap (λ (k : ℕ). drop k ((take n old ++ part) ++ rest)) (let k : 0 + length part ≡ n = omega arith in k)
    ∙ ap (drop n) (append_assoc (take n old) part rest) ∙ drop_at (take n old) (part ++ rest) n front in
    ap (λ (l : List ℕ). take m (part ++ l)) second
    ∙ ap (take m) (sym (append_assoc part part rest))
    ∙ take_at (part ++ part) rest m (omega (arith, length-append part part))

-- ---- what is written to zone 0

module _ (t : Truth) (sound : IsSound t) (within : IsWithinLimits (geometry t)) (good : (zone_at t 0).cond ≡ Good) (s : SuperBlock) (long : length (encoded s) ≡ 4096) where
  abbrev block : List ℕ
  block = encoded s

  there : 0 < length t.zones
  there = omega (arith, within.some, zones-in_geometry t)

  -- a device with the copies in place, and the other zones cleared
  formatted_is : (v : Truth) (kind : Kind) (held : ℕ) (bytes : List ℕ) → AreCleared t v → IsZone0 v kind held bytes → (IsTrue (is_sequential kind) → held ≡ v.shape.zone_capacity) → (v.told ≡ true → take 8192 bytes ≡ block ++ block) → IsFormatted v s
  formatted_is v kind held bytes cleared zone0 full both = record {
    good = ap is_good zone0.cond_is;
    copies = λ told. ap (take 8192) (zone0.bytes_are told) ∙ both told;
    full = λ is. zone0.held_is ∙ full (sym (ap is_sequential zone0.kind_is) ∙ is);
    empty = λ z past lt is. (cleared.zones z past).empty is;
  }

  -- ---- a sequential one

  one_block : (n : ℕ) → n + length block / 4096 ≡ n + 1
  one_block n = ap (λ (m : ℕ). n + m / 4096) long

  module _ (v0 : Truth) (cleared0 : AreCleared t v0) (zone00 : IsZone0 v0 Sequential 0 []) where
    abbrev v1 : Truth
    v1 = effect v0 (WriteAt 0 0 block)

    abbrev v2 : Truth
    v2 = effect v1 FlushAll

    abbrev v3 : Truth
    v3 = effect v2 (WriteAt 0 1 block)

    abbrev v4 : Truth
    v4 = effect v3 FlushAll

    abbrev v5 : Truth
    v5 = effect v4 (Manage 0 Finish)

    cleared2 : AreCleared t v2
    cleared2 = cleared_after t v0 v2 cleared0 (others_after v0 v1 v2 (write_keeps v0 0 block) (flush_keeps v1))

    zone02 : IsZone0 v2 Sequential 1 block
    zone02 = flush_zone0 v1 Sequential 1 block (subst (λ (n : ℕ). IsZone0 v1 Sequential n block) (one_block 0) (append_zone0 v0 0 [] block zone00))

    zone04 : IsZone0 v4 Sequential 2 (block ++ block)
    zone04 = flush_zone0 v3 Sequential 2 (block ++ block) (subst (λ (n : ℕ). IsZone0 v3 Sequential n (block ++ block)) (one_block 1) (append_zone0 v2 1 block block zone02))

    sequential_allowed : AllAllowed v0 (copies true block)
    sequential_allowed = (
      append_allowed v0 0 [] block zone00 (none_explicit t v0 cleared0 Sequential 0 [] zone00) (inl (none_active t v0 cleared0 Sequential [] zone00)),
      (
        refl,
        (
          append_allowed v2 1 block block zone02 (none_explicit t v2 cleared2 Sequential 1 block zone02) (inr (omega arith)),
          (refl, (finish_allowed v4 zone04.cond_is, tt)),
        ),
      ),
    )

    cleared5 : AreCleared t v5
    cleared5 = cleared_after t v2 v5 cleared2 (others_after v2 v4 v5 (others_after v2 v3 v4 (write_keeps v2 1 block) (flush_keeps v3)) (finish_keeps v4))

    sequential_formatted : IsFormatted (effects v0 (copies true block)) s
    sequential_formatted =
        formatted_is v5 Sequential v4.shape.zone_capacity ((block ++ block) ++ replicate (4096 * (v4.shape.zone_capacity - 2)) 0) cleared5 (finish_zone0 v4 2 (block ++ block) zone04)
        (λ is. refl)
        (λ told. take_at (block ++ block) (replicate (4096 * (v4.shape.zone_capacity - 2)) 0) 8192 (omega (arith, length-append block block, long)))

  -- ---- a conventional one

  module _ (v0 : Truth) (held : ℕ) (bytes : List ℕ) (cleared0 : AreCleared t v0) (zone00 : IsZone0 v0 Conventional held bytes) (enough : v0.told ≡ true → 8192 ≤ length bytes) where
    abbrev c1 : Truth
    c1 = effect v0 (WriteAt 0 1 block)

    abbrev c2 : Truth
    c2 = effect c1 FlushAll

    abbrev c3 : Truth
    c3 = effect c2 (WriteAt 0 0 block)

    abbrev c4 : Truth
    c4 = effect c3 FlushAll

    abbrev first : List ℕ
    first = replaced bytes 4096 block

    abbrev both : List ℕ
    both = replaced first 0 block

    zone02c : IsZone0 c2 Conventional held first
    zone02c = flush_zone0 c1 Conventional held first (replace_zone0 v0 held 1 bytes block zone00)

    zone04c : IsZone0 c4 Conventional held both
    zone04c = flush_zone0 c3 Conventional held both (replace_zone0 c2 held 0 first block zone02c)

    conventional_allowed : AllAllowed v0 (copies false block)
    conventional_allowed = (replace_allowed v0 1 held bytes block zone00, (refl, (replace_allowed c2 0 held first block zone02c, (refl, tt))))

    cleared4c : AreCleared t c4
    cleared4c = cleared_after t v0 c4 cleared0 (others_after v0 c2 c4 (others_after v0 c1 c2 (write_keeps v0 1 block) (flush_keeps c1)) (others_after c2 c3 c4 (write_keeps c2 0 block) (flush_keeps c3)))

    conventional_formatted : IsFormatted (effects v0 (copies false block)) s
    conventional_formatted =
        formatted_is c4 Conventional held both cleared4c zone04c (λ is. absurd (false≢true is))
        (λ told. both_parts 4096 8192 bytes block long refl (enough told))

  -- ---- all of it

  pub record IsWritten (orders : List Order) : Type 0 where
    pub allowed : AllAllowed t orders
    pub formatted : IsFormatted (effects t orders) s

  three_parts : (first second third : List Order) → AllAllowed t first → AllAllowed (effects t first) second → AllAllowed (effects (effects t first) second) third → IsFormatted (effects (effects (effects t first) second) third) s
      → IsWritten (first ++ second ++ third)
  three_parts first second third a b c formatted =
      let two : effects t (first ++ second) ≡ effects (effects t first) second = effects-append t first second in
      record {
        allowed = AllAllowed-append t (first ++ second) third (AllAllowed-append t first second a b) (subst (λ (u : Truth). AllAllowed u third) (sym two) c);
        formatted = subst (λ (u : Truth). IsFormatted u s) (sym (effects-append t (first ++ second) third ∙ ap (λ (u : Truth). effects u third) two)) formatted;
      }

  written_sequential : (zone_at t 0).kind ≡ Sequential → IsWritten (empties true ++ resets t ++ copies true block)
  written_sequential kind =
      let u = effect t (Manage 0 Reset) in
      let zone0 = reset_zone0 t there kind good in
      let keeps = reset_keeps t in
      let cleared = resets_clear t u sound keeps Sequential 0 [] zone0 in
      let swept0 = resets_zone0 t u sound keeps Sequential 0 [] zone0 in
      three_parts (empties true) (resets t) (copies true block) (manage_allowed t 0 good, tt) (resets_allowed t u sound keeps Sequential 0 [] zone0)
      (sequential_allowed (effects u (resets t)) cleared swept0) (sequential_formatted (effects u (resets t)) cleared swept0)

  -- a conventional zone is never explicitly open, and holds its size
  conventional_zone0 : (zone_at t 0).kind ≡ Conventional → IsZone0 t Conventional (zone_at t 0).held (zone_at t 0).bytes
  conventional_zone0 kind = record {
    there = there;
    kind_is = kind;
    cond_is = good;
    held_is = refl;
    closed = ⊎_elim
        (λ (open_zone : (zone_at t 0).explicit ≡ true). let parts = and_parts (is_sequential (zone_at t 0).kind && is_good (zone_at t 0).cond) _ ((sound.zones 0 there).explicit open_zone) in
        let both = and_parts (is_sequential (zone_at t 0).kind) (is_good (zone_at t 0).cond) parts.0 in
        absurd (false≢true (sym (ap is_sequential kind) ∙ both.0)))
        (λ (closed : (zone_at t 0).explicit ≡ false). closed)
        (cases_Bool (zone_at t 0).explicit);
    bytes_are = λ told. refl;
  }

  conventional_bytes : (zone_at t 0).kind ≡ Conventional → t.told ≡ true → 8192 ≤ length (zone_at t 0).bytes
  conventional_bytes kind told =
      let zone = sound.zones 0 there in
      let held : (zone_at t 0).held ≡ t.shape.zone_blocks = zone.conventional (λ is. false≢true (sym (ap is_sequential kind) ∙ is)) (λ is. false≢true (sym (ap is_offline good) ∙ is)) in
      let bytes : length (zone_at t 0).bytes ≡ 4096 * (zone_at t 0).held = zone.bytes ∙ ap (λ (b : Bool). if b then 4096 * (zone_at t 0).held else 0) told in
      omega (arith, within.capacity, within.fits)

  written_conventional : (zone_at t 0).kind ≡ Conventional → IsWritten (empties false ++ resets t ++ copies false block)
  written_conventional kind =
      let held = (zone_at t 0).held in
      let bytes = (zone_at t 0).bytes in
      let emptied = replaced bytes 0 zero_block in
      let w = effect t (WriteAt 0 0 zero_block) in
      let u = effect w FlushAll in
      let zone0 = conventional_zone0 kind in
      let zone1 : IsZone0 u Conventional held emptied = flush_zone0 w Conventional held emptied (replace_zone0 t held 0 bytes zero_block zone0) in
      let keeps = others_after t w u (write_keeps t 0 zero_block) (flush_keeps w) in
      let cleared = resets_clear t u sound keeps Conventional held emptied zone1 in
      let swept0 = resets_zone0 t u sound keeps Conventional held emptied zone1 in
      let enough : (effects u (resets t)).told ≡ true → 8192 ≤ length emptied = λ told.
      let old : 8192 ≤ length bytes = conventional_bytes kind (sym cleared.device.told ∙ told) in
      let zeros : length zero_block ≡ 4096 = length-replicate {A = ℕ} 4096 0 in
      omega (arith, length-replaced bytes zero_block 0 (omega arith)) in
      three_parts (empties false) (resets t) (copies false block) (replace_allowed t 0 held bytes zero_block zone0, (refl, tt)) (resets_allowed t u sound keeps Conventional held emptied zone1)
      (conventional_allowed (effects u (resets t)) held emptied cleared swept0 enough) (conventional_formatted (effects u (resets t)) held emptied cleared swept0 enough)

  pub written : IsWritten (writes t block)
  written = by_kind (zone_at t 0).kind refl
    where
      by_kind : (k : Kind) → (zone_at t 0).kind ≡ k → IsWritten (empties (is_sequential k) ++ resets t ++ copies (is_sequential k) block)
      by_kind Sequential is = written_sequential is
      by_kind Conventional is = written_conventional is
