-- What the commands of a format make of zones.
use Rattle.std.proofs.Common.{◌≡◌, ◌≢◌, ℕ, suc, ◌+◌, ◌-◌, ◌*◌, ◌/◌, ◌<◌, Bool, true, false, cond, not, ◌&&◌, eqb, List, [], ◌∷◌, ◌++◌, length, get_or, replicate, Some, None, refl, sym, ap, ◌∙◌, ◌⊎◌, ⊎_elim, subst, zero-add, arith}
use Rattle.std.specs.Prelude.{if◌then◌else◌, count_by}
use Rattle.std.proofs.lemmas.List.{length-map, length-set, get_or-set_same, get_or-set_other}
use Rattle.std.proofs.lemmas.List.Sums.{sum_by-cons}
use Rattle.std.proofs.lemmas.Bool.{false≢true, and_left, and_right, ne_eqb, eq-eqb}
use Rattle.std.proofs.lemmas.Bool.Decides.{nat_tests}
use Rattle.std.proofs.Math.ListN.{get_or-map}
use Rattle.zn_truth.specs.declared.Kind.{Kind}
use Rattle.zn_truth.specs.declared.Kind.TheVariants.{Conventional, Sequential}
use Rattle.zn_truth.specs.declared.Cond.{Cond}
use Rattle.zn_truth.specs.declared.Cond.TheVariants.{Good}
use Rattle.zn_truth.specs.declared.ZoneOp.TheVariants.{Reset, Finish}
use Rattle.zn_truth.specs.declared.DevError.{DevError}
use Rattle.zn_truth.specs.declared.DevError.TheVariants.{Unaligned, TooManyActive, TooManyOpen}
use Rattle.zn_truth.specs.Truth.{Zone, Truth, zone_at, no_zone, with_zone, seen, active, explicit, is_reached}
use Rattle.zn_truth.specs.Orders.{WriteAt, Manage, FlushAll, changing, opening, writing, refusal, replaced, written, managed, flushed, effect}

-- ---- a zone in place

pub at_same : (t : Truth) (z : ℕ) (zone : Zone) → z < length t.zones → zone_at (with_zone t z zone) z ≡ seen t.told zone
at_same t z zone h = get_or-set_same t.zones z (seen t.told zone) no_zone h

pub at_other : (t : Truth) (z k : ℕ) (zone : Zone) → k ≢ z → zone_at (with_zone t z zone) k ≡ zone_at t k
at_other t z k zone h = get_or-set_other t.zones z k (seen t.told zone) no_zone h

at_flush : (t : Truth) (k : ℕ) → zone_at (effect t FlushAll) k ≡ flushed (zone_at t k)
at_flush t k = get_or-map flushed t.zones k no_zone

-- ---- what stays

-- the shape, the number of zones, and whether bytes are told
pub record IsSameDevice (t u : Truth) : Type 0 where
  pub shape : u.shape ≡ t.shape
  pub told : u.told ≡ t.told
  pub count : length u.zones ≡ length t.zones

-- of a zone all that its opens and writes ask for
pub record IsSameZone (x y : Zone) : Type 0 where
  pub kind : y.kind ≡ x.kind
  pub cond : y.cond ≡ x.cond
  pub held : y.held ≡ x.held
  pub explicit : y.explicit ≡ x.explicit

-- the other zones
pub record KeepsOthers (t u : Truth) : Type 0 where
  pub device : IsSameDevice t u
  pub zones : (k : ℕ) → 0 < k → IsSameZone (zone_at t k) (zone_at u k)

same_device : (t : Truth) → IsSameDevice t t
same_device t = record { shape = refl; told = refl; count = refl }

pub device_after : (t u v : Truth) → IsSameDevice t u → IsSameDevice u v → IsSameDevice t v
device_after t u v h k = record { shape = k.shape ∙ h.shape; told = k.told ∙ h.told; count = k.count ∙ h.count }

zone_after : (x y z : Zone) → IsSameZone x y → IsSameZone y z → IsSameZone x z
zone_after x y z h k = record { kind = k.kind ∙ h.kind; cond = k.cond ∙ h.cond; held = k.held ∙ h.held; explicit = k.explicit ∙ h.explicit }

pub others_after : (t u v : Truth) → KeepsOthers t u → KeepsOthers u v → KeepsOthers t v
others_after t u v h k = record {
  device = device_after t u v h.device k.device;
  zones = λ z past. zone_after (zone_at t z) (zone_at u z) (zone_at v z) (h.zones z past) (k.zones z past);
}

same_zone : (x y : Zone) → y ≡ x → IsSameZone x y
same_zone x y is = record { kind = ap (λ (z : Zone). z.kind) is; cond = ap (λ (z : Zone). z.cond) is; held = ap (λ (z : Zone). z.held) is; explicit = ap (λ (z : Zone). z.explicit) is }

zone0_keeps : (t : Truth) (zone : Zone) → KeepsOthers t (with_zone t 0 zone)
zone0_keeps t zone = record {
  device = record { shape = refl; told = refl; count = length-set t.zones 0 (seen t.told zone) };
  zones = λ k past. same_zone (zone_at t k) (zone_at (with_zone t 0 zone) k) (at_other t 0 k zone (λ is. omega arith));
}

pub flush_keeps : (t : Truth) → KeepsOthers t (effect t FlushAll)
flush_keeps t = record {
  device = record { shape = refl; told = refl; count = length-map t.zones flushed };
  zones = λ k past. record {
    kind = ap (λ (z : Zone). z.kind) (at_flush t k);
    cond = ap (λ (z : Zone). z.cond) (at_flush t k);
    held = ap (λ (z : Zone). z.held) (at_flush t k);
    explicit = ap (λ (z : Zone). z.explicit) (at_flush t k);
  };
}

pub write_keeps : (t : Truth) (at : ℕ) (bytes : List ℕ) → KeepsOthers t (effect t (WriteAt 0 at bytes))
write_keeps t at bytes = zone0_keeps t (written (zone_at t 0).kind t.shape (zone_at t 0) at bytes)

pub reset_keeps : (t : Truth) → KeepsOthers t (effect t (Manage 0 Reset))
reset_keeps t = zone0_keeps t (managed Reset t.shape (zone_at t 0))

pub finish_keeps : (t : Truth) → KeepsOthers t (effect t (Manage 0 Finish))
finish_keeps t = zone0_keeps t (managed Finish t.shape (zone_at t 0))

-- ---- zone 0

-- zone 0 is good, of this kind, isn't explicitly open, and holds so many blocks, of these bytes where they are told
pub record IsZone0 (t : Truth) (kind : Kind) (held : ℕ) (bytes : List ℕ) : Type 0 where
  pub there : 0 < length t.zones
  pub kind_is : (zone_at t 0).kind ≡ kind
  pub cond_is : (zone_at t 0).cond ≡ Good
  pub held_is : (zone_at t 0).held ≡ held
  pub closed : (zone_at t 0).explicit ≡ false
  pub bytes_are : t.told ≡ true → (zone_at t 0).bytes ≡ bytes

seen_bytes : (told : Bool) (zone : Zone) → told ≡ true → (seen told zone).bytes ≡ zone.bytes
seen_bytes told zone h = ap (λ (b : Bool). if b then zone.bytes else []) h

-- zone 0 is this one
put_zone0 : (t : Truth) (zone : Zone) (kind : Kind) (held : ℕ) (bytes : List ℕ) → 0 < length t.zones → zone.kind ≡ kind → zone.cond ≡ Good → zone.held ≡ held → zone.explicit ≡ false → (t.told ≡ true → zone.bytes ≡ bytes)
    → IsZone0 (with_zone t 0 zone) kind held bytes
put_zone0 t zone kind held bytes there k c h e b =
    let is = at_same t 0 zone there in
    record {
      there = rw (length-set t.zones 0 (seen t.told zone)) there;
      kind_is = ap (λ (z : Zone). z.kind) is ∙ k;
      cond_is = ap (λ (z : Zone). z.cond) is ∙ c;
      held_is = ap (λ (z : Zone). z.held) is ∙ h;
      closed = ap (λ (z : Zone). z.explicit) is ∙ e;
      bytes_are = λ told. ap (λ (z : Zone). z.bytes) is ∙ seen_bytes t.told zone told ∙ b told;
    }

pub reset_zone0 : (t : Truth) → 0 < length t.zones → (zone_at t 0).kind ≡ Sequential → (zone_at t 0).cond ≡ Good → IsZone0 (effect t (Manage 0 Reset)) Sequential 0 []
reset_zone0 t there kind cond = put_zone0 t (managed Reset t.shape (zone_at t 0)) Sequential 0 [] there kind cond refl refl (λ told. refl)

pub finish_zone0 : (t : Truth) (held : ℕ) (bytes : List ℕ) → IsZone0 t Sequential held bytes
    → IsZone0 (effect t (Manage 0 Finish)) Sequential t.shape.zone_capacity (bytes ++ replicate (4096 * (t.shape.zone_capacity - held)) 0)
finish_zone0 t held bytes h =
    put_zone0 t (managed Finish t.shape (zone_at t 0)) Sequential t.shape.zone_capacity (bytes ++ replicate (4096 * (t.shape.zone_capacity - held)) 0) h.there h.kind_is h.cond_is refl refl
    (λ told. ap (λ (n : ℕ). (zone_at t 0).bytes ++ replicate (4096 * (t.shape.zone_capacity - n)) 0) h.held_is ∙ ap (λ (l : List ℕ). l ++ replicate (4096 * (t.shape.zone_capacity - held)) 0) (h.bytes_are told))

pub append_zone0 : (t : Truth) (held : ℕ) (bytes new : List ℕ) → IsZone0 t Sequential held bytes → IsZone0 (effect t (WriteAt 0 held new)) Sequential (held + length new / 4096) (bytes ++ new)
append_zone0 t held bytes new h =
    let x = zone_at t 0 in
    let after : Kind → Truth = λ k. with_zone t 0 (written k t.shape x held new) in
    subst (λ (k : Kind). IsZone0 (after k) Sequential (held + length new / 4096) (bytes ++ new)) (sym h.kind_is)
    (put_zone0 t (written Sequential t.shape x held new) Sequential (held + length new / 4096) (bytes ++ new) h.there h.kind_is h.cond_is
    (ap (λ (n : ℕ). n + length new / 4096) h.held_is)
    (ap (λ (b : Bool). b && not (eqb (x.held + length new / 4096) t.shape.zone_capacity)) h.closed)
    (λ told. ap (λ (l : List ℕ). l ++ new) (h.bytes_are told)))

pub replace_zone0 : (t : Truth) (held at : ℕ) (bytes new : List ℕ) → IsZone0 t Conventional held bytes → IsZone0 (effect t (WriteAt 0 at new)) Conventional held (replaced bytes (4096 * at) new)
replace_zone0 t held at bytes new h =
    let x = zone_at t 0 in
    let after : Kind → Truth = λ k. with_zone t 0 (written k t.shape x at new) in
    subst (λ (k : Kind). IsZone0 (after k) Conventional held (replaced bytes (4096 * at) new)) (sym h.kind_is)
    (put_zone0 t (written Conventional t.shape x at new) Conventional held (replaced bytes (4096 * at) new) h.there h.kind_is h.cond_is h.held_is h.closed
    (λ told. ap (λ (l : List ℕ). replaced l (4096 * at) new) (h.bytes_are told)))

pub flush_zone0 : (t : Truth) (kind : Kind) (held : ℕ) (bytes : List ℕ) → IsZone0 t kind held bytes → IsZone0 (effect t FlushAll) kind held bytes
flush_zone0 t kind held bytes h =
    let is = at_flush t 0 in
    record {
      there = rw (length-map t.zones flushed) h.there;
      kind_is = ap (λ (z : Zone). z.kind) is ∙ h.kind_is;
      cond_is = ap (λ (z : Zone). z.cond) is ∙ h.cond_is;
      held_is = ap (λ (z : Zone). z.held) is ∙ h.held_is;
      closed = ap (λ (z : Zone). z.explicit) is ∙ h.closed;
      bytes_are = λ told. ap (λ (z : Zone). z.bytes) is ∙ h.bytes_are told;
    }

-- ---- which orders on zone 0 aren't refused

pub manage_allowed : (t : Truth) (z : ℕ) → (zone_at t z).cond ≡ Good → refusal t (Manage z Reset) ≡ None
manage_allowed t z good = ap (λ (c : Cond). changing c None) good

pub finish_allowed : (t : Truth) → (zone_at t 0).cond ≡ Good → refusal t (Manage 0 Finish) ≡ None
finish_allowed t good = ap (λ (c : Cond). changing c None) good

pub replace_allowed : (t : Truth) (at held : ℕ) (bytes new : List ℕ) → IsZone0 t Conventional held bytes → refusal t (WriteAt 0 at new) ≡ None
replace_allowed t at held bytes new h =
    ap (λ (c : Cond). changing c (writing (zone_at t 0).kind t (zone_at t 0) at)) h.cond_is ∙ ap (λ (k : Kind). writing k t (zone_at t 0) at) h.kind_is

reached_by_none : (limit : ℕ) → is_reached limit 0 ≡ false
reached_by_none limit = grind (arith, nat_tests)

three_tests : (a b c : Bool) (x y : DevError) → a ≡ false → b ≡ false → c ≡ false → (if a then None else if b then Some x else if c then Some y else None) ≡ None
three_tests true b c x y h k l = absurd (false≢true (sym h))
three_tests false true c x y h k l = absurd (false≢true (sym k))
three_tests false false true x y h k l = absurd (false≢true (sym l))
three_tests false false false x y h k l = refl

opening_none : (t : Truth) (zone : Zone) → zone.explicit ≡ false → explicit t ≡ 0 → (active t ≡ 0) ⊎ (0 < zone.held) → opening t zone ≡ None
opening_none t zone closed none either =
    let no_active : (eqb zone.held 0 && is_reached t.shape.max_active (active t)) ≡ false = ⊎_elim
    (λ (h : active t ≡ 0). and_right (eqb zone.held 0) _ (ap (is_reached t.shape.max_active) h ∙ reached_by_none t.shape.max_active))
    (λ (h : 0 < zone.held). and_left _ _ (ne_eqb zone.held 0 (λ is. omega arith))) either in
    let no_open : (not (eqb zone.held t.shape.zone_capacity) && is_reached t.shape.max_open (explicit t)) ≡ false =
    and_right (not (eqb zone.held t.shape.zone_capacity)) _ (ap (is_reached t.shape.max_open) none ∙ reached_by_none t.shape.max_open) in
    three_tests zone.explicit _ _ TooManyActive TooManyOpen closed no_active no_open

pub append_allowed : (t : Truth) (held : ℕ) (bytes new : List ℕ) → IsZone0 t Sequential held bytes → explicit t ≡ 0 → (active t ≡ 0) ⊎ (0 < held) → refusal t (WriteAt 0 held new) ≡ None
append_allowed t held bytes new h none either =
    let x = zone_at t 0 in
    let either' = subst (λ (n : ℕ). (active t ≡ 0) ⊎ (0 < n)) (sym h.held_is) either in
    ap (λ (c : Cond). changing c (writing x.kind t x held)) h.cond_is
    ∙ ap (λ (k : Kind). writing k t x held) h.kind_is
    ∙ ap (λ (b : Bool). if b then opening t x else Some Unaligned) (eq-eqb x.held held h.held_is)
    ∙ opening_none t x h.closed none either'

-- ---- counts

pub count_none : {X : Type 0} (p : X → Bool) (xs : List X) (d : X) → ((k : ℕ) → k < length xs → p (get_or xs k d) ≡ false) → count_by p xs ≡ 0
count_none p [] d h = refl
count_none p (x ∷ xs) d h =
    sum_by-cons (λ y. cond (p y) 1 0) x xs
    ∙ ap (λ (b : Bool). cond b 1 0 + count_by p xs) (h 0 (omega arith))
    ∙ zero-add (count_by p xs)
    ∙ count_none p xs d (λ k lt. h (suc k) (omega arith))
