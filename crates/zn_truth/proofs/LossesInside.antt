-- A scripted loss of power inside an order is one that may strike there.
use Rattle.std.proofs.Common.{◌≡◌, inl, inr, ℕ, ◌+◌, ◌*◌, ◌/◌, ◌<◌, ◌≤◌, Bool, true, false, List, [], ◌++◌, length, take, set, Option, Some, None, refl, sym, ap, ◌∙◌, subst, arith, length-append, length-take}
use Rattle.std.specs.Prelude.{if◌then◌else◌, ◌≢◌}
use Rattle.std.proofs.lemmas.Bool.{cases_eq}
use Rattle.std.proofs.lemmas.List.{length-replicate, length-set, get_or-set_same, get_or-set_other, set-set, set-get_or, take-append-le, take-take}
use Rattle.zn_truth.specs.declared.Kind.{Kind}
use Rattle.zn_truth.specs.declared.Kind.TheVariants.{Sequential}
use Rattle.zn_truth.specs.declared.Shape.{Shape}
use Rattle.zn_truth.specs.declared.LossSpec.{LossSpec}
use Rattle.zn_truth.specs.Truth.{Zone, Truth, zone_at, no_zone, with_zone, seen, is_sequential, cleared}
use Rattle.zn_truth.specs.Orders.{placed, written}
use Rattle.zn_truth.specs.Power.{settled, clamped, stored, lost}
use Rattle.zn_truth.specs.Loss.{Keeps, KeepsDurable, IsZoneLoss, IsLossOf}
use Rattle.zn_truth.proofs.Losses.{IsFit, AreFit, no_bytes, sequential_flags, front_lost, length-settled, clamped_low, clamped_high, fit_lost, told-lost, shape-lost, length-lost}

-- ---- one zone of a truth

pub zone_at-with : (t : Truth) (z : ℕ) (zone : Zone) → z < length t.zones → zone_at (with_zone t z zone) z ≡ seen t.told zone
zone_at-with t z zone h = get_or-set_same t.zones z (seen t.told zone) no_zone h

pub zone_at-other : (t : Truth) (z k : ℕ) (zone : Zone) → k ≢ z → zone_at (with_zone t z zone) k ≡ zone_at t k
zone_at-other t z k zone h = get_or-set_other t.zones z k (seen t.told zone) no_zone h

pub with_with : (t : Truth) (z : ℕ) (first second : Zone) → with_zone (with_zone t z first) z second ≡ with_zone t z second
with_with t z first second = ap (λ (zones : List Zone). let u : Truth = record t { zones = zones } in u) (set-set t.zones z (seen t.told first) (seen t.told second))

pub seen_same : (told : Bool) (zone : Zone) → IsFit told zone → seen told zone ≡ zone
seen_same true zone fit = refl
seen_same false zone fit = ap (λ (bytes : List ℕ). let same : Zone = record zone { bytes = bytes } in same) (sym (no_bytes zone fit))

pub with_same : (t : Truth) (z : ℕ) → IsFit t.told (zone_at t z) → with_zone t z (zone_at t z) ≡ t
with_same t z fit = ap (λ (zones : List Zone). let u : Truth = record t { zones = zones } in u) (ap (set t.zones z) (seen_same t.told (zone_at t z) fit) ∙ set-get_or t.zones z no_zone)

pub fit_with : (t : Truth) (z : ℕ) (zone : Zone) → AreFit t → z < length t.zones → IsFit t.told (seen t.told zone) → AreFit (with_zone t z zone)
fit_with t z zone fit h new = record {
  zones = λ k below. elim (cases_eq k z) [
    | inl same ↦ subst (λ (n : ℕ). IsFit t.told (zone_at (with_zone t z zone) n)) (sym same) (subst (IsFit t.told) (sym (zone_at-with t z zone h)) new)
    | inr other ↦ subst (IsFit t.told) (sym (zone_at-other t z k zone other)) (fit.zones k (omega (arith, length-set t.zones z (seen t.told zone))))
  ];
}

-- ---- a loss of what is left

-- A sequential zone with fewer blocks, or more of them durable.
pub record Lessens (old new : Zone) : Type 0 where
  pub kind : old.kind ≡ Sequential
  pub same : new.kind ≡ Sequential
  pub cond : new.cond ≡ old.cond
  pub durable : old.durable ≤ new.durable
  pub held : new.held ≤ old.held
  pub front : take (4096 * old.durable) new.bytes ≡ take (4096 * old.durable) old.bytes
  pub flags : new.unflushed ≡ old.unflushed

keeps_of : (old new : Zone) → old.kind ≡ Sequential → Keeps old.kind old new → KeepsDurable old new
keeps_of old new kind keeps = subst (λ (k : Kind). Keeps k old new) kind keeps

keeps_from : (old new : Zone) → old.kind ≡ Sequential → KeepsDurable old new → Keeps old.kind old new
keeps_from old new kind keeps = subst (λ (k : Kind). Keeps k old new) (sym kind) keeps

-- what a loss leaves of what is left of a zone, it may leave of the zone
pub lessened_loss : (told : Bool) (old middle new : Zone) → Lessens old middle → IsZoneLoss told middle new → IsZoneLoss told old new
lessened_loss told old middle new less loss =
    let keeps = keeps_of middle new less.same loss.keeps in
    let front : take (4096 * old.durable) new.bytes ≡ take (4096 * old.durable) old.bytes =
    sym (take-take (4096 * old.durable) (4096 * middle.durable) new.bytes (omega (arith, less.durable)))
    ∙ ap (take (4096 * old.durable)) keeps.front
    ∙ take-take (4096 * old.durable) (4096 * middle.durable) middle.bytes (omega (arith, less.durable))
    ∙ less.front in
    record {
      kind = loss.kind ∙ less.same ∙ sym less.kind;
      cond = loss.cond ∙ less.cond;
      keeps = keeps_from old new less.kind (record { no_less = omega (arith, keeps.no_less, less.durable); no_more = omega (arith, keeps.no_more, less.held); front = front });
      whole = loss.whole;
      durable = loss.durable;
      flushed = loss.flushed ∙ ap cleared less.flags;
      closed = loss.closed;
    }

-- a loss that strikes when something is left of one zone
pub lessened_is_loss : (t : Truth) (z : ℕ) (old middle : Zone) (loss : LossSpec) → AreFit t → z < length t.zones → IsFit t.told (seen t.told middle) → Lessens (seen t.told old) (seen t.told middle)
    → IsLossOf (with_zone t z old) (lost (with_zone t z middle) loss)
lessened_is_loss t z old middle loss fit h new less = record {
  told = told-lost (with_zone t z middle) loss;
  shape = shape-lost (with_zone t z middle) loss;
  count = length-lost (with_zone t z middle) loss ∙ length-set t.zones z (seen t.told middle) ∙ sym (length-set t.zones z (seen t.told old));
  zones = λ k below.
      let step : IsZoneLoss t.told (zone_at (with_zone t z middle) k) (zone_at (lost (with_zone t z middle) loss) k) =
      (fit_lost (with_zone t z middle) loss (fit_with t z middle fit h new)).zones k (omega (arith, below, length-set t.zones z (seen t.told middle), length-set t.zones z (seen t.told old))) in
      elim (cases_eq k z) [
        | inl same ↦
            let here = subst (λ (zone : Zone). IsZoneLoss t.told zone (zone_at (lost (with_zone t z middle) loss) k)) (ap (zone_at (with_zone t z middle)) same ∙ zone_at-with t z middle h) step in
            subst (λ (zone : Zone). IsZoneLoss t.told zone (zone_at (lost (with_zone t z middle) loss) k)) (sym (ap (zone_at (with_zone t z old)) same ∙ zone_at-with t z old h)) (lessened_loss t.told (seen t.told old) (seen t.told middle) _ less here)
        | inr other ↦
            subst (λ (zone : Zone). IsZoneLoss t.told zone (zone_at (lost (with_zone t z middle) loss) k)) (zone_at-other t z k middle other ∙ sym (zone_at-other t z k old other)) step
      ];
}

-- ---- a sequential write

-- A sequential zone on the way to a loss: it holds what was durable, and no more than `old`.
pub record Shortens (told : Bool) (old new : Zone) : Type 0 where
  pub kind : old.kind ≡ Sequential
  pub same : new.kind ≡ Sequential
  pub cond : new.cond ≡ old.cond
  pub low : old.durable ≤ new.held
  pub high : new.held ≤ old.held
  pub front : take (4096 * old.durable) (seen told new).bytes ≡ take (4096 * old.durable) (seen told old).bytes
  pub size : length (seen told new).bytes ≡ (if told then 4096 * new.held else 0)
  pub flags : new.unflushed ≡ old.unflushed
  pub none : length old.unflushed ≡ 0

no_flags : (kind : Kind) (n held : ℕ) → kind ≡ Sequential → n ≡ 0 → n ≡ (if is_sequential kind then 0 else held)
no_flags kind n held is none = none ∙ ap (λ (k : Kind). if is_sequential k then 0 else held) (sym is)

pub shortened_fit : (told : Bool) (old new : Zone) → Shortens told old new → new.durable ≡ new.held → IsFit told (seen told new)
shortened_fit told old new short all = record {
  bytes = short.size;
  durable = omega arith;
  whole = λ no. all;
  flags = no_flags new.kind (length new.unflushed) new.held short.same (ap length short.flags ∙ short.none);
}

pub shortened_lessens : (told : Bool) (old new : Zone) → Shortens told old new → new.durable ≡ new.held → Lessens (seen told old) (seen told new)
shortened_lessens told old new short all = record {
  kind = short.kind;
  same = short.same;
  cond = short.cond;
  durable = omega (arith, short.low);
  held = short.high;
  front = short.front;
  flags = short.flags;
}

-- all that a zone holds is made durable
abbrev pub all_settled : Bool → Zone → Zone
all_settled told zone = settled (seen told zone) zone.held zone.held None

settled_front : (told : Bool) (n held : ℕ) (bytes front : List ℕ) → n ≤ held → take (4096 * n) (if told then bytes else []) ≡ take (4096 * n) front
    → take (4096 * n) (if told then take (4096 * held) (if told then bytes else []) else []) ≡ take (4096 * n) front
settled_front true n held bytes front le h = take-take (4096 * n) (4096 * held) bytes (omega arith) ∙ h
settled_front false n held bytes front le h = h

settled_size : (told : Bool) (held : ℕ) (bytes : List ℕ) → length (if told then bytes else []) ≡ (if told then 4096 * held else 0)
    → length (if told then take (4096 * held) (if told then bytes else []) else []) ≡ (if told then 4096 * held else 0)
settled_size true held bytes h = omega (arith, length-take (4096 * held) bytes)
settled_size false held bytes h = refl

pub settled_shortens : (told : Bool) (old new : Zone) → Shortens told old new → Shortens told old (all_settled told new)
settled_shortens told old new short = record {
  kind = short.kind;
  same = short.same;
  cond = short.cond;
  low = short.low;
  high = short.high;
  front = settled_front told old.durable new.held new.bytes (seen told old).bytes short.low short.front;
  size = settled_size told new.held new.bytes short.size;
  flags = short.flags;
  none = short.none;
}

-- a zone that is cut
abbrev pub cut_zone : Zone → ℕ → Option ℕ → Zone
cut_zone zone cut fill = settled zone zone.durable (clamped zone cut) fill

told_front : (told : Bool) (n : ℕ) (zone : Zone) → IsFit told zone → take (4096 * n) zone.bytes ≡ take (4096 * n) (seen told zone).bytes
told_front true n zone fit = refl
told_front false n zone fit = ap (take (4096 * n)) (no_bytes zone fit)

pub cut_shortens : (told : Bool) (zone : Zone) (cut : ℕ) (fill : Option ℕ) → IsFit told zone → zone.kind ≡ Sequential → Shortens told zone (cut_zone zone cut fill)
cut_shortens told zone cut fill fit kind =
    let low : zone.durable ≤ clamped zone cut = clamped_low zone cut fit.durable in
    let high : clamped zone cut ≤ zone.held = clamped_high zone cut in
    record {
      kind = kind;
      same = kind;
      cond = refl;
      low = low;
      high = high;
      front = front_lost told fill zone (clamped zone cut) fit low high ∙ told_front told zone.durable zone fit;
      size = length-settled told fill zone (clamped zone cut) fit low high;
      flags = refl;
      none = sequential_flags told zone kind fit;
    }

front_placed : (told : Bool) (zone : Zone) (new : List ℕ) → IsFit told zone → take (4096 * zone.durable) (seen told zone).bytes ≡ take (4096 * zone.durable) (if told then zone.bytes ++ new else [])
front_placed true zone new fit = sym (take-append-le (4096 * zone.durable) zone.bytes new (omega (arith, fit.bytes, fit.durable)))
front_placed false zone new fit = refl

-- what shortens a zone shortens it with more bytes in place
pub placed_shortens : (told : Bool) (zone new : Zone) (at : ℕ) (bytes : List ℕ) → IsFit told zone → Shortens told zone new → Shortens told (placed Sequential zone at bytes) new
placed_shortens told zone new at bytes fit short = record {
  kind = short.kind;
  same = short.same;
  cond = short.cond;
  low = short.low;
  high = omega (arith, short.high);
  front = short.front ∙ front_placed told zone bytes fit;
  size = short.size;
  flags = short.flags;
  none = short.none;
}

pub length-stored : (fill : Option ℕ) (bytes : List ℕ) → length (stored fill bytes) ≡ length bytes
length-stored None bytes = refl
length-stored (Some byte) bytes = length-replicate (length bytes) byte

front_more : (told : Bool) (n held : ℕ) (bytes part front : List ℕ) → n ≤ held → length (if told then bytes else []) ≡ (if told then 4096 * held else 0) → take (4096 * n) (if told then bytes else []) ≡ take (4096 * n) front
    → take (4096 * n) (if told then (if told then bytes else []) ++ part else []) ≡ take (4096 * n) front
front_more true n held bytes part front le size h = take-append-le (4096 * n) bytes part (omega (arith, size)) ∙ h
front_more false n held bytes part front le size h = h

size_more : (told : Bool) (held : ℕ) (bytes part : List ℕ) → length (if told then bytes else []) ≡ (if told then 4096 * held else 0) → 4096 * (length part / 4096) ≡ length part
    → length (if told then (if told then bytes else []) ++ part else []) ≡ (if told then 4096 * (held + length part / 4096) else 0)
size_more true held bytes part size whole = omega (arith, length-append bytes part)
size_more false held bytes part size whole = refl

-- a part of the bytes behind all that the zone holds
pub part_shortens : (told : Bool) (shape : Shape) (zone new : Zone) (at : ℕ) (bytes part : List ℕ) → Shortens told zone new → Shortens told (placed Sequential zone at bytes) new → 4096 * (length part / 4096) ≡ length part → length part ≤ length bytes
    → Shortens told (placed Sequential zone at bytes) (written Sequential shape (seen told new) at part)
part_shortens told shape zone new at bytes part within short whole fits = record {
  kind = short.kind;
  same = short.same;
  cond = short.cond;
  low = omega (arith, short.low);
  high = grind (arith, within.high);
  front = front_more told zone.durable new.held new.bytes part (seen told (placed Sequential zone at bytes)).bytes short.low short.size short.front;
  size = size_more told new.held new.bytes part short.size whole;
  flags = short.flags;
  none = short.none;
}
