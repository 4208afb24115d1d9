-- What a scripted loss of power leaves is a loss of what was.
use Rattle.std.proofs.Common.{◌≡◌, ℕ, zero, suc, ◌+◌, ◌-◌, ◌*◌, ◌<◌, ◌≤◌, min, Bool, true, false, List, [], ◌∷◌, ◌++◌, length, take, drop, replicate, get_or, Option, Some, None, refl, sym, ap, ◌∙◌, subst, arith, add-zero, length-append, length-take, length-drop, IsTrue}
use Rattle.std.specs.Prelude.{if◌then◌else◌, unwrap_or}
use Rattle.std.proofs.lemmas.Bool.{false≢true}
use Rattle.std.proofs.lemmas.List.{length-replicate, take_at, drop_at, length-take-le, drop-drop, take-take, nil_from_length}
use Rattle.zn_truth.specs.declared.Kind.{Kind}
use Rattle.zn_truth.specs.declared.Kind.TheVariants.{Conventional, Sequential}
use Rattle.zn_truth.specs.declared.Shape.{Shape}
use Rattle.zn_truth.specs.declared.LossSpec.{LossSpec}
use Rattle.zn_truth.specs.Truth.{Zone, Truth, zone_at, no_zone, seen, is_sequential, cleared, IsSound, IsSoundZone}
use Rattle.zn_truth.specs.Power.{with_fill, with_fill_unflushed, with_filled_blocks, clamped, cut_of, zone_lost, zones_lost, lost}
use Rattle.zn_truth.specs.Loss.{Keeps, IsZoneLoss, IsLossOf}

-- ---- bytes

pub length-with_filled_blocks : (byte : ℕ) (flags : List Bool) (bytes : List ℕ) → length (with_filled_blocks byte flags bytes) ≡ length bytes
length-with_filled_blocks byte [] bytes = refl
length-with_filled_blocks byte (true ∷ flags) bytes =
    omega (arith, length-append (replicate (min 4096 (length bytes)) byte) (with_filled_blocks byte flags (drop 4096 bytes)), length-replicate (min 4096 (length bytes)) byte, length-with_filled_blocks byte flags (drop 4096 bytes), length-drop 4096 bytes)
length-with_filled_blocks byte (false ∷ flags) bytes =
    omega (arith, length-append (take 4096 bytes) (with_filled_blocks byte flags (drop 4096 bytes)), length-take 4096 bytes, length-with_filled_blocks byte flags (drop 4096 bytes), length-drop 4096 bytes)

front_kept : (n : ℕ) (xs ys : List ℕ) → n ≤ length xs → take n (take n xs ++ ys) ≡ take n xs
front_kept n xs ys h = take_at (take n xs) ys n (length-take-le n xs h)

next_block : (n i j : ℕ) (head rest bytes : List ℕ) → j ≡ n + i → length head ≡ n → take n (drop i rest) ≡ take n (drop i (drop n bytes)) → take n (drop j (head ++ rest)) ≡ take n (drop j bytes)
next_block n i j head rest bytes is size h =
    ap (λ (m : ℕ). take n (drop m (head ++ rest))) is
    ∙ ap (take n) (sym (drop-drop i n (head ++ rest)) ∙ ap (drop i) (drop_at head rest n size))
    ∙ h
    ∙ ap (take n) (drop-drop i n bytes)
    ∙ ap (λ (m : ℕ). take n (drop m bytes)) (sym is)

length-block : (flag : Bool) (byte : ℕ) (bytes : List ℕ) → length (if flag then replicate (min 4096 (length bytes)) byte else take 4096 bytes) ≡ min 4096 (length bytes)
length-block true byte bytes = length-replicate (min 4096 (length bytes)) byte
length-block false byte bytes = length-take 4096 bytes

-- each block without a flag stays
pub block_kept : (byte : ℕ) (flags : List Bool) (bytes : List ℕ) (k : ℕ) → 4096 * k + 4096 ≤ length bytes → get_or flags k false ≡ false
    → take 4096 (drop (4096 * k) (with_filled_blocks byte flags bytes)) ≡ take 4096 (drop (4096 * k) bytes)
block_kept byte [] bytes k fits none = refl
block_kept byte (true ∷ flags) bytes zero fits none = absurd (cc)
block_kept byte (false ∷ flags) bytes zero fits none = front_kept 4096 bytes (with_filled_blocks byte flags (drop 4096 bytes)) (omega arith)
block_kept byte (flag ∷ flags) bytes (suc k) fits none =
    next_block 4096 (4096 * k) (4096 * suc k) _ (with_filled_blocks byte flags (drop 4096 bytes)) bytes (omega arith) (omega (arith, length-block flag byte bytes))
    (block_kept byte flags (drop 4096 bytes) k (omega (arith, length-drop 4096 bytes)) none)

-- the bytes in front stay
pub front_filled : (fill : Option ℕ) (durable len : ℕ) (bytes : List ℕ) → durable ≤ len → 4096 * len ≤ length bytes
    → take (4096 * durable) (with_fill fill durable (take (4096 * len) bytes)) ≡ take (4096 * durable) bytes
front_filled None durable len bytes le fits = take-take (4096 * durable) (4096 * len) bytes (omega arith)
front_filled (Some byte) durable len bytes le fits =
    front_kept (4096 * durable) (take (4096 * len) bytes) _ (omega (arith, length-take (4096 * len) bytes))
    ∙ take-take (4096 * durable) (4096 * len) bytes (omega arith)

pub length-with_fill : (fill : Option ℕ) (from : ℕ) (bytes : List ℕ) → 4096 * from ≤ length bytes → length (with_fill fill from bytes) ≡ length bytes
length-with_fill None from bytes fits = refl
length-with_fill (Some byte) from bytes fits =
    omega (arith, length-append (take (4096 * from) bytes) (replicate (length bytes - 4096 * from) byte), length-take (4096 * from) bytes, length-replicate (length bytes - 4096 * from) byte)

-- ---- one zone

-- what a loss needs of a zone
pub record IsFit (told : Bool) (zone : Zone) : Type 0 where
  pub bytes : length zone.bytes ≡ (if told then 4096 * zone.held else 0)
  pub durable : zone.durable ≤ zone.held
  pub whole : ¬ IsTrue (is_sequential zone.kind) → zone.durable ≡ zone.held
  pub flags : length zone.unflushed ≡ (if is_sequential zone.kind then 0 else zone.held)

pub fit_of_sound : (told : Bool) (shape : Shape) (zone : Zone) → IsSoundZone told shape zone → IsFit told zone
fit_of_sound told shape zone sound = record { bytes = sound.bytes; durable = sound.durable; whole = sound.whole; flags = sound.flags }

nothing_cleared : (flags : List Bool) → length flags ≡ 0 → flags ≡ cleared flags
nothing_cleared flags h = rw (nil_from_length flags h) refl

pub no_bytes : (zone : Zone) → IsFit false zone → zone.bytes ≡ []
no_bytes zone fit = nil_from_length zone.bytes fit.bytes

pub sequential_flags : (told : Bool) (zone : Zone) → zone.kind ≡ Sequential → IsFit told zone → length zone.unflushed ≡ 0
sequential_flags told zone kind fit = fit.flags ∙ ap (λ (k : Kind). if is_sequential k then 0 else zone.held) kind

pub conventional_flags : (told : Bool) (zone : Zone) → zone.kind ≡ Conventional → IsFit told zone → length zone.unflushed ≡ zone.held
conventional_flags told zone kind fit = fit.flags ∙ ap (λ (k : Kind). if is_sequential k then 0 else zone.held) kind

pub conventional_whole : (told : Bool) (zone : Zone) → zone.kind ≡ Conventional → IsFit told zone → zone.durable ≡ zone.held
conventional_whole told zone kind fit = fit.whole (λ yes. let no : is_sequential Conventional ≡ true = ap is_sequential (sym kind) ∙ yes in absurd (false≢true no))

-- the front of what a sequential zone keeps
pub front_lost : (told : Bool) (fill : Option ℕ) (zone : Zone) (len : ℕ) → IsFit told zone → zone.durable ≤ len → len ≤ zone.held
    → take (4096 * zone.durable) (if told then with_fill fill zone.durable (take (4096 * len) zone.bytes) else []) ≡ take (4096 * zone.durable) zone.bytes
front_lost true fill zone len fit low high = front_filled fill zone.durable len zone.bytes low (omega (arith, fit.bytes))
front_lost false fill zone len fit low high = ap (take (4096 * zone.durable)) (sym (no_bytes zone fit))

pub length-settled : (told : Bool) (fill : Option ℕ) (zone : Zone) (len : ℕ) → IsFit told zone → zone.durable ≤ len → len ≤ zone.held
    → length (if told then with_fill fill zone.durable (take (4096 * len) zone.bytes) else []) ≡ (if told then 4096 * len else 0)
length-settled true fill zone len fit low high =
    omega (arith, fit.bytes, length-take (4096 * len) zone.bytes, length-with_fill fill zone.durable (take (4096 * len) zone.bytes) (omega (arith, fit.bytes, length-take (4096 * len) zone.bytes)))
length-settled false fill zone len fit low high = refl

pub clamped_low : (zone : Zone) (len : ℕ) → zone.durable ≤ zone.held → zone.durable ≤ clamped zone len
clamped_low zone len h = omega arith

pub clamped_high : (zone : Zone) (len : ℕ) → clamped zone len ≤ zone.held
clamped_high zone len = omega arith

sequential_lost : (told : Bool) (zone : Zone) (z : ℕ) (loss : LossSpec) → zone.kind ≡ Sequential → IsFit told zone → IsZoneLoss told zone (seen told (zone_lost Sequential zone z loss))
sequential_lost told zone z loss kind fit =
    let len = clamped zone (unwrap_or (cut_of loss.cuts z) zone.durable) in
    let low : zone.durable ≤ len = clamped_low zone _ fit.durable in
    let high : len ≤ zone.held = clamped_high zone _ in
    let keeps : Keeps Sequential zone (seen told (zone_lost Sequential zone z loss)) = record { no_less = low; no_more = high; front = front_lost told loss.fill zone len fit low high } in
    record {
      kind = refl;
      cond = refl;
      keeps = subst (λ (k : Kind). Keeps k zone (seen told (zone_lost Sequential zone z loss))) (sym kind) keeps;
      whole = length-settled told loss.fill zone len fit low high;
      durable = refl;
      flushed = nothing_cleared zone.unflushed (sequential_flags told zone kind fit);
      closed = refl;
    }

-- the blocks that a conventional zone keeps
blocks_lost : (told : Bool) (fill : Option ℕ) (zone : Zone) (k : ℕ) → IsFit told zone → k < zone.held → get_or zone.unflushed k false ≡ false
    → take 4096 (drop (4096 * k) (if told then with_fill_unflushed fill zone.unflushed zone.bytes else [])) ≡ take 4096 (drop (4096 * k) zone.bytes)
blocks_lost true None zone k fit h none = refl
blocks_lost true (Some byte) zone k fit h none = block_kept byte zone.unflushed zone.bytes k (omega (arith, fit.bytes)) none
blocks_lost false fill zone k fit h none = ap (λ (bytes : List ℕ). take 4096 (drop (4096 * k) bytes)) (sym (no_bytes zone fit))

length-unflushed_filled : (told : Bool) (fill : Option ℕ) (zone : Zone) → IsFit told zone → length (if told then with_fill_unflushed fill zone.unflushed zone.bytes else []) ≡ (if told then 4096 * zone.held else 0)
length-unflushed_filled true None zone fit = fit.bytes
length-unflushed_filled true (Some byte) zone fit = length-with_filled_blocks byte zone.unflushed zone.bytes ∙ fit.bytes
length-unflushed_filled false fill zone fit = refl

conventional_lost : (told : Bool) (zone : Zone) (z : ℕ) (loss : LossSpec) → zone.kind ≡ Conventional → IsFit told zone → IsZoneLoss told zone (seen told (zone_lost Conventional zone z loss))
conventional_lost told zone z loss kind fit =
    let keeps : Keeps Conventional zone (seen told (zone_lost Conventional zone z loss)) = record { held = refl; blocks = λ k h none. blocks_lost told loss.fill zone k fit h none } in
    record {
      kind = refl;
      cond = refl;
      keeps = subst (λ (k : Kind). Keeps k zone (seen told (zone_lost Conventional zone z loss))) (sym kind) keeps;
      whole = length-unflushed_filled told loss.fill zone fit;
      durable = conventional_whole told zone kind fit;
      flushed = refl;
      closed = refl;
    }

by_kind : (told : Bool) (kind : Kind) (zone : Zone) (z : ℕ) (loss : LossSpec) → zone.kind ≡ kind → IsFit told zone → IsZoneLoss told zone (seen told (zone_lost kind zone z loss))
by_kind told Sequential zone z loss is fit = sequential_lost told zone z loss is fit
by_kind told Conventional zone z loss is fit = conventional_lost told zone z loss is fit

pub zone_lost_is_loss : (told : Bool) (zone : Zone) (z : ℕ) (loss : LossSpec) → IsFit told zone → IsZoneLoss told zone (seen told (zone_lost zone.kind zone z loss))
zone_lost_is_loss told zone z loss fit = by_kind told zone.kind zone z loss refl fit

-- ---- all zones

pub length-zones_lost : (told : Bool) (z : ℕ) (zones : List Zone) (loss : LossSpec) → length (zones_lost told z zones loss) ≡ length zones
length-zones_lost told z [] loss = refl
length-zones_lost told z (zone ∷ zones) loss = ap suc (length-zones_lost told (z + 1) zones loss)

pub zones_lost-at : (told : Bool) (z k : ℕ) (zones : List Zone) (loss : LossSpec) → k < length zones
    → get_or (zones_lost told z zones loss) k no_zone ≡ seen told (zone_lost (get_or zones k no_zone).kind (get_or zones k no_zone) (z + k) loss)
zones_lost-at told z k [] loss h = absurd (omega arith)
zones_lost-at told z zero (zone ∷ zones) loss h = ap (λ (n : ℕ). seen told (zone_lost zone.kind zone n loss)) (sym (add-zero z))
zones_lost-at told z (suc k) (zone ∷ zones) loss h =
    let same : (z + 1) + k ≡ z + suc k = omega arith in
    zones_lost-at told (z + 1) k zones loss (omega arith) ∙ ap (λ (n : ℕ). seen told (zone_lost (get_or zones k no_zone).kind (get_or zones k no_zone) n loss)) same

pub zone_at-lost : (t : Truth) (z : ℕ) (loss : LossSpec) → z < length t.zones → zone_at (lost t loss) z ≡ seen t.told (zone_lost (zone_at t z).kind (zone_at t z) z loss)
unfolding lost
zone_at-lost t z loss h =
    zones_lost-at t.told 0 z t.zones loss h ∙ ap (λ (n : ℕ). seen t.told (zone_lost (zone_at t z).kind (zone_at t z) n loss)) (let e : 0 + z ≡ z = omega arith in e)

-- what a loss needs of a truth
pub record AreFit (t : Truth) : Type 0 where
  pub zones : (z : ℕ) → z < length t.zones → IsFit t.told (zone_at t z)

pub fit_if_sound : (t : Truth) → IsSound t → AreFit t
fit_if_sound t sound = record { zones = λ z h. fit_of_sound t.told t.shape (zone_at t z) (sound.zones z h) }

pub told-lost : (t : Truth) (loss : LossSpec) → (lost t loss).told ≡ t.told
unfolding lost
told-lost t loss = refl

pub shape-lost : (t : Truth) (loss : LossSpec) → (lost t loss).shape ≡ t.shape
unfolding lost
shape-lost t loss = refl

pub length-lost : (t : Truth) (loss : LossSpec) → length (lost t loss).zones ≡ length t.zones
unfolding lost
length-lost t loss = length-zones_lost t.told 0 t.zones loss

pub fit_lost : (t : Truth) (loss : LossSpec) → AreFit t → IsLossOf t (lost t loss)
fit_lost t loss fit = record {
  told = told-lost t loss;
  shape = shape-lost t loss;
  count = length-lost t loss;
  zones = λ z h. subst (λ (zone : Zone). IsZoneLoss t.told (zone_at t z) zone) (sym (zone_at-lost t z loss h)) (zone_lost_is_loss t.told (zone_at t z) z loss (fit.zones z h));
}

pub lost_is_loss : (t : Truth) (loss : LossSpec) → IsSound t → IsLossOf t (lost t loss)
lost_is_loss t loss sound = fit_lost t loss (fit_if_sound t sound)
