-- What reads give.
use Rattle.std.proofs.Common.{◌≡◌, ℕ, zero, suc, ◌+◌, ◌-◌, ◌*◌, ◌/◌, ◌<◌, ◌≤◌, true, List, [], ◌++◌, length, take, Ok, refl, sym, ap, ◌∙◌, subst, arith, append_assoc}
use Rattle.std.specs.List.{range_with_len, flat_map}
use Rattle.std.proofs.Math.Nat.{div-mul-le_self, lt-div-mul-add}
use Rattle.std.proofs.lemmas.Grind.{common_steps}
use Rattle.std.proofs.lemmas.List.{take_all}
use Rattle.std.proofs.lemmas.Slice.{take-put_mid}
use borrow.Rule.Slice.PartMut.{put_mid}
use Rattle.zn_truth.specs.Truth.{Truth, bytes_at}
use Rattle.zn_truth.specs.World.{World, issue}
use Rattle.zn_truth.proofs.OrderLists.{read_leaves}
use Rattle.zn_model.specs.declared.files.Area.{Area}
use Rattle.zn_model.specs.declared.files.Piece.{Piece}
use Rattle.zn_model.specs.Pieces.{piece, bytes_in, each_bytes, blocks_before, zone_from, zone_to, read_in, Touched}

-- a read that is done leaves the truth
pub read_keeps : (w v : World) (a : Area) (i : ℕ) → Ok tt ≡ (issue w (read_in a i)).reply → v ≡ (issue w (read_in a i)).world → v.truth ≡ w.truth
read_keeps w v a i ok is = ap (λ (u : World). u.truth) is ∙ read_leaves w (piece a i).zone (piece a i).at (piece a i).blocks (sym ok)

-- ---- one part more

range_more : (f : ℕ → List ℕ) (from n j : ℕ) → from + n ≡ j → flat_map f (range_with_len from (suc n)) ≡ flat_map f (range_with_len from n) ++ f j
range_more f from zero j h = grind (arith, common_steps)
range_more f from (suc n) j h = rw (range_more f (from + 1) n j (omega arith)) (sym (append_assoc (f from) (flat_map f (range_with_len (from + 1) n)) (f j)))

more_of : (f : ℕ → List ℕ) (from n k j : ℕ) → k ≡ suc n → from + n ≡ j → flat_map f (range_with_len from k) ≡ flat_map f (range_with_len from n) ++ f j
more_of f from n k j e h = rw e (range_more f from n j h)

each_bytes_more : (f : ℕ → List ℕ) (from i : ℕ) → from ≤ i → each_bytes f from (i + 1) ≡ each_bytes f from i ++ f i
unfolding each_bytes
each_bytes_more f from i h = more_of f from (i - from) (i + 1 - from) i (omega arith) (omega arith)

none_of : (f : ℕ → List ℕ) (from n : ℕ) → n ≡ 0 → flat_map f (range_with_len from n) ≡ []
none_of f from n h = rw h refl

each_bytes_none : (f : ℕ → List ℕ) (from : ℕ) → each_bytes f from from ≡ []
unfolding each_bytes
each_bytes_none f from = none_of f from (from - from) (omega arith)

next_before : (a : Area) (i : ℕ) → Touched a i → blocks_before a (i + 1) ≡ (piece a i).before + (piece a i).blocks
next_before a i h = omega (arith, h.from, h.to)

before_read : (a : Area) (i : ℕ) → Touched a i → blocks_before a i ≡ (piece a i).before
before_read a i h = omega (arith, h.from, h.to)

-- in front of the first zone there is nothing
first_before : (a : Area) → blocks_before a (zone_from a) ≡ 0
first_before a = omega (arith, div-mul-le_self a.from a.room)

all_before : (a : Area) → 0 < a.room → blocks_before a (zone_to a) ≡ a.blocks
all_before a h = omega (arith, lt-div-mul-add {a = a.from + a.blocks - 1} {b = a.room} h)

-- ---- the loop's steps

pub read_first : (f : ℕ → List ℕ) (a : Area) (out : List ℕ) → take (4096 * blocks_before a (zone_from a)) out ≡ each_bytes f (zone_from a) (zone_from a)
read_first f a out = rw (first_before a, each_bytes_none f (zone_from a)) refl

read_more : (f : ℕ → List ℕ) (a : Area) (i : ℕ) (old new : List ℕ) → Touched a i → zone_from a ≤ i → take (4096 * blocks_before a i) old ≡ each_bytes f (zone_from a) i
    → take (4096 * ((piece a i).before + (piece a i).blocks)) new ≡ take (4096 * (piece a i).before) old ++ f i → take (4096 * blocks_before a (i + 1)) new ≡ each_bytes f (zone_from a) (i + 1)
read_more f a i old new h above before step =
    let b : take (4096 * (piece a i).before) old ≡ each_bytes f (zone_from a) i = subst (λ (n : ℕ). take (4096 * n) old ≡ each_bytes f (zone_from a) i) (before_read a i h) before in
    ap (λ (n : ℕ). take (4096 * n) new) (next_before a i h) ∙ step ∙ ap (λ (xs : List ℕ). xs ++ f i) b ∙ sym (each_bytes_more f (zone_from a) i above)

pub read_last : (f : ℕ → List ℕ) (a : Area) (i : ℕ) (out : List ℕ) → 0 < a.room → i ≡ zone_to a → length out ≡ 4096 * a.blocks → take (4096 * blocks_before a i) out ≡ each_bytes f (zone_from a) i
    → out ≡ each_bytes f (zone_from a) (zone_to a)
read_last f a i out room is len h =
    let e : 4096 * blocks_before a (zone_to a) ≡ length out = omega (arith, all_before a room) in
    let t : take (4096 * blocks_before a (zone_to a)) out ≡ each_bytes f (zone_from a) (zone_to a) = subst (λ (n : ℕ). take (4096 * blocks_before a n) out ≡ each_bytes f (zone_from a) n) is h in
    sym (ap (λ (n : ℕ). take n out) e ∙ take_all (length out) out (omega arith)) ∙ t

-- ---- one part

part_at : (t : Truth) (p : Piece) (blocks k : ℕ) (old part : List ℕ) → length old ≡ 4096 * blocks → p.before + p.blocks ≤ blocks
    → part ≡ bytes_at t p.zone p.at (k / 4096) → k ≡ 4096 * p.blocks → length part ≡ 4096 * p.blocks
    → take (4096 * (p.before + p.blocks)) (put_mid (4096 * p.before) (4096 * p.before + 4096 * p.blocks - 4096 * p.before) old part) ≡ take (4096 * p.before) old ++ bytes_at t p.zone p.at p.blocks
part_at t p blocks k old part len fits is size have =
    take-put_mid (4096 * p.before) (4096 * p.before + 4096 * p.blocks - 4096 * p.before) old part (4096 * (p.before + p.blocks)) (omega arith) (omega arith)
    ∙ ap (λ (xs : List ℕ). take (4096 * p.before) old ++ xs) (is ∙ ap (bytes_at t p.zone p.at) (let e : k / 4096 ≡ p.blocks = omega arith in e))

pub part_read : (t : Truth) (a : Area) (i : ℕ) (p : Piece) (k : ℕ) (old part : List ℕ) → p ≡ piece a i → length old ≡ 4096 * a.blocks → p.before + p.blocks ≤ a.blocks
    → part ≡ bytes_at t p.zone p.at (k / 4096) → k ≡ 4096 * p.blocks → length part ≡ 4096 * p.blocks
    → take (4096 * ((piece a i).before + (piece a i).blocks)) (put_mid (4096 * p.before) (4096 * p.before + 4096 * p.blocks - 4096 * p.before) old part) ≡ take (4096 * (piece a i).before) old ++ bytes_in t a i
part_read t a i p k old part e len fits is size have =
    subst (λ (q : Piece). take (4096 * (q.before + q.blocks)) (put_mid (4096 * p.before) (4096 * p.before + 4096 * p.blocks - 4096 * p.before) old part) ≡ take (4096 * q.before) old ++ bytes_at t q.zone q.at q.blocks)
    e (part_at t p a.blocks k old part len fits is size have)

pub read_more_same : (t u : Truth) (a : Area) (i : ℕ) (old new : List ℕ) → u ≡ t → Touched a i → zone_from a ≤ i
    → (t.told ≡ true → take (4096 * blocks_before a i) old ≡ each_bytes (bytes_in t a) (zone_from a) i)
    → (u.told ≡ true → take (4096 * ((piece a i).before + (piece a i).blocks)) new ≡ take (4096 * (piece a i).before) old ++ bytes_in u a i)
    → t.told ≡ true → take (4096 * blocks_before a (i + 1)) new ≡ each_bytes (bytes_in t a) (zone_from a) (i + 1)
read_more_same t u a i old new same h above before step told =
    let s : t.told ≡ true → take (4096 * ((piece a i).before + (piece a i).blocks)) new ≡ take (4096 * (piece a i).before) old ++ bytes_in t a i =
    subst (λ (v : Truth). v.told ≡ true → take (4096 * ((piece a i).before + (piece a i).blocks)) new ≡ take (4096 * (piece a i).before) old ++ bytes_in v a i) same step in
    read_more (bytes_in t a) a i old new h above (before told) (s told)
