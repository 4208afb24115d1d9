-- A file backs a zone.
use Rattle.std.proofs.Common.{◌≡◌, ◌⊎◌, inl, inr, ⊎_elim, ℕ, ◌+◌, ◌*◌, ◌/◌, ◌<◌, ◌≤◌, Bool, true, false, List, ◌++◌, length, take, drop, replicate, get_or, refl, sym, ap, ◌∙◌, subst, arith}
use Rattle.std.specs.Prelude.{IsTrue, is_some}
use Rattle.std.proofs.lemmas.Bool.Decides.{nat_tests}
use Rattle.std.proofs.lemmas.List.{places, length-replicate, get_or_append_left}
use Rattle.zn_truth.specs.declared.Kind.{Kind}
use Rattle.zn_truth.specs.declared.Kind.TheVariants.{Conventional, Sequential}
use Rattle.zn_truth.specs.Truth.{Zone, is_good, is_offline}
use Rattle.zn_truth.specs.Orders.{replaced, placed}
use Rattle.zn_stand.specs.File.{File, at_rest, written, is_length, is_in_blocks, is_kept}
use Rattle.zn_zloop.specs.Backing.{BacksDurable, BacksFlushed, Backs, IsFileOf}

-- ---- a file at rest

rest_length : (bytes : List ℕ) (n : ℕ) → IsTrue (is_length (at_rest bytes) n) → n ≡ length bytes
rest_length bytes n is = grind (arith, nat_tests)

rest_kept : (bytes : List ℕ) (i : ℕ) → i < length bytes → IsTrue (is_kept (at_rest bytes) i)
rest_kept bytes i h = grind (arith, nat_tests)

blocks_in : (k n : ℕ) → n ≡ 4096 * k → IsTrue (is_in_blocks n)
blocks_in k n is = grind (arith, nat_tests)

rest_backs : (kind : Kind) (zone : Zone) → length zone.bytes ≡ 4096 * zone.held → zone.durable ≡ zone.held → Backs kind (at_rest zone.bytes) zone
rest_backs Sequential zone size durable = record {
  lengths = λ n is. let e : n ≡ 4096 * zone.held = rest_length zone.bytes n is ∙ size in
      record { whole = blocks_in zone.held n e; no_less = omega arith; no_more = omega arith };
  each = λ i h. record { kept = rest_kept zone.bytes i (omega arith); same = refl };
}
rest_backs Conventional zone size durable = record {
  lengths = λ n is. rest_length zone.bytes n is ∙ size;
  each = λ i h flag. record { kept = rest_kept zone.bytes i (omega arith); same = refl };
}

-- a file at rest is that of a zone all of which is durable
pub rest_file : (zone : Zone) (f : File) → f ≡ at_rest f.bytes → (¬ IsTrue (is_offline zone.cond) → f.bytes ≡ zone.bytes) → (IsTrue (is_good zone.cond) → ¬ IsTrue (is_offline zone.cond)) → length zone.bytes ≡ 4096 * zone.held ⊎ IsTrue (is_offline zone.cond)
    → zone.durable ≡ zone.held → IsFileOf zone f
rest_file zone f rest bytes good size durable = record {
  bytes = bytes;
  synced = ap (λ (g : File). is_some g.at_sync) rest;
  good = λ is. subst (λ (g : File). Backs zone.kind g zone) (sym (rest ∙ ap at_rest (bytes (good is)))) (rest_backs zone.kind zone (elim size [ inl e ↦ e | inr off ↦ absurd (good is off) ]) durable);
  settled = λ none. rest;
}

-- ---- a write

length_written : (f : File) (at : ℕ) (new : List ℕ) (n : ℕ) → IsTrue (is_length (written f at new) n)
    → ((length f.bytes ≤ n) × (n ≤ length (replaced f.bytes at new)) × IsTrue (is_in_blocks n)) ⊎ ((n ≡ length (replaced f.bytes at new)) ⊎ IsTrue (is_length f n))
length_written f at new n is = grind (arith, nat_tests)

kept_written : (f : File) (at : ℕ) (new : List ℕ) (i : ℕ) → (i < at) ⊎ (at + length new ≤ i) → IsTrue (is_kept f i) → IsTrue (is_kept (written f at new) i)
kept_written f at new i apart is = grind (arith, nat_tests)

-- behind all that a sequential zone holds
pub write_durable : (f : File) (zone : Zone) (new : List ℕ) → f.bytes ≡ zone.bytes → length zone.bytes ≡ 4096 * zone.held → zone.durable ≤ zone.held → 4096 * (length new / 4096) ≡ length new
    → BacksDurable f zone → BacksDurable (written f (4096 * zone.held) new) (placed Sequential zone zone.held new)
write_durable f zone new same size durable whole backs = record {
  lengths = λ n is.
      let old : length f.bytes ≡ 4096 * zone.held = ap length same ∙ size in
      let long : length (replaced f.bytes (4096 * zone.held) new) ≡ 4096 * zone.held + length new = grind (arith, places) in
      elim (length_written f (4096 * zone.held) new n is) [
        | inl way ↦ record { whole = way.2; no_less = omega (arith, way.0); no_more = omega (arith, way.1) }
        | inr (inl end) ↦ record { whole = blocks_in (zone.held + length new / 4096) n (omega arith); no_less = omega arith; no_more = omega arith }
        | inr (inr before) ↦ let was = backs.lengths n before in record { whole = was.whole; no_less = was.no_less; no_more = omega (arith, was.no_more) }
      ];
  each = λ i h. let was = backs.each i h in record {
    kept = kept_written f (4096 * zone.held) new i (inl (omega arith)) was.kept;
    same = was.same ∙ sym (get_or_append_left zone.bytes new 0 i (omega arith));
  };
}

other_place : {A : Type 0} (old new : List A) (at n i : ℕ) (d : A) → length new ≡ n → at + n ≤ length old → ((i < at) ⊎ (at + n ≤ i)) → get_or (take at old ++ new ++ drop (at + n) old) i d ≡ get_or old i d
other_place old new at n i d size fits (inl before) = grind (arith, places)
other_place old new at n i d size fits (inr behind) = grind (arith, places)

among : (flags : List Bool) (at n k : ℕ) → at + n ≤ length flags → at ≤ k → k < at + n → get_or (take at flags ++ replicate n true ++ drop (at + n) flags) k false ≡ true
among flags at n k fits le lt = grind (arith, places)

-- a block without a flag had none, and isn't among those written
no_flag : (flags : List Bool) (at n k : ℕ) → at + n ≤ length flags → get_or (take at flags ++ replicate n true ++ drop (at + n) flags) k false ≡ false → ((k < at) ⊎ (at + n ≤ k)) × (get_or flags k false ≡ false)
no_flag flags at n k fits h = elim (le_or_lt at k) [
  | inl le ↦ elim (le_or_lt (at + n) k) [
    | inl past ↦ (inr past, sym (other_place flags (replicate n true) at n k false (length-replicate n true) fits (inr past)) ∙ h)
    | inr in_it ↦ let flagged = among flags at n k fits le in_it in absurd (cc)
  ]
  | inr before ↦ (inl before, sym (other_place flags (replicate n true) at n k false (length-replicate n true) fits (inl before)) ∙ h)
]
  where
    le_or_lt : (a b : ℕ) → (a ≤ b) ⊎ (b < a)
    le_or_lt a b = grind (arith, nat_tests)

-- over blocks of a conventional zone
pub write_flushed : (f : File) (zone : Zone) (at : ℕ) (new : List ℕ) → f.bytes ≡ zone.bytes → length zone.bytes ≡ 4096 * zone.held → length zone.unflushed ≡ zone.held → 4096 * (length new / 4096) ≡ length new
    → at + length new / 4096 ≤ zone.held → BacksFlushed f zone → BacksFlushed (written f (4096 * at) new) (placed Conventional zone at new)
write_flushed f zone at new same size flags whole fits backs = record {
  lengths = λ m is.
      let old : length f.bytes ≡ 4096 * zone.held = ap length same ∙ size in
      let long : length (replaced f.bytes (4096 * at) new) ≡ 4096 * zone.held = grind (arith, places) in
      elim (length_written f (4096 * at) new m is) [
        | inl way ↦ omega (arith, way.0, way.1, old, long)
        | inr (inl end) ↦ end ∙ long
        | inr (inr before) ↦ backs.lengths m before
      ];
  each = λ i h flag.
      let n = length new / 4096 in
      let free = no_flag zone.unflushed at n (i / 4096) (omega arith) flag in
      let apart : (i < 4096 * at) ⊎ (4096 * at + length new ≤ i) = ⊎_elim (λ lt. inl (omega arith)) (λ le. inr (omega arith)) free.0 in
      let was = backs.each i h free.1 in
      record {
        kept = kept_written f (4096 * at) new i apart was.kept;
        same = was.same ∙ sym (other_place zone.bytes new (4096 * at) (length new) i 0 refl (omega arith) apart);
      };
}

-- ---- the same file for another zone

same_durable : (f : File) (a b : Zone) → a.bytes ≡ b.bytes → a.held ≡ b.held → a.durable ≡ b.durable → BacksDurable f a → BacksDurable f b
same_durable f a b bytes held durable backs = record {
  lengths = λ n is. let was = backs.lengths n is in record { whole = was.whole; no_less = omega (arith, was.no_less); no_more = omega (arith, was.no_more) };
  each = λ i h. let was = backs.each i (omega arith) in record { kept = was.kept; same = was.same ∙ ap (λ (x : List ℕ). get_or x i 0) bytes };
}

same_flushed : (f : File) (a b : Zone) → a.bytes ≡ b.bytes → a.held ≡ b.held → a.unflushed ≡ b.unflushed → BacksFlushed f a → BacksFlushed f b
same_flushed f a b bytes held flags backs = record {
  lengths = λ n is. backs.lengths n is ∙ ap (λ k. 4096 * k) held;
  each = λ i h flag. let was = backs.each i (omega arith) (ap (λ (x : List Bool). get_or x (i / 4096) false) flags ∙ flag) in record { kept = was.kept; same = was.same ∙ ap (λ (x : List ℕ). get_or x i 0) bytes };
}

same_backs : (kind : Kind) (f : File) (a b : Zone) → a.bytes ≡ b.bytes → a.held ≡ b.held → a.durable ≡ b.durable → a.unflushed ≡ b.unflushed → Backs kind f a → Backs kind f b
same_backs Sequential f a b bytes held durable flags backs = same_durable f a b bytes held durable backs
same_backs Conventional f a b bytes held durable flags backs = same_flushed f a b bytes held flags backs

-- a zone that is only opened or closed, or the like
pub same_file : (f : File) (a b : Zone) → a.kind ≡ b.kind → a.cond ≡ b.cond → a.bytes ≡ b.bytes → a.held ≡ b.held → a.durable ≡ b.durable → a.unflushed ≡ b.unflushed → IsFileOf a f → IsFileOf b f
same_file f a b kind cond bytes held durable flags file = record {
  bytes = λ on. file.bytes (λ off. on (subst (λ c. IsTrue (is_offline c)) cond off)) ∙ bytes;
  synced = file.synced;
  good = λ is. subst (λ k. Backs k f b) kind (same_backs a.kind f a b bytes held durable flags (file.good (subst (λ c. IsTrue (is_good c)) (sym cond) is)));
  settled = λ none. file.settled (λ is. none (subst (λ c. IsTrue (is_good c)) cond is));
}
