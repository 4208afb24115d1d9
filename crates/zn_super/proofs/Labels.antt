-- Texts that are labels, and how they are kept.
use Rattle.std.proofs.Common.{◌≡◌, ℕ, suc, ◌+◌, ◌-◌, ◌<◌, ◌≤◌, Bool, true, false, ◌&&◌, cond, eqb, leb, List, [], ◌∷◌, ◌++◌, length, take, drop, replicate, refl, sym, ap, ◌∙◌, arith, rules}
use Rattle.std.specs.Prelude.{IsTrue}
use Rattle.std.specs.List.{list_all, prefix_len}
use Rattle.std.proofs.lemmas.Bool.{and_from, and_parts, leb-true, le-leb, ne_eqb}
use Rattle.std.proofs.lemmas.List.{length-append, length-replicate, take_at, drop-replicate, length-take-le, get_or-take}
use Rattle.std.proofs.lemmas.List.Elements.{All-from_get_or}
use Rattle.std.proofs.lemmas.List.Sums.{prefix_len_passes, prefix_len-le-length, list_all-from_AllPass}
use Rattle.zn_model.specs.SuperBlock.{zeros, padded, is_label, is_label_byte}
use Rattle.zn_super.specs.Labels.{IsKept}

-- ---- which texts are labels

pub label_parts : (text : List ℕ) → IsTrue (is_label text) → (length text ≤ 64) × (list_all is_label_byte text ≡ true)
label_parts text is =
    let parts = and_parts (leb (length text) 64) (list_all is_label_byte text) is in
    (leb-true _ _ parts.0, parts.1)

-- all bytes pass exactly where as many do, from the first on, as there are
one_more : (n m : ℕ) → eqb (1 + n) (suc m) ≡ eqb n m
one_more n m = search rules

pub all_by_count : (p : ℕ → Bool) (xs : List ℕ) → eqb (prefix_len p xs) (length xs) ≡ list_all p xs
all_by_count p [] = refl
all_by_count p (x ∷ xs) = elim (p x) as (λ (b : Bool). eqb (cond b (1 + prefix_len p xs) 0) (length (x ∷ xs)) ≡ (b && list_all p xs)) [
  | true ↦ one_more (prefix_len p xs) (length xs) ∙ all_by_count p xs
  | false ↦ ne_eqb 0 (length (x ∷ xs)) (λ e. omega arith)
]

-- what a field begins with is a label
pub front_is_label : (field : List ℕ) → length field ≤ 64 → IsTrue (is_label (take (prefix_len is_label_byte field) field))
front_is_label field most =
    let n = prefix_len is_label_byte field in
    let within : n ≤ length field = prefix_len-le-length is_label_byte field in
    let long : length (take n field) ≡ n = length-take-le n field within in
    and_from _ _ (le-leb _ _ (omega arith))
    (list_all-from_AllPass is_label_byte (take n field)
    (All-from_get_or (λ (byte : ℕ). is_label_byte byte ≡ true) (take n field) 0
    (λ k h. let below : k < n = omega arith in ap is_label_byte (get_or-take n field k 0 below) ∙ prefix_len_passes is_label_byte field k 0 below)))

-- ---- how they are kept

pub kept_is : (text : List ℕ) → IsTrue (is_label text) → IsKept (text ++ drop (length text) (replicate 64 0)) (length text)
unfolding zeros
kept_is text is =
    let parts = label_parts text is in
    let most : length text ≤ 64 = parts.0 in
    let front : take (length text) (text ++ drop (length text) (replicate 64 0)) ≡ text = take_at text (drop (length text) (replicate 64 0)) (length text) refl in
    let behind : drop (length text) (replicate 64 0) ≡ replicate (64 - length text) 0 = drop-replicate (length text) 64 0 in
    record {
      size = omega (arith, length-append text (drop (length text) (replicate 64 0)), ap (λ (l : List ℕ). length l) behind, length-replicate {A = ℕ} (64 - length text) 0);
      most = most;
      label = rw front is;
      rest = ap (λ (l : List ℕ). text ++ l) behind ∙ ap (λ (l : List ℕ). padded 64 l) (sym front);
    }
