-- First places, as they are found.
use Rattle.std.proofs.Common.{◌≡◌, ℕ, ◌+◌, ◌-◌, ◌≤◌, eqb, true, List, length, take, drop, replicate, None, ap, ◌∙◌, arith}
use Rattle.std.specs.Cmp.Lexicographic.{pointwise}
use Rattle.std.specs.Prelude.{option_map}
use Rattle.std.specs.List.{prefix_len}
use Rattle.std.proofs.lemmas.List.{take-replicate}
use Rattle.std.proofs.lemmas.List.Sums.{prefix_len-le-length}
use Rattle.std.proofs.lemmas.Slice.{between_to_end}
use Rattle.std.proofs.lemmas.Slice.Eq.{bytes_eq-Decides}
use Rattle.zn_model.specs.SuperBlock.{zeros, first_difference, first_nonzero, first_bad_label, is_label_byte}
use Rattle.zn_model.proofs.SuperBlocksLists.{first_difference_none, first_nonzero-zeros}
use Rattle.zn_model.proofs.SuperBlocksLabel.{first_bad_label_behind}

pub no_difference : (xs ys : List ℕ) → pointwise eqb xs ys ≡ true → first_difference xs ys ≡ None
no_difference xs ys same =
    ap (λ (zs : List ℕ). first_difference zs ys) ((bytes_eq-Decides xs ys).0 same) ∙ first_difference_none ys

pub no_nonzero : (bytes : List ℕ) → length bytes ≤ 4096 → pointwise eqb bytes (take (length bytes) (replicate 4096 0)) ≡ true → first_nonzero bytes ≡ None
unfolding zeros
no_nonzero bytes most same =
    let is = (bytes_eq-Decides bytes (take (length bytes) (replicate 4096 0))).0 same in
    let short : take (length bytes) (replicate 4096 0) ≡ replicate (length bytes) 0 = take-replicate (length bytes) 4096 0 most in
    ap first_nonzero (is ∙ short) ∙ first_nonzero-zeros (length bytes)

pub to_the_end : (bytes : List ℕ) (at : ℕ) → take (length bytes - at) (drop at bytes) ≡ drop at bytes
to_the_end bytes at = between_to_end bytes at (length bytes) (omega arith)

pub label_within : (bytes : List ℕ) → prefix_len is_label_byte bytes ≤ length bytes
label_within bytes = prefix_len-le-length is_label_byte bytes

pub bad_label : (field : List ℕ) → first_bad_label field ≡ option_map (λ k. prefix_len is_label_byte field + k) (first_nonzero (drop (prefix_len is_label_byte field) field))
bad_label field = first_bad_label_behind field
