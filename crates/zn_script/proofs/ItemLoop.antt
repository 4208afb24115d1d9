-- The items of a format, one after another.
use Rattle.std.proofs.Common.{◌≡◌, ℕ, ◌+◌, ◌<◌, ◌≤◌, List, [], ◌∷◌, length, drop, Option, Some, None, Result, Ok, Err, refl, ap, sym, ◌∙◌}
use Rattle.std.specs.List.{position}
use Rattle.zn_lines.specs.Lines.{FormatWords}
use Rattle.zn_lines.specs.Words.{Left, is_blank, behind, or_column, next_of, next}
use Rattle.zn_lines.specs.Grammar.{item_after, item_then, items_on}
use Rattle.zn_script.specs.Places.{left_at}
use Rattle.zn_script.proofs.Splitting.{word_found, word_last, words_past}

-- what is read of all words that are left
abbrev pub all_items : FormatWords → Left → Result FormatWords ℕ
all_items found left = items_on found left.column left.words

word_more : (found more : FormatWords) (column : ℕ) (word : List ℕ) (words : List (List ℕ)) (rest : Left) (o : Option FormatWords) → or_column o column (behind column word words) ≡ Ok (more, rest) → item_then o column (λ more. items_on more (column + length word + 1) words) ≡ all_items more rest
word_more found more column word words rest None is = absurd cc
word_more found more column word words rest (Some x) is =
    let same : ◌≡◌ {A = FormatWords × Left} (x, behind column word words) (more, rest) = cc in
    ap (λ (p : FormatWords × Left). all_items p.0 p.1) same

words_more : (found more : FormatWords) (column : ℕ) (words : List (List ℕ)) (rest : Left) → next_of (item_after found) column words ≡ Ok (more, rest) → items_on found column words ≡ all_items more rest
unfolding items_on
words_more found more column [] rest is = absurd cc
words_more found more column (word ∷ words) rest is = word_more found more column word words rest (item_after found word) is

-- an item, and what follows it
pub items_more : (found more : FormatWords) (left rest : Left) → next (item_after found) left ≡ Ok (more, rest) → all_items found left ≡ all_items more rest
items_more found more left rest is = words_more found more left.column left.words rest is

word_fault : (found : FormatWords) (column e : ℕ) (word : List ℕ) (words : List (List ℕ)) (o : Option FormatWords) → or_column o column (behind column word words) ≡ Err e → item_then o column (λ more. items_on more (column + length word + 1) words) ≡ Err e
word_fault found column e word words None is = cc
word_fault found column e word words (Some x) is = absurd cc

begun_fault : (found : FormatWords) (left : Left) (e : ℕ) (word : List ℕ) (words : List (List ℕ)) → left.words ≡ word ∷ words → next (item_after found) left ≡ Err e → all_items found left ≡ Err e
unfolding items_on
begun_fault found left e word words are is =
    ap (items_on found left.column) are
    ∙ word_fault found left.column e word words (item_after found word) (sym (ap (next_of (item_after found) left.column) are) ∙ is)

fault_at : (found : FormatWords) (line : List ℕ) (at e : ℕ) → at ≤ length line → next (item_after found) (left_at line at) ≡ Err e → (o : Option ℕ) → position is_blank (drop at line) ≡ o → all_items found (left_at line at) ≡ Err e
fault_at found line at e within is None none = begun_fault found (left_at line at) e _ _ (word_last line at within none).words is
fault_at found line at e within is (Some n) some = begun_fault found (left_at line at) e _ _ (word_found line at n within some).words is

-- a word that is no item
pub items_fault : (found : FormatWords) (line : List ℕ) (at e : ℕ) → at ≤ length line → next (item_after found) (left_at line at) ≡ Err e → all_items found (left_at line at) ≡ Err e
items_fault found line at e within is = fault_at found line at e within is (position is_blank (drop at line)) refl

-- no word is left
pub items_none : (found : FormatWords) (line : List ℕ) (at : ℕ) → length line < at → all_items found (left_at line at) ≡ Ok found
unfolding items_on
items_none found line at past = ap (items_on found (left_at line at).column) (words_past line at past)
