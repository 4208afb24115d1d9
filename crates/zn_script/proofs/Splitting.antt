-- The words of a line, one after another.
use Rattle.std.proofs.Common.{◌≡◌, ℕ, ◌+◌, ◌-◌, ◌<◌, ◌≤◌, false, cond, leb, nat_lt, List, [], ◌∷◌, length, take, drop, Option, Some, None, Result, Ok, Err, refl, ap, sym, subst, ◌∙◌, le-leb, arith}
use Rattle.std.proofs.lemmas.Bool.Decides.{nat_tests}
use Rattle.std.proofs.lemmas.List.{take_all, drop-drop, length-drop, length-take-le}
use Rattle.std.proofs.lemmas.List.Splits.{slice_split_first, slice_split_none}
use Rattle.std.proofs.lemmas.List.Sums.{fails_before_first}
use Rattle.std.specs.List.{position, slice_split, All}
use Rattle.zn_lines.specs.Words.{Left, is_blank, ◌>>=◌, behind, or_column, next_of, next, or_none, optional_of, optional, none_of, no_more, words_of}
use Rattle.zn_lines.specs.declared.words.Verb.{Verb}
use Rattle.zn_lines.specs.Grammar.{verb_of, line_of, line_with}
use Rattle.zn_lines.specs.Lines as lines
use Rattle.zn_script.specs.declared.Line.{Line}
use Rattle.zn_script.specs.Meant.{GivesLine}
use Rattle.zn_script.specs.Places.{left_at, NextWord}

pub some_place : (at len n : ℕ) → cond (nat_lt at len) (Some at) None ≡ Some n → (at < len) × (at ≡ n)
some_place at len n is = grind (arith, nat_tests)

pub no_place : (at len : ℕ) → cond (nat_lt at len) (Some at) None ≡ None → len ≤ at
no_place at len is = grind (arith, nat_tests)

pub words_in : (line : List ℕ) (at : ℕ) → at ≤ length line → (left_at line at).words ≡ slice_split is_blank (drop at line)
unfolding left_at
words_in line at within = ap (λ b. cond b (slice_split is_blank (drop at line)) []) (le-leb _ _ within)

pub words_past : (line : List ℕ) (at : ℕ) → length line < at → (left_at line at).words ≡ []
unfolding left_at
words_past line at past = let no : leb at (length line) ≡ false = grind (arith, nat_tests) in ap (λ b. cond b (slice_split is_blank (drop at line)) []) no

column_is : (line : List ℕ) (at : ℕ) → (left_at line at).column ≡ at + 1
unfolding left_at
column_is line at = refl

pub word_found : (line : List ℕ) (at n : ℕ) → at ≤ length line → position is_blank (drop at line) ≡ Some n → NextWord line at (at + n)
word_found line at n within is =
    let p = some_place _ _ n is in
    let plain : at + n - at ≡ n = omega arith in
    let further : at + (n + 1) ≡ at + n + 1 = omega arith in
    let inside : at + n < length line = omega (arith, length-drop at line) in
    record {
      words = words_in line at within ∙ slice_split_first is_blank (drop at line) 0 p.0
          ∙ ap (λ k. take k (drop at line) ∷ slice_split is_blank (drop (k + 1) (drop at line))) p.1
          ∙ ap (λ k. take k (drop at line) ∷ slice_split is_blank (drop (n + 1) (drop at line))) (sym plain)
          ∙ ap (λ ws. take (at + n - at) (drop at line) ∷ ws) (ap (slice_split is_blank) (drop-drop (n + 1) at line ∙ ap (λ k. drop k line) further) ∙ sym (words_in line (at + n + 1) (omega arith)));
      sized = rw plain (length-take-le n (drop at line) (omega arith));
    }

pub word_last : (line : List ℕ) (at : ℕ) → at ≤ length line → position is_blank (drop at line) ≡ None → NextWord line at (length line)
word_last line at within is =
    let p = no_place _ _ is in
    let whole : take (length line - at) (drop at line) ≡ drop at line = take_all _ _ (omega (arith, length-drop at line)) in
    let one : All (λ b. is_blank b ≡ false) (drop at line) = λ k d in'. fails_before_first is_blank (drop at line) k d (omega arith) in
    record {
      words = words_in line at within ∙ slice_split_none is_blank (drop at line) one
          ∙ ap (λ xs. xs ∷ []) (sym whole) ∙ ap (λ ws. take (length line - at) (drop at line) ∷ ws) (sym (words_past line (length line + 1) (omega arith)));
      sized = ap length whole ∙ length-drop at line;
    }

-- a missing word
pub word_missing : {A : Type 0} (read : List ℕ → Option A) (line : List ℕ) (at : ℕ) → length line < at → next read (left_at line at) ≡ Err at
word_missing read line at past =
    ap (λ ws. next_of read (left_at line at).column ws) (words_past line at past)
    ∙ ap (λ column. Err (column - 1)) (column_is line at) ∙ ap Err (let e : at + 1 - 1 ≡ at = omega arith in e)

-- a word that is there
word_reads : {A : Type 0} (read : List ℕ → Option A) (line : List ℕ) (at end : ℕ) → NextWord line at end → at ≤ end → next read (left_at line at) ≡ or_column (read (take (end - at) (drop at line))) (at + 1) (left_at line (end + 1))
unfolding left_at
word_reads read line at end w later =
    let after : at + 1 + length (take (end - at) (drop at line)) + 1 ≡ end + 1 + 1 = omega (arith, w.sized) in
    ap (next_of read (at + 1)) w.words
    ∙ ap (λ column. let l : Left = record { column = column; words = (left_at line (end + 1)).words } in or_column (read (take (end - at) (drop at line))) (at + 1) l) after

pub word_ok : {A : Type 0} (read : List ℕ → Option A) (x : A) (line : List ℕ) (at end : ℕ) → NextWord line at end → at ≤ end → read (take (end - at) (drop at line)) ≡ Some x → next read (left_at line at) ≡ Ok (x, left_at line (end + 1))
word_ok read x line at end w later is = word_reads read line at end w later ∙ ap (λ o. or_column o (at + 1) (left_at line (end + 1))) is

pub word_bad : {A : Type 0} (read : List ℕ → Option A) (line : List ℕ) (at end : ℕ) → NextWord line at end → at ≤ end → read (take (end - at) (drop at line)) ≡ None → next read (left_at line at) ≡ Err (at + 1)
word_bad read line at end w later is = word_reads read line at end w later ∙ ap (λ o. or_column o (at + 1) (left_at line (end + 1))) is

-- no word where one may stand
pub optional_missing : {A : Type 0} (read : List ℕ → Option A) (line : List ℕ) (at : ℕ) → length line < at → optional read (left_at line at) ≡ Ok (None, left_at line at)
unfolding left_at
optional_missing read line at past =
    let none : (left_at line at).words ≡ [] = words_past line at past in
    ap (optional_of read (at + 1)) none ∙ ap (λ ws. let l : Left = record { column = at + 1; words = ws } in Ok (None, l)) (sym none)

-- a word where one may stand
optional_reads : {A : Type 0} (read : List ℕ → Option A) (line : List ℕ) (at end : ℕ) → NextWord line at end → at ≤ end → optional read (left_at line at) ≡ or_none (read (take (end - at) (drop at line))) (left_at line at) (left_at line (end + 1))
unfolding left_at
optional_reads read line at end w later =
    let word = take (end - at) (drop at line) in
    let rest = (left_at line (end + 1)).words in
    let after : at + 1 + length word + 1 ≡ end + 1 + 1 = omega (arith, w.sized) in
    ap (optional_of read (at + 1)) w.words
    ∙ ap (λ ws. let l : Left = record { column = at + 1; words = ws } in or_none (read word) l (behind (at + 1) word rest)) (sym w.words)
    ∙ ap (λ column. let l : Left = record { column = column; words = rest } in or_none (read word) (left_at line at) l) after

pub optional_ok : {A : Type 0} (read : List ℕ → Option A) (x : A) (line : List ℕ) (at end : ℕ) → NextWord line at end → at ≤ end → read (take (end - at) (drop at line)) ≡ Some x → optional read (left_at line at) ≡ Ok (Some x, left_at line (end + 1))
optional_ok read x line at end w later is = optional_reads read line at end w later ∙ ap (λ o. or_none o (left_at line at) (left_at line (end + 1))) is

pub optional_stays : {A : Type 0} (read : List ℕ → Option A) (line : List ℕ) (at end : ℕ) → NextWord line at end → at ≤ end → read (take (end - at) (drop at line)) ≡ None → optional read (left_at line at) ≡ Ok (None, left_at line at)
optional_stays read line at end w later is = optional_reads read line at end w later ∙ ap (λ o. or_none o (left_at line at) (left_at line (end + 1))) is

-- no word too many, and one
pub words_none : {A : Type 0} (value : A) (line : List ℕ) (at : ℕ) → length line < at → no_more value (left_at line at) ≡ Ok value
words_none value line at past = ap (none_of value (left_at line at).column) (words_past line at past)

word_many : {A : Type 0} (value : A) (line : List ℕ) (at end : ℕ) → NextWord line at end → no_more value (left_at line at) ≡ Err (at + 1)
word_many value line at end w = ap (none_of value (left_at line at).column) w.words ∙ ap Err (column_is line at)

many_at : {A : Type 0} (value : A) (line : List ℕ) (at : ℕ) → at ≤ length line → (found : Option ℕ) → position is_blank (drop at line) ≡ found → no_more value (left_at line at) ≡ Err (at + 1)
many_at value line at within None is = word_many value line at (length line) (word_last line at within is)
many_at value line at within (Some n) is = word_many value line at (at + n) (word_found line at n within is)

pub words_many : {A : Type 0} (value : A) (line : List ℕ) (at : ℕ) → at ≤ length line → no_more value (left_at line at) ≡ Err (at + 1)
words_many value line at within = many_at value line at within (position is_blank (drop at line)) refl

-- ---- the first word

less_none : (n : ℕ) → n - 0 ≡ n
less_none n = omega arith

all_words : (line : List ℕ) → words_of line ≡ left_at line 0
unfolding left_at
all_words line = ap (λ ws. let l : Left = record { column = 1; words = ws } in l) (sym (words_in line 0 (omega arith)))

pub verb_then : (line : List ℕ) (end : ℕ) (verb : Verb) → NextWord line 0 end → verb_of (take end line) ≡ Some verb → line_of line ≡ line_with verb (left_at line (end + 1))
unfolding line_of
verb_then line end verb w is =
    ap (λ left. next verb_of left >>= λ v. line_with v.0 v.1) (all_words line)
    ∙ ap (λ r. r >>= λ v. line_with v.0 v.1) (word_ok verb_of verb line 0 end w (omega arith) (ap (λ n. verb_of (take n line)) (less_none end) ∙ is))

pub verb_none : (line : List ℕ) (end : ℕ) → NextWord line 0 end → verb_of (take end line) ≡ None → line_of line ≡ Err 1
unfolding line_of
verb_none line end w is =
    ap (λ left. next verb_of left >>= λ v. line_with v.0 v.1) (all_words line)
    ∙ ap (λ r. r >>= λ v. line_with v.0 v.1) (word_bad verb_of line 0 end w (omega arith) (ap (λ n. verb_of (take n line)) (less_none end) ∙ is))

pub line_along : (result : Result Line ℕ) (read read' : Result lines.Line ℕ) → read ≡ read' → GivesLine result read' → GivesLine result read
line_along result read read' e g = let F : Result lines.Line ℕ → Type 0 = λ r. GivesLine result r in subst F (sym e) g
