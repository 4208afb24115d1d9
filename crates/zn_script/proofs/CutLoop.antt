-- The cuts of a loss, one after another.
use Rattle.std.proofs.Common.{◌≡◌, ℕ, ◌+◌, ◌-◌, ◌<◌, ◌≤◌, Bool, true, false, ◌||◌, eqb, nat_lt, List, [], ◌∷◌, ◌++◌, length, take, drop, min, Option, Some, None, Result, Ok, Err, IsOk, refl, ap, sym, ◌∙◌, arith, subst, append_assoc, append-nil, length-append, inl, inr}
use Rattle.std.proofs.lemmas.Bool.{cases_lt, le-leb}
use Rattle.std.proofs.lemmas.Bool.Decides.{nat_tests}
use Rattle.std.proofs.lemmas.Option.{same_Some}
use Rattle.std.proofs.lemmas.List.{drop_all}
use Rattle.std.specs.List.{position, slice_split, list_any}
use Rattle.std.specs.Bool.{MatchBool, IsTrue}
use Rattle.std.specs.Option.{unwrap_or, option_and_then}
use Rattle.std.specs.Result.{result_ok, OkIff}
use Rattle.zn_truth.specs.declared.ZoneNo.{ZoneNo}
use Rattle.zn_truth.specs.declared.limits.TheConstants.{MAX_CUTS}
use Rattle.zn_base.proofs.DecimalLaws.{cond_taken}
use Rattle.zn_lines.specs.Words.{Left, is_blank, behind, or_column, next_of, next}
use Rattle.zn_lines.specs.Grammar.{cut_of, with_cut, cut_after, cut_then, cuts_on}
use Rattle.zn_lines.proofs.LossWords.{cuts-known, cuts-read}
use Rattle.zn_script.specs.Cuts.{is_beyond, cuts_read, cuts_meant, AreCutWords}
use Rattle.zn_script.specs.Places.{left_at, NextWord}
use Rattle.zn_script.proofs.Splitting.{word_found, word_last, words_past, words_in}

-- what is read of all words that are left
abbrev pub all_cuts : List (ZoneNo × ℕ) → Left → Result (List (ZoneNo × ℕ)) ℕ
all_cuts found left = cuts_on found left.column left.words

word_more : (found more : List (ZoneNo × ℕ)) (column : ℕ) (word : List ℕ) (words : List (List ℕ)) (rest : Left) (o : Option (List (ZoneNo × ℕ))) → or_column o column (behind column word words) ≡ Ok (more, rest)
    → cut_then o column (λ more. cuts_on more (column + length word + 1) words) ≡ all_cuts more rest
word_more found more column word words rest None is = absurd cc
word_more found more column word words rest (Some x) is =
    let same : ◌≡◌ {A = List (ZoneNo × ℕ) × Left} (x, behind column word words) (more, rest) = cc in
    ap (λ (p : List (ZoneNo × ℕ) × Left). all_cuts p.0 p.1) same

words_more : (found more : List (ZoneNo × ℕ)) (column : ℕ) (words : List (List ℕ)) (rest : Left) → next_of (cut_after found) column words ≡ Ok (more, rest) → cuts_on found column words ≡ all_cuts more rest
unfolding cuts_on
words_more found more column [] rest is = absurd cc
words_more found more column (word ∷ words) rest is = word_more found more column word words rest (cut_after found word) is

-- a cut, and what follows it
cuts_more : (found more : List (ZoneNo × ℕ)) (left rest : Left) → next (cut_after found) left ≡ Ok (more, rest) → all_cuts found left ≡ all_cuts more rest
cuts_more found more left rest is = words_more found more left.column left.words rest is

word_fault : (found : List (ZoneNo × ℕ)) (column e : ℕ) (word : List ℕ) (words : List (List ℕ)) (o : Option (List (ZoneNo × ℕ))) → or_column o column (behind column word words) ≡ Err e
    → cut_then o column (λ more. cuts_on more (column + length word + 1) words) ≡ Err e
word_fault found column e word words None is = cc
word_fault found column e word words (Some x) is = absurd cc

begun_fault : (found : List (ZoneNo × ℕ)) (left : Left) (e : ℕ) (word : List ℕ) (words : List (List ℕ)) → left.words ≡ word ∷ words → next (cut_after found) left ≡ Err e → all_cuts found left ≡ Err e
unfolding cuts_on
begun_fault found left e word words are is =
    ap (cuts_on found left.column) are
    ∙ word_fault found left.column e word words (cut_after found word) (sym (ap (next_of (cut_after found) left.column) are) ∙ is)

fault_at : (found : List (ZoneNo × ℕ)) (line : List ℕ) (at e : ℕ) → at ≤ length line → next (cut_after found) (left_at line at) ≡ Err e → (o : Option ℕ) → position is_blank (drop at line) ≡ o → all_cuts found (left_at line at) ≡ Err e
fault_at found line at e within is None none = begun_fault found (left_at line at) e _ _ (word_last line at within none).words is
fault_at found line at e within is (Some n) some = begun_fault found (left_at line at) e _ _ (word_found line at n within some).words is

cuts_none : (found : List (ZoneNo × ℕ)) (line : List ℕ) (at : ℕ) → length line < at → all_cuts found (left_at line at) ≡ Ok found
unfolding cuts_on
cuts_none found line at past = ap (cuts_on found (left_at line at).column) (words_past line at past)

-- ---- a loop over them

-- The words from a place on are read up to another: so many cuts stand between.
pub record IsReadTo (line : List ℕ) (at place count : ℕ) : Type 0 where
  pub found : List (ZoneNo × ℕ)
  pub counted : length found ≡ count
  pub same : all_cuts [] (left_at line at) ≡ all_cuts found (left_at line place)

pub cuts-begun : (line : List ℕ) (at : ℕ) → IsReadTo line at at 0
cuts-begun line at = record { found = []; counted = refl; same = refl }

-- one cut more
pub cuts-added : (line : List ℕ) (at place end count : ℕ) (cut : ZoneNo × ℕ) (to : IsReadTo line at place count) → next (cut_after to.found) (left_at line place) ≡ Ok (to.found ++ cut ∷ [], left_at line end) → IsReadTo line at end (count + 1)
cuts-added line at place end count cut to is = record {
  found = to.found ++ cut ∷ [];
  counted = length-append to.found (cut ∷ []) ∙ ap (λ n. n + 1) to.counted;
  same = to.same ∙ cuts_more to.found (to.found ++ cut ∷ []) (left_at line place) (left_at line end) is;
}

-- a word that is none, or too many
pub cuts-refused : (line : List ℕ) (at place count e : ℕ) (to : IsReadTo line at place count) → place ≤ length line → next (cut_after to.found) (left_at line place) ≡ Err e → all_cuts [] (left_at line at) ≡ Err e
cuts-refused line at place count e to within is = to.same ∙ fault_at to.found line place e within is (position is_blank (drop place line)) refl

-- ---- all of them

-- at whatever column they begin
again : (words : List (List ℕ)) (cuts : List (ZoneNo × ℕ)) (column : ℕ) → cuts_on [] column words ≡ Ok cuts → cuts_on [] 1 words ≡ Ok cuts
again words cuts column is = let known = cuts-known words cuts column is in ap (cuts_on [] 1) known.0 ∙ cuts-read cuts 1 known.1

empty-refused : (cuts : List (ZoneNo × ℕ)) (column : ℕ) → cuts_on [] column ([] ∷ []) ≡ Ok cuts → ⊥
unfolding cuts_on cut_of
empty-refused cuts column is = cc

among : (words : List ℕ) (cuts : List (ZoneNo × ℕ)) → cuts_on [] 1 (slice_split is_blank words) ≡ Ok cuts → cuts_read words ≡ Ok cuts
among [] cuts is = absurd (empty-refused cuts 1 is)
among (b ∷ bytes) cuts is = is

nothing-read : cuts_read [] ≡ Ok []
unfolding cuts_on
nothing-read = refl

-- What is read of all words from a place on.
pub record AreAllCuts (line words : List ℕ) (at : ℕ) : Type 0 where
  pub gives : all_cuts [] (left_at line at) ≡ Ok (cuts_meant words)
  pub fit : AreCutWords words

named : (line words : List ℕ) (at : ℕ) (cuts : List (ZoneNo × ℕ)) → all_cuts [] (left_at line at) ≡ Ok cuts → cuts_read words ≡ Ok cuts → AreAllCuts line words at
named line words at cuts all read =
    let Read : Result (List (ZoneNo × ℕ)) ℕ → Type 0 = λ r. IsOk r in
    record { gives = all ∙ ap (λ r. Ok (unwrap_or (result_ok r) [])) (sym read); fit = subst Read (sym read) refl }

-- nothing is left behind the last word that was read
pub cuts-all : (line : List ℕ) (at place count : ℕ) → IsReadTo line at place count → length line < place → AreAllCuts line (drop (min at (length line)) line) at
cuts-all line at place count to past = elim (cases_lt (length line) at) [
  | inl beyond ↦
      let end : min at (length line) ≡ length line = omega arith in
      let Named : List ℕ → Type 0 = λ words. AreAllCuts line words at in
      subst Named (sym (ap (λ k. drop k line) end ∙ drop_all (length line) line (omega arith))) (named line [] at [] (cuts_none [] line at beyond) nothing-read)
  | inr within ↦
      let start : min at (length line) ≡ at = omega arith in
      let Named : List ℕ → Type 0 = λ words. AreAllCuts line words at in
      let all = to.same ∙ cuts_none to.found line place past in
      subst Named (sym (ap (λ k. drop k line) start))
      (named line (drop at line) at to.found all (among (drop at line) to.found (ap (cuts_on [] 1) (sym (words_in line at within)) ∙ again (left_at line at).words to.found (left_at line at).column all)))
]

-- ---- cuts that are known to be

ok-known : (r : Result (List (ZoneNo × ℕ)) ℕ) → IsOk r → r ≡ Ok (unwrap_or (result_ok r) [])
ok-known (Ok cuts) ok = refl
ok-known (Err e) ok = absurd cc

-- words that are cuts, as a line of their own
pub cuts-start : (words : List ℕ) → eqb (length words) 0 ≡ false → AreCutWords words → all_cuts [] (left_at words 0) ≡ Ok (cuts_meant words)
unfolding left_at
cuts-start [] some fit = absurd cc
cuts-start (b ∷ bytes) some fit = ap (cuts_on [] 1) (words_in (b ∷ bytes) 0 (omega arith)) ∙ ok-known (cuts_read (b ∷ bytes)) fit

pub cuts-nothing : (words : List ℕ) → length words ≡ 0 → [] ≡ cuts_meant words
unfolding cuts_on
cuts-nothing [] none = refl
cuts-nothing (b ∷ bytes) none = absurd (omega arith)

-- cuts that begin with those that were found
record BeginsWith (found all : List (ZoneNo × ℕ)) : Type 0 where
  more : List (ZoneNo × ℕ)
  is : found ++ more ≡ all

begun-more : (found : List (ZoneNo × ℕ)) (cut : ZoneNo × ℕ) (all : List (ZoneNo × ℕ)) → BeginsWith (found ++ cut ∷ []) all → BeginsWith found all
begun-more found cut all begins = record { more = cut ∷ begins.more; is = sym (append_assoc found (cut ∷ []) begins.more) ∙ begins.is }

begun-with : (found all : List (ZoneNo × ℕ)) (column column' : ℕ) (words : List (List ℕ)) → ((more : List (ZoneNo × ℕ)) → cuts_on more column' words ≡ Ok all → BeginsWith more all)
    → (cut : ZoneNo × ℕ) (o : Option (List (ZoneNo × ℕ))) → with_cut found cut ≡ o → cut_then o column (λ more. cuts_on more column' words) ≡ Ok all → BeginsWith found all
begun-with found all column column' words further cut None here is = absurd cc
begun-with found all column column' words further cut (Some more) here is =
    let same : found ++ cut ∷ [] ≡ more = same_Some (found ++ cut ∷ []) more (cond_taken (nat_lt (length found) MAX_CUTS) (Some (found ++ cut ∷ [])) more here).1 in
    let Begins : List (ZoneNo × ℕ) → Type 0 = λ front. BeginsWith front all in
    begun-more found cut all (subst Begins (sym same) (further more is))

begun-by : (found all : List (ZoneNo × ℕ)) (column column' : ℕ) (words : List (List ℕ)) → ((more : List (ZoneNo × ℕ)) → cuts_on more column' words ≡ Ok all → BeginsWith more all)
    → (o : Option (ZoneNo × ℕ)) → cut_then (option_and_then (with_cut found) o) column (λ more. cuts_on more column' words) ≡ Ok all → BeginsWith found all
begun-by found all column column' words further None is = absurd cc
begun-by found all column column' words further (Some cut) is = begun-with found all column column' words further cut (with_cut found cut) refl is

begun : (words : List (List ℕ)) (found all : List (ZoneNo × ℕ)) (column : ℕ) → cuts_on found column words ≡ Ok all → BeginsWith found all
unfolding cuts_on
begun [] found all column is = record { more = []; is = append-nil found ∙ cc }
begun (word ∷ words) found all column is =
    begun-by found all column (column + length word + 1) words (λ more is. begun words more all (column + length word + 1) is) (cut_of word) is

room-true : (n : ℕ) → nat_lt n MAX_CUTS ≡ true → n < MAX_CUTS
room-true n room = grind (arith, nat_tests)

-- what is read of the next word and those behind it, by the cut that it is
read-next : (line : List ℕ) (at end : ℕ) (found : List (ZoneNo × ℕ)) → NextWord line at end → at ≤ end → (o : Option (ZoneNo × ℕ)) → o ≡ cut_of (take (end - at) (drop at line))
    → all_cuts found (left_at line at) ≡ cut_then (option_and_then (with_cut found) o) (at + 1) (λ more. all_cuts more (left_at line (end + 1)))
unfolding cuts_on left_at
read-next line at end found w later o is =
    let word = take (end - at) (drop at line) in
    let after : at + 1 + length word + 1 ≡ end + 1 + 1 = omega (arith, w.sized) in
    let rest = (left_at line (end + 1)).words in
    ap (cuts_on found (at + 1)) w.words ∙ ap (λ column. cut_then (cut_after found word) (at + 1) (λ more. cuts_on more column rest)) after
    ∙ ap (λ o. cut_then (option_and_then (with_cut found) o) (at + 1) (λ more. cuts_on more (end + 1 + 1) rest)) (sym is)

-- a word of cuts is one
pub cuts-no_other : (line : List ℕ) (at end : ℕ) (found all : List (ZoneNo × ℕ)) → NextWord line at end → at ≤ end → all_cuts found (left_at line at) ≡ Ok all → None ≡ cut_of (take (end - at) (drop at line)) → ⊥
cuts-no_other line at end found all w later is none =
    let refused : ◌≡◌ {A = Result (List (ZoneNo × ℕ)) ℕ} (Err (at + 1)) (Ok all) = sym (read-next line at end found w later None none) ∙ is in
    cc

-- The next cut, for which there is room, and what follows it.
pub record IsNextCut (line : List ℕ) (end : ℕ) (found all : List (ZoneNo × ℕ)) (cut : ZoneNo × ℕ) : Type 0 where
  pub room : length found < MAX_CUTS
  pub follow : all_cuts (found ++ cut ∷ []) (left_at line (end + 1)) ≡ Ok all

next-with : (line : List ℕ) (end column : ℕ) (found all : List (ZoneNo × ℕ)) (cut : ZoneNo × ℕ) (o : Option (List (ZoneNo × ℕ))) → with_cut found cut ≡ o
    → cut_then o column (λ more. all_cuts more (left_at line (end + 1))) ≡ Ok all → IsNextCut line end found all cut
next-with line end column found all cut None here is = absurd cc
next-with line end column found all cut (Some more) here is =
    let taken = cond_taken (nat_lt (length found) MAX_CUTS) (Some (found ++ cut ∷ [])) more here in
    let same : found ++ cut ∷ [] ≡ more = same_Some (found ++ cut ∷ []) more taken.1 in
    record { room = room-true (length found) taken.0; follow = ap (λ front. all_cuts front (left_at line (end + 1))) same ∙ is }

pub cuts-next : (line : List ℕ) (at end : ℕ) (found all : List (ZoneNo × ℕ)) (cut : ZoneNo × ℕ) → NextWord line at end → at ≤ end → all_cuts found (left_at line at) ≡ Ok all → Some cut ≡ cut_of (take (end - at) (drop at line))
    → IsNextCut line end found all cut
cuts-next line at end found all cut w later is known =
    next-with line end (at + 1) found all cut (with_cut found cut) refl (sym (read-next line at end found w later (Some cut) known) ∙ is)

-- no word is left
pub cuts-end : (found all : List (ZoneNo × ℕ)) (line : List ℕ) (at : ℕ) → length line < at → all_cuts found (left_at line at) ≡ Ok all → found ≡ all
cuts-end found all line at past is =
    let same : ◌≡◌ {A = Result (List (ZoneNo × ℕ)) ℕ} (Ok found) (Ok all) = sym (cuts_none found line at past) ∙ is in
    cc

-- ---- zones that no device has

or-true : (t : Bool) → (t || true) ≡ true
or-true true = refl
or-true false = refl

any-beyond : (found : List (ZoneNo × ℕ)) (cut : ZoneNo × ℕ) (more : List (ZoneNo × ℕ)) → is_beyond cut ≡ true → list_any is_beyond ((found ++ cut ∷ []) ++ more) ≡ true
any-beyond [] cut more beyond = ap (λ t. t || list_any is_beyond more) beyond
any-beyond (other ∷ found) cut more beyond = ap (λ t. is_beyond other || t) (any-beyond found cut more beyond) ∙ or-true (is_beyond other)

pub cuts-beyond : (line : List ℕ) (end : ℕ) (found all : List (ZoneNo × ℕ)) (cut : ZoneNo × ℕ) → IsNextCut line end found all cut → 4294967296 ≤ cut.0.0 → list_any is_beyond all ≡ true
cuts-beyond line end found all cut next large =
    let begins = begun (left_at line (end + 1)).words (found ++ cut ∷ []) all (left_at line (end + 1)).column next.follow in
    ap (list_any is_beyond) (sym begins.is) ∙ any-beyond found cut begins.more (le-leb _ _ large)

-- a number that doesn't fit 32 bits
pub narrow-none : {E : Type 0} (r : Result ℕ E) (n : ℕ) → OkIff r (n < 4294967296) n → None ≡ result_ok r → 4294967296 ≤ n
narrow-none (Ok z) n known none = absurd cc
narrow-none (Err e) n known none = elim (cases_lt n 4294967296) [ inl small ↦ absurd (known small) | inr large ↦ large ]

-- and one that does
pub narrow-some : {E : Type 0} (r : Result ℕ E) (n z : ℕ) → OkIff r (n < 4294967296) n → Some z ≡ result_ok r → z ≡ n
narrow-some (Ok x) n z known some = same_Some z x some ∙ known.1
narrow-some (Err e) n z known some = absurd cc

-- what a push says where there is room
pub cut-pushed : (pushed : Bool) (P Q : Type 0) → MatchBool pushed P Q → IsTrue pushed → P
cut-pushed true P Q means room = means
cut-pushed false P Q means room = absurd cc
