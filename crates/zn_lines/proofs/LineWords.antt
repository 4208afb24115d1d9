-- The words of a line, read one after another.
use Rattle.std.proofs.Common.{◌≡◌, ℕ, ◌+◌, Bool, true, false, cond, List, [], ◌∷◌, ◌++◌, length, Option, Some, None, IfSome, Result, Ok, refl, ap, ◌∙◌, subst}
use Rattle.std.specs.Str.{bytes_eq}
use Rattle.std.proofs.lemmas.Bool.{and_from}
use Rattle.std.proofs.lemmas.Option.{same_Some}
use Rattle.std.proofs.lemmas.Slice.Eq.{bytes_eq-Decides}
use Rattle.zn_lines.specs.Words.{Left, ◌>>=◌, behind, or_column, next_of, next, or_none, optional_of, optional, none_of, no_more}
use Rattle.zn_lines.proofs.Separated.{lacks, all_lack}

-- ---- one word

-- A kind of words: one for each value that fits, which is read from it and from no other word.
pub record IsWordKind {A : Type 0} (read : List ℕ → Option A) (word_of : A → List ℕ) (Fits : A → Type 0) : Type 0 where
  pub written : (x : A) → Fits x → read (word_of x) ≡ Some x
  pub known : (word : List ℕ) (x : A) → read word ≡ Some x → (word ≡ word_of x) × Fits x
  pub whole : (x : A) → Fits x → lacks 32 (word_of x) ≡ true

-- a choice among words, each with its value: what holds of each word's value holds of the value that is read
pub chosen : {A : Type 0} (P : A → Type 0) (word text : List ℕ) (choice x : A) (rest : Option A) → cond (bytes_eq word text) (Some choice) rest ≡ Some x → (word ≡ text → P choice) → (rest ≡ Some x → P x) → P x
chosen P word text choice x rest is here further = go (bytes_eq word text) refl is
  where
    go : (test : Bool) → bytes_eq word text ≡ test → cond test (Some choice) rest ≡ Some x → P x
    go true same taken = subst P (same_Some choice x taken) (here ((bytes_eq-Decides word text).0 same))
    go false other taken = further taken

-- ---- one word after another

-- Words without blanks, from which this is read.
pub record IsReadFrom {B : Type 0} (words : List (List ℕ)) (read : Left → Result B ℕ) (value : B) : Type 0 where
  pub whole : all_lack 32 words ≡ true
  pub reads : (left : Left) → left.words ≡ words → read left ≡ Ok value

-- the word of a value that fits, and behind it words from which the rest is read
pub next-written : {A B : Type 0} {read : List ℕ → Option A} {word_of : A → List ℕ} {Fits : A → Type 0} → IsWordKind read word_of Fits → (x : A) → Fits x → {words : List (List ℕ)} {follows : A × Left → Result B ℕ} {value : B} → IsReadFrom words (λ left. follows (x, left)) value → IsReadFrom (word_of x ∷ words) (λ left. next read left >>= follows) value
next-written {read = read} {word_of = word_of} kind x fits {words = words} {follows = follows} further =
    let rest : Left → Left = λ left. record { column = left.column + length (word_of x) + 1; words = words } in
    record {
      whole = and_from _ _ (kind.whole x fits) further.whole;
      reads = λ left are.
          ap (λ ws. next_of read left.column ws >>= follows) are
          ∙ ap (λ o. or_column o left.column (rest left) >>= follows) (kind.written x fits)
          ∙ further.reads (rest left) refl;
    }

-- the word of a value that fits, where one may stand
pub optional-written : {A B : Type 0} {read : List ℕ → Option A} {word_of : A → List ℕ} {Fits : A → Type 0} → IsWordKind read word_of Fits → (x : A) → Fits x → {words : List (List ℕ)} {follows : Option A × Left → Result B ℕ} {value : B} → IsReadFrom words (λ left. follows (Some x, left)) value → IsReadFrom (word_of x ∷ words) (λ left. optional read left >>= follows) value
optional-written {read = read} {word_of = word_of} kind x fits {words = words} {follows = follows} further =
    let all : Left → Left = λ left. record { column = left.column; words = word_of x ∷ words } in
    record {
      whole = and_from _ _ (kind.whole x fits) further.whole;
      reads = λ left are.
          ap (λ ws. optional_of read left.column ws >>= follows) are
          ∙ ap (λ o. or_none o (all left) (behind left.column (word_of x) words) >>= follows) (kind.written x fits)
          ∙ further.reads (behind left.column (word_of x) words) refl;
    }

-- the first of these words, if there is one, can't be read so
abbrev pub IsOther : {A : Type 0} → (List ℕ → Option A) → List (List ℕ) → Type 0
IsOther read [] = Unit {0}
IsOther read (word ∷ words) = read word ≡ None

-- no word, where one may stand
pub optional-left_out : {A B : Type 0} (read : List ℕ → Option A) (words : List (List ℕ)) {follows : Option A × Left → Result B ℕ} {value : B} → IsOther read words → IsReadFrom words (λ left. follows (None, left)) value → IsReadFrom words (λ left. optional read left >>= follows) value
optional-left_out read [] {follows = follows} other further =
    let none : Left → Left = λ left. record { column = left.column; words = [] } in
    record {
      whole = further.whole;
      reads = λ left are. ap (λ ws. optional_of read left.column ws >>= follows) are ∙ further.reads (none left) refl;
    }
optional-left_out read (word ∷ words) {follows = follows} other further =
    let all : Left → Left = λ left. record { column = left.column; words = word ∷ words } in
    record {
      whole = further.whole;
      reads = λ left are.
          ap (λ ws. optional_of read left.column ws >>= follows) are
          ∙ ap (λ o. or_none o (all left) (behind left.column word words) >>= follows) other
          ∙ further.reads (all left) refl;
    }

-- no word is left
pub no_more-written : {B : Type 0} (value : B) → IsReadFrom [] (no_more value) value
no_more-written value = record { whole = refl; reads = λ left none. ap (none_of value left.column) none }

-- What a next word was read as: a value that fits, whose word it is, and what is left behind it.
pub record Taken {A B : Type 0} (word_of : A → List ℕ) (Fits : A → Type 0) (left : Left) (follows : A × Left → Result B ℕ) (value : B) : Type 0 where
  pub x : A
  pub rest : Left
  pub words : left.words ≡ word_of x ∷ rest.words
  pub fits : Fits x
  pub follow : follows (x, rest) ≡ Ok value

-- where words are read, the next was one of its kind
pub next-known : {A B : Type 0} {read : List ℕ → Option A} {word_of : A → List ℕ} {Fits : A → Type 0} → IsWordKind read word_of Fits → (left : Left) (follows : A × Left → Result B ℕ) (value : B) → next read left >>= follows ≡ Ok value → Taken word_of Fits left follows value
next-known {A = A} {read = read} {word_of = word_of} {Fits = Fits} kind left follows value is = among left.words refl is
  where
    fitted : (word : List ℕ) (rest : Left) → left.words ≡ word ∷ rest.words → (found : Option A) → read word ≡ found → or_column found left.column rest >>= follows ≡ Ok value → Taken word_of Fits left follows value
    fitted word rest are None found follow = absurd cc
    fitted word rest are (Some x) found follow =
        let known = kind.known word x found in
        record { x = x; rest = rest; words = are ∙ ap (λ w. w ∷ rest.words) known.0; fits = known.1; follow = follow }

    among : (words : List (List ℕ)) → left.words ≡ words → next_of read left.column words >>= follows ≡ Ok value → Taken word_of Fits left follows value
    among [] are follow = absurd cc
    among (word ∷ words) are follow = fitted word (record { column = left.column + length word + 1; words = words }) are (read word) refl follow

-- the words of a value that may be there
abbrev pub words_if : {A : Type 0} → (A → List ℕ) → Option A → List (List ℕ)
words_if word_of None = []
words_if word_of (Some x) = word_of x ∷ []

-- What may have been read as a next word: a value that fits, or none, whose words they are, and what is left.
pub record MaybeTaken {A B : Type 0} (word_of : A → List ℕ) (Fits : A → Type 0) (left : Left) (follows : Option A × Left → Result B ℕ) (value : B) : Type 0 where
  pub x : Option A
  pub rest : Left
  pub words : left.words ≡ words_if word_of x ++ rest.words
  pub fits : IfSome x Fits
  pub follow : follows (x, rest) ≡ Ok value

-- where a word may stand, it was one of its kind, or none was taken
pub optional-known : {A B : Type 0} {read : List ℕ → Option A} {word_of : A → List ℕ} {Fits : A → Type 0} → IsWordKind read word_of Fits → (left : Left) (follows : Option A × Left → Result B ℕ) (value : B) → optional read left >>= follows ≡ Ok value → MaybeTaken word_of Fits left follows value
optional-known {A = A} {read = read} {word_of = word_of} {Fits = Fits} kind left follows value is = among left.words refl is
  where
    fitted : (word : List ℕ) (words : List (List ℕ)) → left.words ≡ word ∷ words → (found : Option A) → read word ≡ found → or_none found (record { column = left.column; words = word ∷ words }) (behind left.column word words) >>= follows ≡ Ok value → MaybeTaken word_of Fits left follows value
    fitted word words are None found follow = record { x = None; rest = record { column = left.column; words = word ∷ words }; words = are; fits = tt; follow = follow }
    fitted word words are (Some x) found follow =
        let known = kind.known word x found in
        record { x = Some x; rest = behind left.column word words; words = are ∙ ap (λ w. w ∷ words) known.0; fits = known.1; follow = follow }

    among : (words : List (List ℕ)) → left.words ≡ words → optional_of read left.column words >>= follows ≡ Ok value → MaybeTaken word_of Fits left follows value
    among [] are follow = record { x = None; rest = record { column = left.column; words = [] }; words = are; fits = tt; follow = follow }
    among (word ∷ words) are follow = fitted word words are (read word) refl follow

-- where no more was read, no word is left
pub no_more-known : {B : Type 0} (value line : B) (left : Left) → no_more value left ≡ Ok line → (left.words ≡ []) × (value ≡ line)
no_more-known value line left is = among left.words refl is
  where
    among : (words : List (List ℕ)) → left.words ≡ words → none_of value left.column words ≡ Ok line → (left.words ≡ []) × (value ≡ line)
    among [] none same = (none, cc)
    among (word ∷ words) are same = absurd cc
