-- How `clap` walks over values: words that are no options.
use Rattle.std.proofs.Common.{◌≡◌, ◌∙◌, ℕ, ◌==◌, ◌&&◌, Bool, true, false, not, List, [], ◌∷◌, length, map, option_map, suc, Option, Some, None, IsSome, refl, ap, ap₂, arith}
use Rattle.std.specs.Borrow.{Bor}
use Rattle.std.specs.List.{list_all}
use Rattle.std.proofs.lemmas.Bool.{and_parts, eqb-true}
use Rattle.clap.specs.Simple.{Shape}
use Rattle.clap.specs.Takes.{step_passes, turn_passes, walk_passes, word_passes}
use Rattle.clap.specs.Walk.{Held, Rule, Step, Text, Waiting, Walk, after_step, arg_by_index, idle, option, plain_word, positional, to_positional, value, walked, word_met}
use Rattle.zn_base.specs.Decimals.{number_in}
use Rattle.zn_words.specs.Parts.{is_value}
use Rattle.zn_words.specs.Scratch.{are_values}

-- ---- one value

-- a value is no flag
pub value_met : (c : List Rule) (waiting : Waiting) (position : ℕ) (word : Text) (h : Held) → is_value word ≡ true → word_met c [] false waiting position word h ≡ plain_word c waiting word h
value_met c waiting position [] h is = absurd (cc is)
value_met c waiting position (x ∷ xs) h is = go waiting (x == 45) refl is
  where
    go : (w : Waiting) (b : Bool) → (x == 45) ≡ b → not b ≡ true → word_met c [] false w position (x ∷ xs) h ≡ plain_word c w (x ∷ xs) h
    go w true e n = absurd (cc n)
    go idle false e n = simp e
    go (option id) false e n = simp e
    go positional false e n = simp e

-- and asks for nothing
pub value_passes : (s : Shape) (waiting : Waiting) (word : Text) (h : Held) → is_value word ≡ true → word_passes s [] false waiting word h ≡ true
value_passes s waiting [] h is = absurd (cc is)
value_passes s waiting (x ∷ xs) h is = go waiting (x == 45) refl is
  where
    go : (w : Waiting) (b : Bool) → (x == 45) ≡ b → not b ≡ true → word_passes s [] false w (x ∷ xs) h ≡ true
    go w true e n = absurd (cc n)
    go idle false e n = simp e
    go (option id) false e n = simp e
    go positional false e n = simp e

-- ---- a value that goes to a positional

-- where a walk stands between two words
abbrev pub standing : Waiting → Held → ℕ → Walk
standing waiting h position = record { held = h; waiting = waiting; position = position; is_trailing = false; stopped = None }

-- the same where nothing waits for a value
abbrev pub between : Held → ℕ → Walk
between h position = standing idle h position

-- the walk after one more value
abbrev pub placed : List Rule → Waiting → Held → ℕ → Text → Walk
placed c waiting h position word = to_positional c (arg_by_index c position) word (standing waiting h position) h

pub value_walked : (c : List Rule) (waiting : Waiting) (h : Held) (position : ℕ) (word : Text) → plain_word c waiting word h ≡ (h, value) → is_value word ≡ true
    → walked c [] (standing waiting h position) word ≡ placed c waiting h position word
unfolding walked
value_walked c waiting h position word plain is =
    ap (λ (p : Held × Step). after_step c word (standing waiting h position) p.0 p.1) (value_met c waiting position word h is ∙ plain)

-- the value passes where its place does
value_turns : (s : Shape) (waiting : Waiting) (h : Held) (position : ℕ) (word : Text) → plain_word s.rules waiting word h ≡ (h, value) → is_value word ≡ true
    → step_passes s position h value ≡ true → turn_passes s [] (standing waiting h position) word ≡ true
value_turns s waiting h position word plain is passes =
    ap₂ (λ (b : Bool) (p : Held × Step). b && step_passes s position p.0 p.1) (value_passes s waiting word h is) (value_met s.rules waiting position word h is ∙ plain) ∙ passes

pub value_goes : (s : Shape) (waiting : Waiting) (h : Held) (position : ℕ) (word : Text) (rest : List Text) → plain_word s.rules waiting word h ≡ (h, value) → is_value word ≡ true
    → step_passes s position h value ≡ true → walk_passes s [] (placed s.rules waiting h position word) rest ≡ true → walk_passes s [] (standing waiting h position) (word ∷ rest) ≡ true
unfolding walk_passes
value_goes s waiting h position word rest plain is passes goes =
    ap₂ (λ (b : Bool) (w : Walk). b && walk_passes s [] w rest) (value_turns s waiting h position word plain is passes) (value_walked s.rules waiting h position word plain is) ∙ goes

-- ---- texts

-- all values, one of them or more
pub values_split : (count : ℕ) (word : Text) (words : List Text) → are_values count (word ∷ words) ≡ true → (count ≡ suc (length words)) × (is_value word ≡ true) × (list_all is_value words ≡ true)
values_split count word words are =
    let parts = and_parts (length (word ∷ words) == count) (list_all is_value (word ∷ words)) are in
    let all = and_parts (is_value word) (list_all is_value words) parts.1 in
    (omega (arith, eqb-true _ _ parts.0), all.0, all.1)

-- a text that is there is lent
pub text_lent : (lent : Option (Bor Text)) (text : Option Text) → option_map (λ s. s.now) lent ≡ text → IsSome text → IsSome lent
text_lent None text is there = rw (← is) at there
text_lent (Some s) text is there = refl

-- texts that are all there are the words
pub same_texts : (texts words : List Text) → map Some texts ≡ map Some words → texts ≡ words
same_texts [] [] is = refl
same_texts [] (w ∷ words) is = absurd (cc is)
same_texts (t ∷ texts) [] is = absurd (cc is)
same_texts (t ∷ texts) (w ∷ words) is =
    let first : t ≡ w = cc in
    let rest : map Some texts ≡ map Some words = cc in
    ap₂ (λ (x : Text) (xs : List Text). x ∷ xs) first (same_texts texts words rest)

-- ---- numbers

is_hyphen : (x : ℕ) → not (x == 45) ≡ false → x ≡ 45
is_hyphen x is = eqb-true x 45 (go (x == 45) is)
  where
    go : (b : Bool) → not b ≡ false → b ≡ true
    go true e = refl
    go false e = absurd (cc e)

-- what is no value is no number
pub not_number : (max : ℕ) (word : Text) → is_value word ≡ false → number_in max word ≡ None
unfolding number_in
not_number max [] is = refl
not_number max (x ∷ []) is = rw (is_hyphen x is) refl
not_number max (x ∷ y ∷ word) is = rw (is_hyphen x is) refl
