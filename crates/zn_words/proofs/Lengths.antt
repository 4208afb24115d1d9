-- How many parts words have.
use Rattle.std.proofs.Common.{◌≡◌, ◌∙◌, ℕ, ◌+◌, ◌≤◌, ◌==◌, ◌&&◌, if◌then◌else◌, Bool, true, false, cond, List, [], ◌∷◌, length, suc, Option, Some, None, is_some, refl, ap, ne_eqb, sym, zero-add, arith}
use Rattle.std.specs.List.{count_by}
use Rattle.std.proofs.lemmas.List.Sums.{sum_by-cons}
use Rattle.zn_words.specs.Parts.{Part, Alone, With, Other, begun, flag_of, given_by, given_of, has_form, parts_from, parts_of, takes_value, other_of, others_in}
use Rattle.zn_words.specs.declared.flags.Flag.{Flag}

-- no more parts than words, and one more behind an option that waits for its value
short : (flags : List Flag) (words : List (List ℕ)) → (length (parts_from flags words None) ≤ length words) × ((flag : Flag) → length (parts_from flags words (Some flag)) ≤ suc (length words))
short flags [] = (omega arith, λ flag. omega arith)
short flags (word ∷ words) =
    let rest = short flags words in
    (begins (flag_of flags word) rest, λ flag. omega (arith, rest.0))
  where
    waits : (flag : Flag) (takes : Bool) → (length (parts_from flags words None) ≤ length words) × ((flag : Flag) → length (parts_from flags words (Some flag)) ≤ suc (length words))
        → length {A = Part} (elim takes [ true ↦ parts_from flags words (Some flag) | false ↦ Alone flag ∷ parts_from flags words None ]) ≤ suc (length words)
    waits flag true rest = rest.1 flag
    waits flag false rest = omega (arith, rest.0)

    begins : (found : Option Flag) → (length (parts_from flags words None) ≤ length words) × ((flag : Flag) → length (parts_from flags words (Some flag)) ≤ suc (length words))
        → length (begun found word (parts_from flags words)) ≤ suc (length words)
    begins None rest = omega (arith, rest.0)
    begins (Some flag) rest = waits flag (takes_value flag) rest

pub parts_short : (flags : List Flag) (words : List (List ℕ)) → length (parts_of flags words) ≤ length words
parts_short flags words = (short flags words).0

abbrev counted : Part → ℕ
counted part = cond (is_some (other_of part)) 1 0

-- the other words, counted part by part
pub count-others_in : (parts : List Part) → count_by (λ part. is_some (other_of part)) parts ≡ length (others_in parts)
count-others_in [] = refl
count-others_in (Alone flag ∷ parts) = sum_by-cons counted (Alone flag) parts ∙ (zero-add _ ∙ count-others_in parts)
count-others_in (With flag value ∷ parts) = sum_by-cons counted (With flag value) parts ∙ (zero-add _ ∙ count-others_in parts)
count-others_in (Other word ∷ parts) =
    let one : 1 + length (others_in parts) ≡ suc (length (others_in parts)) = omega arith in
    sum_by-cons counted (Other word) parts ∙ (ap (λ n. 1 + n) (count-others_in parts) ∙ one)

-- one other word is given as the directory
pub one_given : (flags : List Flag) (parts : List Part) → is_some (given_of flags parts) ≡ (has_form flags parts && (length (others_in parts) == 1))
one_given flags parts = by_form (has_form flags parts)
  where
    by_others : (others : List (List ℕ)) → is_some (given_by others parts) ≡ (length others == 1)
    by_others [] = refl
    by_others (dir ∷ []) = refl
    by_others (dir ∷ more ∷ words) = sym (ne_eqb (length (dir ∷ more ∷ words)) 1 (λ same. omega arith))

    by_form : (b : Bool) → is_some (if b then given_by (others_in parts) parts else None) ≡ (b && (length (others_in parts) == 1))
    by_form true = by_others (others_in parts)
    by_form false = refl
