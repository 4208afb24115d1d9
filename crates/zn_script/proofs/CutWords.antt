-- Words of cuts: a zone and blocks, parted by a colon, and such words one after another.
use Rattle.std.proofs.Common.{◌≡◌, ℕ, ◌+◌, ◌<◌, ◌^◌, false, List, [], ◌∷◌, take, drop, Some, None, refl, ap, sym, ◌∙◌, arith}
use Rattle.std.proofs.lemmas.List.Splits.{slice_split_first, slice_split_none}
use Rattle.std.proofs.lemmas.List.Sums.{fails_before_first}
use Rattle.std.specs.List.{position, slice_split, All}
use Rattle.zn_base.specs.Decimals.{number_in}
use Rattle.zn_base.proofs.DecimalLaws.{decimal-number_in}
use Rattle.zn_lines.specs.Grammar.{last_zone, last_u32, is_colon, cut_by, cut_in, cut_of}
use Rattle.zn_lines.proofs.Separated.{lacks, decimal-lacks, slice_split-alone, join-slice_split}
use Rattle.zn_script.specs.Cuts.{cut_meant}
use Rattle.zn_script.proofs.Splitting.{some_place, no_place}

-- ---- one cut

colon_first : (word : List ℕ) (i : ℕ) → position is_colon word ≡ Some i → slice_split is_colon word ≡ take i word ∷ slice_split is_colon (drop (i + 1) word)
colon_first word i is =
    let p = some_place _ _ i is in
    slice_split_first is_colon word 0 p.0 ∙ ap (λ k. take k word ∷ slice_split is_colon (drop (k + 1) word)) p.1

-- no colon
pub cut-alone : (word : List ℕ) → position is_colon word ≡ None → None ≡ cut_of word
unfolding cut_of
cut-alone word is =
    let p = no_place _ _ is in
    let one : All (λ b. is_colon b ≡ false) word = λ k d within. fails_before_first is_colon word k d (omega arith) in
    sym (ap cut_in (slice_split_none is_colon word one))

no_zone : (zone : List ℕ) (parts : List (List ℕ)) → number_in last_zone zone ≡ None → cut_in (zone ∷ parts) ≡ None
no_zone zone [] none = refl
no_zone zone (blocks ∷ []) none = ap (λ z. cut_by z (number_in last_u32 blocks)) none
no_zone zone (blocks ∷ more ∷ parts) none = refl

-- no number before the colon
pub cut-no_zone : (word : List ℕ) (i : ℕ) → position is_colon word ≡ Some i → number_in last_zone (take i word) ≡ None → None ≡ cut_of word
unfolding cut_of
cut-no_zone word i is none = sym (ap cut_in (colon_first word i is) ∙ no_zone (take i word) _ none)

no_blocks : (zone rest : List ℕ) (z : ℕ) (parts : List (List ℕ)) → number_in last_zone zone ≡ Some z → slice_split is_colon rest ≡ parts → number_in last_u32 rest ≡ None → cut_in (zone ∷ parts) ≡ None
no_blocks zone rest z [] some are none = refl
no_blocks zone rest z (blocks ∷ more ∷ parts) some are none = refl
no_blocks zone rest z (blocks ∷ []) some are none =
    let same : rest ≡ blocks = join-slice_split 58 rest (blocks ∷ []) are in
    ap (λ z. cut_by z (number_in last_u32 blocks)) some ∙ ap (cut_by (Some z)) (ap (number_in last_u32) (sym same) ∙ none)

-- no number behind it
pub cut-no_blocks : (word : List ℕ) (i z : ℕ) → position is_colon word ≡ Some i → number_in last_zone (take i word) ≡ Some z → number_in last_u32 (drop (i + 1) word) ≡ None → None ≡ cut_of word
unfolding cut_of
cut-no_blocks word i z is some none = sym (ap cut_in (colon_first word i is) ∙ no_blocks (take i word) (drop (i + 1) word) z _ some refl none)

-- a word of digits is one part
number-alone : (rest : List ℕ) (n : ℕ) → number_in last_u32 rest ≡ Some n → slice_split is_colon rest ≡ rest ∷ []
number-alone rest n is =
    let limit : last_u32 < 2 ^ 64 = omega arith in
    let known = decimal-number_in last_u32 n rest limit is in
    slice_split-alone 58 rest (ap (lacks 58) known.0 ∙ decimal-lacks 58 n refl (omega (arith, known.1)))

-- a number before it, and one behind
pub cut-read : (word : List ℕ) (i z n : ℕ) → position is_colon word ≡ Some i → number_in last_zone (take i word) ≡ Some z → number_in last_u32 (drop (i + 1) word) ≡ Some n
    → Some (cut_meant (record { zone = z; blocks = n })) ≡ cut_of word
unfolding cut_of
cut-read word i z n is zone blocks =
    let rest = drop (i + 1) word in
    sym (ap cut_in (colon_first word i is ∙ ap (λ parts. take i word ∷ parts) (number-alone rest n blocks)) ∙ ap (λ o. cut_by o (number_in last_u32 rest)) zone ∙ ap (cut_by (Some z)) blocks)
