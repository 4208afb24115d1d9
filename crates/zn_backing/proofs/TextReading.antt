-- Texts that are read and written in parts.
use Rattle.std.proofs.Common.{◌≡◌, ℕ, ◌+◌, ◌-◌, ◌^◌, ◌<◌, ◌≤◌, List, [], ◌∷◌, ◌++◌, length, take, drop, Option, Some, refl, sym, ap, ◌∙◌, arith, append_assoc, lit<}
use Rattle.std.specs.Fmt.{digits}
use Rattle.std.proofs.Math.Seq.{take-length}
use Rattle.std.proofs.lemmas.List.{length-drop}
use Rattle.zn_base.specs.Decimals.{number_in}
use Rattle.zn_base.proofs.DecimalLaws.{decimal-number_in}
use Rattle.zn_stand.specs.declared.numbers.Geometry.{Geometry}
use Rattle.zn_stand.specs.declared.numbers.TheConstants.{GREATEST_NUMBER}
use Rattle.zn_stand.specs.DeviceText.{device_text, line_text, zones_label, conv_label, blocks_label, capacity_label, open_label, active_label, first_line, newline}

-- what is behind a place, as a slice gives it
pub rest_is : {A : Type 0} (at : ℕ) (xs : List A) → take (length xs - at) (drop at xs) ≡ drop at xs
rest_is at xs = ap (λ n. take n (drop at xs)) (sym (length-drop at xs)) ∙ take-length (drop at xs)

-- a number that is read is at most the greatest
pub number_fits : (word : List ℕ) (n : ℕ) → number_in 4294967295 word ≡ Some n → n < 2 ^ 32
number_fits word n is = omega (arith, (decimal-number_in 4294967295 n word (lit< tt) is).1)

-- lines one behind another are the text
pub text_of_lines : (geo : Geometry) (zero one two three four five six seven : List ℕ) → zero ≡ [] → one ≡ zero ++ line_text (122 ∷ 108 ∷ 111 ∷ 111 ∷ 112 ∷ 32 ∷ []) 1 → two ≡ one ++ line_text zones_label geo.zones → three ≡ two ++ line_text conv_label geo.conv
    → four ≡ three ++ line_text blocks_label geo.shape.zone_blocks → five ≡ four ++ line_text capacity_label geo.shape.zone_capacity → six ≡ five ++ line_text open_label geo.shape.max_open → seven ≡ six ++ line_text active_label geo.shape.max_active → seven ≡ device_text geo
unfolding device_text digits
text_of_lines geo zero one two three four five six seven none e1 e2 e3 e4 e5 e6 e7 =
    let l2 : List ℕ = line_text zones_label geo.zones in
    let l3 : List ℕ = line_text conv_label geo.conv in
    let l4 : List ℕ = line_text blocks_label geo.shape.zone_blocks in
    let l5 : List ℕ = line_text capacity_label geo.shape.zone_capacity in
    let l6 : List ℕ = line_text open_label geo.shape.max_open in
    let l7 : List ℕ = line_text active_label geo.shape.max_active in
    let first : one ≡ first_line ++ newline ∷ [] = e1 ∙ ap (λ x. x ++ line_text (122 ∷ 108 ∷ 111 ∷ 111 ∷ 112 ∷ 32 ∷ []) 1) none in
    e7 ∙ ap (λ x. x ++ l7) (e6 ∙ ap (λ x. x ++ l6) (e5 ∙ ap (λ x. x ++ l5) (e4 ∙ ap (λ x. x ++ l4) (e3 ∙ ap (λ x. x ++ l3) (e2 ∙ ap (λ x. x ++ l2) first)))))
    ∙ append_assoc (((((first_line ++ newline ∷ []) ++ l2) ++ l3) ++ l4) ++ l5) l6 l7
    ∙ append_assoc ((((first_line ++ newline ∷ []) ++ l2) ++ l3) ++ l4) l5 (l6 ++ l7)
    ∙ append_assoc (((first_line ++ newline ∷ []) ++ l2) ++ l3) l4 (l5 ++ (l6 ++ l7))
    ∙ append_assoc ((first_line ++ newline ∷ []) ++ l2) l3 (l4 ++ (l5 ++ (l6 ++ l7)))
    ∙ append_assoc (first_line ++ newline ∷ []) l2 (l3 ++ (l4 ++ (l5 ++ (l6 ++ l7))))
