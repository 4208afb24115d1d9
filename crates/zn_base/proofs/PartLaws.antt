-- Laws of texts by their parts.
use Rattle.std.proofs.Common.{◌≡◌, ℕ, ◌+◌, ◌<◌, List, [], ◌++◌, get_or, length, take, drop, Option, ap, sym, subst, ◌∙◌}
use Rattle.std.proofs.lemmas.List.{take-append-drop, flat_map_more, take_more}
use Rattle.std.proofs.lemmas.List.Concat.{flat_map-append}
use Rattle.zn_base.specs.declared.texts.Part.{Part}
use Rattle.zn_base.specs.Parts.{part_text, text_of}
use Rattle.zn_base.specs.Told.{Grew, GrewToward}
use Rattle.zn_base.proofs.ToldLaws.{grew_toward, toward_more}

-- the text so far and one part are the text so far
text_more : (parts : List Part) (i : ℕ) (d : Part) → i < length parts → text_of (take i parts) ++ part_text (get_or parts i d) ≡ text_of (take (i + 1) parts)
text_more parts i d within = flat_map_more part_text [] (take i parts) (get_or parts i d) ∙ ap text_of (sym (take_more parts i d within))

-- a run of writes that a fault cuts short in a part
pub parts_cut : (told0 told told' : Option (List ℕ)) (parts : List Part) (i : ℕ) (d : Part) → i < length parts → Grew told0 told (text_of (take i parts)) → GrewToward told told' (part_text (get_or parts i d)) → GrewToward told0 told' (text_of parts)
parts_cut told0 told told' parts i d within so_far more =
    let grown = grew_toward told0 told told' (text_of (take i parts)) (part_text (get_or parts i d)) so_far more in
    let whole : text_of (take i parts) ++ part_text (get_or parts i d) ++ text_of (drop (i + 1) parts) ≡ text_of parts =
    ap (λ xs. xs ++ text_of (drop (i + 1) parts)) (text_more parts i d within)
    ∙ sym (flat_map-append part_text (take (i + 1) parts) (drop (i + 1) parts)) ∙ ap text_of (take-append-drop (i + 1) parts) in
    subst (λ (due : List ℕ). GrewToward told0 told' due) whole (toward_more told0 told' (text_of (take i parts) ++ part_text (get_or parts i d)) (text_of (drop (i + 1) parts)) grown)
