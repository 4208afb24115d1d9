-- The kinds of zones, one more at a time.
use Rattle.std.proofs.Common.{◌≡◌, ℕ, ◌+◌, ◌-◌, ◌≤◌, List, [], ◌∷◌, ◌++◌, replicate, ap, ◌∙◌, arith}
use Rattle.std.proofs.lemmas.List.{append_assoc, replicate_more}
use Rattle.zn_truth.specs.declared.Kind.{Kind}
use Rattle.zn_truth.specs.declared.Kind.TheVariants.{Conventional, Sequential}

pub kinds_more : (conv at : ℕ) (kinds : List Kind) → conv ≤ at → kinds ≡ replicate conv Conventional ++ replicate (at - conv) Sequential
    → kinds ++ Sequential ∷ [] ≡ replicate conv Conventional ++ replicate (at + 1 - conv) Sequential
kinds_more conv at kinds above is =
    let one_more : at - conv + 1 ≡ at + 1 - conv = omega arith in
    ap (λ (l : List Kind). l ++ Sequential ∷ []) is
    ∙ append_assoc (replicate conv Conventional) (replicate (at - conv) Sequential) (Sequential ∷ [])
    ∙ ap (λ (l : List Kind). replicate conv Conventional ++ l) (replicate_more (at - conv) Sequential ∙ ap (λ (n : ℕ). replicate n Sequential) one_more)
