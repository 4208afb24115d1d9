use Rattle.std.proofs.Common.{◌≡◌, Option, Some, None, refl}
use Rattle.uuid.specs.Text.{parsed}
use Rattle.zn_words.proofs.formatting.uuid_in.Goals as goal

-- what is no value is none
none_found : {X : Type 0} (found : Option X) → ((x : X) → found ≡ Some x → ⊥) → found ≡ None
none_found None absent = refl
none_found (Some x) absent = absurd (absent x refl)

pub returns-in-Err : goal.returns-in-Err
returns-in-Err c =
    let none : parsed c.in-Some.word.now ≡ None = none_found (parsed c.in-Some.word.now) (λ u is. cc (c.in-Err.ensures.ok.1 (u, is))) in
    rw (c.in-Some.is, none) refl
