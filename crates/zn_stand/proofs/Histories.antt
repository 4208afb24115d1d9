-- Directories over time.
use Rattle.std.proofs.Common.{refl, ap, ◌∙◌, ◌≡◌, ◌⊎◌, inl, inr, ⊎_elim, ℕ, zero, suc, ◌+◌, ◌-◌, ◌<◌, ◌≤◌, [], ◌∷◌, ◌++◌, length, take, sym, subst, arith, length-append, append_assoc}
use Rattle.std.specs.Prelude.{◌↔◌}
use Rattle.zn_stand.specs.Directory.{Directory, Contents, IsImageOf}
use Rattle.zn_stand.specs.History.{History, moment, IsImageOfOne, MayLeave, LeftSince, LeavesOnly}

pub now_is_since : (h : History) (t : ℕ) (image : Contents) → t ≤ moment h → MayLeave h image → LeftSince h t image
now_is_since [] t image le may = absurd may
now_is_since (d ∷ h) t image le may = subst (λ n. IsImageOfOne (take n (d ∷ h)) image) (sym count) (inl may)
  where
    count : length (d ∷ h) - t ≡ suc (length h - t)
    count = omega arith

pub only_now : (h : History) (image : Contents) → LeftSince h (moment h) image → MayLeave h image
only_now [] image left = absurd left
only_now (d ∷ h) image left = ⊎_elim (λ is. is) (λ none. absurd none) (subst (λ n. IsImageOfOne (take n (d ∷ h)) image) one left)
  where
    one : length (d ∷ h) - moment (d ∷ h) ≡ suc zero
    one = omega arith

one_of_two : (since h : History) (n : ℕ) (image : Contents) → IsImageOfOne (take (length since + n) (since ++ h)) image ↔ (IsImageOfOne since image ⊎ IsImageOfOne (take n h) image)
one_of_two [] h n image = subst (λ m. IsImageOfOne (take m h) image ↔ (⊥ ⊎ IsImageOfOne (take n h) image)) none (inr, ⊎_elim (λ no. absurd no) (λ is. is))
  where
    none : n ≡ length {A = Directory} [] + n
    none = omega arith
one_of_two (d ∷ since) h n image =
    let rest = one_of_two since h n image in
    subst (λ m. IsImageOfOne (take m (d ∷ since ++ h)) image ↔ (IsImageOfOne (d ∷ since) image ⊎ IsImageOfOne (take n h) image)) more (
      ⊎_elim (λ is. inl (inl is)) (λ others. ⊎_elim (λ is. inl (inr is)) inr (rest.0 others)),
      ⊎_elim (⊎_elim inl (λ is. inr (rest.1 (inl is)))) (λ is. inr (rest.1 (inr is))),
    )
  where
    more : suc (length since + n) ≡ length (d ∷ since) + n
    more = omega arith

pub later_adds : (since h : History) (t : ℕ) (image : Contents) → t < length h → LeftSince (since ++ h) t image ↔ (IsImageOfOne since image ⊎ LeftSince h t image)
later_adds since h t image lt = subst (λ n. IsImageOfOne (take n (since ++ h)) image ↔ (IsImageOfOne since image ⊎ LeftSince h t image)) (sym count) (one_of_two since h (length h - t) image)
  where
    count : length (since ++ h) - t ≡ length since + (length h - t)
    count = omega (arith, length-append since h)

-- ---- what stops leave from one history to a later one

image_of_both : (front back : History) (image : Contents) → IsImageOfOne (front ++ back) image → IsImageOfOne front image ⊎ IsImageOfOne back image
image_of_both [] back image is = inr is
image_of_both (d ∷ front) back image (inl is) = inl (inl is)
image_of_both (d ∷ front) back image (inr is) = ⊎_elim (λ others. inl (inr others)) inr (image_of_both front back image is)

-- where nothing happened
pub leaves_nothing : (h : History) (P : Contents → Type 0) → LeavesOnly h h P
leaves_nothing h P = record { since = []; history = refl; each = λ image none. absurd none }

-- one after another
pub leaves_more : (old middle new : History) (P : Contents → Type 0) → LeavesOnly old middle P → LeavesOnly middle new P → LeavesOnly old new P
leaves_more old middle new P first then_more = record {
  since = then_more.since ++ first.since;
  history = then_more.history ∙ ap (λ h. then_more.since ++ h) first.history ∙ sym (append_assoc then_more.since first.since old);
  each = λ image is. ⊎_elim (then_more.each image) (first.each image) (image_of_both then_more.since first.since image is);
}

-- what has P has Q
pub leaves_also : (old new : History) (P Q : Contents → Type 0) → ((image : Contents) → P image → Q image) → LeavesOnly old new P → LeavesOnly old new Q
leaves_also old new P Q then_also only = record { since = only.since; history = only.history; each = λ image is. then_also image (only.each image is) }

-- what a stop since the beginning may have left, if what one may leave then has P
pub left_since_has : (d : Directory) (old new : History) (P : Contents → Type 0) (image : Contents) → ((image : Contents) → IsImageOf d image → P image) → LeavesOnly (d ∷ old) new P → LeftSince new (moment (d ∷ old)) image → P image
left_since_has d old new P image before only left =
    ⊎_elim (only.each image) (λ now. before image (only_now (d ∷ old) image now)) ((later_adds only.since (d ∷ old) (moment (d ∷ old)) image (omega arith)).0 (subst (λ h. LeftSince h (moment (d ∷ old)) image) only.history left))
