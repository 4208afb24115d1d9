-- The live handle of a generation, in the slots of a slab.
use Rattle.std.proofs.Common.{◌≡◌, ◌≢◌, ℕ, zero, suc, ◌+◌, ◌==◌, true, List, [], ◌∷◌, Option, Some, None, refl, ap, ◌∙◌, inl, inr, arith, add-zero, get_or}
use Rattle.std.proofs.lemmas.Bool.{cases_Bool, eqb-true, eq-eqb, ne_eqb}
use Rattle.zn_model.specs.Volume.{Live}
use Rattle.zn_handle.specs.declared.handles.Entry.{Entry}
use Rattle.zn_handle.specs.Slots.{live_of, of_generation}

-- an entry, and the key that it stands under
pub record Stands (first : ℕ) (slots : List (Option Entry)) (g : ℕ) (live : Live) : Type 0 where
  pub place : ℕ
  pub entry : Entry
  pub there : get_or slots place None ≡ Some entry
  pub generation : entry.generation ≡ g
  pub same : live ≡ live_of (first + place) entry

stands_later : (first : ℕ) (slot : Option Entry) (rest : List (Option Entry)) (g : ℕ) (live : Live) → Stands (first + 1) rest g live → Stands first (slot ∷ rest) g live
stands_later first slot rest g live s =
    let shift : first + 1 + s.place ≡ first + suc s.place = omega arith in record {
      place = suc s.place;
      entry = s.entry;
      there = s.there;
      generation = s.generation;
      same = s.same ∙ ap (λ k. live_of k s.entry) shift;
    }

-- what is found stands in a slot
pub of_generation_stands : (first : ℕ) (slots : List (Option Entry)) (g : ℕ) (live : Live) → of_generation first slots g ≡ Some live → Stands first slots g live
of_generation_stands first [] g live found = absurd cc
of_generation_stands first (None ∷ rest) g live found =
    stands_later first None rest g live (of_generation_stands (first + 1) rest g live found)
of_generation_stands first (Some entry ∷ rest) g live found =
    elim (cases_Bool (entry.generation == g)) [
      | inl hit ↦ here hit
      | inr miss ↦ stands_later first (Some entry) rest g live (of_generation_stands (first + 1) rest g live (rw miss at found))
    ]
  where
    here : (entry.generation == g) ≡ true → Stands first (Some entry ∷ rest) g live
    here hit =
        let same : Some (live_of first entry) ≡ Some live = rw hit at found in
        record {
          place = 0;
          entry = entry;
          there = refl;
          generation = eqb-true entry.generation g hit;
          same = rw add-zero cc;
        }

-- where no entry has the generation, none is found
pub of_generation_none : (first : ℕ) (slots : List (Option Entry)) (g : ℕ) → ((k : ℕ) (e : Entry) → get_or slots k None ≡ Some e → e.generation ≢ g) → of_generation first slots g ≡ None
of_generation_none first [] g absent = refl
of_generation_none first (None ∷ rest) g absent =
    of_generation_none (first + 1) rest g (λ k e there. absent (suc k) e there)
of_generation_none first (Some entry ∷ rest) g absent =
    rw (ne_eqb entry.generation g (absent 0 entry refl)) (of_generation_none (first + 1) rest g (λ k e there. absent (suc k) e there))

-- the one entry of a generation is found
pub of_generation_at : (first : ℕ) (slots : List (Option Entry)) (k : ℕ) (e : Entry) → get_or slots k None ≡ Some e → ((j : ℕ) (d : Entry) → get_or slots j None ≡ Some d → d.generation ≡ e.generation → j ≡ k) → of_generation first slots e.generation ≡ Some (live_of (first + k) e)
of_generation_at first [] k e there only = absurd cc
of_generation_at first (None ∷ rest) zero e there only = absurd cc
of_generation_at first (None ∷ rest) (suc k) e there only =
    let shift : first + 1 + k ≡ first + suc k = omega arith in
    of_generation_at (first + 1) rest k e there (λ j d at same. omega (arith, only (suc j) d at same)) ∙ ap (λ key. Some (live_of key e)) shift
of_generation_at first (Some entry ∷ rest) zero e there only =
    let same : entry ≡ e = cc in
    rw (eq-eqb entry.generation e.generation (ap (λ x. x.generation) same), add-zero) (ap (λ x. Some (live_of first x)) same)
of_generation_at first (Some entry ∷ rest) (suc k) e there only =
    let shift : first + 1 + k ≡ first + suc k = omega arith in
    rw (ne_eqb entry.generation e.generation (λ same. absurd (omega (arith, only 0 entry refl same)))) (of_generation_at (first + 1) rest k e there (λ j d at same. omega (arith, only (suc j) d at same)) ∙ ap (λ key. Some (live_of key e)) shift)
