-- What an entry put into a slot, or taken out of one, makes of the live handles.
use Rattle.std.proofs.Common.{◌≡◌, ◌≢◌, ◌⊎◌, ℕ, ◌+◌, ◌<◌, ◌==◌, Bool, true, false, not, List, [], ◌∷◌, ◌++◌, Option, Some, None, refl, sym, ap, ◌∙◌, inl, inr, arith, zero-add, add-one, get_or, filter, find, All, AllPairs}
use Rattle.std.proofs.lemmas.Bool.{cases_eq, eqb-true, eq-eqb, ne_eqb, and_parts, and_from, and_right, false_from_ne_true}
use Rattle.std.specs.Option.{option_to_list}
use Rattle.slab.specs.Slab.{Slab, get, Updates}
use Rattle.zn_model.specs.declared.handles.Handle.{Handle}
use Rattle.zn_model.specs.Volume.{Live, is_same_handle}
use Rattle.zn_handle.specs.declared.handles.Entry.{Entry}
use Rattle.zn_handle.specs.Slots.{live_of, of_generation, lives, IsApart}
use Rattle.zn_handle.proofs.Told.{told-more, told-same, told-filter, find-told_none, filter-told_none, others_stay, Split, told_split, All-told, rising-told}
use Rattle.zn_handle.proofs.Generations.{of_generation_stands, of_generation_none, of_generation_at}

-- an entry is the live handle of its generation
pub of_generation_apart : (slots : List (Option Entry)) (n k : ℕ) (e : Entry) → IsApart slots n → get_or slots k None ≡ Some e → of_generation 0 slots e.generation ≡ Some (live_of k e)
of_generation_apart slots n k e apart there =
    rw zero-add at (of_generation_at 0 slots k e there (λ j d at same. apart.apart j k d e at there same))

-- slots with the same entries of a generation have the same live handle of it
same_generation : (old new : List (Option Entry)) (m n g : ℕ) → IsApart old m → IsApart new n → ((k : ℕ) (d : Entry) → d.generation ≡ g → get_or old k None ≡ Some d → get_or new k None ≡ Some d) → ((k : ℕ) (d : Entry) → d.generation ≡ g → get_or new k None ≡ Some d → get_or old k None ≡ Some d) → of_generation 0 new g ≡ of_generation 0 old g
same_generation old new m n g apart apart' to from = by_case (of_generation 0 old g) refl
  where
    by_case : (o : Option Live) → of_generation 0 old g ≡ o → of_generation 0 new g ≡ of_generation 0 old g
    by_case None missing =
        of_generation_none 0 new g (λ k d there same. impossible k d same (from k d same there)) ∙ sym missing
      where
        impossible : (k : ℕ) (d : Entry) → d.generation ≡ g → get_or old k None ≡ Some d → ⊥
        impossible k d same there =
            let found = of_generation_apart old m k d apart there in
            let found' = ap (of_generation 0 old) (sym same) ∙ found in
            cc
    by_case (Some live) found =
        let s = of_generation_stands 0 old g live found in
        let there = to s.place s.entry s.generation s.there in
        let found' = of_generation_apart new n s.place s.entry apart' there in
        let at_g = ap (of_generation 0 new) (sym s.generation) ∙ found' in
        let same : live ≡ live_of s.place s.entry = rw zero-add at s.same in
        cc

-- ---- an entry put into an empty slot

module _ (old new : Slab Entry) (key n : ℕ) (e : Entry) (apart : IsApart old.slots n) (last : e.generation ≡ n) (vacant : get old key ≡ None) (put : Updates old new key (Some e)) where
  entries_of_put : (k : ℕ) (d : Entry) → get new k ≡ Some d → ((k ≡ key) × (d ≡ e)) ⊎ (get old k ≡ Some d)
  entries_of_put k d there =
      elim (cases_eq k key) [
        | inl same ↦
            let here : get new k ≡ Some e = ap (get new) same ∙ put.changed in
            inl (same, cc)
        | inr differs ↦ inr (sym (put.others k differs) ∙ there)
      ]

  pub apart_of_put : IsApart new.slots (n + 1)
  apart_of_put = record { below = below_more; apart = apart_more }
    where
      below_more : (k : ℕ) (d : Entry) → get new k ≡ Some d → d.generation < n + 1
      below_more k d there =
          elim (entries_of_put k d there) [
            | inl here ↦ omega (arith, ap (λ x. x.generation) here.1)
            | inr before ↦ omega (arith, apart.below k d before)
          ]

      apart_more : (j k : ℕ) (c d : Entry) → get new j ≡ Some c → get new k ≡ Some d → c.generation ≡ d.generation → j ≡ k
      apart_more j k c d at there same =
          elim (entries_of_put j c at) [
            | inl first ↦ elim (entries_of_put k d there) [
              | inl second ↦ first.0 ∙ sym second.0
              | inr before ↦ absurd (omega (arith, apart.below k d before, ap (λ x. x.generation) first.1))
            ]
            | inr earlier ↦ elim (entries_of_put k d there) [
              | inl second ↦ absurd (omega (arith, apart.below j c earlier, ap (λ x. x.generation) second.1))
              | inr before ↦ apart.apart j k c d earlier before same
            ]
          ]

  pub lives_of_put : lives new.slots (n + 1) ≡ lives old.slots n ++ live_of key e ∷ []
  lives_of_put =
      let at_last : of_generation 0 new.slots n ≡ Some (live_of key e) =
      ap (of_generation 0 new.slots) (sym last) ∙ of_generation_apart new.slots (n + 1) key e apart_of_put put.changed in
      let before = told-same (of_generation 0 old.slots) (of_generation 0 new.slots) n kept in
      rw (add-one, told-more (of_generation 0 new.slots) n, before, at_last) refl
    where
      kept : (g : ℕ) → g < n → of_generation 0 new.slots g ≡ of_generation 0 old.slots g
      kept g below =
          same_generation old.slots new.slots n (n + 1) g apart apart_of_put stays was
        where
          stays : (k : ℕ) (d : Entry) → d.generation ≡ g → get old k ≡ Some d → get new k ≡ Some d
          stays k d same there =
              elim (cases_eq k key) [
                | inl here ↦
                    let none = ap (get old) here ∙ vacant in
                    absurd cc
                | inr differs ↦ put.others k differs ∙ there
              ]

          was : (k : ℕ) (d : Entry) → d.generation ≡ g → get new k ≡ Some d → get old k ≡ Some d
          was k d same there =
              elim (entries_of_put k d there) [
                | inl here ↦ absurd (omega (arith, ap (λ x. x.generation) here.1))
                | inr before ↦ before
              ]

-- ---- handles that agree

same_handle_parts : (a b : Handle) → is_same_handle a b ≡ true → (a.key ≡ b.key) × (a.generation ≡ b.generation)
same_handle_parts a b same =
    let parts = and_parts (a.key == b.key) (a.generation == b.generation) same in
    (eqb-true a.key b.key parts.0, eqb-true a.generation b.generation parts.1)

same_handle_itself : (a : Handle) → is_same_handle a a ≡ true
same_handle_itself a =
    and_from (a.key == a.key) (a.generation == a.generation) (eq-eqb a.key a.key refl) (eq-eqb a.generation a.generation refl)

other_generation : (a b : Handle) → a.generation ≢ b.generation → is_same_handle a b ≡ false
other_generation a b differs = and_right (a.key == b.key) (a.generation == b.generation) (ne_eqb a.generation b.generation differs)

-- the live handle of a generation has it
generation_told : (slots : List (Option Entry)) (g : ℕ) (live : Live) → of_generation 0 slots g ≡ Some live → live.handle.generation ≡ g
generation_told slots g live found =
    let s = of_generation_stands 0 slots g live found in
    ap (λ x. x.handle.generation) s.same ∙ s.generation

-- a handle with no entry under its key and of its generation isn't live
module _ (slots : List (Option Entry)) (n : ℕ) (h : Handle) (absent : (e : Entry) → get_or slots h.key None ≡ Some e → e.generation ≢ h.generation) where
  no_other : (g : ℕ) (live : Live) → g < n → of_generation 0 slots g ≡ Some live → is_same_handle live.handle h ≡ false
  no_other g live below found = false_from_ne_true (is_same_handle live.handle h) impossible
    where
      impossible : is_same_handle live.handle h ≡ true → ⊥
      impossible agree =
          let s = of_generation_stands 0 slots g live found in
          let parts = same_handle_parts live.handle h agree in
          let place : s.place ≡ h.key = omega (arith, ap (λ x. x.handle.key) s.same, parts.0) in
          let there = ap (λ k. get_or slots k None) (sym place) ∙ s.there in
          absent s.entry there (omega (arith, s.generation, generation_told slots g live found, parts.1))

  pub find_absent : find (λ live. is_same_handle live.handle h) (lives slots n) ≡ None
  find_absent = find-told_none (λ live. is_same_handle live.handle h) (of_generation 0 slots) n no_other

  pub filter_absent : filter (λ live. not (is_same_handle live.handle h)) (lives slots n) ≡ lives slots n
  filter_absent = filter-told_none (λ live. is_same_handle live.handle h) (of_generation 0 slots) n no_other

-- a handle with its entry is live, and no other handle is the same
pub split_at_entry : (slots : List (Option Entry)) (n key : ℕ) (e : Entry) → IsApart slots n → get_or slots key None ≡ Some e → Split (λ live. is_same_handle live.handle (record { key = key; generation = e.generation })) (lives slots n) (live_of key e)
split_at_entry slots n key e apart there =
    told_split same (of_generation 0 slots) e.generation (live_of key e) (of_generation_apart slots n key e apart there) (same_handle_itself h) others n (apart.below key e there)
  where
    h : Handle
    h = record { key = key; generation = e.generation }

    same : Live → Bool
    same live = is_same_handle live.handle h

    others : (g : ℕ) (live : Live) → g ≢ e.generation → of_generation 0 slots g ≡ Some live → same live ≡ false
    others g live differs found =
        other_generation live.handle h (λ agree. differs (sym (generation_told slots g live found) ∙ agree))

-- ---- an entry taken out

module _ (old new : Slab Entry) (key n : ℕ) (apart : IsApart old.slots n) (taken : Updates old new key None) where
  was_there : (k : ℕ) (d : Entry) → get new k ≡ Some d → get old k ≡ Some d
  was_there k d there =
      elim (cases_eq k key) [
        | inl same ↦
            let none = ap (get new) same ∙ taken.changed in
            absurd cc
        | inr differs ↦ sym (taken.others k differs) ∙ there
      ]

  pub apart_of_taken : IsApart new.slots n
  apart_of_taken = record {
    below = λ k d there. apart.below k d (was_there k d there);
    apart = λ j k c d at there same. apart.apart j k c d (was_there j c at) (was_there k d there) same;
  }

  pub lives_of_taken : (e : Entry) → get old key ≡ Some e → lives new.slots n ≡ filter (λ live. not (is_same_handle live.handle (record { key = key; generation = e.generation }))) (lives old.slots n)
  lives_of_taken e there =
      told-filter (λ live. not (same live)) (of_generation 0 old.slots) (of_generation 0 new.slots) n kept
    where
      same : Live → Bool
      same live = is_same_handle live.handle (record { key = key; generation = e.generation })

      at_taken : (g : ℕ) → g ≡ e.generation → option_to_list (of_generation 0 new.slots g) ≡ filter (λ live. not (same live)) (option_to_list (of_generation 0 old.slots g))
      at_taken g at =
          let old_at = ap (of_generation 0 old.slots) at ∙ of_generation_apart old.slots n key e apart there in
          let new_at = of_generation_none 0 new.slots g gone in
          rw (new_at, old_at, same_handle_itself (record { key = key; generation = e.generation })) refl
        where
          gone : (k : ℕ) (d : Entry) → get new k ≡ Some d → d.generation ≢ g
          gone k d found of =
              let here = apart.apart k key d e (was_there k d found) there (of ∙ at) in
              let none = ap (get new) here ∙ taken.changed in
              absurd cc

      stays : (g : ℕ) → g ≢ e.generation → (k : ℕ) (d : Entry) → d.generation ≡ g → get old k ≡ Some d → get new k ≡ Some d
      stays g differs k d of found =
          elim (cases_eq k key) [
            | inl here ↦
                let also = ap (get old) here ∙ there in
                let one : d ≡ e = cc in
                absurd (differs (sym of ∙ ap (λ x. x.generation) one))
            | inr elsewhere ↦ taken.others k elsewhere ∙ found
          ]

      at_other : (g : ℕ) → g ≢ e.generation → option_to_list (of_generation 0 new.slots g) ≡ filter (λ live. not (same live)) (option_to_list (of_generation 0 old.slots g))
      at_other g differs =
          let kept = same_generation old.slots new.slots n n g apart apart_of_taken (stays g differs) (λ k d of found. was_there k d found) in
          let told = others_stay same (of_generation 0 old.slots g) (λ live found. other_generation live.handle _ (λ agree. differs (sym (generation_told old.slots g live found) ∙ agree))) in
          ap option_to_list kept ∙ sym told

      kept : (g : ℕ) → g < n → option_to_list (of_generation 0 new.slots g) ≡ filter (λ live. not (same live)) (option_to_list (of_generation 0 old.slots g))
      kept g below =
          elim (cases_eq g e.generation) [ inl at ↦ at_taken g at | inr differs ↦ at_other g differs ]

-- ---- what all live handles keep

module _ (slots : List (Option Entry)) (n : ℕ) where
  -- their generations are below the bound
  pub older_lives : All (λ live. live.handle.generation < n) (lives slots n)
  older_lives =
      All-told (λ live. live.handle.generation < n) (of_generation 0 slots) n (λ g live below found. omega (arith, generation_told slots g live found))

  -- their generations rise
  pub rising_lives : AllPairs (λ a b. a.handle.generation < b.handle.generation) (lives slots n)
  rising_lives = rising-told (λ live. live.handle.generation) (of_generation 0 slots) n (generation_told slots)

  -- none has a key with no entry
  pub other_keys : (key : ℕ) → get_or slots key None ≡ None → All (λ live. live.handle.key ≢ key) (lives slots n)
  other_keys key vacant = All-told (λ live. live.handle.key ≢ key) (of_generation 0 slots) n differs
    where
      differs : (g : ℕ) (live : Live) → g < n → of_generation 0 slots g ≡ Some live → live.handle.key ≢ key
      differs g live below found same =
          let s = of_generation_stands 0 slots g live found in
          let place : s.place ≡ key = omega (arith, ap (λ x. x.handle.key) s.same, same) in
          let none = ap (λ k. get_or slots k None) place ∙ vacant in
          let there = s.there in
          absurd cc
