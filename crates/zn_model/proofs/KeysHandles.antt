-- Handles without keys: where generations are used once, a live handle is found by its generation.
use Rattle.std.proofs.Common.{◌≡◌, ℕ, ◌+◌, ◌<◌, Bool, true, List, [], ◌∷◌, Some, refl, sym, ap, ◌∙◌, subst, ⊎_elim, arith, eqb, eq-eqb}
use Rattle.std.specs.Prelude.{find, option_map, not, ◌&&◌, ◌==◌}
use Rattle.std.specs.List.{All, AllPairs}
use Rattle.std.proofs.lemmas.Bool.{and_parts, and_from, and_right, eqb-true, ne_eqb, cases_eq, cases_Bool}
use Rattle.std.proofs.lemmas.List.{map-append}
use Rattle.std.proofs.lemmas.List.Elements.{All-cons, All-weaker}
use Rattle.zn_truth.proofs.Sound.{count_by-map}
use Rattle.zn_model.specs.declared.handles.Handle.{Handle}
use Rattle.zn_model.specs.Access.{writes}
use Rattle.zn_model.specs.Volume.{Live, Handles, Volume, live_at, with_live, without_live, is_same_handle, writers_of}
use Rattle.zn_model.specs.Keys.{unkeyed_handle, unkeyed_live, unkeyed_handles, IsUsedOnce}
use Rattle.zn_model.proofs.KeysLists.{Agree, find-map, filter-map, passes-find, All-find, AllPairs-head, AllPairs-tail}

-- ---- two handles

pub same_handle : (a h : Handle) → is_same_handle a h ≡ true → a ≡ h
same_handle a h e =
    let parts : (eqb a.key h.key ≡ true) × (eqb a.generation h.generation ≡ true) = and_parts _ _ e in
    let key : a.key ≡ h.key = eqb-true _ _ parts.0 in
    let generation : a.generation ≡ h.generation = eqb-true _ _ parts.1 in
    ap (λ k. let new : Handle = record { key = k; generation = a.generation } in new) key
    ∙ ap (λ g. let new : Handle = record { key = h.key; generation = g } in new) generation

pub same_as_itself : (h : Handle) → is_same_handle h h ≡ true
same_as_itself h = and_from _ _ (eq-eqb h.key h.key refl) (eq-eqb h.generation h.generation refl)

-- a handle that is another, or of another generation, is told from it without keys
pub agrees : (a h : Handle) → (a.generation ≡ h.generation → a ≡ h) → is_same_handle (unkeyed_handle a) (unkeyed_handle h) ≡ is_same_handle a h
agrees a h same = ⊎_elim
    (λ yes. eq-eqb a.generation h.generation yes ∙ sym (subst (λ v. is_same_handle v h ≡ true) (sym (same yes)) (same_as_itself h)))
    (λ no. ne_eqb a.generation h.generation no ∙ sym (and_right (eqb a.key h.key) (eqb a.generation h.generation) (ne_eqb a.generation h.generation no)))
    (cases_eq a.generation h.generation)

-- ---- a live handle

-- the live handle of a handle's generation, if there is one, is that very handle
abbrev pub KnownAs : Handle → Live → Type 0
KnownAs h live = live.handle.generation ≡ h.generation → live.handle ≡ h

abbrev pub IsKnown : List Live → Handle → Type 0
IsKnown live h = All (KnownAs h) live

abbrev Before : Live → Live → Type 0
Before a b = a.handle.generation < b.handle.generation

abbrev Is : Handle → Live → Bool
Is h live = is_same_handle live.handle h

pub known_of : (handles : List Live) (h : Handle) (live : Live) → AllPairs Before handles → find (Is h) handles ≡ Some live → IsKnown handles h
known_of [] h live rising e = λ k d below. absurd (omega arith)
known_of (x ∷ xs) h live rising e = ⊎_elim
    (λ yes. All-cons (KnownAs h) x xs (λ _. same_handle x.handle h yes)
    (All-weaker (Before x) (KnownAs h) (λ y later same. absurd (let first : x.handle.generation ≡ h.generation = ap (λ (v : Handle). v.generation) (same_handle x.handle h yes) in omega arith)) xs (AllPairs-head Before x xs rising)))
    (λ no.
    let behind : find (Is h) xs ≡ Some live = rw no at e in
    let later : x.handle.generation < live.handle.generation = All-find (Before x) (Is h) xs live (AllPairs-head Before x xs rising) behind in
    let is_found : live.handle.generation ≡ h.generation = ap (λ (v : Handle). v.generation) (same_handle live.handle h (passes-find (Is h) xs live behind)) in
    All-cons (KnownAs h) x xs (λ same. absurd (omega arith)) (known_of xs h live (AllPairs-tail Before x xs rising) behind))
    (cases_Bool (Is h x))

pub is_known : (v : Volume) (h : Handle) (live : Live) → IsUsedOnce v → live_at v.handles h ≡ Some live → IsKnown v.handles.live h
is_known v h live once e = known_of v.handles.live h live once.rising e

agree_all : (handles : List Live) (h : Handle) → IsKnown handles h → Agree unkeyed_live (Is h) (Is (unkeyed_handle h)) handles
agree_all handles h known = All-weaker (KnownAs h) (λ live. is_same_handle (unkeyed_handle live.handle) (unkeyed_handle h) ≡ is_same_handle live.handle h) (λ live. agrees live.handle h) handles known

pub live_at_unkeyed : (handles : Handles) (h : Handle) → IsKnown handles.live h → live_at (unkeyed_handles handles) (unkeyed_handle h) ≡ option_map unkeyed_live (live_at handles h)
live_at_unkeyed handles h known = find-map unkeyed_live (Is h) (Is (unkeyed_handle h)) handles.live (agree_all handles.live h known)

not_agree_all : (handles : List Live) (h : Handle) → IsKnown handles h → Agree unkeyed_live (λ live. not (Is h live)) (λ live. not (Is (unkeyed_handle h) live)) handles
not_agree_all handles h known = All-weaker (KnownAs h) (λ live. not (is_same_handle (unkeyed_handle live.handle) (unkeyed_handle h)) ≡ not (is_same_handle live.handle h)) (λ live same. ap not (agrees live.handle h same)) handles known

pub without_live_unkeyed : (handles : Handles) (h : Handle) → IsKnown handles.live h → without_live (unkeyed_handles handles) (unkeyed_handle h) ≡ unkeyed_handles (without_live handles h)
without_live_unkeyed handles h known =
    ap (λ (live : List Live). let new : Handles = record handles { live = live } in new)
    (filter-map unkeyed_live (λ live. not (Is h live)) (λ live. not (Is (unkeyed_handle h) live)) handles.live (not_agree_all handles.live h known))

pub with_live_unkeyed : (handles : Handles) (live : Live) → with_live (unkeyed_handles handles) (unkeyed_live live) ≡ unkeyed_handles (with_live handles live)
with_live_unkeyed handles live =
    ap (λ (all : List Live). let new : Handles = record { live = all; opened = handles.opened + 1 } in new)
    (sym (map-append unkeyed_live handles.live (live ∷ [])))

pub writers_unkeyed : (handles : Handles) (f : ℕ) → writers_of (unkeyed_handles handles) f ≡ writers_of handles f
writers_unkeyed handles f = count_by-map (λ (live : Live). (live.file == f) && writes live.mode) unkeyed_live handles.live
