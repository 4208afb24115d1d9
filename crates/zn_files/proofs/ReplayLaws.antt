-- Calls one after another.
use Rattle.std.proofs.Common.{◌≡◌, ℕ, suc, ◌+◌, ◌<◌, ◌≤◌, Bool, true, cond, List, [], ◌∷◌, ◌++◌, length, take, drop, map, get_or, Option, Some, None, refl, sym, ap, ◌∙◌, subst, arith, append_assoc, take-append-drop, drop-cons, add-one}
use Rattle.std.specs.Prelude.{nat_le, vec_len}
use Rattle.std.specs.List.{take_while, prefix_len}
use Rattle.std.specs.BTreeMap.{get_by_text}
use Rattle.std.specs.String.{string_bytes}
use Rattle.std.proofs.lemmas.Bool.Decides.{nat_tests}
use Rattle.std.proofs.lemmas.List.{take_more, map-append}
use Rattle.zn_stand.specs.File.{File}
use Rattle.zn_stand.specs.Directory.{Directory, file_at}
use Rattle.zn_stand.specs.Calls.{Call, made, IsCallFor}
use Rattle.zn_files.specs.declared.record.Change.{Change}
use Rattle.zn_files.specs.declared.record.Change.TheVariants.{Create, Write, SetLen, Sync}
use Rattle.zn_files.specs.declared.record.Recorded.{Recorded}
use Rattle.zn_files.specs.declared.traced.Traced.{Traced}
use Rattle.zn_files.specs.Record.{call_of}
use Rattle.zn_files.specs.Replays.{replayed, AreCallsFor}
use Rattle.zn_files.specs.Traces.{TraceMap, TracesAt, TracesAll, MayTrace}

-- ---- calls

pub replayed-append : (d : Directory) (a b : List Call) → replayed d (a ++ b) ≡ replayed (replayed d a) b
replayed-append d [] b = refl
replayed-append d (call ∷ a) b = replayed-append (made call d) a b

pub calls_front : (d : Directory) (a b : List Call) → AreCallsFor d (a ++ b) → AreCallsFor d a
calls_front d [] b fits = tt
calls_front d (call ∷ a) b fits = (fits.0, calls_front (made call d) a b fits.1)

pub calls_behind : (d : Directory) (a b : List Call) → AreCallsFor d (a ++ b) → AreCallsFor (replayed d a) b
calls_behind d [] b fits = fits
calls_behind d (call ∷ a) b fits = calls_behind (made call d) a b fits.1

pub calls_both : (d : Directory) (a b : List Call) → AreCallsFor d a → AreCallsFor (replayed d a) b → AreCallsFor d (a ++ b)
calls_both d [] b front behind = behind
calls_both d (call ∷ a) b front behind = (front.0, calls_both (made call d) a b front.1 behind)

-- ---- what is recorded

abbrev pub call_in : Recorded → Call
call_in r = call_of r.change

drop_one : {X : Type 0} (xs : List X) (i : ℕ) (r : X) → i < length xs → r ≡ get_or xs i r → drop i xs ≡ r ∷ drop (i + 1) xs
drop_one xs i r h is = drop-cons xs i r h ∙ ap (λ x. x ∷ drop (suc i) xs) (sym is) ∙ ap (λ n. r ∷ drop n xs) (sym (add-one i))

parts : {X : Type 0} (xs : List X) (i : ℕ) (r : X) → i < length xs → r ≡ get_or xs i r → xs ≡ take i xs ++ r ∷ drop (i + 1) xs
parts xs i r h is = sym (take-append-drop i xs) ∙ ap (λ l. take i xs ++ l) (drop_one xs i r h is)

pub replayed-more : {X : Type 0} (g : X → Call) (d : Directory) (xs : List X) (i : ℕ) (r : X) → i < length xs → r ≡ get_or xs i r → replayed d (map g (take (i + 1) xs)) ≡ made (g r) (replayed d (map g (take i xs)))
replayed-more g d xs i r h is =
    ap (λ l. replayed d (map g l)) (take_more xs i r h ∙ ap (λ x. take i xs ++ x ∷ []) (sym is))
    ∙ ap (replayed d) (map-append g (take i xs) (r ∷ []))
    ∙ replayed-append d (map g (take i xs)) (g r ∷ [])

pub call_fits : {X : Type 0} (g : X → Call) (d : Directory) (xs : List X) (i : ℕ) (r : X) → i < length xs → r ≡ get_or xs i r → AreCallsFor d (map g xs) → IsCallFor (replayed d (map g (take i xs))) (g r)
call_fits g d xs i r h is fits =
    (calls_behind d (map g (take i xs)) (map g (r ∷ drop (i + 1) xs)) (subst (AreCallsFor d) (ap (map g) (parts xs i r h is) ∙ map-append g (take i xs) (r ∷ drop (i + 1) xs)) fits)).0

taken_one : (p : Recorded → Bool) (x : Recorded) (xs : List Recorded) → p x ≡ true → take_while p (x ∷ xs) ≡ x ∷ take_while p xs
taken_one p x xs passes = ap (λ b. take (cond b (1 + prefix_len p xs) 0) (x ∷ xs)) passes ∙ ap (λ n. take n (x ∷ xs)) more
  where
    more : 1 + prefix_len p xs ≡ suc (prefix_len p xs)
    more = omega arith

-- a call among so many comes with those before it
pub taken_more : (xs : List Recorded) (calls i : ℕ) (r : Recorded) → i < length xs → r ≡ get_or xs i r → r.number ≤ calls → take_while (λ r. nat_le r.number calls) xs ≡ take i xs ++ take_while (λ r. nat_le r.number calls) (drop i xs)
    → take_while (λ r. nat_le r.number calls) xs ≡ take (i + 1) xs ++ take_while (λ r. nat_le r.number calls) (drop (i + 1) xs)
taken_more xs calls i r h is le so_far =
    let passes : nat_le r.number calls ≡ true = grind (arith, nat_tests) in
    so_far
    ∙ ap (λ l. take i xs ++ take_while (λ r. nat_le r.number calls) l) (drop_one xs i r h is)
    ∙ ap (λ l. take i xs ++ l) (taken_one (λ r. nat_le r.number calls) r (drop (i + 1) xs) passes)
    ∙ sym (append_assoc (take i xs) (r ∷ []) (take_while (λ r. nat_le r.number calls) (drop (i + 1) xs)))
    ∙ ap (λ l. l ++ take_while (λ r. nat_le r.number calls) (drop (i + 1) xs)) (sym (take_more xs i r h ∙ ap (λ x. take i xs ++ x ∷ []) (sym is)))

-- a call of the record may be made where the directory is traced
pub may_trace : (traces : TraceMap) (d : Directory) (change : Change) → TracesAll traces d → IsCallFor d (call_of change) → MayTrace traces change
may_trace traces d (Create name) all fits = tt
may_trace traces d (SetLen name len) all fits = tt
may_trace traces d (Sync name) all fits = tt
may_trace traces d (Write name at bytes) all fits = λ t there. placed t there
  where
    placed : (t : Traced) → get_by_text traces (string_bytes name) ≡ Some t → at ≤ vec_len t.bytes
    placed t there = within (file_at d (string_bytes name)) refl (subst (λ (x : Option Traced). TracesAt x (file_at d (string_bytes name))) there (all (string_bytes name)))
      where
        within : (o : Option File) → file_at d (string_bytes name) ≡ o → TracesAt (Some t) o → at ≤ vec_len t.bytes
        within None is traces = absurd traces
        within (Some f) is traces = omega (arith, fits.0 f is, ap length traces.bytes, t.bytes.ok.0)
