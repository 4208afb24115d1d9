-- The calls of a record up to a number, traced from an empty directory on.
use Rattle.std.proofs.Common.{◌≡◌, ℕ, ◌+◌, suc, Bool, true, false, cond, List, [], ◌∷◌, map, take, drop, Option, None, refl, sym, ap, ◌∙◌, subst, arith, take-append-drop}
use Rattle.std.specs.Prelude.{nat_le}
use Rattle.std.specs.BTreeMap.{IsEmpty, is_at}
use Rattle.std.specs.Cmp.Lexicographic.{slice_cmp}
use Rattle.std.specs.FinMap.{empty, get-empty}
use Rattle.std.specs.List.{take_while, prefix_len}
use Rattle.std.specs.Map.{lookup}
use Rattle.std.specs.Ordering.{nat_cmp}
use Rattle.std.specs.String.{string_bytes}
use Rattle.std.proofs.lemmas.List.{map-append}
use Rattle.std.proofs.lemmas.Simd.{map-map}
use Rattle.zn_stand.specs.File.{File}
use Rattle.zn_stand.specs.Maps.{name_cmp}
use Rattle.zn_stand.specs.Directory.{Directory, IsSoundDirectory}
use Rattle.zn_files.specs.declared.record.Change.{Change}
use Rattle.zn_files.specs.declared.record.Recorded.{Recorded}
use Rattle.zn_files.specs.Record.{call_of, recorded_of}
use Rattle.zn_files.specs.Replays.{replayed, AreCallsFor}
use Rattle.zn_files.specs.Sound.{IsSoundMemory, empty_sound, replayed_sound}
use Rattle.zn_files.specs.Stores.{Store}
use Rattle.zn_files.specs.Traces.{TraceMap, TracesAt, TracesAll, MayTraceAll}
use Rattle.zn_files.proofs.ReplayLaws.{call_in, calls_front}

-- nothing is traced in an empty directory
pub nothing_traced : (traces : TraceMap) → IsEmpty traces → TracesAll traces empty
nothing_traced traces none name =
    subst (λ (o : Option File). TracesAt (lookup (is_at (λ k. slice_cmp nat_cmp name (string_bytes k))) traces.entries) o) (sym (get-empty {X = File} name_cmp name))
    (subst (λ (es : List _). TracesAt (lookup (is_at (λ k. slice_cmp nat_cmp name (string_bytes k))) es) None) (sym none) tt)

-- ---- those among so many

abbrev pub among : ℕ → List Recorded → List Recorded
among calls recorded = take_while (λ r. nat_le r.number calls) recorded

-- they are the same by number and call
until_same : (calls : ℕ) (recorded : List Recorded) → take_while (λ e. nat_le e.0 calls) (map recorded_of recorded) ≡ map recorded_of (among calls recorded)
until_same calls [] = refl
until_same calls (r ∷ recorded) = by_case (nat_le r.number calls) (until_same calls recorded)
  where
    one : (n : ℕ) → 1 + n ≡ suc n
    one n = omega arith

    by_case : (b : Bool) → take_while (λ e. nat_le e.0 calls) (map recorded_of recorded) ≡ map recorded_of (among calls recorded)
        → take (cond b (1 + prefix_len (λ e. nat_le e.0 calls) (map recorded_of recorded)) 0) (recorded_of r ∷ map recorded_of recorded)
        ≡ map recorded_of (take (cond b (1 + prefix_len (λ r. nat_le r.number calls) recorded) 0) (r ∷ recorded))
    by_case false same = refl
    by_case true same =
        ap (λ n. take n (recorded_of r ∷ map recorded_of recorded)) (one (prefix_len (λ e. nat_le e.0 calls) (map recorded_of recorded)))
        ∙ ap (λ l. recorded_of r ∷ l) same
        ∙ sym (ap (λ n. map recorded_of (take n (r ∷ recorded))) (one (prefix_len (λ r. nat_le r.number calls) recorded)))

pub changes_among : (calls : ℕ) (recorded : List Recorded) → map (λ e. e.1) (take_while (λ e. nat_le e.0 calls) (map recorded_of recorded)) ≡ map call_in (among calls recorded)
changes_among calls recorded = ap (map (λ e. e.1)) (until_same calls recorded) ∙ map-map (λ e. e.1) recorded_of (among calls recorded)

pub all_changes : (recorded : List Recorded) → map (λ e. e.1) (map recorded_of recorded) ≡ map call_in recorded
all_changes recorded = map-map (λ e. e.1) recorded_of recorded

-- they may be made, as all of them may
pub among_fits : (d : Directory) (calls : ℕ) (recorded : List Recorded) → AreCallsFor d (map call_in recorded) → AreCallsFor d (map call_in (among calls recorded))
among_fits d calls recorded fits =
    calls_front d (map call_in (among calls recorded)) (map call_in (drop (prefix_len (λ r. nat_le r.number calls) recorded) recorded))
    (subst (AreCallsFor d) (ap (map call_in) (sym (take-append-drop (prefix_len (λ r. nat_le r.number calls) recorded) recorded)) ∙ map-append call_in (among calls recorded) (drop (prefix_len (λ r. nat_le r.number calls) recorded) recorded)) fits)

-- ---- a directory in memory, up to a number

module _ (given : List Change) (made : List Recorded) (store : Store) (sound : IsSoundMemory (map call_of given) (map recorded_of made) store) where
  abbrev began : Directory
  began = replayed empty (map call_of given)

  pub since_fits : AreCallsFor began (map call_in made)
  since_fits = subst (AreCallsFor began) (all_changes made) sound.since

  pub may_begin : (traces : TraceMap) → IsEmpty traces → MayTraceAll traces (map call_of given)
  may_begin traces none = record { from = empty; traced = nothing_traced traces none; calls = sound.first }

  pub may_go_on : (traces : TraceMap) → TracesAll traces began → MayTraceAll traces (map call_in made)
  may_go_on traces all = record { from = began; traced = all; calls = since_fits }

  pub sound_after : (calls : ℕ) → IsSoundDirectory (replayed began (map call_in (among calls made)))
  sound_after calls = replayed_sound began (map call_in (among calls made)) (replayed_sound empty (map call_of given) empty_sound sound.first) (among_fits began calls made since_fits)

  pub first_is_sound : IsSoundDirectory began
  first_is_sound = replayed_sound empty (map call_of given) empty_sound sound.first
