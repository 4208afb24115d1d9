-- The parts of a word of data, one after another.
use Rattle.std.proofs.Common.{◌≡◌, ℕ, ◌+◌, ◌<◌, ◌≤◌, false, leb, List, [], ◌∷◌, ◌++◌, length, replicate, take, drop, Option, Some, None, IsSome, refl, ap, sym, ◌∙◌, arith, append_assoc, append-nil, length-append, inl, inr}
use Rattle.std.proofs.lemmas.Bool.{cases_lt, cond-true, cond-false, leb-true, le-leb}
use Rattle.std.proofs.lemmas.Bool.Decides.{nat_tests}
use Rattle.std.proofs.lemmas.List.{length-replicate, take_all}
use Rattle.std.proofs.lemmas.List.Concat.{flat_map-append}
use Rattle.std.proofs.lemmas.List.Splits.{slice_split_first, slice_split_none}
use Rattle.std.proofs.lemmas.List.Sums.{fails_before_first}
use Rattle.std.proofs.lemmas.Option.{none-some, same_Some}
use Rattle.std.specs.List.{slice_split, All}
use Rattle.std.specs.Option.{option_map, unwrap_or}
use Rattle.zn_model.specs.declared.limits.TheConstants.{MOST_BYTES}
use Rattle.zn_base.specs.Runs.{Run}
use Rattle.zn_lines.specs.Grammar.{is_plus, part_of, run_then, part_then, parts_on, data_of}
use Rattle.zn_lines.specs.Lines.{bytes_of}
use Rattle.zn_base.proofs.DecimalLaws.{cond_taken}
use Rattle.zn_script.specs.Data.{first_part, HasLength}
use Rattle.zn_script.specs.Meant.{runs_meant}
use Rattle.zn_script.proofs.FirstParts.{place_in}

-- The word is read up to a rest: the parts before it are runs, of so many bytes.
pub record IsReadUpTo (word rest : List ℕ) (total : ℕ) : Type 0 where
  pub front : List Run
  pub sized : length (bytes_of front) ≡ total
  pub read : data_of word ≡ option_map (λ runs. front ++ runs) (parts_on total (slice_split is_plus rest))

-- ---- runs

bytes_after : (front : List Run) (run : Run) → bytes_of (front ++ run ∷ []) ≡ bytes_of front ++ replicate run.count run.byte
bytes_after front run = flat_map-append (λ (r : Run). replicate r.count r.byte) front (run ∷ []) ∙ ap (λ more. bytes_of front ++ more) (append-nil (replicate run.count run.byte))

length_after : (front : List Run) (run : Run) → length (bytes_of (front ++ run ∷ [])) ≡ length (bytes_of front) + run.count
length_after front run =
    ap length (bytes_after front run) ∙ length-append (bytes_of front) (replicate run.count run.byte)
    ∙ ap (λ n. length (bytes_of front) + n) (length-replicate run.count run.byte)

unchanged : (o : Option (List Run)) → o ≡ option_map (λ runs. [] ++ runs) o
unchanged None = refl
unchanged (Some runs) = refl

onto_front : (front : List Run) (run : Run) (o : Option (List Run)) → option_map (λ runs. front ++ runs) (run_then run o) ≡ option_map (λ runs. (front ++ run ∷ []) ++ runs) o
onto_front front run None = refl
onto_front front run (Some runs) = ap Some (sym (append_assoc front (run ∷ []) runs))

-- ---- the first part of a rest

-- the parts of a rest: the first one, and others
record Begins (rest : List ℕ) (parts : List (List ℕ)) : Type 0 where
  split : slice_split is_plus rest ≡ first_part rest ∷ parts

begins_more : (rest : List ℕ) (end : ℕ) → end ≡ place_in rest → end < length rest → Begins rest (slice_split is_plus (drop (end + 1) rest))
begins_more rest end at within = record {
  split = slice_split_first is_plus rest 0 (omega (arith, at)) ∙ ap (λ k. first_part rest ∷ slice_split is_plus (drop (k + 1) rest)) (sym at);
}

begins_last : (rest : List ℕ) → length rest ≤ place_in rest → Begins rest []
begins_last rest last =
    let one : All (λ b. is_plus b ≡ false) rest = λ k d within. fails_before_first is_plus rest k d (omega arith) in
    record { split = slice_split_none is_plus rest one ∙ ap (λ part. part ∷ []) (sym (take_all (place_in rest) rest last)) }

-- a part that has room behind so many bytes, and the run that it is
record PartFits (part : List ℕ) (total : ℕ) : Type 0 where
  run : Run
  read : part_of part ≡ Some run
  room : total + run.count ≤ MOST_BYTES

part_taken : (part : List ℕ) (total : ℕ) (follows : ℕ → Option (List Run)) (fits : PartFits part total) → part_then (part_of part) total follows ≡ run_then fits.run (follows (total + fits.run.count))
part_taken part total follows fits = ap (λ found. part_then found total follows) fits.read ∙ cond-true _ _ _ (le-leb _ _ fits.room)

known_by : (part : List ℕ) (total : ℕ) (follows : ℕ → Option (List Run)) (found : Option Run) (runs : List Run) → part_of part ≡ found → part_then found total follows ≡ Some runs → PartFits part total
known_by part total follows None runs read is = absurd (none-some runs is)
known_by part total follows (Some run) runs read is =
    let taken = cond_taken _ (run_then run (follows (total + run.count))) runs is in
    record { run = run; read = read; room = leb-true _ _ taken.0 }

known_of : (front : List Run) (part : List ℕ) (total : ℕ) (follows : ℕ → Option (List Run)) (o : Option (List Run)) → part_then (part_of part) total follows ≡ o → IsSome (option_map (λ runs. front ++ runs) o) → PartFits part total
known_of front part total follows None is some = absurd cc
known_of front part total follows (Some runs) is some = known_by part total follows (part_of part) runs refl is

part_known : (word rest : List ℕ) (parts : List (List ℕ)) (total : ℕ) → IsReadUpTo word rest total → Begins rest parts → IsSome (data_of word) → PartFits (first_part rest) total
unfolding parts_on
part_known word rest parts total r b some =
    known_of r.front (first_part rest) total (λ more. parts_on more parts) _ refl
    (rw (ap (λ ps. option_map (λ runs. r.front ++ runs) (parts_on total ps)) b.split) at (rw r.read at some))

part_refused : (word rest : List ℕ) (parts : List (List ℕ)) (total : ℕ) → IsReadUpTo word rest total → Begins rest parts
    → ((follows : ℕ → Option (List Run)) → part_then (part_of (first_part rest)) total follows ≡ None) → data_of word ≡ None
unfolding parts_on
part_refused word rest parts total r b refused =
    r.read ∙ ap (λ ps. option_map (λ runs. r.front ++ runs) (parts_on total ps)) b.split
    ∙ ap (option_map (λ runs. r.front ++ runs)) (refused (λ more. parts_on more parts))

part_read : (word rest : List ℕ) (parts : List (List ℕ)) (total : ℕ) (r : IsReadUpTo word rest total) → Begins rest parts → (fits : PartFits (first_part rest) total)
    → data_of word ≡ option_map (λ runs. (r.front ++ fits.run ∷ []) ++ runs) (parts_on (total + fits.run.count) parts)
unfolding parts_on
part_read word rest parts total r b fits =
    r.read ∙ ap (λ ps. option_map (λ runs. r.front ++ runs) (parts_on total ps)) b.split
    ∙ ap (option_map (λ runs. r.front ++ runs)) (part_taken (first_part rest) total (λ more. parts_on more parts) fits)
    ∙ onto_front r.front fits.run (parts_on (total + fits.run.count) parts)

-- ---- reading a word

pub has_runs : (word : List ℕ) (n : ℕ) → HasLength word n → data_of word ≡ Some (runs_meant word)
has_runs word n h = h.read ∙ ap Some (sym (ap (λ o. unwrap_or o []) h.read))

pub read_none : (word : List ℕ) → IsReadUpTo word word 0
unfolding data_of
read_none word = record { front = []; sized = refl; read = unchanged (parts_on 0 (slice_split is_plus word)) }

-- a first part that is one, with a plus sign behind it
pub read_more : (word rest : List ℕ) (run : Run) (end total more : ℕ) → IsReadUpTo word rest total → end ≡ place_in rest → end < length rest → part_of (first_part rest) ≡ Some run → more ≡ total + run.count → more ≤ MOST_BYTES
    → IsReadUpTo word (drop (end + 1) rest) more
read_more word rest run end total more r at within found sum room =
    let fits : PartFits (first_part rest) total = record { run = run; read = found; room = omega arith } in
    let parts = slice_split is_plus (drop (end + 1) rest) in
    record {
      front = r.front ++ run ∷ [];
      sized = length_after r.front run ∙ ap (λ n. n + run.count) r.sized ∙ sym sum;
      read = part_read word rest parts total r (begins_more rest end at within) fits ∙ ap (λ n. option_map (λ runs. (r.front ++ run ∷ []) ++ runs) (parts_on n parts)) (sym sum);
    }

-- a last part that is one
read_all : (word rest : List ℕ) (run : Run) (end total : ℕ) (r : IsReadUpTo word rest total) → end ≡ place_in rest → end ≡ length rest → part_of (first_part rest) ≡ Some run → total + run.count ≤ MOST_BYTES
    → data_of word ≡ Some (r.front ++ run ∷ [])
unfolding parts_on
read_all word rest run end total r at last found room =
    let fits : PartFits (first_part rest) total = record { run = run; read = found; room = room } in
    part_read word rest [] total r (begins_last rest (omega arith)) fits ∙ ap Some (append-nil (r.front ++ run ∷ []))

pub read_len : (word rest : List ℕ) (run : Run) (end total more : ℕ) → IsReadUpTo word rest total → end ≡ place_in rest → end ≡ length rest → part_of (first_part rest) ≡ Some run → more ≡ total + run.count → more ≤ MOST_BYTES
    → HasLength word more
read_len word rest run end total more r at last found sum room = record {
  runs = r.front ++ run ∷ [];
  read = read_all word rest run end total r at last found (omega arith);
  sized = length_after r.front run ∙ ap (λ n. n + run.count) r.sized ∙ sym sum;
}

-- whether or not others follow
refused_either : (word rest : List ℕ) (total : ℕ) → IsReadUpTo word rest total → ((follows : ℕ → Option (List Run)) → part_then (part_of (first_part rest)) total follows ≡ None) → data_of word ≡ None
refused_either word rest total r refused = elim (cases_lt (place_in rest) (length rest)) [
  | inl within ↦ part_refused word rest _ total r (begins_more rest (place_in rest) refl within) refused
  | inr last ↦ part_refused word rest [] total r (begins_last rest last) refused
]

-- a first part that is none
pub read_no_part : (word rest : List ℕ) (total : ℕ) → IsReadUpTo word rest total → part_of (first_part rest) ≡ None → data_of word ≡ None
read_no_part word rest total r none = refused_either word rest total r (λ follows. ap (λ found. part_then found total follows) none)

-- a first part for which there is no room
pub read_too_much : (word rest : List ℕ) (run : Run) (total : ℕ) → IsReadUpTo word rest total → part_of (first_part rest) ≡ Some run → MOST_BYTES < total + run.count → data_of word ≡ None
read_too_much word rest run total r found large =
    let full : leb (total + run.count) MOST_BYTES ≡ false = grind (arith, nat_tests) in
    refused_either word rest total r (λ follows. ap (λ found. part_then found total follows) found ∙ cond-false _ _ None full)

-- where the word is data, its first part is one
known_either : (word rest : List ℕ) (total : ℕ) → IsReadUpTo word rest total → IsSome (data_of word) → PartFits (first_part rest) total
known_either word rest total r some = elim (cases_lt (place_in rest) (length rest)) [
  | inl within ↦ part_known word rest _ total r (begins_more rest (place_in rest) refl within) some
  | inr last ↦ part_known word rest [] total r (begins_last rest last) some
]

pub known_part : (word rest : List ℕ) (total : ℕ) → IsReadUpTo word rest total → IsSome (data_of word) → part_of (first_part rest) ≡ None → ⊥
known_part word rest total r some none =
    let fits = known_either word rest total r some in none-some fits.run (sym none ∙ fits.read)

pub known_room : (word rest : List ℕ) (run : Run) (total : ℕ) → IsReadUpTo word rest total → IsSome (data_of word) → part_of (first_part rest) ≡ Some run → total + run.count ≤ MOST_BYTES
known_room word rest run total r some found =
    let fits = known_either word rest total r some in
    omega (arith, fits.room, ap (λ (r : Run). r.count) (same_Some fits.run run (sym fits.read ∙ found)))

-- ---- putting the bytes of a word

-- The word is read up to a rest, and the bytes of the parts before it stand in front.
pub record IsPutUpTo (word rest : List ℕ) (at : ℕ) (out : List ℕ) : Type 0 where
  pub upto : IsReadUpTo word rest at
  pub put : take at out ≡ bytes_of upto.front

pub put_none : (word out : List ℕ) → IsPutUpTo word word 0 out
unfolding read_none
put_none word out = record { upto = read_none word; put = refl }

bytes_put : (front : List Run) (run : Run) (at end : ℕ) (old new : List ℕ) → take at old ≡ bytes_of front → take end new ≡ take at old ++ replicate run.count run.byte → take end new ≡ bytes_of (front ++ run ∷ [])
bytes_put front run at end old new before put = put ∙ ap (λ bytes. bytes ++ replicate run.count run.byte) before ∙ sym (bytes_after front run)

pub put_more : (word rest : List ℕ) (run : Run) (end at more : ℕ) (old new : List ℕ) → IsPutUpTo word rest at old → end ≡ place_in rest → end < length rest → IsSome (data_of word) → part_of (first_part rest) ≡ Some run
    → more ≡ at + run.count → take more new ≡ take at old ++ replicate run.count run.byte → IsPutUpTo word (drop (end + 1) rest) more new
unfolding read_more
put_more word rest run end at more old new p here within some found sum put =
    let room = known_room word rest run at p.upto some found in
    record {
      upto = read_more word rest run end at more p.upto here within found sum (omega arith);
      put = bytes_put p.upto.front run at more old new p.put put;
    }

-- What was put, where all of the word is.
pub record IsPut (word : List ℕ) (end : ℕ) (out : List ℕ) : Type 0 where
  pub bytes : take end out ≡ bytes_of (runs_meant word)
  pub len : end ≡ length (bytes_of (runs_meant word))
  pub small : end ≤ MOST_BYTES

pub put_all : (word rest : List ℕ) (run : Run) (end at more : ℕ) (old new : List ℕ) → IsPutUpTo word rest at old → end ≡ place_in rest → end ≡ length rest → IsSome (data_of word) → part_of (first_part rest) ≡ Some run
    → more ≡ at + run.count → take more new ≡ take at old ++ replicate run.count run.byte → IsPut word more new
put_all word rest run end at more old new p here last some found sum put =
    let room = known_room word rest run at p.upto some found in
    let all : runs_meant word ≡ p.upto.front ++ run ∷ [] = ap (λ o. unwrap_or o []) (read_all word rest run end at p.upto here last found room) in
    record {
      bytes = bytes_put p.upto.front run at more old new p.put put ∙ ap bytes_of (sym all);
      len = sum ∙ ap (λ n. n + run.count) (sym p.upto.sized) ∙ sym (length_after p.upto.front run) ∙ ap (λ runs. length (bytes_of runs)) (sym all);
      small = omega arith;
    }
