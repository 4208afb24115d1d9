-- Data as a word.
use Rattle.std.proofs.Common.{◌≡◌, ◌≢◌, ℕ, ◌+◌, ◌*◌, ◌/◌, ◌%◌, ◌^◌, ◌<◌, ◌≤◌, true, ◌&&◌, eqb, List, [], ◌∷◌, ◌++◌, map, length, replicate, Option, Some, None, refl, ap, sym, ◌∙◌, arith, append-nil, subst, length-append}
use Rattle.std.specs.Fmt.{decimal}
use Rattle.std.specs.List.{All, slice_split, join_with_byte}
use Rattle.std.proofs.lemmas.Bool.{and_parts, and_from, ne_eqb, eqb-true, cond-true, not_from_false, leb-true, le-leb, lt-leb, and_left}
use Rattle.std.proofs.lemmas.Bool.Decides.{nat_tests}
use Rattle.std.proofs.lemmas.List.{length-replicate, length-map}
use Rattle.std.proofs.lemmas.List.Elements.{All-nil, All-cons, All-head, All-tail}
use Rattle.std.proofs.lemmas.List.Splits.{length-slice_split}
use Rattle.std.proofs.lemmas.Option.{same_Some, none-some}
use Rattle.zn_model.specs.declared.limits.TheConstants.{MOST_BYTES}
use Rattle.zn_base.specs.Runs.{Run, hex_digit, run_text, runs_text}
use Rattle.zn_lines.specs.Lines.{bytes_of}
use Rattle.zn_base.specs.Decimals.{number_in}
use Rattle.zn_lines.specs.Grammar.{is_hex, hex_worth, counted, part_of, is_plus, run_then, part_then, parts_on, data_of}
use Rattle.zn_lines.specs.LineTexts.{IsData}
use Rattle.zn_base.proofs.DecimalLaws.{number_in-decimal, decimal-number_in, cond_taken}
use Rattle.zn_lines.proofs.Separated.{decimal-lacks, lacks, all_lack, lacks-join, slice_split-join, join-slice_split}
use Rattle.zn_lines.proofs.LineWords.{IsWordKind}

-- ---- one run

abbrev IsRun : Run → Type 0
IsRun run = (run.byte < 256) × (run.count ≤ MOST_BYTES)

-- a hexadecimal digit is that of its worth
pub digit-worth : (b : ℕ) → is_hex b ≡ true → (b ≡ hex_digit (hex_worth b)) × (hex_worth b < 16)
digit-worth b is = (grind (arith, nat_tests), grind (arith, nat_tests))

-- a number below 16 has a digit, of that worth
pub worth-digit : (n : ℕ) → n < 16 → (is_hex (hex_digit n) ≡ true) × (hex_worth (hex_digit n) ≡ n)
worth-digit n small = (grind (arith, nat_tests), grind (arith, nat_tests))

pub hex_digit-ge : (n : ℕ) → n < 16 → 48 ≤ hex_digit n
hex_digit-ge n small = grind (arith, nat_tests)

MOST_BYTES-small : MOST_BYTES < 2 ^ 64
MOST_BYTES-small = omega arith

-- a run is read from its text
run-written : (run : Run) → IsRun run → part_of (run_text run) ≡ Some run
unfolding part_of
run-written run fits =
    let high = worth-digit (run.byte / 16) (omega arith) in
    let low = worth-digit (run.byte % 16) (omega arith) in
    let byte : hex_worth (hex_digit (run.byte / 16)) * 16 + hex_worth (hex_digit (run.byte % 16)) ≡ run.byte = omega (arith, high.1, low.1) in
    cond-true _ _ _ (and_from _ true (and_from _ _ high.0 low.0) refl)
    ∙ ap (counted (hex_worth (hex_digit (run.byte / 16)) * 16 + hex_worth (hex_digit (run.byte % 16)))) (number_in-decimal MOST_BYTES run.count MOST_BYTES-small fits.1)
    ∙ ap (λ b. counted b (Some run.count)) byte

-- two digits, a star and a count are the text of what they are read as
digits-known : (high low : ℕ) (digits : List ℕ) (run : Run) → is_hex high ≡ true → is_hex low ≡ true → (found : Option ℕ) → number_in MOST_BYTES digits ≡ found → counted (hex_worth high * 16 + hex_worth low) found ≡ Some run → (high ∷ low ∷ 42 ∷ digits ≡ run_text run) × IsRun run
digits-known high low digits run is_high is_low None found is = absurd (none-some run is)
digits-known high low digits run is_high is_low (Some count) found is =
    let same = same_Some _ run is in
    let byte = ap (λ r. r.byte) same in
    let read = decimal-number_in MOST_BYTES count digits MOST_BYTES-small found in
    let high_is = digit-worth high is_high in
    let low_is = digit-worth low is_low in
    let upper : hex_worth high ≡ run.byte / 16 = omega arith in
    let lower : hex_worth low ≡ run.byte % 16 = omega arith in
    let first : high ≡ hex_digit (run.byte / 16) = high_is.0 ∙ ap hex_digit upper in
    let second : low ≡ hex_digit (run.byte % 16) = low_is.0 ∙ ap hex_digit lower in
    let rest : digits ≡ decimal run.count = read.0 ∙ ap (λ r. decimal r.count) same in
    (cc, (omega arith, omega (arith, read.1, ap (λ r. r.count) same)))

-- what is read as a run is its text
run-known : (word : List ℕ) (run : Run) → part_of word ≡ Some run → (word ≡ run_text run) × IsRun run
unfolding part_of
run-known [] run is = absurd (none-some run is)
run-known (high ∷ []) run is = absurd (none-some run is)
run-known (high ∷ low ∷ []) run is = absurd (none-some run is)
run-known (high ∷ low ∷ star ∷ digits) run is =
    let taken = cond_taken _ (counted (hex_worth high * 16 + hex_worth low) (number_in MOST_BYTES digits)) run is in
    let tests = and_parts (is_hex high && is_hex low) (eqb star 42) taken.0 in
    let hexes = and_parts (is_hex high) (is_hex low) tests.0 in
    let known = digits-known high low digits run hexes.0 hexes.1 (number_in MOST_BYTES digits) refl taken.1 in
    (ap (λ b. high ∷ low ∷ b ∷ digits) (eqb-true star 42 tests.1) ∙ known.0, known.1)

-- no byte below the digits is in it but the star
run-lacks : (c : ℕ) (run : Run) → c < 48 → c ≢ 42 → IsRun run → lacks c (run_text run) ≡ true
run-lacks c run low other fits =
    let high = hex_digit-ge (run.byte / 16) (omega arith) in
    let lower = hex_digit-ge (run.byte % 16) (omega arith) in
    and_from _ _ (not_from_false _ (ne_eqb (hex_digit (run.byte / 16)) c (λ e. absurd (omega arith))))
    (and_from _ _ (not_from_false _ (ne_eqb (hex_digit (run.byte % 16)) c (λ e. absurd (omega arith))))
    (and_from _ _ (not_from_false _ (ne_eqb 42 c (λ e. other (sym e)))) (decimal-lacks c run.count (and_left _ _ (lt-leb 48 c low)) (omega arith))))

-- ---- runs

abbrev IsByte : Run → Type 0
IsByte run = run.byte < 256

length-bytes_of : (run : Run) (runs : List Run) → length (bytes_of (run ∷ runs)) ≡ run.count + length (bytes_of runs)
length-bytes_of run runs = length-append (replicate run.count run.byte) (bytes_of runs) ∙ ap (λ n. n + length (bytes_of runs)) (length-replicate run.count run.byte)

-- texts of runs that have room behind some bytes
record AreRuns (parts : List (List ℕ)) (total : ℕ) (runs : List Run) : Type 0 where
  texts : parts ≡ map run_text runs
  bytes : All IsByte runs
  room : total + length (bytes_of runs) ≤ MOST_BYTES

parts-written : (runs : List Run) (total : ℕ) → All IsByte runs → total + length (bytes_of runs) ≤ MOST_BYTES → parts_on total (map run_text runs) ≡ Some runs
unfolding parts_on
parts-written [] total bytes room = refl
parts-written (run ∷ runs) total bytes room =
    let sized = length-bytes_of run runs in
    let fits : IsRun run = (All-head IsByte run runs bytes, omega (arith, sized)) in
    ap (λ found. part_then found total (λ more. parts_on more (map run_text runs))) (run-written run fits)
    ∙ cond-true _ _ _ (le-leb (total + run.count) MOST_BYTES (omega (arith, sized)))
    ∙ ap (run_then run) (parts-written runs (total + run.count) (All-tail IsByte run runs bytes) (omega (arith, sized)))

-- a run before others
run_then-known : (part : List ℕ) (parts : List (List ℕ)) (total : ℕ) (run : Run) (runs : List Run) → part ≡ run_text run → IsRun run → (found : Option (List Run)) → ((more : List Run) → found ≡ Some more → AreRuns parts (total + run.count) more) → run_then run found ≡ Some runs → AreRuns (part ∷ parts) total runs
run_then-known part parts total run runs text fits None further is = absurd (none-some runs is)
run_then-known part parts total run runs text fits (Some more) further is =
    let rest = further more refl in
    let sized = length-bytes_of run more in
    let all : AreRuns (part ∷ parts) total (run ∷ more) = record { texts = cc (text, rest.texts); bytes = All-cons IsByte run more fits.0 rest.bytes; room = omega (arith, sized, rest.room) } in
    subst (AreRuns (part ∷ parts) total) (same_Some (run ∷ more) runs is) all

part_then-known : (part : List ℕ) (parts : List (List ℕ)) (total : ℕ) (runs : List Run) → ((more : ℕ) (rest : List Run) → more ≤ MOST_BYTES → parts_on more parts ≡ Some rest → AreRuns parts more rest) → (found : Option Run) → part_of part ≡ found → part_then found total (λ more. parts_on more parts) ≡ Some runs → AreRuns (part ∷ parts) total runs
part_then-known part parts total runs further None found is = absurd (none-some runs is)
part_then-known part parts total runs further (Some run) found is =
    let taken = cond_taken _ (run_then run (parts_on (total + run.count) parts)) runs is in
    let room = leb-true (total + run.count) MOST_BYTES taken.0 in
    let known = run-known part run found in
    run_then-known part parts total run runs known.0 known.1 (parts_on (total + run.count) parts) (λ more are. further (total + run.count) more room are) taken.1

parts-known : (parts : List (List ℕ)) (total : ℕ) (runs : List Run) → total ≤ MOST_BYTES → parts_on total parts ≡ Some runs → AreRuns parts total runs
unfolding parts_on
parts-known [] total runs room is =
    let none : AreRuns [] total [] = record { texts = refl; bytes = All-nil IsByte; room = omega arith } in
    subst (AreRuns [] total) (same_Some [] runs is) none
parts-known (part ∷ parts) total runs room is = part_then-known part parts total runs (λ more rest. parts-known parts more rest) (part_of part) refl is

runs-lack : (c : ℕ) (runs : List Run) → c < 48 → c ≢ 42 → All IsByte runs → length (bytes_of runs) ≤ MOST_BYTES → all_lack c (map run_text runs) ≡ true
runs-lack c [] low other bytes room = refl
runs-lack c (run ∷ runs) low other bytes room =
    let sized = length-bytes_of run runs in
    and_from _ _ (run-lacks c run low other (All-head IsByte run runs bytes, omega (arith, sized)))
    (runs-lack c runs low other (All-tail IsByte run runs bytes) (omega (arith, sized)))

-- ---- all of the data

join-run_text : (run : Run) (runs : List Run) → join_with_byte 43 (run_text run ∷ map run_text runs) ≡ runs_text (run ∷ runs)
join-run_text run [] = sym (append-nil (run_text run))
join-run_text run (next ∷ runs) = ap (λ text. run_text run ++ 43 ∷ text) (join-run_text next runs)

runs_text-join : (runs : List Run) → 0 < length runs → join_with_byte 43 (map run_text runs) ≡ runs_text runs
runs_text-join [] some = absurd (omega arith)
runs_text-join (run ∷ runs) some = join-run_text run runs

runs-apart : (runs : List Run) → IsData runs → slice_split is_plus (runs_text runs) ≡ map run_text runs
runs-apart [] fits = absurd (omega (arith, fits.0))
runs-apart (run ∷ runs) fits =
    ap (slice_split is_plus) (sym (join-run_text run runs))
    ∙ slice_split-join 43 (run_text run) (map run_text runs) (runs-lack 43 (run ∷ runs) (omega arith) (omega arith) fits.1 fits.2)

data-written : (runs : List Run) → IsData runs → data_of (runs_text runs) ≡ Some runs
unfolding data_of
data-written runs fits = ap (parts_on 0) (runs-apart runs fits) ∙ parts-written runs 0 fits.1 (omega (arith, fits.2))

data-known : (word : List ℕ) (runs : List Run) → data_of word ≡ Some runs → (word ≡ runs_text runs) × IsData runs
unfolding data_of
data-known word runs is =
    let known = parts-known (slice_split is_plus word) 0 runs (omega arith) is in
    let some : 0 < length runs = omega (arith, length-slice_split is_plus word, ap length known.texts, length-map runs run_text) in
    (join-slice_split 43 word (map run_text runs) known.texts ∙ runs_text-join runs some, (some, known.bytes, omega (arith, known.room)))

data-lacks : (runs : List Run) → IsData runs → lacks 32 (runs_text runs) ≡ true
data-lacks runs fits =
    ap (lacks 32) (sym (runs_text-join runs fits.0))
    ∙ lacks-join 32 43 (map run_text runs) refl (runs-lack 32 runs (omega arith) (omega arith) fits.1 fits.2)

pub data_words : IsWordKind data_of runs_text IsData
data_words = record { written = data-written; known = data-known; whole = data-lacks }
