-- Words of a loss of power: `done`, a byte that is filled in, and the cuts of zones.
use Rattle.std.proofs.Common.{◌≡◌, ◌≢◌, ℕ, ◌+◌, ◌*◌, ◌/◌, ◌%◌, ◌^◌, ◌<◌, ◌≤◌, true, false, List, [], ◌∷◌, ◌++◌, map, length, Option, Some, None, Ok, refl, ap, sym, ◌∙◌, arith, append-nil, append_assoc, length-append, subst, nat_lt}
use Rattle.std.specs.Fmt.{decimal}
use Rattle.std.specs.List.{All, slice_split}
use Rattle.std.specs.Option.{option_and_then}
use Rattle.std.proofs.lemmas.Bool.{true≢false, and_parts, and_from, ne_eqb, cond-true, not_from_false}
use Rattle.std.proofs.lemmas.Bool.Decides.{nat_tests}
use Rattle.std.proofs.lemmas.List.Elements.{All-nil, All-cons, All-head, All-tail}
use Rattle.std.proofs.lemmas.Option.{same_Some, none-some}
use Rattle.std.proofs.lemmas.Slice.Eq.{bytes_eq-Decides}
use Rattle.zn_truth.specs.declared.ZoneNo.{ZoneNo}
use Rattle.zn_truth.specs.declared.limits.TheConstants.{MAX_CUTS}
use Rattle.zn_base.specs.Decimals.{number_in, is_digit}
use Rattle.zn_base.specs.Runs.{hex_digit, hex}
use Rattle.zn_base.proofs.DecimalLaws.{number_in-decimal, decimal-number_in, cond_taken}
use Rattle.zn_lines.specs.Grammar.{last_zone, last_u32, is_hex, hex_worth, done_word, done_in, fill_key, byte_of, fill_of, is_colon, cut_by, cut_in, cut_of, with_cut, cut_then, cuts_on}
use Rattle.zn_lines.specs.LineTexts.{IsCut, AreCuts, cut_word}
use Rattle.zn_lines.proofs.Separated.{decimal-lacks, lacks, all_lack, lacks-append, slice_split-alone, slice_split-before, join-slice_split}
use Rattle.zn_lines.proofs.LineWords.{IsWordKind, IsOther}
use Rattle.zn_lines.proofs.DataWords.{digit-worth, worth-digit, hex_digit-ge}
use Rattle.zn_lines.proofs.ItemWords.{keyed}

-- ---- done

done-known : (word : List ℕ) (x : Unit {0}) → done_in word ≡ Some x → word ≡ done_word
unfolding done_in
done-known word x is = (bytes_eq-Decides word done_word).0 (cond_taken _ (Some tt) x is).0

done-written : (x : Unit {0}) → done_in done_word ≡ Some x
unfolding done_in
done-written x = refl

pub dones : IsWordKind done_in (λ x. done_word) (λ x. Unit {0})
dones = record {
  written = λ x fits. done-written x;
  known = λ word x is. (done-known word x is, tt);
  whole = λ x fits. refl;
}

-- ---- a byte that is filled in

byte-written : (byte : ℕ) → byte < 256 → byte_of (hex byte) ≡ Some byte
unfolding byte_of
byte-written byte fits =
    let high = worth-digit (byte / 16) (omega arith) in
    let low = worth-digit (byte % 16) (omega arith) in
    let same : hex_worth (hex_digit (byte / 16)) * 16 + hex_worth (hex_digit (byte % 16)) ≡ byte = omega (arith, high.1, low.1) in
    cond-true _ _ _ (and_from _ _ high.0 low.0) ∙ ap Some same

byte-known : (word : List ℕ) (byte : ℕ) → byte_of word ≡ Some byte → (word ≡ hex byte) × (byte < 256)
unfolding byte_of
byte-known [] byte is = absurd (none-some byte is)
byte-known (high ∷ []) byte is = absurd (none-some byte is)
byte-known (high ∷ low ∷ more ∷ bytes) byte is = absurd (none-some byte is)
byte-known (high ∷ low ∷ []) byte is =
    let taken = cond_taken _ (Some (hex_worth high * 16 + hex_worth low)) byte is in
    let hexes = and_parts (is_hex high) (is_hex low) taken.0 in
    let same = same_Some _ byte taken.1 in
    let high_is = digit-worth high hexes.0 in
    let low_is = digit-worth low hexes.1 in
    let upper : hex_worth high ≡ byte / 16 = omega arith in
    let lower : hex_worth low ≡ byte % 16 = omega arith in
    let first : high ≡ hex_digit (byte / 16) = high_is.0 ∙ ap hex_digit upper in
    let second : low ≡ hex_digit (byte % 16) = low_is.0 ∙ ap hex_digit lower in
    (cc, omega arith)

-- no byte below the digits is in it
byte-lacks : (c byte : ℕ) → c < 48 → byte < 256 → lacks c (hex byte) ≡ true
byte-lacks c byte low fits =
    let high = hex_digit-ge (byte / 16) (omega arith) in
    let lower = hex_digit-ge (byte % 16) (omega arith) in
    and_from _ _ (not_from_false _ (ne_eqb (hex_digit (byte / 16)) c (λ e. absurd (omega arith))))
    (and_from _ true (not_from_false _ (ne_eqb (hex_digit (byte % 16)) c (λ e. absurd (omega arith)))) refl)

fill_bytes : IsWordKind byte_of hex (λ byte. byte < 256)
fill_bytes = record { written = byte-written; known = byte-known; whole = λ byte fits. byte-lacks 32 byte (omega arith) fits }

pub fills : IsWordKind fill_of (λ byte. fill_key ++ hex byte) (λ byte. byte < 256)
fills = keyed fill_bytes fill_key refl

-- ---- a cut

zone-limit : last_zone < 2 ^ 64
zone-limit = omega arith

blocks-limit : last_u32 < 2 ^ 64
blocks-limit = omega arith

-- a byte that is neither a digit nor a colon isn't in it
cut-lacks : (c : ℕ) (cut : ZoneNo × ℕ) → is_digit c ≡ false → 58 ≢ c → IsCut cut → lacks c (cut_word cut) ≡ true
cut-lacks c cut other apart fits =
    lacks-append c (decimal cut.0.0) (58 ∷ decimal cut.1) (decimal-lacks c cut.0.0 other (omega (arith, fits.0, zone-limit)))
    (and_from _ _ (not_from_false _ (ne_eqb 58 c apart)) (decimal-lacks c cut.1 other (omega (arith, fits.1, blocks-limit))))

cut-apart : (cut : ZoneNo × ℕ) → IsCut cut → slice_split is_colon (cut_word cut) ≡ decimal cut.0.0 ∷ decimal cut.1 ∷ []
cut-apart cut fits =
    slice_split-before 58 (decimal cut.0.0) (decimal cut.1) (decimal-lacks 58 cut.0.0 refl (omega (arith, fits.0, zone-limit)))
    ∙ ap (λ parts. decimal cut.0.0 ∷ parts) (slice_split-alone 58 (decimal cut.1) (decimal-lacks 58 cut.1 refl (omega (arith, fits.1, blocks-limit))))

cut-written : (cut : ZoneNo × ℕ) → IsCut cut → cut_of (cut_word cut) ≡ Some cut
unfolding cut_of
cut-written cut fits =
    ap cut_in (cut-apart cut fits)
    ∙ ap (λ zone. cut_by zone (number_in last_u32 (decimal cut.1))) (number_in-decimal last_zone cut.0.0 zone-limit fits.0)
    ∙ ap (cut_by (Some cut.0.0)) (number_in-decimal last_u32 cut.1 blocks-limit fits.1)

-- Two words are the numbers of a cut.
record AreNumbers (zone blocks : List ℕ) (cut : ZoneNo × ℕ) : Type 0 where
  zone_is : zone ≡ decimal cut.0.0
  blocks_are : blocks ≡ decimal cut.1
  fit : IsCut cut

numbers-known : (zone blocks : List ℕ) (cut : ZoneNo × ℕ) (found found' : Option ℕ) → number_in last_zone zone ≡ found → number_in last_u32 blocks ≡ found' → cut_by found found' ≡ Some cut → AreNumbers zone blocks cut
numbers-known zone blocks cut None found' is is' made = absurd (none-some cut made)
numbers-known zone blocks cut (Some z) None is is' made = absurd (none-some cut made)
numbers-known zone blocks cut (Some z) (Some n) is is' made =
    let one = decimal-number_in last_zone z zone zone-limit is in
    let other = decimal-number_in last_u32 n blocks blocks-limit is' in
    let named : AreNumbers zone blocks (record { 0 = z }, n) = record { zone_is = one.0; blocks_are = other.0; fit = (one.1, other.1) } in
    subst (AreNumbers zone blocks) (same_Some _ cut made) named

parts-known : (word : List ℕ) (cut : ZoneNo × ℕ) (parts : List (List ℕ)) → slice_split is_colon word ≡ parts → cut_in parts ≡ Some cut → (word ≡ cut_word cut) × IsCut cut
parts-known word cut [] are is = absurd (none-some cut is)
parts-known word cut (zone ∷ []) are is = absurd (none-some cut is)
parts-known word cut (zone ∷ blocks ∷ more ∷ parts) are is = absurd (none-some cut is)
parts-known word cut (zone ∷ blocks ∷ []) are is =
    let known = numbers-known zone blocks cut (number_in last_zone zone) (number_in last_u32 blocks) refl refl is in
    let joined : word ≡ zone ++ 58 ∷ blocks = join-slice_split 58 word (zone ∷ blocks ∷ []) are in
    (joined ∙ ap (λ z. z ++ 58 ∷ blocks) known.zone_is ∙ ap (λ n. decimal cut.0.0 ++ 58 ∷ n) known.blocks_are, known.fit)

cut-known : (word : List ℕ) (cut : ZoneNo × ℕ) → cut_of word ≡ Some cut → (word ≡ cut_word cut) × IsCut cut
unfolding cut_of
cut-known word cut is = parts-known word cut (slice_split is_colon word) refl is

pub cuts : IsWordKind cut_of cut_word IsCut
cuts = record { written = cut-written; known = cut-known; whole = λ cut fits. cut-lacks 32 cut refl (omega arith) fits }

-- ---- words that are no others

-- a word that lacks a byte isn't one of a kind whose words have it
no-other : {A : Type 0} {read : List ℕ → Option A} {word_of : A → List ℕ} {Fits : A → Type 0} → IsWordKind read word_of Fits → (c : ℕ) → ((x : A) → lacks c (word_of x) ≡ false) → (word : List ℕ) → lacks c word ≡ true → (found : Option A) → read word ≡ found → found ≡ None
no-other kind c has word lack None is = refl
no-other kind c has word lack (Some x) is = absurd (true≢false (sym lack ∙ ap (lacks c) (kind.known word x is).0 ∙ has x))

cut-no_done : (cut : ZoneNo × ℕ) → IsCut cut → done_in (cut_word cut) ≡ None
cut-no_done cut fits = no-other dones 100 (λ x. refl) (cut_word cut) (cut-lacks 100 cut refl (omega arith) fits) (done_in (cut_word cut)) refl

cut-no_fill : (cut : ZoneNo × ℕ) → IsCut cut → fill_of (cut_word cut) ≡ None
cut-no_fill cut fits = no-other fills 102 (λ x. refl) (cut_word cut) (cut-lacks 102 cut refl (omega arith) fits) (fill_of (cut_word cut)) refl

-- a byte that is filled in is no `done`
pub fill-no_done : (byte : ℕ) → done_in (fill_key ++ hex byte) ≡ None
unfolding done_in
fill-no_done byte = refl

-- cuts are no `done`, and no byte that is filled in
pub cuts-no_done : (list : List (ZoneNo × ℕ)) → All IsCut list → IsOther done_in (map cut_word list)
cuts-no_done [] all = tt
cuts-no_done (cut ∷ list) all = cut-no_done cut (All-head IsCut cut list all)

pub cuts-no_fill : (list : List (ZoneNo × ℕ)) → All IsCut list → IsOther fill_of (map cut_word list)
cuts-no_fill [] all = tt
cuts-no_fill (cut ∷ list) all = cut-no_fill cut (All-head IsCut cut list all)

-- ---- cuts, one after another

pub cuts-lack : (list : List (ZoneNo × ℕ)) → All IsCut list → all_lack 32 (map cut_word list) ≡ true
cuts-lack [] all = refl
cuts-lack (cut ∷ list) all = and_from _ _ (cuts.whole cut (All-head IsCut cut list all)) (cuts-lack list (All-tail IsCut cut list all))

has-room : (n : ℕ) → n < MAX_CUTS → nat_lt n MAX_CUTS ≡ true
has-room n room = grind (arith, nat_tests)

room-true : (n : ℕ) → nat_lt n MAX_CUTS ≡ true → n < MAX_CUTS
room-true n room = grind (arith, nat_tests)

-- words of cuts are read as them, behind those that were found
read-on : (list found : List (ZoneNo × ℕ)) (column : ℕ) → All IsCut list → length found + length list ≤ MAX_CUTS → cuts_on found column (map cut_word list) ≡ Ok (found ++ list)
unfolding cuts_on
read-on [] found column all room = ap Ok (sym (append-nil found))
read-on (cut ∷ list) found column all room =
    let column' = column + length (cut_word cut) + 1 in
    let more = found ++ cut ∷ [] in
    let sized = length-append found (cut ∷ []) in
    ap (λ o. cut_then (option_and_then (with_cut found) o) column (λ more. cuts_on more column' (map cut_word list))) (cut-written cut (All-head IsCut cut list all))
    ∙ ap (λ o. cut_then o column (λ more. cuts_on more column' (map cut_word list))) (cond-true _ (Some more) None (has-room (length found) (omega arith)))
    ∙ read-on list more column' (All-tail IsCut cut list all) (omega (arith, sized))
    ∙ ap Ok (append_assoc found (cut ∷ []) list)

pub cuts-read : (list : List (ZoneNo × ℕ)) (column : ℕ) → AreCuts list → cuts_on [] column (map cut_word list) ≡ Ok list
cuts-read list column fit = read-on list [] column fit.0 (omega (arith, fit.1))

-- Words that are cuts, behind those that were found, all together not too many.
record AreMore (words : List (List ℕ)) (found all : List (ZoneNo × ℕ)) : Type 0 where
  list : List (ZoneNo × ℕ)
  spelled : words ≡ map cut_word list
  fit : All IsCut list
  is : found ++ list ≡ all
  room : length all ≤ MAX_CUTS

-- what stands behind a word, as it is read
abbrev Further : List (List ℕ) → ℕ → List (ZoneNo × ℕ) → Type 0
Further words column all = (more : List (ZoneNo × ℕ)) → length more ≤ MAX_CUTS → cuts_on more column words ≡ Ok all → AreMore words more all

-- a cut for which there may be room, and the words behind it
cut-taken : (word : List ℕ) (words : List (List ℕ)) (found all : List (ZoneNo × ℕ)) (column column' : ℕ) → Further words column' all → (cut : ZoneNo × ℕ) → (word ≡ cut_word cut) × IsCut cut
    → (o : Option (List (ZoneNo × ℕ))) → with_cut found cut ≡ o → cut_then o column (λ more. cuts_on more column' words) ≡ Ok all → AreMore (word ∷ words) found all
cut-taken word words found all column column' further cut known None here is = absurd cc
cut-taken word words found all column column' further cut known (Some more) here is =
    let taken = cond_taken (nat_lt (length found) MAX_CUTS) (Some (found ++ cut ∷ [])) more here in
    let same : found ++ cut ∷ [] ≡ more = same_Some (found ++ cut ∷ []) more taken.1 in
    let sized = length-append found (cut ∷ []) in
    let room : length more ≤ MAX_CUTS = omega (arith, room-true (length found) taken.0, ap length same) in
    let rest = further more room is in
    record {
      list = cut ∷ rest.list;
      spelled = cc (known.0, rest.spelled);
      fit = All-cons IsCut cut rest.list known.1 rest.fit;
      is = sym (append_assoc found (cut ∷ []) rest.list) ∙ ap (λ front. front ++ rest.list) same ∙ rest.is;
      room = rest.room;
    }

-- a word, if it is a cut, and the words behind it
word-taken : (word : List ℕ) (words : List (List ℕ)) (found all : List (ZoneNo × ℕ)) (column column' : ℕ) → Further words column' all
    → (o : Option (ZoneNo × ℕ)) → cut_of word ≡ o → cut_then (option_and_then (with_cut found) o) column (λ more. cuts_on more column' words) ≡ Ok all → AreMore (word ∷ words) found all
word-taken word words found all column column' further None here is = absurd cc
word-taken word words found all column column' further (Some cut) here is =
    cut-taken word words found all column column' further cut (cut-known word cut here) (with_cut found cut) refl is

-- what is read as cuts is their words
known-on : (words : List (List ℕ)) (found all : List (ZoneNo × ℕ)) (column : ℕ) → length found ≤ MAX_CUTS → cuts_on found column words ≡ Ok all → AreMore words found all
unfolding cuts_on
known-on [] found all column room is =
    let same : found ≡ all = cc in
    record { list = []; spelled = refl; fit = All-nil IsCut; is = append-nil found ∙ same; room = omega (arith, ap length same) }
known-on (word ∷ words) found all column room is =
    let column' = column + length word + 1 in
    word-taken word words found all column column' (λ more small is. known-on words more all column' small is) (cut_of word) refl is

pub cuts-known : (words : List (List ℕ)) (list : List (ZoneNo × ℕ)) (column : ℕ) → cuts_on [] column words ≡ Ok list → (words ≡ map cut_word list) × AreCuts list
cuts-known words list column is =
    let known = known-on words [] list column (omega arith) is in
    (known.spelled ∙ ap (map cut_word) known.is, (subst (All IsCut) known.is known.fit, known.room))
