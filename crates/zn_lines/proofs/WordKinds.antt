-- The kinds of words: numbers, paths, modes and verbs.
use Rattle.std.proofs.Common.{◌≡◌, ℕ, zero, suc, ◌^◌, ◌<◌, ◌≤◌, true, leb, List, [], ◌∷◌, Some, refl, arith, subst}
use Rattle.std.specs.Fmt.{decimal}
use Rattle.std.specs.List.{All, list_all}
use Rattle.std.proofs.lemmas.Bool.{and_parts, and_from, cond-true, leb-true, le-leb}
use Rattle.std.proofs.lemmas.List.Elements.{All-weaker}
use Rattle.std.proofs.lemmas.List.Sums.{AllPass-from_list_all, list_all-from_AllPass}
use Rattle.std.proofs.lemmas.Option.{same_Some, none-some}
use Rattle.zn_truth.specs.declared.Command.{Command}
use Rattle.zn_truth.specs.declared.Command.TheVariants.{Read as Reading, Write as Writing, Reset as Resetting, Finish as Finishing, Flush as Flushing, Open as Opening, Close as Closing, Report as Reporting}
use Rattle.zn_truth.specs.declared.Cond.{Cond}
use Rattle.zn_truth.specs.declared.Cond.TheVariants.{Good, ReadOnly, Offline}
use Rattle.zn_model.specs.declared.handles.Mode.{Mode}
use Rattle.zn_base.specs.Decimals.{number_in}
use Rattle.zn_lines.specs.declared.words.Verb.{Verb}
use Rattle.zn_lines.specs.declared.words.Verb.TheVariants.{Mkfs as Formatting, Mount as Mounting, Umount as Unmounting, Open, Close, Size, Read, Write, Truncate, Sync, Stat, List as Listing, Attr, Create as Creating, Remove as Removing, Rename as Renaming, Chmod as ChangingMode, Chown as ChangingOwner, Fault, Turn, Submit, Complete as Completing, Reap as Reaping, Zones as ReportingZones, PowerLoss as LosingPower, PowerLossIn as LosingPowerIn, PowerOn as PoweringOn}
use Rattle.zn_lines.specs.Grammar.{is_printable, path_of, mode_in, kind_in, worse_in, verb_of, verb_name, mode_name, kind_name, worse_name}
use Rattle.zn_lines.specs.LineTexts.{IsMode, IsWorse, IsPath}
use Rattle.zn_lines.proofs.Separated.{decimal-lacks, lacks, passing-lack}
use Rattle.zn_base.proofs.DecimalLaws.{number_in-decimal, decimal-number_in, cond_taken}
use Rattle.zn_lines.proofs.LineWords.{IsWordKind, chosen}

-- ---- numbers

-- a number of at most max
pub numbers : (max : ℕ) → max < 2 ^ 64 → IsWordKind (number_in max) decimal (λ n. n ≤ max)
numbers max limit = record {
  written = λ n within. number_in-decimal max n limit within;
  known = λ word n is. decimal-number_in max n word limit is;
  whole = λ n within. decimal-lacks 32 n refl (omega arith);
}

-- ---- paths

abbrev IsPrintable : ℕ → Type 0
IsPrintable byte = (0x21 ≤ byte) × (byte ≤ 0x7E)

printable-passes : (path : List ℕ) → All IsPrintable path → list_all is_printable path ≡ true
printable-passes path all =
    list_all-from_AllPass is_printable path (All-weaker IsPrintable (λ b. is_printable b ≡ true) (λ b fits. and_from (leb 0x21 b) (leb b 0x7E) (le-leb _ _ fits.0) (le-leb _ _ fits.1)) path all)

passing-printable : (path : List ℕ) → list_all is_printable path ≡ true → All IsPrintable path
passing-printable path pass =
    All-weaker (λ b. is_printable b ≡ true) IsPrintable (λ b passes. let parts = and_parts (leb 0x21 b) (leb b 0x7E) passes in (leb-true _ _ parts.0, leb-true _ _ parts.1)) path (AllPass-from_list_all is_printable path pass)

path-written : (path : List ℕ) → IsPath path → path_of path ≡ Some path
unfolding path_of
path-written [] fits = absurd (omega (arith, fits.0))
path-written (b ∷ bytes) fits = cond-true _ _ _ (printable-passes (b ∷ bytes) fits.1)

path-known : (word path : List ℕ) → path_of word ≡ Some path → (word ≡ path) × IsPath path
unfolding path_of
path-known [] path is = absurd (none-some path is)
path-known (b ∷ bytes) path is =
    let taken = cond_taken _ (Some (b ∷ bytes)) path is in
    let same = same_Some (b ∷ bytes) path taken.1 in
    (same, subst IsPath same (omega arith, passing-printable (b ∷ bytes) taken.0))

-- a path is its word
pub paths : IsWordKind path_of (λ path. path) IsPath
paths = record {
  written = path-written;
  known = path-known;
  whole = λ path fits. passing-lack is_printable 32 path refl (printable-passes path fits.1);
}

-- ---- modes

-- each of the three modes
each_mode : (P : Mode → Type 0) → P (record { 0 = 1 }) → P (record { 0 = 2 }) → P (record { 0 = 3 }) → (mode : Mode) → IsMode mode → P mode
each_mode P one two three mode fits = go mode.0 fits
  where
    go : (n : ℕ) → (1 ≤ n) × (n ≤ 3) → P (record { 0 = n })
    go zero fits = absurd (omega (arith, fits.0))
    go (suc zero) fits = one
    go (suc (suc zero)) fits = two
    go (suc (suc (suc zero))) fits = three
    go (suc (suc (suc (suc n)))) fits = absurd (omega (arith, fits.1))

mode-known : (word : List ℕ) (mode : Mode) → mode_in word ≡ Some mode → (word ≡ mode_name mode) × IsMode mode
unfolding mode_in
mode-known word mode is =
    let P : Mode → Type 0 = λ mode. (word ≡ mode_name mode) × IsMode mode in
    chosen P word _ (record { 0 = 1 }) mode _ is (λ e. (e, (omega arith, omega arith))) (λ is.
    chosen P word _ (record { 0 = 2 }) mode _ is (λ e. (e, (omega arith, omega arith))) (λ is.
    chosen P word _ (record { 0 = 3 }) mode _ is (λ e. (e, (omega arith, omega arith))) (λ is. absurd (none-some mode is))))

mode-written : (mode : Mode) → IsMode mode → mode_in (mode_name mode) ≡ Some mode
unfolding mode_in
mode-written = each_mode (λ mode. mode_in (mode_name mode) ≡ Some mode) refl refl refl

pub modes : IsWordKind mode_in mode_name IsMode
modes = record {
  written = mode-written;
  known = mode-known;
  whole = each_mode (λ mode. lacks 32 (mode_name mode) ≡ true) refl refl refl;
}

-- ---- kinds of commands

kind-written : (command : Command) → kind_in (kind_name command) ≡ Some command
unfolding kind_in
kind-written Reading = refl
kind-written Writing = refl
kind-written Resetting = refl
kind-written Finishing = refl
kind-written Flushing = refl
kind-written Opening = refl
kind-written Closing = refl
kind-written Reporting = refl

kind-lacks : (command : Command) → lacks 32 (kind_name command) ≡ true
kind-lacks Reading = refl
kind-lacks Writing = refl
kind-lacks Resetting = refl
kind-lacks Finishing = refl
kind-lacks Flushing = refl
kind-lacks Opening = refl
kind-lacks Closing = refl
kind-lacks Reporting = refl

kind-known : (word : List ℕ) (command : Command) → kind_in word ≡ Some command → word ≡ kind_name command
unfolding kind_in
kind-known word command is =
    let P : Command → Type 0 = λ command. word ≡ kind_name command in
    chosen P word _ Reading command _ is (λ e. e) (λ is.
    chosen P word _ Writing command _ is (λ e. e) (λ is.
    chosen P word _ Resetting command _ is (λ e. e) (λ is.
    chosen P word _ Finishing command _ is (λ e. e) (λ is.
    chosen P word _ Flushing command _ is (λ e. e) (λ is.
    chosen P word _ Opening command _ is (λ e. e) (λ is.
    chosen P word _ Closing command _ is (λ e. e) (λ is.
    chosen P word _ Reporting command _ is (λ e. e) (λ is. absurd (none-some command is)))))))))

pub kinds : IsWordKind kind_in kind_name (λ command. Unit {0})
kinds = record {
  written = λ command fits. kind-written command;
  known = λ word command is. (kind-known word command is, tt);
  whole = λ command fits. kind-lacks command;
}

-- ---- conditions that a zone turns to

worse-written : (to : Cond) → IsWorse to → worse_in (worse_name to) ≡ Some to
unfolding worse_in
worse-written Good fits = absurd fits
worse-written ReadOnly fits = refl
worse-written Offline fits = refl

worse-lacks : (to : Cond) → lacks 32 (worse_name to) ≡ true
worse-lacks Good = refl
worse-lacks ReadOnly = refl
worse-lacks Offline = refl

worse-known : (word : List ℕ) (to : Cond) → worse_in word ≡ Some to → (word ≡ worse_name to) × IsWorse to
unfolding worse_in
worse-known word to is =
    let P : Cond → Type 0 = λ to. (word ≡ worse_name to) × IsWorse to in
    chosen P word _ ReadOnly to _ is (λ e. (e, tt)) (λ is.
    chosen P word _ Offline to _ is (λ e. (e, tt)) (λ is. absurd (none-some to is)))

pub worse_conditions : IsWordKind worse_in worse_name IsWorse
worse_conditions = record {
  written = worse-written;
  known = worse-known;
  whole = λ to fits. worse-lacks to;
}

-- ---- verbs

verb-written : (verb : Verb) → verb_of (verb_name verb) ≡ Some verb
unfolding verb_of
verb-written Formatting = refl
verb-written Mounting = refl
verb-written Unmounting = refl
verb-written Open = refl
verb-written Close = refl
verb-written Size = refl
verb-written Read = refl
verb-written Write = refl
verb-written Truncate = refl
verb-written Sync = refl
verb-written Stat = refl
verb-written Listing = refl
verb-written Attr = refl
verb-written Creating = refl
verb-written Removing = refl
verb-written Renaming = refl
verb-written ChangingMode = refl
verb-written ChangingOwner = refl
verb-written Fault = refl
verb-written Turn = refl
verb-written Submit = refl
verb-written Completing = refl
verb-written Reaping = refl
verb-written ReportingZones = refl
verb-written LosingPower = refl
verb-written LosingPowerIn = refl
verb-written PoweringOn = refl

verb-lacks : (verb : Verb) → lacks 32 (verb_name verb) ≡ true
verb-lacks Formatting = refl
verb-lacks Mounting = refl
verb-lacks Unmounting = refl
verb-lacks Open = refl
verb-lacks Close = refl
verb-lacks Size = refl
verb-lacks Read = refl
verb-lacks Write = refl
verb-lacks Truncate = refl
verb-lacks Sync = refl
verb-lacks Stat = refl
verb-lacks Listing = refl
verb-lacks Attr = refl
verb-lacks Creating = refl
verb-lacks Removing = refl
verb-lacks Renaming = refl
verb-lacks ChangingMode = refl
verb-lacks ChangingOwner = refl
verb-lacks Fault = refl
verb-lacks Turn = refl
verb-lacks Submit = refl
verb-lacks Completing = refl
verb-lacks Reaping = refl
verb-lacks ReportingZones = refl
verb-lacks LosingPower = refl
verb-lacks LosingPowerIn = refl
verb-lacks PoweringOn = refl

verb-known : (word : List ℕ) (verb : Verb) → verb_of word ≡ Some verb → word ≡ verb_name verb
unfolding verb_of
verb-known word verb is =
    let P : Verb → Type 0 = λ verb. word ≡ verb_name verb in
    chosen P word _ Formatting verb _ is (λ e. e) (λ is.
    chosen P word _ Mounting verb _ is (λ e. e) (λ is.
    chosen P word _ Unmounting verb _ is (λ e. e) (λ is.
    chosen P word _ Open verb _ is (λ e. e) (λ is.
    chosen P word _ Close verb _ is (λ e. e) (λ is.
    chosen P word _ Size verb _ is (λ e. e) (λ is.
    chosen P word _ Read verb _ is (λ e. e) (λ is.
    chosen P word _ Write verb _ is (λ e. e) (λ is.
    chosen P word _ Truncate verb _ is (λ e. e) (λ is.
    chosen P word _ Sync verb _ is (λ e. e) (λ is.
    chosen P word _ Stat verb _ is (λ e. e) (λ is.
    chosen P word _ Listing verb _ is (λ e. e) (λ is.
    chosen P word _ Attr verb _ is (λ e. e) (λ is.
    chosen P word _ Creating verb _ is (λ e. e) (λ is.
    chosen P word _ Removing verb _ is (λ e. e) (λ is.
    chosen P word _ Renaming verb _ is (λ e. e) (λ is.
    chosen P word _ ChangingMode verb _ is (λ e. e) (λ is.
    chosen P word _ ChangingOwner verb _ is (λ e. e) (λ is.
    chosen P word _ Fault verb _ is (λ e. e) (λ is.
    chosen P word _ Turn verb _ is (λ e. e) (λ is.
    chosen P word _ Submit verb _ is (λ e. e) (λ is.
    chosen P word _ Completing verb _ is (λ e. e) (λ is.
    chosen P word _ Reaping verb _ is (λ e. e) (λ is.
    chosen P word _ ReportingZones verb _ is (λ e. e) (λ is.
    chosen P word _ LosingPower verb _ is (λ e. e) (λ is.
    chosen P word _ LosingPowerIn verb _ is (λ e. e) (λ is.
    chosen P word _ PoweringOn verb _ is (λ e. e) (λ is. absurd (none-some verb is))))))))))))))))))))))))))))

pub verbs : IsWordKind verb_of verb_name (λ verb. Unit {0})
verbs = record {
  written = λ verb fits. verb-written verb;
  known = λ word verb is. (verb-known word verb is, tt);
  whole = λ verb fits. verb-lacks verb;
}
