-- A line is read from its text alone.
use Rattle.std.proofs.Common.{◌≡◌, ℕ, Bool, true, false, cond, eqb, List, [], ◌∷◌, Some, None, Result, Ok, Err, refl, ap, sym, ◌∙◌, subst, arith}
use Rattle.std.specs.List.{slice_split, onto_first}
use Rattle.std.specs.Option.{unwrap_or}
use Rattle.std.proofs.lemmas.Bool.Decides.{nat_tests}
use Rattle.std.proofs.lemmas.List.Sorted.{IsPermutation-refl}
use Rattle.zn_model.specs.declared.handles.Who.{Who}
use Rattle.std.proofs.lemmas.Bool.{eqb-true, cond-false, false_from_ne_true}
use Rattle.zn_lines.specs.declared.words.Change.{Change}
use Rattle.zn_lines.specs.declared.words.Change.TheVariants.{Create, Remove, Rename, Chmod, Chown}
use Rattle.zn_lines.specs.declared.words.Verb.{Verb}
use Rattle.zn_lines.specs.declared.words.Verb.TheVariants.{Mkfs as Formatting, Mount as Mounting, Umount as Unmounting, Open, Close, Size, Read, Write, Truncate, Sync, Stat, List as Listing, Attr, Create as Creating, Remove as Removing, Rename as Renaming, Chmod as ChangingMode, Chown as ChangingOwner, Fault, Turn, Submit, Complete as Completing, Reap as Reaping, Zones as ReportingZones, PowerLoss as LosingPower, PowerLossIn as LosingPowerIn, PowerOn as PoweringOn}
use Rattle.zn_lines.specs.Lines.{items_of, Line, Mkfs, Mount, Umount, OpenFile, CloseFile, SizeOf, ReadFrom, WriteTo, TruncateTo, SyncFile, SubmitTo, Complete, Reap, StatOf, ListOf, Attributes, Changes, Zones, FaultOn, TurnTo, PowerLoss, PowerLossIn, PowerOn}
use Rattle.zn_lines.specs.Words.{is_blank, ◌>>=◌, next, next_of, words_of}
use Rattle.zn_lines.specs.Grammar.{who_named, verb_of, line_with, line_of, some_line, reading_of, verb_name}
use Rattle.zn_lines.specs.LineTexts.{unless_zero, line_words, IsReadable, IsChange, AreWords, spaced, line_text, IsText}
use Rattle.zn_lines.specs.LineLaws.{WrittenIsRead, ReadIsWritten, TextIsRead, ReadingIsLine}
use Rattle.zn_lines.proofs.Separated.{slice_split-join, join-slice_split}
use Rattle.zn_lines.proofs.LineWords.{IsReadFrom, next-written, next-known}
use Rattle.zn_lines.proofs.WordKinds.{verbs}
use Rattle.zn_lines.proofs.LineForms.{Spells, mkfs-written, mount-written, umount-written, open-written, close-written, size-written, read-written, write-written, truncate-written, sync-written, stat-written, list-written, attr-written, path-written, rename-written, chmod-written, chown-written, fault-written, turn-written, submit-written, complete-written, reap-written, zones-written, power_loss-written, power_loss_in-written, power_on-written, line_with-known}

-- ---- what is written is read

-- a line is read from the text of a verb and of the words from which what follows the verb is read
line-written : (verb : Verb) {words : List (List ℕ)} {line : Line} → IsReadFrom words (line_with verb) line → (bytes : List ℕ) → bytes ≡ spaced (verb_name verb ∷ words) → line_of bytes ≡ Ok line
unfolding line_of
line-written verb {words} {line} further bytes are =
    let all : IsReadFrom (verb_name verb ∷ words) (λ left. next verb_of left >>= λ v. line_with v.0 v.1) line = next-written verbs verb tt further in
    all.reads (words_of bytes) (ap (slice_split is_blank) are ∙ slice_split-join 32 (verb_name verb) words all.whole)

change-written : (change : Change) (words : List (List ℕ)) → IsChange change words → (bytes : List ℕ) → bytes ≡ spaced words → line_of bytes ≡ Ok (Changes change)
unfolding IsChange
change-written Create words is bytes are = line-written Creating (path-written Create is.0 is.1) bytes (are ∙ ap spaced is.2)
change-written Remove words is bytes are = line-written Removing (path-written Remove is.0 is.1) bytes (are ∙ ap spaced is.2)
change-written Rename words is bytes are = line-written Renaming (rename-written is.0 is.1 is.2 is.3) bytes (are ∙ ap spaced is.4)
change-written Chmod words is bytes are = line-written ChangingMode (chmod-written is.0 is.1 is.2 is.3) bytes (are ∙ ap spaced is.4)
change-written Chown words is bytes are = line-written ChangingOwner (chown-written is.0 is.1 is.2 is.3 is.4 is.5) bytes (are ∙ ap spaced is.6)

-- words of a line that keeps them are read as that line
words-read : (words : List (List ℕ)) (line : Line) → AreWords words line → IsReadable line → (bytes : List ℕ) → bytes ≡ spaced words → line_of bytes ≡ Ok line
unfolding line_words IsReadable AreWords
words-read words (Mkfs asked) are fits bytes is = line-written Formatting (mkfs-written asked are.0 are.1 fits) bytes (is ∙ ap spaced are.2)
words-read words (Mount text) are fits bytes is = line-written Mounting (mount-written text fits) bytes (is ∙ ap spaced are)
words-read words Umount are fits bytes is = line-written Unmounting umount-written bytes (is ∙ ap spaced are)
words-read words (OpenFile number path mode who) are fits bytes is =
    let Fits : Who → Type 0 = λ who. IsReadable (OpenFile number path mode who) in
    line-written Open (open-written number path mode are.0 are.1 (subst Fits are.2 fits)) bytes (is ∙ ap spaced are.3) ∙ ap (λ who. Ok (OpenFile number path mode who)) (sym are.2)
words-read words (CloseFile number) are fits bytes is = line-written Close (close-written number fits) bytes (is ∙ ap spaced are)
words-read words (SizeOf number) are fits bytes is = line-written Size (size-written number fits) bytes (is ∙ ap spaced are)
words-read words (ReadFrom number offset len) are fits bytes is = line-written Read (read-written number offset len fits) bytes (is ∙ ap spaced are)
words-read words (WriteTo number offset runs) are fits bytes is = line-written Write (write-written number offset runs fits) bytes (is ∙ ap spaced are)
words-read words (TruncateTo number size) are fits bytes is = line-written Truncate (truncate-written number size fits) bytes (is ∙ ap spaced are)
words-read words (SyncFile number) are fits bytes is = line-written Sync (sync-written number fits) bytes (is ∙ ap spaced are)
words-read words (StatOf path) are fits bytes is = line-written Stat (stat-written path fits) bytes (is ∙ ap spaced are)
words-read words (ListOf path) are fits bytes is = line-written Listing (list-written path fits) bytes (is ∙ ap spaced are)
words-read words Attributes are fits bytes is = line-written Attr attr-written bytes (is ∙ ap spaced are)
words-read words (FaultOn zone command keep) are fits bytes is = line-written Fault (fault-written zone command keep fits) bytes (is ∙ ap spaced are)
words-read words (TurnTo zone to) are fits bytes is = line-written Turn (turn-written zone to fits) bytes (is ∙ ap spaced are)
words-read words (SubmitTo number offset runs) are fits bytes is = line-written Submit (submit-written number offset runs fits) bytes (is ∙ ap spaced are)
words-read words Complete are fits bytes is = line-written Completing complete-written bytes (is ∙ ap spaced are)
words-read words Reap are fits bytes is = line-written Reaping reap-written bytes (is ∙ ap spaced are)
words-read words Zones are fits bytes is = line-written ReportingZones zones-written bytes (is ∙ ap spaced are)
words-read words (PowerLoss fill cuts) are fits bytes is = line-written LosingPower (power_loss-written fill cuts fits) bytes (is ∙ ap spaced are)
words-read words (PowerLossIn zone command carried_out fill cuts) are fits bytes is =
    line-written LosingPowerIn (power_loss_in-written zone command carried_out fill cuts fits) bytes (is ∙ ap spaced are)
words-read words PowerOn are fits bytes is = line-written PoweringOn power_on-written bytes (is ∙ ap spaced are)
words-read words (Changes change) are fits bytes is = absurd fits

pub written_is_read : WrittenIsRead
unfolding IsText
written_is_read bytes (Changes change) is = change-written change is.0 is.1 bytes is.2
written_is_read bytes line is = words-read is.0 line is.1 is.2 bytes is.3

-- who opens is known by the user and the group
who_of : (who : Who) → who.uid ≡ unwrap_or (unless_zero who.uid) 0 → who.gid ≡ unwrap_or (unless_zero who.gid) 0 → who ≡ who_named (unless_zero who.uid) (unless_zero who.gid)
who_of who uid gid =
    let make : ℕ → ℕ → Who = λ uid gid. record { uid = uid; gid = gid } in
    let both : make who.uid who.gid ≡ make (unwrap_or (unless_zero who.uid) 0) (unwrap_or (unless_zero who.gid) 0) = cc in
    both

-- a number is that which it is left out for, or written as
unless_zero-is : (n : ℕ) → n ≡ unwrap_or (unless_zero n) 0
unless_zero-is n = grind (arith, nat_tests)

plain-words : (line : Line) → IsReadable line → AreWords (line_words line) line
unfolding line_words AreWords IsReadable
plain-words (Mkfs asked) fits = (items_of asked, IsPermutation-refl _, refl)
plain-words (OpenFile number path mode who) fits =
    (unless_zero who.uid, unless_zero who.gid, who_of who (unless_zero-is who.uid) (unless_zero-is who.gid), refl)
plain-words (Changes change) fits = absurd fits
plain-words line fits = refl

pub text_is_read : TextIsRead
text_is_read line fits = words-read (line_words line) line (plain-words line fits) fits (line_text line) refl

-- ---- what is read was written

spelled-text : (bytes : List ℕ) (line : Line) → Spells (slice_split is_blank bytes) line → IsText bytes line
unfolding IsText
spelled-text bytes (Changes change) is = (slice_split is_blank bytes, is, join-slice_split 32 bytes _ refl)
spelled-text bytes line is = (slice_split is_blank bytes, is.0, is.1, join-slice_split 32 bytes _ refl)

pub read_is_written : ReadIsWritten
unfolding line_of
read_is_written bytes line is =
    let verb = next-known verbs (words_of bytes) _ line is in
    let Spelled : List (List ℕ) → Type 0 = λ words. Spells words line in
    spelled-text bytes line (subst Spelled (sym verb.words) (line_with-known verb.x verb.rest line verb.follow))

-- ---- comments

some_line-known : (test : Bool) (read : Result Line ℕ) (line : Line) → cond test (Ok None) (some_line read) ≡ Ok (Some line) → read ≡ Ok line
some_line-known true read line is = absurd cc
some_line-known false (Ok found) line is = cc
some_line-known false (Err column) line is = absurd cc

reading-line : (bytes : List ℕ) (line : Line) → reading_of bytes ≡ Ok (Some line) → line_of bytes ≡ Ok line
unfolding reading_of
reading-line [] line is = absurd cc
reading-line (b ∷ bytes) line is = some_line-known (eqb b 35) (line_of (b ∷ bytes)) line is

-- no verb begins as a comment does
comment-refused : (words : List (List ℕ)) (line : Line) → next_of verb_of 1 (onto_first 35 words) >>= (λ v. line_with v.0 v.1) ≡ Ok line → ⊥
unfolding verb_of
comment-refused [] line is = cc
comment-refused (word ∷ words) line is = cc

line-reading : (bytes : List ℕ) (line : Line) → line_of bytes ≡ Ok line → reading_of bytes ≡ Ok (Some line)
unfolding line_of verb_of reading_of
line-reading [] line is = absurd cc
line-reading (b ∷ bytes) line is =
    let Reads : ℕ → Type 0 = λ b. line_of (b ∷ bytes) ≡ Ok line in
    let other : eqb b 35 ≡ true → ⊥ = λ e. comment-refused (slice_split is_blank bytes) line (subst Reads (eqb-true b 35 e) is) in
    cond-false (eqb b 35) _ _ (false_from_ne_true _ other) ∙ ap some_line is

pub reading_is_line : ReadingIsLine
reading_is_line bytes line = (reading-line bytes line, line-reading bytes line)
