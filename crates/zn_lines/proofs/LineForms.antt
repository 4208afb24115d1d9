-- Each form of a line: it is read from its words, and from no other words.
use Rattle.std.proofs.Common.{◌≡◌, ℕ, ◌<◌, ◌≤◌, Bool, true, false, List, [], ◌∷◌, ◌++◌, map, Option, Some, None, Result, Ok, Err, refl, ap, ◌∙◌, subst, arith, append-nil}
use Rattle.std.specs.List.{All}
use Rattle.std.specs.List.Sorted.{IsPermutation}
use Rattle.std.specs.Option.{option_map, option_to_list, IfSome, unwrap_or, is_some}
use Rattle.std.proofs.lemmas.List.Sorted.{All-permutation}
use Rattle.std.specs.Fmt.{decimal}
use Rattle.zn_lines.specs.declared.limits.TheConstants.{LAST_NUMBER}
use Rattle.zn_truth.specs.declared.Command.{Command}
use Rattle.zn_truth.specs.declared.Cond.{Cond}
use Rattle.zn_truth.specs.declared.ZoneNo.{ZoneNo}
use Rattle.zn_model.specs.declared.limits.TheConstants.{MOST_BYTES}
use Rattle.zn_model.specs.declared.handles.Mode.{Mode}
use Rattle.zn_base.specs.Runs.{Run, hex, runs_text}
use Rattle.zn_lines.specs.declared.words.Change.{Change}
use Rattle.zn_lines.specs.declared.words.Change.TheVariants.{Create, Remove, Rename, Chmod, Chown}
use Rattle.zn_lines.specs.declared.words.Verb.{Verb}
use Rattle.zn_lines.specs.declared.words.Verb.TheVariants.{Mkfs as Formatting, Mount as Mounting, Umount as Unmounting, Open, Close, Size, Read, Write, Truncate, Sync, Stat, List as Listing, Attr, Create as Creating, Remove as Removing, Rename as Renaming, Chmod as ChangingMode, Chown as ChangingOwner, Fault, Turn, Submit, Complete as Completing, Reap as Reaping, Zones as ReportingZones, PowerLoss as LosingPower, PowerLossIn as LosingPowerIn, PowerOn as PoweringOn}
use Rattle.zn_lines.specs.Lines.{FormatWords, FormatItem, plain_format, items_of, Line, Mkfs, Mount, Umount, OpenFile, CloseFile, SizeOf, ReadFrom, WriteTo, TruncateTo, SyncFile, SubmitTo, Complete, Reap, StatOf, ListOf, Attributes, Changes, Zones, FaultOn, TurnTo, PowerLoss, PowerLossIn, PowerOn}
use Rattle.zn_base.specs.Decimals.{number_in}
use Rattle.zn_lines.specs.Words.{Left, ◌>>=◌, optional, no_more}
use Rattle.zn_lines.specs.Grammar.{last_offset, last_zone, last_u32, path_of, items_on, uid_key, gid_key, user_after, who_named, done_word, done_in, fill_key, fill_of, cuts_on, mkfs_line, mount_line, umount_line, open_line, close_line, size_line, read_line, write_line, truncate_line, sync_line, stat_line, list_line, attr_line, path_change, rename_line, chmod_line, chown_line, fault_line, turn_line, submit_line, complete_line, reap_line, zones_line, power_loss_line, power_loss_in_line, power_on_line, line_with, verb_name, mode_name, kind_name, worse_name}
use Rattle.zn_lines.specs.LineTexts.{IsPath, AreCuts, item_word, IsItem, user_words, who_words, fill_words, done_words, cut_word, loss_words, line_words, IsReadable, IsChange, AreWords}
use Rattle.zn_lines.proofs.LineWords.{IsWordKind, IsReadFrom, IsOther, next-written, next-known, optional-written, optional-left_out, optional-known, words_if, no_more-written, no_more-known}
use Rattle.zn_lines.proofs.WordKinds.{numbers, paths, modes, kinds, worse_conditions}
use Rattle.zn_lines.proofs.ItemWords.{u32s, uids, gids, gid-no_uid, items-lack, format-read, format-known}
use Rattle.zn_lines.proofs.DataWords.{data_words}
use Rattle.zn_lines.proofs.LossWords.{dones, fills, fill-no_done, cuts-no_done, cuts-no_fill, cuts-lack, cuts-read, cuts-known}

-- ---- the words that lines have

handles : IsWordKind (number_in LAST_NUMBER) decimal (λ n. n ≤ LAST_NUMBER)
handles = numbers LAST_NUMBER (omega arith)

offsets : IsWordKind (number_in last_offset) decimal (λ n. n ≤ last_offset)
offsets = numbers last_offset (omega arith)

zones : IsWordKind (number_in last_zone) decimal (λ n. n ≤ last_zone)
zones = numbers last_zone (omega arith)

lengths : IsWordKind (number_in MOST_BYTES) decimal (λ n. n ≤ MOST_BYTES)
lengths = numbers MOST_BYTES (omega arith)

-- words are those of a line that a script can have
abbrev pub Spells : List (List ℕ) → Line → Type 0
Spells words (Changes change) = IsChange change words
Spells words line = AreWords words line × IsReadable line

-- a verb and the words behind it
abbrev SpellsWith : Verb → Left → Line → Type 0
SpellsWith verb left line = Spells (verb_name verb ∷ left.words) line

-- ---- mkfs, and its items

pub mkfs-written : (asked : FormatWords) (list : List FormatItem) → IsPermutation (items_of asked) list → All IsItem (items_of asked) → IsReadFrom (map item_word list) mkfs_line (Mkfs asked)
unfolding mkfs_line
mkfs-written asked list order fit =
    let fits = All-permutation IsItem _ _ order fit in
    record {
      whole = items-lack list fits;
      reads = λ left are. rw are (ap (λ r. r >>= λ words. Ok (Mkfs words)) (format-read asked list left.column order fits));
    }

mkfs-known : (left : Left) (line : Line) → mkfs_line left ≡ Ok line → SpellsWith Formatting left line
unfolding mkfs_line AreWords IsReadable
mkfs-known left line is = go (items_on plain_format left.column left.words) refl is
  where
    go : (r : Result FormatWords ℕ) → items_on plain_format left.column left.words ≡ r → r >>= (λ words. Ok (Mkfs words)) ≡ Ok line → SpellsWith Formatting left line
    go (Err column) here is = absurd cc
    go (Ok asked) here is =
        let all = format-known left.words asked left.column here in
        let same : Mkfs asked ≡ line = cc in
        subst (SpellsWith Formatting left) same ((all.list, all.order, ap (λ words. verb_name Formatting ∷ words) all.spelled), all.fit)

-- ---- mount, mount OPT

pub mount-written : (text : Option (List ℕ)) → IfSome text IsPath → IsReadFrom (option_to_list text) mount_line (Mount text)
unfolding mount_line
mount-written None fits = optional-left_out path_of [] tt (no_more-written _)
mount-written (Some text) fits = optional-written paths text fits (no_more-written _)

-- the words of an option text
text_words : (text : Option (List ℕ)) → words_if (λ t. t) text ≡ option_to_list text
text_words None = refl
text_words (Some text) = refl

mount-known : (left : Left) (line : Line) → mount_line left ≡ Ok line → SpellsWith Mounting left line
unfolding mount_line line_words AreWords IsReadable
mount-known left line is =
    let text = optional-known paths left _ line is in
    let ended = no_more-known (Mount text.x) line text.rest text.follow in
    let words : left.words ≡ option_to_list text.x = text.words ∙ ap (λ ws. words_if (λ t. t) text.x ++ ws) ended.0 ∙ append-nil _ ∙ text_words text.x in
    subst (SpellsWith Mounting left) ended.1 (ap (λ ws. verb_name Mounting ∷ ws) words, text.fits)

-- ---- umount

pub umount-written : IsReadFrom [] umount_line Umount
unfolding umount_line
umount-written = no_more-written _

umount-known : (left : Left) (line : Line) → umount_line left ≡ Ok line → SpellsWith Unmounting left line
unfolding umount_line line_words AreWords IsReadable
umount-known left line is =
    let ended = no_more-known Umount line left is in
    subst (SpellsWith Unmounting left) ended.1 (ap (λ ws. verb_name Unmounting ∷ ws) ended.0, tt)

-- ---- open N PATH MODE, and who opens

-- What is read behind a mode: a user and a group.
who_of : (Option ℕ → Option ℕ → Line) → Left → Result Line ℕ
who_of make left = do
  uid ← optional (user_after uid_key) left
  gid ← optional (user_after gid_key) uid.1
  no_more (make uid.0 gid.0) gid.1

gid-written : (make : Option ℕ → Option ℕ → Line) (uid gid : Option ℕ) → IfSome gid (λ n. n ≤ last_u32) → IsReadFrom (user_words gid_key gid) (λ left. optional (user_after gid_key) left >>= λ gid. no_more (make uid gid.0) gid.1) (make uid gid)
gid-written make uid None fits = optional-left_out (user_after gid_key) [] tt (no_more-written _)
gid-written make uid (Some n) fits = optional-written gids n fits (no_more-written _)

who-written : (make : Option ℕ → Option ℕ → Line) (uid gid : Option ℕ) → IfSome uid (λ n. n ≤ last_u32) → IfSome gid (λ n. n ≤ last_u32) → IsReadFrom (who_words uid gid) (who_of make) (make uid gid)
unfolding who_of
who-written make (Some n) gid in_uid in_gid = optional-written uids n in_uid (gid-written make (Some n) gid in_gid)
who-written make None None in_uid in_gid = optional-left_out (user_after uid_key) [] tt (gid-written make None None in_gid)
who-written make None (Some n) in_uid in_gid = optional-left_out (user_after uid_key) _ (gid-no_uid n) (gid-written make None (Some n) in_gid)

-- What is known of a user and a group that were read.
record IsWho (make : Option ℕ → Option ℕ → Line) (left : Left) (line : Line) : Type 0 where
  uid : Option ℕ
  gid : Option ℕ
  words : left.words ≡ who_words uid gid
  in_uid : IfSome uid (λ n. n ≤ last_u32)
  in_gid : IfSome gid (λ n. n ≤ last_u32)
  line_is : make uid gid ≡ line

uid_words : (uid : Option ℕ) → words_if (λ n. uid_key ++ decimal n) uid ≡ user_words uid_key uid
uid_words None = refl
uid_words (Some n) = refl

gid_words : (gid : Option ℕ) → words_if (λ n. gid_key ++ decimal n) gid ≡ user_words gid_key gid
gid_words None = refl
gid_words (Some n) = refl

who-known : (make : Option ℕ → Option ℕ → Line) (left : Left) (line : Line) → who_of make left ≡ Ok line → IsWho make left line
unfolding who_of
who-known make left line is =
    let uid = optional-known uids left _ line is in
    let gid = optional-known gids uid.rest _ line uid.follow in
    let ended = no_more-known (make uid.x gid.x) line gid.rest gid.follow in
    let last : uid.rest.words ≡ user_words gid_key gid.x = gid.words ∙ ap (λ ws. words_if (λ n. gid_key ++ decimal n) gid.x ++ ws) ended.0 ∙ append-nil _ ∙ gid_words gid.x in
    record {
      uid = uid.x;
      gid = gid.x;
      words = uid.words ∙ ap (λ ws. words_if (λ n. uid_key ++ decimal n) uid.x ++ ws) last ∙ ap (λ ws. ws ++ user_words gid_key gid.x) (uid_words uid.x);
      in_uid = uid.fits;
      in_gid = gid.fits;
      line_is = ended.1;
    }

-- a number that is left out is 0
named-le : (n : Option ℕ) → unwrap_or n 0 ≤ last_u32 → IfSome n (λ n. n ≤ last_u32)
named-le None fits = tt
named-le (Some n) fits = fits

le-named : (n : Option ℕ) → IfSome n (λ n. n ≤ last_u32) → unwrap_or n 0 ≤ last_u32
le-named None fits = omega arith
le-named (Some n) fits = fits

pub open-written : (number : ℕ) (path : List ℕ) (mode : Mode) (uid gid : Option ℕ) → IsReadable (OpenFile number path mode (who_named uid gid)) → IsReadFrom (decimal number ∷ path ∷ mode_name mode ∷ who_words uid gid) open_line (OpenFile number path mode (who_named uid gid))
unfolding open_line IsReadable who_of
open-written number path mode uid gid fits =
    next-written handles number fits.0 (next-written paths path fits.1 (next-written modes mode fits.2
    (who-written (λ uid gid. OpenFile number path mode (who_named uid gid)) uid gid (named-le uid fits.3) (named-le gid fits.4))))

open-known : (left : Left) (line : Line) → open_line left ≡ Ok line → SpellsWith Open left line
unfolding open_line line_words AreWords IsReadable who_of
open-known left line is =
    let number = next-known handles left _ line is in
    let path = next-known paths number.rest _ line number.follow in
    let mode = next-known modes path.rest _ line path.follow in
    let who = who-known (λ uid gid. OpenFile number.x path.x mode.x (who_named uid gid)) mode.rest line mode.follow in
    subst (SpellsWith Open left) who.line_is
    ((who.uid, who.gid, refl, cc (number.words, path.words, mode.words, who.words)), (number.fits, path.fits, mode.fits, le-named who.uid who.in_uid, le-named who.gid who.in_gid))

-- ---- close N

pub close-written : (number : ℕ) → number ≤ LAST_NUMBER → IsReadFrom (decimal number ∷ []) close_line (CloseFile number)
unfolding close_line
close-written number fits = next-written handles number fits (no_more-written _)

close-known : (left : Left) (line : Line) → close_line left ≡ Ok line → SpellsWith Close left line
unfolding close_line line_words AreWords IsReadable
close-known left line is =
    let number = next-known handles left _ line is in
    let ended = no_more-known (CloseFile number.x) line number.rest number.follow in
    subst (SpellsWith Close left) ended.1 (cc (number.words, ended.0), number.fits)

-- ---- size N

pub size-written : (number : ℕ) → number ≤ LAST_NUMBER → IsReadFrom (decimal number ∷ []) size_line (SizeOf number)
unfolding size_line
size-written number fits = next-written handles number fits (no_more-written _)

size-known : (left : Left) (line : Line) → size_line left ≡ Ok line → SpellsWith Size left line
unfolding size_line line_words AreWords IsReadable
size-known left line is =
    let number = next-known handles left _ line is in
    let ended = no_more-known (SizeOf number.x) line number.rest number.follow in
    subst (SpellsWith Size left) ended.1 (cc (number.words, ended.0), number.fits)

-- ---- read N NUM LEN

pub read-written : (number offset len : ℕ) → IsReadable (ReadFrom number offset len) → IsReadFrom (decimal number ∷ decimal offset ∷ decimal len ∷ []) read_line (ReadFrom number offset len)
unfolding read_line IsReadable
read-written number offset len fits = next-written handles number fits.0 (next-written offsets offset fits.1 (next-written lengths len fits.2 (no_more-written _)))

read-known : (left : Left) (line : Line) → read_line left ≡ Ok line → SpellsWith Read left line
unfolding read_line line_words AreWords IsReadable
read-known left line is =
    let number = next-known handles left _ line is in
    let offset = next-known offsets number.rest _ line number.follow in
    let len = next-known lengths offset.rest _ line offset.follow in
    let ended = no_more-known (ReadFrom number.x offset.x len.x) line len.rest len.follow in
    subst (SpellsWith Read left) ended.1 (cc (number.words, offset.words, len.words, ended.0), (number.fits, offset.fits, len.fits))

-- ---- write N NUM DATA

pub write-written : (number offset : ℕ) (runs : List Run) → IsReadable (WriteTo number offset runs) → IsReadFrom (decimal number ∷ decimal offset ∷ runs_text runs ∷ []) write_line (WriteTo number offset runs)
unfolding write_line IsReadable
write-written number offset runs fits =
    next-written handles number fits.0 (next-written offsets offset fits.1 (next-written data_words runs fits.2 (no_more-written _)))

write-known : (left : Left) (line : Line) → write_line left ≡ Ok line → SpellsWith Write left line
unfolding write_line line_words AreWords IsReadable
write-known left line is =
    let number = next-known handles left _ line is in
    let offset = next-known offsets number.rest _ line number.follow in
    let runs = next-known data_words offset.rest _ line offset.follow in
    let ended = no_more-known (WriteTo number.x offset.x runs.x) line runs.rest runs.follow in
    subst (SpellsWith Write left) ended.1 (cc (number.words, offset.words, runs.words, ended.0), (number.fits, offset.fits, runs.fits))

-- ---- truncate N NUM

pub truncate-written : (number size : ℕ) → IsReadable (TruncateTo number size) → IsReadFrom (decimal number ∷ decimal size ∷ []) truncate_line (TruncateTo number size)
unfolding truncate_line IsReadable
truncate-written number size fits = next-written handles number fits.0 (next-written offsets size fits.1 (no_more-written _))

truncate-known : (left : Left) (line : Line) → truncate_line left ≡ Ok line → SpellsWith Truncate left line
unfolding truncate_line line_words AreWords IsReadable
truncate-known left line is =
    let number = next-known handles left _ line is in
    let size = next-known offsets number.rest _ line number.follow in
    let ended = no_more-known (TruncateTo number.x size.x) line size.rest size.follow in
    subst (SpellsWith Truncate left) ended.1 (cc (number.words, size.words, ended.0), (number.fits, size.fits))

-- ---- sync N

pub sync-written : (number : ℕ) → number ≤ LAST_NUMBER → IsReadFrom (decimal number ∷ []) sync_line (SyncFile number)
unfolding sync_line
sync-written number fits = next-written handles number fits (no_more-written _)

sync-known : (left : Left) (line : Line) → sync_line left ≡ Ok line → SpellsWith Sync left line
unfolding sync_line line_words AreWords IsReadable
sync-known left line is =
    let number = next-known handles left _ line is in
    let ended = no_more-known (SyncFile number.x) line number.rest number.follow in
    subst (SpellsWith Sync left) ended.1 (cc (number.words, ended.0), number.fits)

-- ---- stat PATH

pub stat-written : (path : List ℕ) → IsPath path → IsReadFrom (path ∷ []) stat_line (StatOf path)
unfolding stat_line
stat-written path fits = next-written paths path fits (no_more-written _)

stat-known : (left : Left) (line : Line) → stat_line left ≡ Ok line → SpellsWith Stat left line
unfolding stat_line line_words AreWords IsReadable
stat-known left line is =
    let path = next-known paths left _ line is in
    let ended = no_more-known (StatOf path.x) line path.rest path.follow in
    subst (SpellsWith Stat left) ended.1 (cc (path.words, ended.0), path.fits)

-- ---- list PATH

pub list-written : (path : List ℕ) → IsPath path → IsReadFrom (path ∷ []) list_line (ListOf path)
unfolding list_line
list-written path fits = next-written paths path fits (no_more-written _)

list-known : (left : Left) (line : Line) → list_line left ≡ Ok line → SpellsWith Listing left line
unfolding list_line line_words AreWords IsReadable
list-known left line is =
    let path = next-known paths left _ line is in
    let ended = no_more-known (ListOf path.x) line path.rest path.follow in
    subst (SpellsWith Listing left) ended.1 (cc (path.words, ended.0), path.fits)

-- ---- attr

pub attr-written : IsReadFrom [] attr_line Attributes
unfolding attr_line
attr-written = no_more-written _

attr-known : (left : Left) (line : Line) → attr_line left ≡ Ok line → SpellsWith Attr left line
unfolding attr_line line_words AreWords IsReadable
attr-known left line is =
    let ended = no_more-known Attributes line left is in
    subst (SpellsWith Attr left) ended.1 (ap (λ ws. verb_name Attr ∷ ws) ended.0, tt)

-- ---- create PATH, remove PATH

pub path-written : (change : Change) (path : List ℕ) → IsPath path → IsReadFrom (path ∷ []) (path_change change) (Changes change)
unfolding path_change
path-written change path fits = next-written paths path fits (no_more-written _)

create-known : (left : Left) (line : Line) → path_change Create left ≡ Ok line → SpellsWith Creating left line
unfolding path_change IsChange
create-known left line is =
    let path = next-known paths left _ line is in
    let ended = no_more-known (Changes Create) line path.rest path.follow in
    subst (SpellsWith Creating left) ended.1 (path.x, path.fits, cc (path.words, ended.0))

remove-known : (left : Left) (line : Line) → path_change Remove left ≡ Ok line → SpellsWith Removing left line
unfolding path_change IsChange
remove-known left line is =
    let path = next-known paths left _ line is in
    let ended = no_more-known (Changes Remove) line path.rest path.follow in
    subst (SpellsWith Removing left) ended.1 (path.x, path.fits, cc (path.words, ended.0))

-- ---- rename PATH PATH

pub rename-written : (from to : List ℕ) → IsPath from → IsPath to → IsReadFrom (from ∷ to ∷ []) rename_line (Changes Rename)
unfolding rename_line
rename-written from to is_from is_to = next-written paths from is_from (next-written paths to is_to (no_more-written _))

rename-known : (left : Left) (line : Line) → rename_line left ≡ Ok line → SpellsWith Renaming left line
unfolding rename_line IsChange
rename-known left line is =
    let from = next-known paths left _ line is in
    let to = next-known paths from.rest _ line from.follow in
    let ended = no_more-known (Changes Rename) line to.rest to.follow in
    subst (SpellsWith Renaming left) ended.1 (from.x, to.x, from.fits, to.fits, cc (from.words, to.words, ended.0))

-- ---- chmod PATH U32

pub chmod-written : (path : List ℕ) (mode : ℕ) → IsPath path → mode ≤ last_u32 → IsReadFrom (path ∷ decimal mode ∷ []) chmod_line (Changes Chmod)
unfolding chmod_line
chmod-written path mode is_path within = next-written paths path is_path (next-written u32s mode within (no_more-written _))

chmod-known : (left : Left) (line : Line) → chmod_line left ≡ Ok line → SpellsWith ChangingMode left line
unfolding chmod_line IsChange
chmod-known left line is =
    let path = next-known paths left _ line is in
    let mode = next-known u32s path.rest _ line path.follow in
    let ended = no_more-known (Changes Chmod) line mode.rest mode.follow in
    subst (SpellsWith ChangingMode left) ended.1 (path.x, mode.x, path.fits, mode.fits, cc (path.words, mode.words, ended.0))

-- ---- chown PATH U32 U32

pub chown-written : (path : List ℕ) (uid gid : ℕ) → IsPath path → uid ≤ last_u32 → gid ≤ last_u32 → IsReadFrom (path ∷ decimal uid ∷ decimal gid ∷ []) chown_line (Changes Chown)
unfolding chown_line
chown-written path uid gid is_path in_uid in_gid =
    next-written paths path is_path (next-written u32s uid in_uid (next-written u32s gid in_gid (no_more-written _)))

chown-known : (left : Left) (line : Line) → chown_line left ≡ Ok line → SpellsWith ChangingOwner left line
unfolding chown_line IsChange
chown-known left line is =
    let path = next-known paths left _ line is in
    let uid = next-known u32s path.rest _ line path.follow in
    let gid = next-known u32s uid.rest _ line uid.follow in
    let ended = no_more-known (Changes Chown) line gid.rest gid.follow in
    subst (SpellsWith ChangingOwner left) ended.1 (path.x, uid.x, gid.x, path.fits, uid.fits, gid.fits, cc (path.words, uid.words, gid.words, ended.0))

-- ---- fault NUM KIND, fault NUM KIND U32

pub fault-written : (zone : ℕ) (command : Command) (keep : Option ℕ) → IsReadable (FaultOn zone command keep) → IsReadFrom (decimal zone ∷ kind_name command ∷ option_to_list (option_map decimal keep)) fault_line (FaultOn zone command keep)
unfolding fault_line IsReadable
fault-written zone command None fits =
    next-written zones zone fits.0 (next-written kinds command tt (optional-left_out (number_in last_u32) [] tt (no_more-written _)))
fault-written zone command (Some blocks) fits =
    next-written zones zone fits.0 (next-written kinds command tt (optional-written u32s blocks fits.1 (no_more-written _)))

-- the words of blocks that are kept
keep_words : (keep : Option ℕ) → words_if decimal keep ≡ option_to_list (option_map decimal keep)
keep_words None = refl
keep_words (Some blocks) = refl

fault-known : (left : Left) (line : Line) → fault_line left ≡ Ok line → SpellsWith Fault left line
unfolding fault_line line_words AreWords IsReadable
fault-known left line is =
    let zone = next-known zones left _ line is in
    let command = next-known kinds zone.rest _ line zone.follow in
    let keep = optional-known u32s command.rest _ line command.follow in
    let ended = no_more-known (FaultOn zone.x command.x keep.x) line keep.rest keep.follow in
    let last : command.rest.words ≡ option_to_list (option_map decimal keep.x) = keep.words ∙ ap (λ ws. words_if decimal keep.x ++ ws) ended.0 ∙ append-nil _ ∙ keep_words keep.x in
    subst (SpellsWith Fault left) ended.1 (cc (zone.words, command.words, last), (zone.fits, keep.fits))

-- ---- turn NUM ro, turn NUM off

pub turn-written : (zone : ℕ) (to : Cond) → IsReadable (TurnTo zone to) → IsReadFrom (decimal zone ∷ worse_name to ∷ []) turn_line (TurnTo zone to)
unfolding turn_line IsReadable
turn-written zone to fits = next-written zones zone fits.0 (next-written worse_conditions to fits.1 (no_more-written _))

turn-known : (left : Left) (line : Line) → turn_line left ≡ Ok line → SpellsWith Turn left line
unfolding turn_line line_words AreWords IsReadable
turn-known left line is =
    let zone = next-known zones left _ line is in
    let to = next-known worse_conditions zone.rest _ line zone.follow in
    let ended = no_more-known (TurnTo zone.x to.x) line to.rest to.follow in
    subst (SpellsWith Turn left) ended.1 (cc (zone.words, to.words, ended.0), (zone.fits, to.fits))

-- ---- submit N NUM DATA

pub submit-written : (number offset : ℕ) (runs : List Run) → IsReadable (SubmitTo number offset runs) → IsReadFrom (decimal number ∷ decimal offset ∷ runs_text runs ∷ []) submit_line (SubmitTo number offset runs)
unfolding submit_line IsReadable
submit-written number offset runs fits =
    next-written handles number fits.0 (next-written offsets offset fits.1 (next-written data_words runs fits.2 (no_more-written _)))

submit-known : (left : Left) (line : Line) → submit_line left ≡ Ok line → SpellsWith Submit left line
unfolding submit_line line_words AreWords IsReadable
submit-known left line is =
    let number = next-known handles left _ line is in
    let offset = next-known offsets number.rest _ line number.follow in
    let runs = next-known data_words offset.rest _ line offset.follow in
    let ended = no_more-known (SubmitTo number.x offset.x runs.x) line runs.rest runs.follow in
    subst (SpellsWith Submit left) ended.1 (cc (number.words, offset.words, runs.words, ended.0), (number.fits, offset.fits, runs.fits))

-- ---- complete

pub complete-written : IsReadFrom [] complete_line Complete
unfolding complete_line
complete-written = no_more-written _

complete-known : (left : Left) (line : Line) → complete_line left ≡ Ok line → SpellsWith Completing left line
unfolding complete_line line_words AreWords IsReadable
complete-known left line is =
    let ended = no_more-known Complete line left is in
    subst (SpellsWith Completing left) ended.1 (ap (λ ws. verb_name Completing ∷ ws) ended.0, tt)

-- ---- reap

pub reap-written : IsReadFrom [] reap_line Reap
unfolding reap_line
reap-written = no_more-written _

reap-known : (left : Left) (line : Line) → reap_line left ≡ Ok line → SpellsWith Reaping left line
unfolding reap_line line_words AreWords IsReadable
reap-known left line is =
    let ended = no_more-known Reap line left is in
    subst (SpellsWith Reaping left) ended.1 (ap (λ ws. verb_name Reaping ∷ ws) ended.0, tt)

-- ---- zones

pub zones-written : IsReadFrom [] zones_line Zones
unfolding zones_line
zones-written = no_more-written _

zones-known : (left : Left) (line : Line) → zones_line left ≡ Ok line → SpellsWith ReportingZones left line
unfolding zones_line line_words AreWords IsReadable
zones-known left line is =
    let ended = no_more-known Zones line left is in
    subst (SpellsWith ReportingZones left) ended.1 (ap (λ ws. verb_name ReportingZones ∷ ws) ended.0, tt)

-- ---- power-loss, and what a loss leaves

-- What is read behind `power-loss`: a byte that is filled in, and cuts.
loss_of : (Option ℕ → List (ZoneNo × ℕ) → Line) → Left → Result Line ℕ
loss_of make left = do
  fill ← optional fill_of left
  cuts ← cuts_on [] fill.1.column fill.1.words
  Ok (make fill.0 cuts)

cuts-written : (make : List (ZoneNo × ℕ) → Line) (cuts : List (ZoneNo × ℕ)) → AreCuts cuts → IsReadFrom (map cut_word cuts) (λ left. cuts_on [] left.column left.words >>= λ cuts. Ok (make cuts)) (make cuts)
cuts-written make cuts fit =
    record {
      whole = cuts-lack cuts fit.0;
      reads = λ left are. rw are (ap (λ r. r >>= λ cuts. Ok (make cuts)) (cuts-read cuts left.column fit));
    }

loss-written : (make : Option ℕ → List (ZoneNo × ℕ) → Line) (fill : Option ℕ) (cuts : List (ZoneNo × ℕ)) → IfSome fill (λ byte. byte < 256) → AreCuts cuts → IsReadFrom (loss_words fill cuts) (loss_of make) (make fill cuts)
unfolding loss_of
loss-written make None cuts fits fit = optional-left_out fill_of (map cut_word cuts) (cuts-no_fill cuts fit.0) (cuts-written (make None) cuts fit)
loss-written make (Some byte) cuts fits fit = optional-written fills byte fits (cuts-written (make (Some byte)) cuts fit)

-- What is known of a loss that was read.
record IsLoss (make : Option ℕ → List (ZoneNo × ℕ) → Line) (left : Left) (line : Line) : Type 0 where
  fill : Option ℕ
  cuts : List (ZoneNo × ℕ)
  words : left.words ≡ loss_words fill cuts
  in_byte : IfSome fill (λ byte. byte < 256)
  are_cuts : AreCuts cuts
  line_is : make fill cuts ≡ line

written_fill : (fill : Option ℕ) → words_if (λ byte. fill_key ++ hex byte) fill ≡ fill_words fill
written_fill None = refl
written_fill (Some byte) = refl

loss-known : (make : Option ℕ → List (ZoneNo × ℕ) → Line) (left : Left) (line : Line) → loss_of make left ≡ Ok line → IsLoss make left line
unfolding loss_of
loss-known make left line is =
    let fill = optional-known fills left _ line is in
    go fill.x fill.rest (fill.words ∙ ap (λ ws. ws ++ fill.rest.words) (written_fill fill.x)) fill.fits (cuts_on [] fill.rest.column fill.rest.words) refl fill.follow
  where
    go : (fill : Option ℕ) (rest : Left) → left.words ≡ fill_words fill ++ rest.words → IfSome fill (λ byte. byte < 256) → (r : Result (List (ZoneNo × ℕ)) ℕ) → cuts_on [] rest.column rest.words ≡ r
        → r >>= (λ cuts. Ok (make fill cuts)) ≡ Ok line → IsLoss make left line
    go fill rest words fits (Err column) here is = absurd cc
    go fill rest words fits (Ok cuts) here is =
        let known = cuts-known rest.words cuts rest.column here in
        record { fill = fill; cuts = cuts; words = words ∙ ap (λ ws. fill_words fill ++ ws) known.0; in_byte = fits; are_cuts = known.1; line_is = cc }

pub power_loss-written : (fill : Option ℕ) (cuts : List (ZoneNo × ℕ)) → IsReadable (PowerLoss fill cuts) → IsReadFrom (loss_words fill cuts) power_loss_line (PowerLoss fill cuts)
unfolding power_loss_line IsReadable loss_of
power_loss-written fill cuts fits = loss-written PowerLoss fill cuts fits.0 fits.1

power_loss-known : (left : Left) (line : Line) → power_loss_line left ≡ Ok line → SpellsWith LosingPower left line
unfolding power_loss_line line_words AreWords IsReadable loss_of
power_loss-known left line is =
    let loss = loss-known PowerLoss left line is in
    subst (SpellsWith LosingPower left) loss.line_is (ap (λ ws. verb_name LosingPower ∷ ws) loss.words, (loss.in_byte, loss.are_cuts))

-- ---- power-loss-in NUM KIND, and what the loss leaves

-- no word of a loss is `done`
loss-no_done : (fill : Option ℕ) (cuts : List (ZoneNo × ℕ)) → AreCuts cuts → IsOther done_in (loss_words fill cuts)
loss-no_done None cuts fit = cuts-no_done cuts fit.0
loss-no_done (Some byte) cuts fit = fill-no_done byte

pub power_loss_in-written : (zone : ℕ) (command : Command) (carried_out : Bool) (fill : Option ℕ) (cuts : List (ZoneNo × ℕ)) → IsReadable (PowerLossIn zone command carried_out fill cuts)
    → IsReadFrom (decimal zone ∷ kind_name command ∷ (done_words carried_out ++ loss_words fill cuts)) power_loss_in_line (PowerLossIn zone command carried_out fill cuts)
unfolding power_loss_in_line IsReadable loss_of
power_loss_in-written zone command true fill cuts fits =
    next-written zones zone fits.0 (next-written kinds command tt (optional-written dones tt tt (loss-written (PowerLossIn zone command true) fill cuts fits.1 fits.2)))
power_loss_in-written zone command false fill cuts fits =
    next-written zones zone fits.0 (next-written kinds command tt (optional-left_out done_in (loss_words fill cuts) (loss-no_done fill cuts fits.2) (loss-written (PowerLossIn zone command false) fill cuts fits.1 fits.2)))

written_done : (x : Option (Unit {0})) → words_if (λ x. done_word) x ≡ done_words (is_some x)
written_done None = refl
written_done (Some x) = refl

power_loss_in-known : (left : Left) (line : Line) → power_loss_in_line left ≡ Ok line → SpellsWith LosingPowerIn left line
unfolding power_loss_in_line line_words AreWords IsReadable loss_of
power_loss_in-known left line is =
    let zone = next-known zones left _ line is in
    let command = next-known kinds zone.rest _ line zone.follow in
    let carried_out = optional-known dones command.rest _ line command.follow in
    let loss = loss-known (PowerLossIn zone.x command.x (is_some carried_out.x)) carried_out.rest line carried_out.follow in
    let last : command.rest.words ≡ done_words (is_some carried_out.x) ++ loss_words loss.fill loss.cuts =
    carried_out.words ∙ ap (λ ws. ws ++ carried_out.rest.words) (written_done carried_out.x) ∙ ap (λ ws. done_words (is_some carried_out.x) ++ ws) loss.words in
    subst (SpellsWith LosingPowerIn left) loss.line_is (cc (zone.words, command.words, last), (zone.fits, loss.in_byte, loss.are_cuts))

-- ---- power-on

pub power_on-written : IsReadFrom [] power_on_line PowerOn
unfolding power_on_line
power_on-written = no_more-written _

power_on-known : (left : Left) (line : Line) → power_on_line left ≡ Ok line → SpellsWith PoweringOn left line
unfolding power_on_line line_words AreWords IsReadable
power_on-known left line is =
    let ended = no_more-known PowerOn line left is in
    subst (SpellsWith PoweringOn left) ended.1 (ap (λ ws. verb_name PoweringOn ∷ ws) ended.0, tt)

-- ---- what follows a verb

-- what is read behind a verb spells its line
pub line_with-known : (verb : Verb) (left : Left) (line : Line) → line_with verb left ≡ Ok line → SpellsWith verb left line
line_with-known Formatting left line is = mkfs-known left line is
line_with-known Mounting left line is = mount-known left line is
line_with-known Unmounting left line is = umount-known left line is
line_with-known Open left line is = open-known left line is
line_with-known Close left line is = close-known left line is
line_with-known Size left line is = size-known left line is
line_with-known Read left line is = read-known left line is
line_with-known Write left line is = write-known left line is
line_with-known Truncate left line is = truncate-known left line is
line_with-known Sync left line is = sync-known left line is
line_with-known Stat left line is = stat-known left line is
line_with-known Listing left line is = list-known left line is
line_with-known Attr left line is = attr-known left line is
line_with-known Creating left line is = create-known left line is
line_with-known Removing left line is = remove-known left line is
line_with-known Renaming left line is = rename-known left line is
line_with-known ChangingMode left line is = chmod-known left line is
line_with-known ChangingOwner left line is = chown-known left line is
line_with-known Fault left line is = fault-known left line is
line_with-known Turn left line is = turn-known left line is
line_with-known Submit left line is = submit-known left line is
line_with-known Completing left line is = complete-known left line is
line_with-known Reaping left line is = reap-known left line is
line_with-known ReportingZones left line is = zones-known left line is
line_with-known LosingPower left line is = power_loss-known left line is
line_with-known LosingPowerIn left line is = power_loss_in-known left line is
line_with-known PoweringOn left line is = power_on-known left line is
