-- Blocks of a file are filled with a byte, one after another.
use Rattle.std.proofs.Common.{◌≡◌, ℕ, zero, suc, ◌+◌, ◌-◌, ◌*◌, ◌<◌, ◌≤◌, Bool, true, false, List, ◌++◌, length, take, drop, replicate, get_or, Option, Some, None, Ok, Err, refl, sym, ap, ◌∙◌, subst, arith, append_assoc, add-zero}
use Rattle.std.specs.Prelude.{IsSome, ⊤}
use Rattle.std.specs.Option.{option_map}
use Rattle.std.proofs.lemmas.List.{length-append, length-take, length-take-le, length-drop, length-replicate, replicate-append-replicate, take_at, take_all, append-nil, get_or_default}
use Rattle.std.proofs.lemmas.Option.{same_Some}
use Rattle.zn_truth.specs.declared.DevError.{DevError}
use Rattle.zn_truth.specs.Orders.{Reply, replaced}
use Rattle.zn_truth.specs.Power.{with_fill, with_filled_blocks}
use Rattle.zn_device.proofs.Bytes.{block_stays, block_fills, blocks_done}
use Rattle.zn_stand.specs.File.{File, at_rest, written, resized, synced}
use Rattle.zn_stand.specs.Maps.{Name}
use Rattle.zn_stand.specs.Directory.{Directory, file_at}
use Rattle.zn_files.specs.States.{FilesState, directory, WhereTold}
use Rattle.zn_zloop.specs.Served.{IsThere, ChangedWhereTold, Served}
use Rattle.zn_zloop.specs.Settled.{block_of, BytesBecame, synced_with, block_put}
use Rattle.zn_zloop.proofs.Serving.{served_failed, served_then, still_there, map_then}

-- ---- bytes

pub length-block_of : (byte : ℕ) → length (block_of byte) ≡ 4096
unfolding block_of
length-block_of byte = length-replicate 4096 byte

block_more : (byte m : ℕ) → block_of byte ++ replicate m byte ≡ replicate (4096 + m) byte
unfolding block_of
block_more byte m = replicate-append-replicate 4096 m byte

block_part : (byte n : ℕ) → block_of byte ≡ replicate (4096 * n + 4096 - 4096 * n) byte
unfolding block_of
block_part byte n = let e : 4096 ≡ 4096 * n + 4096 - 4096 * n = omega arith in ap (λ k. replicate k byte) e

length-replaced : (b : List ℕ) (at : ℕ) (new : List ℕ) → at + length new ≤ length b → length (replaced b at new) ≡ length b
length-replaced b at new fits =
    length-append (take at b ++ new) (drop (at + length new) b)
    ∙ omega (arith, length-append (take at b) new, length-take-le at b (omega arith), length-drop (at + length new) b)

-- a block filled, and all behind it filled, is all from it on filled
fill_more : (byte k : ℕ) (b : List ℕ) → 4096 * (k + 1) ≤ length b → with_fill (Some byte) (k + 1) (replaced b (4096 * k) (block_of byte)) ≡ with_fill (Some byte) k b
fill_more byte k b fits =
    let size = length-block_of byte in
    let front = take (4096 * k) b ++ block_of byte in
    let tail = drop (4096 * k + length (block_of byte)) b in
    let new = replaced b (4096 * k) (block_of byte) in
    let long : length front ≡ 4096 * (k + 1) = omega (arith, length-append (take (4096 * k) b) (block_of byte), length-take-le (4096 * k) b (omega arith), size) in
    let same : length new ≡ length b = length-replaced b (4096 * k) (block_of byte) (omega (arith, size)) in
    let less : length new - 4096 * (k + 1) ≡ length b - 4096 * (k + 1) = ap (λ n. n - 4096 * (k + 1)) same in
    let rest : 4096 + (length b - 4096 * (k + 1)) ≡ length b - 4096 * k = omega arith in
    ap (λ m. take (4096 * (k + 1)) new ++ replicate m byte) less
    ∙ ap (λ first. first ++ replicate (length b - 4096 * (k + 1)) byte) (take_at front tail (4096 * (k + 1)) long)
    ∙ append_assoc (take (4096 * k) b) (block_of byte) (replicate (length b - 4096 * (k + 1)) byte)
    ∙ ap (λ r. take (4096 * k) b ++ r) (block_more byte (length b - 4096 * (k + 1)) ∙ ap (λ m. replicate m byte) rest)

-- behind the end there is nothing to fill
pub fill_past : (fill : Option ℕ) (k : ℕ) (b : List ℕ) → length b ≤ 4096 * k → with_fill fill k b ≡ b
fill_past None k b past = refl
fill_past (Some byte) k b past =
    let none : length b - 4096 * k ≡ 0 = omega arith in
    ap (λ first. first ++ replicate (length b - 4096 * k) byte) (take_all (4096 * k) b past) ∙ ap (λ m. b ++ replicate m byte) none ∙ append-nil b

pub length-resized : (f : File) (n : ℕ) → length (resized f n).bytes ≡ n
length-resized f n =
    length-append (take n f.bytes) (replicate (n - length f.bytes) 0)
    ∙ omega (arith, length-take n f.bytes, length-replicate {A = ℕ} (n - length f.bytes) 0)

-- ---- blocks from one on

-- the file with a byte in place of each of so many blocks, from one on
abbrev pub blocks_filled : ℕ → ℕ → ℕ → File → File
blocks_filled byte from zero f = f
blocks_filled byte from (suc n) f = written (blocks_filled byte from n f) (4096 * (from + n)) (block_of byte)

length-blocks_filled : (byte from n : ℕ) (f : File) → 4096 * (from + n) ≤ length f.bytes → length (blocks_filled byte from n f).bytes ≡ length f.bytes
length-blocks_filled byte from zero f fits = refl
length-blocks_filled byte from (suc n) f fits =
    let before : length (blocks_filled byte from n f).bytes ≡ length f.bytes = length-blocks_filled byte from n f (omega arith) in
    length-replaced (blocks_filled byte from n f).bytes (4096 * (from + n)) (block_of byte) (omega (arith, length-block_of byte)) ∙ before

fill_rest : (byte from n : ℕ) (f : File) → 4096 * (from + n) ≤ length f.bytes → with_fill (Some byte) (from + n) (blocks_filled byte from n f).bytes ≡ with_fill (Some byte) from f.bytes
fill_rest byte from zero f fits = ap (λ k. with_fill (Some byte) k f.bytes) (add-zero from)
fill_rest byte from (suc n) f fits =
    let b = (blocks_filled byte from n f).bytes in
    let more : from + suc n ≡ (from + n) + 1 = omega arith in
    ap (λ k. with_fill (Some byte) k (replaced b (4096 * (from + n)) (block_of byte))) more
    ∙ fill_more byte (from + n) b (omega (arith, length-blocks_filled byte from n f (omega arith)))
    ∙ fill_rest byte from n f (omega arith)

filled_is : (byte from to : ℕ) (f : File) → from ≤ to → length f.bytes ≡ 4096 * to → (blocks_filled byte from (to - from) f).bytes ≡ with_fill (Some byte) from f.bytes
filled_is byte from to f order size =
    let whole : from + (to - from) ≡ to = omega arith in
    let fits : 4096 * (from + (to - from)) ≤ length f.bytes = omega arith in
    sym (fill_past (Some byte) (from + (to - from)) (blocks_filled byte from (to - from) f).bytes (omega (arith, length-blocks_filled byte from (to - from) f fits)))
    ∙ fill_rest byte from (to - from) f fits

-- ---- calls on a file

-- what calls do where the file was so
served_as : (name : Name) (R S : Option File → Option File → Type 0) (P : List ℕ → Type 0) (reply : Reply) (s t : FilesState) → WhereTold s name P → ((o p : Option File) → ((f : File) → o ≡ Some f → P f.bytes) → R o p → S o p)
    → Served name R reply s t → Served name S reply s t
served_as name R S P reply s t told each h = record {
  done = h.done;
  changed = λ answered. change (directory s) (directory t) refl (h.changed answered);
  told = h.told;
  cause = h.cause;
}
  where
    change : (o e : Option Directory) → directory s ≡ o → ChangedWhereTold name R o e → ChangedWhereTold name S o e
    change None None is c = tt
    change None (Some e) is c = absurd c
    change (Some d) None is c = absurd c
    change (Some d) (Some e) is c = record { file = each (file_at d name) (file_at e name) (λ f there. told d f is there) c.file; others = c.others }

-- no call
served_none : (name : Name) (R : Option File → Option File → Type 0) (s : FilesState) → ((o : Option File) → R o o) → Served name R (Ok tt) s s
served_none name R s same = record {
  done = λ answered. refl;
  changed = λ answered. still (directory s);
  told = refl;
  cause = record { later = omega arith; broken = λ is. absurd (cc is); whole = λ answered. refl };
}
  where
    still : (o : Option Directory) → ChangedWhereTold name R o o
    still None = tt
    still (Some d) = record { file = same (file_at d name); others = λ q apart. refl }

map_none : (o : Option File) → o ≡ option_map (λ f. f) o
map_none None = refl
map_none (Some f) = refl

-- where the file is told, what its bytes then keep to
map_within : (name : Name) (g : File → File) (P Q : List ℕ → Type 0) (s t : FilesState) → WhereTold s name P → ((f : File) → P f.bytes → Q (g f).bytes) → Served name (λ o p. p ≡ option_map g o) (Ok tt) s t → WhereTold t name Q
map_within name g P Q s t told each h = λ d f is there. at (directory s) (directory t) refl is there (h.changed refl)
  where
    of : {f : File} (o : Option File) → ((x : File) → o ≡ Some x → P x.bytes) → Some f ≡ option_map g o → Q f.bytes
    of None all is = absurd (cc)
    of {f} (Some x) all is = subst (λ (y : File). Q y.bytes) (sym (same_Some f (g x) is)) (each x (all x refl))

    at : {d : Directory} {f : File} (o e : Option Directory) → directory s ≡ o → e ≡ Some d → file_at d name ≡ Some f → ChangedWhereTold name (λ a b. b ≡ option_map g a) o e → Q f.bytes
    at None None old new there c = absurd (cc)
    at None (Some e) old new there c = absurd c
    at (Some b) None old new there c = absurd c
    at {d} {f} (Some b) (Some e) old new there c =
        of {f = f} (file_at b name) (λ x is. told b x old is) (sym (ap (λ (y : Directory). file_at y name) (same_Some e d new) ∙ there) ∙ c.file)

-- ---- what became of the bytes

became_map : (g : File → File) (change : List ℕ → List ℕ) (P : List ℕ → Type 0) → ((f : File) → P f.bytes → (g f).bytes ≡ change f.bytes) → (o p : Option File) → ((f : File) → o ≡ Some f → P f.bytes) → p ≡ option_map g o → BytesBecame change o p
became_map g change P each None p all is = ap (option_map (λ (f : File). f.bytes)) is
became_map g change P each (Some f) p all is = ap (option_map (λ (x : File). x.bytes)) is ∙ ap Some (each f (all f refl))

became_there : (change : List ℕ → List ℕ) (o p : Option File) → IsSome o → BytesBecame change o p → IsSome p
became_there change None p some is = absurd (cc)
became_there change (Some f) None some is = absurd (cc)
became_there change (Some f) (Some x) some is = refl

became_synced : (change : List ℕ → List ℕ) (o p q : Option File) → BytesBecame change o p → q ≡ option_map synced p → q ≡ option_map (synced_with change) o
became_synced change None None q was is = is
became_synced change None (Some x) q was is = absurd (cc)
became_synced change (Some f) None q was is = absurd (cc)
became_synced change (Some f) (Some x) q was is = is ∙ ap (λ bytes. Some (at_rest bytes)) (same_Some x.bytes (change f.bytes) was)

pub none_became : (name : Name) (change : List ℕ → List ℕ) (s : FilesState) → ((b : List ℕ) → b ≡ change b) → Served name (BytesBecame change) (Ok tt) s s
none_became name change s same = served_none name (BytesBecame change) s none
  where
    none : (o : Option File) → BytesBecame change o o
    none None = refl
    none (Some f) = ap Some (same f.bytes)

pub still_became : (name : Name) (change : List ℕ → List ℕ) (s m : FilesState) → IsThere s name → Served name (BytesBecame change) (Ok tt) s m → IsThere m name
still_became name change s m is h = still_there name (BytesBecame change) s m (became_there change) is h

pub then_synced : (name : Name) (change : List ℕ → List ℕ) (reply : Reply) (s m t : FilesState) → Served name (BytesBecame change) (Ok tt) s m → Served name (λ o p. p ≡ option_map synced o) reply m t
    → Served name (λ o p. p ≡ option_map (synced_with change) o) reply s t
then_synced name change reply s m t h k =
    served_then name (BytesBecame change) (λ o p. p ≡ option_map synced o) (λ o p. p ≡ option_map (synced_with change) o) reply s m t (became_synced change) h k

-- calls that fail after others
pub became_failed : (name : Name) (change : List ℕ → List ℕ) (f g : File → File) (error : DevError) (r : Reply) (s m t : FilesState) → r ≡ Err error → Served name (λ o p. p ≡ option_map f o) (Ok tt) s m
    → Served name (λ o p. p ≡ option_map g o) (Err error) m t → Served name (BytesBecame change) r s t
became_failed name change f g error r s m t is h k =
    subst (λ (x : Reply). Served name (BytesBecame change) x s t) (sym is)
    (served_failed name (λ o p. p ≡ option_map (λ x. g (f x)) o) (BytesBecame change) error s t (map_then name f g (Err error) s m t h k))

-- calls that fail before others
pub became_broken : (name : Name) (change : List ℕ → List ℕ) (error : DevError) (r : Reply) (s t : FilesState) → r ≡ Err error → Served name (BytesBecame change) (Err error) s t → Served name (λ o p. p ≡ option_map (synced_with change) o) r s t
became_broken name change error r s t is h =
    subst (λ (x : Reply). Served name (λ o p. p ≡ option_map (synced_with change) o) x s t) (sym is)
    (served_failed name (BytesBecame change) (λ o p. p ≡ option_map (synced_with change) o) error s t h)

pub map_broken : (name : Name) (f g : File → File) (error : DevError) (r : Reply) (s t : FilesState) → r ≡ Err error → Served name (λ o p. p ≡ option_map f o) (Err error) s t → Served name (λ o p. p ≡ option_map g o) r s t
map_broken name f g error r s t is h =
    subst (λ (x : Reply). Served name (λ o p. p ≡ option_map g o) x s t) (sym is) (served_failed name (λ o p. p ≡ option_map f o) (λ o p. p ≡ option_map g o) error s t h)

-- ---- the loop over blocks from one on

pub filled_none : (name : Name) (byte from : ℕ) (s : FilesState) → Served name (λ o p. p ≡ option_map (blocks_filled byte from (from - from)) o) (Ok tt) s s
filled_none name byte from s =
    let none : from - from ≡ 0 = omega arith in
    subst (λ n. Served name (λ o p. p ≡ option_map (blocks_filled byte from n) o) (Ok tt) s s) (sym none) (served_none name (λ o p. p ≡ option_map (λ f. f) o) s map_none)

pub filled_within : (name : Name) (byte from to i : ℕ) (s m : FilesState) → from ≤ i → i < to → WhereTold s name (λ b. length b ≡ 4096 * to) → Served name (λ o p. p ≡ option_map (blocks_filled byte from (i - from)) o) (Ok tt) s m
    → WhereTold m name (λ b. 4096 * i ≤ length b)
filled_within name byte from to i s m least below told h =
    map_within name (blocks_filled byte from (i - from)) (λ b. length b ≡ 4096 * to) (λ b. 4096 * i ≤ length b) s m told
    (λ (f : File) (size : length f.bytes ≡ 4096 * to). omega (arith, length-blocks_filled byte from (i - from) f (omega arith))) h

pub filled_more : (name : Name) (byte from i : ℕ) (block : List ℕ) (reply : Reply) (s m t : FilesState) → block ≡ block_of byte → from ≤ i → Served name (λ o p. p ≡ option_map (blocks_filled byte from (i - from)) o) (Ok tt) s m
    → Served name (λ o p. p ≡ option_map (λ f. written f (4096 * i) block) o) reply m t → Served name (λ o p. p ≡ option_map (blocks_filled byte from (i + 1 - from)) o) reply s t
filled_more name byte from i block reply s m t is least h k =
    let more : i + 1 - from ≡ suc (i - from) = omega arith in
    let place : from + (i - from) ≡ i = omega arith in
    subst (λ n. Served name (λ o p. p ≡ option_map (blocks_filled byte from n) o) reply s t) (sym more)
    (subst (λ n. Served name (λ o p. p ≡ option_map (λ x. written (blocks_filled byte from (i - from) x) (4096 * n) (block_of byte)) o) reply s t) (sym place)
    (subst (λ (b : List ℕ). Served name (λ o p. p ≡ option_map (λ x. written (blocks_filled byte from (i - from) x) (4096 * i) b) o) reply s t) is
    (map_then name (blocks_filled byte from (i - from)) (λ f. written f (4096 * i) block) reply s m t h k)))

pub filled_all : (name : Name) (byte from to i : ℕ) (s m : FilesState) → from ≤ to → i ≡ to → WhereTold s name (λ b. length b ≡ 4096 * to) → Served name (λ o p. p ≡ option_map (blocks_filled byte from (i - from)) o) (Ok tt) s m
    → Served name (BytesBecame (with_fill (Some byte) from)) (Ok tt) s m
filled_all name byte from to i s m order is told h =
    served_as name (λ o p. p ≡ option_map (blocks_filled byte from (i - from)) o) (BytesBecame (with_fill (Some byte) from)) (λ b. length b ≡ 4096 * to) (Ok tt) s m told
    (became_map (blocks_filled byte from (i - from)) (with_fill (Some byte) from) (λ b. length b ≡ 4096 * to) (λ (f : File) (size : length f.bytes ≡ 4096 * to). ap (λ n. (blocks_filled byte from (n - from) f).bytes) is ∙ filled_is byte from to f order size)) h

-- ---- a file that is cut

pub cut_long : (name : Name) (n : ℕ) (s m : FilesState) → Served name (λ o p. p ≡ option_map (λ f. resized f n) o) (Ok tt) s m → WhereTold m name (λ b. length b ≡ n)
cut_long name n s m h = map_within name (λ f. resized f n) (λ b. ⊤) (λ b. length b ≡ n) s m (λ d f is there. tt) (λ f any. length-resized f n) h

-- ---- the loop over blocks with flags

-- the file with a byte in place of each of the first blocks, so many of them, that have a flag
abbrev pub flags_filled : ℕ → List Bool → ℕ → File → File
flags_filled byte flags zero f = f
flags_filled byte flags (suc n) f = block_put (get_or flags n false) n (block_of byte) (flags_filled byte flags n f)

length-block_put : (flag : Bool) (n byte : ℕ) (f : File) → 4096 * (n + 1) ≤ length f.bytes → length (block_put flag n (block_of byte) f).bytes ≡ length f.bytes
length-block_put true n byte f fits = length-replaced f.bytes (4096 * n) (block_of byte) (omega (arith, length-block_of byte))
length-block_put false n byte f fits = refl

length-flags_filled : (byte : ℕ) (flags : List Bool) (n : ℕ) (f : File) → n ≤ length flags → 4096 * length flags ≤ length f.bytes → length (flags_filled byte flags n f).bytes ≡ length f.bytes
length-flags_filled byte flags zero f most fits = refl
length-flags_filled byte flags (suc n) f most fits =
    let before : length (flags_filled byte flags n f).bytes ≡ length f.bytes = length-flags_filled byte flags n f (omega arith) fits in
    length-block_put (get_or flags n false) n byte (flags_filled byte flags n f) (omega arith) ∙ before

-- what is done, and the rest of it done, is one block further the same
flag_step : (byte : ℕ) (flags : List Bool) (n : ℕ) (f : File) (flag : Bool) → get_or flags n false ≡ flag → n < length flags → 4096 * (n + 1) ≤ length f.bytes
    → take (4096 * (n + 1)) (block_put flag n (block_of byte) f).bytes ++ with_filled_blocks byte (drop (n + 1) flags) (drop (4096 * (n + 1)) (block_put flag n (block_of byte) f).bytes)
    ≡ take (4096 * n) f.bytes ++ with_filled_blocks byte (drop n flags) (drop (4096 * n) f.bytes)
flag_step byte flags n f true is below fits =
    block_fills byte flags f.bytes (replaced f.bytes (4096 * n) (block_of byte)) n below fits is
    (ap (λ k. take (4096 * n) f.bytes ++ block_of byte ++ drop (4096 * n + k) f.bytes) (length-block_of byte) ∙ ap (λ (block : List ℕ). take (4096 * n) f.bytes ++ block ++ drop (4096 * n + 4096) f.bytes) (block_part byte n))
flag_step byte flags n f false is below fits = block_stays byte flags f.bytes n below is

flags_rest : (byte : ℕ) (flags : List Bool) (n : ℕ) (f : File) → n ≤ length flags → 4096 * length flags ≤ length f.bytes
    → take (4096 * n) (flags_filled byte flags n f).bytes ++ with_filled_blocks byte (drop n flags) (drop (4096 * n) (flags_filled byte flags n f).bytes) ≡ with_filled_blocks byte flags f.bytes
flags_rest byte flags zero f most fits = refl
flags_rest byte flags (suc n) f most fits =
    let more : suc n ≡ n + 1 = omega arith in
    ap (λ (k : ℕ). take (4096 * k) (flags_filled byte flags (suc n) f).bytes ++ with_filled_blocks byte (drop k flags) (drop (4096 * k) (flags_filled byte flags (suc n) f).bytes)) more
    ∙ flag_step byte flags n (flags_filled byte flags n f) (get_or flags n false) refl (omega arith) (omega (arith, length-flags_filled byte flags n f (omega arith) fits))
    ∙ flags_rest byte flags n f (omega arith) fits

flagged_is : (byte : ℕ) (flags : List Bool) (n : ℕ) (f : File) → n ≡ length flags → 4096 * length flags ≤ length f.bytes → (flags_filled byte flags n f).bytes ≡ with_filled_blocks byte flags f.bytes
flagged_is byte flags n f is fits =
    sym (blocks_done byte flags (flags_filled byte flags n f).bytes n (omega arith)) ∙ flags_rest byte flags n f (omega arith) fits

pub flagged_none : (name : Name) (byte : ℕ) (flags : List Bool) (s : FilesState) → Served name (λ o p. p ≡ option_map (flags_filled byte flags 0) o) (Ok tt) s s
flagged_none name byte flags s = served_none name (λ o p. p ≡ option_map (λ f. f) o) s map_none

pub flagged_within : (name : Name) (byte : ℕ) (flags : List Bool) (i : ℕ) (s m : FilesState) → i < length flags → WhereTold s name (λ b. 4096 * length flags ≤ length b) → Served name (λ o p. p ≡ option_map (flags_filled byte flags i) o) (Ok tt) s m
    → WhereTold m name (λ b. 4096 * i ≤ length b)
flagged_within name byte flags i s m below told h =
    map_within name (flags_filled byte flags i) (λ b. 4096 * length flags ≤ length b) (λ b. 4096 * i ≤ length b) s m told
    (λ (f : File) (fits : 4096 * length flags ≤ length f.bytes). omega (arith, length-flags_filled byte flags i f (omega arith) fits)) h

pub flagged_more : (name : Name) (byte : ℕ) (flags : List Bool) (i : ℕ) (flag : Bool) (block : List ℕ) (reply : Reply) (s m t : FilesState) → block ≡ block_of byte → i < length flags → flag ≡ get_or flags i flag
    → Served name (λ o p. p ≡ option_map (flags_filled byte flags i) o) (Ok tt) s m → Served name (λ o p. p ≡ option_map (block_put flag i block) o) reply m t
    → Served name (λ o p. p ≡ option_map (flags_filled byte flags (i + 1)) o) reply s t
flagged_more name byte flags i flag block reply s m t is below read h k =
    let more : i + 1 ≡ suc i = omega arith in
    let flag_is : flag ≡ get_or flags i false = read ∙ get_or_default flags i flag false below in
    subst (λ n. Served name (λ o p. p ≡ option_map (flags_filled byte flags n) o) reply s t) (sym more)
    (subst (λ (b : Bool). Served name (λ o p. p ≡ option_map (λ x. block_put b i (block_of byte) (flags_filled byte flags i x)) o) reply s t) flag_is
    (subst (λ (b : List ℕ). Served name (λ o p. p ≡ option_map (λ x. block_put flag i b (flags_filled byte flags i x)) o) reply s t) is
    (map_then name (flags_filled byte flags i) (block_put flag i block) reply s m t h k)))

pub flagged_all : (name : Name) (byte : ℕ) (flags : List Bool) (i : ℕ) (s m : FilesState) → i ≡ length flags → WhereTold s name (λ b. 4096 * length flags ≤ length b) → Served name (λ o p. p ≡ option_map (flags_filled byte flags i) o) (Ok tt) s m
    → Served name (BytesBecame (with_filled_blocks byte flags)) (Ok tt) s m
flagged_all name byte flags i s m is told h =
    served_as name (λ o p. p ≡ option_map (flags_filled byte flags i) o) (BytesBecame (with_filled_blocks byte flags)) (λ b. 4096 * length flags ≤ length b) (Ok tt) s m told
    (became_map (flags_filled byte flags i) (with_filled_blocks byte flags) (λ b. 4096 * length flags ≤ length b) (λ (f : File) (fits : 4096 * length flags ≤ length f.bytes). flagged_is byte flags i f is fits)) h
