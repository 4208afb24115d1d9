-- What a stop while a zone's file is finished leaves.
use Rattle.std.proofs.Common.{◌≡◌, ◌⊎◌, inl, inr, ⊎_elim, ℕ, ◌-◌, ◌<◌, ◌≤◌, List, ◌++◌, length, replicate, get_or, Option, Some, None, Ok, refl, sym, ap, ◌∙◌, subst, arith, length-append}
use Rattle.std.specs.Prelude.{IsTrue}
use Rattle.std.specs.Option.{option_map}
use Rattle.std.proofs.lemmas.Bool.{cases_lt}
use Rattle.std.proofs.lemmas.Bool.Decides.{nat_tests}
use Rattle.std.proofs.lemmas.List.{ext_get_or, length-replicate, places}
use Rattle.zn_stand.specs.File.{File, at_rest, resized, synced, is_length, IsByte, IsImage}
use Rattle.zn_stand.specs.Maps.{Name}
use Rattle.zn_stand.specs.Directory.{Directory, Contents, bytes_at, MayHave}
use Rattle.zn_stand.specs.Calls.{SyncFile, SetLength}
use Rattle.zn_stand.specs.History.{LeavesOnly}
use Rattle.zn_stand.proofs.Directories.{changed_same}
use Rattle.zn_stand.proofs.Histories.{leaves_nothing, leaves_more, leaves_also}
use Rattle.zn_files.specs.States.{FilesState, directory, MayLeaveInside}
use Rattle.zn_zloop.specs.Served.{ChangedWhereTold, Served}
use Rattle.zn_zloop.specs.Left.{IsOldOrGrown, MayLeaveInResize, MayLeaveInFinish}

-- ---- the file

grown_length : (b : List ℕ) (len n : ℕ) → IsTrue (is_length (resized (at_rest b) len) n) → (n ≡ len) ⊎ (n ≡ length b)
grown_length b len n is = grind (arith, nat_tests)

grown_byte : (b : List ℕ) (len i byte : ℕ) → i < length b → IsByte (resized (at_rest b) len) i byte → byte ≡ get_or b i 0
grown_byte b len i byte below is = grind (arith, nat_tests)

grown_zero : (b : List ℕ) (len i byte : ℕ) → length b ≤ i → i < len → IsByte (resized (at_rest b) len) i byte → byte ≡ 0
grown_zero b len i byte past below is = grind (arith, nat_tests)

grown_at : (b : List ℕ) (n i : ℕ) → length b ≤ i → get_or (b ++ replicate n 0) i 0 ≡ 0
grown_at b n i past = grind (arith, places)

kept_at : (b : List ℕ) (n i : ℕ) → i < length b → get_or (b ++ replicate n 0) i 0 ≡ get_or b i 0
kept_at b n i below = grind (arith, places)

-- growing a file that was synced leaves it as it was, or with all the zeros
grown_image : (b c : List ℕ) (len : ℕ) → length b ≤ len → IsImage (resized (at_rest b) len) c → (c ≡ b) ⊎ (c ≡ b ++ replicate (len - length b) 0)
grown_image b c len le is = elim (grown_length b len (length c) is.len) [
  | inl whole ↦ inr (ext_get_or 0 c (b ++ replicate (len - length b) 0) (omega (arith, length-append b (replicate (len - length b) 0), length-replicate {A = ℕ} (len - length b) 0)) (λ i h.
      elim (cases_lt i (length b)) [
        | inl below ↦ grown_byte b len i (get_or c i 0) below (is.each i h) ∙ sym (kept_at b (len - length b) i below)
        | inr past ↦ grown_zero b len i (get_or c i 0) past (omega arith) (is.each i h) ∙ sym (grown_at b (len - length b) i past)
      ]))
  | inr same ↦ inl (ext_get_or 0 c b same (λ i h. grown_byte b len i (get_or c i 0) (omega arith) (is.each i h)))
]

grown_left : (b : List ℕ) (len : ℕ) (left : Option (List ℕ)) → length b ≤ len → MayHave (Some (resized (at_rest b) len)) left → IsOldOrGrown b len left
grown_left b len None le may = absurd (cc)
grown_left b len (Some c) le may = ⊎_elim (λ is. inl (ap Some is)) (λ is. inr (ap Some is)) (grown_image b c len le may)

-- ---- the calls

first_left : (name : Name) (len : ℕ) (o : Option Directory) (image : Contents) → MayLeaveInside (SyncFile name) o image → MayLeaveInFinish name len o image
first_left name len None image may = may
first_left name len (Some d) image may = inl may

resize_left : (name : Name) (len : ℕ) (o : Option Directory) (image : Contents) → MayLeaveInside (SetLength name len) o image → MayLeaveInResize name len o image
resize_left name len None image may = may
resize_left name len (Some d) image may = subst (λ (o : Option File). MayHave o (bytes_at image name)) (changed_same d name (λ f. resized f len)) (may.each name)

sync_left : (name : Name) (len : ℕ) (o p : Option Directory) (image : Contents) → ChangedWhereTold name (λ a b. b ≡ option_map (λ f. resized f len) a) o p → MayLeaveInside (SyncFile name) p image → MayLeaveInResize name len o image
sync_left name len None None image changed may = may
sync_left name len None (Some e) image changed may = absurd changed
sync_left name len (Some d) None image changed may = absurd changed
sync_left name len (Some d) (Some e) image changed may = subst (λ (o : Option File). MayHave o (bytes_at image name)) changed.file (may.each name)

grown_all : (name : Name) (len : ℕ) (o p : Option Directory) (image : Contents) → ChangedWhereTold name (λ a b. b ≡ option_map synced a) o p → MayLeaveInResize name len p image → MayLeaveInFinish name len o image
grown_all name len None None image changed may = may
grown_all name len None (Some e) image changed may = absurd changed
grown_all name len (Some d) None image changed may = absurd changed
grown_all name len (Some d) (Some e) image changed may =
    inr (λ f there le. grown_left f.bytes len (bytes_at image name) le (subst (λ (o : Option File). MayHave (option_map (λ x. resized x len) o) (bytes_at image name)) (changed.file ∙ ap (option_map synced) there) may))

pub resize_first : (name : Name) (len : ℕ) (s t : FilesState) → LeavesOnly s.history t.history (MayLeaveInside (SetLength name len) (directory s)) → LeavesOnly s.history t.history (MayLeaveInResize name len (directory s))
resize_first name len s t stops = leaves_also s.history t.history (MayLeaveInside (SetLength name len) (directory s)) (MayLeaveInResize name len (directory s)) (resize_left name len (directory s)) stops

pub resize_then : (name : Name) (len : ℕ) (s m t : FilesState) → Served name (λ a b. b ≡ option_map (λ f. resized f len) a) (Ok tt) s m → LeavesOnly s.history m.history (MayLeaveInside (SetLength name len) (directory s))
    → LeavesOnly m.history t.history (MayLeaveInside (SyncFile name) (directory m)) → LeavesOnly s.history t.history (MayLeaveInResize name len (directory s))
resize_then name len s m t served first stops = leaves_more s.history m.history t.history (MayLeaveInResize name len (directory s)) (resize_first name len s m first)
    (leaves_also m.history t.history (MayLeaveInside (SyncFile name) (directory m)) (MayLeaveInResize name len (directory s)) (λ image. sync_left name len (directory s) (directory m) image (served.changed refl)) stops)

pub finish_first : (name : Name) (len : ℕ) (s t : FilesState) → LeavesOnly s.history t.history (MayLeaveInside (SyncFile name) (directory s)) → LeavesOnly s.history t.history (MayLeaveInFinish name len (directory s))
finish_first name len s t stops = leaves_also s.history t.history (MayLeaveInside (SyncFile name) (directory s)) (MayLeaveInFinish name len (directory s)) (first_left name len (directory s)) stops

pub finish_then : (name : Name) (len : ℕ) (s m t : FilesState) → Served name (λ a b. b ≡ option_map synced a) (Ok tt) s m → LeavesOnly s.history m.history (MayLeaveInside (SyncFile name) (directory s))
    → LeavesOnly m.history t.history (MayLeaveInResize name len (directory m)) → LeavesOnly s.history t.history (MayLeaveInFinish name len (directory s))
finish_then name len s m t served first stops = leaves_more s.history m.history t.history (MayLeaveInFinish name len (directory s)) (finish_first name len s m first)
    (leaves_also m.history t.history (MayLeaveInResize name len (directory m)) (MayLeaveInFinish name len (directory s)) (λ image. grown_all name len (directory s) (directory m) image (served.changed refl)) stops)

-- where no call is made
pub leaves_none : (s : FilesState) (P : Contents → Type 0) → LeavesOnly s.history s.history P
leaves_none s P = leaves_nothing s.history P
