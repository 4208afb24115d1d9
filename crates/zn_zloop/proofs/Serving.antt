-- Calls on a file, one after another.
use Rattle.std.proofs.Common.{◌≡◌, ℕ, false, Option, Some, None, Ok, Err, refl, sym, ap, ◌∙◌, subst, arith}
use Rattle.std.proofs.lemmas.Option.{same_Some}
use Rattle.std.specs.Prelude.{List, Result, IsSome, is_some, IsTrue, IsErrOf, IsOk, OnOk, if◌then◌else◌}
use Rattle.std.specs.Option.{option_map}
use Rattle.zn_base.specs.Causes.{Rose}
use Rattle.zn_truth.specs.declared.DevError.{DevError}
use Rattle.zn_truth.specs.declared.DevError.TheVariants.{Broken}
use Rattle.zn_truth.specs.Orders.{Reply}
use Rattle.zn_truth.specs.Obeying.{IsAnswered}
use Rattle.zn_stand.specs.File.{File, written, resized, synced}
use Rattle.zn_stand.specs.Maps.{Name}
use Rattle.zn_stand.specs.Directory.{Directory, file_at}
use Rattle.zn_stand.specs.Calls.{Call, ReadFrom, WriteFrom, SetLength, SyncFile, made}
use Rattle.zn_stand.proofs.Directories.{changed_other, changed_same}
use Rattle.zn_files.specs.declared.error.FileError.{FileError}
use Rattle.zn_files.specs.declared.error.FileError.TheVariants.{Fault, Missing, Exists, Memory}
use Rattle.zn_files.specs.Causes.{is_answered as is_file_answered}
use Rattle.zn_files.specs.Refusals.{refusal}
use Rattle.zn_files.specs.States.{FilesState, directory, Called}
use Rattle.zn_zloop.specs.Looked.{Looked}
use Rattle.zn_zloop.specs.Served.{reply_to, IsThere, Changed, ChangedWhereTold, Served}

-- ---- one call

-- where contents are told, nothing refuses the call
abbrev pub Accepts : Call → FilesState → Type 0
Accepts call s = (d : Directory) → directory s ≡ Some d → refusal call d ≡ None

abbrev Answers : Result (Unit {0}) FileError → Type 0
Answers r = IsTrue (is_file_answered r)

answered_is : (r : Result (Unit {0}) FileError) → IsAnswered (reply_to r) → r ≡ Ok tt
answered_is (Ok tt) h = refl
answered_is (Err Fault) h = absurd (cc)
answered_is (Err Missing) h = absurd (cc)
answered_is (Err Exists) h = absurd (cc)
answered_is (Err Memory) h = absurd (cc)

-- a call that is refused although nothing refuses it is one on files that aren't told
untold : (o : Option Directory) (call : Call) (error : FileError) → ((d : Directory) → o ≡ Some d → Some error ≡ refusal call d) → ((d : Directory) → o ≡ Some d → refusal call d ≡ None) → is_some o ≡ false
untold None call error answer accepts = refl
untold (Some d) call error answer accepts = absurd (cc (answer d refl, accepts d refl))

broke : (call : Call) (r : Result (Unit {0}) FileError) (old new : FilesState) → Called call r old new → Accepts call old → IsErrOf (reply_to r) Broken → Rose old.faults new.faults
broke call (Ok tt) old new called accepts is = absurd (cc)
broke call (Err Fault) old new called accepts is = called.cause.fault refl
broke call (Err Missing) old new called accepts is = called.cause.missing (untold (directory old) call Missing (λ d told. called.answer d told refl) accepts) refl
broke call (Err Exists) old new called accepts is = called.cause.exists (untold (directory old) call Exists (λ d told. called.answer d told refl) accepts) refl
broke call (Err Memory) old new called accepts is = absurd (cc)

one_done : (r : Result (Unit {0}) FileError) → IsAnswered (reply_to r) → reply_to r ≡ Ok tt
one_done r h = ap reply_to (answered_is r h)

told_change : (name : Name) (R : Option File → Option File → Type 0) (call : Call) (o e : Option Directory) → ((d : Directory) → o ≡ Some d → Changed name R d (made call d)) → e ≡ option_map (made call) o → ChangedWhereTold name R o e
told_change name R call None e each is = subst (λ (x : Option Directory). ChangedWhereTold name R None x) (sym is) tt
told_change name R call (Some d) e each is = subst (λ (x : Option Directory). ChangedWhereTold name R (Some d) x) (sym is) (each d refl)

pub called_served : (name : Name) (R : Option File → Option File → Type 0) (call : Call) (r : Result (Unit {0}) FileError) (old new : FilesState) → Called call r old new → Accepts call old
    → ((d : Directory) → directory old ≡ Some d → Changed name R d (made call d)) → Served name R (reply_to r) old new
called_served name R call r old new called accepts each = record {
  done = one_done r;
  changed = λ answered. told_change name R call (directory old) (directory new) each (called.done (subst Answers (sym (answered_is r answered)) refl));
  told = called.told;
  cause = record {
    later = called.cause.later;
    broken = broke call r old new called accepts;
    whole = λ answered. still (answered_is r answered) called.cause.done;
  };
}
  where
    still : r ≡ Ok tt → OnOk r (new.faults ≡ old.faults) → new.faults ≡ old.faults
    still is h = grind (arith)

-- ---- the calls

there : (o : Option File) → IsSome o → (if is_some o then None else Some Missing) ≡ None
there o some = rw some refl

pub sync_served : (name : Name) (r : Result (Unit {0}) FileError) (old new : FilesState) → IsThere old name → Called (SyncFile name) r old new → Served name (λ o p. p ≡ option_map synced o) (reply_to r) old new
sync_served name r old new is called = called_served name (λ o p. p ≡ option_map synced o) (SyncFile name) r old new called (λ d told. there (file_at d name) (is d told))
    (λ d told. record { file = changed_same d name synced; others = λ q apart. changed_other d name synced q apart })

pub len_served : (name : Name) (len : ℕ) (r : Result (Unit {0}) FileError) (old new : FilesState) → IsThere old name → Called (SetLength name len) r old new
    → Served name (λ o p. p ≡ option_map (λ f. resized f len) o) (reply_to r) old new
len_served name len r old new is called = called_served name (λ o p. p ≡ option_map (λ f. resized f len) o) (SetLength name len) r old new called (λ d told. there (file_at d name) (is d told))
    (λ d told. record { file = changed_same d name (λ f. resized f len); others = λ q apart. changed_other d name (λ f. resized f len) q apart })

pub write_served : (name : Name) (at : ℕ) (bytes : List ℕ) (r : Result (Unit {0}) FileError) (old new : FilesState) → IsThere old name → Called (WriteFrom name at bytes) r old new
    → Served name (λ o p. p ≡ option_map (λ f. written f at bytes) o) (reply_to r) old new
write_served name at bytes r old new is called = called_served name (λ o p. p ≡ option_map (λ f. written f at bytes) o) (WriteFrom name at bytes) r old new called (λ d told. there (file_at d name) (is d told))
    (λ d told. record { file = changed_same d name (λ f. written f at bytes); others = λ q apart. changed_other d name (λ f. written f at bytes) q apart })

-- ---- one after another

pub err_apart : (error : DevError) → ◌≡◌ {A = Reply} (Err error) (Ok tt) → ⊥
err_apart error is = cc

-- calls that fail change what they may
pub served_failed : (name : Name) (R S : Option File → Option File → Type 0) (error : DevError) (s t : FilesState) → Served name R (Err error) s t → Served name S (Err error) s t
served_failed name R S error s t h = record {
  done = h.done;
  changed = λ answered. absurd (err_apart error (h.done answered));
  told = h.told;
  cause = h.cause;
}

-- after calls that are done
pub served_then : (name : Name) (R S T : Option File → Option File → Type 0) (reply : Reply) (s m t : FilesState) → ((o p q : Option File) → R o p → S p q → T o q)
    → Served name R (Ok tt) s m → Served name S reply m t → Served name T reply s t
served_then name R S T reply s m t both h k = record {
  done = k.done;
  changed = λ answered. joined (directory s) (directory m) (directory t) (h.changed refl) (k.changed answered);
  told = k.told ∙ h.told;
  cause = record {
    later = omega (arith, h.cause.later, k.cause.later);
    broken = λ is. subst (λ n. Rose n t.faults) (h.cause.whole refl) (k.cause.broken is);
    whole = λ answered. k.cause.whole answered ∙ h.cause.whole refl;
  };
}
  where
    joined : (o p q : Option Directory) → ChangedWhereTold name R o p → ChangedWhereTold name S p q → ChangedWhereTold name T o q
    joined None None None a b = tt
    joined None None (Some e) a b = absurd b
    joined None (Some d) q a b = absurd a
    joined (Some c) None q a b = absurd a
    joined (Some c) (Some d) None a b = absurd b
    joined (Some c) (Some d) (Some e) a b = record { file = both (file_at c name) (file_at d name) (file_at e name) a.file b.file; others = λ q apart. b.others q apart ∙ a.others q apart }

-- after calls that are done the file is there
pub still_there : (name : Name) (R : Option File → Option File → Type 0) (s m : FilesState) → ((o p : Option File) → IsSome o → R o p → IsSome p) → IsThere s name → Served name R (Ok tt) s m → IsThere m name
still_there name R s m keeps is h = λ d told. at (directory s) (directory m) refl told (h.changed refl)
  where
    at : {d : Directory} (o p : Option Directory) → directory s ≡ o → p ≡ Some d → ChangedWhereTold name R o p → IsSome (file_at d name)
    at None None old new c = absurd (cc)
    at None (Some e) old new c = absurd c
    at (Some b) None old new c = absurd c
    at {d} (Some b) (Some e) old new c = subst (λ (x : Directory). IsSome (file_at x name)) (same_Some e d new) (keeps (file_at b name) (file_at e name) (is b old) c.file)

map_there : (g : File → File) (o p : Option File) → IsSome o → p ≡ option_map g o → IsSome p
map_there g None p some is = absurd (cc)
map_there g (Some f) p some is = ap is_some is

pub map_still_there : (name : Name) (g : File → File) (s m : FilesState) → IsThere s name → Served name (λ o p. p ≡ option_map g o) (Ok tt) s m → IsThere m name
map_still_there name g s m is h = still_there name (λ o p. p ≡ option_map g o) s m (map_there g) is h

map_twice : (f g : File → File) (o p q : Option File) → p ≡ option_map f o → q ≡ option_map g p → q ≡ option_map (λ x. g (f x)) o
map_twice f g None p q a b = b ∙ ap (option_map g) a
map_twice f g (Some x) p q a b = b ∙ ap (option_map g) a

pub map_then : (name : Name) (f g : File → File) (reply : Reply) (s m t : FilesState) → Served name (λ o p. p ≡ option_map f o) (Ok tt) s m → Served name (λ o p. p ≡ option_map g o) reply m t
    → Served name (λ o p. p ≡ option_map (λ x. g (f x)) o) reply s t
map_then name f g reply s m t h k = served_then name (λ o p. p ≡ option_map f o) (λ o p. p ≡ option_map g o) (λ o p. p ≡ option_map (λ x. g (f x)) o) reply s m t (map_twice f g) h k

pub map_failed : (name : Name) (f g : File → File) (error : DevError) (s t : FilesState) → Served name (λ o p. p ≡ option_map f o) (Err error) s t → Served name (λ o p. p ≡ option_map g o) (Err error) s t
map_failed name f g error s t h = served_failed name (λ o p. p ≡ option_map f o) (λ o p. p ≡ option_map g o) error s t h

-- ---- a call that only looks

pub looked : (call : Call) (r : Result (Unit {0}) FileError) (old new : FilesState) → ((d : Directory) → made call d ≡ d) → Accepts call old → Called call r old new → Looked (reply_to r) old new
looked call r old new stays accepts called = record {
  done = one_done r;
  same = λ answered. called.done (subst Answers (sym (answered_is r answered)) refl) ∙ stay (directory old);
  cause = record {
    later = called.cause.later;
    broken = broke call r old new called accepts;
    whole = λ answered. still r (answered_is r answered) called.cause.done;
  };
}
  where
    stay : (o : Option Directory) → option_map (made call) o ≡ o
    stay None = refl
    stay (Some d) = ap Some (stays d)

    still : (r : Result (Unit {0}) FileError) → r ≡ Ok tt → OnOk r (new.faults ≡ old.faults) → new.faults ≡ old.faults
    still r is h = grind (arith)

pub ok_answer : (r : Result (Unit {0}) FileError) (P : Type 0) → IsOk (reply_to r) → OnOk r P → P
ok_answer (Ok tt) P ok h = h
ok_answer (Err Fault) P ok h = absurd (cc)
ok_answer (Err Missing) P ok h = absurd (cc)
ok_answer (Err Exists) P ok h = absurd (cc)
ok_answer (Err Memory) P ok h = absurd (cc)

pub read_looked : (name : Name) (at n : ℕ) (r : Result (Unit {0}) FileError) (old new : FilesState) → IsThere old name → Called (ReadFrom name at n) r old new → Looked (reply_to r) old new
read_looked name at n r old new is called = looked (ReadFrom name at n) r old new (λ d. refl) (λ d told. there (file_at d name) (is d told)) called
