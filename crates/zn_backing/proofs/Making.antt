-- Files that are made.
use Rattle.std.proofs.Common.{◌≡◌, ◌≢◌, ℕ, zero, suc, ◌-◌, ◌≤◌, Bool, true, false, cond, eqb, List, [], ◌++◌, length, take, drop, replicate, Option, Some, None, Result, Ok, Err, refl, sym, ap, ◌∙◌, subst, arith}
use Rattle.std.specs.Prelude.{IsErrOf, IfErr, OnOk, IsTrue, IsSome, is_some}
use Rattle.std.specs.Option.{option_map}
use Rattle.std.proofs.lemmas.Bool.{eqb-true}
use Rattle.std.proofs.lemmas.Bool.Decides.{nat_tests}
use Rattle.std.proofs.lemmas.List.{places, ext_get_or}
use Rattle.std.proofs.lemmas.Option.{same_Some}
use Rattle.zn_base.specs.Causes.{Rose}
use Rattle.zn_truth.specs.Orders.{replaced}
use Rattle.zn_stand.specs.File.{File, created, at_rest, written, resized, synced}
use Rattle.zn_stand.specs.Maps.{Name}
use Rattle.zn_stand.specs.Directory.{Directory, Contents, file_at, bytes_at, with_file, MayHave, IsImageOf}
use Rattle.zn_stand.specs.Calls.{Call, TellNames, TellLen, ReadFrom, WriteFrom, SetLength, CreateFile, SyncFile, made, during, named}
use Rattle.zn_stand.specs.History.{LeavesOnly}
use Rattle.zn_stand.proofs.NameMaps.{at_same}
use Rattle.zn_stand.proofs.Directories.{changed_same, made_other}
use Rattle.zn_stand.proofs.Histories.{leaves_nothing, leaves_more, leaves_also}
use Rattle.zn_files.specs.declared.error.FileError.{FileError}
use Rattle.zn_files.specs.declared.error.FileError.TheVariants.{Fault as Failed, Missing, Exists as IsThere, Memory as NoMemory}
use Rattle.zn_files.specs.Refusals.{refusal, if_there, unless_there}
use Rattle.zn_files.specs.States.{FilesState, directory, is_told, MayLeaveInside, Called}
use Rattle.zn_backing.specs.declared.error.CreateError.{CreateError}
use Rattle.zn_backing.specs.declared.error.CreateError.TheVariants.{Fault}
use Rattle.zn_backing.specs.Failures.{not_made}
use Rattle.zn_backing.specs.Making.{made_answer, is_failure, IsCaused, Holds, IsChanged, LeavesOthers, MakesFile, grown, rested_file}
use Rattle.zn_backing.proofs.Stepping.{refused_not, there_none}

-- ---- causes

-- where contents are told before, they are told after
pub told_then : (old new : FilesState) (d : Directory) → is_told new ≡ is_told old → directory old ≡ Some d → (e : Directory) × (directory new ≡ Some e)
told_then old new d told is = at (directory new) refl
  where
    at : (o : Option Directory) → directory new ≡ o → (e : Directory) × (directory new ≡ Some e)
    at None there = absurd (apart (sym (ap is_some there) ∙ told ∙ ap is_some is))
      where
        apart : false ≡ true → ⊥
        apart e = cc
    at (Some e) there = (e, there)

-- nothing that is told refuses the call
abbrev pub Accepts : Call → FilesState → Type 0
Accepts call s = Holds s (λ d. refusal call d ≡ None)

rose : {T : Type 0} (call : Call) (e : FileError) (old new : FilesState) → Accepts call old → Called {T = T} call (Err e) old new → not_made e ≡ Fault → Rose old.faults new.faults
rose call Failed old new none called is = called.cause.fault refl
rose call Missing old new none called is = called.cause.missing (refused_not call old Missing none (λ d there. called.answer d there refl)) refl
rose call IsThere old new none called is = called.cause.exists (refused_not call old IsThere none (λ d there. called.answer d there refl)) refl
rose call NoMemory old new none called is = absurd (cc)

pub call_stays : {T : Type 0} (call : Call) (e : FileError) (old new : FilesState) → Called {T = T} call (Err e) old new → not_made e ≢ Fault → new ≡ old
call_stays call Failed old new called apart = absurd (apart refl)
call_stays call Missing old new called apart = absurd (apart refl)
call_stays call IsThere old new called apart = absurd (apart refl)
call_stays call NoMemory old new called apart = called.memory refl

error_is : {U : Type 0} (e : CreateError) → ◌≡◌ {A = Result U CreateError} (Err e) (Err Fault) → e ≡ Fault
error_is e is = cc

pub caused_done : {T U : Type 0} (call : Call) (x : T) (y : U) (old new : FilesState) → Called call (Ok x) old new → IsCaused {T = U} (Ok y) old new
caused_done call x y old new called = record {
  later = called.cause.later;
  fault = λ is. absurd (cc);
  kept = λ _. called.cause.done;
  told = called.told;
}

pub caused_failed : {T U : Type 0} (call : Call) (e : FileError) (old new : FilesState) → Accepts call old → Called {T = T} call (Err e) old new → IsCaused {T = U} (Err (not_made e)) old new
caused_failed {T} {U} call e old new none called = record {
  later = called.cause.later;
  fault = λ is. rose call e old new none called (error_is {U = U} (not_made e) is);
  kept = λ apart. ap (λ (s : FilesState). s.faults) (call_stays call e old new called (λ is. apart (ap Err is)));
  told = called.told;
}

-- an answer without a call
pub caused_none : {T : Type 0} (result : Result T CreateError) (s : FilesState) → result ≢ Err Fault → IsCaused result s s
caused_none result s apart = record { later = omega arith; fault = λ is. absurd (apart is); kept = λ _. refl; told = refl }

-- one after another
pub caused_then : {T U : Type 0} (x : T) (result : Result U CreateError) (old middle new : FilesState) → IsCaused {T = T} (Ok x) old middle → IsCaused result middle new → IsCaused result old new
caused_then x result old middle new first then_more =
    let kept : middle.faults ≡ old.faults = first.kept (λ is. absurd (cc)) in
    record {
      later = omega (arith, kept, then_more.later);
      fault = λ is. subst (λ n. Rose n new.faults) kept (then_more.fault is);
      kept = λ apart. then_more.kept apart ∙ kept;
      told = then_more.told ∙ first.told;
    }

pub failure_is : (e : FileError) → is_failure (not_made e) ≡ true
failure_is Failed = refl
failure_is Missing = refl
failure_is IsThere = refl
failure_is NoMemory = refl

-- ---- a call on a file

other_named : (call : Call) (name q : Name) → named call ≡ Some name → q ≢ name → named call ≢ Some q
other_named call name q is apart same = apart (same_Some q name (sym same ∙ is))

during_other : (call : Call) (d : Directory) (q : Name) → named call ≢ Some q → file_at (during call d) q ≡ file_at d q
during_other TellNames d q apart = refl
during_other (TellLen name) d q apart = refl
during_other (ReadFrom name at n) d q apart = refl
during_other (WriteFrom name at bytes) d q apart = made_other (WriteFrom name at bytes) d q apart
during_other (SetLength name len) d q apart = made_other (SetLength name len) d q apart
during_other (CreateFile name) d q apart = made_other (CreateFile name) d q apart
during_other (SyncFile name) d q apart = refl

call_left : (call : Call) (name : Name) (s : FilesState) (image : Contents) (o : Option Directory) → named call ≡ Some name → directory s ≡ o → MayLeaveInside call o image → LeavesOthers name s image
call_left call name s image None is told may = absurd may
call_left call name s image (Some d) is told may = record {
  d = d;
  told = told;
  others = λ q apart. subst (λ (o : Option File). MayHave o (bytes_at image q)) (during_other call d q (other_named call name q is apart)) (may.each q);
}

call_leaves : (call : Call) (name : Name) (old new : FilesState) → named call ≡ Some name → LeavesOnly old.history new.history (MayLeaveInside call (directory old)) → LeavesOnly old.history new.history (LeavesOthers name old)
call_leaves call name old new is stops = leaves_also old.history new.history (MayLeaveInside call (directory old)) (LeavesOthers name old) (λ image may. call_left call name old image (directory old) is refl may) stops

call_changes : (call : Call) (name : Name) (change : Option File → Option File) (d : Directory) → named call ≡ Some name → file_at (made call d) name ≡ change (file_at d name) → IsChanged name change d (made call d)
call_changes call name change d is does = record { file = does; others = λ q apart. made_other call d q (other_named call name q is apart) }

pub makes_call : (name : Name) (change : Option File → Option File) (call : Call) (r : Result (Unit {0}) FileError) (old new : FilesState) → named call ≡ Some name → Accepts call old
    → Holds old (λ d. file_at (made call d) name ≡ change (file_at d name)) → Called call r old new → MakesFile name change (made_answer r) old new
makes_call name change call (Ok unit) old new is accepts does called = record {
  cause = caused_done call unit tt old new called;
  plain = tt;
  done = λ d e there now. subst (IsChanged name change d) (same_Some (made call d) e (sym (ap (option_map (made call)) there) ∙ sym (called.done refl) ∙ now)) (call_changes call name change d is (does d there));
  stops = call_leaves call name old new is called.stops;
}
makes_call name change call (Err e) old new is accepts does called = record {
  cause = caused_failed call e old new accepts called;
  plain = failure_is e;
  done = tt;
  stops = call_leaves call name old new is called.stops;
}

absent_accepts : (name : Name) (s : FilesState) → Holds s (λ d. file_at d name ≡ None) → Accepts (CreateFile name) s
absent_accepts name s absent d told = ap (λ (o : Option File). cond (is_some o) (Some IsThere) None) (absent d told)

created_there : (d : Directory) (name : Name) → file_at d name ≡ None → file_at (made (CreateFile name) d) name ≡ Some created
created_there d name none = ap (λ (o : Option File). file_at (cond (is_some o) d (with_file d name (Some created))) name) none ∙ at_same d name created

pub makes_begin : (name : Name) (r : Result (Unit {0}) FileError) (old new : FilesState) → Holds old (λ d. file_at d name ≡ None) → Called (CreateFile name) r old new → MakesFile name (λ o. Some created) (made_answer r) old new
makes_begin name r old new absent called = makes_call name (λ o. Some created) (CreateFile name) r old new refl (absent_accepts name old absent) (λ d told. created_there d name (absent d told)) called

grown_is : (len : ℕ) (o : Option File) → len ≢ 0 → option_map (λ f. resized f len) o ≡ option_map (grown len) o
grown_is len None some = refl
grown_is len (Some f) some = ap Some (by_test (eqb len 0) refl)
  where
    by_test : (b : Bool) → eqb len 0 ≡ b → resized f len ≡ cond (eqb len 0) f (resized f len)
    by_test true is = absurd (some (grind (arith, nat_tests, is)))
    by_test false is = ap (λ b. cond b f (resized f len)) (sym is)

pub makes_grow : (name : Name) (len : ℕ) (r : Result (Unit {0}) FileError) (old new : FilesState) → len ≢ 0 → Holds old (λ d. IsSome (file_at d name)) → Called (SetLength name len) r old new → MakesFile name (λ o. option_map (grown len) o) (made_answer r) old new
makes_grow name len r old new some there called = makes_call name (λ o. option_map (grown len) o) (SetLength name len) r old new refl (λ d told. there_none d name (there d told))
    (λ d told. changed_same d name (λ f. resized f len) ∙ grown_is len (file_at d name) some) called

none_grown : (o : Option File) → o ≡ option_map (grown 0) o
none_grown None = refl
none_grown (Some f) = refl

-- a file that stays empty
pub makes_none : (name : Name) (len : ℕ) (s : FilesState) → len ≡ 0 → MakesFile name (λ o. option_map (grown len) o) (Ok tt) s s
makes_none name len s none = record {
  cause = caused_none {T = Unit {0}} (Ok tt) s (λ is. absurd (cc));
  plain = tt;
  done = λ d e there now. subst (IsChanged name (λ o. option_map (grown len) o) d) (same_Some d e (sym there ∙ now))
      (record { file = none_grown (file_at d name) ∙ ap (λ n. option_map (grown n) (file_at d name)) (sym none); others = λ q apart. refl });
  stops = leaves_nothing s.history (LeavesOthers name s);
}

pub makes_fill : (name : Name) (bytes : List ℕ) (r : Result (Unit {0}) FileError) (old new : FilesState) → Holds old (λ d. IsSome (file_at d name)) → Called (WriteFrom name 0 bytes) r old new
    → MakesFile name (λ o. option_map (λ f. written f 0 bytes) o) (made_answer r) old new
makes_fill name bytes r old new there called = makes_call name (λ o. option_map (λ f. written f 0 bytes) o) (WriteFrom name 0 bytes) r old new refl (λ d told. there_none d name (there d told)) (λ d told. changed_same d name (λ f. written f 0 bytes)) called

pub makes_settle : (name : Name) (r : Result (Unit {0}) FileError) (old new : FilesState) → Holds old (λ d. IsSome (file_at d name)) → Called (SyncFile name) r old new → MakesFile name (λ o. option_map synced o) (made_answer r) old new
makes_settle name r old new there called = makes_call name (λ o. option_map synced o) (SyncFile name) r old new refl (λ d told. there_none d name (there d told)) (λ d told. changed_same d name synced) called

-- ---- calls on a file, one after another

pub makes_failed : (name : Name) (f g : Option File → Option File) (e : CreateError) (old new : FilesState) → MakesFile name f (Err e) old new → MakesFile name g (Err e) old new
makes_failed name f g e old new makes = record { cause = makes.cause; plain = makes.plain; done = tt; stops = makes.stops }

-- what was changed first, and what that leaves of the others
changed_then : (name : Name) (f g : Option File → Option File) (c d e : Directory) → IsChanged name f c d → IsChanged name g d e → IsChanged name (λ o. g (f o)) c e
changed_then name f g c d e first then_more = record { file = then_more.file ∙ ap g first.file; others = λ q apart. then_more.others q apart ∙ first.others q apart }

left_then : (name : Name) (f : Option File → Option File) (s m : FilesState) (image : Contents) → MakesFile name f (Ok tt) s m → LeavesOthers name m image → LeavesOthers name s image
left_then name f s m image first left =
    let before = told_then m s left.d (sym first.cause.told) left.told in
    record {
      d = before.0;
      told = before.1;
      others = λ q apart. subst (λ (o : Option File). MayHave o (bytes_at image q)) ((first.done before.0 left.d before.1 left.told).others q apart) (left.others q apart);
    }

leaves_then : (name : Name) (f : Option File → Option File) (s m t : FilesState) → MakesFile name f (Ok tt) s m → LeavesOnly m.history t.history (LeavesOthers name m) → LeavesOnly s.history t.history (LeavesOthers name s)
leaves_then name f s m t first stops =
    leaves_more s.history m.history t.history (LeavesOthers name s) first.stops (leaves_also m.history t.history (LeavesOthers name m) (LeavesOthers name s) (λ image left. left_then name f s m image first left) stops)

pub makes_then : (name : Name) (f g : Option File → Option File) (r : Result (Unit {0}) CreateError) (s m t : FilesState) → MakesFile name f (Ok tt) s m → MakesFile name g r m t → MakesFile name (λ o. g (f o)) r s t
makes_then name f g (Ok unit) s m t first then_more = record {
  cause = caused_then tt (Ok unit) s m t first.cause then_more.cause;
  plain = tt;
  done = λ d e there now. let middle = told_then s m d first.cause.told there in changed_then name f g d middle.0 e (first.done d middle.0 there middle.1) (then_more.done middle.0 e middle.1 now);
  stops = leaves_then name f s m t first then_more.stops;
}
makes_then name f g (Err e) s m t first then_more = record {
  cause = caused_then tt (Err e) s m t first.cause then_more.cause;
  plain = then_more.plain;
  done = tt;
  stops = leaves_then name f s m t first then_more.stops;
}

-- where a later call isn't done
pub makes_cut : (name : Name) (f g h : Option File → Option File) (e : CreateError) (s m t : FilesState) → MakesFile name f (Ok tt) s m → MakesFile name g (Err e) m t → MakesFile name h (Err e) s t
makes_cut name f g h e s m t first then_more = makes_failed name (λ o. g (f o)) h e s t (makes_then name f g (Err e) s m t first then_more)

-- the same change, said in another way
pub makes_as : (name : Name) (f g : Option File → Option File) (r : Result (Unit {0}) CreateError) (s t : FilesState) → ((o : Option File) → f o ≡ g o) → MakesFile name f r s t → MakesFile name g r s t
makes_as name f g (Ok unit) s t same makes = record {
  cause = makes.cause;
  plain = tt;
  done = λ d e there now. record { file = (makes.done d e there now).file ∙ same (file_at d name); others = (makes.done d e there now).others };
  stops = makes.stops;
}
makes_as name f g (Err e) s t same makes = makes_failed name f g e s t makes

-- a file that was made is there
pub made_there : (name : Name) (f : Option File → Option File) (s m : FilesState) → ((o : Option File) → IsSome (f o)) → MakesFile name f (Ok tt) s m → Holds m (λ d. IsSome (file_at d name))
made_there name f s m some makes e told =
    let before = told_then m s e (sym makes.cause.told) told in
    subst (λ (o : Option File). IsSome o) (sym (makes.done before.0 e before.1 told).file) (some (file_at before.0 name))

-- ---- what a file is then

take_none : (n : ℕ) → take {A = ℕ} n [] ≡ []
take_none zero = refl
take_none (suc n) = refl

zeros_grown : (len : ℕ) → (grown len created).bytes ≡ replicate len 0
zeros_grown len = by_test (eqb len 0) refl
  where
    all : len - 0 ≡ len
    all = omega arith

    by_test : (b : Bool) → eqb len 0 ≡ b → (cond b created (resized created len)).bytes ≡ replicate len 0
    by_test true is = ap (λ n. replicate n 0) (sym (eqb-true len 0 is))
    by_test false is = ap (λ (l : List ℕ). l ++ replicate (len - 0) 0) (take_none len) ∙ ap (λ n. replicate n 0) all

pub zeros_rested : (len : ℕ) (o : Option File) → option_map synced (option_map (grown len) (Some created)) ≡ rested_file (replicate len 0) o
zeros_rested len o = ap (λ bytes. Some (at_rest bytes)) (zeros_grown len)

bytes_written : (bytes : List ℕ) → replaced [] 0 bytes ≡ bytes
bytes_written bytes = ext_get_or 0 (replaced [] 0 bytes) bytes (grind (arith, places)) (λ i h. grind (arith, places))

pub bytes_rested : (bytes : List ℕ) (o : Option File) → option_map synced (option_map (λ f. written f 0 bytes) (Some created)) ≡ rested_file bytes o
bytes_rested bytes o = ap (λ b. Some (at_rest b)) (bytes_written bytes)

-- ---- a whole file

pub makes_zeros : (name : Name) (len : ℕ) (r : Result (Unit {0}) CreateError) (s m n t : FilesState) → MakesFile name (λ o. Some created) (Ok tt) s m → MakesFile name (λ o. option_map (grown len) o) (Ok tt) m n → MakesFile name (λ o. option_map synced o) r n t
    → MakesFile name (rested_file (replicate len 0)) r s t
makes_zeros name len r s m n t begin grow settle =
    makes_as name (λ o. option_map synced (option_map (grown len) (Some created))) (rested_file (replicate len 0)) r s t (zeros_rested len)
    (makes_then name (λ o. option_map (grown len) (Some created)) (λ o. option_map synced o) r s n t (makes_then name (λ o. Some created) (λ o. option_map (grown len) o) (Ok tt) s m n begin grow) settle)

pub makes_bytes : (name : Name) (bytes : List ℕ) (r : Result (Unit {0}) CreateError) (s m n t : FilesState) → MakesFile name (λ o. Some created) (Ok tt) s m → MakesFile name (λ o. option_map (λ f. written f 0 bytes) o) (Ok tt) m n → MakesFile name (λ o. option_map synced o) r n t
    → MakesFile name (rested_file bytes) r s t
makes_bytes name bytes r s m n t begin fill settle =
    makes_as name (λ o. option_map synced (option_map (λ f. written f 0 bytes) (Some created))) (rested_file bytes) r s t (bytes_rested bytes)
    (makes_then name (λ o. option_map (λ f. written f 0 bytes) (Some created)) (λ o. option_map synced o) r s n t (makes_then name (λ o. Some created) (λ o. option_map (λ f. written f 0 bytes) o) (Ok tt) s m n begin fill) settle)

-- a file that was changed once is there still
pub grown_there : (name : Name) (len : ℕ) (s m n : FilesState) → MakesFile name (λ o. Some created) (Ok tt) s m → MakesFile name (λ o. option_map (grown len) o) (Ok tt) m n → Holds n (λ d. IsSome (file_at d name))
grown_there name len s m n begin grow = made_there name (λ o. option_map (grown len) (Some created)) s n (λ o. refl) (makes_then name (λ o. Some created) (λ o. option_map (grown len) o) (Ok tt) s m n begin grow)

pub filled_there : (name : Name) (bytes : List ℕ) (s m n : FilesState) → MakesFile name (λ o. Some created) (Ok tt) s m → MakesFile name (λ o. option_map (λ f. written f 0 bytes) o) (Ok tt) m n → Holds n (λ d. IsSome (file_at d name))
filled_there name bytes s m n begin fill = made_there name (λ o. option_map (λ f. written f 0 bytes) (Some created)) s n (λ o. refl) (makes_then name (λ o. Some created) (λ o. option_map (λ f. written f 0 bytes) o) (Ok tt) s m n begin fill)
