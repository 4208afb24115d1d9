-- One look after another.
use Rattle.std.proofs.Common.{◌≡◌, ◌⊎◌, ◌≢◌, inl, inr, ℕ, ◌≤◌, Bool, true, false, cond, List, [], ◌∷◌, Option, Some, None, Result, Ok, Err, refl, sym, ap, ◌∙◌, subst, arith}
use Rattle.std.specs.Prelude.{IsErrOf, IfOk, IfErr, IsTrue, IsSome, is_some}
use Rattle.std.specs.Option.{option_map}
use Rattle.zn_base.specs.Causes.{Rose}
use Rattle.zn_stand.specs.Directory.{Directory, contents, file_at}
use Rattle.zn_stand.specs.Maps.{Name}
use Rattle.zn_stand.specs.Calls.{Call, SyncFile, made}
use Rattle.zn_files.specs.declared.error.FileError.{FileError}
use Rattle.zn_files.specs.declared.error.FileError.TheVariants.{Fault as Failed, Missing, Exists, Memory as NoMemory}
use Rattle.zn_files.specs.Refusals.{refusal, unless_there}
use Rattle.zn_files.specs.States.{FilesState, directory, is_told, Called}
use Rattle.zn_backing.specs.declared.error.OpenError.{OpenError}
use Rattle.zn_backing.specs.declared.error.OpenError.TheVariants.{Fault, Memory}
use Rattle.zn_backing.specs.Failures.{failed, cause_of}
use Rattle.zn_backing.specs.Steps.{Steps, Sought, Syncs, IsCauseIn, IsFileIn}

map_same : (change : Directory → Directory) (o : Option Directory) → ((d : Directory) → change d ≡ d) → option_map change o ≡ o
map_same change None is = refl
map_same change (Some d) is = ap Some (is d)

-- a call that is done, and changes nothing
pub steps_done : {T U : Type 0} (call : Call) (x : T) (y : U) (old new : FilesState) → ((d : Directory) → made call d ≡ d) → Called call (Ok x) old new → Steps {T = U} (Ok y) old new
steps_done call x y old new same called = record {
  later = called.cause.later;
  fault = λ is. absurd (cc);
  kept = λ _. called.cause.done;
  told = called.told;
  same = λ _. called.done refl ∙ map_same (made call) (directory old) same;
}

-- a call that isn't refused, and isn't done
pub refused_not : (call : Call) (old : FilesState) (e : FileError) → ((d : Directory) → directory old ≡ Some d → refusal call d ≡ None) → ((d : Directory) → directory old ≡ Some d → Some e ≡ refusal call d) → is_told old ≡ false
refused_not call old e none some = at (directory old) refl
  where
    at : (o : Option Directory) → directory old ≡ o → is_some o ≡ false
    at None is = refl
    at (Some d) is = absurd (cc (none d is, some d is))

failed_rose : {T : Type 0} (call : Call) (e : FileError) (old new : FilesState) → ((d : Directory) → directory old ≡ Some d → refusal call d ≡ None) → Called {T = T} call (Err e) old new → failed e ≡ Fault → Rose old.faults new.faults
failed_rose call Failed old new none called is = called.cause.fault refl
failed_rose call Missing old new none called is = called.cause.missing (refused_not call old Missing none (λ d there. called.answer d there refl)) refl
failed_rose call Exists old new none called is = called.cause.exists (refused_not call old Exists none (λ d there. called.answer d there refl)) refl
failed_rose call NoMemory old new none called is = absurd (cc)

failed_kept : {T : Type 0} (call : Call) (e : FileError) (old new : FilesState) → Called {T = T} call (Err e) old new → failed e ≢ Fault → new ≡ old
failed_kept call Failed old new called apart = absurd (apart refl)
failed_kept call Missing old new called apart = absurd (apart refl)
failed_kept call Exists old new called apart = absurd (apart refl)
failed_kept call NoMemory old new called apart = called.memory refl

failed_is : {U : Type 0} (e : OpenError) → ◌≡◌ {A = Result U OpenError} (Err e) (Err Fault) → e ≡ Fault
failed_is e is = cc

pub steps_failed : {T U : Type 0} (call : Call) (e : FileError) (old new : FilesState) → ((d : Directory) → directory old ≡ Some d → refusal call d ≡ None) → Called {T = T} call (Err e) old new → Steps {T = U} (Err (failed e)) old new
steps_failed {T} {U} call e old new none called = record {
  later = called.cause.later;
  fault = λ is. failed_rose call e old new none called (failed_is {U = U} (failed e) is);
  kept = λ apart. ap (λ (s : FilesState). s.faults) (failed_kept call e old new called (λ is. apart (ap Err is)));
  told = called.told;
  same = λ apart. ap directory (failed_kept call e old new called (λ is. apart (ap Err is)));
}

pub syncs_done : {T U : Type 0} (call : Call) (x : T) (y : U) (old new : FilesState) → Called call (Ok x) old new → Syncs {T = U} (Ok y) (made call) old new
syncs_done call x y old new called = record {
  later = called.cause.later;
  fault = λ is. absurd (cc);
  kept = called.cause.done;
  told = called.told;
  done = called.done refl;
}

pub syncs_failed : {T U : Type 0} (call : Call) (e : FileError) (old new : FilesState) → ((d : Directory) → directory old ≡ Some d → refusal call d ≡ None) → Called {T = T} call (Err e) old new → Syncs {T = U} (Err (failed e)) (made call) old new
syncs_failed {T} {U} call e old new none called = record {
  later = called.cause.later;
  fault = λ is. failed_rose call e old new none called (failed_is {U = U} (failed e) is);
  kept = tt;
  told = called.told;
  done = tt;
}

-- a call on a file that is there isn't refused
pub there_none : (d : Directory) (name : Name) → IsSome (file_at d name) → unless_there d name ≡ None
there_none d name some = ap (λ b. cond b None (Some Missing)) some

-- an answer without a call
pub steps_none : {T : Type 0} (result : Result T OpenError) (s : FilesState) → result ≢ Err Fault → Steps result s s
steps_none result s apart = record { later = omega arith; fault = λ is. absurd (apart is); kept = λ _. refl; told = refl; same = λ _. refl }

-- one look after another
pub steps_then : {T U : Type 0} (x : T) (result : Result U OpenError) (old middle new : FilesState) → Steps {T = T} (Ok x) old middle → Steps result middle new → Steps result old new
steps_then x result old middle new first then_more =
    let kept : middle.faults ≡ old.faults = first.kept (λ is. absurd (cc)) in
    record {
      later = omega (arith, kept, then_more.later);
      fault = λ is. subst (λ n. Rose n new.faults) kept (then_more.fault is);
      kept = λ apart. then_more.kept apart ∙ kept;
      told = then_more.told ∙ first.told;
      same = λ apart. then_more.same apart ∙ first.same (λ is. absurd (cc));
    }

-- an error that is handed on
pub steps_handed : {T U : Type 0} (e : OpenError) (old new : FilesState) → Steps {T = T} (Err e) old new → Steps {T = U} (Err e) old new
steps_handed {T} {U} e old new steps = record {
  later = steps.later;
  fault = λ is. steps.fault (ap Err (failed_is {U = U} e is));
  kept = λ apart. steps.kept (λ is. apart (ap Err (failed_is {U = T} e is)));
  told = steps.told;
  same = λ apart. steps.same (λ is. apart (ap Err (failed_is {U = T} e is)));
}

pub sought_handed : {T U : Type 0} (e : OpenError) (old new : FilesState) (P : Directory → T → Type 0) (Q : Directory → U → Type 0) → Sought {T = T} (Err e) old new P → Sought {T = U} (Err e) old new Q
sought_handed {T} {U} e old new P Q sought = record {
  steps = steps_handed {T = T} {U = U} e old new sought.steps;
  found = λ d is. tt;
  cause = λ d is. sought.cause d is;
}

-- after a look that found something, one that fails
pub sought_after : {T U V : Type 0} (x : T) (e : OpenError) (old middle new : FilesState) (P : Directory → U → Type 0) (Q : Directory → V → Type 0) → Steps {T = T} (Ok x) old middle → Sought {T = U} (Err e) middle new P → Sought {T = V} (Err e) old new Q
sought_after {T} {U} {V} x e old middle new P Q first sought = record {
  steps = steps_then x (Err e) old middle new first (steps_handed {T = U} {U = V} e middle new sought.steps);
  found = λ d is. tt;
  cause = λ d is. sought.cause d (first.same (λ is. absurd (cc)) ∙ is);
}

-- want of memory after a look
pub sought_memory : {T V : Type 0} (x : T) (old new : FilesState) (Q : Directory → V → Type 0) → Steps {T = T} (Ok x) old new → Sought {T = V} (Err Memory) old new Q
sought_memory {T} {V} x old new Q first = record {
  steps = steps_then x (Err Memory) old new new first (steps_none (Err Memory) new (λ is. absurd (cc)));
  found = λ d is. tt;
  cause = λ d is. tt;
}

-- a failed call is no cause in the directory
pub failed_plain : (e : FileError) → cause_of (failed e) ≡ None
failed_plain Failed = refl
failed_plain Missing = refl
failed_plain Exists = refl
failed_plain NoMemory = refl
