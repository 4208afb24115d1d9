-- What calls on a directory in memory owe.
use Rattle.std.proofs.Common.{◌≡◌, ◌⊎◌, inl, inr, ⊎_elim, ℕ, ◌≤◌, true, cond, [], ◌∷◌, Option, Some, None, Ok, Err, refl, sym, ap, ◌∙◌, subst, arith}
use Rattle.std.specs.Prelude.{is_some, IsErrOf}
use Rattle.std.specs.Option.{option_map}
use Rattle.std.proofs.lemmas.Option.{same_Some}
use Rattle.zn_base.specs.Causes.{one_more}
use Rattle.zn_stand.specs.File.{File, created, written, resized, synced}
use Rattle.zn_stand.specs.Maps.{Name}
use Rattle.zn_stand.specs.Directory.{Directory, Contents, file_at, with_file, contents, IsImageOf, IsSoundDirectory}
use Rattle.zn_stand.specs.Calls.{Call, TellNames, TellLen, ReadFrom, WriteFrom, SetLength, CreateFile, SyncFile, made, during, changed}
use Rattle.zn_stand.specs.History.{History, newest}
use Rattle.zn_stand.proofs.Directories.{read_is_image, before_inside, after_inside}
use Rattle.zn_stand.proofs.Histories.{leaves_nothing}
use Rattle.zn_files.specs.declared.error.FileError.{FileError}
use Rattle.zn_files.specs.declared.error.FileError.TheVariants.{Fault, Missing, Exists, Memory}
use Rattle.zn_files.specs.Refusals.{refusal}
use Rattle.zn_files.specs.States.{MayLeaveInside, Called}

-- ---- refused calls

missing : (o : Option File) (e : FileError) → cond (is_some o) None (Some Missing) ≡ Some e → (o ≡ None) × (e ≡ Missing)
missing None e is = (refl, sym (same_Some Missing e is))
missing (Some f) e is = absurd (cc)

existing : (o : Option File) (e : FileError) → cond (is_some o) (Some Exists) None ≡ Some e → (is_some o ≡ true) × (e ≡ Exists)
existing None e is = absurd (cc)
existing (Some f) e is = (refl, sym (same_Some Exists e is))

changed_none : (d : Directory) (name : Name) (change : File → File) → file_at d name ≡ None → changed d name change ≡ d
changed_none d name change none = ap (λ o. with_file d name (option_map change o)) none

-- a call that is refused changes nothing
pub refused_same : (call : Call) (d : Directory) (e : FileError) → refusal call d ≡ Some e → made call d ≡ d
refused_same TellNames d e is = refl
refused_same (TellLen name) d e is = refl
refused_same (ReadFrom name at n) d e is = refl
refused_same (WriteFrom name at bytes) d e is = changed_none d name (λ f. written f at bytes) (missing (file_at d name) e is).0
refused_same (SetLength name len) d e is = changed_none d name (λ f. resized f len) (missing (file_at d name) e is).0
refused_same (CreateFile name) d e is = ap (λ b. cond b d (with_file d name (Some created))) (existing (file_at d name) e is).0
refused_same (SyncFile name) d e is = changed_none d name synced (missing (file_at d name) e is).0

-- and it answers that the file is missing, or that it exists
refused_by : (call : Call) (d : Directory) (e : FileError) → refusal call d ≡ Some e → (e ≡ Missing) ⊎ (e ≡ Exists)
refused_by TellNames d e is = absurd (cc)
refused_by (TellLen name) d e is = inl (missing (file_at d name) e is).1
refused_by (ReadFrom name at n) d e is = inl (missing (file_at d name) e is).1
refused_by (WriteFrom name at bytes) d e is = inl (missing (file_at d name) e is).1
refused_by (SetLength name len) d e is = inl (missing (file_at d name) e is).1
refused_by (CreateFile name) d e is = inr (existing (file_at d name) e is).1
refused_by (SyncFile name) d e is = inl (missing (file_at d name) e is).1

-- ---- what each answer owes

-- the contents are among what a stop inside the call may leave
contents_inside : (call : Call) (d : Directory) → IsSoundDirectory d → IsImageOf (during call d) (contents d)
contents_inside call d sound = before_inside call d (contents d) sound (read_is_image d sound)

told_now : (o : Option Directory) (d : Directory) → o ≡ Some d → is_some o ≡ true
told_now o d is = ap is_some is

inside : (call : Call) (h : History) (d : Directory) → newest h ≡ Some d → (image : Contents) → IsImageOf (during call d) image → MayLeaveInside call (newest h) image
inside call h d now image is = subst (λ o. MayLeaveInside call o image) (sym now) is

module _ (T : Type 0) (call : Call) (h : History) (d : Directory) (now : newest h ≡ Some d) (sound : IsSoundDirectory d) where
  -- a call that fails
  pub struck_called : (n m : ℕ) → m ≡ one_more n → n ≤ m → Called {T = T} call (Err Fault) (record { history = h; faults = n }) (record { history = h; faults = m })
  struck_called n m rose no_fewer = record {
    done = λ answered. absurd (cc);
    answer = λ e is answered. absurd (cc);
    stops = leaves_nothing h (MayLeaveInside call (newest h));
    failed = λ fault e is. inside call h d now (contents e) (subst (λ x. IsImageOf (during call d) (contents x)) (same_Some d e (sym now ∙ is)) (contents_inside call d sound));
    memory = λ is. absurd (cc);
    told = refl;
    cause = record {
      later = no_fewer;
      fault = λ is. omega (arith, rose);
      missing = λ told is. absurd (cc);
      exists = λ told is. absurd (cc);
      done = tt;
      refused = λ told answered. absurd (cc);
    };
  }

  -- a call that is refused
  pub refused_called : (n : ℕ) (e : FileError) → refusal call d ≡ Some e → Called {T = T} call (Err e) (record { history = h; faults = n }) (record { history = h; faults = n })
  refused_called n e is = record {
    done = λ answered. now ∙ ap Some (sym (refused_same call d e is)) ∙ sym (ap (option_map (made call)) now);
    answer = λ f told answered. sym is ∙ ap (refusal call) (same_Some d f (sym now ∙ told));
    stops = leaves_nothing h (MayLeaveInside call (newest h));
    failed = λ fault f told. inside call h d now (contents f) (subst (λ x. IsImageOf (during call d) (contents x)) (same_Some d f (sym now ∙ told)) (contents_inside call d sound));
    memory = λ memory. refl;
    told = refl;
    cause = record {
      later = omega arith;
      fault = λ fault. absurd (apart e fault (refused_by call d e is));
      missing = λ told f. absurd (cc (told, told_now (newest h) d now));
      exists = λ told f. absurd (cc (told, told_now (newest h) d now));
      done = tt;
      refused = λ told answered. refl;
    };
  }
    where
      apart : (e : FileError) → IsErrOf {T = T} (Err e) Fault → (e ≡ Missing) ⊎ (e ≡ Exists) → ⊥
      apart e fault (inl is) = absurd (cc)
      apart e fault (inr is) = absurd (cc)

  -- a call that lacks memory
  pub starved_called : (n : ℕ) → Called {T = T} call (Err Memory) (record { history = h; faults = n }) (record { history = h; faults = n })
  starved_called n = record {
    done = λ answered. absurd (cc);
    answer = λ f told answered. absurd (cc);
    stops = leaves_nothing h (MayLeaveInside call (newest h));
    failed = λ fault. absurd (cc);
    memory = λ memory. refl;
    told = refl;
    cause = record {
      later = omega arith;
      fault = λ fault. absurd (cc);
      missing = λ told is. absurd (cc);
      exists = λ told is. absurd (cc);
      done = tt;
      refused = λ told answered. absurd (cc);
    };
  }

  -- a call that only looks
  pub looked_called : (n : ℕ) (value : T) → refusal call d ≡ None → made call d ≡ d → Called {T = T} call (Ok value) (record { history = h; faults = n }) (record { history = h; faults = n })
  looked_called n value accepted same = record {
    done = λ answered. now ∙ ap Some (sym same) ∙ sym (ap (option_map (made call)) now);
    answer = λ f told answered. sym accepted ∙ ap (refusal call) (same_Some d f (sym now ∙ told));
    stops = leaves_nothing h (MayLeaveInside call (newest h));
    failed = λ fault. absurd (cc);
    memory = λ memory. absurd (cc);
    told = refl;
    cause = record {
      later = omega arith;
      fault = λ fault. absurd (cc);
      missing = λ told is. absurd (cc);
      exists = λ told is. absurd (cc);
      done = refl;
      refused = λ told answered. refl;
    };
  }

  -- a call that is done
  pub done_called : (n : ℕ) (value : T) → refusal call d ≡ None → Called {T = T} call (Ok value) (record { history = h; faults = n }) (record { history = made call d ∷ h; faults = n })
  done_called n value accepted = record {
    done = λ answered. sym (ap (option_map (made call)) now);
    answer = λ f told answered. sym accepted ∙ ap (refusal call) (same_Some d f (sym now ∙ told));
    stops = record {
      since = made call d ∷ [];
      history = refl;
      each = λ image is. ⊎_elim (λ left. inside call h d now image (after_inside call d image sound left)) (λ none. absurd none) is;
    };
    failed = λ fault. absurd (cc);
    memory = λ memory. absurd (cc);
    told = sym (told_now (newest h) d now);
    cause = record {
      later = omega arith;
      fault = λ fault. absurd (cc);
      missing = λ told is. absurd (cc);
      exists = λ told is. absurd (cc);
      done = refl;
      refused = λ told answered. refl;
    };
  }
