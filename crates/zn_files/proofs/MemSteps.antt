-- What a call makes of a directory in memory, and what it owes there.
use Rattle.std.proofs.Common.{◌≡◌, inl, inr, ℕ, ◌≤◌, Bool, true, false, cond, List, [], ◌∷◌, ◌++◌, length, map, Option, Some, None, Ok, Err, refl, sym, ap, ◌∙◌, subst}
use Rattle.std.specs.Prelude.{is_some}
use Rattle.std.specs.BTreeMap.{get_by_text}
use Rattle.std.specs.FinMap.{empty}
use Rattle.std.specs.Global.{Vec}
use Rattle.std.specs.Option.{option_map}
use Rattle.std.proofs.lemmas.List.{map-append}
use Rattle.std.proofs.lemmas.Option.{same_Some}
use Rattle.zn_base.specs.Causes.{one_more}
use Rattle.zn_stand.specs.File.{File, created}
use Rattle.zn_stand.specs.Maps.{Name}
use Rattle.zn_stand.specs.Directory.{Directory, file_at, with_file}
use Rattle.zn_stand.specs.Calls.{Call, CreateFile, made, changed, IsWithin, IsCallFor}
use Rattle.zn_stand.specs.History.{History, newest}
use Rattle.zn_stand.proofs.NameMaps.{same_name, at_same, at_other}
use Rattle.zn_stand.proofs.Directories.{changed_same, changed_other}
use Rattle.zn_files.specs.declared.error.FileError.{FileError}
use Rattle.zn_files.specs.declared.error.FileError.TheVariants.{Fault, Missing, Exists}
use Rattle.zn_files.specs.Replays.{replayed, histories, AreCallsFor}
use Rattle.zn_files.specs.Refusals.{refusal, unless_there, if_there}
use Rattle.zn_files.specs.declared.record.Recorded.{Recorded}
use Rattle.zn_files.specs.Record.{call_of, recorded_of}
use Rattle.zn_files.specs.States.{WhereTold, Called}
use Rattle.zn_files.specs.Stores.{Store, bytes_in, ChangesStored, AddsStored, HoldsFiles}
use Rattle.zn_files.specs.Sound.{IsSoundMemory, newest-histories, sound_memory}
use Rattle.zn_files.proofs.ReplayLaws.{replayed-append, calls_both}
use Rattle.zn_files.proofs.MemCalls.{struck_called, refused_called, looked_called, done_called}

-- ---- files that are held

pub there_holds : (store : Store) (d : Directory) (name : Name) → HoldsFiles store d → is_some (file_at d name) ≡ is_some (get_by_text store name)
there_holds store d name holds = both (get_by_text store name) (file_at d name) (holds name)
  where
    both : (v : Option (Vec ℕ)) (o : Option File) → option_map (λ x. x.items) v ≡ option_map (λ f. f.bytes) o → is_some o ≡ is_some v
    both None None is = refl
    both None (Some f) is = absurd (cc)
    both (Some v) None is = absurd (cc)
    both (Some v) (Some f) is = refl

pub changed_holds : (old new : Store) (d : Directory) (name : Name) (change : List ℕ → List ℕ) (g : File → File) → ((f : File) → (g f).bytes ≡ change f.bytes) → ChangesStored old new name change → HoldsFiles old d → HoldsFiles new (changed d name g)
changed_holds old new d name change g same changes holds q = elim (same_name q name) [
  | inl is ↦ ap (bytes_in new) is.0 ∙ changes.here ∙ ap (option_map change) (holds name) ∙ here (file_at d name) ∙ sym (ap (option_map (λ f. f.bytes)) (changed_same d name g)) ∙ ap (λ n. option_map (λ f. f.bytes) (file_at (changed d name g) n)) (sym is.0)
  | inr other ↦ changes.others q other.0 ∙ holds q ∙ sym (ap (option_map (λ f. f.bytes)) (changed_other d name g q other.0))
]
  where
    here : (o : Option File) → option_map change (option_map (λ f. f.bytes) o) ≡ option_map (λ f. f.bytes) (option_map g o)
    here None = refl
    here (Some f) = ap Some (sym (same f))

pub created_holds : (old new : Store) (d : Directory) (name : Name) → is_some (file_at d name) ≡ false → AddsStored old new name [] → HoldsFiles old d → HoldsFiles new (made (CreateFile name) d)
created_holds old new d name none adds holds = subst (λ b. HoldsFiles new (cond b d (with_file d name (Some created)))) (sym none) (λ q. elim (same_name q name) [
  | inl is ↦ ap (bytes_in new) is.0 ∙ adds.here ∙ sym (ap (option_map (λ f. f.bytes)) (at_same d name created)) ∙ ap (λ n. option_map (λ f. f.bytes) (file_at (with_file d name (Some created)) n)) (sym is.0)
  | inr other ↦ adds.others q other.0 ∙ holds q ∙ sym (ap (option_map (λ f. f.bytes)) (at_other d name created q other.0))
])

-- ---- one call more

abbrev pub made_since : List (ℕ × Call) → List Call
made_since made = map (λ e. e.1) made

pub since-more : (made : List (ℕ × Call)) (n : ℕ) (call : Call) → made_since (made ++ (n, call) ∷ []) ≡ made_since made ++ call ∷ []
since-more made n call = map-append (λ e. e.1) made ((n, call) ∷ [])

histories-more : (h : History) (d : Directory) (calls : List Call) (call : Call) → histories h d (calls ++ call ∷ []) ≡ made call (replayed d calls) ∷ histories h d calls
histories-more h d [] call = refl
histories-more h d (first ∷ calls) call = histories-more (d ∷ h) (made first d) calls call

module _ (given : List Call) (since : List (ℕ × Call)) (store : Store) (sound : IsSoundMemory given since store) where
  -- the directory now
  abbrev pub here : Directory
  here = replayed (replayed empty given) (made_since since)

  abbrev pub past : History
  past = histories [] (replayed empty given) (made_since since)

  -- what is told is told of it
  pub told_here : (n : ℕ) (name : Name) (P : List ℕ → Type 0) → WhereTold (record { history = past; faults = n }) name P → (f : File) → file_at here name ≡ Some f → P f.bytes
  told_here n name P told f is = told here f (newest-histories [] (replayed empty given) (made_since since)) is

  pub here_is : (d : Directory) → newest past ≡ Some d → here ≡ d
  here_is d is = same_Some here d (sym (newest-histories [] (replayed empty given) (made_since since)) ∙ is)

  pub bytes_here : (name : Name) (v : Vec ℕ) (d : Directory) (f : File) → get_by_text store name ≡ Some v → newest past ≡ Some d → file_at d name ≡ Some f → v.items ≡ f.bytes
  bytes_here name v d f there told is =
      same_Some v.items f.bytes (sym (ap (option_map (λ x. x.items)) there) ∙ sound.files name ∙ ap (option_map (λ f. f.bytes)) (ap (λ e. file_at e name) (here_is d told) ∙ is))

  -- and of what is held of it
  pub held_within : (n : ℕ) (name : Name) (P : List ℕ → Type 0) → WhereTold (record { history = past; faults = n }) name P → (v : Vec ℕ) → get_by_text store name ≡ Some v → P v.items
  held_within n name P told v there = by_case (file_at here name) refl (sym (ap (option_map (λ x. x.items)) there) ∙ sound.files name)
    where
      by_case : (o : Option File) → file_at here name ≡ o → Some v.items ≡ option_map (λ f. f.bytes) o → P v.items
      by_case None is same = absurd (cc)
      by_case (Some f) is same = subst P (sym (same_Some v.items f.bytes same)) (told_here n name P told f is)

  pub recorded_sound : (new : Store) (n : ℕ) (call : Call) → IsCallFor here call → HoldsFiles new (made call here) → IsSoundMemory given (since ++ (n, call) ∷ []) new
  recorded_sound new n call fits holds = record {
    first = sound.first;
    since = subst (AreCallsFor (replayed empty given)) (sym (since-more since n call)) (calls_both (replayed empty given) (made_since since) (call ∷ []) sound.since (fits, tt));
    files = subst (HoldsFiles new) (sym (ap (replayed (replayed empty given)) (since-more since n call) ∙ replayed-append (replayed empty given) (made_since since) (call ∷ []))) holds;
  }

  pub struck_here : (T : Type 0) (call : Call) (n m : ℕ) → m ≡ one_more n → n ≤ m → Called {T = T} call (Err Fault) (record { history = past; faults = n }) (record { history = past; faults = m })
  struck_here T call = struck_called T call past here (newest-histories [] (replayed empty given) (made_since since)) (sound_memory given since store sound)

  pub refused_here : (T : Type 0) (call : Call) (n m : ℕ) (e : FileError) → m ≡ n → refusal call here ≡ Some e → Called {T = T} call (Err e) (record { history = past; faults = n }) (record { history = past; faults = m })
  refused_here T call n m e same is = subst (λ k. Called {T = T} call (Err e) (record { history = past; faults = n }) (record { history = past; faults = k })) (sym same)
      (refused_called T call past here (newest-histories [] (replayed empty given) (made_since since)) (sound_memory given since store sound) n e is)

  pub looked_here : (T : Type 0) (call : Call) (n m : ℕ) (value : T) → m ≡ n → refusal call here ≡ None → made call here ≡ here → Called {T = T} call (Ok value) (record { history = past; faults = n }) (record { history = past; faults = m })
  looked_here T call n m value same accepted unchanged = subst (λ k. Called {T = T} call (Ok value) (record { history = past; faults = n }) (record { history = past; faults = k })) (sym same)
      (looked_called T call past here (newest-histories [] (replayed empty given) (made_since since)) (sound_memory given since store sound) n value accepted unchanged)

  pub done_here : (T : Type 0) (call : Call) (n m number : ℕ) (value : T) (after : List (ℕ × Call)) → m ≡ n → after ≡ since ++ (number, call) ∷ [] → refusal call here ≡ None
      → Called {T = T} call (Ok value) (record { history = past; faults = n }) (record { history = histories [] (replayed empty given) (made_since after); faults = m })
  done_here T call n m number value after same more accepted =
      let later : histories [] (replayed empty given) (made_since after) ≡ made call here ∷ past = ap (λ calls. histories [] (replayed empty given) (made_since calls)) more ∙ ap (histories [] (replayed empty given)) (since-more since number call) ∙ histories-more [] (replayed empty given) (made_since since) call in
      subst (λ (h : History). Called {T = T} call (Ok value) (record { history = past; faults = n }) (record { history = h; faults = m })) (sym later)
      (subst (λ k. Called {T = T} call (Ok value) (record { history = past; faults = n }) (record { history = made call here ∷ past; faults = k })) (sym same)
      (done_called T call past here (newest-histories [] (replayed empty given) (made_since since)) (sound_memory given since store sound) n value accepted))

-- ---- names that are there, and that aren't

module _ (store : Store) (d : Directory) (name : Name) (holds : HoldsFiles store d) (b : Bool) (found : b ≡ is_some (get_by_text store name)) where
  tells : is_some (file_at d name) ≡ b
  tells = there_holds store d name holds ∙ sym found

  pub is_missing : b ≡ false → unless_there d name ≡ Some Missing
  is_missing is = ap (λ t. cond t None (Some Missing)) (tells ∙ is)

  pub is_there : b ≡ true → unless_there d name ≡ None
  is_there is = ap (λ t. cond t None (Some Missing)) (tells ∙ is)

  pub is_existing : b ≡ true → if_there d name ≡ Some Exists
  is_existing is = ap (λ t. cond t (Some Exists) None) (tells ∙ is)

  pub is_absent : b ≡ false → if_there d name ≡ None
  is_absent is = ap (λ t. cond t (Some Exists) None) (tells ∙ is)

  pub none_at : b ≡ false → is_some (file_at d name) ≡ false
  none_at is = tells ∙ is

-- one more call in the record
pub recorded_more : (before middle after : List Recorded) (r : Recorded) (call : Call) → middle ≡ before → after ≡ middle ++ r ∷ [] → call_of r.change ≡ call → map recorded_of after ≡ map recorded_of before ++ (r.number, call) ∷ []
recorded_more before middle after r call same more is =
    ap (map recorded_of) (more ∙ ap (λ l. l ++ r ∷ []) same) ∙ map-append recorded_of before (r ∷ []) ∙ ap (λ x. map recorded_of before ++ (r.number, x) ∷ []) is

-- a change that leaves a file's bytes leaves what is held
pub same_holds : (store : Store) (d : Directory) (name : Name) (g : File → File) → ((f : File) → (g f).bytes ≡ f.bytes) → HoldsFiles store d → HoldsFiles store (changed d name g)
same_holds store d name g same holds = changed_holds store store d name (λ bytes. bytes) g same (record { here = as_is (bytes_in store name); others = λ q apart. refl }) holds
  where
    as_is : (o : Option (List ℕ)) → o ≡ option_map (λ bytes. bytes) o
    as_is None = refl
    as_is (Some bytes) = refl

-- a place that lies within a file lies within what is held of it
pub within_stored : (store : Store) (d : Directory) (name : Name) (at : ℕ) → HoldsFiles store d → IsWithin d name at → (old : List ℕ) → bytes_in store name ≡ Some old → at ≤ length old
within_stored store d name at holds within old is = by_case (file_at d name) refl (sym (holds name) ∙ is)
  where
    by_case : (o : Option File) → file_at d name ≡ o → option_map (λ f. f.bytes) o ≡ Some old → at ≤ length old
    by_case None there none = absurd (cc)
    by_case (Some f) there same = subst (λ (bytes : List ℕ). at ≤ length bytes) (same_Some f.bytes old same) (within f there)

pub there_now : (store : Store) (d : Directory) (name : Name) → HoldsFiles store d → (v : Vec ℕ) → get_by_text store name ≡ Some v → unless_there d name ≡ None
there_now store d name holds v is = is_there store d name holds true (sym (ap is_some is)) refl

pub missing_there : (store : Store) (d : Directory) (name : Name) → HoldsFiles store d → get_by_text store name ≡ None → unless_there d name ≡ Some Missing
missing_there store d name holds is = is_missing store d name holds false (sym (ap is_some is)) refl
