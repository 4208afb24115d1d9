-- What every directory in memory keeps to. (own)
use Rattle.std.specs.Prelude.{◌≡◌, ℕ, List, [], ◌∷◌, map, Some}
use Rattle.std.specs.FinMap.{empty, get-empty}
use Rattle.std.proofs.Common.{refl, sym, ◌∙◌, subst}
use Rattle.std.proofs.Props.{props}
use Rattle.std.proofs.lemmas.Option.{same_Some}
use Rattle.zn_stand.specs.File.{File}
use Rattle.zn_stand.specs.Maps.{name_cmp}
use Rattle.zn_stand.specs.Directory.{Directory, IsSoundDirectory}
use Rattle.zn_stand.specs.History.{History, newest}
use Rattle.zn_stand.proofs.Directories.{calls_keep_sound}
use Rattle.zn_stand.specs.Calls.{Call, TellNames, TellLen, ReadFrom, WriteFrom, SetLength, CreateFile, SyncFile, made, IsCallFor}
use Rattle.zn_files.specs.declared.record.Change.{Change}
use Rattle.zn_files.specs.declared.record.Recorded.{Recorded}
use Rattle.zn_files.specs.Record.{call_of, recorded_of}
use Rattle.zn_files.specs.Replays.{replayed, histories, AreCallsFor}
use Rattle.zn_files.specs.Stores.{Store, HoldsFiles}

-- The calls that it was given, and those that were made since, could be made, and its files are what they make.
pub record IsSoundMemory (given : List Call) (made : List (ℕ × Call)) (store : Store) : Type 0 where
  pub first : AreCallsFor empty given
  pub since : AreCallsFor (replayed empty given) (map (λ e. e.1) made)
  pub files : HoldsFiles store (replayed (replayed empty given) (map (λ e. e.1) made))

-- the same of what is kept
abbrev pub IsKept : List Change → List Recorded → Store → Type 0
IsKept given made store = IsSoundMemory (map call_of given) (map recorded_of made) store

call_prop : (d : Directory) (call : Call) → IsProp (IsCallFor d call)
call_prop d TellNames = hlevel
call_prop d (TellLen name) = hlevel
call_prop d (ReadFrom name at n) = hlevel props
call_prop d (WriteFrom name at bytes) = hlevel props
call_prop d (SetLength name len) = hlevel
call_prop d (CreateFile name) = hlevel
call_prop d (SyncFile name) = hlevel

calls_prop : (d : Directory) (calls : List Call) → IsProp (AreCallsFor d calls)
calls_prop d [] = hlevel
calls_prop d (call ∷ calls) = hlevel (call_prop d call, calls_prop (made call d) calls)

-- there is one proof of it
pub sound_prop : (given : List Call) (made : List (ℕ × Call)) (store : Store) → IsProp (IsSoundMemory given made store)
sound_prop given made store = hlevel (props, calls_prop)

pub kept_prop : (given : List Change) (made : List Recorded) (store : Store) → IsProp (IsKept given made store)
kept_prop given made store = sound_prop (map call_of given) (map recorded_of made) store

pub empty_sound : IsSoundDirectory empty
empty_sound name f is = absurd (cc (is, get-empty {X = File} name_cmp name))

-- what calls make of a sound directory is sound
pub replayed_sound : (d : Directory) (calls : List Call) → IsSoundDirectory d → AreCallsFor d calls → IsSoundDirectory (replayed d calls)
replayed_sound d [] sound fits = sound
replayed_sound d (call ∷ calls) sound fits = replayed_sound (made call d) calls (calls_keep_sound call d sound fits.0) fits.1

pub newest-histories : (h : History) (d : Directory) (calls : List Call) → newest (histories h d calls) ≡ Some (replayed d calls)
newest-histories h d [] = refl
newest-histories h d (call ∷ calls) = newest-histories (d ∷ h) (made call d) calls

-- so the directory in memory is sound
pub sound_memory : (given : List Call) (made : List (ℕ × Call)) (store : Store) → IsSoundMemory given made store → IsSoundDirectory (replayed (replayed empty given) (map (λ e. e.1) made))
sound_memory given made store sound = replayed_sound (replayed empty given) (map (λ e. e.1) made) (replayed_sound empty given empty_sound sound.first) sound.since

pub sound_now : (given : List Call) (made : List (ℕ × Call)) (store : Store) (d : Directory) → IsSoundMemory given made store → newest (histories [] (replayed empty given) (map (λ e. e.1) made)) ≡ Some d → IsSoundDirectory d
sound_now given made store d sound is =
    subst IsSoundDirectory (same_Some (replayed (replayed empty given) (map (λ e. e.1) made)) d (sym (newest-histories [] (replayed empty given) (map (λ e. e.1) made)) ∙ is)) (sound_memory given made store sound)

pub kept_now : (given : List Change) (made : List Recorded) (store : Store) (d : Directory) → IsKept given made store → newest (histories [] (replayed empty (map call_of given)) (map (λ e. e.1) (map recorded_of made))) ≡ Some d → IsSoundDirectory d
kept_now given made store d sound is = sound_now (map call_of given) (map recorded_of made) store d sound is
