-- A directory in memory, as its callers see it, and what each call does to it. (own)
use Rattle.std.specs.Prelude.{◌≡◌, ◌↔◌, ℕ, ◌++◌, ◌∷◌, [], Bool, true, false, List, map, nat_le, Result, is_ok, ◌&&◌, IsErrOf, IsTrue, if◌then◌else◌}
use Rattle.std.specs.List.{take_while}
use Rattle.std.specs.FinMap.{empty}
use Rattle.zn_base.specs.Causes.{one_more}
use Rattle.zn_stand.specs.Directory.{Directory}
use Rattle.zn_stand.specs.Calls.{Call, TellNames, TellLen, ReadFrom, WriteFrom, SetLength, CreateFile, SyncFile}
use Rattle.zn_files.specs.declared.error.FileError.{FileError}
use Rattle.zn_files.specs.declared.error.FileError.TheVariants.{Fault, Memory}
use Rattle.zn_files.specs.declared.listed.Listed.{Listed}
use Rattle.zn_files.specs.Listed.{is_due, kind_of, passed}
use Rattle.zn_files.specs.Replays.{replayed, histories}
use Rattle.zn_files.specs.States.{FilesState}

-- A directory in memory: the calls that made it what it was at first; each call that changed it since, with how many
-- calls there were, this one among them; the calls that are to fail; how many calls there were, but for those that
-- lacked memory; and how many faults.
pub record MemState : Type 0 where
  pub given : List Call
  pub made : List (ℕ × Call)
  pub listed : List Listed
  pub calls : ℕ
  pub faults : ℕ

-- the directory at first
abbrev pub first : MemState → Directory
first s = replayed empty s.given

-- the calls that changed it since
abbrev pub changes : MemState → List Call
changes s = map (λ e. e.1) s.made

-- the directory now
abbrev pub now : MemState → Directory
now s = replayed (first s) (changes s)

-- the calls that changed it among so many
abbrev pub changes_until : MemState → ℕ → List Call
changes_until s calls = map (λ e. e.1) (take_while (λ e. nat_le e.0 calls) s.made)

-- the directory after so many calls
abbrev pub directory_after : MemState → ℕ → Directory
directory_after s calls = replayed (first s) (changes_until s calls)

-- its contents are told, at each moment
abbrev pub files_state : MemState → FilesState
files_state s = record { history = histories [] (first s) (changes s); faults = s.faults }

-- whether a call that is done changes the directory
abbrev pub is_change : Call → Bool
is_change TellNames = false
is_change (TellLen name) = false
is_change (ReadFrom name at n) = false
is_change (WriteFrom name at bytes) = true
is_change (SetLength name len) = true
is_change (CreateFile name) = true
is_change (SyncFile name) = true

-- A call fails exactly where it is listed, and then does nothing. It is counted unless memory is wanting, and recorded
-- where it is done and changes the directory.
pub record MemCalled {T : Type 0} (call : Call) (result : Result T FileError) (old new : MemState) : Type 0 where
  pub fault : IsErrOf result Fault ↔ IsTrue (is_due old.listed (kind_of call))
  pub counted : IsErrOf result Fault → new.faults ≡ one_more old.faults
  pub memory : IsErrOf result Memory → new ≡ old
  pub called : (IsErrOf result Memory → ⊥) → new.calls ≡ one_more old.calls
  pub passed : (IsErrOf result Memory → ⊥) → new.listed ≡ passed old.listed (kind_of call)
  pub made : new.made ≡ (if is_ok result && is_change call then old.made ++ (new.calls, call) ∷ [] else old.made)
  pub given : new.given ≡ old.given
