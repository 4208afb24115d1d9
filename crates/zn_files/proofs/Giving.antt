-- A file that is given.
use Rattle.std.proofs.Common.{◌≡◌, inl, inr, ℕ, ◌+◌, cond, List, [], ◌∷◌, ◌++◌, length, map, Some, None, sym, ap, ◌∙◌, subst, arith, append-nil, append_assoc}
use Rattle.std.proofs.Math.Seq.{drop-nil}
use Rattle.std.specs.Prelude.{is_some}
use Rattle.std.specs.FinMap.{empty, insert}
use Rattle.std.specs.Option.{option_map}
use Rattle.zn_truth.specs.Orders.{replaced}
use Rattle.zn_stand.specs.File.{AreBytes, created, at_rest, written, synced}
use Rattle.zn_stand.specs.Maps.{Name}
use Rattle.zn_stand.specs.Directory.{Directory, file_at}
use Rattle.zn_stand.specs.Calls.{Call, WriteFrom, CreateFile, SyncFile, made, changed}
use Rattle.zn_stand.proofs.NameMaps.{same_name, at_same, at_other, maps_same}
use Rattle.zn_stand.proofs.Directories.{changed_same, changed_other}
use Rattle.std.proofs.lemmas.List.{map-append}
use Rattle.zn_files.specs.declared.record.Change.{Change}
use Rattle.zn_files.specs.Record.{call_of}
use Rattle.zn_files.specs.Replays.{replayed, AreCallsFor}
use Rattle.zn_files.specs.Stores.{Store, bytes_in, AddsStored, HoldsFiles}
use Rattle.zn_files.specs.Sound.{IsSoundMemory}
use Rattle.zn_files.proofs.ReplayLaws.{replayed-append, calls_both}

-- the calls that make a file with these bytes, at rest
abbrev pub giving : Name → List ℕ → List Call
giving name bytes = CreateFile name ∷ WriteFrom name 0 bytes ∷ SyncFile name ∷ []

all_written : (bytes : List ℕ) → replaced [] 0 bytes ≡ bytes
all_written bytes = ap (λ l. bytes ++ l) (drop-nil (0 + length bytes)) ∙ append-nil bytes

created_alone : (d : Directory) (name : Name) → file_at d name ≡ None → made (CreateFile name) d ≡ insert d name created
created_alone d name none = ap (λ o. cond (is_some o) d (insert d name created)) none

pub given_file : (d : Directory) (name : Name) (bytes : List ℕ) → file_at d name ≡ None → replayed d (giving name bytes) ≡ insert d name (at_rest bytes)
given_file d name bytes none =
    ap (λ e. made (SyncFile name) (made (WriteFrom name 0 bytes) e)) (created_alone d name none)
    ∙ maps_same (changed (changed (insert d name created) name (λ f. written f 0 bytes)) name synced) (insert d name (at_rest bytes)) (λ q. elim (same_name q name) [
      | inl same ↦ subst (λ n. file_at (changed (changed (insert d name created) name (λ f. written f 0 bytes)) name synced) n ≡ file_at (insert d name (at_rest bytes)) n) (sym same.0) (
          changed_same (changed (insert d name created) name (λ f. written f 0 bytes)) name synced
          ∙ ap (option_map synced) (changed_same (insert d name created) name (λ f. written f 0 bytes) ∙ ap (option_map (λ f. written f 0 bytes)) (at_same d name created))
          ∙ ap (λ (b : List ℕ). Some (at_rest b)) (all_written bytes)
          ∙ sym (at_same d name (at_rest bytes)))
      | inr other ↦ changed_other (changed (insert d name created) name (λ f. written f 0 bytes)) name synced q other.0 ∙ changed_other (insert d name created) name (λ f. written f 0 bytes) q other.0
          ∙ at_other d name created q other.0 ∙ sym (at_other d name (at_rest bytes) q other.0)
    ])

pub giving_fits : (d : Directory) (name : Name) (bytes : List ℕ) → AreBytes bytes → AreCallsFor d (giving name bytes)
giving_fits d name bytes small = (tt, ((λ f is. omega arith, small), (tt, tt)))

-- ---- in memory

given_holds : (old new : Store) (d : Directory) (name : Name) (bytes : List ℕ) → AddsStored old new name bytes → HoldsFiles old d → HoldsFiles new (insert d name (at_rest bytes))
given_holds old new d name bytes adds holds q = elim (same_name q name) [
  | inl same ↦ ap (bytes_in new) same.0 ∙ adds.here ∙ sym (ap (option_map (λ f. f.bytes)) (at_same d name (at_rest bytes))) ∙ ap (λ n. option_map (λ f. f.bytes) (file_at (insert d name (at_rest bytes)) n)) (sym same.0)
  | inr other ↦ adds.others q other.0 ∙ holds q ∙ sym (ap (option_map (λ f. f.bytes)) (at_other d name (at_rest bytes) q other.0))
]

module _ (given after : List Call) (made_since : List (ℕ × Call)) (old new : Store) (name : Name) (bytes : List ℕ) (sound : IsSoundMemory given made_since old) (fresh : made_since ≡ []) (absent : file_at (replayed empty given) name ≡ None) (more : after ≡ given ++ giving name bytes) where
  pub given_first : replayed empty after ≡ insert (replayed empty given) name (at_rest bytes)
  given_first = ap (replayed empty) more ∙ replayed-append empty given (giving name bytes) ∙ given_file (replayed empty given) name bytes absent

  pub given_sound : AreBytes bytes → AddsStored old new name bytes → IsSoundMemory after made_since new
  given_sound small adds = record {
    first = subst (AreCallsFor empty) (sym more) (calls_both empty given (giving name bytes) sound.first (giving_fits (replayed empty given) name bytes small));
    since = subst (λ (since : List (ℕ × Call)). AreCallsFor (replayed empty after) (map (λ e. e.1) since)) (sym fresh) tt;
    files = subst (λ (since : List (ℕ × Call)). HoldsFiles new (replayed (replayed empty after) (map (λ e. e.1) since))) (sym fresh) (subst (HoldsFiles new) (sym given_first)
        (given_holds old new (replayed empty given) name bytes adds (subst (λ (since : List (ℕ × Call)). HoldsFiles old (replayed (replayed empty given) (map (λ e. e.1) since))) fresh sound.files)));
  }

-- the calls that give a file, one after another
pub calls_given : (before middle one two three : List Change) (create write sync : Change) (name : Name) (bytes : List ℕ) → middle ≡ before → one ≡ middle ++ create ∷ [] → two ≡ one ++ write ∷ [] → three ≡ two ++ sync ∷ []
    → call_of create ≡ CreateFile name → call_of write ≡ WriteFrom name 0 bytes → call_of sync ≡ SyncFile name → map call_of three ≡ map call_of before ++ giving name bytes
calls_given before middle one two three create write sync name bytes same first second third is_create is_write is_sync =
    ap (map call_of) (third ∙ ap (λ l. l ++ sync ∷ []) (second ∙ ap (λ l. l ++ write ∷ []) (first ∙ ap (λ l. l ++ create ∷ []) same))
    ∙ append_assoc (before ++ create ∷ []) (write ∷ []) (sync ∷ []) ∙ append_assoc before (create ∷ []) (write ∷ sync ∷ []))
    ∙ map-append call_of before (create ∷ write ∷ sync ∷ [])
    ∙ ap (λ (l : List Call). map call_of before ++ l) (λ i. is_create i ∷ is_write i ∷ is_sync i ∷ [])
