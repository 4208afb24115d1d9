-- The traces of files.
use Rattle.std.proofs.Common.{◌≡◌, inl, inr, true, Option, Some, None, cond, refl, sym, subst}
use Rattle.std.specs.Prelude.{is_some}
use Rattle.std.specs.BTreeMap.{get_by_text}
use Rattle.std.specs.Option.{option_map}
use Rattle.zn_stand.specs.File.{File, created}
use Rattle.zn_stand.specs.Maps.{Name}
use Rattle.zn_stand.specs.Directory.{Directory, file_at, with_file}
use Rattle.zn_stand.specs.Calls.{CreateFile, changed, made}
use Rattle.zn_stand.proofs.NameMaps.{same_name, at_same, at_other}
use Rattle.zn_stand.proofs.Directories.{changed_same, changed_other}
use Rattle.zn_files.specs.declared.traced.Traced.{Traced}
use Rattle.zn_files.specs.Traces.{Traces, TraceMap, TracesAt, TracesAll}
use Rattle.zn_files.proofs.TextMaps.{Updated, text_here, text_other}

at : (t u : Option Traced) (o p : Option File) → u ≡ t → p ≡ o → TracesAt t o → TracesAt u p
at t u o p first second is = subst (λ (x : Option Traced). TracesAt x p) (sym first) (subst (TracesAt t) (sym second) is)

-- a file that is changed is traced as it is changed
pub changed_traced : (old new : TraceMap) (name : Name) (t w : Traced) (g : File → File) → get_by_text old name ≡ Some t → Updated name old new (Some w) → ((f : File) → Traces t f → Traces w (g f))
    → (d : Directory) → TracesAll old d → TracesAll new (changed d name g)
changed_traced old new name t w g there updates step d all q = elim (same_name q name) [
  | inl same ↦ subst (λ n. TracesAt (get_by_text new n) (file_at (changed d name g) n)) (sym same.0) (at (Some w) (get_by_text new name) (option_map g (file_at d name)) (file_at (changed d name g) name) (text_here name old new (Some w) updates) (changed_same d name g) (here (file_at d name) refl (subst (λ (x : Option Traced). TracesAt x (file_at d name)) there (all name))))
  | inr other ↦ at (get_by_text old q) (get_by_text new q) (file_at d q) (file_at (changed d name g) q) (text_other name old new (Some w) updates q other.0) (changed_other d name g q other.0) (all q)
]
  where
    here : (o : Option File) → file_at d name ≡ o → TracesAt (Some t) o → TracesAt (Some w) (option_map g o)
    here None is traces = absurd traces
    here (Some f) is traces = step f traces

-- a file that wasn't there is traced as it is created
pub created_traced : (old new : TraceMap) (name : Name) (w : Traced) → get_by_text old name ≡ None → Updated name old new (Some w) → Traces w created → (d : Directory) → TracesAll old d → TracesAll new (made (CreateFile name) d)
created_traced old new name w none updates fresh d all q = by_case (file_at d name) refl (subst (λ (x : Option Traced). TracesAt x (file_at d name)) none (all name))
  where
    by_case : (o : Option File) → file_at d name ≡ o → TracesAt None o → TracesAt (get_by_text new q) (file_at (cond (is_some o) d (with_file d name (Some created))) q)
    by_case (Some f) is traces = absurd traces
    by_case None is traces = elim (same_name q name) [
      | inl same ↦ subst (λ n. TracesAt (get_by_text new n) (file_at (with_file d name (Some created)) n)) (sym same.0) (at (Some w) (get_by_text new name) (Some created) (file_at (with_file d name (Some created)) name) (text_here name old new (Some w) updates) (at_same d name created) fresh)
      | inr other ↦ at (get_by_text old q) (get_by_text new q) (file_at d q) (file_at (with_file d name (Some created)) q) (text_other name old new (Some w) updates q other.0) (at_other d name created q other.0) (all q)
    ]

-- a file that was there stays so
pub there_traced : (old : TraceMap) (name : Name) → is_some (get_by_text old name) ≡ true → (d : Directory) → TracesAll old d → TracesAll old (made (CreateFile name) d)
there_traced old name there d all = by_case (get_by_text old name) (file_at d name) there (all name)
  where
    by_case : (t : Option Traced) (o : Option File) → is_some t ≡ true → TracesAt t o → TracesAll old (cond (is_some o) d (with_file d name (Some created)))
    by_case None o there traces = absurd (cc)
    by_case (Some t) None there traces = absurd traces
    by_case (Some t) (Some f) there traces = all
