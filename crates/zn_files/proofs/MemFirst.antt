-- A directory in memory as it begins.
use Rattle.std.proofs.Common.{◌≡◌, ℕ, List, [], map, sym, ap, ◌∙◌, subst}
use Rattle.std.specs.BTreeMap.{IsEmpty, is_at}
use Rattle.std.specs.Cmp.Lexicographic.{slice_cmp}
use Rattle.std.specs.Ordering.{nat_cmp}
use Rattle.std.specs.String.{string_bytes}
use Rattle.std.specs.Map.{lookup}
use Rattle.std.specs.FinMap.{empty, get-empty}
use Rattle.std.specs.Option.{option_map}
use Rattle.zn_stand.specs.File.{File}
use Rattle.zn_stand.specs.Maps.{name_cmp}
use Rattle.zn_stand.specs.Calls.{Call}
use Rattle.zn_files.specs.Replays.{replayed, AreCallsFor}
use Rattle.zn_files.specs.Stores.{Store, HoldsFiles}
use Rattle.zn_files.specs.Sound.{IsSoundMemory}

-- an empty store holds the files of an empty directory
empty_holds : (store : Store) → IsEmpty store → HoldsFiles store empty
empty_holds store none name = ap (λ es. option_map (λ v. v.items) (lookup (is_at (λ k. slice_cmp nat_cmp name (string_bytes k))) es)) none ∙ sym (ap (option_map (λ (f : File). f.bytes)) (get-empty {X = File} name_cmp name))

pub first_sound : (given : List Call) (made : List (ℕ × Call)) (store : Store) → given ≡ [] → made ≡ [] → IsEmpty store → IsSoundMemory given made store
first_sound given made store no_call none_made no_file = record {
  first = subst (AreCallsFor empty) (sym no_call) tt;
  since = subst (AreCallsFor (replayed empty given)) (sym (ap (map (λ e. e.1)) none_made)) tt;
  files = subst (HoldsFiles store) (sym (ap (λ calls. replayed (replayed empty given) (map (λ e. e.1) calls)) none_made ∙ ap (replayed empty) no_call)) (empty_holds store no_file);
}
