-- What a file in memory is traced as. (own)
use Rattle.std.specs.Prelude.{◌≡◌, ℕ, ◌≤◌, false, List, slice_index_or, vec_len, Option, Some, None, String, ⊤}
use Rattle.std.specs.BTreeMap.{BTreeMap, get_by_text}
use Rattle.std.specs.Global.{Global}
use Rattle.std.specs.Option.{option_map}
use Rattle.std.specs.String.{string_bytes}
use Rattle.zn_stand.specs.File.{File}
use Rattle.zn_stand.specs.Maps.{Name}
use Rattle.zn_stand.specs.Directory.{Directory, file_at}
use Rattle.zn_stand.specs.Calls.{Call}
use Rattle.zn_files.specs.declared.record.Change.{Change}
use Rattle.zn_files.specs.declared.record.Change.TheVariants.{Create, Write, SetLen, Sync}
use Rattle.zn_files.specs.Replays.{AreCallsFor}
use Rattle.zn_files.specs.declared.traced.Traced.{Traced}

-- it has the bytes at the file's last sync, and tells which places were written and added since
pub record TracesSync (t : Traced) (f : File) : Type 0 where
  pub at_sync : option_map (λ v. v.items) t.at_sync ≡ f.at_sync
  pub is_written : (i : ℕ) → slice_index_or t.is_written.items i false ≡ f.is_written i
  pub is_added : (i : ℕ) → slice_index_or t.is_added.items i false ≡ f.is_added i

-- and it has the bytes that the file has now
pub record Traces (t : Traced) (f : File) : Type 0 where
  pub bytes : t.bytes.items ≡ f.bytes
  pub sync : TracesSync t f

-- the traces of files, by name
abbrev pub TraceMap : Type 0
TraceMap = BTreeMap (String Global) Traced

-- a file is traced where it is there
abbrev pub TracesAt : Option Traced → Option File → Type 0
TracesAt None None = ⊤
TracesAt None (Some f) = ⊥
TracesAt (Some t) None = ⊥
TracesAt (Some t) (Some f) = Traces t f

-- each file of the directory is traced
abbrev pub TracesAll : TraceMap → Directory → Type 0
TracesAll traces d = (name : Name) → TracesAt (get_by_text traces name) (file_at d name)

-- a place lies within the file, where it is there
abbrev pub IsPlaceIn : TraceMap → Name → ℕ → Type 0
IsPlaceIn traces name at = (t : Traced) → get_by_text traces name ≡ Some t → at ≤ vec_len t.bytes

-- a call that was made may be made
abbrev pub MayTrace : TraceMap → Change → Type 0
MayTrace traces (Create name) = ⊤
MayTrace traces (Write name at bytes) = IsPlaceIn traces (string_bytes name) at
MayTrace traces (SetLen name len) = ⊤
MayTrace traces (Sync name) = ⊤

-- the calls may be made on a directory that is traced
pub record MayTraceAll (traces : TraceMap) (made : List Call) : Type 0 where
  pub from : Directory
  pub traced : TracesAll traces from
  pub calls : AreCallsFor from made
