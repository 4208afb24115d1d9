use Rattle.std.proofs.Common.{◌≡◌, ℕ, length, get_or}
use Rattle.std.specs.Prelude.{is_some, nat_lt, if◌then◌else◌, ◌&&◌, not}
use Rattle.zn_stand.specs.File.{File, value_left}
use Rattle.zn_files.specs.Traces.{Traces, TracesSync}
use Rattle.zn_files.proofs.traced.Traced.filled.Given as goal

-- of the places before the index, those that are free are filled
abbrev pub invariant-loop-i : goal.invariant-loop-i
invariant-loop-i l = record {
  sync : (f : File) → TracesSync l.fn.self f → TracesSync l.file f;
  len : length l.file.bytes.items ≡ length l.fn.self.bytes.items;
  fill : (f : File) → Traces l.fn.self f → (k : ℕ) → get_or l.file.bytes.items k 0 ≡ (if nat_lt k l.i && not (is_some (value_left f k)) && nat_lt k (length l.fn.self.bytes.items) then l.value else get_or f.bytes k 0);
}
