use Rattle.std.proofs.Common.{◌≡◌, ℕ, ◌≤◌, ◌||◌, false, length, get_or}
use Rattle.zn_stand.specs.File.{is_between}
use Rattle.zn_files.proofs.traced.mark.Given as goal

-- the flags of the places before the index are set
abbrev pub invariant-loop-i : goal.invariant-loop-i
invariant-loop-i l = record {
  room : l.to ≤ length l.flags.items;
  set : (k : ℕ) → get_or l.flags.items k false ≡ (get_or l.fn.flags.items k false || is_between l.from l.i k);
}
