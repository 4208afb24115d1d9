use Rattle.std.proofs.Common.{◌≡◌, ◌≤◌, ◌*◌, ◌-◌, ◌+◌}
use Rattle.zn_churn.specs.Churning.{blocks_told}
use Rattle.zn_churn.specs.Lines.{GoesOn}
use Rattle.zn_churn.proofs.churning.blocks.Given as goal

-- the files behind this one have what is still missing
abbrev pub invariant-loop-handle : goal.invariant-loop-handle
invariant-loop-handle g l = record {
  told : blocks_told (g.M.Machine.state l.fn.machine).table 8 0
      ≡ l.blocks + blocks_told (g.M.Machine.state l.machine).table (8 - l.handle) l.handle;
  small : l.blocks ≤ l.handle * 4294967295;
  counted : (g.M.Machine.state l.machine).steps ≡ (g.M.Machine.state l.fn.machine).steps + l.handle;
  breaks : (g.M.Machine.state l.machine).breaks ≡ (g.M.Machine.state l.fn.machine).breaks;
  goes_on : GoesOn (g.M.Machine.state l.machine);
}
