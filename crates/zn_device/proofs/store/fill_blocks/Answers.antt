use Rattle.std.specs.Prelude.{vec_capacity}
use Rattle.std.proofs.Common.{◌≡◌, ◌+◌, ◌-◌, ◌*◌, ◌++◌, ℕ, Vec, Global, take, drop, replicate, arith, sym, ap, ◌∙◌}
use Rattle.zn_device.proofs.Bytes.{block_fills, block_stays, blocks_done, length-filled_part}
use Rattle.zn_device.proofs.store.fill_blocks.Goals.{then-flag, else-flag}
use Rattle.zn_device.proofs.store.fill_blocks.Goals as goal

pub loop-i-preserved : goal.loop-i-preserved
loop-i-preserved c =
    let i = c.loop-i.i in
    let byte = c.args.byte in
    let before = c.loop-i.buffer.items in
    elim c.if-flag.branch [
      | then-flag w ↦
          let is : c.if-flag.buffer.items ≡ take (4096 * i) before ++ replicate (4096 * i + 4096 - 4096 * i) byte ++ drop (4096 * i + 4096) before = ap (λ (b : Vec ℕ Global). b.items) w.buffer-is ∙ w.fill_part.ensures.bytes in
          record {
            done = block_fills byte c.args.flags.now before c.if-flag.buffer.items i c.loop-i-test.true (omega arith) w.if-flag.true is ∙ c.loop-i.invariant.done;
            long = length-filled_part before c.if-flag.buffer.items (4096 * i) (4096 * i + 4096) byte (omega arith) (omega arith) is ∙ c.loop-i.invariant.long;
            room = ap (λ (b : Vec ℕ Global). vec_capacity b) w.buffer-is ∙ w.fill_part.ensures.room ∙ c.loop-i.invariant.room;
          }
      | else-flag w ↦ rw w.buffer-is (record {
        done = block_stays byte c.args.flags.now before i c.loop-i-test.true w.if-flag.false ∙ c.loop-i.invariant.done;
        long = c.loop-i.invariant.long;
        room = c.loop-i.invariant.room;
      })
    ]

pub returns-clause-bytes : goal.returns-clause-bytes
returns-clause-bytes c = sym (blocks_done c.args.byte c.args.flags.now c.loop-i.buffer.items c.loop-i.i c.loop-i-test.false) ∙ c.loop-i.invariant.done
