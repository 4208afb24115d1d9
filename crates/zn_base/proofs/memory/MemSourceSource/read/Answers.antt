use Rattle.std.proofs.Common.{◌∙◌, ◌+◌, arith, ap, Some, sym}
use Rattle.std.proofs.lemmas.Grind.{common_steps}
use Rattle.std.proofs.lemmas.List.{take_rest, drop_all}
use Rattle.std.proofs.lemmas.Option.{same_Some}
use Rattle.zn_base.specs.Memory.{MemSourceState}
use Rattle.zn_base.proofs.ToldLaws.{copied_front}
use Rattle.zn_base.proofs.memory.MemSourceSource.read.Goals as goal

pub returns-clause-done : goal.returns-clause-done
returns-clause-done c =
    let xs = c.self.inside.bytes.items in
    let at = c.self.inside.at in
    let n = c.min-count.result in
    record {
      bytes = (
        ap Some (sym (ap (λ (s : MemSourceState). s.left) c.self.view_is) ∙ copied_front xs c.args.buf.now c.copy_from_slice.new.self at n (grind (arith, common_steps, take_rest)) (grind (arith, common_steps, take_rest))),
        λ none ys is. sym (same_Some _ _ is) ∙ drop_all (at + n) xs (grind (arith, common_steps, take_rest)),
      );
      cause = grind (arith, common_steps);
    }
