use Rattle.std.proofs.Common.{◌≡◌, sym, ap, ◌∙◌, subst, List, [], String, Global}
use Rattle.zn_stand.specs.File.{at_rest}
use Rattle.std.specs.FinMap.{insert}
use Rattle.zn_stand.specs.Directory.{file_at}
use Rattle.zn_files.specs.declared.traced.Traced.{Traced}
use Rattle.zn_files.specs.declared.memory.MemFiles.{MemFiles}
use Rattle.zn_files.specs.Memory.{mem_state}
use Rattle.zn_files.specs.MemStates.{first}
use Rattle.zn_files.proofs.Imaging.{IsPartImage, only_given, fresh_state, fresh_after, part_first, part_skipped, part_given, part_absent, part_last}
use Rattle.zn_files.proofs.images.image_of.Goals as goal
use Rattle.zn_files.proofs.images.image_of.Goals.{in-Some-left+in_ok-give, in_default}

pub loop-name-init : goal.loop-name-init
loop-name-init c = record {
  can = tt;
  finite = tt;
  fresh = fresh_state (mem_state c.new-image.result) [] c.new-image.ensures;
  part = part_first c.args.choice c.args.files.entries _ (first (mem_state c.new-image.result)) c.into_iter-name-iterator.ensures.into_iter_gives.0 c.into_iter-name-iterator.ensures.into_iter_gives.5 (ap first c.new-image.ensures);
}

pub loop-name-preserved : goal.loop-name-preserved
loop-name-preserved c =
    let part = subst (λ (left : List (String Global × Traced)). IsPartImage c.args.choice c.args.files.entries left (first (mem_state c.loop-name.image))) c.in-Some.ensures.steps c.loop-name.invariant.part in
    elim c.match-left.branch [
      | in-Some-left+in_ok-give w ↦ record {
        can = tt;
        finite = tt;
        fresh = subst (λ (m : MemFiles). mem_state m ≡ only_given (mem_state m).given) (sym w.image-is) (fresh_after (mem_state c.loop-name.image) (mem_state w.give.new.self) c.loop-name.invariant.fresh w.in_ok-give.ensures.same);
        part = subst (λ (m : MemFiles). IsPartImage c.args.choice c.args.files.entries c.next.new.self (first (mem_state m))) (sym w.image-is)
            (part_given c.args.choice c.args.files.entries c.next.new.self c.in-Some.name c.in-Some.file (first (mem_state c.loop-name.image)) (first (mem_state w.give.new.self)) w.in-Some-left.bytes.items part
            (λ f traces. sym (w.in-Some-left.ensures f traces))
            (w.in_ok-give.ensures.given ∙ ap (λ n. insert (first (mem_state c.loop-name.image)) n (at_rest w.in-Some-left.bytes.items)) w.as_str.ensures.value));
      }
      | in_default w ↦ record {
        can = tt;
        finite = tt;
        fresh = subst (λ (m : MemFiles). mem_state m ≡ only_given (mem_state m).given) (sym w.image-is) c.loop-name.invariant.fresh;
        part = subst (λ (m : MemFiles). IsPartImage c.args.choice c.args.files.entries c.next.new.self (first (mem_state m))) (sym w.image-is)
            (part_skipped c.args.choice c.args.files.entries c.next.new.self c.in-Some.name c.in-Some.file (first (mem_state c.loop-name.image)) part (λ f traces. sym (w.in_default.ensures f traces)));
      }
    ]

pub returns-clause-first : goal.returns-clause-first
returns-clause-first c = part_last c.args.choice c.args.files c.loop-name.name-iterator (first (mem_state c.loop-name.image)) c.in-None.ensures.steps.0 c.loop-name.invariant.part

pub give-requires-clause-absent : goal.give-requires-clause-absent
give-requires-clause-absent c =
    ap (file_at (first (mem_state c.loop-name.image))) c.as_str.ensures.value
    ∙ part_absent c.args.choice c.args.files.entries c.next.new.self c.in-Some.name c.in-Some.file (first (mem_state c.loop-name.image))
    (subst (λ (left : List (String Global × Traced)). IsPartImage c.args.choice c.args.files.entries left (first (mem_state c.loop-name.image))) c.in-Some.ensures.steps c.loop-name.invariant.part)
