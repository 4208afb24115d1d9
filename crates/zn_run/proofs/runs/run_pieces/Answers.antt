use Rattle.std.proofs.Common.{◌≡◌, ◌<◌, ◌≤◌, ◌+◌, ◌-◌, length, take, drop, sym, subst, ◌∙◌, arith}
use Rattle.std.proofs.lemmas.List.{length-take-le}
use Rattle.zn_lines.specs.Transcript.{OneLine}
use Rattle.zn_run.proofs.ScriptLaws.{holds_none, holds_piece, holds_rest, ends_at_end, ends_unread, ends_over, ends_early, last_apart, last_alone, moved_front}
use Rattle.zn_run.proofs.runs.run_pieces.Goals as goal

pub loop-machine-init : goal.loop-machine-init
loop-machine-init g c = record {
  sized = c.requires.sized;
  fits = omega arith;
  within = omega arith;
  numbered = omega arith;
  one = λ k d none. absurd (omega (arith, none));
  holds = holds_none _ c.requires.goes_on;
}

pub returns-in-Ok-eq0 : goal.returns-in-Ok-eq0
returns-in-Ok-eq0 g c =
    let l = c.loop-machine.invariant in
    ends_at_end c.read_piece.new.buffer l.holds l.within c.in-Ok-eq0.field-0-test c.in-Ok-eq0.ensures.piece c.read_piece.ensures.front c.run_rest.ensures

pub returns-in-Err : goal.returns-in-Err
returns-in-Err g c =
    let l = c.loop-machine.invariant in
    ends_unread l.holds l.within c.in-Err.ensures.piece c.read_piece.ensures.front c.run_rest-in-Err.ensures

pub returns-then-taken-gt-SCRIPT_LIMIT : goal.returns-then-taken-gt-SCRIPT_LIMIT
returns-then-taken-gt-SCRIPT_LIMIT g c =
    let l = c.loop-machine.invariant in
    let p = c.in-Ok.ensures.piece in
    let buffer = c.read_piece.new.buffer in
    let end = c.loop-machine.kept + c.in-Ok.count in
    let within : end ≤ length buffer = omega (arith, l.fits, p.short, c.read_piece.ensures.sized) in
    let some : 0 < end = omega (arith, l.within, l.fits, c.if-taken-gt-SCRIPT_LIMIT.true) in
    ends_over (take 1 (drop (end - 1) buffer)) (holds_piece buffer l.holds c.read_piece.ensures.front p within) (omega (arith, p.limited, c.if-taken-gt-SCRIPT_LIMIT.true))
    (last_apart buffer end some) (last_alone buffer end some within) c.run_last.ensures

pub loop-machine-preserved : goal.loop-machine-preserved
loop-machine-preserved g c =
    let l = c.loop-machine.invariant in
    let p = c.in-Ok.ensures.piece in
    let r = c.in-Ok-run_lines.ensures in
    let buffer = c.read_piece.new.buffer in
    let end = c.loop-machine.kept + c.in-Ok.count in
    let at = c.in-Ok-run_lines.at in
    let within : end ≤ length buffer = omega (arith, l.fits, p.short, c.read_piece.ensures.sized) in
    let sized : length (take end buffer) ≡ end = length-take-le end buffer within in
    let before : at ≤ end = omega (arith, r.rest.within, sized) in
    let moved = moved_front buffer c.copy_within.new.self at end before within c.copy_within.ensures.after in
    record {
      sized = c.copy_within.ensures.len ∙ c.read_piece.ensures.sized;
      fits = omega (arith, r.fits, sized);
      within = c.if-taken-gt-SCRIPT_LIMIT.false;
      numbered = omega (arith, l.numbered, r.rest.numbered, before);
      one = subst OneLine (sym moved) r.rest.one;
      holds = holds_rest _ (holds_piece buffer l.holds c.read_piece.ensures.front p within) r moved;
    }

pub returns-in-Err-run_lines : goal.returns-in-Err-run_lines
returns-in-Err-run_lines g c =
    let l = c.loop-machine.invariant in
    let p = c.in-Ok.ensures.piece in
    let buffer = c.read_piece.new.buffer in
    let within : c.loop-machine.kept + c.in-Ok.count ≤ length buffer = omega (arith, l.fits, p.short, c.read_piece.ensures.sized) in
    ends_early (holds_piece buffer l.holds c.read_piece.ensures.front p within) c.if-taken-gt-SCRIPT_LIMIT.false c.in-Err-run_lines.ensures
