use Rattle.std.proofs.Common.{◌+◌, ◌∙◌, ap, sym}
use Rattle.std.proofs.lemmas.List.{take_rest}
use Rattle.zn_base.specs.Decimals.{number_in}
use Rattle.zn_lines.specs.Grammar.{last_u32}
use Rattle.zn_script.proofs.CutWords.{cut-alone, cut-no_zone, cut-no_blocks, cut-read}
use Rattle.zn_script.proofs.losses.cut_of.Goals as goal

pub returns-in_err-colon : goal.returns-in_err-colon
returns-in_err-colon c = rw c.from_residual.ensures (cut-alone c.args.word.now (sym c.in_err-colon.ensures.place))

pub returns-in_err-zone : goal.returns-in_err-zone
returns-in_err-zone c =
    rw c.from_residual-in_err-zone.ensures (cut-no_zone c.args.word.now c.in_ok-colon.colon (sym c.in_ok-colon.ensures.place) (sym c.in_err-zone.ensures.value))

pub returns-in_err-blocks : goal.returns-in_err-blocks
returns-in_err-blocks c =
    rw c.from_residual-in_err-blocks.ensures
    (cut-no_blocks c.args.word.now c.in_ok-colon.colon c.in_ok-zone.zone (sym c.in_ok-colon.ensures.place) (sym c.in_ok-zone.ensures.value)
    (ap (number_in last_u32) (sym (take_rest c.args.word.now (c.in_ok-colon.colon + 1))) ∙ sym c.in_err-blocks.ensures.value))

pub returns : goal.returns
returns c =
    cut-read c.args.word.now c.in_ok-colon.colon c.in_ok-zone.zone c.in_ok-blocks.blocks (sym c.in_ok-colon.ensures.place) (sym c.in_ok-zone.ensures.value)
    (ap (number_in last_u32) (sym (take_rest c.args.word.now (c.in_ok-colon.colon + 1))) ∙ sym c.in_ok-blocks.ensures.value)
