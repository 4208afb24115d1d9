use Rattle.std.proofs.Common.{◌∙◌, map, is_some, string_bytes, sym, ap, Global}
use Rattle.zn_words.specs.Commands.{mkfs_of}
use Rattle.zn_words.specs.CommandsMeant.{format_meant}
use Rattle.zn_words.proofs.Formats.{format_by_values, is_some-mapped, not_some}
use Rattle.zn_words.proofs.formatting.parse.Goals as goal

pub returns-in-Some-format_by-clause-memory : goal.returns-in-Some-format_by-clause-memory
returns-in-Some-format_by-clause-memory c =
    let words = map (string_bytes {Z = Global}) c.args.words.now in
    format_by_values words _ _ _ _ (sym c.if-not-gives_dir.ensures) c.value_of-label.ensures c.value_of-uuid.ensures c.value_of-features.ensures c.format_by-in-Err.ensures.asked
    ∙ is_some-mapped format_meant c.format_by-in-Err.result ∙ ap is_some c.in-Some-format_by.is

pub returns-in-None-format_by-clause-asked : goal.returns-in-None-format_by-clause-asked
returns-in-None-format_by-clause-asked c =
    let words = map (string_bytes {Z = Global}) c.args.words.now in
    let none = format_by_values words _ _ _ _ (sym c.if-not-gives_dir.ensures) c.value_of-label.ensures c.value_of-uuid.ensures c.value_of-features.ensures c.format_by-in-Err.ensures.asked
    ∙ is_some-mapped format_meant c.format_by-in-Err.result ∙ ap is_some c.in-None-format_by.is in
    sym (not_some (mkfs_of words) none)
