use Rattle.std.proofs.Common.{arith}
use Rattle.zn_words.proofs.Names.{no_command}
use Rattle.zn_words.proofs.commands.parse.Goals as goal

pub returns-in_default-as_str-clause-asked : goal.returns-in_default-as_str-clause-asked
returns-in_default-as_str-clause-asked c =
    let other = c.in_default-as_str in
    no_command c.args.words.now c.name-item.result c.as_str.result.now (omega (arith, c.in-len1-up.len_at_least)) c.name-item.is c.as_str.ensures.value
    other.not-scratch other.not-add other.not-mkfs other.not-run other.not-churn
