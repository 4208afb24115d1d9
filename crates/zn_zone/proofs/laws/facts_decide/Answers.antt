use Rattle.zn_zone.proofs.ByFacts.{refusal-bare, after-bare, facts_of-bare}
use Rattle.zn_zone.proofs.Truths.{turned-facts, settled-facts}
use Rattle.zn_zone.proofs.laws.facts_decide.Goals as goal

pub returns-clause-refusal : goal.returns-clause-refusal
returns-clause-refusal c = refusal-bare

pub returns-clause-effect : goal.returns-clause-effect
returns-clause-effect c = after-bare

pub returns-clause-turn : goal.returns-clause-turn
returns-clause-turn c = turned-facts

pub returns-clause-settling : goal.returns-clause-settling
returns-clause-settling c = settled-facts

pub returns-clause-bare : goal.returns-clause-bare
returns-clause-bare c = facts_of-bare
