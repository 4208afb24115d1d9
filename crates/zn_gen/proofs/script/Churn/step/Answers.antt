use Rattle.zn_gen.proofs.StepLaws.{steps_first}
use Rattle.zn_gen.proofs.script.Churn.step.Goals as goal

pub returns-clause-taken : goal.returns-clause-taken
returns-clause-taken c =
    steps_first c.args.self.now.steps c.args.self.now.draw c.args.self.now.sizes c.step_behind-step.result c.line-line.result c.size.result c.due_behind-self.result c.requires c.step_behind-step.ensures c.line-line.ensures c.size.ensures c.due_behind-self.ensures
