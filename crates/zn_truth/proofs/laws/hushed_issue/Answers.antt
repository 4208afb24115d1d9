use Rattle.zn_truth.proofs.Hushed.{issue_hushed}
use Rattle.zn_truth.proofs.laws.hushed_issue.Goals as goal

pub returns : goal.returns
returns c = issue_hushed
