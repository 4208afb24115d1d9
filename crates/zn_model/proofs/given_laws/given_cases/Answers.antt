use Rattle.zn_model.proofs.QuietCases.{given_cases}
use Rattle.zn_model.proofs.given_laws.given_cases.Goals as goal

pub returns : goal.returns
returns c = given_cases
