use Rattle.std.proofs.Common.{ap, ◌∙◌}
use Rattle.zn_backing.specs.Listing.{line_of}
use Rattle.zn_backing.proofs.TextReading.{rest_is}
use Rattle.zn_backing.proofs.text.line_at.Goals as goal

pub returns-clause-line : goal.returns-clause-line
returns-clause-line c = c.line_of.ensures.line ∙ ap line_of (rest_is c.args.at c.args.text.now)
