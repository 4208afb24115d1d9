use Rattle.std.proofs.Common.{refl}
use Rattle.std.specs.Fmt.{digits}
use Rattle.zn_lines.proofs.laws.requests_are_told.Goals as goal

pub returns : goal.returns
unfolding digits
returns c = record { submitted = refl; full = refl; no_blocks = refl; none_queued = refl; written = refl; failed = refl; too_many_active = refl; too_many_open = refl; none_ended = refl }
