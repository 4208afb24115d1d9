use Rattle.std.proofs.Common.{List, ℕ, subst, refl}
use Rattle.zn_truth.specs.Orders.{WriteAt}
use Rattle.zn_device.specs.States.{Commanded}
use Rattle.zn_fault.proofs.Shortened.{stored_filled}
use Rattle.zn_fault.proofs.inside.write_stored.Goals as goal

pub returns-in-Some : goal.returns-in-Some
returns-in-Some g c =
    rw c.in-Some.is
    (subst (λ (bytes : List ℕ). Commanded (WriteAt c.args.z.0 c.args.at bytes) c.write_filled.result (g.D.Zoned.state c.args.dev.now) (g.D.Zoned.state c.write_filled.new.dev))
    (stored_filled c.in-Some.byte c.args.bytes.now _ refl c.requires.whole) c.write_filled.ensures)
