use Rattle.std.proofs.Common.{◌≡◌, Some, subst, sym}
use Rattle.zn_stand.specs.File.{created}
use Rattle.zn_truth.specs.Orders.{Reply}
use Rattle.zn_zloop.specs.Served.{Served}
use Rattle.zn_zloop.proofs.Marking.{create_served}
use Rattle.zn_zloop.proofs.calls.create.Goals as goal

pub returns : goal.returns
returns g c =
    subst (λ (r : Reply). Served c.args.name.now (λ o p. p ≡ Some created) r (g.F.Files.state c.args.files.now) (g.F.Files.state c.create.new.self)) (sym c.reply_to.ensures)
    (create_served c.args.name.now c.create.result (g.F.Files.state c.args.files.now) (g.F.Files.state c.create.new.self) c.requires c.create.ensures.done)
