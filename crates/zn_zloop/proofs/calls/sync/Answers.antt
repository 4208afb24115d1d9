use Rattle.std.proofs.Common.{◌≡◌, subst, sym}
use Rattle.std.specs.Option.{option_map}
use Rattle.zn_stand.specs.File.{synced}
use Rattle.zn_truth.specs.Orders.{Reply}
use Rattle.zn_zloop.specs.Served.{Served}
use Rattle.zn_zloop.proofs.Serving.{sync_served}
use Rattle.zn_zloop.proofs.calls.sync.Goals as goal

pub returns-clause-served : goal.returns-clause-served
returns-clause-served g c =
    subst (λ (r : Reply). Served c.args.name.now (λ o p. p ≡ option_map synced o) r (g.F.Files.state c.args.files.now) (g.F.Files.state c.sync.new.self)) (sym c.reply_to.ensures)
    (sync_served c.args.name.now c.sync.result (g.F.Files.state c.args.files.now) (g.F.Files.state c.sync.new.self) c.requires.there c.sync.ensures.done)
