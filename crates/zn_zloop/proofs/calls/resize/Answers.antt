use Rattle.std.proofs.Common.{◌≡◌, subst, sym}
use Rattle.std.specs.Option.{option_map}
use Rattle.zn_stand.specs.File.{resized}
use Rattle.zn_truth.specs.Orders.{Reply}
use Rattle.zn_zloop.specs.Served.{Served}
use Rattle.zn_zloop.proofs.Serving.{len_served}
use Rattle.zn_zloop.proofs.calls.resize.Goals as goal

pub returns-clause-served : goal.returns-clause-served
returns-clause-served g c =
    subst (λ (r : Reply). Served c.args.name.now (λ o p. p ≡ option_map (λ f. resized f c.args.len) o) r (g.F.Files.state c.args.files.now) (g.F.Files.state c.set_len.new.self)) (sym c.reply_to.ensures)
    (len_served c.args.name.now c.args.len c.set_len.result (g.F.Files.state c.args.files.now) (g.F.Files.state c.set_len.new.self) c.requires.there c.set_len.ensures.done)
