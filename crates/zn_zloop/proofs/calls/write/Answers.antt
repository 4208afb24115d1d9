use Rattle.std.proofs.Common.{◌≡◌, subst, sym}
use Rattle.std.specs.Option.{option_map}
use Rattle.zn_stand.specs.File.{written}
use Rattle.zn_truth.specs.Orders.{Reply}
use Rattle.zn_zloop.specs.Served.{Served}
use Rattle.zn_zloop.proofs.Serving.{write_served}
use Rattle.zn_zloop.proofs.calls.write.Goals as goal

pub returns : goal.returns
returns g c =
    subst (λ (r : Reply). Served c.args.name.now (λ o p. p ≡ option_map (λ f. written f c.args.at c.args.bytes.now) o) r (g.F.Files.state c.args.files.now) (g.F.Files.state c.write_at.new.self)) (sym c.reply_to.ensures)
    (write_served c.args.name.now c.args.at c.args.bytes.now c.write_at.result (g.F.Files.state c.args.files.now) (g.F.Files.state c.write_at.new.self) c.requires.there c.write_at.ensures.done)
