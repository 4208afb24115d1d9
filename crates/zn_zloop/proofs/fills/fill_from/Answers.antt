use Rattle.std.proofs.Common.{ℕ, Option, None, Ok, refl, sym, subst}
use Rattle.zn_truth.specs.Power.{with_fill}
use Rattle.zn_zloop.specs.Served.{Served}
use Rattle.zn_zloop.specs.Settled.{BytesBecame}
use Rattle.zn_zloop.proofs.Filling.{none_became}
use Rattle.zn_zloop.proofs.fills.fill_from.Goals as goal

pub returns-in-None : goal.returns-in-None
returns-in-None g c =
    subst (λ (x : Option ℕ). Served c.args.name.now (BytesBecame (with_fill x c.args.from)) (Ok tt) (g.F.Files.state c.args.files.now) (g.F.Files.state c.args.files.now)) (sym c.in-None.is)
    (none_became c.args.name.now (with_fill None c.args.from) (g.F.Files.state c.args.files.now) (λ b. refl))

pub returns-in-Some : goal.returns-in-Some
returns-in-Some g c =
    subst (λ (x : Option ℕ). Served c.args.name.now (BytesBecame (with_fill x c.args.from)) c.fill_blocks.result (g.F.Files.state c.args.files.now) (g.F.Files.state c.fill_blocks.new.files)) (sym c.in-Some.is) c.fill_blocks.ensures
