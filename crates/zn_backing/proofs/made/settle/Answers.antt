use Rattle.std.proofs.Common.{subst, sym}
use Rattle.std.specs.Prelude.{Result}
use Rattle.std.specs.Option.{option_map}
use Rattle.zn_stand.specs.File.{synced}
use Rattle.zn_backing.specs.declared.error.CreateError.{CreateError}
use Rattle.zn_backing.specs.Making.{MakesFile}
use Rattle.zn_backing.proofs.Making.{makes_settle}
use Rattle.zn_backing.proofs.made.settle.Goals as goal

pub returns : goal.returns
returns g c =
    subst (λ (r : Result (Unit {0}) CreateError). MakesFile c.args.name.now (λ o. option_map synced o) r (g.F.Files.state c.args.files.now) (g.F.Files.state c.sync.new.self)) (sym c.made_answer.ensures)
    (makes_settle c.args.name.now c.sync.result (g.F.Files.state c.args.files.now) (g.F.Files.state c.sync.new.self) c.requires c.sync.ensures.done)
