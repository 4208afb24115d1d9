use Rattle.std.proofs.Common.{subst, sym}
use Rattle.std.specs.Prelude.{Result, Some}
use Rattle.zn_stand.specs.File.{created}
use Rattle.zn_backing.specs.declared.error.CreateError.{CreateError}
use Rattle.zn_backing.specs.Making.{MakesFile}
use Rattle.zn_backing.proofs.Making.{makes_begin}
use Rattle.zn_backing.proofs.made.begin.Goals as goal

pub returns : goal.returns
returns g c =
    subst (λ (r : Result (Unit {0}) CreateError). MakesFile c.args.name.now (λ o. Some created) r (g.F.Files.state c.args.files.now) (g.F.Files.state c.create.new.self)) (sym c.made_answer.ensures)
    (makes_begin c.args.name.now c.create.result (g.F.Files.state c.args.files.now) (g.F.Files.state c.create.new.self) c.requires c.create.ensures.done)
