use Rattle.std.proofs.Common.{subst, sym}
use Rattle.std.specs.Prelude.{Result}
use Rattle.std.specs.Option.{option_map}
use Rattle.zn_stand.specs.File.{written}
use Rattle.zn_backing.specs.declared.error.CreateError.{CreateError}
use Rattle.zn_backing.specs.Making.{MakesFile}
use Rattle.zn_backing.proofs.Making.{makes_fill}
use Rattle.zn_backing.proofs.made.fill.Goals as goal

pub returns : goal.returns
returns g c =
    subst (λ (r : Result (Unit {0}) CreateError). MakesFile c.args.name.now (λ o. option_map (λ f. written f 0 c.args.bytes.now) o) r (g.F.Files.state c.args.files.now) (g.F.Files.state c.write_at.new.self)) (sym c.made_answer.ensures)
    (makes_fill c.args.name.now c.args.bytes.now c.write_at.result (g.F.Files.state c.args.files.now) (g.F.Files.state c.write_at.new.self) c.requires c.write_at.ensures.done)
