use Rattle.std.proofs.Common.{subst, sym}
use Rattle.std.specs.Prelude.{Result}
use Rattle.std.specs.Option.{option_map}
use Rattle.zn_backing.specs.declared.error.CreateError.{CreateError}
use Rattle.zn_backing.specs.Making.{grown, MakesFile}
use Rattle.zn_backing.proofs.Making.{makes_none, makes_grow}
use Rattle.zn_backing.proofs.made.grow.Goals as goal

pub returns-then-len-eq0 : goal.returns-then-len-eq0
returns-then-len-eq0 g c = makes_none c.args.name.now c.args.len (g.F.Files.state c.args.files.now) c.if-len-eq0.true

pub returns : goal.returns
returns g c =
    subst (λ (r : Result (Unit {0}) CreateError). MakesFile c.args.name.now (λ o. option_map (grown c.args.len) o) r (g.F.Files.state c.args.files.now) (g.F.Files.state c.set_len.new.self)) (sym c.made_answer.ensures)
    (makes_grow c.args.name.now c.args.len c.set_len.result (g.F.Files.state c.args.files.now) (g.F.Files.state c.set_len.new.self) c.if-len-eq0.false c.requires c.set_len.ensures.done)
