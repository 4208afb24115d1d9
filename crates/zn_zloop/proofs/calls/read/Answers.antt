use Rattle.std.proofs.Common.{subst, sym}
use Rattle.std.specs.Prelude.{IsOk}
use Rattle.zn_truth.specs.Orders.{Reply}
use Rattle.zn_zloop.specs.Looked.{Looked}
use Rattle.zn_zloop.proofs.Serving.{read_looked, ok_answer}
use Rattle.zn_zloop.proofs.calls.read.Goals as goal
use Rattle.std.proofs.Common.{length}

pub returns-clause-looked : goal.returns-clause-looked
returns-clause-looked g c =
    subst (λ (r : Reply). Looked r (g.F.Files.state c.args.files.now) (g.F.Files.state c.read_at.new.self)) (sym c.reply_to.ensures)
    (read_looked c.args.name.now c.args.at (length c.args.out.now) c.read_at.result (g.F.Files.state c.args.files.now) (g.F.Files.state c.read_at.new.self) c.requires.there c.read_at.ensures.done)

pub returns-clause-bytes : goal.returns-clause-bytes
returns-clause-bytes g c = λ d f told is ok. ok_answer c.read_at.result _ (subst (λ (r : Reply). IsOk r) c.reply_to.ensures ok) (c.read_at.ensures.bytes d f told is)
