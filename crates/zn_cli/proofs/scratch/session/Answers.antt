use Rattle.zn_cli.proofs.Beginning.{begins, session_told}
use Rattle.zn_cli.proofs.scratch.session.Goals as goal

pub returns-then-begun : goal.returns-then-begun
returns-then-begun c =
    let told = session_told c.args.scratch c.args.entropy c.in-Ok.session _ c.in_ok-device.ensures c.in-Ok.ensures.begun in
    begins c.args.scratch c.args.entropy c.in-Ok.session c.begin-begun.new.session _
    c.in_ok-device.ensures c.in-Ok.ensures.begun (c.begin-begun.ensures c.if-begun.true told) c.sound.ensures c.never_breaks.ensures.whole c.never_breaks.ensures.memory
