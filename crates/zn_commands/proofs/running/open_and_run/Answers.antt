use Rattle.zn_commands.proofs.running.open_and_run.Goals as goal

pub returns-in-Ok : goal.returns-in-Ok
returns-in-Ok g c = c.run_opened.ensures (g.F.Files.state c.args.files) (g.F.Files.state c.in-Ok.device.files) c.in-Ok.ensures.opened
