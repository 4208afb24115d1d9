use Rattle.zn_commands.proofs.lines.end_unmade.Goals as goal

pub returns-in-Exists : goal.returns-in-Exists
returns-in-Exists g c = rw (c.in-Exists.is, ← c.as_bytes.ensures) c.end_by.ensures

pub returns-in-Fault : goal.returns-in-Fault
returns-in-Fault g c = rw c.in-Fault.is c.end_broken.ensures
