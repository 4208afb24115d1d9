use Rattle.zn_commands.proofs.lines.end_shut.Goals as goal

pub returns-in-ExtraName : goal.returns-in-ExtraName
returns-in-ExtraName g c = rw (c.in-ExtraName.is, ← c.as_bytes.ensures) c.end_by-in-ExtraName.ensures

pub returns-in-TooManyActive : goal.returns-in-TooManyActive
returns-in-TooManyActive g c = rw c.in-TooManyActive.is c.end_by-in-TooManyActive.ensures

pub returns-in-Fault : goal.returns-in-Fault
returns-in-Fault g c = rw c.in-Fault.is c.end_broken.ensures
