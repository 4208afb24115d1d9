use Rattle.zn_commands.proofs.lines.end_unformatted.Goals as goal

pub returns-in-BadZone0 : goal.returns-in-BadZone0
returns-in-BadZone0 g c = rw (c.in-BadZone0.is, ← c.cond_text.ensures) c.end_by-in-BadZone0.ensures

pub returns-in-Broken : goal.returns-in-Broken
returns-in-Broken g c = rw c.in-Broken.is c.end_broken.ensures
