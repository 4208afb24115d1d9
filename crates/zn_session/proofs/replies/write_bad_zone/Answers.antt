use Rattle.zn_session.proofs.replies.write_bad_zone.Goals as goal

pub returns-in-Good : goal.returns-in-Good
returns-in-Good g c = rw c.in-Good.is c.write_error.ensures

pub returns-in-ReadOnly : goal.returns-in-ReadOnly
returns-in-ReadOnly g c = rw c.in-ReadOnly.is c.write_error-in-ReadOnly.ensures

pub returns-in-Offline : goal.returns-in-Offline
returns-in-Offline g c = rw c.in-Offline.is c.write_error-in-Offline.ensures
