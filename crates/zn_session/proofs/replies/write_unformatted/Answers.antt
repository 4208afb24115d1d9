use Rattle.zn_session.proofs.replies.write_unformatted.Goals as goal

pub returns-in-BadMagic : goal.returns-in-BadMagic
returns-in-BadMagic g c = rw c.in-BadMagic.is c.write_error.ensures

pub returns-in-CopiesDiffer : goal.returns-in-CopiesDiffer
returns-in-CopiesDiffer g c = rw c.in-CopiesDiffer.is c.write_error_at.ensures

pub returns-in-BadVersion : goal.returns-in-BadVersion
returns-in-BadVersion g c = rw c.in-BadVersion.is c.write_error_at-in-BadVersion.ensures

pub returns-in-BadField : goal.returns-in-BadField
returns-in-BadField g c = rw c.in-BadField.is c.write_error_at-in-BadField.ensures

pub returns-in-Zone0NotFull : goal.returns-in-Zone0NotFull
returns-in-Zone0NotFull g c = rw c.in-Zone0NotFull.is c.write_error-in-Zone0NotFull.ensures

pub returns-in-Zone0Offline : goal.returns-in-Zone0Offline
returns-in-Zone0Offline g c = rw c.in-Zone0Offline.is c.write_error-in-Zone0Offline.ensures
