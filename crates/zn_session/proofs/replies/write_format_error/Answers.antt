use Rattle.zn_session.proofs.replies.write_format_error.Goals as goal

pub returns-in-AlreadyFormatted : goal.returns-in-AlreadyFormatted
returns-in-AlreadyFormatted g c = rw c.in-AlreadyFormatted.is c.write_error.ensures

pub returns-in-BadZone0 : goal.returns-in-BadZone0
returns-in-BadZone0 g c = rw c.in-BadZone0.is c.write_bad_zone.ensures

pub returns-in-IoError : goal.returns-in-IoError
returns-in-IoError g c = rw c.in-IoError.is c.write_error-in-IoError.ensures

pub returns-in-PowerLost : goal.returns-in-PowerLost
returns-in-PowerLost g c = rw c.in-PowerLost.is c.write_error-in-PowerLost.ensures

pub returns-in-Broken : goal.returns-in-Broken
returns-in-Broken g c = rw c.in-Broken.is c.write_error-in-Broken.ensures

pub returns-in-Memory : goal.returns-in-Memory
returns-in-Memory g c = rw c.in-Memory.is c.write_error-in-Memory.ensures
