use Rattle.zn_session.proofs.replies.write_option_error.Goals as goal

pub returns-in-UnknownOption : goal.returns-in-UnknownOption
returns-in-UnknownOption g c = rw c.in-UnknownOption.is c.write_error_at.ensures

pub returns-in-Repeated : goal.returns-in-Repeated
returns-in-Repeated g c = rw c.in-Repeated.is c.write_error_at-in-Repeated.ensures

pub returns-in-BadValue : goal.returns-in-BadValue
returns-in-BadValue g c = rw c.in-BadValue.is c.write_error_at-in-BadValue.ensures
