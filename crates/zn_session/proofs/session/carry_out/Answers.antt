use Rattle.std.proofs.Common.{sym, ◌∙◌}
use Rattle.zn_script.specs.Meant.{line_meant}
use Rattle.zn_session.specs.Replies.{kept_in}
use Rattle.zn_session.proofs.Carried.{ends_dropped}
use Rattle.zn_session.proofs.session.carry_out.Goals as goal

pub returns-then-not-ends-clause-means : goal.returns-then-not-ends-clause-means
returns-then-not-ends-clause-means g c = ends_dropped (line_meant c.args.line.now) c.answer-reply.result (kept_in c.answer-reply.new.room) c.args.entropy.now _ _ _ _ _ _
    (sym c.ends.ensures ∙ c.if-not-ends.true) c.answer-reply.ensures.means c.drop_unpowered.ensures.dropped
