use Rattle.std.proofs.Common.{sym, ap, ◌∙◌}
use Rattle.zn_lines.specs.ReplyTexts.{stat_text}
use Rattle.zn_session.specs.Replies.{kept_in, text_of}
use Rattle.zn_session.proofs.ReplyLaws.{writes_as}
use Rattle.zn_session.proofs.replies.write_reply.Goals as goal

pub returns-in-Told : goal.returns-in-Told
returns-in-Told g c = writes_as (ap (λ path. stat_text path c.in-Told.stat) c.as_bytes.ensures.value ∙ ap (λ reply. text_of reply (kept_in c.args.room.now)) (sym c.in-Told.is)) c.write_stat.ensures
