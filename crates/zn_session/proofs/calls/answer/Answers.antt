use Rattle.std.proofs.Common.{sym, subst, List, Option}
use Rattle.zn_model.specs.declared.handles.Handle.{Handle}
use Rattle.zn_lines.specs.Lines.{SizeOf, ReadFrom, WriteTo, TruncateTo, SyncFile, SubmitTo}
use Rattle.zn_script.specs.Meant.{line_meant, runs_meant}
use Rattle.zn_script.specs.declared.Line.{Line}
use Rattle.zn_session.specs.Replies.{kept_as}
use Rattle.zn_session.specs.Steps.{Answers}
use Rattle.zn_session.proofs.calls.answer.Goals as goal

pub returns-in-Open-clause-answers : goal.returns-in-Open-clause-answers
returns-in-Open-clause-answers g c = λ zones. subst (λ (line : Line). Answers (line_meant line) c.open.result (kept_as c.args.buffer.now.items zones) c.args.volume.now c.open.new.volume c.args.numbers.now.items c.open.new.numbers.items) (sym c.in-Open.is) (c.open.ensures _)

pub returns-in-Close-clause-answers : goal.returns-in-Close-clause-answers
returns-in-Close-clause-answers g c = λ zones. subst (λ (line : Line). Answers (line_meant line) c.close.result (kept_as c.args.buffer.now.items zones) c.args.volume.now c.close.new.volume c.args.numbers.now.items c.close.new.numbers.items) (sym c.in-Close.is) (c.close.ensures _)

pub returns-in-Size-clause-answers : goal.returns-in-Size-clause-answers
returns-in-Size-clause-answers g c = λ zones. subst (λ (line : Line). Answers (line_meant line) c.size.result (kept_as c.args.buffer.now.items zones) c.args.volume.now c.args.volume.now c.args.numbers.now.items c.args.numbers.now.items) (sym c.in-Size.is) (subst (λ (numbers : List (Option Handle)). Answers (SizeOf c.in-Size.number) c.size.result (kept_as c.args.buffer.now.items zones) c.args.volume.now c.args.volume.now numbers numbers) c.deref.ensures.value (c.size.ensures _))

pub returns-in-Truncate-clause-answers : goal.returns-in-Truncate-clause-answers
returns-in-Truncate-clause-answers g c = λ zones. subst (λ (line : Line). Answers (line_meant line) c.truncate.result (kept_as c.args.buffer.now.items zones) c.args.volume.now c.truncate.new.volume c.args.numbers.now.items c.args.numbers.now.items) (sym c.in-Truncate.is) (subst (λ (numbers : List (Option Handle)). Answers (TruncateTo c.in-Truncate.number c.in-Truncate.size) c.truncate.result (kept_as c.args.buffer.now.items zones) c.args.volume.now c.truncate.new.volume numbers numbers) c.deref-in-Truncate.ensures.value (c.truncate.ensures _))

pub returns-in-Sync-clause-answers : goal.returns-in-Sync-clause-answers
returns-in-Sync-clause-answers g c = λ zones. subst (λ (line : Line). Answers (line_meant line) c.sync.result (kept_as c.args.buffer.now.items zones) c.args.volume.now c.sync.new.volume c.args.numbers.now.items c.args.numbers.now.items) (sym c.in-Sync.is) (subst (λ (numbers : List (Option Handle)). Answers (SyncFile c.in-Sync.number) c.sync.result (kept_as c.args.buffer.now.items zones) c.args.volume.now c.sync.new.volume numbers numbers) c.deref-in-Sync.ensures.value (c.sync.ensures _))

pub returns-in-Stat-clause-answers : goal.returns-in-Stat-clause-answers
returns-in-Stat-clause-answers g c = λ zones. subst (λ (line : Line). Answers (line_meant line) c.stat.result (kept_as c.args.buffer.now.items zones) c.args.volume.now c.args.volume.now c.args.numbers.now.items c.args.numbers.now.items) (sym c.in-Stat.is) (c.stat.ensures _ _ c.requires.numbered)

pub returns-in-List-clause-answers : goal.returns-in-List-clause-answers
returns-in-List-clause-answers g c = λ zones. subst (λ (line : Line). Answers (line_meant line) c.list.result (kept_as c.args.buffer.now.items zones) c.args.volume.now c.args.volume.now c.args.numbers.now.items c.args.numbers.now.items) (sym c.in-List.is) (c.list.ensures _ _ c.requires.numbered)

pub returns-in-Attr-clause-answers : goal.returns-in-Attr-clause-answers
returns-in-Attr-clause-answers g c = λ zones. subst (λ (line : Line). Answers (line_meant line) c.attr.result (kept_as c.args.buffer.now.items zones) c.args.volume.now c.args.volume.now c.args.numbers.now.items c.args.numbers.now.items) (sym c.in-Attr.is) (c.attr.ensures _ _ c.requires.numbered)

pub returns-in-Change-clause-answers : goal.returns-in-Change-clause-answers
returns-in-Change-clause-answers g c = λ zones. subst (λ (line : Line). Answers (line_meant line) c.change.result (kept_as c.args.buffer.now.items zones) c.args.volume.now c.args.volume.now c.args.numbers.now.items c.args.numbers.now.items) (sym c.in-Change.is) (c.change.ensures _ _ c.requires.numbered)

pub returns-in-Read-clause-answers : goal.returns-in-Read-clause-answers
returns-in-Read-clause-answers g c = λ zones. subst (λ (line : Line). Answers (line_meant line) c.read.result (kept_as c.read.new.buffer.items zones) c.args.volume.now c.read.new.volume c.args.numbers.now.items c.args.numbers.now.items) (sym c.in-Read.is) (subst (λ (numbers : List (Option Handle)). Answers (ReadFrom c.in-Read.number c.in-Read.offset c.in-Read.len) c.read.result (kept_as c.read.new.buffer.items zones) c.args.volume.now c.read.new.volume numbers numbers) c.deref-in-Read.ensures.value (c.read.ensures.answers zones))

pub returns-in-Write-clause-answers : goal.returns-in-Write-clause-answers
returns-in-Write-clause-answers g c = λ zones. subst (λ (line : Line). Answers (line_meant line) c.write.result (kept_as c.write.new.buffer.items zones) c.args.volume.now c.write.new.volume c.args.numbers.now.items c.args.numbers.now.items) (sym c.in-Write.is) (subst (λ (numbers : List (Option Handle)). Answers (WriteTo c.in-Write.number c.in-Write.offset (runs_meant c.in-Write.word.now)) c.write.result (kept_as c.write.new.buffer.items zones) c.args.volume.now c.write.new.volume numbers numbers) c.deref-in-Write.ensures.value (c.write.ensures.answers zones))

pub returns-in-Submit-clause-answers : goal.returns-in-Submit-clause-answers
returns-in-Submit-clause-answers g c = λ zones. subst (λ (line : Line). Answers (line_meant line) c.submit.result (kept_as c.submit.new.buffer.items zones) c.args.volume.now c.submit.new.volume c.args.numbers.now.items c.args.numbers.now.items) (sym c.in-Submit.is) (subst (λ (numbers : List (Option Handle)). Answers (SubmitTo c.in-Submit.number c.in-Submit.offset (runs_meant c.in-Submit.word.now)) c.submit.result (kept_as c.submit.new.buffer.items zones) c.args.volume.now c.submit.new.volume numbers numbers) c.deref-in-Submit.ensures.value (c.submit.ensures.answers zones))

pub returns-in-Complete-clause-answers : goal.returns-in-Complete-clause-answers
returns-in-Complete-clause-answers g c = λ zones. subst (λ (line : Line). Answers (line_meant line) c.complete.result (kept_as c.args.buffer.now.items zones) c.args.volume.now c.complete.new.volume c.args.numbers.now.items c.args.numbers.now.items) (sym c.in-Complete.is) (c.complete.ensures _ _ c.requires.numbered)

pub returns-in-Reap-clause-answers : goal.returns-in-Reap-clause-answers
returns-in-Reap-clause-answers g c = λ zones. subst (λ (line : Line). Answers (line_meant line) c.reap.result (kept_as c.args.buffer.now.items zones) c.args.volume.now c.reap.new.volume c.args.numbers.now.items c.args.numbers.now.items) (sym c.in-Reap.is) (c.reap.ensures _ _ c.requires.numbered)
