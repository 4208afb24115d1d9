-- What a line that is done leaves, in the words of its reply and of the table behind it.
use Rattle.std.proofs.Common.{◌≡◌, ◌∙◌, ℕ, List, [], Option, Some, None, Result, Ok, Err, true, refl, sym, ap}
use Rattle.std.proofs.lemmas.Option.{same_Some}
use Rattle.zn_lines.specs.Grammar.{reading_of}
use Rattle.zn_lines.specs.Lines.{Line}
use Rattle.zn_lines.specs.Session.{Stepped, line_step}
use Rattle.zn_lines.specs.Table.{Table}
use Rattle.zn_lines.proofs.ToldLines.{line_same, line_still}
use Rattle.zn_run.specs.States.{State}
use Rattle.zn_run.specs.Steps.{LineDone}
use Rattle.zn_base.specs.States.{SinkState}
use Rattle.zn_churn.specs.Churning.{reply_by, table_by}
use Rattle.zn_churn.specs.Lines.{IsAnswered}

either_answered : (line bytes : List ℕ) (reading : Result (Option Line) ℕ) (old new : State) → reading_of line ≡ reading
    → old.machine.table.world.truth.told ≡ true → old.sink.written ≡ Some [] → new.sink.written ≡ Some bytes
    → LineDone reading old new → IsAnswered line bytes old.machine new.machine
either_answered line bytes (Err column) old new is told empty written done = absurd done.means
either_answered line bytes (Ok None) old new is told empty written done =
    let still = done.means in
    record {
      reads = λ column bad. absurd (cc (is, bad));
      reply = same_Some bytes [] (sym written ∙ ap (λ (s : SinkState). s.written) still.sink ∙ empty)
          ∙ sym (ap (λ (r : Result (Option Line) ℕ). reply_by r old.machine.table) is);
      table = still.table ∙ sym (ap (λ (r : Result (Option Line) ℕ). table_by r old.machine.table) is);
      breaks = still.breaks;
      goes_on = record { goes_on = done.goes_on; told = ap (λ (t : Table). t.world.truth.told) still.table ∙ told };
    }
either_answered line bytes (Ok (Some asked)) old new is told empty written done =
    let a = done.means in
    let same : line_step a.given old.machine.table asked ≡ line_step [] old.machine.table asked = line_same a.given old.machine.table asked told in
    let grew : new.sink.written ≡ Some (line_step a.given old.machine.table asked).text = cc (a.reply.grew, empty) in
    record {
      reads = λ column bad. absurd (cc (is, bad));
      reply = same_Some bytes _ (sym written ∙ grew) ∙ ap (λ (s : Stepped). s.text) same
          ∙ sym (ap (λ (r : Result (Option Line) ℕ). reply_by r old.machine.table) is);
      table = a.table ∙ ap (λ (s : Stepped). s.table) same
          ∙ sym (ap (λ (r : Result (Option Line) ℕ). table_by r old.machine.table) is);
      breaks = a.breaks;
      goes_on = record {
        goes_on = done.goes_on;
        told = ap (λ (t : Table). t.world.truth.told) a.table ∙ line_still a.given old.machine.table asked ∙ told;
      };
    }

pub answered : (line bytes : List ℕ) (old new : State) → old.machine.table.world.truth.told ≡ true → old.sink.written ≡ Some []
    → new.sink.written ≡ Some bytes → LineDone (reading_of line) old new → IsAnswered line bytes old.machine new.machine
answered line bytes old new told empty written done = either_answered line bytes (reading_of line) old new refl told empty written done
