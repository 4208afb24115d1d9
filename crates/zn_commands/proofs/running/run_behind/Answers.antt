use Rattle.std.proofs.Common.{◌≡◌, refl, sym, subst, ap₂}
use Rattle.std.specs.Prelude.{option_copied}
use Rattle.zn_run.specs.States.{State, state_of}
use Rattle.zn_run.specs.declared.machine.Step.TheVariants.{Done as done_step, Broken, SinkFault, Memory as starved_step}
use Rattle.zn_session.specs.SessionState.{machine_of}
use Rattle.zn_commands.specs.LineZero.{line_zero, CarriesOut}
use Rattle.zn_commands.proofs.ZeroLaws.{carried_some, carried_none}
use Rattle.zn_commands.proofs.running.run_behind.Goals.{in-Some+in-Done, in_default}
use Rattle.zn_commands.proofs.running.run_behind.Goals as goal

pub returns-in-Broken : goal.returns-in-Broken
returns-in-Broken g c = record {
  step = Broken;
  middle = state_of (machine_of c.carry_out.new.self) (g.K.Sink.state c.carry_out.new.sink);
  carries = carried_some c.args.options c.in-Some.text c.in-Some.is c.in-Broken.ensures;
  follows = record { source = refl; machine = refl; closed = c.end_broken.ensures };
}

pub returns-in-SinkFault : goal.returns-in-SinkFault
returns-in-SinkFault g c = record {
  step = SinkFault;
  middle = state_of (machine_of c.carry_out.new.self) (g.K.Sink.state c.carry_out.new.sink);
  carries = carried_some c.args.options c.in-Some.text c.in-Some.is c.in-SinkFault.ensures;
  follows = record { status = refl; same = refl };
}

pub returns-in-Memory : goal.returns-in-Memory
returns-in-Memory g c = record {
  step = starved_step;
  middle = state_of (machine_of c.carry_out.new.self) (g.K.Sink.state c.carry_out.new.sink);
  carries = carried_some c.args.options c.in-Some.text c.in-Some.is c.in-Memory.ensures;
  follows = record { source = refl; machine = refl; closed = c.end_starved.ensures };
}

pub returns : goal.returns
returns g c =
    let before : State = state_of (machine_of c.args.session.now) (g.K.Sink.state c.args.sink.now) in
    let C : State → Type 0 = λ s. CarriesOut done_step (line_zero (option_copied c.args.options)) before s in
    record {
      step = done_step;
      middle = state_of (machine_of c.match-options.session) (g.K.Sink.state c.match-options.sink);
      carries = elim c.match-options.branch [
        | in-Some+in-Done w ↦
            let same : state_of (machine_of c.match-options.session) (g.K.Sink.state c.match-options.sink) ≡ state_of (machine_of w.carry_out.new.self) (g.K.Sink.state w.carry_out.new.sink) =
            ap₂ (λ s k. state_of (machine_of s) (g.K.Sink.state k)) w.session-is w.sink-is in
            subst C (sym same) (carried_some c.args.options w.in-Some.text w.in-Some.is w.in-Done.ensures)
        | in_default w ↦
            carried_none c.args.options w.in_default.is (ap₂ (λ s k. state_of (machine_of s) (g.K.Sink.state k)) w.session-is w.sink-is)
      ];
      follows = c.run.ensures;
    }
