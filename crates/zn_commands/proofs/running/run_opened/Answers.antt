use Rattle.std.proofs.Common.{refl, subst, inl, inr}
use Rattle.std.specs.Prelude.{option_copied}
use Rattle.zn_device.specs.States.{DeviceState}
use Rattle.zn_run.specs.States.{MachineState, run_of}
use Rattle.zn_session.specs.SessionState.{machine_of}
use Rattle.zn_zloop.specs.Telling.{state_told}
use Rattle.zn_commands.specs.LineZero.{line_zero, RunsBehind}
use Rattle.zn_commands.specs.Devices.{LiesIn}
use Rattle.zn_commands.proofs.running.run_opened.Goals as goal

pub returns-in-Err : goal.returns-in-Err
returns-in-Err g c = λ old files opened. record {
  means = inr (inl (record {
    device = _;
    files = files;
    opened = opened;
    lies = subst (λ (d : DeviceState). LiesIn d (g.F.Files.state c.give_back.result)) c.in-Err.ensures.same c.give_back.ensures;
    source = refl;
    closed = c.end_starved.ensures;
  }));
}

pub returns-in-Ok : goal.returns-in-Ok
returns-in-Ok g c = λ old files opened.
    let device : DeviceState = state_told c.args.device.is_spoilt (g.F.Files.state c.args.device.files) c.args.device.zones c.args.device.kepts.items in
    let after = run_of (machine_of c.run_behind-status.new.session) (g.S.Source.state c.run_behind-status.new.source) (g.K.Sink.state c.run_behind-status.new.sink) in
    let R : MachineState → Type 0 = λ m.
    RunsBehind (line_zero (option_copied c.args.options)) c.run_behind-status.result (run_of m (g.S.Source.state c.args.source.now) (g.K.Sink.state c.args.sink.now)) after in
    record {
      means = inr (inr (record {
        device = device;
        files = files;
        opened = opened;
        machine = machine_of c.run_behind-status.new.session;
        runs = subst R c.in-Ok.ensures.begun c.run_behind-status.ensures;
        lies = c.files_of.ensures;
      }));
    }
