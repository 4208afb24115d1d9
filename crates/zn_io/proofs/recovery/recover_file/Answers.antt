use Rattle.std.proofs.Common.{◌≡◌, false, Ok, sym, ap, ◌∙◌, subst}
use Rattle.std.specs.Prelude.{◌&&◌}
use Rattle.zn_model.specs.declared.files.FileZones.{FileZones}
use Rattle.zn_model.specs.declared.files.Shown.{Shown}
use Rattle.zn_model.specs.Volume.{file_at, shown_at}
use Rattle.zn_model.specs.Recovery.{agrees}
use Rattle.zn_io.specs.Findings.{Finds}
use Rattle.zn_io.proofs.Recoveries.{recovers}
use Rattle.zn_io.proofs.recovery.recover_file.Goals as goal

pub returns-clause-step : goal.returns-clause-step
returns-clause-step g c =
    let D = g.D.Zoned in
    let found = c.in_ok-found.found in
    let step : Finds (file_at c.args.inodes.now c.args.file) (Ok c.in_ok-found.found) (g.D.Zoned.state c.args.dev.now) (g.D.Zoned.state c.find.new.dev) =
    subst (λ (file : FileZones). Finds file (Ok c.in_ok-found.found) (g.D.Zoned.state c.args.dev.now) (g.D.Zoned.state c.find.new.dev)) c.file-zones.ensures c.in_ok-found.ensures.step in
    let differs : (c.args.after_read && agrees c.in_ok-found.found (shown_at c.args.inodes.now c.args.file)) ≡ false =
    ap (λ (shown : Shown). c.args.after_read && agrees c.in_ok-found.found shown) (sym c.shown.ensures) ∙ sym c.agrees_after_read.ensures ∙ c.if-agrees_after_read.false in
    recovers c.args.after_read c.args.policy c.args.file found (D.state c.args.dev.now) (D.state c.find.new.dev) c.args.inodes.now c.recover.new.self step differs c.recover.ensures.recovered
