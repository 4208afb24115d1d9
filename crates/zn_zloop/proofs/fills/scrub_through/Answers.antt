use Rattle.std.proofs.Common.{Err, ap, ◌∙◌}
use Rattle.std.proofs.lemmas.Result.{err_from_is_err_and}
use Rattle.zn_truth.specs.Power.{with_fill_unflushed}
use Rattle.zn_zloop.proofs.Filling.{still_became, then_synced, became_broken}
use Rattle.zn_zloop.proofs.fills.scrub_through.Goals as goal

pub sync-requires : goal.sync-requires
sync-requires g c =
    record { there = still_became c.args.name.now (with_fill_unflushed c.args.fill c.args.flags.now.items) (g.F.Files.state c.args.files.now) (g.F.Files.state c.fill_unflushed.new.files) c.requires.there c.in_ok-fill_unflushed.ensures }

pub returns-in_err-fill_unflushed : goal.returns-in_err-fill_unflushed
returns-in_err-fill_unflushed g c =
    let p = err_from_is_err_and c.from_residual.result c.from_residual.ensures.1 in
    became_broken c.args.name.now (with_fill_unflushed c.args.fill c.args.flags.now.items) c.in_err-fill_unflushed.field-0.0 c.from_residual.result (g.F.Files.state c.args.files.now) (g.F.Files.state c.fill_unflushed.new.files) (p.1 ∙ ap Err p.2) c.in_err-fill_unflushed.ensures

pub returns : goal.returns
returns g c =
    then_synced c.args.name.now (with_fill_unflushed c.args.fill c.args.flags.now.items) c.sync.result (g.F.Files.state c.args.files.now) (g.F.Files.state c.fill_unflushed.new.files) (g.F.Files.state c.sync.new.files) c.in_ok-fill_unflushed.ensures c.sync.ensures.served
