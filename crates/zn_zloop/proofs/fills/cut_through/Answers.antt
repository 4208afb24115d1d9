use Rattle.std.proofs.Common.{◌*◌, Err, ap, ◌∙◌}
use Rattle.std.proofs.lemmas.Result.{err_from_is_err_and}
use Rattle.zn_truth.specs.Power.{with_fill}
use Rattle.zn_stand.specs.File.{resized}
use Rattle.zn_zloop.specs.Settled.{synced_with, cut_file}
use Rattle.zn_zloop.proofs.Serving.{map_still_there, map_then}
use Rattle.zn_zloop.proofs.Filling.{cut_long, map_broken}
use Rattle.zn_zloop.proofs.fills.cut_through.Goals as goal

pub fill_through-requires-clause-there : goal.fill_through-requires-clause-there
fill_through-requires-clause-there g c = map_still_there c.args.name.now (λ f. resized f (4096 * c.args.len)) (g.F.Files.state c.args.files.now) (g.F.Files.state c.resize.new.files) c.requires.there c.in_ok-resize.ensures.served

pub fill_through-requires-clause-long : goal.fill_through-requires-clause-long
fill_through-requires-clause-long g c = cut_long c.args.name.now (4096 * c.args.len) (g.F.Files.state c.args.files.now) (g.F.Files.state c.resize.new.files) c.in_ok-resize.ensures.served

pub returns-in_err-resize : goal.returns-in_err-resize
returns-in_err-resize g c =
    let p = err_from_is_err_and c.from_residual.result c.from_residual.ensures.1 in
    map_broken c.args.name.now (λ f. resized f (4096 * c.args.len)) (cut_file c.args.from c.args.len c.args.fill) c.in_err-resize.field-0.0 c.from_residual.result (g.F.Files.state c.args.files.now) (g.F.Files.state c.resize.new.files) (p.1 ∙ ap Err p.2) c.in_err-resize.ensures.served

pub returns : goal.returns
returns g c =
    map_then c.args.name.now (λ f. resized f (4096 * c.args.len)) (synced_with (with_fill c.args.fill c.args.from)) c.fill_through.result
    (g.F.Files.state c.args.files.now) (g.F.Files.state c.resize.new.files) (g.F.Files.state c.fill_through.new.files) c.in_ok-resize.ensures.served c.fill_through.ensures
