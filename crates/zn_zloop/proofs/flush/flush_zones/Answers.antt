use Rattle.std.proofs.Common.{◌+◌, Ok, Err, List, ℕ, drop, refl, sym, ap, ◌∙◌, subst, arith}
use Rattle.std.proofs.lemmas.List.{drop_all}
use Rattle.std.proofs.lemmas.Result.{err_from_is_err_and}
use Rattle.zn_truth.specs.Orders.{FlushAll, Reply, done}
use Rattle.zn_zone.specs.Machine.{facts}
use Rattle.zn_files.specs.States.{directory}
use Rattle.zn_zloop.specs.Seen.{truth_seen}
use Rattle.zn_zloop.specs.Served.{BreakCause}
use Rattle.zn_zloop.specs.Holding.{IsSoundZloop}
use Rattle.zn_zloop.specs.Following.{Follows}
use Rattle.zn_zloop.proofs.Flushing.{flush_follows, flush_failed, flush_touches}
use Rattle.zn_zloop.proofs.flush.flush_zones.Goals as goal

pub returns-in_err-flush_zone-clause-follows : goal.returns-in_err-flush_zone-clause-follows
returns-in_err-flush_zone-clause-follows g c =
    let p = err_from_is_err_and c.from_residual.result c.from_residual.ensures.1 in
    flush_failed (directory (g.F.Files.state c.args.files.now)) (directory (g.F.Files.state c.flush_zone.new.files)) (facts c.args.zones.now) c.args.kepts.now.items c.flush_zone.new.kepts.items c.args.listed.now.items (drop (c.loop-i.i + 1) c.args.listed.now.items) c.loop-i.kepts.items
    (directory (g.F.Files.state c.loop-i.files)) c.in_err-flush_zone.field-0.0 c.from_residual.result (p.1 ∙ ap Err p.2) c.in_err-flush_zone.ensures.flushes

pub returns-in_err-flush_zone-clause-touches : goal.returns-in_err-flush_zone-clause-touches
returns-in_err-flush_zone-clause-touches g c =
    let p = err_from_is_err_and c.from_residual.result c.from_residual.ensures.1 in
    flush_touches (truth_seen (directory (g.F.Files.state c.args.files.now)) (facts c.args.zones.now) c.args.kepts.now.items) c.from_residual.result (g.F.Files.state c.args.files.now) (g.F.Files.state c.loop-i.files) (g.F.Files.state c.flush_zone.new.files) c.loop-i.invariant.still
    (subst (λ (r : Reply). BreakCause r (g.F.Files.state c.loop-i.files).faults (g.F.Files.state c.flush_zone.new.files).faults) (sym (p.1 ∙ ap Err p.2)) c.in_err-flush_zone.ensures.cause)

pub returns-clause-follows : goal.returns-clause-follows
returns-clause-follows g c =
    let none = drop_all c.loop-i.i c.args.listed.now.items (omega (arith, c.loop-i-test.false)) in
    subst (λ (l : List ℕ). Follows (done (truth_seen (directory (g.F.Files.state c.args.files.now)) (facts c.args.zones.now) c.args.kepts.now.items) FlushAll) (Ok tt) (directory (g.F.Files.state c.loop-i.files)) (facts c.args.zones.now) c.loop-i.kepts.items l) (sym c.clear.ensures.items)
    (flush_follows (directory (g.F.Files.state c.args.files.now)) (directory (g.F.Files.state c.loop-i.files)) (facts c.args.zones.now) c.args.kepts.now.items c.loop-i.kepts.items
    (subst (IsSoundZloop (directory (g.F.Files.state c.loop-i.files)) (facts c.args.zones.now) c.loop-i.kepts.items) none c.loop-i.invariant.device) c.loop-i.invariant.same)

pub returns-clause-touches : goal.returns-clause-touches
returns-clause-touches g c =
    flush_touches (truth_seen (directory (g.F.Files.state c.args.files.now)) (facts c.args.zones.now) c.args.kepts.now.items) (Ok tt) (g.F.Files.state c.args.files.now) (g.F.Files.state c.loop-i.files) (g.F.Files.state c.loop-i.files) c.loop-i.invariant.still
    (record { later = omega arith; broken = λ is. absurd (cc is); whole = λ answered. refl })
